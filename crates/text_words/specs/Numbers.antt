-- The numbers of C that stand in conditions and constants: "Integer constants" of the C standard,
-- in decimal with no needless zero or in hexadecimal, of no more than 64 bits and with no suffix.
-- Octal ones are left out.
use Rattle.std.specs.Prelude.{ℕ, ◌+◌, ◌-◌, ◌*◌, ◌^◌, ◌==◌, nat_le, nat_lt, ◌&&◌, ◌||◌, List, [], ◌∷◌, Option, Some, None, if◌then◌else◌, option_and_then}

-- the number that a digit of up to 16 stands for; 16 for any other byte
abbrev pub digit_of : ℕ → ℕ
digit_of b =
    if nat_le 48 b && nat_le b 57 then b - 48 else
    (if nat_le 97 b && nat_le b 102 then b - 97 + 10 else
    (if nat_le 65 b && nat_le b 70 then b - 65 + 10 else 16))

abbrev pub digit_in : ℕ → ℕ → Option ℕ
digit_in base b = if nat_lt (digit_of b) base then Some (digit_of b) else None

-- a number with one more digit behind it: no more than 64 bits
abbrev pub with_digit : ℕ → ℕ → ℕ → Option ℕ
with_digit value base digit =
    if nat_lt (value * base + digit) (2 ^ 64) then Some (value * base + digit) else None

-- a number with more digits behind it
abbrev pub read_digits : ℕ → ℕ → List ℕ → Option ℕ
read_digits base value [] = Some value
read_digits base value (b ∷ bs) = option_and_then (λ digit. option_and_then (λ longer. read_digits base longer bs) (with_digit value base digit)) (digit_in base b)

-- the digits behind a zero: none, or an x and digits in base 16
abbrev pub behind_zero : List ℕ → Option ℕ
behind_zero [] = Some 0
behind_zero (x ∷ []) = None
behind_zero (x ∷ d ∷ ds) = if x == 120 || x == 88 then read_digits 16 0 (d ∷ ds) else None

-- the number that a text writes
abbrev pub c_number_in : List ℕ → Option ℕ
c_number_in [] = None
c_number_in (b ∷ bs) = if b == 48 then behind_zero bs else read_digits 10 0 (b ∷ bs)

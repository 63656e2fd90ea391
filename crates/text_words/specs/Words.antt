-- Words that several texts share. Numbers are decimal, as GCC's textual RTL and the assembler write
-- them; a symbol is what the GNU assembler takes for one (Using as, "Symbol Names"), as far as this
-- program writes and reads it.
use Rattle.std.specs.Prelude.{ℕ, ℤ, pos, negsuc, nat_lt, nat_le, Bool, ◌&&◌, ◌||◌, not, ◌==◌, List, Option, Some, None, if◌then◌else◌, length}
use Rattle.std.specs.List.{list_all}
use Rattle.std.specs.Str.{bytes_eq}
use Rattle.std.specs.Str.Parse.{signed_digits_value}
use Rattle.std.specs.Fmt.{signed_decimal}

-- a number of 64 signed bits: from -9,223,372,036,854,775,808 to 9,223,372,036,854,775,807
abbrev pub fits_i64 : ℤ → Bool
fits_i64 (pos n) = nat_lt n 9223372036854775808
fits_i64 (negsuc n) = nat_lt n 9223372036854775808

-- The number that a text writes: it is the text that is printed for that number, so it has no
-- needless zero and no plus.
abbrev pub number_in : List ℕ → Option ℤ
number_in text =
    let n = signed_digits_value 10 text in if bytes_eq text (signed_decimal n) &&
    fits_i64 n then Some n else None

-- what may stand in a symbol: no byte below 33 and not 127, a comma, a colon, a parenthesis, a
-- double quote or a backslash
abbrev pub is_symbol_byte : ℕ → Bool
is_symbol_byte b =
    nat_le 33 b && not (b == 127 || b == 44 || b == 58 || b == 40 || b == 41 || b == 34 || b == 92)

-- one byte or more
abbrev pub is_symbol : List ℕ → Bool
is_symbol bytes = nat_lt 0 (length bytes) && list_all is_symbol_byte bytes

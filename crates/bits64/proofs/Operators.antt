-- What holds of each operator: its number fits its width, and goes by the low bits of its numbers, of one number where it takes one, and of a count modulo the width.
use Rattle.std.proofs.Common.{◌≡◌, ℕ, ◌+◌, ◌*◌, ◌-◌, ◌/◌, ◌%◌, ◌^◌, ◌<◌, ◌≤◌, ◌==◌, nat_lt, Bool, true, false, refl, sym, ◌∙◌, ap, arith, Option, Some, None}
use Rattle.std.specs.Prelude.{ℤ, pos, negsuc, ◌-ℤ◌, ◌*ℤ◌, int_div, int_rem, int_lt, if◌then◌else◌, bit_and, bit_or, bit_xor, not, slice_get}
use Rattle.std.specs.Int.{int_shr}
use Rattle.std.proofs.Math.Nat.{add-mod, mod-mod, mod-lt, mod-le, mod-eq_of_lt, div-le_self, div-lt_iff_lt-mul}
use Rattle.std.proofs.lemmas.Nat.{mul-mod, mul-lt, and_mod, or_mod, xor_mod, and_mask, pow_pos}
use lib.Bits.{xor_add_and}
use Rattle.bits64.specs.declared.Width.{Width}
use Rattle.bits64.specs.declared.Width.TheVariants.{W8, W16, W32, W64}
use Rattle.bits64.specs.declared.operator.Relation.{Relation}
use Rattle.bits64.specs.declared.operator.Relation.TheVariants.{Eq, Ne, Lt, Gt, Le, Ge, Ltu, Gtu, Leu, Geu}
use Rattle.bits64.specs.declared.operator.Opaque.{Opaque}
use Rattle.bits64.specs.declared.operator.Opaque.TheVariants.{Mulh, Mulhu, Mulhsu, Div, Udiv, Rem, Urem}
use Rattle.bits64.specs.declared.operator.Operator.{Operator}
use Rattle.bits64.specs.declared.operator.Operator.TheVariants as op
use Rattle.bits64.specs.declared.operator.Taking.TheVariants.{Alone, Counted}
use Rattle.bits64.specs.Words.{bits_of, low, signed, wrapped}
use Rattle.bits64.specs.Operators.{holds, truth, HasEvery, all_opaque, opaque_taking, opaque_index, opaque_number, taking_of, number}

-- ---- numbers fit

some_power : (w : Width) → 0 < 2 ^ bits_of w
some_power w = pow_pos (bits_of w)

pub low_below : (w : Width) (n : ℕ) → low w n < 2 ^ bits_of w
low_below w n = mod-lt n (some_power w)

pub wrapped_below : (w : Width) (z : ℤ) → wrapped w z < 2 ^ bits_of w
wrapped_below w (pos n) = low_below w n
wrapped_below w (negsuc n) = let some : 0 < 2 ^ bits_of w = some_power w in omega (arith, some)

either_below : (w : Width) (b : Bool) (m n : ℕ) → m < 2 ^ bits_of w → n < 2 ^ bits_of w → (if b then m else n) < 2 ^ bits_of w
either_below w true m n p q = p
either_below w false m n p q = q

ones_below : (w : Width) → 2 ^ bits_of w - 1 < 2 ^ bits_of w
ones_below w = let some : 0 < 2 ^ bits_of w = some_power w in omega (arith, some)

within : (w : Width) (m n : ℕ) → m ≤ n → n < 2 ^ bits_of w → m < 2 ^ bits_of w
within w m n p q = omega (arith, p, q)

one_below : (w : Width) → 1 < 2 ^ bits_of w
one_below W8 = omega arith
one_below W16 = omega arith
one_below W32 = omega arith
one_below W64 = omega arith

pub opaque_fits : (o : Opaque) (w : Width) (a b : ℕ) → opaque_number o w a b < 2 ^ bits_of w
opaque_fits Mulh w a b = wrapped_below w _
opaque_fits Mulhu w a b =
    (div-lt_iff_lt-mul (pow_pos (bits_of w))).1 (mul-lt (low w a) (low w b) (2 ^ bits_of w) (2 ^ bits_of w) (low_below w a) (low_below w b))
opaque_fits Mulhsu w a b = wrapped_below w _
opaque_fits Div w a b = either_below w (low w b == 0) _ _ (ones_below w) (wrapped_below w _)
opaque_fits Udiv w a b =
    either_below w (low w b == 0) _ _ (ones_below w) (within w _ _ (div-le_self (low w a) (low w b)) (low_below w a))
opaque_fits Rem w a b = either_below w (low w b == 0) _ _ (low_below w a) (wrapped_below w _)
opaque_fits Urem w a b =
    either_below w (low w b == 0) _ _ (low_below w a) (within w _ _ (mod-le (low w a) (low w b)) (low_below w a))

pub number_fits : (o : Operator) (w : Width) (a b : ℕ) → number o w a b < 2 ^ bits_of w
number_fits op.Add w a b = low_below w _
number_fits op.Sub w a b = low_below w _
number_fits op.Neg w a b = low_below w _
number_fits op.Not w a b = let some : 0 < 2 ^ bits_of w = some_power w in omega (arith, some)
number_fits op.Mul w a b = low_below w _
number_fits op.And w a b = low_below w _
number_fits op.Ior w a b = low_below w _
number_fits op.Xor w a b = low_below w _
number_fits op.Shl w a b = low_below w _
number_fits op.Shr w a b = within w _ _ (div-le_self (low w a) (2 ^ (b % bits_of w))) (low_below w a)
number_fits op.Sar w a b = wrapped_below w _
number_fits (op.Test r) w a b = either_below w (holds r w a b) 1 0 (one_below w) (some_power w)
number_fits (op.Opaque o) w a b = opaque_fits o w a b

pub below : (w : Width) (n : ℕ) → n < 2 ^ bits_of w → n ≡ low w n
below w n less = sym (mod-eq_of_lt less)

-- so it is what is left of it in the width
pub number_is_low : (o : Operator) (w : Width) (a b : ℕ) → number o w a b ≡ low w (number o w a b)
number_is_low o w a b = below w (number o w a b) (number_fits o w a b)

-- ---- by the low bits

pub low_again : (w : Width) (a : ℕ) → low w (low w a) ≡ low w a
low_again w a = mod-mod a (2 ^ bits_of w)

signed_of : Width → ℕ → ℤ
signed_of w n = if nat_lt n (2 ^ (bits_of w - 1)) then pos n else pos n -ℤ pos (2 ^ bits_of w)

signed_again : (w : Width) (a : ℕ) → signed w (low w a) ≡ signed w a
unfolding signed_of
signed_again w a = ap (signed_of w) (low_again w a)

count_again : (w : Width) (b : ℕ) → low w b % bits_of w ≡ b % bits_of w
count_again W8 b = omega arith
count_again W16 b = omega arith
count_again W32 b = omega arith
count_again W64 b = omega arith

both : {A B : Type 0} (f : A → A → B) (a a' b b' : A) → a ≡ a' → b ≡ b' → f a b ≡ f a' b'
both f a a' b b' p q = ap (λ x. f x b) p ∙ ap (f a') q

-- of a function of the two low numbers, and of one of the second and the two signed numbers
by_low : {B : Type 0} (w : Width) (f : ℕ → ℕ → B) (a b : ℕ) → f (low w (low w a)) (low w (low w b)) ≡ f (low w a) (low w b)
by_low w f a b = both f _ _ _ _ (low_again w a) (low_again w b)

by_signed : {B : Type 0} (w : Width) (f : ℕ → ℤ → ℤ → B) (a b : ℕ) → f (low w (low w b)) (signed w (low w a)) (signed w (low w b)) ≡ f (low w b) (signed w a) (signed w b)
by_signed w f a b =
    ap (λ n. f n (signed w (low w a)) (signed w (low w b))) (low_again w b)
    ∙ both (f (low w b)) _ _ _ _ (signed_again w a) (signed_again w b)

pub opaque_low : (o : Opaque) (w : Width) (a b : ℕ) → opaque_number o w (low w a) (low w b) ≡ opaque_number o w a b
opaque_low Mulh w a b = by_signed w (λ n x y. wrapped w (int_shr (x *ℤ y) (bits_of w))) a b
opaque_low Mulhu w a b = by_low w (λ x y. x * y / 2 ^ bits_of w) a b
opaque_low Mulhsu w a b = by_signed w (λ n x y. wrapped w (int_shr (x *ℤ pos n) (bits_of w))) a b
opaque_low Div w a b =
    by_signed w (λ n x y. if n == 0 then 2 ^ bits_of w - 1 else wrapped w (int_div x y)) a b
opaque_low Udiv w a b = by_low w (λ x y. if y == 0 then 2 ^ bits_of w - 1 else x / y) a b
opaque_low Rem w a b =
    ap (λ m. if low w (low w b) == 0 then m else wrapped w (int_rem (signed w (low w a)) (signed w (low w b)))) (low_again w a)
    ∙ by_signed w (λ n x y. if n == 0 then low w a else wrapped w (int_rem x y)) a b
opaque_low Urem w a b = by_low w (λ x y. if y == 0 then x else x % y) a b

pub holds_low : (r : Relation) (w : Width) (a b : ℕ) → holds r w (low w a) (low w b) ≡ holds r w a b
holds_low Eq w a b = by_low w (λ x y. x == y) a b
holds_low Ne w a b = by_low w (λ x y. not (x == y)) a b
holds_low Lt w a b = by_signed w (λ n x y. int_lt x y) a b
holds_low Gt w a b = by_signed w (λ n x y. int_lt y x) a b
holds_low Le w a b = by_signed w (λ n x y. not (int_lt y x)) a b
holds_low Ge w a b = by_signed w (λ n x y. not (int_lt x y)) a b
holds_low Ltu w a b = by_low w (λ x y. nat_lt x y) a b
holds_low Gtu w a b = by_low w (λ x y. nat_lt y x) a b
holds_low Leu w a b = by_low w (λ x y. not (nat_lt y x)) a b
holds_low Geu w a b = by_low w (λ x y. not (nat_lt x y)) a b

-- an operation on bits, whose low bits are those of its low numbers
by_bits : (w : Width) (f : ℕ → ℕ → ℕ) → ((a b : ℕ) → low w (f a b) ≡ f (low w a) (low w b)) → (a b : ℕ) → low w (f (low w a) (low w b)) ≡ low w (f a b)
by_bits w f bits a b = bits (low w a) (low w b) ∙ by_low w f a b ∙ sym (bits a b)

pub number_low : (o : Operator) (w : Width) (a b : ℕ) → number o w (low w a) (low w b) ≡ number o w a b
number_low op.Add w a b = sym (add-mod a b (2 ^ bits_of w))
number_low op.Sub w a b =
    ap (λ n. (low w a + (2 ^ bits_of w - n)) % 2 ^ bits_of w) (low_again w b)
    ∙ add-mod (low w a) (2 ^ bits_of w - low w b) (2 ^ bits_of w)
    ∙ ap (λ n. (n + (2 ^ bits_of w - low w b) % 2 ^ bits_of w) % 2 ^ bits_of w) (low_again w a)
    ∙ sym (add-mod a (2 ^ bits_of w - low w b) (2 ^ bits_of w))
number_low op.Neg w a b = ap (λ n. (0 + (2 ^ bits_of w - n)) % 2 ^ bits_of w) (low_again w a)
number_low op.Not w a b = ap (λ n. 2 ^ bits_of w - 1 - n) (low_again w a)
number_low op.Mul w a b = sym (mul-mod a b (2 ^ bits_of w))
number_low op.And w a b = by_bits w bit_and (λ m n. and_mod m n (bits_of w)) a b
number_low op.Ior w a b = by_bits w bit_or (λ m n. or_mod m n (bits_of w)) a b
number_low op.Xor w a b = by_bits w bit_xor (λ m n. xor_mod m n (bits_of w)) a b
number_low op.Shl w a b =
    ap (λ k. (low w a * 2 ^ k) % 2 ^ bits_of w) (count_again w b)
    ∙ mul-mod (low w a) (2 ^ (b % bits_of w)) (2 ^ bits_of w)
    ∙ ap (λ n. (n * (2 ^ (b % bits_of w) % 2 ^ bits_of w)) % 2 ^ bits_of w) (low_again w a)
    ∙ sym (mul-mod a (2 ^ (b % bits_of w)) (2 ^ bits_of w))
number_low op.Shr w a b = both (λ n k. n / 2 ^ k) _ _ _ _ (low_again w a) (count_again w b)
number_low op.Sar w a b =
    ap (λ z. wrapped w (int_shr z (low w b % bits_of w))) (signed_again w a)
    ∙ ap (λ k. wrapped w (int_shr (signed w a) k)) (count_again w b)
number_low (op.Test r) w a b = ap truth (holds_low r w a b)
number_low (op.Opaque o) w a b = opaque_low o w a b

-- the same of numbers whose low bits are the same
pub number_same : (o : Operator) (w : Width) (a a' b b' : ℕ) → low w a ≡ low w a' → low w b ≡ low w b' → number o w a b ≡ number o w a' b'
number_same o w a a' b b' p q =
    sym (number_low o w a b) ∙ both (number o w) _ _ _ _ p q ∙ number_low o w a' b'

-- ---- of one number, and of a count

pub opaque_alone : (o : Opaque) (w : Width) (a b c : ℕ) → opaque_taking o ≡ Alone → opaque_number o w a b ≡ opaque_number o w a c
opaque_alone Mulh w a b c is = cc
opaque_alone Mulhu w a b c is = cc
opaque_alone Mulhsu w a b c is = cc
opaque_alone Div w a b c is = cc
opaque_alone Udiv w a b c is = cc
opaque_alone Rem w a b c is = cc
opaque_alone Urem w a b c is = cc

pub alone : (o : Operator) (w : Width) (a b c : ℕ) → taking_of o ≡ Alone → number o w a b ≡ number o w a c
alone op.Neg w a b c is = refl
alone op.Not w a b c is = refl
alone (op.Opaque o) w a b c is = opaque_alone o w a b c is
alone op.Shl w a b c is = cc
alone op.Shr w a b c is = cc
alone op.Sar w a b c is = cc
alone _ w a b c is = cc

pub opaque_counted : (o : Opaque) (w : Width) (a b c : ℕ) → opaque_taking o ≡ Counted → b % bits_of w ≡ c % bits_of w → opaque_number o w a b ≡ opaque_number o w a c
opaque_counted Mulh w a b c is same = cc
opaque_counted Mulhu w a b c is same = cc
opaque_counted Mulhsu w a b c is same = cc
opaque_counted Div w a b c is same = cc
opaque_counted Udiv w a b c is same = cc
opaque_counted Rem w a b c is same = cc
opaque_counted Urem w a b c is same = cc

pub counted : (o : Operator) (w : Width) (a b c : ℕ) → taking_of o ≡ Counted → b % bits_of w ≡ c % bits_of w → number o w a b ≡ number o w a c
counted op.Shl w a b c is same = ap (λ k. (a * 2 ^ k) % 2 ^ bits_of w) same
counted op.Shr w a b c is same = ap (λ k. low w a / 2 ^ k) same
counted op.Sar w a b c is same = ap (λ k. wrapped w (int_shr (signed w a) k)) same
counted (op.Opaque o) w a b c is same = opaque_counted o w a b c is same
counted op.Neg w a b c is same = cc
counted op.Not w a b c is same = cc
counted _ w a b c is same = cc

-- ---- the complement is the exclusive or with -1

ones_low : (w : Width) → (2 ^ 64 - 1) % 2 ^ bits_of w ≡ 2 ^ bits_of w - 1
ones_low W8 = refl
ones_low W16 = refl
ones_low W32 = refl
ones_low W64 = refl

xor_ones : (k x : ℕ) → x < 2 ^ k → bit_xor x (2 ^ k - 1) ≡ 2 ^ k - 1 - x
xor_ones k x less =
    let both = xor_add_and x (2 ^ k - 1) in
    let masked : bit_and x (2 ^ k - 1) ≡ x = and_mask x k ∙ mod-eq_of_lt less in
    omega (arith, both, masked, less)

pub complement_is : (w : Width) (a b : ℕ) → number op.Xor w a (2 ^ 64 - 1) ≡ number op.Not w a b
complement_is w a b =
    xor_mod a (2 ^ 64 - 1) (bits_of w) ∙ ap (bit_xor (low w a)) (ones_low w) ∙ xor_ones (bits_of w) (low w a) (low_below w a)

-- ---- the places of those of which nothing is known but their numbers

pub opaque_few : (o : Opaque) → opaque_index o < 60
opaque_few Mulh = omega arith
opaque_few Mulhu = omega arith
opaque_few Mulhsu = omega arith
opaque_few Div = omega arith
opaque_few Udiv = omega arith
opaque_few Rem = omega arith
opaque_few Urem = omega arith

pub has_every : HasEvery
has_every Mulh = refl
has_every Mulhu = refl
has_every Mulhsu = refl
has_every Div = refl
has_every Udiv = refl
has_every Rem = refl
has_every Urem = refl

-- each from its place
pub opaque_at : ℕ → Opaque
opaque_at i = found (slice_get all_opaque i)
  where
    found : Option Opaque → Opaque
    found (Some o) = o
    found None = Mulh

pub opaque_at-index : (o : Opaque) → opaque_at (opaque_index o) ≡ o
unfolding opaque_at
opaque_at-index o = rw (has_every o) refl

pub same_opaque : (o p : Opaque) → opaque_index o ≡ opaque_index p → o ≡ p
same_opaque o p e = sym (opaque_at-index o) ∙ ap opaque_at e ∙ opaque_at-index p

-- Small laws: truths, tests of registers, and proofs in a row.
use Rattle.std.proofs.Common.{◌≡◌, ℕ, ◌||◌, ◌&&◌, arith, Bool, true, false, refl}
use Rattle.std.proofs.lemmas.Bool.Decides.{nat_tests}
use Rattle.std.specs.Ordering.{nat_cmp, eq_by_cmp}

-- ---- truths

pub or_true : (b : Bool) → (b || true) ≡ true
or_true true = refl
or_true false = refl

pub or_none : (b : Bool) → (b || false) ≡ b
or_none true = refl
or_none false = refl

pub or_left : (a b : Bool) → a ≡ true → (a || b) ≡ true
or_left true b is = refl
or_left false b is = absurd (let no : ⊥ = cc in no)

pub or_false : (a b : Bool) → a || b ≡ false → (a ≡ false) × (b ≡ false)
or_false false b none = (refl, none)
or_false true b none = absurd (let no : ⊥ = cc in no)

pub and_none : (b : Bool) → b && false ≡ false
and_none true = refl
and_none false = refl

pub and_right : (a b : Bool) → a && b ≡ true → b ≡ true
and_right true b both = both
and_right false b both = cc

-- ---- registers of maps

pub is_here : (n : ℕ) → eq_by_cmp nat_cmp n n ≡ true
is_here n = grind (arith, nat_tests)

pub is_other : (n k : ℕ) → (k ≡ n → ⊥) → eq_by_cmp nat_cmp n k ≡ false
is_other n k other = grind (arith, nat_tests, other)

-- ---- proofs in a row

infixr 3 ◌also◌
pub ◌also◌ : {A B : Type 0} → A → B → A × B
a also b = (a, b)

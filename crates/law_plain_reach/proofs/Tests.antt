-- Tests of several.
use Rattle.std.proofs.Common.{◌≡◌, Bool, true, false, not, ◌&&◌, ◌||◌, refl}

pub both_true : (p q : Bool) → p ≡ true → q ≡ true → (p && q) ≡ true
both_true true q one other = other
both_true false q one other = cc

pub first_true : (p q : Bool) → p ≡ true → (p || q) ≡ true
first_true true q is = refl
first_true false q is = cc

pub second_true : (p q : Bool) → q ≡ true → (p || q) ≡ true
second_true true q is = refl
second_true false q is = is

pub or_not : (p q : Bool) → p ≡ false → (not p || q) ≡ true
or_not true q is = cc
or_not false q is = refl

pub not_false : (p : Bool) → p ≡ false → not p ≡ true
not_false true is = cc
not_false false is = refl

-- What options that are chosen from, and tested, come to.
use Rattle.std.proofs.Common.{◌≡◌, Bool, true, false, Option, Some, None, refl, ap, subst, ◌∙◌, if◌then◌else◌}
use Rattle.std.specs.Prelude.{option_map, option_and_then}
use Rattle.std.specs.Option.{option_or}
use Rattle.rtx_tree.specs.declared.tree.Rtx.{Rtx}

pub or_some : (a b : Option Rtx) (P : Rtx → Type 0) → ((y : Rtx) → a ≡ Some y → P y) → ((y : Rtx) → b ≡ Some y → P y) → (y : Rtx) → option_or a b ≡ Some y → P y
or_some None b P here there = there
or_some (Some x) b P here there = here

pub or_none : (a b : Option Rtx) → a ≡ None → b ≡ None → option_or a b ≡ None
or_none a b none nor = ap (λ o. option_or o b) none ∙ nor

pub left_none : (a b : Option Rtx) → option_or a b ≡ None → a ≡ None
left_none None b none = refl
left_none (Some x) b none = cc

pub right_none : (a b : Option Rtx) → option_or a b ≡ None → b ≡ None
right_none None b none = none
right_none (Some x) b none = cc

pub and_some : {A B : Type 0} (o : Option A) (f : A → Option B) (P : B → Type 0) → ((a : A) → o ≡ Some a → (y : B) → f a ≡ Some y → P y) → (y : B) → option_and_then f o ≡ Some y → P y
and_some None f P each y is = cc
and_some (Some a) f P each y is = each a refl y is

-- a test passed
pub where_some : (t : Bool) (a : Rtx) (P : Rtx → Type 0) → P a → (y : Rtx) → (if t then Some a else None) ≡ Some y → P y
where_some true a P holds y is = let same : a ≡ y = cc in subst P same holds
where_some false a P holds y is = cc

pub map_none : {A B : Type 0} (f : A → B) (o : Option A) → option_map f o ≡ None → o ≡ None
map_none f None none = refl
map_none f (Some a) none = cc

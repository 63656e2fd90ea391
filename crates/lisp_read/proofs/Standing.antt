-- What holds of the meaning of each tree that has one holds of what is put together from them.
use Rattle.std.proofs.Common.{◌≡◌, ℕ, zero, suc, List, [], ◌∷◌, Some, subst}
use Rattle.std.specs.Prelude.{slice_get}
use Rattle.std.specs.List.{AllByRecursion}
use Rattle.lisp_read.specs.declared.tree.Tree.{Tree}
use Rattle.lisp_read.specs.Parsed.{Parsed, stands, construct, parsed_map, parsed_then, each_parsed}

-- what stands for a tree, where something does
abbrev pub IfStands : {A : Type 0} → (A → Type 0) → Parsed A → Type 0
IfStands P (stands x) = P x
IfStands P (construct place name) = Unit {0}

pub any_stands : {A : Type 0} (P : A → Type 0) → ((x : A) → P x) → (p : Parsed A) → IfStands P p
any_stands P is (stands x) = is x
any_stands P is (construct place name) = tt

pub weaker : {A : Type 0} (P Q : A → Type 0) → ((x : A) → P x → Q x) → (p : Parsed A) → IfStands P p → IfStands Q p
weaker P Q next (stands x) is = next x is
weaker P Q next (construct place name) is = tt

pub map_stands : {A B : Type 0} (P : B → Type 0) (f : A → B) (p : Parsed A) → IfStands (λ x. P (f x)) p → IfStands P (parsed_map f p)
map_stands P f (stands x) is = is
map_stands P f (construct place name) is = tt

pub then_stands : {A B : Type 0} (Q : A → Type 0) (P : B → Type 0) (p : Parsed A) (k : A → Parsed B) → IfStands Q p →
    ((x : A) → Q x → IfStands P (k x)) → IfStands P (parsed_then p k)
then_stands Q P (stands x) k is next = next x is
then_stands Q P (construct place name) k is next = tt

-- each of some trees
pub each_stands : {A : Type 0} (P : A → Type 0) (read : Tree → Parsed A) → ((t : Tree) → IfStands P (read t)) → (trees : List Tree) →
    IfStands (AllByRecursion P) (each_parsed read trees)
each_stands {A = A} P read each [] = tt
each_stands {A = A} P read each (t ∷ trees) =
    then_stands P (AllByRecursion P) (read t) (λ x. parsed_map (λ xs. x ∷ xs) (each_parsed read trees)) (each t)
    (λ x good. map_stands (AllByRecursion P) (λ xs. x ∷ xs) (each_parsed read trees) (with_first x good (each_parsed read trees) (each_stands P read each trees)))
  where
    with_first : (x : A) → P x → (p : Parsed (List A)) → IfStands (AllByRecursion P) p → IfStands (λ xs. AllByRecursion P (x ∷ xs)) p
    with_first x good (stands xs) more = (good, more)
    with_first x good (construct place name) more = tt

pub all_stand : {A : Type 0} (P : A → Type 0) (read : Tree → Parsed A) → ((t : Tree) → IfStands P (read t)) → (trees : List Tree) (xs : List A) →
    each_parsed read trees ≡ stands xs → AllByRecursion P xs
all_stand P read each trees xs is = subst (IfStands (AllByRecursion P)) is (each_stands P read each trees)

pub at_place : {A : Type 0} (P : A → Type 0) (xs : List A) → AllByRecursion P xs → (place : ℕ) (x : A) → slice_get xs place ≡ Some x → P x
at_place P [] all place x at = absurd (let nothing : ⊥ = cc in nothing)
at_place P (y ∷ xs) all zero x at = let same : y ≡ x = cc in subst P same all.0
at_place P (y ∷ xs) all (suc place) x at = at_place P xs all.1 place x at

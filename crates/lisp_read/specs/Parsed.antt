-- What a tree stands for, or the first tree within it that stands for nothing.
use Rattle.std.specs.Prelude.{◌≡◌, ℕ, List, [], ◌∷◌, Option, Some, None, Result, Ok, Err}
use Rattle.rtx_tree.specs.declared.place.Place.{Place}
use Rattle.lisp_read.specs.declared.tree.Tree.{Tree}
use Rattle.lisp_read.specs.declared.refusal.RtlRefusal.{RtlRefusal}
use Rattle.lisp_read.specs.declared.refusal.RtlRefusal.TheVariants as refusal
use Rattle.lisp_read.specs.Shape.{place_of, tree_name}

-- a meaning, or the place and the name of a construct outside the language
pub data Parsed (A : Type 0) : Type 0 where
  stands : A → Parsed A
  construct : Place → List ℕ → Parsed A

-- a tree that is itself outside
abbrev pub outside : {A : Type 0} → Tree → Parsed A
outside t = construct (place_of t) (tree_name t)

-- the tree's meaning, where it has one
abbrev pub or_outside : {A : Type 0} → Tree → Option A → Parsed A
or_outside t (Some x) = stands x
or_outside t None = outside t

abbrev pub parsed_map : {A B : Type 0} → (A → B) → Parsed A → Parsed B
parsed_map f (stands x) = stands (f x)
parsed_map f (construct place name) = construct place name

-- two parts, in the order of the text
abbrev pub parsed_then : {A B : Type 0} → Parsed A → (A → Parsed B) → Parsed B
parsed_then (stands x) k = k x
parsed_then (construct place name) k = construct place name

-- each of some trees, in the order of the text
abbrev pub each_parsed : {A : Type 0} → (Tree → Parsed A) → List Tree → Parsed (List A)
each_parsed read [] = stands []
each_parsed read (t ∷ ts) =
    parsed_then (read t) (λ x. parsed_map (λ xs. x ∷ xs) (each_parsed read ts))

-- a refusal tells the construct; want of memory is free
abbrev pub Refuses : {A : Type 0} → RtlRefusal → Parsed A → Type 0
Refuses (refusal.Construct place name) p = p ≡ construct place name
Refuses refusal.Memory p = Unit {0}

-- what is told is given; a refusal is the one that is told; want of memory is free
abbrev pub Gives : {A : Type 0} → Result A RtlRefusal → Parsed A → Type 0
Gives (Ok x) p = p ≡ stands x
Gives (Err e) p = Refuses e p

-- the refusal of a tree that is itself outside
abbrev pub IsOutside : RtlRefusal → Tree → Type 0
IsOutside (refusal.Construct place name) t = (place ≡ place_of t) × (name ≡ tree_name t)
IsOutside refusal.Memory t = Unit {0}

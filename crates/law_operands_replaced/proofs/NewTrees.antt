-- Trees in which new trees stand in the places of others.
use Rattle.std.proofs.Common.{◌≡◌, if◌then◌else◌, Bool, true, false, List, [], ◌∷◌, refl}
use Rattle.rtx_tree.specs.declared.class.Class.{Class}
use Rattle.rtx_tree.specs.declared.class.Class.TheVariants as class
use Rattle.rtx_tree.specs.declared.tree.Rtx.{Rtx}
use Rattle.rtx_tree.specs.Tree.{head_of, kids_of}
use Rattle.rtl_func.specs.Shapes.{class_at}

abbrev pub is_lowpart_class : Class → Bool
is_lowpart_class class.Lowpart = true
is_lowpart_class _ = false

-- it is the low part of a register
abbrev pub is_lowpart : Rtx → Bool
is_lowpart x = is_lowpart_class (class_at x)

-- it is no low part
abbrev pub is_whole : Rtx → Bool
is_whole x = if is_lowpart x then false else true

pub whole_low : (b : Bool) → (if b then false else true) ≡ true → b ≡ false
whole_low true is = absurd (let no : ⊥ = cc in no)
whole_low false is = refl

mutual
  -- the second is the first with new trees for some trees in it, none of them in a low part
  pub data Becomes (New : Rtx → Rtx → Type 0) : Rtx → Rtx → Type 0 where
    same : (x : Rtx) → Becomes New x x
    new : (x y : Rtx) → New x y → Becomes New x y
    over : (x y : Rtx) → head_of y ≡ head_of x → is_lowpart x ≡ false → AllBecome New (kids_of x) (kids_of y) → Becomes New x y

  pub data AllBecome (New : Rtx → Rtx → Type 0) : List Rtx → List Rtx → Type 0 where
    none : AllBecome New [] []
    next : (x y : Rtx) (xs ys : List Rtx) → Becomes New x y → AllBecome New xs ys → AllBecome New (x ∷ xs) (y ∷ ys)

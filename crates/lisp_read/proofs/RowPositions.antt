-- The positions of the expressions behind a head are as many as the row of its code says, and so many trees stand there.
use Rattle.std.proofs.Common.{◌≡◌, ◌<◌, ◌+◌, ◌==◌, List, [], ◌∷◌, length, take, drop, Bool, true, false, ◌&&◌, Option, Some, None, cond, codes, refl, arith}
use Rattle.std.proofs.lemmas.Bool.Decides.{nat_tests}
use Rattle.std.specs.Prelude.{nat_lt, IfSome, option_and_then}
use Rattle.std.specs.List.{list_all}
use Rattle.rtx_tree.specs.declared.class.Class.{Class}
use Rattle.rtx_tree.specs.declared.class.Class.TheVariants as class
use Rattle.rtx_tree.specs.declared.class.Parts.{Parts}
use Rattle.rtx_tree.specs.declared.class.Parts.TheVariants.{Expressions, Lowpart}
use Rattle.rtx_tree.specs.Code.{parts_of, HasKids}
use Rattle.lisp_read.specs.declared.position.Position.{Position}
use Rattle.lisp_read.specs.declared.position.Position.TheVariants.{Value, Place, Source, Pc, Jump, Inner, Clobbered, Callee, Words, Test, Target}
use Rattle.lisp_read.specs.declared.tree.Tree.{Tree}
use Rattle.lisp_read.specs.Shape.{is_nested, is_word}
use Rattle.lisp_read.specs.Expression.{exactly, at_least, lowpart_parts, comparison_parts, setting_parts, positions_of, if_nested, parts_of_class, is_constant, is_counter}

-- as many as the parts are, and fewer than the items
abbrev pub Fits : Parts → List Tree → List Position → Type 0
Fits parts items ps = HasKids parts (length ps) × (length ps < length items)

exact : (parts : Parts) (qs : List Position) (items : List Tree) → HasKids parts (length qs) → IfSome (exactly qs items) (Fits parts items)
exact parts qs items has = by (length items == length qs + 1) refl
  where
    by : (b : Bool) → (length items == length qs + 1) ≡ b → IfSome (cond b (Some qs) None) (Fits parts items)
    by true is = (has, grind (arith, nat_tests, is))
    by false is = tt

least : (parts : Parts) (qs : List Position) (items : List Tree) → HasKids parts (length qs) → IfSome (at_least qs items) (Fits parts items)
least parts qs items has = by (nat_lt (length qs) (length items)) refl
  where
    by : (b : Bool) → nat_lt (length qs) (length items) ≡ b → IfSome (cond b (Some qs) None) (Fits parts items)
    by true is = (has, grind (arith, nat_tests, is))
    by false is = tt

lowpart : (items : List Tree) → IfSome (lowpart_parts items) (Fits Lowpart items)
lowpart (h ∷ a ∷ offset ∷ []) = by (is_word (codes "0") offset)
  where
    by : (b : Bool) → IfSome (cond b (Some (Inner ∷ [])) None) (Fits Lowpart (h ∷ a ∷ offset ∷ []))
    by true = (refl, omega arith)
    by false = tt
lowpart _ = tt

comparison : (items : List Tree) → IfSome (comparison_parts items) (Fits (Expressions 2) items)
comparison (h ∷ a ∷ b ∷ []) = by (is_constant a && is_constant b)
  where
    by : (t : Bool) → IfSome (cond t None (Some (Value ∷ Value ∷ []))) (Fits (Expressions 2) (h ∷ a ∷ b ∷ []))
    by true = tt
    by false = (refl, omega arith)
comparison _ = tt

setting : (items : List Tree) → IfSome (setting_parts items) (Fits (Expressions 2) items)
setting (h ∷ a ∷ b ∷ []) = by (is_counter a)
  where
    by : (t : Bool) → IfSome (cond t (Some (Pc ∷ Jump ∷ [])) (Some (Place ∷ Source ∷ []))) (Fits (Expressions 2) (h ∷ a ∷ b ∷ []))
    by true = (refl, omega arith)
    by false = (refl, omega arith)
setting _ = tt

pub row_positions : (c : Class) (items : List Tree) → IfSome (positions_of c items) (Fits (parts_of c) items)
row_positions class.Memory items = least (Expressions 1) (Value ∷ []) items refl
row_positions class.Lowpart items = lowpart items
row_positions class.Unary items = exact (Expressions 1) (Value ∷ []) items refl
row_positions class.Extension items = exact (Expressions 1) (Value ∷ []) items refl
row_positions class.Truncation items = exact (Expressions 1) (Value ∷ []) items refl
row_positions class.Binary items = exact (Expressions 2) (Value ∷ Value ∷ []) items refl
row_positions class.Shift items = exact (Expressions 2) (Value ∷ Value ∷ []) items refl
row_positions class.Comparison items = comparison items
row_positions class.Setting items = setting items
row_positions class.Use items = exact (Expressions 1) (Value ∷ []) items refl
row_positions class.Clobber items = exact (Expressions 1) (Clobbered ∷ []) items refl
row_positions class.Call items = exact (Expressions 2) (Callee ∷ Words ∷ []) items refl
row_positions class.Return items = exact (Expressions 0) [] items refl
row_positions class.Counter items = exact (Expressions 0) [] items refl
row_positions class.Branch items = exact (Expressions 3) (Test ∷ Target ∷ Pc ∷ []) items refl
row_positions class.Scratch items = exact (Expressions 0) [] items refl
row_positions _ items = tt

pub row_parts : (c : Class) (items : List Tree) → IfSome (parts_of_class c items) (Fits (parts_of c) items)
row_parts c items = nested (positions_of c items) (row_positions c items)
  where
    by : (b : Bool) (ps : List Position) → Fits (parts_of c) items ps → IfSome (cond b (Some ps) None) (Fits (parts_of c) items)
    by true ps fits = fits
    by false ps fits = tt

    nested : (o : Option (List Position)) → IfSome o (Fits (parts_of c) items) → IfSome (option_and_then (if_nested items) o) (Fits (parts_of c) items)
    nested None fits = tt
    nested (Some ps) fits = by (list_all is_nested (take (length ps) (drop 1 items))) ps fits

-- The patterns of a shape that are tried: a0 is set, a1 and a2 are read, and 8 is the label that is
-- jumped to (GCC Internals, "RTL Expressions for Arithmetic", "Comparison Operations", "Side Effect
-- Expressions").
use Rattle.std.specs.Prelude.{pos, List, [], ◌∷◌, ◌++◌, map}
use Rattle.std.specs.List.{flat_map}
use Rattle.rtx_tree.specs.declared.code.Code.{Code}
use Rattle.rtx_tree.specs.declared.code.Code.TheVariants as code
use Rattle.rtx_tree.specs.declared.code.Mode.{Mode}
use Rattle.rtx_tree.specs.declared.code.Mode.TheVariants.{Void, SI}
use Rattle.rtx_tree.specs.declared.tree.Rtx.{Rtx}
use Rattle.rtx_tree.specs.Tree.{leaf_of, node_of, const_of}
use Rattle.rtx_tree.specs.Patterns.{set_rtx, label_rtx, return_rtx}
use Rattle.plain_shape.specs.declared.shape.Part.{Part}
use Rattle.plain_shape.specs.declared.shape.Part.TheVariants as part
use Rattle.plain_shape.specs.declared.shape.Source.{Source}
use Rattle.plain_shape.specs.declared.shape.Source.TheVariants as source
use Rattle.plain_shape.specs.declared.shape.Shape.{Shape}
use Rattle.plain_shape.specs.declared.shape.Shape.TheVariants as shape
use Rattle.lint_functions.specs.Operands.{operands_of}

-- ---- values

abbrev pub unary : Code → Mode → Rtx → Rtx
unary c mode x = node_of c mode (x ∷ [])

abbrev pub binary : Code → Mode → Rtx → Rtx → Rtx
binary c mode x y = node_of c mode (x ∷ y ∷ [])

-- each of some with each of others
abbrev pub binaries : Code → Mode → List Rtx → List Rtx → List Rtx
binaries c mode firsts seconds = flat_map (λ x. map (binary c mode x) seconds) firsts

abbrev pub comparison_codes : List Code
comparison_codes =
    code.Eq ∷ code.Ne ∷ code.Lt ∷ code.Le ∷ code.Gt ∷ code.Ge ∷ code.Ltu ∷ code.Leu ∷ code.Gtu ∷ code.Geu ∷ []

-- the comparisons, in a mode, of a register in another with what it is compared with
abbrev pub comparisons : Mode → Mode → List Rtx
comparisons to from = flat_map (λ c. binaries c to (operands_of (part.Register from) 11) (operands_of (part.RegisterOrConstant from) 12)) comparison_codes

-- (call (mem:SI PLACE) (const_int 0))
abbrev pub call_rtx : Rtx → Rtx
call_rtx place = binary code.Call Void (unary code.Mem SI place) (const_of (pos 0))

abbrev pub calls : Part → List Rtx
calls p = map call_rtx (operands_of p 11)

abbrev pub values_of : Source → List Rtx
values_of (source.Only p) = operands_of p 11
values_of (source.Unary c mode p) = map (unary c mode) (operands_of p 11)
values_of (source.Binary c mode first second) =
    binaries c mode (operands_of first 11) (operands_of second 12)
values_of (source.Comparison to from) = comparisons to from
values_of (source.Call p) = calls p

-- ---- patterns

-- a place that is set to a value
abbrev pub set_to : Rtx → Rtx → Rtx
set_to value place = set_rtx place value

-- a place is set to each value, and each other place to the first value
abbrev pub sets_of : Rtx → List Rtx → List Rtx → List Rtx
sets_of place others [] = []
sets_of place others (value ∷ values) =
    map (set_rtx place) (value ∷ values) ++ map (set_to value) others

-- the first place is set to each value, and each other place to the first value
abbrev pub sets : List Rtx → List Rtx → List Rtx
sets [] values = []
sets (place ∷ others) values = sets_of place others values

abbrev pub pc_rtx : Rtx
pc_rtx = leaf_of code.Pc Void (pos 0)

-- (set (pc) (if_then_else TEST (label_ref 8) (pc)))
abbrev pub branch_rtx : Rtx → Rtx
branch_rtx test = set_rtx pc_rtx (node_of code.IfThenElse Void (test ∷ label_rtx 8 ∷ pc_rtx ∷ []))

-- the patterns of a shape that are tried
abbrev pub patterns_of : Shape → List Rtx
patterns_of (shape.Set target source) = sets (operands_of target 10) (values_of source)
patterns_of shape.Jump = set_rtx pc_rtx (label_rtx 8) ∷ []
patterns_of (shape.Branch mode) = map branch_rtx (comparisons Void mode)
patterns_of shape.Return = return_rtx ∷ []
patterns_of (shape.Call p) = calls p
patterns_of (shape.Use p) = map (unary code.Use Void) (operands_of p 10)
patterns_of (shape.Clobber p) = map (unary code.Clobber Void) (operands_of p 10)

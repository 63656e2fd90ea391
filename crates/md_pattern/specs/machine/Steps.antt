-- A pattern as the code reads it, for the contracts of private functions alone: what a list begins
-- with, the expressions in it, and what is made of both.
use Rattle.std.specs.Prelude.{ℕ, List, [], ◌∷◌, ◌++◌, ◌==◌, Option, Some, None, Result, Ok, Err, if◌then◌else◌, take, drop, length}
use Rattle.rtx_tree.specs.declared.code.Code.{Code}
use Rattle.rtx_tree.specs.declared.code.Mode.{Mode}
use Rattle.rtx_tree.specs.declared.class.Parts.{Parts}
use Rattle.rtx_tree.specs.declared.class.Parts.TheVariants as parts
use Rattle.rtx_tree.specs.declared.constants.Constant.{Constant}
use Rattle.lisp_read.specs.declared.tree.Tree.{Tree}
use Rattle.lisp_read.specs.Shape.{atom_of, items_of, vector_of, is_vector}
use Rattle.lisp_read.specs.Head.{code_of_head, mode_of_head}
use Rattle.md_pattern.specs.declared.reason.Reason.{Reason}
use Rattle.md_pattern.specs.declared.reason.Reason.TheVariants as reason
use Rattle.md_pattern.specs.declared.operand.Operand.{Operand}
use Rattle.md_pattern.specs.declared.pattern.Head.{Head}
use Rattle.md_pattern.specs.declared.pattern.Pattern.{Pattern}
use Rattle.md_pattern.specs.declared.pattern.Patterns.{Patterns}
use Rattle.md_pattern.specs.Reason.{judged_with}
use Rattle.md_pattern.specs.Operand.{numbered, predicated, operand_in, scratch_in, dup_in}
use Rattle.md_pattern.specs.Pattern.{node_with, register_by, number_by, symbol_by, word_in, operand_by, is_lowpart}

-- one more behind them
abbrev pub added : Patterns → Pattern → Patterns
added ps p = record { trees = ps.trees ++ p.tree ∷ []; texts = ps.texts ++ p.texts }

-- ---- the head

abbrev pub head_with : Option Code → Option Mode → Result Head Reason
head_with None m = Err reason.Code
head_with (Some c) m = Ok (record { code = c; mode = m })

abbrev pub head_in : Option (List ℕ) → Result Head Reason
head_in None = Err reason.Parts
head_in (Some text) = head_with (code_of_head text) (mode_of_head text)

abbrev pub head_at : List Tree → Result Head Reason
head_at (word ∷ ts) = head_in (atom_of word)
head_at [] = Err reason.Parts

abbrev pub head_of : Tree → Result Head Reason
head_of t = head_at (items_of t)

abbrev pub behind_head : Tree → List Tree
behind_head t = drop 1 (items_of t)

-- ---- the expressions behind a code

abbrev pub elements_in : Tree → Option (List Tree)
elements_in t = if is_vector t then Some (vector_of t) else None

abbrev pub lowpart_in : List Tree → Option (List Tree)
lowpart_in ts = if is_lowpart ts then Some (take 1 ts) else None

abbrev pub counted_in : ℕ → List Tree → Option (List Tree)
counted_in n ts = if length ts == n then Some ts else None

-- a vector, and nothing behind it
abbrev pub first_vector : List Tree → Option (List Tree)
first_vector (v ∷ []) = elements_in v
first_vector _ = None

abbrev pub second_vector : List Tree → Option (List Tree)
second_vector (n ∷ v ∷ []) = elements_in v
second_vector _ = None

abbrev pub third_vector : List Tree → Option (List Tree)
third_vector (n ∷ p ∷ v ∷ []) = elements_in v
third_vector _ = None

abbrev pub inner : Parts → List Tree → Option (List Tree)
inner parts.Lowpart ts = lowpart_in ts
inner (parts.Expressions n) ts = counted_in n ts
inner parts.Vector ts = first_vector ts
inner parts.Operator ts = third_vector ts
inner parts.OperatorDup ts = second_vector ts
inner _ ts = Some []

-- ---- what is made

abbrev pub operator_in : List Tree → Option Operand
operator_in (n ∷ p ∷ v ∷ []) = predicated n p
operator_in _ = None

abbrev pub operator_dup_in : List Tree → Option Operand
operator_dup_in (n ∷ v ∷ []) = numbered n
operator_dup_in _ = None

-- the operand of a `match` code
abbrev pub operand_behind : Parts → List Tree → Option Operand
operand_behind parts.Operand ts = operand_in ts
operand_behind parts.Scratch ts = scratch_in ts
operand_behind parts.Dup ts = dup_in ts
operand_behind parts.Operator ts = operator_in ts
operand_behind parts.OperatorDup ts = operator_dup_in ts
operand_behind _ ts = None

-- a register, a number or a symbol
abbrev pub leaf : List Constant → Result Mode Reason → Parts → List Tree → Result Pattern Reason
leaf constants m parts.Register ts = register_by constants m (word_in ts)
leaf constants m parts.Number ts = number_by m constants ts
leaf constants m _ ts = symbol_by m ts

-- what stands behind a code, by the expressions in it
abbrev pub made : List Constant → Code → Result Mode Reason → Parts → List Tree →
    Result Patterns Reason → Result Pattern Reason
made constants c m parts.Register ts kids = leaf constants m parts.Register ts
made constants c m parts.Number ts kids = leaf constants m parts.Number ts
made constants c m parts.Symbol ts kids = leaf constants m parts.Symbol ts
made constants c m parts.Lowpart ts kids = judged_with (node_with c) m kids
made constants c m (parts.Expressions n) ts kids = judged_with (node_with c) m kids
made constants c m parts.Vector ts kids = judged_with (node_with c) m kids
made constants c m p ts kids = operand_by c m (operand_behind p ts) kids

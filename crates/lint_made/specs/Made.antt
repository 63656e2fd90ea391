-- The operands that a choice gives the placeholders of a pattern, and the instruction that is made
-- of them: GCC Internals, "RTL Template".
use Rattle.std.specs.Prelude.{ℕ, ◌+◌, ℤ, pos, negsuc, Bool, true, false, List, [], ◌∷◌, Option, Some, None, option_map, option_and_then, if◌then◌else◌, slice_get, slice_set}
use Rattle.std.specs.List.{flat_map}
use Rattle.rtx_tree.specs.declared.code.Code.{Code}
use Rattle.rtx_tree.specs.declared.code.Code.TheVariants.{MatchOperator}
use Rattle.rtx_tree.specs.declared.tree.Rtx.{Rtx}
use Rattle.rtx_tree.specs.Tree.{head_of}
use Rattle.rtx_tree.specs.Operands.{put_at}
use Rattle.md_match.specs.Pattern.{Ops, placeholders, gives, instantiated, operand_of}
use Rattle.lint_choices.specs.declared.change.Change.{Change}
use Rattle.lint_choices.specs.declared.change.Change.TheVariants as change
use Rattle.lint_made.specs.declared.candidate.Candidate.{Candidate}
use Rattle.lint_made.specs.Candidates.{tree_with}

-- the placeholders of a pattern that give operands, from the left, an operator before those in its
-- parts
abbrev pub giver_list : Rtx → List Rtx
giver_list p = if gives (head_of p).code then p ∷ [] else []

abbrev pub givers : Rtx → List Rtx
givers pattern = flat_map giver_list (placeholders pattern)

-- ---- picks

-- which candidate each operand has, in a choice that differs so from some picks
abbrev pub picks_in : Change → List ℕ → List ℕ
picks_in (change.One operand candidate) picks = slice_set picks operand candidate
picks_in (change.Two first candidate second other) picks =
    slice_set (slice_set picks first candidate) second other
picks_in _ picks = picks

-- ---- operands

-- an operand put at a placeholder's number; no operand has a negative one
abbrev pub put_numbered : Ops → ℤ → Rtx → Ops
put_numbered operands (pos k) x = put_at operands k x
put_numbered operands (negsuc k) x = operands

abbrev pub put_option : Ops → ℤ → Option Rtx → Ops
put_option operands number None = operands
put_option operands number (Some x) = put_numbered operands number x

-- the tree of a candidate that is picked, over a register; none where a pick names no candidate
abbrev pub tree_of : List Candidate → ℕ → ℕ → Option Rtx
tree_of cs pick reg = option_map (tree_with reg) (slice_get cs pick)

-- that of the placeholder at a place among those that give operands
abbrev pub tree_at : List (List Candidate) → List ℕ → List ℕ → ℕ → Option Rtx
tree_at candidates picks regs at =
    option_and_then (λ own. option_and_then (λ pick. option_and_then (λ reg. tree_of own pick reg) (slice_get regs at)) (slice_get picks at)) (slice_get candidates at)

-- the operands by their numbers, those of the placeholders from a place on behind others; an
-- operator's tree has no parts yet
abbrev pub bare_operands : List (List Candidate) → List ℕ → List ℕ → Ops → ℕ → List Rtx → Ops
bare_operands candidates picks regs operands at [] = operands
bare_operands candidates picks regs operands at (p ∷ ps) =
    bare_operands candidates picks regs (put_option operands (head_of p).number (tree_at candidates picks regs at)) (at + 1) ps

abbrev pub is_operator_code : Code → Bool
is_operator_code MatchOperator = true
is_operator_code _ = false

abbrev pub is_operator : Rtx → Bool
is_operator p = is_operator_code (head_of p).code

-- what an operand is made of: an operator's is the whole expression in its place, and any other is
-- its tree, in which a dup may stand
abbrev pub source_of : Ops → Rtx → Option Rtx
source_of bare p = if is_operator p then Some p else operand_of p bare

abbrev pub whole_tree : Ops → Rtx → Option Rtx
whole_tree bare p = option_and_then (λ x. instantiated x bare) (source_of bare p)

-- each operand whole, put behind others
abbrev pub whole_behind : Ops → Ops → List Rtx → Ops
whole_behind bare operands [] = operands
whole_behind bare operands (p ∷ ps) =
    whole_behind bare (put_option operands (head_of p).number (whole_tree bare p)) ps

-- the operands of placeholders, by the candidates that are picked and the registers
abbrev pub operands_by : List Rtx → List (List Candidate) → List ℕ → List ℕ → Ops
operands_by ps candidates picks regs =
    whole_behind (bare_operands candidates picks regs [] 0 ps) [] ps

-- When patterns with a condition match instructions: GCC Internals, "RTL Template" and "Defining
-- Machine-Specific Predicates" (the predicates), and "Example of define_insn" (the condition).
use Rattle.std.specs.Prelude.{◌≡◌, ℕ, Bool, true, false, not, List, if◌then◌else◌}
use Rattle.std.specs.Option.{option_map_or}
use Rattle.std.specs.List.{list_all}
use Rattle.rtx_tree.specs.declared.code.Code.{Code}
use Rattle.rtx_tree.specs.declared.code.Code.TheVariants.{MatchOperand, MatchOperator}
use Rattle.rtx_tree.specs.declared.code.Mode.{Mode}
use Rattle.rtx_tree.specs.declared.tree.Rtx.{Rtx}
use Rattle.rtx_tree.specs.Tree.{head_of}
use Rattle.c_cond.specs.declared.tree.Tree.{Tree}
use Rattle.c_eval.specs.declared.facts.Facts.{Facts}
use Rattle.c_eval.specs.Numbers.{is_zero}
use Rattle.c_eval.specs.Value.{worth, setting}
use Rattle.md_match.specs.Pattern.{Ops, placeholders, operand_of}
use Rattle.md_match.specs.Match.{Matches}

-- the trees that predicates accept in a mode, by the predicates' names
abbrev pub Accepts : Type 0
Accepts = List ℕ → Rtx → Mode → Bool

-- whether a placeholder of this code names a predicate
abbrev pub names_predicate : Code → Bool
names_predicate MatchOperand = true
names_predicate MatchOperator = true
names_predicate _ = false

-- whether the predicate that a placeholder names accepts its operand in the placeholder's mode
abbrev pub is_accepted : Accepts → Ops → Rtx → Bool
is_accepted accepts operands p =
    if names_predicate (head_of p).code then option_map_or (λ x. accepts (head_of p).name x (head_of p).mode) (operand_of p operands) false else true

-- whether the predicate of each placeholder of a pattern does
abbrev pub are_accepted : Accepts → Ops → Rtx → Bool
are_accepted accepts operands pattern =
    list_all (is_accepted accepts operands) (placeholders pattern)

-- whether the predicate of each placeholder of some patterns does
abbrev pub all_accepted : Accepts → Ops → List Rtx → Bool
all_accepted accepts operands patterns = list_all (are_accepted accepts operands) patterns

-- whether the condition is not 0 with these operands
abbrev pub is_met : Accepts → Facts → Tree → Ops → Bool
is_met accepts facts condition operands =
    not (is_zero (worth (setting facts operands accepts) condition))

-- Patterns match as many instructions with these operands, which they share: they have the shape,
-- each predicate accepts its operand, and the condition is not 0.
pub record IsMatch (accepts : Accepts) (facts : Facts) (patterns : List Rtx) (condition : Tree) (insns : List Rtx) (operands : Ops) : Type 0 where
  pub shape : Matches patterns insns operands
  pub accepted : all_accepted accepts operands patterns ≡ true
  pub holds : is_met accepts facts condition operands ≡ true

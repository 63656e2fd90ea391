-- When patterns match expressions, predicates aside: GCC Internals, "RTL Template".
use Rattle.std.specs.Prelude.{◌≡◌, ◌⊎◌, ℕ, suc, true, List, [], ◌∷◌, flat_map, length, Some, IsSome, IfSome}
use Rattle.std.specs.List.{AllByRecursion}
use Rattle.rtx_tree.specs.declared.code.Code.{Code}
use Rattle.rtx_tree.specs.declared.code.Code.TheVariants.{Reg, Scratch, MatchScratch, MatchOperator}
use Rattle.rtx_tree.specs.declared.code.Mode.{Mode}
use Rattle.rtx_tree.specs.declared.code.Mode.TheVariants.{Void}
use Rattle.rtx_tree.specs.declared.tree.Rtx.{Rtx}
use Rattle.rtx_tree.specs.Tree.{head_of}
use Rattle.rtx_tree.specs.Operands.{operand_at}
use Rattle.md_match.specs.Pattern.{Ops, placeholders, is_given, operand_of, instantiated, all_instantiated}

-- a scratch or a register of a mode; no mode accepts every mode
pub record IsScratch (mode : Mode) (x : Rtx) : Type 0 where
  pub code_is : ((head_of x).code ≡ Scratch) ⊎ ((head_of x).code ≡ Reg)
  pub mode_is : (mode ≡ Void) ⊎ ((head_of x).mode ≡ mode)

-- What is asked of a placeholder's operand, by the placeholder's code. An operator's operand is the
-- whole expression that stands in the placeholder's place, and does not agree with it in the head
-- alone.
abbrev pub IsAskedAs : Code → Ops → Rtx → Type 0
IsAskedAs MatchScratch operands x = IfSome (operand_of x operands) (IsScratch (head_of x).mode)
IsAskedAs MatchOperator operands x = operand_of x operands ≡ instantiated x operands
IsAskedAs _ operands x = Unit {0}

-- a placeholder's operand is what the placeholder asks for
abbrev pub IsAsked : Ops → Rtx → Type 0
IsAsked operands x = IsAskedAs (head_of x).code operands x

-- no place of the list is behind the last operand
abbrev pub IsShort : Ops → Type 0
IsShort operands = (k : ℕ) → length operands ≡ suc k → IsSome (operand_at operands k)

-- The operands are as a match of some patterns gives them: each is what its placeholder asks for,
-- and there are no others than those that the patterns give.
pub record Suits (patterns : List Rtx) (operands : Ops) : Type 0 where
  pub asked : AllByRecursion (IsAsked operands) (flat_map placeholders patterns)
  pub given : (k : ℕ) → IsSome (operand_at operands k) → is_given k patterns ≡ true
  pub short : IsShort operands

-- Some patterns match as many expressions with these operands, which they share: the expressions
-- are the patterns with the operands put in.
pub record Matches (patterns insns : List Rtx) (operands : Ops) : Type 0 where
  pub made : all_instantiated patterns operands ≡ Some insns
  pub suits : Suits patterns operands

-- one pattern matches one expression
abbrev pub MatchesOne : Rtx → Rtx → Ops → Type 0
MatchesOne pattern insn operands = Matches (pattern ∷ []) (insn ∷ []) operands

-- How operands are collected, for the contracts of private functions.
use Rattle.std.specs.Prelude.{◌≡◌, ◌⊎◌, ℕ, Bool, true, List, flat_map, Option, Some, None, IsSome, option_map}
use Rattle.std.specs.List.{AllByRecursion, list_any}
use Rattle.rtx_tree.specs.declared.code.Code.{Code}
use Rattle.rtx_tree.specs.declared.code.Code.TheVariants.{MatchScratch, MatchOperator}
use Rattle.rtx_tree.specs.declared.code.Mode.{Mode}
use Rattle.rtx_tree.specs.declared.tree.Rtx.{Rtx}
use Rattle.rtx_tree.specs.Tree.{head_of}
use Rattle.rtx_tree.specs.Operands.{operand_at}
use Rattle.md_match.specs.Pattern.{Ops, placeholders, gives, gives_number, is_given, operand_of, instantiated, all_instantiated}
use Rattle.md_match.specs.Match.{IsAsked, IsScratch, IsShort}

-- the pattern with the operands put in is the expression, and each operand is what its placeholder
-- asks for
pub record Makes (pattern x : Rtx) (operands : Ops) : Type 0 where
  pub made : instantiated pattern operands ≡ Some x
  pub fit : AllByRecursion (IsAsked operands) (placeholders pattern)

-- some patterns with the operands put in are some expressions, one each, and each operand is what
-- its placeholder asks for
pub record MakesAll (patterns xs : List Rtx) (operands : Ops) : Type 0 where
  pub made : all_instantiated patterns operands ≡ Some xs
  pub fit : AllByRecursion (IsAsked operands) (flat_map placeholders patterns)

-- whether a pattern gives an operand with this number
abbrev pub is_given_in : ℕ → Rtx → Bool
is_given_in k pattern = list_any (gives_number k) (placeholders pattern)

-- whether some patterns give an operand with this number
abbrev pub is_given_by : List Rtx → ℕ → Bool
is_given_by patterns k = is_given k patterns

-- the operand that a placeholder names is this expression
abbrev pub Names : Rtx → Rtx → Ops → Type 0
Names pattern x operands = operand_of pattern operands ≡ Some x

-- where a placeholder gives its operand, that is this expression
abbrev pub NamesGiven : Rtx → Rtx → Ops → Type 0
NamesGiven pattern x operands = gives (head_of pattern).code ≡ true → Names pattern x operands

-- the operand that a placeholder names has the head of this expression
abbrev pub NamesHead : Rtx → Rtx → Ops → Type 0
NamesHead pattern x operands = option_map head_of (operand_of pattern operands) ≡ Some (head_of x)

-- an operator's operand is the whole expression; its dup repeats the head
abbrev pub NamesOperator : Code → Rtx → Rtx → Ops → Type 0
NamesOperator MatchOperator pattern x operands = Names pattern x operands
NamesOperator _ pattern x operands = NamesHead pattern x operands

-- a placeholder of a code and a mode asks for such an expression
abbrev pub Asks : Code → Mode → Rtx → Type 0
Asks MatchScratch mode x = IsScratch mode x
Asks _ mode x = Unit {0}

-- what has a tree keeps it
pub record Grows (a b : Ops) : Type 0 where
  pub keeps : (k : ℕ) (x : Rtx) → operand_at a k ≡ Some x → operand_at b k ≡ Some x

-- From old operands new ones are collected: those with the given numbers are there, and whatever
-- grows from the old ones and has the property grows from the new ones.
pub record Collected (given : ℕ → Bool) (P : Ops → Type 0) (old new : Ops) : Type 0 where
  pub keeps : Grows old new
  pub below : (o : Ops) → Grows old o → P o → Grows new o
  pub there : (k : ℕ) → given k ≡ true → IsSome (operand_at new k)
  pub only : (k : ℕ) → IsSome (operand_at new k) → IsSome (operand_at old k) ⊎ (given k ≡ true)
  pub short : IsShort old → IsShort new

-- operands are collected, or no operands have the property
abbrev pub Collects : (ℕ → Bool) → (Ops → Type 0) → Ops → Option Ops → Type 0
Collects given P old None = (o : Ops) → P o → ⊥
Collects given P old (Some new) = Collected given P old new

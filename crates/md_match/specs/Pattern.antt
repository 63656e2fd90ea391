-- Patterns and what they make of operands: GCC Internals, "RTL Template". A pattern is an
-- expression in which placeholders stand for operands: `match_operand`, `match_scratch` and
-- `match_operator`, each of which gives an operand its number, and `match_dup` and `match_op_dup`,
-- which repeat one. A placeholder's `number` is the operand's.
use Rattle.std.specs.Prelude.{ℕ, ℤ, pos, negsuc, Bool, true, false, ◌&&◌, List, [], ◌∷◌, map, flat_map, Option, Some, None, option_map, option_and_then, is_none}
use Rattle.std.specs.List.{list_any}
use Rattle.std.specs.Ordering.{int_eq}
use Rattle.rtx_tree.specs.declared.code.Code.{Code}
use Rattle.rtx_tree.specs.declared.code.Code.TheVariants.{MatchOperand, MatchDup, MatchScratch, MatchOperator, MatchOpDup}
use Rattle.rtx_tree.specs.declared.tree.Rtx.{Rtx}
use Rattle.rtx_tree.specs.declared.tree.Rtx.TheOpen.{Rtx-F}
use Rattle.rtx_tree.specs.declared.tree.Rtx.TheFolds.{fold-Rtx}
use Rattle.rtx_tree.specs.Tree.{RtxHead, head_of, tree_of}
use Rattle.rtx_tree.specs.Operands.{operand_at}
use Rattle.md_match.specs.declared.role.Role.{Role}
use Rattle.md_match.specs.declared.role.Role.TheVariants.{Operand, Operator, Itself}

-- trees by operand number, some of them missing
abbrev pub Ops : Type 0
Ops = List (Option Rtx)

-- ---- the expressions of a pattern

-- what an expression of a pattern stands for, by its code
abbrev pub role_of : Code → Role
role_of MatchOperand = Operand
role_of MatchScratch = Operand
role_of MatchDup = Operand
role_of MatchOperator = Operator
role_of MatchOpDup = Operator
role_of _ = Itself

-- the head of an expression whose kids are seen as something else
abbrev pub layer_head : {A : Type 0} → Rtx-F A → RtxHead
layer_head x = record { code = x.code; mode = x.mode; number = x.number; name = x.name }

-- an expression, and the placeholders in it
pub record Noted : Type 0 where
  pub tree : Rtx
  pub placeholders : List Rtx

-- an operand stands for a whole expression, so nothing in it is looked at
abbrev pub placeholders_as : Role → Rtx → List Rtx → List Rtx
placeholders_as Operand x inside = x ∷ []
placeholders_as Operator x inside = x ∷ inside
placeholders_as Itself x inside = inside

abbrev pub noted_as : Role → Rtx → List Rtx → Noted
noted_as role x inside = record { tree = x; placeholders = placeholders_as role x inside }

abbrev pub noted_step : Rtx-F Noted → Noted
noted_step x = noted_as (role_of x.code) (tree_of (layer_head x) (map (λ (kid : Noted). kid.tree) x.kids)) (flat_map (λ (kid : Noted). kid.placeholders) x.kids)

unfoldable pub noted : Rtx → Noted
noted = fold-Rtx Noted noted_step

-- the placeholders of a pattern from the left, an operator before those in its parts
abbrev pub placeholders : Rtx → List Rtx
placeholders pattern = (noted pattern).placeholders

-- whether a placeholder of this code gives its operand, or repeats one
abbrev pub gives : Code → Bool
gives MatchOperand = true
gives MatchScratch = true
gives MatchOperator = true
gives _ = false

abbrev pub gives_number : ℕ → Rtx → Bool
gives_number k x = gives (head_of x).code && int_eq (head_of x).number (pos k)

-- whether some patterns give an operand with this number
abbrev pub is_given : ℕ → List Rtx → Bool
is_given k patterns = list_any (gives_number k) (flat_map placeholders patterns)

-- ---- the operands put in

-- the operand with a placeholder's number; no operand has a negative one
abbrev pub operand_numbered : Ops → ℤ → Option Rtx
operand_numbered operands (pos k) = operand_at operands k
operand_numbered operands (negsuc k) = None

-- the operand that a placeholder names
abbrev pub operand_of : Rtx → Ops → Option Rtx
operand_of x operands = operand_numbered operands (head_of x).number

-- all of some things, or none where one is missing
abbrev pub all_some : {A : Type 0} → List (Option A) → Option (List A)
all_some [] = Some []
all_some (o ∷ os) = option_and_then (λ x. option_map (λ xs. x ∷ xs) (all_some os)) o

-- An operand is put in whole. For an operator stands the operand's head with the parts that the
-- pattern has there.
abbrev pub instantiated_as : Role → Ops → RtxHead → Option (List Rtx) → Option Rtx
instantiated_as Operand operands h parts = operand_numbered operands h.number
instantiated_as Operator operands h parts = option_and_then (λ x. option_map (tree_of (head_of x)) parts) (operand_numbered operands h.number)
instantiated_as Itself operands h parts = option_map (tree_of h) parts

abbrev pub instantiated_step : Ops → Rtx-F (Option Rtx) → Option Rtx
instantiated_step operands x =
    instantiated_as (role_of x.code) operands (layer_head x) (all_some x.kids)

-- the pattern with the operands put in, or none where one is missing
unfoldable pub instantiated : Rtx → Ops → Option Rtx
instantiated pattern operands = fold-Rtx (Option Rtx) (instantiated_step operands) pattern

-- patterns with the operands put in, or none where one is missing
abbrev pub all_instantiated : List Rtx → Ops → Option (List Rtx)
all_instantiated patterns operands = all_some (map (λ p. instantiated p operands) patterns)

-- whether an operand that the pattern names is missing
abbrev pub is_lacking : Rtx → Ops → Bool
is_lacking pattern operands = list_any (λ x. is_none (operand_of x operands)) (placeholders pattern)

-- What a pattern makes, by what it stands for.
use Rattle.std.proofs.Common.{◌≡◌, List, ◌++◌, map, Option, Some, None, sym, ap, ◌∙◌}
use Rattle.std.specs.Prelude.{option_map, option_and_then}
use Rattle.rtx_tree.specs.declared.tree.Rtx.{Rtx}
use Rattle.rtx_tree.specs.declared.tree.Rtx.TheFolds.{fold_out-Rtx}
use Rattle.rtx_tree.specs.Tree.{head_of, kids_of, tree_of}
use Rattle.md_match.specs.declared.role.Role.{Role}
use Rattle.md_match.specs.declared.role.Role.TheVariants.{Operand, Operator, Itself}
use Rattle.md_match.specs.Pattern.{Ops, role_of, operand_of, all_some, instantiated, instantiated_as, instantiated_step}

-- what patterns make, each
abbrev pub each_made : List Rtx → Ops → Option (List Rtx)
each_made patterns operands = all_some (map (λ p. instantiated p operands) patterns)

pub instantiated_out : (p : Rtx) (o : Ops) → instantiated p o ≡ instantiated_as (role_of (head_of p).code) o (head_of p) (each_made (kids_of p) o)
unfolding instantiated
instantiated_out p o = fold_out-Rtx (Option Rtx) (instantiated_step o) p

by_role : (p : Rtx) (o : Ops) (r : Role) → role_of (head_of p).code ≡ r → instantiated p o ≡ instantiated_as r o (head_of p) (each_made (kids_of p) o)
by_role p o r e = instantiated_out p o ∙ ap (λ (r : Role). instantiated_as r o (head_of p) (each_made (kids_of p) o)) e

pub made_operand : (p : Rtx) (o : Ops) → role_of (head_of p).code ≡ Operand → instantiated p o ≡ operand_of p o
made_operand p o e = by_role p o Operand e

pub made_itself : (p : Rtx) (o : Ops) → role_of (head_of p).code ≡ Itself → instantiated p o ≡ option_map (tree_of (head_of p)) (each_made (kids_of p) o)
made_itself p o e = by_role p o Itself e

-- an operator whose operand is there
pub made_operator : (p : Rtx) (o : Ops) (x : Rtx) → role_of (head_of p).code ≡ Operator → operand_of p o ≡ Some x → instantiated p o ≡ option_map (tree_of (head_of x)) (each_made (kids_of p) o)
made_operator p o x e f = by_role p o Operator e ∙ ap (λ (y : Option Rtx). option_and_then (λ x. option_map (tree_of (head_of x)) (each_made (kids_of p) o)) y) f

-- an operator whose operand is missing
pub made_no_operator : (p : Rtx) (o : Ops) → role_of (head_of p).code ≡ Operator → operand_of p o ≡ None → instantiated p o ≡ None
made_no_operator p o e f = by_role p o Operator e ∙ ap (λ (y : Option Rtx). option_and_then (λ x. option_map (tree_of (head_of x)) (each_made (kids_of p) o)) y) f

-- a list's front put before its rest, where there is one
abbrev pub with_front : List Rtx → Option (List Rtx) → Option (List Rtx)
with_front front rest = option_map (λ xs. front ++ xs) rest

-- an operator's head over what its parts make
pub operator_over : (p : Rtx) (o : Ops) (x : Rtx) (ps : List Rtx) (parts : Option (List Rtx)) (r : Option Rtx) → role_of (head_of p).code ≡ Operator → operand_of p o ≡ Some x →
    parts ≡ each_made ps o → ps ≡ kids_of p → r ≡ option_map (tree_of (head_of x)) parts → r ≡ instantiated p o
operator_over p o x ps parts r e f g k h = h ∙ (ap (option_map (tree_of (head_of x))) (g ∙ ap (λ qs. each_made qs o) k) ∙ sym (made_operator p o x e f))

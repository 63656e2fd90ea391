-- A pattern makes nothing exactly where an operand that it names is missing.
use Rattle.std.proofs.Common.{◌≡◌, Bool, ◌||◌, List, [], ◌∷◌, Option, Some, None, refl, sym, ap, ◌∙◌}
use Rattle.std.specs.Prelude.{option_map, option_and_then, flat_map, is_none}
use Rattle.std.specs.List.{AllByRecursion, list_any}
use Rattle.rtx_tree.specs.declared.tree.Rtx.{Rtx}
use Rattle.rtx_tree.specs.Tree.{head_of, kids_of, tree_of}
use Rattle.md_match.specs.declared.role.Role.{Role}
use Rattle.md_match.specs.declared.role.Role.TheVariants.{Operand, Operator, Itself}
use Rattle.md_match.specs.Pattern.{Ops, role_of, operand_of, instantiated, instantiated_as, placeholders, placeholders_as, is_lacking}
use Rattle.md_match.proofs.Anys.{any_of_both, or_false}
use Rattle.md_match.proofs.RtxInduction.{induction}
use Rattle.md_match.proofs.Placeholders.{placeholders_out}
use Rattle.md_match.proofs.Instantiated.{each_made, instantiated_out}

-- whether the operand of a placeholder is missing
abbrev is_missing : Ops → Rtx → Bool
is_missing o x = is_none (operand_of x o)

front_none : (a : Option Rtx) (more : Option (List Rtx)) → is_none (option_and_then (λ x. option_map (λ xs. x ∷ xs) more) a) ≡ (is_none a || is_none more)
front_none None more = refl
front_none (Some x) None = refl
front_none (Some x) (Some xs) = refl

mapped_none : {A B : Type 0} (f : A → B) (a : Option A) → is_none (option_map f a) ≡ is_none a
mapped_none f None = refl
mapped_none f (Some x) = refl

-- some patterns, of each of which it holds
each_none : (o : Ops) (ps : List Rtx) → AllByRecursion (λ p. is_none (instantiated p o) ≡ is_lacking p o) ps → is_none (each_made ps o) ≡ list_any (is_missing o) (flat_map placeholders ps)
each_none o [] all = refl
each_none o (p ∷ ps) all =
    front_none (instantiated p o) (each_made ps o) ∙
    (ap (λ b. b || is_none (each_made ps o)) all.0 ∙
    (ap (λ b. is_lacking p o || b) (each_none o ps all.1) ∙ sym (any_of_both (is_missing o) (placeholders p) (flat_map placeholders ps))))

operator_none : (a : Option Rtx) (parts : Option (List Rtx)) → is_none (option_and_then (λ x. option_map (tree_of (head_of x)) parts) a) ≡ (is_none a || is_none parts)
operator_none None parts = refl
operator_none (Some x) parts = mapped_none (tree_of (head_of x)) parts

layer_none : (o : Ops) (p : Rtx) (r : Role) → is_none (each_made (kids_of p) o) ≡ list_any (is_missing o) (flat_map placeholders (kids_of p)) →
    is_none (instantiated_as r o (head_of p) (each_made (kids_of p) o)) ≡ list_any (is_missing o) (placeholders_as r p (flat_map placeholders (kids_of p)))
layer_none o p Operand e = or_false (is_missing o p)
layer_none o p Operator e = operator_none (operand_of p o) (each_made (kids_of p) o) ∙ ap (λ b. is_missing o p || b) e
layer_none o p Itself e = mapped_none (tree_of (head_of p)) (each_made (kids_of p) o) ∙ e

none_at : (o : Ops) (p : Rtx) → AllByRecursion (λ p. is_none (instantiated p o) ≡ is_lacking p o) (kids_of p) → is_none (instantiated p o) ≡ is_lacking p o
none_at o p all =
    ap is_none (instantiated_out p o) ∙
    (layer_none o p (role_of (head_of p).code) (each_none o (kids_of p) all) ∙ ap (list_any (is_missing o)) (sym (placeholders_out p)))

pub none_where_lacking : (p : Rtx) (o : Ops) → is_none (instantiated p o) ≡ is_lacking p o
none_where_lacking p o = induction (λ p. is_none (instantiated p o) ≡ is_lacking p o) (none_at o) p

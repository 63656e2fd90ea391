-- The placeholders of a pattern that give operands, by what the pattern stands for.
use Rattle.std.proofs.Common.{◌≡◌, List, [], ◌∷◌, ◌++◌, refl, sym, ap, ◌∙◌, append_assoc}
use Rattle.std.specs.List.{flat_map}
use Rattle.std.proofs.lemmas.List.{append-nil}
use Rattle.std.proofs.lemmas.Grind.{flat_map-append}
use Rattle.rtx_tree.specs.declared.tree.Rtx.{Rtx}
use Rattle.rtx_tree.specs.Tree.{head_of, kids_of}
use Rattle.md_match.specs.declared.role.Role.{Role}
use Rattle.md_match.specs.declared.role.Role.TheVariants.{Operand, Operator, Itself}
use Rattle.md_match.specs.Pattern.{role_of, placeholders, placeholders_as}
use Rattle.md_match.proofs.Placeholders.{placeholders_out}
use Rattle.lint_made.specs.Made.{giver_list, givers}

each_giver : (ps : List Rtx) → flat_map giver_list (flat_map placeholders ps) ≡ flat_map givers ps
each_giver [] = refl
each_giver (p ∷ ps) = flat_map-append giver_list (placeholders p) (flat_map placeholders ps) ∙ ap (λ xs. givers p ++ xs) (each_giver ps)

by_role : (p : Rtx) (r : Role) → role_of (head_of p).code ≡ r → givers p ≡ flat_map giver_list (placeholders_as r p (flat_map placeholders (kids_of p)))
by_role p r e = ap (flat_map giver_list) (placeholders_out p ∙ ap (λ r. placeholders_as r p (flat_map placeholders (kids_of p))) e)

pub operand_pushed : (p : Rtx) (old new : List Rtx) → role_of (head_of p).code ≡ Operand → new ≡ old ++ giver_list p → new ≡ old ++ givers p
operand_pushed p old new e made = made ∙ ap (λ xs. old ++ xs) (sym (by_role p Operand e ∙ append-nil (giver_list p)))

pub operator_pushed : (p : Rtx) (kids old more new : List Rtx) → role_of (head_of p).code ≡ Operator → more ≡ old ++ giver_list p → kids ≡ kids_of p → new ≡ more ++ flat_map givers kids → new ≡ old ++ givers p
operator_pushed p kids old more new e first is second =
    second ∙ rw first (rw is (append_assoc old (giver_list p) (flat_map givers (kids_of p))
    ∙ ap (λ xs. old ++ xs) (sym (by_role p Operator e ∙ ap (λ xs. giver_list p ++ xs) (each_giver (kids_of p))))))

pub itself_pushed : (p : Rtx) (kids old new : List Rtx) → role_of (head_of p).code ≡ Itself → kids ≡ kids_of p → new ≡ old ++ flat_map givers kids → new ≡ old ++ givers p
itself_pushed p kids old new e is made =
    made ∙ rw is (ap (λ xs. old ++ xs) (sym (by_role p Itself e ∙ each_giver (kids_of p))))

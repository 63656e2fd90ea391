-- When a pattern makes an expression, by what the pattern stands for.
use Rattle.std.proofs.Common.{◌≡◌, List, Option, Some, None, refl, sym, ap, subst, ◌∙◌}
use Rattle.std.specs.Prelude.{option_map, flat_map, IfSome}
use Rattle.std.specs.List.{AllByRecursion}
use Rattle.rtx_tree.specs.declared.code.Code.{Code}
use Rattle.rtx_tree.specs.declared.code.Code.TheVariants.{MatchOperator, MatchScratch}
use Rattle.rtx_tree.specs.declared.tree.Rtx.{Rtx}
use Rattle.rtx_tree.specs.Tree.{RtxHead, head_of, kids_of, tree_of}
use Rattle.rtx_tree.proofs.Trees.{head_of-tree, kids_of-tree, tree_of-parts}
use Rattle.md_match.specs.declared.role.Role.{Role}
use Rattle.md_match.specs.declared.role.Role.TheVariants.{Operand, Operator, Itself}
use Rattle.md_match.specs.Pattern.{Ops, role_of, operand_of, instantiated, placeholders, placeholders_as}
use Rattle.md_match.specs.Match.{IsAsked, IsAskedAs, IsScratch}
use Rattle.md_match.specs.machine.Collected.{Makes, MakesAll, Names, NamesHead, NamesOperator, Asks}
use Rattle.md_match.proofs.Placeholders.{placeholders_out}
use Rattle.md_match.proofs.Instantiated.{each_made, made_operand, made_itself, made_operator, made_no_operator}

inside_as : (p : Rtx) (r : Role) → role_of (head_of p).code ≡ r → placeholders p ≡ placeholders_as r p (flat_map placeholders (kids_of p))
inside_as p r e = placeholders_out p ∙ ap (λ (r : Role). placeholders_as r p (flat_map placeholders (kids_of p))) e

-- ---- a tree of a head and parts

-- what a tree of a head and parts has
parts_are : (h : RtxHead) (parts : Option (List Rtx)) (x : Rtx) → option_map (tree_of h) parts ≡ Some x → (h ≡ head_of x) × (parts ≡ Some (kids_of x))
parts_are h None x e = absurd (let none : ⊥ = cc in none)
parts_are h (Some ks) x e =
    let same : tree_of h ks ≡ x = cc in
    (sym (head_of-tree h ks) ∙ ap head_of same, ap Some (sym (kids_of-tree h ks) ∙ ap kids_of same))

of_parts : (h : RtxHead) (parts : Option (List Rtx)) (x : Rtx) → h ≡ head_of x → parts ≡ Some (kids_of x) → option_map (tree_of h) parts ≡ Some x
of_parts h parts x e f = ap (option_map (tree_of h)) f ∙ (ap (λ h. Some (tree_of h (kids_of x))) e ∙ ap Some (tree_of-parts x))

-- ---- an expression that stands for itself

pub itself_makes : (p x : Rtx) (o : Ops) → role_of (head_of p).code ≡ Itself → head_of p ≡ head_of x → MakesAll (kids_of p) (kids_of x) o → Makes p x o
itself_makes p x o e h m = record {
  made = made_itself p o e ∙ of_parts (head_of p) (each_made (kids_of p) o) x h m.made;
  fit = subst (AllByRecursion (IsAsked o)) (sym (inside_as p Itself e)) m.fit;
}

pub itself_head : (p x : Rtx) (o : Ops) → role_of (head_of p).code ≡ Itself → Makes p x o → head_of p ≡ head_of x
itself_head p x o e m = (parts_are (head_of p) (each_made (kids_of p) o) x (sym (made_itself p o e) ∙ m.made)).0

pub itself_parts : (p x : Rtx) (o : Ops) → role_of (head_of p).code ≡ Itself → Makes p x o → MakesAll (kids_of p) (kids_of x) o
itself_parts p x o e m = record {
  made = (parts_are (head_of p) (each_made (kids_of p) o) x (sym (made_itself p o e) ∙ m.made)).1;
  fit = subst (AllByRecursion (IsAsked o)) (inside_as p Itself e) m.fit;
}

-- ---- an operand

-- what a placeholder asks for, and what is asked of its operand
asked : (c : Code) (p x : Rtx) (o : Ops) → operand_of p o ≡ Some x → IsAskedAs c o p → Asks c (head_of p).mode x
asked MatchScratch p x o n fit = subst (λ (y : Option Rtx). IfSome y (IsScratch (head_of p).mode)) n fit
asked _ p x o n fit = tt

fits : (c : Code) (p x : Rtx) (o : Ops) → operand_of p o ≡ Some x → role_of c ≡ Operand → Asks c (head_of p).mode x → IsAskedAs c o p
fits MatchScratch p x o n e asks = subst (λ (y : Option Rtx). IfSome y (IsScratch (head_of p).mode)) (sym n) asks
fits MatchOperator p x o n e asks = absurd (let none : ⊥ = cc in none)
fits _ p x o n e asks = tt

pub operand_makes : (p x : Rtx) (o : Ops) → role_of (head_of p).code ≡ Operand → Names p x o → Asks (head_of p).code (head_of p).mode x → Makes p x o
operand_makes p x o e n asks = record {
  made = made_operand p o e ∙ n;
  fit = subst (AllByRecursion (IsAsked o)) (sym (inside_as p Operand e)) (fits (head_of p).code p x o n e asks, tt);
}

pub operand_named : (p x : Rtx) (o : Ops) → role_of (head_of p).code ≡ Operand → Makes p x o → Names p x o
operand_named p x o e m = sym (made_operand p o e) ∙ m.made

pub operand_asked : (p x : Rtx) (o : Ops) → role_of (head_of p).code ≡ Operand → Makes p x o → Asks (head_of p).code (head_of p).mode x
operand_asked p x o e m =
    let fit : IsAsked o p × Unit {0} = subst (AllByRecursion (IsAsked o)) (inside_as p Operand e) m.fit in
    asked (head_of p).code p x o (operand_named p x o e m) fit.0

-- ---- an operator

-- the operator's operand has the head, and the parts are made
operator_made : (p x : Rtx) (o : Ops) → role_of (head_of p).code ≡ Operator → NamesHead p x o → MakesAll (kids_of p) (kids_of x) o → instantiated p o ≡ Some x
operator_made p x o e n m = by_operand (operand_of p o) refl
  where
    by_operand : (y : Option Rtx) → operand_of p o ≡ y → instantiated p o ≡ Some x
    by_operand None f = absurd (let none : ⊥ = cc in none)
    by_operand (Some y) f =
        let same : head_of y ≡ head_of x = cc in
        made_operator p o y e f ∙ of_parts (head_of y) (each_made (kids_of p) o) x same m.made

names_head : (c : Code) (p x : Rtx) (o : Ops) → NamesOperator c p x o → NamesHead p x o
names_head MatchOperator p x o n = ap (option_map head_of) n
names_head _ p x o n = n

operator_fits : (c : Code) (p x : Rtx) (o : Ops) → role_of c ≡ Operator → NamesOperator c p x o → instantiated p o ≡ Some x → IsAskedAs c o p
operator_fits MatchOperator p x o e n made = n ∙ sym made
operator_fits MatchScratch p x o e n made = absurd (let none : ⊥ = cc in none)
operator_fits _ p x o e n made = tt

pub operator_makes : (p x : Rtx) (o : Ops) → role_of (head_of p).code ≡ Operator → NamesOperator (head_of p).code p x o → MakesAll (kids_of p) (kids_of x) o → Makes p x o
operator_makes p x o e n m =
    let made = operator_made p x o e (names_head (head_of p).code p x o n) m in
    record {
      made = made;
      fit = subst (AllByRecursion (IsAsked o)) (sym (inside_as p Operator e)) (operator_fits (head_of p).code p x o e n made, m.fit);
    }

-- the head and the parts of what an operator makes
operator_is : (p x : Rtx) (o : Ops) → role_of (head_of p).code ≡ Operator → instantiated p o ≡ Some x → NamesHead p x o × (each_made (kids_of p) o ≡ Some (kids_of x))
operator_is p x o e made = by_operand (operand_of p o) refl
  where
    by_operand : (y : Option Rtx) → operand_of p o ≡ y → NamesHead p x o × (each_made (kids_of p) o ≡ Some (kids_of x))
    by_operand None f = absurd (let none : None ≡ Some x = sym (made_no_operator p o e f) ∙ made in let bad : ⊥ = cc in bad)
    by_operand (Some y) f =
        let parts = parts_are (head_of y) (each_made (kids_of p) o) x (sym (made_operator p o y e f) ∙ made) in
        (ap (option_map head_of) f ∙ ap Some parts.0, parts.1)

operator_names : (c : Code) (p x : Rtx) (o : Ops) → role_of c ≡ Operator → IsAskedAs c o p → instantiated p o ≡ Some x → NamesHead p x o → NamesOperator c p x o
operator_names MatchOperator p x o e fit made n = fit ∙ made
operator_names _ p x o e fit made n = n

pub operator_named : (p x : Rtx) (o : Ops) → role_of (head_of p).code ≡ Operator → Makes p x o → NamesOperator (head_of p).code p x o
operator_named p x o e m =
    let fit : IsAsked o p × AllByRecursion (IsAsked o) (flat_map placeholders (kids_of p)) = subst (AllByRecursion (IsAsked o)) (inside_as p Operator e) m.fit in
    operator_names (head_of p).code p x o e fit.0 m.made (operator_is p x o e m.made).0

pub operator_parts : (p x : Rtx) (o : Ops) → role_of (head_of p).code ≡ Operator → Makes p x o → MakesAll (kids_of p) (kids_of x) o
operator_parts p x o e m =
    let fit : IsAsked o p × AllByRecursion (IsAsked o) (flat_map placeholders (kids_of p)) = subst (AllByRecursion (IsAsked o)) (inside_as p Operator e) m.fit in
    record { made = (operator_is p x o e m.made).1; fit = fit.1 }

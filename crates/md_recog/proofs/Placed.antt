-- Whether predicates accept the operands of a pattern that makes an expression, by what the pattern stands for.
use Rattle.std.proofs.Common.{◌≡◌, Bool, true, false, ◌&&◌, List, [], ◌∷◌, ◌++◌, Option, Some, refl, sym, ap, subst, ◌∙◌}
use Rattle.std.specs.Prelude.{flat_map, if◌then◌else◌}
use Rattle.std.specs.Option.{option_map_or}
use Rattle.std.specs.List.{list_all}
use Rattle.rtx_tree.specs.declared.code.Code.{Code}
use Rattle.rtx_tree.specs.declared.code.Code.TheVariants.{MatchOperator, MatchOpDup}
use Rattle.rtx_tree.specs.declared.tree.Rtx.{Rtx}
use Rattle.rtx_tree.specs.Tree.{head_of, kids_of}
use Rattle.md_match.specs.declared.role.Role.{Role}
use Rattle.md_match.specs.declared.role.Role.TheVariants.{Operand, Operator, Itself}
use Rattle.md_match.specs.Pattern.{Ops, role_of, placeholders, placeholders_as, operand_of}
use Rattle.md_match.specs.machine.Collected.{Makes, MakesAll, NamesOperator}
use Rattle.md_match.proofs.Placeholders.{placeholders_out}
use Rattle.md_match.proofs.Nodes.{operand_named, operator_named, operator_parts, itself_head, itself_parts}
use Rattle.md_recog.specs.Match.{Accepts, names_predicate, is_accepted, are_accepted, all_accepted}

all_of_both : {A : Type 0} (f : A → Bool) (xs ys : List A) → list_all f (xs ++ ys) ≡ (list_all f xs && list_all f ys)
all_of_both f [] ys = refl
all_of_both f (x ∷ xs) ys = go (f x) (all_of_both f xs ys)
  where
    go : (b : Bool) → list_all f (xs ++ ys) ≡ (list_all f xs && list_all f ys) → (b && list_all f (xs ++ ys)) ≡ ((b && list_all f xs) && list_all f ys)
    go true e = e
    go false e = refl

and_true : (b : Bool) → (b && true) ≡ b
and_true true = refl
and_true false = refl

-- some patterns are accepted where all their placeholders are
each_accepted : (a : Accepts) (o : Ops) (ps : List Rtx) → list_all (is_accepted a o) (flat_map placeholders ps) ≡ list_all (are_accepted a o) ps
each_accepted a o [] = refl
each_accepted a o (p ∷ ps) = all_of_both (is_accepted a o) (placeholders p) (flat_map placeholders ps) ∙ ap (λ b. are_accepted a o p && b) (each_accepted a o ps)

abbrev accepted_as : Accepts → Ops → Rtx → Role → Bool
accepted_as a o p Operand = is_accepted a o p
accepted_as a o p Operator = is_accepted a o p && list_all (are_accepted a o) (kids_of p)
accepted_as a o p Itself = list_all (are_accepted a o) (kids_of p)

layer : (a : Accepts) (o : Ops) (p : Rtx) (r : Role) → list_all (is_accepted a o) (placeholders_as r p (flat_map placeholders (kids_of p))) ≡ accepted_as a o p r
layer a o p Operand = and_true (is_accepted a o p)
layer a o p Operator = ap (λ b. is_accepted a o p && b) (each_accepted a o (kids_of p))
layer a o p Itself = each_accepted a o (kids_of p)

by_role : (a : Accepts) (o : Ops) (p : Rtx) (r : Role) → role_of (head_of p).code ≡ r → are_accepted a o p ≡ accepted_as a o p r
by_role a o p r e =
    ap (list_all (is_accepted a o)) (placeholders_out p) ∙
    (ap (λ (r : Role). list_all (is_accepted a o) (placeholders_as r p (flat_map placeholders (kids_of p)))) e ∙ layer a o p r)

-- ---- of an expression

-- whether the predicate of a placeholder accepts an expression
abbrev pub takes : Accepts → Rtx → Rtx → Bool
takes a p x = if names_predicate (head_of p).code then a (head_of p).name x (head_of p).mode else true

-- what a test says of a pattern that makes an expression of operands
abbrev pub Tells : Accepts → Rtx → Rtx → Bool → Type 0
Tells a p x b = (o : Ops) → Makes p x o → b ≡ are_accepted a o p

-- and of some patterns that make expressions, one each
abbrev pub TellsAll : Accepts → List Rtx → List Rtx → Bool → Type 0
TellsAll a ps xs b = (o : Ops) → MakesAll ps xs o → b ≡ all_accepted a o ps

named_takes : (a : Accepts) (o : Ops) (p x : Rtx) → operand_of p o ≡ Some x → takes a p x ≡ is_accepted a o p
named_takes a o p x e =
    ap (λ (y : Option Rtx). if names_predicate (head_of p).code then option_map_or (λ x. a (head_of p).name x (head_of p).mode) y false else true) (sym e)

operator_takes : (a : Accepts) (o : Ops) (p x : Rtx) → role_of (head_of p).code ≡ Operator → NamesOperator (head_of p).code p x o → takes a p x ≡ is_accepted a o p
operator_takes a o p x e n = go (head_of p).code refl e
  where
    go : (c : Code) → (head_of p).code ≡ c → role_of c ≡ Operator → takes a p x ≡ is_accepted a o p
    go MatchOperator f e = named_takes a o p x (subst (λ (c : Code). NamesOperator c p x o) f n)
    go MatchOpDup f e =
        let none : names_predicate (head_of p).code ≡ false = ap names_predicate f in
        ap (λ (b : Bool). if b then a (head_of p).name x (head_of p).mode else true) none ∙
        sym (ap (λ (b : Bool). if b then option_map_or (λ x. a (head_of p).name x (head_of p).mode) (operand_of p o) false else true) none)
    go _ f e = absurd (let none : ⊥ = cc in none)

pub operand_accepted : (a : Accepts) (p x : Rtx) (b : Bool) → role_of (head_of p).code ≡ Operand → b ≡ takes a p x → Tells a p x b
operand_accepted a p x b e h o m = h ∙ (named_takes a o p x (operand_named p x o e m) ∙ sym (by_role a o p Operand e))

pub operator_refused : (a : Accepts) (p x : Rtx) → role_of (head_of p).code ≡ Operator → takes a p x ≡ false → Tells a p x false
operator_refused a p x e h o m =
    sym (by_role a o p Operator e ∙ ap (λ b. b && list_all (are_accepted a o) (kids_of p)) (sym (operator_takes a o p x e (operator_named p x o e m)) ∙ h))

pub operator_accepted : (a : Accepts) (p x : Rtx) (ps xs : List Rtx) (b : Bool) → role_of (head_of p).code ≡ Operator → takes a p x ≡ true → ps ≡ kids_of p → xs ≡ kids_of x →
    TellsAll a ps xs b → Tells a p x b
operator_accepted a p x ps xs b e h k l all o m =
    subst (λ qs. b ≡ list_all (are_accepted a o) qs) k
    (all o (subst (λ qs. MakesAll qs xs o) (sym k) (subst (λ ys. MakesAll (kids_of p) ys o) (sym l) (operator_parts p x o e m)))) ∙
    sym (by_role a o p Operator e ∙ ap (λ b. b && list_all (are_accepted a o) (kids_of p)) (sym (operator_takes a o p x e (operator_named p x o e m)) ∙ h))

pub itself_other : (a : Accepts) (p x : Rtx) → role_of (head_of p).code ≡ Itself → (head_of p ≡ head_of x → ⊥) → Tells a p x false
itself_other a p x e never o m = absurd (never (itself_head p x o e m))

pub itself_accepted : (a : Accepts) (p x : Rtx) (ps xs : List Rtx) (b : Bool) → role_of (head_of p).code ≡ Itself → ps ≡ kids_of p → xs ≡ kids_of x →
    TellsAll a ps xs b → Tells a p x b
itself_accepted a p x ps xs b e k l all o m =
    subst (λ qs. b ≡ list_all (are_accepted a o) qs) k
    (all o (subst (λ qs. MakesAll qs xs o) (sym k) (subst (λ ys. MakesAll (kids_of p) ys o) (sym l) (itself_parts p x o e m)))) ∙
    sym (by_role a o p Itself e)

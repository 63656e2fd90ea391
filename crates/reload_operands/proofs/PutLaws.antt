-- What new trees in the places of operands make of a tree, by what the pattern stands for.
use Rattle.std.proofs.Common.{◌≡◌, ℕ, ◌+◌, ◌<◌, ◌≤◌, false, List, [], ◌∷◌, ◌++◌, length, map, drop, get_or, if◌then◌else◌, eqb, sym, ap, ◌∙◌, append_assoc, arith}
use Rattle.std.specs.Prelude.{unwrap_or}
use Rattle.std.proofs.lemmas.Bool.{eq-eqb}
use Rattle.std.proofs.lemmas.List.{append-nil, drop_all, length-map}
use Rattle.rtx_tree.specs.declared.tree.Rtx.{Rtx}
use Rattle.rtx_tree.specs.declared.tree.Rtx.TheFolds.{fold_out-Rtx}
use Rattle.rtx_tree.specs.Tree.{head_of, kids_of, tree_of}
use Rattle.md_match.specs.declared.role.Role.{Role}
use Rattle.md_match.specs.declared.role.Role.TheVariants.{Operand, Operator, Itself}
use Rattle.md_match.specs.Pattern.{Ops, role_of, operand_of}
use Rattle.reload_operands.specs.Put.{each_by, parts_by, put_as, put_step, put}
use Rattle.reload_operands.proofs.Opened.{opened}

abbrev each_put : List Rtx → Ops → List (Rtx → Rtx)
each_put ps news = map (λ p. put p news) ps

pub put_out : (p : Rtx) (news : Ops) (x : Rtx) → put p news x ≡ put_as (role_of (head_of p).code) news (head_of p).number (each_put (kids_of p) news) x
unfolding put
put_out p news x = ap (λ f. f x) (fold_out-Rtx (Rtx → Rtx) (put_step news) p)

by_role : (p : Rtx) (news : Ops) (x : Rtx) (r : Role) → role_of (head_of p).code ≡ r → put p news x ≡ put_as r news (head_of p).number (each_put (kids_of p) news) x
by_role p news x r e = put_out p news x ∙ ap (λ r. put_as r news (head_of p).number (each_put (kids_of p) news) x) e

pub put_operand : (p : Rtx) (news : Ops) (x : Rtx) → role_of (head_of p).code ≡ Operand → put p news x ≡ unwrap_or (operand_of p news) x
put_operand p news x e = by_role p news x Operand e

pub put_operator : (p : Rtx) (news : Ops) (x : Rtx) → role_of (head_of p).code ≡ Operator → put p news x ≡ tree_of (head_of x) (parts_by (each_put (kids_of p) news) (kids_of x))
put_operator p news x e = by_role p news x Operator e

pub put_itself : (p : Rtx) (news : Ops) (x : Rtx) → role_of (head_of p).code ≡ Itself → put p news x ≡ tree_of (head_of x) (parts_by (each_put (kids_of p) news) (kids_of x))
put_itself p news x e = by_role p news x Itself e

-- ---- the parts, one by one

not_as_many : (m n : ℕ) → (m ≡ n → ⊥) → eqb m n ≡ false
not_as_many m n never = grind (arith, never)

pub parts_stay : (ps : List Rtx) (news : Ops) (xs : List Rtx) → (length ps ≡ length xs → ⊥) → xs ≡ parts_by (each_put ps news) xs
parts_stay ps news xs never = sym (ap (λ b. if b then each_by (each_put ps news) xs else xs) (not_as_many (length (each_put ps news)) (length xs) (λ e. never (sym (length-map ps (λ p. put p news)) ∙ e))))

-- the parts made so far, and those behind them
pub record Parts (ps : List Rtx) (news : Ops) (xs made : List Rtx) (i : ℕ) : Type 0 where
  pub goes_on : made ++ each_by (each_put (drop i ps) news) (drop i xs) ≡ parts_by (each_put ps news) xs

pub parts_start : (ps : List Rtx) (news : Ops) (xs : List Rtx) → length ps ≡ length xs → Parts ps news xs [] 0
parts_start ps news xs e = record {
  goes_on = sym (ap (λ b. if b then each_by (each_put ps news) xs else xs) (eq-eqb (length (each_put ps news)) (length xs) (length-map ps (λ p. put p news) ∙ e)));
}

pub parts_next : (ps : List Rtx) (news : Ops) (xs made more : List Rtx) (i : ℕ) (p x r : Rtx) → i < length ps → i < length xs → p ≡ get_or ps i p → x ≡ get_or xs i x → r ≡ put p news x →
    more ≡ made ++ r ∷ [] → Parts ps news xs made i → Parts ps news xs more (i + 1)
parts_next ps news xs made more i p x r h k e f here push goes = record {
  goes_on =
      let rest = each_by (each_put (drop (i + 1) ps) news) (drop (i + 1) xs) in
      let now : each_by (each_put (drop i ps) news) (drop i xs) ≡ r ∷ rest =
      ap (λ qs. each_by (each_put qs news) (drop i xs)) (opened ps i p h e) ∙ (ap (each_by (each_put (p ∷ drop (i + 1) ps) news)) (opened xs i x k f) ∙ ap (λ y. y ∷ rest) (sym here)) in
      ap (λ ys. ys ++ rest) push ∙ (append_assoc made (r ∷ []) rest ∙ (ap (λ ys. made ++ ys) (sym now) ∙ goes.goes_on));
}

pub parts_end : (ps : List Rtx) (news : Ops) (xs made : List Rtx) (i : ℕ) → length ps ≤ i → length xs ≤ i → Parts ps news xs made i → made ≡ parts_by (each_put ps news) xs
parts_end ps news xs made i h k goes =
    let none : each_by (each_put (drop i ps) news) (drop i xs) ≡ [] = ap (λ qs. each_by (each_put qs news) (drop i xs)) (drop_all i ps h) ∙ ap (each_by []) (drop_all i xs k) in
    sym (append-nil made) ∙ (ap (λ ys. made ++ ys) (sym none) ∙ goes.goes_on)

-- the tree's head over parts that were made
pub made_operator : (p : Rtx) (news : Ops) (x : Rtx) (ps xs made : List Rtx) → role_of (head_of p).code ≡ Operator → ps ≡ kids_of p → xs ≡ kids_of x → made ≡ parts_by (each_put ps news) xs → tree_of (head_of x) made ≡ put p news x
made_operator p news x ps xs made e f g m =
    ap (tree_of (head_of x)) (m ∙ (ap (λ qs. parts_by (each_put qs news) xs) f ∙ ap (parts_by (each_put (kids_of p) news)) g)) ∙ sym (put_operator p news x e)

pub made_itself : (p : Rtx) (news : Ops) (x : Rtx) (ps xs made : List Rtx) → role_of (head_of p).code ≡ Itself → ps ≡ kids_of p → xs ≡ kids_of x → made ≡ parts_by (each_put ps news) xs → tree_of (head_of x) made ≡ put p news x
made_itself p news x ps xs made e f g m =
    ap (tree_of (head_of x)) (m ∙ (ap (λ qs. parts_by (each_put qs news) xs) f ∙ ap (parts_by (each_put (kids_of p) news)) g)) ∙ sym (put_itself p news x e)

-- The placeholder that gives an operand, by what a pattern stands for.
use Rattle.std.proofs.Common.{◌≡◌, ℕ, ◌+◌, ◌<◌, Bool, true, false, List, [], ◌∷◌, ◌++◌, length, drop, get_or, Option, Some, None, cond, refl, sym, ap, ◌∙◌, inl, inr}
use Rattle.std.specs.Prelude.{flat_map}
use Rattle.std.specs.List.{find}
use Rattle.std.proofs.lemmas.Bool.{cases_Bool}
use Rattle.rtx_tree.specs.declared.tree.Rtx.{Rtx}
use Rattle.rtx_tree.specs.Tree.{head_of, kids_of}
use Rattle.md_match.specs.declared.role.Role.{Role}
use Rattle.md_match.specs.declared.role.Role.TheVariants.{Operand, Operator, Itself}
use Rattle.md_match.specs.Pattern.{role_of, gives_number, placeholders, placeholders_as}
use Rattle.md_match.proofs.Parts.{opened}
use Rattle.md_match.proofs.Placeholders.{placeholders_out}

abbrev pub giver : Rtx → ℕ → Option Rtx
giver p k = find (gives_number k) (placeholders p)

-- the first of the one list, or else of the other
abbrev pub or_first : Option Rtx → Option Rtx → Option Rtx
or_first (Some x) other = Some x
or_first None other = other

find_both : (f : Rtx → Bool) (xs ys : List Rtx) → find f (xs ++ ys) ≡ or_first (find f xs) (find f ys)
find_both f [] ys = refl
find_both f (x ∷ xs) ys =
    elim (cases_Bool (f x)) [
      | inl t ↦ ap (λ b. cond b (Some x) (find f (xs ++ ys))) t ∙ sym (ap (λ b. or_first (cond b (Some x) (find f xs)) (find f ys)) t)
      | inr n ↦ ap (λ b. cond b (Some x) (find f (xs ++ ys))) n ∙ (find_both f xs ys ∙ sym (ap (λ b. or_first (cond b (Some x) (find f xs)) (find f ys)) n))
    ]

by_role : (p : Rtx) (k : ℕ) (r : Role) → role_of (head_of p).code ≡ r → giver p k ≡ find (gives_number k) (placeholders_as r p (flat_map placeholders (kids_of p)))
by_role p k r e = ap (find (gives_number k)) (placeholders_out p ∙ ap (λ r. placeholders_as r p (flat_map placeholders (kids_of p))) e)

pub operand_here : (p : Rtx) (k : ℕ) → role_of (head_of p).code ≡ Operand → gives_number k p ≡ true → giver p k ≡ Some p
operand_here p k e g = by_role p k Operand e ∙ ap (λ b. cond b (Some p) None) g

pub operand_other : (p : Rtx) (k : ℕ) → role_of (head_of p).code ≡ Operand → gives_number k p ≡ false → giver p k ≡ None
operand_other p k e g = by_role p k Operand e ∙ ap (λ b. cond b (Some p) None) g

pub operator_here : (p : Rtx) (k : ℕ) → role_of (head_of p).code ≡ Operator → gives_number k p ≡ true → giver p k ≡ Some p
operator_here p k e g = by_role p k Operator e ∙ ap (λ b. cond b (Some p) (find (gives_number k) (flat_map placeholders (kids_of p)))) g

pub operator_inside : (p : Rtx) (k : ℕ) → role_of (head_of p).code ≡ Operator → gives_number k p ≡ false → giver p k ≡ find (gives_number k) (flat_map placeholders (kids_of p))
operator_inside p k e g = by_role p k Operator e ∙ ap (λ b. cond b (Some p) (find (gives_number k) (flat_map placeholders (kids_of p)))) g

pub itself_inside : (p : Rtx) (k : ℕ) → role_of (head_of p).code ≡ Itself → giver p k ≡ find (gives_number k) (flat_map placeholders (kids_of p))
itself_inside p k e = by_role p k Itself e

-- ---- patterns, one by one

among_at : (ps : List Rtx) (k i : ℕ) (p : Rtx) → i < length ps → p ≡ get_or ps i p →
    find (gives_number k) (flat_map placeholders (drop i ps)) ≡ or_first (giver p k) (find (gives_number k) (flat_map placeholders (drop (i + 1) ps)))
among_at ps k i p within is = ap (λ qs. find (gives_number k) (flat_map placeholders qs)) (opened ps i p within is) ∙ find_both (gives_number k) (placeholders p) (flat_map placeholders (drop (i + 1) ps))

pub among_found : (ps : List Rtx) (k i : ℕ) (p x : Rtx) (whole : Option Rtx) → i < length ps → p ≡ get_or ps i p → giver p k ≡ Some x →
    find (gives_number k) (flat_map placeholders (drop i ps)) ≡ whole → Some x ≡ whole
among_found ps k i p x whole within is e h = sym (among_at ps k i p within is ∙ ap (λ o. or_first o (find (gives_number k) (flat_map placeholders (drop (i + 1) ps)))) e) ∙ h

pub among_next : (ps : List Rtx) (k i : ℕ) (p : Rtx) (whole : Option Rtx) → i < length ps → p ≡ get_or ps i p → giver p k ≡ None →
    find (gives_number k) (flat_map placeholders (drop i ps)) ≡ whole → find (gives_number k) (flat_map placeholders (drop (i + 1) ps)) ≡ whole
among_next ps k i p whole within is e h = sym (among_at ps k i p within is ∙ ap (λ o. or_first o (find (gives_number k) (flat_map placeholders (drop (i + 1) ps)))) e) ∙ h

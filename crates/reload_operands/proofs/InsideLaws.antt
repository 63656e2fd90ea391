-- Operands inside low parts, by what the pattern stands for.
use Rattle.std.proofs.Common.{◌≡◌, ℕ, ◌+◌, ◌<◌, ◌≤◌, Bool, true, false, ◌||◌, ◌⊎◌, inl, inr, List, [], ◌∷◌, length, map, drop, get_or, min, refl, sym, ap, ◌∙◌, arith}
use Rattle.std.proofs.lemmas.Bool.{cases_lt}
use Rattle.std.proofs.lemmas.List.{drop_all}
use Rattle.rtx_tree.specs.declared.tree.Rtx.{Rtx}
use Rattle.rtx_tree.specs.declared.tree.Rtx.TheFolds.{fold_out-Rtx}
use Rattle.rtx_tree.specs.Tree.{head_of, kids_of}
use Rattle.md_match.specs.declared.role.Role.{Role}
use Rattle.md_match.specs.declared.role.Role.TheVariants.{Operand, Operator, Itself}
use Rattle.md_match.specs.Pattern.{role_of}
use Rattle.reload_operands.specs.Put.{Inside, is_lowpart, any_inside, is_inside, inside_as, inside_step, inside_low}
use Rattle.reload_operands.proofs.Opened.{opened}

pub inside_out : (k : ℕ) (p : Rtx) (inside : Bool) (x : Rtx) → inside_low k p inside x ≡ inside_as k (role_of (head_of p).code) (head_of p).number (map (inside_low k) (kids_of p)) inside x
unfolding inside_low
inside_out k p inside x = ap (λ (f : Inside). f inside x) (fold_out-Rtx Inside (inside_step k) p)

by_role : (k : ℕ) (p : Rtx) (inside : Bool) (x : Rtx) (r : Role) → role_of (head_of p).code ≡ r → inside_low k p inside x ≡ inside_as k r (head_of p).number (map (inside_low k) (kids_of p)) inside x
by_role k p inside x r e = inside_out k p inside x ∙ ap (λ r. inside_as k r (head_of p).number (map (inside_low k) (kids_of p)) inside x) e

pub inside_operand : (k : ℕ) (p : Rtx) (inside : Bool) (x : Rtx) → role_of (head_of p).code ≡ Operand → inside_low k p inside x ≡ is_inside k (head_of p).number inside
inside_operand k p inside x e = by_role k p inside x Operand e

pub inside_operator : (k : ℕ) (p : Rtx) (inside : Bool) (x : Rtx) → role_of (head_of p).code ≡ Operator → inside_low k p inside x ≡ (is_inside k (head_of p).number inside || any_inside (map (inside_low k) (kids_of p)) (inside || is_lowpart x) (kids_of x))
inside_operator k p inside x e = by_role k p inside x Operator e

pub inside_itself : (k : ℕ) (p : Rtx) (inside : Bool) (x : Rtx) → role_of (head_of p).code ≡ Itself → inside_low k p inside x ≡ any_inside (map (inside_low k) (kids_of p)) (inside || is_lowpart x) (kids_of x)
inside_itself k p inside x e = by_role k p inside x Itself e

-- ---- the parts, one by one

-- what is left of them from a place on decides of all
pub record Looks (k : ℕ) (ps : List Rtx) (inside : Bool) (xs : List Rtx) (i : ℕ) : Type 0 where
  pub goes_on : any_inside (map (inside_low k) (drop i ps)) inside (drop i xs) ≡ any_inside (map (inside_low k) ps) inside xs

pub looks_start : (k : ℕ) (ps : List Rtx) (inside : Bool) (xs : List Rtx) → Looks k ps inside xs 0
looks_start k ps inside xs = record { goes_on = refl }

looks_at : (k : ℕ) (ps : List Rtx) (inside : Bool) (xs : List Rtx) (i : ℕ) (p x : Rtx) → i < length ps → i < length xs → p ≡ get_or ps i p → x ≡ get_or xs i x →
    any_inside (map (inside_low k) (drop i ps)) inside (drop i xs) ≡ (inside_low k p inside x || any_inside (map (inside_low k) (drop (i + 1) ps)) inside (drop (i + 1) xs))
looks_at k ps inside xs i p x h l e f =
    ap (λ qs. any_inside (map (inside_low k) qs) inside (drop i xs)) (opened ps i p h e) ∙ ap (any_inside (map (inside_low k) (p ∷ drop (i + 1) ps)) inside) (opened xs i x l f)

pub looks_true : (k : ℕ) (ps : List Rtx) (inside : Bool) (xs : List Rtx) (i : ℕ) (p x : Rtx) → i < length ps → i < length xs → p ≡ get_or ps i p → x ≡ get_or xs i x →
    inside_low k p inside x ≡ true → Looks k ps inside xs i → true ≡ any_inside (map (inside_low k) ps) inside xs
looks_true k ps inside xs i p x h l e f here goes =
    sym (ap (λ b. b || any_inside (map (inside_low k) (drop (i + 1) ps)) inside (drop (i + 1) xs)) here) ∙ (sym (looks_at k ps inside xs i p x h l e f) ∙ goes.goes_on)

pub looks_next : (k : ℕ) (ps : List Rtx) (inside : Bool) (xs : List Rtx) (i : ℕ) (p x : Rtx) → i < length ps → i < length xs → p ≡ get_or ps i p → x ≡ get_or xs i x →
    inside_low k p inside x ≡ false → Looks k ps inside xs i → Looks k ps inside xs (i + 1)
looks_next k ps inside xs i p x h l e f here goes = record {
  goes_on = sym (ap (λ b. b || any_inside (map (inside_low k) (drop (i + 1) ps)) inside (drop (i + 1) xs)) here) ∙ (sym (looks_at k ps inside xs i p x h l e f) ∙ goes.goes_on);
}

none_left : (k : ℕ) (parts : List Inside) (inside : Bool) → any_inside parts inside [] ≡ false
none_left k [] inside = refl
none_left k (part ∷ parts) inside = refl

pub looks_end : (k : ℕ) (ps : List Rtx) (inside : Bool) (xs : List Rtx) (i : ℕ) → (length ps ≤ i) ⊎ (length xs ≤ i) → Looks k ps inside xs i → false ≡ any_inside (map (inside_low k) ps) inside xs
looks_end k ps inside xs i (inl h) goes = sym (ap (λ qs. any_inside (map (inside_low k) qs) inside (drop i xs)) (drop_all i ps h)) ∙ goes.goes_on
looks_end k ps inside xs i (inr h) goes =
    sym (none_left k (map (inside_low k) (drop i ps)) inside) ∙ (sym (ap (any_inside (map (inside_low k) (drop i ps)) inside) (drop_all i xs h)) ∙ goes.goes_on)

pub looks_past : (k : ℕ) (ps : List Rtx) (inside : Bool) (xs : List Rtx) (i : ℕ) → min (length ps) (length xs) ≤ i → Looks k ps inside xs i → false ≡ any_inside (map (inside_low k) ps) inside xs
looks_past k ps inside xs i h goes =
    elim (cases_lt i (length ps)) [
      | inl l ↦ looks_end k ps inside xs i (inr (omega (arith, h))) goes
      | inr l ↦ looks_end k ps inside xs i (inl l) goes
    ]

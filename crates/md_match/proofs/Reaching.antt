-- The loop that collects the operands of some patterns from some expressions, one each.
use Rattle.std.proofs.Common.{◌≡◌, inl, ◌≤◌, ◌<◌, ◌+◌, ℕ, get_or, List, [], ◌∷◌, length, drop, Option, Some, None, sym, subst}
use Rattle.std.specs.Prelude.{flat_map}
use Rattle.std.proofs.lemmas.List.{drop_all}
use Rattle.rtx_tree.specs.declared.tree.Rtx.{Rtx}
use Rattle.md_match.specs.Pattern.{Ops, gives_number, placeholders}
use Rattle.md_match.specs.machine.Collected.{Makes, MakesAll, Collected, Collects, is_given_by, is_given_in}
use Rattle.md_match.proofs.Anys.{any_of_both}
use Rattle.md_match.proofs.Parts.{makes_first, as_many, opened}
use Rattle.md_match.proofs.Collecting.{collects_both}

-- what some patterns and expressions come to
abbrev pub CollectsAll : List Rtx → List Rtx → Ops → Option Ops → Type 0
CollectsAll ps xs old r = Collects (is_given_by ps) (MakesAll ps xs) old r

-- what is inl of them from a place on decides of all
pub record Reaches (ps xs : List Rtx) (start : Ops) (i : ℕ) (ops : Ops) : Type 0 where
  pub goes_on : (r : Option Ops) → CollectsAll (drop i ps) (drop i xs) ops r → CollectsAll ps xs start r

pub other_length : (ps xs : List Rtx) → (length ps ≡ length xs → ⊥) → (o : Ops) → MakesAll ps xs o → ⊥
other_length ps xs never o m = never (as_many ps xs o m)

pub reaches_start : (ps xs : List Rtx) (ops : Ops) → Reaches ps xs ops 0 ops
reaches_start ps xs ops = record { goes_on = λ r c. c }

-- a first pattern, and then the others
first_then : (p x : Rtx) (ps xs : List Rtx) (old more : Ops) (r : Option Ops) → Collected (λ k. is_given_in k p) (Makes p x) old more → CollectsAll ps xs more r → CollectsAll (p ∷ ps) (x ∷ xs) old r
first_then p x ps xs old more r = collects_both (Makes p x) (MakesAll ps xs) (MakesAll (p ∷ ps) (x ∷ xs)) (λ k. is_given_in k p) (is_given_by ps) (is_given_by (p ∷ ps)) old more r
    (makes_first p x ps xs) (λ k. any_of_both (gives_number k) (placeholders p) (flat_map placeholders ps))

-- from a place on, a first pattern and the others
opened_all : (ps xs : List Rtx) (i : ℕ) (p x : Rtx) (old : Ops) (r : Option Ops) → i < length ps → i < length xs → p ≡ get_or ps i p → x ≡ get_or xs i x →
    CollectsAll (p ∷ drop (i + 1) ps) (x ∷ drop (i + 1) xs) old r → CollectsAll (drop i ps) (drop i xs) old r
opened_all ps xs i p x old r h k e f c =
    subst (λ qs. CollectsAll qs (drop i xs) old r) (sym (opened ps i p h e)) (subst (λ ys. CollectsAll (p ∷ drop (i + 1) ps) ys old r) (sym (opened xs i x k f)) c)

pub reaches_next : (ps xs : List Rtx) (start ops more : Ops) (i : ℕ) (p x : Rtx) → i < length ps → i < length xs → p ≡ get_or ps i p → x ≡ get_or xs i x →
    Collected (λ k. is_given_in k p) (Makes p x) ops more → Reaches ps xs start i ops → Reaches ps xs start (i + 1) more
reaches_next ps xs start ops more i p x h k e f c g = record {
  goes_on = λ r d. g.goes_on r (opened_all ps xs i p x ops r h k e f (first_then p x (drop (i + 1) ps) (drop (i + 1) xs) ops more r c d));
}

pub reaches_none : (ps xs : List Rtx) (start ops : Ops) (i : ℕ) (p x : Rtx) → i < length ps → i < length xs → p ≡ get_or ps i p → x ≡ get_or xs i x →
    ((o : Ops) → Makes p x o → ⊥) → Reaches ps xs start i ops → (o : Ops) → MakesAll ps xs o → ⊥
reaches_none ps xs start ops i p x h k e f never g =
    g.goes_on None (opened_all ps xs i p x ops None h k e f (λ o m. never o (makes_first p x (drop (i + 1) ps) (drop (i + 1) xs) o m).0))

none_left : (ops : Ops) → CollectsAll [] [] ops (Some ops)
none_left ops = record {
  keeps = record { keeps = λ k x e. e };
  below = λ o grows m. grows;
  there = λ k e. absurd (let none : ⊥ = cc in none);
  only = λ k s. inl s;
  short = λ s. s;
}

pub reaches_end : (ps xs : List Rtx) (start ops : Ops) (i : ℕ) → length ps ≤ i → length xs ≤ i → Reaches ps xs start i ops → CollectsAll ps xs start (Some ops)
reaches_end ps xs start ops i h k g = g.goes_on (Some ops)
    (subst (λ qs. CollectsAll qs (drop i xs) ops (Some ops)) (sym (drop_all i ps h)) (subst (λ ys. CollectsAll [] ys ops (Some ops)) (sym (drop_all i xs k)) (none_left ops)))

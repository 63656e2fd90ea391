-- Where an instruction is replaced, what stands in front of it and behind it repeats values as before.
use Rattle.std.proofs.Common.{◌≡◌, ⊎_elim, ℕ, ◌+◌, ◌-◌, ◌<◌, ◌≤◌, max, List, [], ◌∷◌, ◌++◌, length, take, drop, refl, sym, ap, subst, ◌∙◌, arith}
use Rattle.std.specs.Prelude.{slice_get}
use Rattle.std.proofs.lemmas.Bool.{cases_lt}
use Rattle.std.proofs.lemmas.Option.{slice_get_within}
use Rattle.rtx_tree.specs.Limit.{most_reused}
use Rattle.rtx_tree.specs.declared.function.Insn.{Insn}
use Rattle.rtx_tree.specs.declared.function.Function.{Function}
use Rattle.new_insns.specs.Replaced.{window, replaced}
use Rattle.md_forms.specs.declared.form.Entry.{Entry}
use Rattle.reuse.specs.Reuse.{Repeats, RepeatsAt, NoneRepeats, IsNextRepeat, IsFirstDead, with_insn, without}
use Rattle.reuse.specs.machine.Found.{AreWithin}
use Rattle.reuse.specs.declared.search.Span.{Span}
use Rattle.reuse.proofs.Lists.{front_at, front_window, behind_drop, first_left}

-- two places of one function with what stands between them, as two of another
record Same (g f : Function) (a b c d : ℕ) : Type 0 where
  before : c < d
  near : d ≤ c + most_reused
  first : slice_get g.insns a ≡ slice_get f.insns c
  second : slice_get g.insns b ≡ slice_get f.insns d
  between : window g (a + 1) b ≡ window f (c + 1) d

repeats_there : (forms : List Entry) (g f : Function) (a b c d : ℕ) (new : Insn) → Same g f a b c d → RepeatsAt forms g a b new → RepeatsAt forms f c d new
repeats_there forms g f a b c d new same r = record {
  before = same.before;
  near = same.near;
  one = r.one;
  other = r.other;
  at_first = sym same.first ∙ r.at_first;
  at_second = sym same.second ∙ r.at_second;
  repeats = subst (λ w. Repeats forms r.one w r.other new) same.between r.repeats;
}

module _ (forms : List Entry) (f : Function) (place : ℕ) (new : List Insn) (within : place < length f.insns) where
  abbrev after : Function
  after = replaced f place (place + 1) new

  -- in front
  pub front_too : (a b : ℕ) (n : Insn) → b < place → RepeatsAt forms after a b n → RepeatsAt forms f a b n
  front_too a b n below r =
      let order = r.before in
      let near = r.near in
      repeats_there forms after f a b a b n (record {
        before = r.before;
        near = r.near;
        first = front_at f.insns (new ++ drop (place + 1) f.insns) a place (omega (arith, order, below)) (omega (arith, within));
        second = front_at f.insns (new ++ drop (place + 1) f.insns) b place below (omega (arith, within));
        between = front_window f.insns (new ++ drop (place + 1) f.insns) (a + 1) b place (omega (arith, order)) (omega (arith, below)) (omega (arith, within));
      }) r

  -- behind, by so many places more
  left_of : (m p q : ℕ) → p ≡ place + (length new + m) → q ≡ place + 1 + m → drop p after.insns ≡ drop q f.insns
  left_of m p q is is_too = ap (λ n. drop n after.insns) is ∙ (behind_drop f.insns new place m (omega (arith, within)) ∙ ap (λ n. drop n f.insns) (sym is_too))

  pub behind_too : (a b c d : ℕ) (n : Insn) → place + length new ≤ a → a + 1 ≡ c + length new → b + 1 ≡ d + length new → RepeatsAt forms after a b n → RepeatsAt forms f c d n
  behind_too a b c d n behind first second r =
      let order = r.before in
      let near = r.near in
      let long : b - (a + 1) ≡ d - (c + 1) = omega (arith, first, second) in
      let at_a = left_of (a - (place + length new)) a c (omega (arith, behind)) (omega (arith, behind, first)) in
      let at_b = left_of (b - (place + length new)) b d (omega (arith, behind, order)) (omega (arith, behind, order, second)) in
      let next = left_of (a + 1 - (place + length new)) (a + 1) (c + 1) (omega (arith, behind)) (omega (arith, behind, first)) in
      repeats_there forms after f a b c d n (record {
        before = omega (arith, order, first, second);
        near = omega (arith, near, first, second);
        first = first_left after.insns f.insns a c at_a;
        second = first_left after.insns f.insns b d at_b;
        between = ap (λ n. take n (drop (a + 1) after.insns)) long ∙ ap (take (d - (c + 1))) next;
      }) r

-- ---- where the seconds stand then

-- behind a reuse
pub within_reuse : (forms : List Entry) (f : Function) (first second : ℕ) (new : Insn) (span : Span) (end : ℕ) → IsNextRepeat forms f first second new → AreWithin forms f span → end ≡ max span.end (second + 65) →
    AreWithin forms (with_insn f second new) (record { from = second; end = end; firsts = end })
within_reuse forms f first second new span end next are is a b n r =
    let at = slice_get_within f.insns second next.repeats.other next.repeats.at_second in
    let order = r.before in
    let near = r.near in
    ⊎_elim
    (λ (below : b < second).
    let old = front_too forms f second (new ∷ []) at a b n below r in
    absurd (⊎_elim (λ (over : second < b). let none : ⊥ = omega (arith, over, below) in none) (λ (same : (second ≡ b) × (a ≤ first)). let is_it = same.0 in let none : ⊥ = omega (arith, is_it, below) in none) (next.chosen a b n old)))
    (λ (from : second ≤ b).
    let upto : b < end = ⊎_elim
    (λ (low : b < second + 65). let upto : b < end = omega (arith, low, is) in upto)
    (λ (high : second + 65 ≤ b).
    let old = (are a b n (behind_too forms f second (new ∷ []) at a b a b n (omega (arith, near, high)) refl refl r)).1 in
    let upto : b < end = omega (arith, old, is) in upto)
    (cases_lt b (second + 65)) in
    (from, upto, omega (arith, order, upto)))
    (cases_lt b second)

-- behind a dead set that went
pub within_drop : (forms : List Entry) (f : Function) (place end : ℕ) → NoneRepeats forms f → IsFirstDead f place → end ≡ place + 64 → AreWithin forms (without f place) (record { from = place; end = end; firsts = place })
within_drop forms f place end none dead is a b n r =
    let at = slice_get_within f.insns place dead.dead.insn dead.dead.at_place in
    let order = r.before in
    let near = r.near in
    ⊎_elim
    (λ (below : b < place). absurd (none a b n (front_too forms f place [] at a b n below r)))
    (λ (from : place ≤ b).
    let low : a < place = ⊎_elim
    (λ (low : a < place). low)
    (λ (high : place ≤ a). absurd (none (a + 1) (b + 1) n (behind_too forms f place [] at a b (a + 1) (b + 1) n (omega (arith, high)) (omega arith) (omega arith) r)))
    (cases_lt a place) in
    (from, omega (arith, low, near, is), low))
    (cases_lt b place)

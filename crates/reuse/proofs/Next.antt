-- What the search comes to, and what follows a step.
use Rattle.std.proofs.Common.{◌≡◌, ⊎_elim, inl, inr, ℕ, zero, suc, ◌+◌, ◌-◌, ◌<◌, ◌≤◌, List, ◌++◌, length, drop, None, sym, subst, ◌∙◌, arith}
use Rattle.std.proofs.lemmas.Bool.{cases_lt}
use Rattle.std.proofs.lemmas.Option.{slice_get_within}
use Rattle.rtx_tree.specs.Limit.{most_reused}
use Rattle.rtx_tree.specs.declared.function.Insn.{Insn}
use Rattle.rtx_tree.specs.declared.function.Function.{Function}
use Rattle.new_insns.specs.Replaced.{replaced}
use Rattle.live_chain.specs.Stays.{StaysBefore}
use Rattle.md_forms.specs.declared.form.Entry.{Entry}
use Rattle.reuse.specs.Reuse.{RepeatsAt, NoneRepeats, IsNextRepeat, IsDeadSet, IsFirstDead, NoneDead, IsStep, Steps}
use Rattle.reuse.specs.machine.Found.{Tried, NoneFrom, NoneUpto, IsLast, LastRepeat, AreWithin, AreAhead, NoneDeadBefore}
use Rattle.reuse.specs.declared.search.Repeat.{Repeat}
use Rattle.reuse.specs.declared.search.Span.{Span}
use Rattle.reuse.proofs.Lists.{front_at}

-- ---- the firsts of a second

module _ (forms : List Entry) (f : Function) (second : ℕ) where
  -- none at the second or behind it
  pub none_from : NoneFrom forms f second second
  none_from first n from r = let before = r.before in absurd (omega (arith, before, from))

  -- one place more in front
  pub one_less : (place first : ℕ) → place ≡ first + 1 → NoneFrom forms f second place → Tried forms f first second None → NoneFrom forms f second first
  one_less place first is none here i n from r = ⊎_elim
      (λ (behind : first < i). none i n (omega (arith, behind, is)) r)
      (λ (upto : i ≤ first). let same : i ≡ first = omega (arith, from, upto) in here n (subst (λ p. RepeatsAt forms f p second n) same r))
      (cases_lt first i)

  -- and none in front of these
  pub none_at_all : (place : ℕ) → NoneFrom forms f second place → place ≤ second - most_reused → NoneFrom forms f second 0
  none_at_all place none far i n from r = ⊎_elim
      (λ (low : i < place). let near = r.near in absurd (omega (arith, low, near, far)))
      (λ (high : place ≤ i). none i n high r)
      (cases_lt i place)

  -- nor where all stand in front of what is near enough
  pub none_ahead : (place : ℕ) → AreAhead forms f second place → place ≤ second - most_reused → NoneFrom forms f second 0
  none_ahead place ahead far i n from r = let near = r.near in let low = ahead i n r in absurd (omega (arith, low, near, far))

  -- nor at or behind a place that they all stand in front of
  pub none_behind : (place first : ℕ) → AreAhead forms f second place → place ≤ first → Tried forms f first second None
  none_behind place first ahead far n r = let low = ahead first n r in absurd (omega (arith, low, far))

  pub none_either : (place first : ℕ) → place ≡ first + 1 → NoneFrom forms f second place → NoneUpto forms f second first → NoneFrom forms f second 0
  none_either place first is none upto i n from r = ⊎_elim
      (λ (behind : first < i). none i n (omega (arith, behind, is)) r)
      (λ (low : i ≤ first). upto i n low r)
      (cases_lt first i)

-- ---- the seconds

-- the seconds from a place on are within the span
abbrev pub NoneBetween : List Entry → Function → ℕ → ℕ → Type 0
NoneBetween forms f from place =
    (first second : ℕ) (new : Insn) → from ≤ second → second < place → RepeatsAt forms f first second new → ⊥

module _ (forms : List Entry) (f : Function) (span : Span) (are : AreWithin forms f span) where
  pub none_yet : NoneBetween forms f span.from span.from
  none_yet i j n from below r = absurd (omega (arith, from, below))

  pub one_more : (place next : ℕ) → next ≡ place + 1 → NoneBetween forms f span.from place → LastRepeat forms f place None → NoneBetween forms f span.from next
  one_more place next is none here i j n from below r = ⊎_elim
      (λ (before : j < place). none i j n from before r)
      (λ (at : place ≤ j). let same : j ≡ place = omega (arith, at, below, is) in here i n (omega arith) (subst (λ s. RepeatsAt forms f i s n) same r))
      (cases_lt j place)

  pub none_past : (place : ℕ) → ((place < length f.insns) → (place < span.end) → ⊥) → NoneBetween forms f span.from place → NoneRepeats forms f
  none_past place past none i j n r =
      let within = are i j n r in
      let here = slice_get_within f.insns j r.other r.at_second in
      ⊎_elim
      (λ (before : j < place). none i j n within.0 before r)
      (λ (upto : place ≤ j). past (omega (arith, upto, here)) (let end = within.1 in omega (arith, upto, end)))
      (cases_lt j place)

  pub is_next : (second : ℕ) (p : Repeat) → NoneBetween forms f span.from second → IsLast forms f second p → IsNextRepeat forms f p.first p.second p.new
  is_next second p none last = record {
    repeats = subst (λ s. RepeatsAt forms f p.first s p.new) (sym last.second_is) last.repeats;
    chosen = λ i j n r. ⊎_elim
        (λ (before : j < second). absurd (none i j n (are i j n r).0 before r))
        (λ (from : second ≤ j). ⊎_elim
        (λ (behind : second < j). inl (subst (λ s. s < j) (sym last.second_is) behind))
        (λ (upto : j ≤ second).
        let same : second ≡ j = omega (arith, from, upto) in
        ⊎_elim
        (λ (above : p.first < i). absurd (last.last i n (omega (arith, above)) (subst (λ s. RepeatsAt forms f i s n) (sym same) r)))
        (λ (low : i ≤ p.first). inr (last.second_is ∙ same, low))
        (cases_lt p.first i))
        (cases_lt second j))
        (cases_lt j second);
  }

-- at first every second is within the chain
pub all_within : (forms : List Entry) (f : Function) (end : ℕ) → end ≡ length f.insns → AreWithin forms f (record { from = 0; end = end; firsts = end })
all_within forms f end is i j n r =
    let within = slice_get_within f.insns j r.other r.at_second in
    let order = r.before in
    (omega arith, omega (arith, within, is), omega (arith, within, is, order))

-- ---- dead sets

pub dead_more : (f : Function) (place next : ℕ) → next ≡ place + 1 → NoneDeadBefore f place → (IsDeadSet f place → ⊥) → NoneDeadBefore f next
dead_more f place next is none here other below d = ⊎_elim
    (λ (before : other < place). none other before d)
    (λ (at : place ≤ other). let same : other ≡ place = omega (arith, at, below, is) in here (subst (IsDeadSet f) same d))
    (cases_lt other place)

pub dead_past : (f : Function) (place : ℕ) → length f.insns ≤ place → NoneDeadBefore f place → NoneDead f
dead_past f place past none other d = let within = slice_get_within f.insns other d.insn d.at_place in none other (omega (arith, within, past)) d

pub dead_first : (f : Function) (place : ℕ) → NoneDeadBefore f place → IsDeadSet f place → IsFirstDead f place
dead_first f place none d = record {
  dead = d;
  first = λ other od. ⊎_elim
      (λ (before : other < place). absurd (none other before od))
      (λ (from : place ≤ other). from)
      (cases_lt other place);
}

module _ (f : Function) (first end from : ℕ) (new : List Insn) (within : first ≤ length f.insns) (stays : StaysBefore f (replaced f first end new) from) (order : from ≤ first) where
  -- in front of where what is live has stayed no set has become dead
  pub still_alive : NoneDeadBefore f from → NoneDeadBefore (replaced f first end new) from
  still_alive none other below d =
      let at = sym (front_at f.insns (new ++ drop end f.insns) other first (omega (arith, below, order)) within) ∙ d.at_place in
      none other below (record {
        insn = d.insn;
        at_place = at;
        register = d.register;
        sets = d.sets;
        dead = λ lives. d.dead ((stays other d.register below).0 lives);
      })

pub fewer_alive : (f : Function) (place less : ℕ) → less ≤ place → NoneDeadBefore f place → NoneDeadBefore f less
fewer_alive f place less order none other below d = none other (omega (arith, below, order)) d

-- ---- steps

-- one step more
pub steps_more : (forms : List Entry) (n : ℕ) (f g h : Function) → Steps forms n f g → IsStep forms g h → Steps forms (suc n) f h
steps_more forms _ _ _ h (Steps.none f) one = Steps.step zero f h h one (Steps.none h)
steps_more forms _ _ _ h (Steps.step n f k g first more) one = Steps.step (suc n) f k h first (steps_more forms n k g h more one)

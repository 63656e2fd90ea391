-- No unit is taken twice: of the jobs that are placed, at each step.
use Rattle.std.proofs.Common.{◌≡◌, ℕ, zero, suc, ◌==◌, Bool, true, false, inl, inr, List, [], ◌∷◌, Some, cond, find, length, get_or, set, replicate, refl, sym, ap, subst, ◌∙◌, arith}
use Rattle.std.specs.Prelude.{bit_and, bit_or, slice_get}
use Rattle.std.specs.List.{Contains}
use Rattle.std.specs.Int.{bit_at}
use Rattle.std.proofs.lemmas.Bool.{cases_eq, and_parts, eqb-true, ne_eqb, eq-eqb}
use Rattle.std.proofs.lemmas.List.{get_or-set_same, get_or-set_other}
use Rattle.std.proofs.lemmas.Nat.Bits.{bit_at_and, bit_at_or, bit_at-zero, same_from_bits}
use Rattle.std.proofs.lemmas.Option.{slice_get_within}
use Rattle.dfa_ways.specs.Ways.{Way, Ways}
use Rattle.job_order.specs.declared.job.Job.{Job}
use Rattle.job_order.specs.declared.placed.Placed.{Placed}
use Rattle.job_order.specs.Jobs.{AreJobs}
use Rattle.job_order.specs.Slots.{are_apart, is_free, taken_now, taken_from, IsSlot}
use Rattle.job_order.specs.Order.{is_placed, is_ready, none_placed, placed_at, Places, done, one}
use Rattle.law_order.specs.Apart.{units_in, AreApart, HaveUnits, TakeUnits}
use Rattle.law_order.proofs.Ready.{next_ready, all_placed, none_some, some_is, true_false}
use Rattle.law_order.proofs.AllLate.{AreKept, none_kept, kept_more}

-- ---- units as sets

pub comes_apart : (a b : ℕ) → bit_and a b ≡ 0 → bit_and b a ≡ 0
comes_apart a b e = same_from_bits (bit_and b a) 0 (λ i.
    let one = bit_at_and b a i in
    let other = bit_at_and a b i in
    let zeros = bit_at-zero i in
    let here : bit_at (bit_and a b) i ≡ bit_at 0 i = ap (λ (n : ℕ). bit_at n i) e in
    omega (arith, one, other, zeros, here))

-- what is among some units is apart from what is apart from these
pub apart_inside : (a t w : ℕ) → bit_and a t ≡ a → bit_and t w ≡ 0 → bit_and a w ≡ 0
apart_inside a t w among none = same_from_bits (bit_and a w) 0 (λ i.
    let one = bit_at_and a w i in
    let two = bit_at_and a t i in
    let three = bit_at_and t w i in
    let zeros = bit_at-zero i in
    let here : bit_at (bit_and a t) i ≡ bit_at a i = ap (λ (n : ℕ). bit_at n i) among in
    let there : bit_at (bit_and t w) i ≡ bit_at 0 i = ap (λ (n : ℕ). bit_at n i) none in
    omega (arith, one, two, three, zeros, here, there))

-- and among more than these
pub inside_more : (a t w : ℕ) → bit_and a t ≡ a → bit_and a (bit_or t w) ≡ a
inside_more a t w among = same_from_bits (bit_and a (bit_or t w)) a (λ i.
    let one = bit_at_and a (bit_or t w) i in
    let two = bit_at_or t w i in
    let three = bit_at_and a t i in
    let here : bit_at (bit_and a t) i ≡ bit_at a i = ap (λ (n : ℕ). bit_at n i) among in
    omega (arith, one, two, three, here))

pub inside_new : (t w : ℕ) → bit_and w (bit_or t w) ≡ w
inside_new t w = same_from_bits (bit_and w (bit_or t w)) w (λ i.
    let one = bit_at_and w (bit_or t w) i in
    let two = bit_at_or t w i in
    omega (arith, one, two))

or_zero : (a : ℕ) → bit_or a 0 ≡ a
or_zero a = same_from_bits (bit_or a 0) a (λ i. let one = bit_at_or a 0 i in let zeros = bit_at-zero i in omega (arith, one, zeros))

zero_or : (a : ℕ) → bit_or 0 a ≡ a
zero_or a = same_from_bits (bit_or 0 a) a (λ i. let one = bit_at_or 0 a i in let zeros = bit_at-zero i in omega (arith, one, zeros))

zero_and : (a : ℕ) → bit_and 0 a ≡ 0
zero_and a = same_from_bits (bit_and 0 a) 0 (λ i. let one = bit_at_and 0 a i in let zeros = bit_at-zero i in omega (arith, one, zeros))

and_zero : (a : ℕ) → bit_and a 0 ≡ 0
and_zero a = comes_apart 0 a (zero_and a)

-- ---- a way that is free

apart_in : (taken : List ℕ) (way : Way) → are_apart taken way ≡ true → (i : ℕ) → bit_and (get_or taken i 0) (get_or way i 0) ≡ 0
apart_in [] way e i = zero_and (get_or way i 0)
apart_in (old ∷ taken) [] e i = and_zero (get_or (old ∷ taken) i 0)
apart_in (old ∷ taken) (units ∷ way) e zero =
    let parts = and_parts (bit_and old units == 0) (are_apart taken way) e in eqb-true (bit_and old units) 0 parts.0
apart_in (old ∷ taken) (units ∷ way) e (suc i) =
    let parts = and_parts (bit_and old units == 0) (are_apart taken way) e in apart_in taken way parts.1 i

-- it takes no unit that is taken
pub free_in : (taken : List ℕ) (cycle : ℕ) (way : Way) → is_free taken cycle way ≡ true → (c : ℕ) → bit_and (get_or taken c 0) (units_in cycle way c) ≡ 0
free_in taken zero way e c = apart_in taken way e c
free_in [] (suc cycle) way e c = zero_and (units_in (suc cycle) way c)
free_in (old ∷ taken) (suc cycle) way e zero = and_zero old
free_in (old ∷ taken) (suc cycle) way e (suc c) = free_in taken cycle way e c

now_in : (taken : List ℕ) (way : Way) (i : ℕ) → get_or (taken_now taken way) i 0 ≡ bit_or (get_or taken i 0) (get_or way i 0)
now_in [] [] i = sym (zero_or 0)
now_in (old ∷ taken) [] i = sym (or_zero (get_or (old ∷ taken) i 0))
now_in [] (units ∷ way) i = sym (zero_or (get_or (units ∷ way) i 0))
now_in (old ∷ taken) (units ∷ way) zero = refl
now_in (old ∷ taken) (units ∷ way) (suc i) = now_in taken way i

-- what is taken with it
pub taken_in : (taken : List ℕ) (cycle : ℕ) (way : Way) (c : ℕ) → get_or (taken_from taken cycle way) c 0 ≡ bit_or (get_or taken c 0) (units_in cycle way c)
taken_in taken zero way c = now_in taken way c
taken_in [] (suc cycle) way zero = sym (zero_or 0)
taken_in [] (suc cycle) way (suc c) = taken_in [] cycle way c
taken_in (old ∷ taken) (suc cycle) way zero = sym (or_zero old)
taken_in (old ∷ taken) (suc cycle) way (suc c) = taken_in taken cycle way c

-- the first way that is free is one of the job's, and is free
found_in : (p : Way → Bool) (ways : Ways) (way : Way) → find p ways ≡ Some way → Contains ways way × (p way ≡ true)
found_in p [] way e = absurd (none_some way e)
found_in p (w ∷ ways) way e =
    let go : (b : Bool) → p w ≡ b → cond b (Some w) (find p ways) ≡ Some way → Contains (w ∷ ways) way × (p way ≡ true) =
    λ b. elim b as (λ b. p w ≡ b → cond b (Some w) (find p ways) ≡ Some way → Contains (w ∷ ways) way × (p way ≡ true)) [
      | true ↦ λ here h. let same : w ≡ way = some_is w way h in ((0, omega arith, same), subst (λ (x : Way). p x ≡ true) same here)
      | false ↦ λ here h. let rest = found_in p ways way h in ((suc rest.0.0, (let l = rest.0.1 in omega (arith, l)), rest.0.2), rest.1)
    ] in
    go (p w) refl e

-- ---- ways of the jobs that are placed

pub record HaveWays (jobs : List Job) (s : Placed) : Type 0 where
  pub ways : ℕ → Way
  pub own : (place : ℕ) (job : Job) → slice_get jobs place ≡ Some job → is_placed s place ≡ true → Contains job.ways (ways place)
  -- what they take is taken
  pub inside : (place : ℕ) → is_placed s place ≡ true → (c : ℕ) → bit_and (units_in (get_or s.cycles place 0) (ways place) c) (get_or s.taken c 0) ≡ units_in (get_or s.cycles place 0) (ways place) c
  pub apart : (p q : ℕ) → (p ≡ q → ⊥) → is_placed s p ≡ true → is_placed s q ≡ true → AreApart (get_or s.cycles p 0) (ways p) (get_or s.cycles q 0) (ways q)

no_mark : (n place : ℕ) → get_or (replicate n false) place false ≡ true → ⊥
no_mark zero place e = true_false (sym e)
no_mark (suc n) zero e = true_false (sym e)
no_mark (suc n) (suc place) e = no_mark n place e

none_marked : (jobs : List Job) (place : ℕ) → is_placed (none_placed (length jobs)) place ≡ true → ⊥
none_marked jobs place placed = no_mark (length jobs) place placed

no_ways : (jobs : List Job) → HaveWays jobs (none_placed (length jobs))
no_ways jobs = record {
  ways = λ p. [];
  own = λ place job at placed. absurd (none_marked jobs place placed);
  inside = λ place placed. absurd (none_marked jobs place placed);
  apart = λ p q e placed. absurd (none_marked jobs p placed);
}

module _ (jobs : List Job) (s : Placed) (k : ℕ) (j : Job) (cycle : ℕ) (way : Way) (kept : AreKept jobs s) (old : HaveWays jobs s) (at : slice_get jobs k ≡ Some j) (slot : IsSlot s j cycle way) (ready : is_ready s k j ≡ true) where
  ways : ℕ → Way
  ways p = cond (p == k) way (old.ways p)

  is_new : (p : ℕ) → p ≡ k → cond (p == k) way (old.ways p) ≡ way
  is_new p e = rw (eq-eqb p k e) refl

  is_old : (p : ℕ) → (p ≡ k → ⊥) → cond (p == k) way (old.ways p) ≡ old.ways p
  is_old p e = rw (ne_eqb p k e) refl

  was : (p : ℕ) → (p ≡ k → ⊥) → is_placed (placed_at s k cycle way) p ≡ true → is_placed s p ≡ true
  was p e placed = sym (get_or-set_other s.are_placed k p true false e) ∙ placed

  own_cycle : get_or (set s.cycles k cycle) k 0 ≡ cycle
  own_cycle = get_or-set_same s.cycles k cycle 0 (let l = kept.cycles in let h = slice_get_within jobs k j at in omega (arith, l, h))

  found : Contains j.ways way × (is_free s.taken cycle way ≡ true)
  found = found_in (is_free s.taken cycle) j.ways way slot.free

  -- what each takes now, by what it took
  old_units : (p : ℕ) → (p ≡ k → ⊥) → (c : ℕ) → units_in (get_or (set s.cycles k cycle) p 0) (cond (p == k) way (old.ways p)) c ≡ units_in (get_or s.cycles p 0) (old.ways p) c
  old_units p e c = ap (λ (n : ℕ). units_in n (cond (p == k) way (old.ways p)) c) (get_or-set_other s.cycles k p cycle 0 e) ∙ ap (λ (w : Way). units_in (get_or s.cycles p 0) w c) (is_old p e)

  new_units : (p : ℕ) → p ≡ k → (c : ℕ) → units_in (get_or (set s.cycles k cycle) p 0) (cond (p == k) way (old.ways p)) c ≡ units_in cycle way c
  new_units p e c = ap (λ (n : ℕ). units_in n (cond (p == k) way (old.ways p)) c) (ap (λ (i : ℕ). get_or (set s.cycles k cycle) i 0) e ∙ own_cycle) ∙ ap (λ (w : Way). units_in cycle w c) (is_new p e)

  -- the new one takes nothing of an old one
  old_new : (p c : ℕ) → is_placed s p ≡ true → bit_and (units_in (get_or s.cycles p 0) (old.ways p) c) (units_in cycle way c) ≡ 0
  old_new p c placed = apart_inside (units_in (get_or s.cycles p 0) (old.ways p) c) (get_or s.taken c 0) (units_in cycle way c) (old.inside p placed c) (free_in s.taken cycle way found.1 c)

  pub ways_more : HaveWays jobs (placed_at s k cycle way)
  ways_more = record {
    ways = λ p. cond (p == k) way (old.ways p);
    own = λ place job there placed. elim (cases_eq place k) as (λ x. Contains job.ways (cond (place == k) way (old.ways place))) [
      | inl e ↦ let same : j ≡ job = some_is j job (sym at ∙ ap (slice_get jobs) (sym e) ∙ there) in
          subst (λ (w : Way). Contains job.ways w) (sym (is_new place e)) (subst (λ (x : Job). Contains x.ways way) same found.0)
      | inr e ↦ subst (λ (w : Way). Contains job.ways w) (sym (is_old place e)) (old.own place job there (was place e placed))
    ];
    inside = λ place placed c.
        let all = taken_in s.taken cycle way c in
        elim (cases_eq place k) as (λ x. bit_and (units_in (get_or (set s.cycles k cycle) place 0) (cond (place == k) way (old.ways place)) c) (get_or (taken_from s.taken cycle way) c 0) ≡ units_in (get_or (set s.cycles k cycle) place 0) (cond (place == k) way (old.ways place)) c) [
          | inl e ↦ rw (new_units place e c, all) (inside_new (get_or s.taken c 0) (units_in cycle way c))
          | inr e ↦ rw (old_units place e c, all) (inside_more (units_in (get_or s.cycles place 0) (old.ways place) c) (get_or s.taken c 0) (units_in cycle way c) (old.inside place (was place e placed) c))
        ];
    apart = λ p q differ one_placed other_placed c.
        elim (cases_eq p k) as (λ x. bit_and (units_in (get_or (set s.cycles k cycle) p 0) (cond (p == k) way (old.ways p)) c) (units_in (get_or (set s.cycles k cycle) q 0) (cond (q == k) way (old.ways q)) c) ≡ 0) [
          | inl e ↦ let other : q ≡ k → ⊥ = λ h. differ (e ∙ sym h) in
              rw (new_units p e c, old_units q other c) (comes_apart (units_in (get_or s.cycles q 0) (old.ways q) c) (units_in cycle way c) (old_new q c (was q other other_placed)))
          | inr e ↦ elim (cases_eq q k) as (λ x. bit_and (units_in (get_or (set s.cycles k cycle) p 0) (cond (p == k) way (old.ways p)) c) (units_in (get_or (set s.cycles k cycle) q 0) (cond (q == k) way (old.ways q)) c) ≡ 0) [
            | inl f ↦ rw (old_units p e c, new_units q f c) (old_new p c (was p e one_placed))
            | inr f ↦ rw (old_units p e c, old_units q f c) (old.apart p q differ (was p e one_placed) (was q f other_placed) c)
          ]
        ];
  }

-- ---- all

all_apart : (jobs : List Job) → AreJobs jobs → (s : Placed) (cycles : List ℕ) → Places jobs s cycles → AreKept jobs s → HaveWays jobs s → HaveUnits jobs cycles
all_apart jobs are _ _ (done s none) kept have = record {
  ways = have.ways;
  own = λ place job at. have.own place job at (all_placed jobs s are none place (slice_get_within jobs place job at));
  apart = λ p q less within. have.apart p q (λ e. absurd (omega arith)) (all_placed jobs s are none p (omega arith)) (all_placed jobs s are none q within);
}
all_apart jobs are _ _ (one s k j cycle way cycles is at slot rest) kept have =
    let ready : is_ready s k j ≡ true = next_ready jobs s k j is at in
    all_apart jobs are (placed_at s k cycle way) cycles rest (kept_more jobs s k j cycle way kept at slot ready) (ways_more jobs s k j cycle way kept have at slot ready)

pub take_units : TakeUnits
take_units jobs cycles are places = all_apart jobs are (none_placed (length jobs)) cycles places (none_kept jobs) (no_ways jobs)

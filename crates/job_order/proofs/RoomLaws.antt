-- The room that jobs have: none is placed, and one more is.
use Rattle.std.proofs.Common.{◌≡◌, ℕ, zero, suc, ◌+◌, ◌-◌, ◌*◌, ◌^◌, ◌<◌, ◌≤◌, max, Bool, true, false, inl, inr, List, [], ◌∷◌, length, get_or, set, replicate, refl, ap, ◌∙◌, arith}
use Rattle.std.proofs.lemmas.Bool.{cases_eq}
use Rattle.std.proofs.lemmas.List.{length-set, length-replicate, get_or-set_same, get_or-set_other, get_or-replicate}
use Rattle.dfa_ways.specs.Ways.{Way}
use Rattle.rtx_tree.specs.Limit.{most_cycles, most_latency, most_scheduled}
use Rattle.job_order.specs.declared.job.Job.{Job}
use Rattle.job_order.specs.declared.placed.Placed.{Placed}
use Rattle.job_order.specs.Jobs.{IsShort, IsJob, AreJobs}
use Rattle.job_order.specs.Slots.{is_free, late_for, taken_now, taken_from, IsSlot}
use Rattle.job_order.specs.Order.{is_placed, none_placed, placed_at}
use Rattle.job_order.specs.machine.Bounds.{most_stride, unmarked, unplaced, HasRoom, AreNear}
use Rattle.job_order.proofs.SlotLaws.{late_near, slot_near, found_is}

-- ---- how many are not placed

count_none : (n : ℕ) → unmarked (replicate n false) ≡ n
count_none zero = refl
count_none (suc n) = ap suc (count_none n)

count_one : (marks : List Bool) (k : ℕ) → k < length marks → get_or marks k false ≡ false → suc (unmarked (set marks k true)) ≡ unmarked marks
count_one [] k h e = absurd (omega arith)
count_one (true ∷ marks) zero h e = absurd (cc)
count_one (false ∷ marks) zero h e = refl
count_one (true ∷ marks) (suc k) h e = count_one marks k (omega arith) e
count_one (false ∷ marks) (suc k) h e = ap suc (count_one marks k (omega arith) e)

-- ---- room at the start

pub room_none : (jobs : List Job) → HasRoom jobs (none_placed (length jobs))
room_none jobs =
    let n : ℕ = length jobs in
    let zeros : List ℕ = replicate n 0 in
    let all : unmarked (replicate n false) ≡ n = count_none n in
    let long : length zeros ≡ n = length-replicate n 0 in
    record {
      cycles = long;
      marks = length-replicate n false;
      near = λ k h. let within : k < n = omega (arith, h, long) in let v : get_or zeros k 0 ≡ 0 = get_or-replicate n k 0 0 within in omega (arith, v, all);
      taken = omega (arith, all);
    }

pub room_near : (jobs : List Job) (s : Placed) → AreJobs jobs → HasRoom jobs s → AreNear s.cycles
room_near jobs s are room k h =
    let few : length jobs ≤ most_scheduled = are.few in
    let here : get_or s.cycles k 0 + most_stride * unplaced s ≤ most_stride * length jobs = room.near k h in
    omega arith

-- ---- and where one more is placed

length_now : (taken : List ℕ) (way : Way) → length (taken_now taken way) ≡ max (length taken) (length way)
length_now [] [] = refl
length_now [] (units ∷ way) = omega arith
length_now (old ∷ taken) [] = omega arith
length_now (old ∷ taken) (units ∷ way) = let rest : length (taken_now taken way) ≡ max (length taken) (length way) = length_now taken way in omega (arith, rest)

length_from : (taken : List ℕ) (cycle : ℕ) (way : Way) → length (taken_from taken cycle way) ≤ max (length taken) (cycle + length way)
length_from taken zero way = let all : length (taken_now taken way) ≡ max (length taken) (length way) = length_now taken way in omega (arith, all)
length_from [] (suc cycle) way = let rest : length (taken_from [] cycle way) ≤ max (length {A = ℕ} []) (cycle + length way) = length_from [] cycle way in omega (arith, rest)
length_from (old ∷ taken) (suc cycle) way = let rest : length (taken_from taken cycle way) ≤ max (length taken) (cycle + length way) = length_from taken cycle way in omega (arith, rest)

module _ (jobs : List Job) (s : Placed) (k : ℕ) (j : Job) (cycle : ℕ) (way : Way) (room : HasRoom jobs s) (within : k < length jobs) (is_job : IsJob k j) (slot : IsSlot s j cycle way) (new : is_placed s k ≡ false) where
  in_marks : k < length s.are_placed
  in_marks = omega (arith, room.marks)

  pub one_less : unplaced (placed_at s k cycle way) + 1 ≡ unplaced s
  one_less = let e : suc (unplaced (placed_at s k cycle way)) ≡ unplaced s = count_one s.are_placed k in_marks new in omega (arith, e)

  short : length way ≤ most_cycles
  short = found_is IsShort (is_free s.taken cycle) j.ways way is_job.short slot.free

  -- a slot is not further behind the others than a job may go
  pub slot_within : cycle + most_stride * unplaced s ≤ most_stride * length jobs + most_latency
  slot_within =
      let most : ℕ = most_stride * length jobs - most_stride * unplaced s in
      let some : most_stride * unplaced s ≤ most_stride * length jobs = omega (arith, room.taken) in
      let late : late_for s.cycles j.asks ≤ most + most_latency = late_near k most s.cycles j.asks is_job.asks (omega (arith, room.cycles)) (λ i h. let here : get_or s.cycles i 0 + most_stride * unplaced s ≤ most_stride * length jobs = room.near i h in omega arith) in
      let taken : length s.taken ≤ most = omega (arith, room.taken) in
      let near : cycle ≤ max (late_for s.cycles j.asks) (length s.taken) = slot_near s j cycle way is_job.some slot in
      omega arith

  pub small : length jobs ≤ most_scheduled → cycle + length way < 2 ^ 64
  small few = let far = slot_within in let s = short in omega (arith, far, s)

  pub room_more : HasRoom jobs (placed_at s k cycle way)
  room_more =
      let less : unplaced (placed_at s k cycle way) + 1 ≡ unplaced s = one_less in
      let far : cycle + most_stride * unplaced s ≤ most_stride * length jobs + most_latency = slot_within in
      let long : length (taken_from s.taken cycle way) ≤ max (length s.taken) (cycle + length way) = length_from s.taken cycle way in
      let is_short : length way ≤ most_cycles = short in
      let same : length (set s.cycles k cycle) ≡ length s.cycles = length-set s.cycles k cycle in
      record {
        cycles = same ∙ room.cycles;
        marks = length-set s.are_placed k true ∙ room.marks;
        near = λ i h. elim (cases_eq i k) as (λ e. get_or (set s.cycles k cycle) i 0 + most_stride * unplaced (placed_at s k cycle way) ≤ most_stride * length jobs) [
          | inl e ↦ let v : get_or (set s.cycles k cycle) i 0 ≡ cycle = ap (λ (p : ℕ). get_or (set s.cycles k cycle) p 0) e ∙ get_or-set_same s.cycles k cycle 0 (omega (arith, room.cycles)) in omega arith
          | inr e ↦ let v : get_or (set s.cycles k cycle) i 0 ≡ get_or s.cycles i 0 = get_or-set_other s.cycles k i cycle 0 e in let here : get_or s.cycles i 0 + most_stride * unplaced s ≤ most_stride * length jobs = room.near i (omega arith) in omega arith
        ];
        taken = let old : length s.taken + most_stride * unplaced s ≤ most_stride * length jobs = room.taken in omega arith;
      }

-- What an instruction takes is one thing, and there is a way in it.
use Rattle.std.proofs.Common.{◌≡◌, ℕ, zero, suc, ◌+◌, ◌<◌, Bool, true, false, List, [], ◌∷◌, Option, Some, None, cond, length, refl, sym, ap, subst, ◌∙◌, arith}
use Rattle.std.specs.Prelude.{slice_get, option_map, IfSome, IfOk, Result, Ok, Err}
use Rattle.plain_data.specs.declared.Memory.{Memory}
use Rattle.std.specs.List.{AllByRecursion, position_from}
use Rattle.std.specs.Option.{option_map_or}
use Rattle.dfa_ways.specs.Ways.{Ways}
use Rattle.law_ways.specs.Lawful.{IsWay}
use Rattle.rtx_tree.specs.declared.function.Insn.{Insn}
use Rattle.md_forms.specs.declared.form.Entry.{Entry}
use Rattle.md_desc.specs.declared.output.Chosen.{Chosen}
use Rattle.md_dfa.specs.declared.pipeline.Pipeline.{Pipeline}
use Rattle.md_dfa.specs.declared.reservation.Reservation.{Reservation}
use Rattle.md_dfa.specs.Lawful.{IsLawful, AreLawful}
use Rattle.md_dfa.specs.Pipeline.{reservation_of}
use Rattle.form_needs.specs.Needs.{needs_form, output_facts}
use Rattle.form_needs.proofs.OneChosen.{both, chosen_one, chosen_not}
use Rattle.job_order.specs.Jobs.{IsShort}
use Rattle.region_jobs.specs.declared.taken.Taken.{Taken}
use Rattle.region_jobs.specs.Kept.{IsTaken}
use Rattle.pipe_uses.specs.Takes.{nothing, taken_as, taken_by, Takes}

some_is : {A : Type 0} (x y : A) → Some x ≡ Some y → x ≡ y
some_is x y e = cc

none_some : {A : Type 0} (x : A) → None ≡ Some x → ⊥
none_some x e = cc

-- ---- the place of a reservation

found_within : {A : Type 0} (test : A → Bool) (n : ℕ) (xs : List A) (k : ℕ) → position_from test n xs ≡ Some k → k < n + length xs
found_within test n [] k e = absurd (none_some k e)
found_within test n (x ∷ xs) k e =
    let go : (b : Bool) → cond b (Some n) (position_from test (n + 1) xs) ≡ Some k → k < n + length (x ∷ xs) =
    λ b. elim b as (λ b. cond b (Some n) (position_from test (n + 1) xs) ≡ Some k → k < n + length (x ∷ xs)) [
      | true ↦ λ h. let same : n ≡ k = some_is n k h in omega arith
      | false ↦ λ h. let rest : k < n + 1 + length xs = found_within test (n + 1) xs k h in omega arith
    ] in
    go (test x) e

pub reserved_within : (p : Pipeline) (forms : List Entry) (form alternative k : ℕ) → reservation_of p forms form alternative ≡ Some k → k < length p.reservations
reserved_within p forms form alternative k e = let h = found_within _ 0 p.reservations k e in omega (arith, h)

-- ---- lawful

all_short : (ways : Ways) → AllByRecursion IsWay ways → AllByRecursion IsShort ways
all_short [] all = tt
all_short (way ∷ ways) all = (all.0.short, all_short ways all.1)

pub nothing_taken : IsTaken nothing
nothing_taken = record { some = omega arith; short = (omega arith, tt); light = omega arith }

taken_lawful : (r : Reservation) → IsLawful r → IsTaken (taken_as r)
taken_lawful r is = record { some = is.ways.some; short = all_short r.ways is.ways.each; light = is.latency }

at_lawful : (rs : List Reservation) (k : ℕ) → AllByRecursion IsLawful rs → IsTaken (option_map_or taken_as (slice_get rs k) nothing)
at_lawful [] k all = nothing_taken
at_lawful (r ∷ rs) zero all = taken_lawful r all.0
at_lawful (r ∷ rs) (suc k) all = at_lawful rs k all.1

by_lawful : (p : Pipeline) (o : Option ℕ) → AreLawful p → IsTaken (taken_by p o)
by_lawful p None are = nothing_taken
by_lawful p (Some k) are = at_lawful p.reservations k are

pub takes_lawful : (forms : List Entry) (p : Pipeline) (i : Insn) (t : Taken) → AreLawful p → Takes forms p i t → IsTaken t
takes_lawful forms p i _ are (Takes.note free) = nothing_taken
takes_lawful forms p i _ are (Takes.unmatched needs none) = nothing_taken
takes_lawful forms p i _ are (Takes.chosen c needs is) = by_lawful p (reservation_of p forms c.form c.alternative) are

-- ---- one

module _ (forms : List Entry) (p : Pipeline) (i : Insn) where
  same_taken : (c d : Chosen) → c ≡ d → taken_by p (reservation_of p forms c.form c.alternative) ≡ taken_by p (reservation_of p forms d.form d.alternative)
  same_taken c d e = ap (λ (k : Chosen). taken_by p (reservation_of p forms k.form k.alternative)) e

  pub takes_one : (t u : Taken) → Takes forms p i t → Takes forms p i u → t ≡ u
  takes_one _ _ (Takes.note e) (Takes.note f) = refl
  takes_one _ _ (Takes.note e) (Takes.unmatched f none) = absurd (both (needs_form i) f e)
  takes_one _ _ (Takes.note e) (Takes.chosen c f is) = absurd (both (needs_form i) f e)
  takes_one _ _ (Takes.unmatched e none) (Takes.note f) = absurd (both (needs_form i) e f)
  takes_one _ _ (Takes.unmatched e none) (Takes.unmatched f other) = refl
  takes_one _ _ (Takes.unmatched e none) (Takes.chosen c f is) = absurd (chosen_not forms output_facts i.pattern c is none)
  takes_one _ _ (Takes.chosen c e is) (Takes.note f) = absurd (both (needs_form i) e f)
  takes_one _ _ (Takes.chosen c e is) (Takes.unmatched f none) = absurd (chosen_not forms output_facts i.pattern c is none)
  takes_one _ _ (Takes.chosen c e is) (Takes.chosen d f other) = same_taken c d (chosen_one forms output_facts i.pattern c d is other)

-- ---- what the code puts together

pub within_if : (p : Pipeline) (forms : List Entry) (form alternative : ℕ) (o : Option ℕ) → o ≡ reservation_of p forms form alternative → IfSome o (λ at. at < length p.reservations)
within_if p forms form alternative None e = tt
within_if p forms form alternative (Some k) e = reserved_within p forms form alternative k (sym e)

pub by_parts : (p : Pipeline) (k latency : ℕ) (ways : Ways) → option_map (λ (r : Reservation). r.latency) (slice_get p.reservations k) ≡ Some latency → option_map (λ (r : Reservation). r.ways) (slice_get p.reservations k) ≡ Some ways → record { latency = latency; ways = ways } ≡ taken_by p (Some k)
by_parts p k latency ways e f =
    let go : (o : Option Reservation) → option_map (λ (r : Reservation). r.latency) o ≡ Some latency → option_map (λ (r : Reservation). r.ways) o ≡ Some ways → record { latency = latency; ways = ways } ≡ option_map_or taken_as o nothing =
    λ o. elim o as (λ o. option_map (λ (r : Reservation). r.latency) o ≡ Some latency → option_map (λ (r : Reservation). r.ways) o ≡ Some ways → record { latency = latency; ways = ways } ≡ option_map_or taken_as o nothing) [
      | None ↦ λ a b. absurd (none_some latency a)
      | Some r ↦ λ a b. ap (λ (n : ℕ). record { latency = n; ways = ways }) (sym (some_is r.latency latency a)) ∙ ap (λ (w : Ways). record { latency = r.latency; ways = w }) (sym (some_is r.ways ways b))
    ] in
    go (slice_get p.reservations k) e f

-- ---- a result that is known

pub takes_if : (forms : List Entry) (p : Pipeline) (i : Insn) (t : Taken) (r : Result Taken Memory) → Takes forms p i t → IfOk r (λ (taken : Taken). taken ≡ t) → IfOk r (Takes forms p i)
takes_if forms p i t (Ok taken) is e = subst (Takes forms p i) (sym e) is
takes_if forms p i t (Err wrong) is e = tt

-- Instructions keep their dependences.
use Rattle.std.proofs.Common.{◌≡◌, ℕ, zero, suc, ◌+◌, ◌<◌, List, [], ◌∷◌, ◌++◌, Option, Some, None, map, take, append_assoc, sym, ap, subst, ◌∙◌, arith}
use Rattle.std.specs.Prelude.{slice_get}
use Rattle.std.specs.List.{AllByRecursion}
use Rattle.std.proofs.lemmas.List.{append-nil}
use Rattle.rtx_tree.specs.declared.function.Insn.{Insn}
use Rattle.job_order.specs.declared.job.Ask.{Ask}
use Rattle.job_order.specs.declared.job.Job.{Job}
use Rattle.law_order.specs.Late.{IsLate, IsAhead}
use Rattle.law_order.proofs.AllLate.{come_late}
use Rattle.law_order.proofs.Behind.{come_behind}
use Rattle.insn_depends.specs.Depends.{dependence}
use Rattle.region_jobs.specs.declared.taken.Taken.{Taken}
use Rattle.region_jobs.specs.Jobs.{ask_for, asks_from, job_of, jobs_behind, jobs_of}
use Rattle.region_jobs.specs.Kept.{Waits, KeepDependences}
use Rattle.region_jobs.proofs.JobLaws.{some_is, none_some}

-- ---- an ask that is there

behind_one : (P : Ask → Type 0) (place : ℕ) (o : Option ℕ) (rest : List Ask) → AllByRecursion P (ask_for place o ++ rest) → AllByRecursion P rest
behind_one P place None rest all = all
behind_one P place (Some weight) rest all = all.1

asked : (P : Ask → Type 0) (place : ℕ) (before : List Insn) (latencies : List ℕ) (later : Insn) → AllByRecursion P (asks_from place before latencies later) → (k latency weight : ℕ) (i : Insn) → slice_get before k ≡ Some i → slice_get latencies k ≡ Some latency → dependence latency i later ≡ Some weight → P (record { job = place + k; weight = weight })
asked P place [] latencies later all k latency weight i at lat e = absurd (none_some i at)
asked P place (x ∷ insns) [] later all k latency weight i at lat e = absurd (none_some latency lat)
asked P place (x ∷ insns) (l ∷ latencies) later all zero latency weight i at lat e =
    let same_insn : x ≡ i = some_is x i at in
    let same_latency : l ≡ latency = some_is l latency lat in
    let here : dependence l x later ≡ Some weight = ap (λ (n : ℕ). dependence n x later) same_latency ∙ (ap (λ (y : Insn). dependence latency y later) same_insn ∙ e) in
    let first : AllByRecursion P (ask_for place (Some weight) ++ asks_from (place + 1) insns latencies later) = subst (λ (o : Option ℕ). AllByRecursion P (ask_for place o ++ asks_from (place + 1) insns latencies later)) here all in
    let none : place ≡ place + 0 = omega arith in
    subst (λ (p : ℕ). P (record { job = p; weight = weight })) none first.0
asked P place (x ∷ insns) (l ∷ latencies) later all (suc k) latency weight i at lat e =
    let rest = asked P (place + 1) insns latencies later (behind_one P place (dependence l x later) (asks_from (place + 1) insns latencies later) all) k latency weight i at lat e in
    let same : place + 1 + k ≡ place + suc k = omega arith in
    subst (λ (p : ℕ). P (record { job = p; weight = weight })) same rest

-- ---- the job at a place

job_at : (before : List Insn) (latencies : List ℕ) (insns : List Insn) (taken : List Taken) (k : ℕ) (i : Insn) (t : Taken) → slice_get insns k ≡ Some i → slice_get taken k ≡ Some t
    → slice_get (jobs_behind before latencies insns taken) k ≡ Some (job_of (before ++ take k insns) (latencies ++ map (λ (u : Taken). u.latency) (take k taken)) i t.ways)
job_at before latencies [] taken k i t at takes = absurd (none_some i at)
job_at before latencies (x ∷ insns) [] k i t at takes = absurd (none_some t takes)
job_at before latencies (x ∷ insns) (u ∷ taken) zero i t at takes =
    let same_insn : x ≡ i = some_is x i at in
    let same_taken : u ≡ t = some_is u t takes in
    let one : Some (job_of before latencies x u.ways) ≡ Some (job_of before latencies i t.ways) = ap (λ (y : Insn). Some (job_of before latencies y u.ways)) same_insn ∙ ap (λ (v : Taken). Some (job_of before latencies i v.ways)) same_taken in
    one ∙ (ap (λ (b : List Insn). Some (job_of b latencies i t.ways)) (sym (append-nil before)) ∙ ap (λ (l : List ℕ). Some (job_of (before ++ []) l i t.ways)) (sym (append-nil latencies)))
job_at before latencies (x ∷ insns) (u ∷ taken) (suc k) i t at takes =
    let rest = job_at (before ++ x ∷ []) (latencies ++ u.latency ∷ []) insns taken k i t at takes in
    let fronts : (before ++ x ∷ []) ++ take k insns ≡ before ++ (x ∷ take k insns) = append_assoc before (x ∷ []) (take k insns) in
    let lats : (latencies ++ u.latency ∷ []) ++ map (λ (v : Taken). v.latency) (take k taken) ≡ latencies ++ (u.latency ∷ map (λ (v : Taken). v.latency) (take k taken)) = append_assoc latencies (u.latency ∷ []) (map (λ (v : Taken). v.latency) (take k taken)) in
    rest ∙ (ap (λ (b : List Insn). Some (job_of b ((latencies ++ u.latency ∷ []) ++ map (λ (v : Taken). v.latency) (take k taken)) i t.ways)) fronts ∙ ap (λ (l : List ℕ). Some (job_of (before ++ (x ∷ take k insns)) l i t.ways)) lats)

front_at : {A : Type 0} (xs : List A) (k n : ℕ) (x : A) → k < n → slice_get xs k ≡ Some x → slice_get (take n xs) k ≡ Some x
front_at [] k n x h at = absurd (none_some x at)
front_at (y ∷ xs) k zero x h at = absurd (omega arith)
front_at (y ∷ xs) zero (suc n) x h at = at
front_at (y ∷ xs) (suc k) (suc n) x h at = front_at xs k n x (omega arith) at

latency_at : (taken : List Taken) (k n : ℕ) (t : Taken) → k < n → slice_get taken k ≡ Some t → slice_get (map (λ (u : Taken). u.latency) (take n taken)) k ≡ Some t.latency
latency_at [] k n t h at = absurd (none_some t at)
latency_at (u ∷ taken) k zero t h at = absurd (omega arith)
latency_at (u ∷ taken) zero (suc n) t h at = ap (λ (v : Taken). Some v.latency) (some_is u t at)
latency_at (u ∷ taken) (suc k) (suc n) t h at = latency_at taken k n t (omega arith) at

-- what holds of what each job asks holds of dependences
module _ (P : ℕ → Ask → Type 0) (insns : List Insn) (taken : List Taken) (all : (place : ℕ) (job : Job) → slice_get (jobs_of insns taken) place ≡ Some job → AllByRecursion (P place) job.asks) where
  pub of_waits : (one other weight : ℕ) → Waits insns taken one other weight → P other (record { job = one; weight = weight })
  of_waits one other weight w =
      let before : List Insn = take other insns in
      let latencies : List ℕ = map (λ (u : Taken). u.latency) (take other taken) in
      let at : slice_get (jobs_of insns taken) other ≡ Some (job_of before latencies w.later w.takes_other.ways) = job_at [] [] insns taken other w.later w.takes_other w.at_other w.of_other in
      let asks : AllByRecursion (P other) (asks_from 0 before latencies w.later) = all other (job_of before latencies w.later w.takes_other.ways) at in
      let found = asked (P other) 0 before latencies w.later asks one w.takes.latency weight w.earlier (front_at insns one other w.earlier w.before w.at_one) (latency_at taken one other w.takes w.before w.of_one) w.depends in
      let same : 0 + one ≡ one = omega arith in
      subst (λ (p : ℕ). P other (record { job = p; weight = weight })) same found

pub keep_dependences : KeepDependences
keep_dependences insns taken cycles order are places is = (
  of_waits (IsLate cycles) insns taken (come_late (jobs_of insns taken) cycles are places).late,
  of_waits (λ (place : ℕ) (ask : Ask). IsAhead order ask.job place) insns taken (come_behind (jobs_of insns taken) cycles order are places is),
)

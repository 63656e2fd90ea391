-- The jobs of instructions: one more.
use Rattle.std.proofs.Common.{◌≡◌, ℕ, ◌+◌, ◌<◌, ◌≤◌, List, [], ◌∷◌, ◌++◌, map, take, length, get_or, append_assoc, refl, sym, ap, subst, ◌∙◌, arith}
use Rattle.std.specs.List.{AllZip}
use Rattle.std.proofs.lemmas.List.{append-nil, take_more, take_all, length-map}
use Rattle.rtx_tree.specs.declared.function.Insn.{Insn}
use Rattle.job_order.specs.declared.job.Job.{Job}
use Rattle.region_jobs.specs.declared.taken.Taken.{Taken}
use Rattle.region_jobs.specs.Jobs.{job_of, jobs_behind, jobs_of}
use Rattle.region_jobs.specs.Kept.{IsTaken}
use Rattle.region_jobs.proofs.JobLaws.{make_jobs}
use Rattle.job_order.specs.Jobs.{AreJobs}
use Rattle.rtx_tree.specs.Limit.{most_scheduled}
use Rattle.md_dfa.specs.Lawful.{AreLawful}
use Rattle.pipe_uses.proofs.TakesLaws.{takes_lawful}
use Rattle.md_forms.specs.declared.form.Entry.{Entry}
use Rattle.md_dfa.specs.declared.pipeline.Pipeline.{Pipeline}
use Rattle.pipe_uses.specs.Takes.{Takes}
use Rattle.schedule.specs.machine.Made.{AreJobsOf}
use Rattle.schedule.proofs.ZipLaws.{zip_more, zip_long, zip_all}

abbrev pub latencies_of : List Taken → List ℕ
latencies_of taken = map (λ (t : Taken). t.latency) taken

-- the jobs of instructions with one behind them
jobs_push : (before : List Insn) (latencies : List ℕ) (insns : List Insn) (taken : List Taken) (i : Insn) (t : Taken) → length insns ≡ length taken
    → jobs_behind before latencies (insns ++ i ∷ []) (taken ++ t ∷ []) ≡ jobs_behind before latencies insns taken ++ job_of (before ++ insns) (latencies ++ latencies_of taken) i t.ways ∷ []
jobs_push before latencies [] [] i t same = ap (λ (b : List Insn). job_of b latencies i t.ways ∷ []) (sym (append-nil before)) ∙ ap (λ (l : List ℕ). job_of (before ++ []) l i t.ways ∷ []) (sym (append-nil latencies))
jobs_push before latencies [] (u ∷ taken) i t same = absurd (omega arith)
jobs_push before latencies (x ∷ insns) [] i t same = absurd (omega arith)
jobs_push before latencies (x ∷ insns) (u ∷ taken) i t same =
    let rest = jobs_push (before ++ x ∷ []) (latencies ++ u.latency ∷ []) insns taken i t (omega arith) in
    let fronts : (before ++ x ∷ []) ++ insns ≡ before ++ (x ∷ insns) = append_assoc before (x ∷ []) insns in
    let lats : (latencies ++ u.latency ∷ []) ++ latencies_of taken ≡ latencies ++ (u.latency ∷ latencies_of taken) = append_assoc latencies (u.latency ∷ []) (latencies_of taken) in
    let here : job_of ((before ++ x ∷ []) ++ insns) ((latencies ++ u.latency ∷ []) ++ latencies_of taken) i t.ways ≡ job_of (before ++ (x ∷ insns)) (latencies ++ (u.latency ∷ latencies_of taken)) i t.ways =
    ap (λ (b : List Insn). job_of b ((latencies ++ u.latency ∷ []) ++ latencies_of taken) i t.ways) fronts ∙ ap (λ (l : List ℕ). job_of (before ++ (x ∷ insns)) l i t.ways) lats in
    ap (λ (js : List Job). job_of before latencies x u.ways ∷ js) (rest ∙ ap (λ (j : Job). jobs_behind (before ++ x ∷ []) (latencies ++ u.latency ∷ []) insns taken ++ j ∷ []) here)

-- what a loop over instructions knows
pub record AreJobsUpto (forms : List Entry) (p : Pipeline) (insns : List Insn) (jobs : List Job) (latencies : List ℕ) : Type 0 where
  pub taken : List Taken
  pub takes : AllZip (Takes forms p) insns taken
  pub jobs_are : jobs ≡ jobs_of insns taken
  pub latencies_are : latencies ≡ latencies_of taken

pub upto_none : (forms : List Entry) (p : Pipeline) → AreJobsUpto forms p [] [] []
upto_none forms p = record { taken = []; takes = tt; jobs_are = refl; latencies_are = refl }

mapped_push : {A B : Type 0} (f : A → B) (xs : List A) (x : A) → map f (xs ++ x ∷ []) ≡ map f xs ++ f x ∷ []
mapped_push f [] x = refl
mapped_push f (y ∷ xs) x = ap (λ ys. f y ∷ ys) (mapped_push f xs x)

module _ (forms : List Entry) (p : Pipeline) (insns : List Insn) (place : ℕ) (i : Insn) (within : place < length insns) (is : i ≡ get_or insns place i) where
  pub upto_more : (jobs : List Job) (latencies : List ℕ) (t : Taken) → AreJobsUpto forms p (take place insns) jobs latencies → Takes forms p i t
      → AreJobsUpto forms p (take (place + 1) insns) (jobs ++ job_of (take place insns) latencies i t.ways ∷ []) (latencies ++ t.latency ∷ [])
  upto_more jobs latencies t old takes =
      let long : length (take place insns) ≡ length old.taken = zip_long (Takes forms p) (take place insns) old.taken old.takes in
      let front : take (place + 1) insns ≡ take place insns ++ i ∷ [] = take_more insns place i within ∙ ap (λ (j : Insn). take place insns ++ j ∷ []) (sym is) in
      record {
        taken = old.taken ++ t ∷ [];
        takes = zip_more (Takes forms p) insns old.taken place i t within is old.takes takes;
        jobs_are = ap (λ (js : List Job). js ++ job_of (take place insns) latencies i t.ways ∷ []) old.jobs_are
            ∙ (ap (λ (l : List ℕ). jobs_of (take place insns) old.taken ++ job_of (take place insns) l i t.ways ∷ []) old.latencies_are
            ∙ (sym (jobs_push [] [] (take place insns) old.taken i t long) ∙ ap (λ (b : List Insn). jobs_of b (old.taken ++ t ∷ [])) (sym front)));
        latencies_are = ap (λ (l : List ℕ). l ++ t.latency ∷ []) old.latencies_are ∙ sym (mapped_push (λ (u : Taken). u.latency) old.taken t);
      }

-- behind the last
pub upto_all : (forms : List Entry) (p : Pipeline) (insns : List Insn) (place : ℕ) (jobs : List Job) (latencies : List ℕ) → length insns ≤ place → AreJobsUpto forms p (take place insns) jobs latencies → AreJobsOf forms p insns jobs
upto_all forms p insns place jobs latencies past upto =
    let all : take place insns ≡ insns = take_all place insns past in
    record {
      taken = upto.taken;
      takes = subst (λ (l : List Insn). AllZip (Takes forms p) l upto.taken) all upto.takes;
      jobs_are = upto.jobs_are ∙ ap (λ (l : List Insn). jobs_of l upto.taken) all;
    }

-- latencies are as many as instructions
pub upto_long : (forms : List Entry) (p : Pipeline) (insns : List Insn) (jobs : List Job) (latencies : List ℕ) → AreJobsUpto forms p insns jobs latencies → length insns ≤ length latencies
upto_long forms p insns jobs latencies upto =
    let long = zip_long (Takes forms p) insns upto.taken upto.takes in
    let same : length latencies ≡ length (latencies_of upto.taken) = ap length upto.latencies_are in
    let mapped : length (latencies_of upto.taken) ≡ length upto.taken = length-map upto.taken (λ (t : Taken). t.latency) in
    omega (arith, long, same, mapped)

-- the jobs can be placed
module _ (forms : List Entry) (p : Pipeline) (lawful : AreLawful p) (insns : List Insn) (few : length insns ≤ most_scheduled) where
  pub can_place : (taken : List Taken) → AllZip (Takes forms p) insns taken → AreJobs (jobs_of insns taken)
  can_place taken takes = make_jobs insns taken few (zip_all (Takes forms p) IsTaken (λ i t. takes_lawful forms p i t lawful) insns taken takes)

  pub are_placeable : (jobs : List Job) → AreJobsOf forms p insns jobs → AreJobs jobs
  are_placeable jobs of = subst AreJobs (sym of.jobs_are) (can_place of.taken of.takes)

jobs_long : (before : List Insn) (latencies : List ℕ) (insns : List Insn) (taken : List Taken) → length insns ≡ length taken → length (jobs_behind before latencies insns taken) ≡ length insns
jobs_long before latencies [] taken same = refl
jobs_long before latencies (i ∷ insns) [] same = absurd (omega arith)
jobs_long before latencies (i ∷ insns) (t ∷ taken) same = let rest = jobs_long (before ++ i ∷ []) (latencies ++ t.latency ∷ []) insns taken (omega arith) in omega (arith, rest)

-- jobs are as many as instructions
pub as_many : (forms : List Entry) (p : Pipeline) (insns : List Insn) (taken : List Taken) → AllZip (Takes forms p) insns taken → length (jobs_of insns taken) ≡ length insns
as_many forms p insns taken takes = jobs_long [] [] insns taken (zip_long (Takes forms p) insns taken takes)

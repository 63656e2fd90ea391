-- One job more is placed.
use Rattle.std.proofs.Common.{◌≡◌, ℕ, zero, suc, ◌<◌, List, [], ◌∷◌, Some, None, length, get_or, sym, ap, ◌∙◌, arith}
use Rattle.std.specs.Prelude.{slice_get}
use Rattle.job_order.specs.declared.job.Job.{Job}
use Rattle.job_order.specs.declared.placed.Placed.{Placed}
use Rattle.job_order.specs.Jobs.{heights}
use Rattle.job_order.specs.Order.{next_from, next}

pub there : (jobs : List Job) (k : ℕ) (j : Job) → k < length jobs → j ≡ get_or jobs k j → slice_get jobs k ≡ Some j
there [] k j h is = absurd (omega arith)
there (x ∷ jobs) zero j h is = ap (λ (i : Job). Some i) (sym is)
there (x ∷ jobs) (suc k) j h is = there jobs k j (omega arith) is

pub next_some : (jobs : List Job) (s : Placed) (hs all : List ℕ) (k : ℕ) → hs ≡ all → all ≡ heights jobs → Some k ≡ next_from s hs 0 jobs → next jobs s ≡ Some k
next_some jobs s hs all k same are e = ap (λ (xs : List ℕ). next_from s xs 0 jobs) (sym (same ∙ are)) ∙ sym e

pub next_none : (jobs : List Job) (s : Placed) (hs all : List ℕ) → hs ≡ all → all ≡ heights jobs → None ≡ next_from s hs 0 jobs → next jobs s ≡ None
next_none jobs s hs all same are e = ap (λ (xs : List ℕ). next_from s xs 0 jobs) (sym (same ∙ are)) ∙ sym e

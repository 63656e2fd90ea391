-- Jobs come behind those that they depend on.
use Rattle.std.proofs.Common.{◌≡◌, ℕ, ◌+◌, ◌<◌, ◌≤◌, inl, inr, List, [], ◌∷◌, get_or, sym, ap, ◌∙◌, arith}
use Rattle.std.specs.List.{AllByRecursion}
use Rattle.std.proofs.lemmas.Bool.{cases_lt, cases_eq}
use Rattle.job_order.specs.declared.job.Ask.{Ask}
use Rattle.job_order.specs.Jobs.{IsAsk}
use Rattle.job_order.specs.Order.{ComesBefore, IsOrder}
use Rattle.law_order.specs.Late.{IsLate, IsAhead, ComeBehind}
use Rattle.law_order.proofs.Ready.{job_there}
use Rattle.law_order.proofs.AllLate.{come_late}

-- what comes no earlier, and stands behind, comes before nothing in front
not_before : (cycles : List ℕ) (one place : ℕ) → one < place → get_or cycles one 0 ≤ get_or cycles place 0 → ComesBefore cycles place one → ⊥
not_before cycles one place less late (inl before) = absurd (omega arith)
not_before cycles one place less late (inr (same, before)) = absurd (omega arith)

ahead : (cycles order : List ℕ) (place : ℕ) (ask : Ask) → IsOrder cycles order → IsAsk place ask → IsLate cycles place ask → IsAhead order ask.job place
ahead cycles order place ask is asked late i j in_one in_other at_one at_other =
    let less : ask.job < place = asked.before in
    let weight : get_or cycles ask.job 0 + ask.weight ≤ get_or cycles place 0 = late in
    elim (cases_lt i j) as (λ c. i < j) [
      | inl h ↦ h
      | inr h ↦ elim (cases_eq i j) as (λ c. i < j) [
        | inl e ↦ let same : ask.job ≡ place = sym at_one ∙ ap (λ (k : ℕ). get_or order k 0) e ∙ at_other in absurd (omega arith)
        | inr e ↦ let pair : ComesBefore cycles (get_or order j 0) (get_or order i 0) = is.sorted j i 0 (omega arith) in_one in
            absurd (not_before cycles ask.job place less (omega arith) (rw (at_other, at_one) at pair))
      ]
    ]

all_ahead : (cycles order : List ℕ) (place : ℕ) (asks : List Ask) → IsOrder cycles order → AllByRecursion (IsAsk place) asks → AllByRecursion (IsLate cycles place) asks → AllByRecursion (λ (ask : Ask). IsAhead order ask.job place) asks
all_ahead cycles order place [] is asked late = tt
all_ahead cycles order place (ask ∷ asks) is asked late = (ahead cycles order place ask is asked.0 late.0, all_ahead cycles order place asks is asked.1 late.1)

pub come_behind : ComeBehind
come_behind jobs cycles order are places is place job at =
    all_ahead cycles order place job.asks is (job_there jobs place job are at).asks ((come_late jobs cycles are places).late place job at)

-- The jobs of instructions can be placed.
use Rattle.std.proofs.Common.{◌≡◌, ℕ, zero, suc, ◌+◌, ◌<◌, ◌≤◌, Bool, true, false, List, [], ◌∷◌, ◌++◌, Option, Some, None, cond, length, get_or, refl, subst, arith}
use Rattle.std.specs.List.{AllByRecursion}
use Rattle.std.proofs.lemmas.List.{length-append}
use Rattle.rtx_tree.specs.Limit.{most_latency}
use Rattle.rtx_tree.specs.declared.function.Insn.{Insn}
use Rattle.job_order.specs.declared.job.Job.{Job}
use Rattle.job_order.specs.Jobs.{IsAsk, IsJob}
use Rattle.insn_depends.specs.Depends.{awaits, depends, weight, dependence}
use Rattle.region_jobs.specs.declared.taken.Taken.{Taken}
use Rattle.region_jobs.specs.Jobs.{ask_for, asks_from, jobs_behind, jobs_of}
use Rattle.region_jobs.specs.Kept.{IsTaken, MakeJobs}

pub some_is : {A : Type 0} (x y : A) → Some x ≡ Some y → x ≡ y
some_is x y e = cc

pub none_some : {A : Type 0} (x : A) → None ≡ Some x → ⊥
none_some x e = cc

pub all_joined : {A : Type 0} (P : A → Type 0) (xs ys : List A) → AllByRecursion P xs → AllByRecursion P ys → AllByRecursion P (xs ++ ys)
all_joined P [] ys one other = other
all_joined P (x ∷ xs) ys one other = (one.0, all_joined P xs ys one.1 other)

-- ---- weights

weight_light : (latency : ℕ) (i j : Insn) → weight latency i j ≤ latency
weight_light latency i j =
    let go : (b : Bool) → cond b latency 0 ≤ latency = λ b. elim b as (λ b. cond b latency 0 ≤ latency) [ true ↦ omega arith | false ↦ omega arith ] in
    go (awaits i j)

pub dependence_light : (latency w : ℕ) (i j : Insn) → dependence latency i j ≡ Some w → w ≤ latency
dependence_light latency w i j e =
    let go : (b : Bool) → cond b (Some (weight latency i j)) None ≡ Some w → w ≤ latency =
    λ b. elim b as (λ b. cond b (Some (weight latency i j)) None ≡ Some w → w ≤ latency) [
      | true ↦ λ h. subst (λ (n : ℕ). n ≤ latency) (some_is (weight latency i j) w h) (weight_light latency i j)
      | false ↦ λ h. absurd (none_some w h)
    ] in
    go (depends i j) e

-- ---- asks

one_ask : (place n latency : ℕ) (i j : Insn) → place < n → latency ≤ most_latency → AllByRecursion (IsAsk n) (ask_for place (dependence latency i j))
one_ask place n latency i j within light =
    let go : (o : Option ℕ) → dependence latency i j ≡ o → AllByRecursion (IsAsk n) (ask_for place o) =
    λ o. elim o as (λ o. dependence latency i j ≡ o → AllByRecursion (IsAsk n) (ask_for place o)) [
      | None ↦ λ e. tt
      | Some w ↦ λ e. (record { before = within; light = let low : w ≤ latency = dependence_light latency w i j e in omega arith }, tt)
    ] in
    go (dependence latency i j) refl

abbrev pub IsLight : ℕ → Type 0
IsLight latency = latency ≤ most_latency

asks_before : (place n : ℕ) (before : List Insn) (latencies : List ℕ) (later : Insn) → place + length before ≤ n → AllByRecursion IsLight latencies → AllByRecursion (IsAsk n) (asks_from place before latencies later)
asks_before place n [] latencies later within light = tt
asks_before place n (i ∷ insns) [] later within light = tt
asks_before place n (i ∷ insns) (latency ∷ latencies) later within light =
    all_joined (IsAsk n) (ask_for place (dependence latency i later)) (asks_from (place + 1) insns latencies later) (one_ask place n latency i later (omega arith) light.0) (asks_before (place + 1) n insns latencies later (omega arith) light.1)

-- ---- jobs

jobs_few : (before : List Insn) (latencies : List ℕ) (insns : List Insn) (taken : List Taken) → length (jobs_behind before latencies insns taken) ≤ length insns
jobs_few before latencies [] taken = omega arith
jobs_few before latencies (i ∷ insns) [] = omega arith
jobs_few before latencies (i ∷ insns) (t ∷ taken) = let rest = jobs_few (before ++ i ∷ []) (latencies ++ t.latency ∷ []) insns taken in omega (arith, rest)

jobs_each : (n : ℕ) (before : List Insn) (latencies : List ℕ) (insns : List Insn) (taken : List Taken) → length before ≡ n → AllByRecursion IsLight latencies → AllByRecursion IsTaken taken → (k : ℕ) (d : Job) → k < length (jobs_behind before latencies insns taken) → IsJob (n + k) (get_or (jobs_behind before latencies insns taken) k d)
jobs_each n before latencies [] taken long light all k d h = absurd (omega arith)
jobs_each n before latencies (i ∷ insns) [] long light all k d h = absurd (omega arith)
jobs_each n before latencies (i ∷ insns) (t ∷ taken) long light all zero d h = record {
  some = all.0.some;
  short = all.0.short;
  asks = asks_before 0 (n + 0) before latencies i (omega arith) light;
}
jobs_each n before latencies (i ∷ insns) (t ∷ taken) long light all (suc k) d h =
    let more : length (before ++ i ∷ []) ≡ n + 1 = let l = length-append before (i ∷ []) in omega (arith, l) in
    let rest = jobs_each (n + 1) (before ++ i ∷ []) (latencies ++ t.latency ∷ []) insns taken more (all_joined IsLight latencies (t.latency ∷ []) light (all.0.light, tt)) all.1 k d (omega arith) in
    let same : n + 1 + k ≡ n + suc k = omega arith in
    subst (λ (p : ℕ). IsJob p (get_or (jobs_behind (before ++ i ∷ []) (latencies ++ t.latency ∷ []) insns taken) k d)) same rest

pub make_jobs : MakeJobs
make_jobs insns taken few all = record {
  few = let l = jobs_few [] [] insns taken in omega (arith, l);
  each = λ k d h. let job = jobs_each 0 [] [] insns taken refl tt all k d h in let same : 0 + k ≡ k = omega arith in subst (λ (p : ℕ). IsJob p (get_or (jobs_of insns taken) k d)) same job;
}

-- Heights: one job more behind the one at a place, and one place more.
use Rattle.std.proofs.Common.{◌≡◌, ℕ, ◌+◌, ◌*◌, ◌<◌, ◌≤◌, ◌==◌, max, Bool, true, false, List, [], ◌∷◌, Some, cond, inl, inr, length, drop, get_or, set, replicate, sym, ap, subst, ◌∙◌, arith}
use Rattle.std.specs.List.{AllByRecursion}
use Rattle.std.specs.Option.{option_map_or}
use Rattle.std.proofs.lemmas.Bool.{cases_eq}
use Rattle.std.proofs.lemmas.List.{drop_more, drop_all, at_drop_more, drop-set, length-set, get_or-set_same, get_or-set_other, get_or-replicate, length-replicate}
use Rattle.job_order.specs.declared.job.Ask.{Ask}
use Rattle.job_order.specs.declared.job.Job.{Job}
use Rattle.rtx_tree.specs.Limit.{most_latency}
use Rattle.job_order.specs.Jobs.{IsAsk, weight_on, height_under, heights_from}
use Rattle.job_order.specs.machine.Bounds.{AreLow}

-- ---- a weight

pub weight_light : (k place : ℕ) (asks : List Ask) (weight : ℕ) → AllByRecursion (IsAsk k) asks → weight_on place asks ≡ Some weight → weight ≤ most_latency
weight_light k place [] weight all e = absurd (cc)
weight_light k place (a ∷ asks) weight all e =
    let go : (b : Bool) → cond b (Some a.weight) (weight_on place asks) ≡ Some weight → weight ≤ most_latency =
    λ b. elim b as (λ b. cond b (Some a.weight) (weight_on place asks) ≡ Some weight → weight ≤ most_latency) [
      | true ↦ λ h. let same : a.weight ≡ weight = cc in subst (λ (n : ℕ). n ≤ most_latency) same all.0.light
      | false ↦ λ h. weight_light k place asks weight all.1 h
    ] in
    go (a.job == place) e

-- ---- a job more behind one

abbrev pub over : ℕ → Job → ℕ → ℕ
over place job height = option_map_or (λ weight. weight + height) (weight_on place job.asks) 0

pub under_more : (place at highest : ℕ) (jobs : List Job) (heights : List ℕ) (job : Job) (height all : ℕ) → at < length jobs → at < length heights → job ≡ get_or jobs at job → height ≡ get_or heights at 0
    → max highest (height_under place (drop at jobs) (drop at heights)) ≡ all → max (max highest (over place job height)) (height_under place (drop (at + 1) jobs) (drop (at + 1) heights)) ≡ all
under_more place at highest jobs heights job height all in_jobs in_heights is_job is_height so_far =
    let js : drop at jobs ≡ job ∷ drop (at + 1) jobs = drop_more jobs at job in_jobs ∙ ap (λ (j : Job). j ∷ drop (at + 1) jobs) (sym is_job) in
    let hs : drop at heights ≡ height ∷ drop (at + 1) heights = drop_more heights at 0 in_heights ∙ ap (λ (h : ℕ). h ∷ drop (at + 1) heights) (sym is_height) in
    let here : height_under place (drop at jobs) (drop at heights) ≡ max (over place job height) (height_under place (drop (at + 1) jobs) (drop (at + 1) heights)) = ap (λ (x : List Job). height_under place x (drop at heights)) js ∙ ap (height_under place (job ∷ drop (at + 1) jobs)) hs in
    omega (arith, here, so_far)

pub under_all : (place at highest : ℕ) (jobs : List Job) (heights : List ℕ) (all : ℕ) → length jobs ≤ at → max highest (height_under place (drop at jobs) (drop at heights)) ≡ all → highest ≡ all
under_all place at highest jobs heights all end so_far =
    let none : height_under place (drop at jobs) (drop at heights) ≡ 0 = ap (λ (x : List Job). height_under place x (drop at heights)) (drop_all at jobs end) in
    omega (arith, none, so_far)

-- ---- a place more

pub heights_more : (jobs : List Job) (heights : List ℕ) (place height : ℕ) → place < length jobs → length heights ≡ length jobs → drop (place + 1) heights ≡ heights_from (place + 1) (drop (place + 1) jobs)
    → height ≡ height_under place (drop (place + 1) jobs) (drop (place + 1) heights) → drop place (set heights place height) ≡ heights_from place (drop place jobs)
heights_more [] heights place height within all behind is = absurd (omega arith)
heights_more (d ∷ jobs) heights place height within all behind is =
    let js : List Job = d ∷ jobs in
    let in_heights : place < length heights = omega arith in
    let here : height ≡ height_under place (drop (place + 1) js) (heights_from (place + 1) (drop (place + 1) js)) = is ∙ ap (height_under place (drop (place + 1) js)) behind in
    let first : drop place (set heights place height) ≡ height ∷ drop (place + 1) heights = drop-set heights place height in_heights in
    let last : heights_from place (drop place js) ≡ height_under place (drop (place + 1) js) (heights_from (place + 1) (drop (place + 1) js)) ∷ heights_from (place + 1) (drop (place + 1) js) = at_drop_more (heights_from place) js place d within in
    first ∙ ap (λ (hs : List ℕ). height ∷ hs) behind ∙ ap (λ (h : ℕ). h ∷ heights_from (place + 1) (drop (place + 1) js)) here ∙ sym last

pub low_more : (heights : List ℕ) (place height : ℕ) → place < length heights → AreLow heights → height + most_latency * place ≤ most_latency * length heights → AreLow (set heights place height)
low_more heights place height within low here k h =
    let long : length (set heights place height) ≡ length heights = length-set heights place height in
    elim (cases_eq k place) as (λ e. get_or (set heights place height) k 0 + most_latency * k ≤ most_latency * length (set heights place height)) [
      | inl same ↦ let v : get_or (set heights place height) k 0 ≡ height = ap (λ (i : ℕ). get_or (set heights place height) i 0) same ∙ get_or-set_same heights place height 0 within in omega (arith, v, long, same)
      | inr other ↦ let v : get_or (set heights place height) k 0 ≡ get_or heights k 0 = get_or-set_other heights place k height 0 other in let in' : k < length heights = omega arith in omega (arith, v, long, low k in')
    ]

pub low_none : (n : ℕ) → AreLow (replicate n 0)
low_none n k h =
    let zeros : List ℕ = replicate n 0 in
    let long : length zeros ≡ n = length-replicate n 0 in
    let within : k < n = omega (arith, long, h) in
    let v : get_or zeros k 0 ≡ 0 = get_or-replicate n k 0 0 within in
    omega (arith, v, long)

-- What is asked of one instruction more.
use Rattle.std.proofs.Common.{◌≡◌, ℕ, ◌+◌, ◌<◌, ◌≤◌, List, [], ◌∷◌, ◌++◌, drop, length, get_or, append_assoc, sym, ap, ◌∙◌}
use Rattle.std.proofs.lemmas.List.{append-nil, drop_more, drop_all}
use Rattle.rtx_tree.specs.declared.function.Insn.{Insn}
use Rattle.job_order.specs.declared.job.Ask.{Ask}
use Rattle.insn_depends.specs.Depends.{dependence}
use Rattle.region_jobs.specs.Jobs.{ask_for, asks_from}

pub asks_more : (asks new all : List Ask) (place : ℕ) (before : List Insn) (latencies : List ℕ) (later earlier : Insn) (latency : ℕ) → place < length before → place < length latencies → earlier ≡ get_or before place earlier → latency ≡ get_or latencies place 0
    → new ≡ asks ++ ask_for place (dependence latency earlier later) → asks ++ asks_from place (drop place before) (drop place latencies) later ≡ all → new ++ asks_from (place + 1) (drop (place + 1) before) (drop (place + 1) latencies) later ≡ all
asks_more asks new all place before latencies later earlier latency in_before in_latencies is_earlier is_latency added so_far =
    let rest : List Ask = asks_from (place + 1) (drop (place + 1) before) (drop (place + 1) latencies) later in
    let fronts : drop place before ≡ earlier ∷ drop (place + 1) before = drop_more before place earlier in_before ∙ ap (λ (i : Insn). i ∷ drop (place + 1) before) (sym is_earlier) in
    let backs : drop place latencies ≡ latency ∷ drop (place + 1) latencies = drop_more latencies place 0 in_latencies ∙ ap (λ (n : ℕ). n ∷ drop (place + 1) latencies) (sym is_latency) in
    let here : asks_from place (drop place before) (drop place latencies) later ≡ ask_for place (dependence latency earlier later) ++ rest = ap (λ (b : List Insn). asks_from place b (drop place latencies) later) fronts ∙ ap (λ (l : List ℕ). asks_from place (earlier ∷ drop (place + 1) before) l later) backs in
    ap (λ (a : List Ask). a ++ rest) added ∙ (append_assoc asks (ask_for place (dependence latency earlier later)) rest ∙ (ap (λ (a : List Ask). asks ++ a) (sym here) ∙ so_far))

pub asks_all : (asks all : List Ask) (place : ℕ) (before : List Insn) (latencies : List ℕ) (later : Insn) → length before ≤ place → asks ++ asks_from place (drop place before) (drop place latencies) later ≡ all → asks ≡ all
asks_all asks all place before latencies later end so_far =
    let none : asks_from place (drop place before) (drop place latencies) later ≡ [] = ap (λ (b : List Insn). asks_from place b (drop place latencies) later) (drop_all place before end) in
    sym (append-nil asks) ∙ (ap (λ (a : List Ask). asks ++ a) (sym none) ∙ so_far)

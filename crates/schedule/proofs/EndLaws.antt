-- Where regions end.
use Rattle.std.proofs.Common.{◌≡◌, ℕ, ◌+◌, ◌-◌, ◌<◌, ◌≤◌, inl, inr, List, length, take, drop, ap, ◌∙◌, arith}
use Rattle.std.specs.List.{prefix_len}
use Rattle.std.proofs.lemmas.Bool.{cases_lt}
use Rattle.std.proofs.lemmas.List.{take-take, take_rest, length-take, length-drop}
use Rattle.std.proofs.lemmas.List.Sums.{prefix_len-le-length}
use Rattle.rtx_tree.specs.Limit.{most_scheduled}
use Rattle.rtx_tree.specs.declared.function.Insn.{Insn}
use Rattle.rtx_tree.specs.declared.function.Function.{Function}
use Rattle.new_insns.specs.Replaced.{window}
use Rattle.region_jobs.specs.Region.{is_plain, region_length}
use Rattle.schedule.specs.Schedule.{region_end}

-- as far as regions go, or up to the last instruction, a window tells where one ends
pub end_seen : (f : Function) (place most : ℕ) → place ≤ most → (most < place + most_scheduled → most ≡ length f.insns) → place + region_length (window f place most) ≡ region_end f place
end_seen f place most order last = elim (cases_lt most (place + most_scheduled)) as (λ c. place + region_length (window f place most) ≡ region_end f place) [
  | inl less ↦ ap (λ (l : List Insn). place + region_length l) (ap (λ (n : ℕ). take (n - place) (drop place f.insns)) (last less) ∙ take_rest f.insns place)
  | inr more ↦ ap (λ (l : List Insn). place + prefix_len is_plain l) (take-take most_scheduled (most - place) (drop place f.insns) (omega arith))
]

pub length_within : (insns : List Insn) → region_length insns ≤ length insns
length_within insns =
    let one = prefix_len-le-length is_plain (take most_scheduled insns) in
    let other = length-take most_scheduled insns in
    omega (arith, one, other)

pub length_few : (insns : List Insn) → region_length insns ≤ most_scheduled
length_few insns =
    let one = prefix_len-le-length is_plain (take most_scheduled insns) in
    let other = length-take most_scheduled insns in
    omega (arith, one, other)

pub end_within : (f : Function) (place : ℕ) → place ≤ length f.insns → region_end f place ≤ length f.insns
end_within f place within =
    let one = length_within (drop place f.insns) in
    let other = length-drop place f.insns in
    omega (arith, one, other)

pub window_long : (f : Function) (first end : ℕ) → first ≤ end → end ≤ length f.insns → length (window f first end) ≡ end - first
window_long f first end order within =
    let one = length-take (end - first) (drop first f.insns) in
    let other = length-drop first f.insns in
    omega (arith, one, other)

pub window_few : (f : Function) (place end : ℕ) → end ≡ region_end f place → length (window f place end) ≤ most_scheduled
window_few f place end is =
    let one = length-take (end - place) (drop place f.insns) in
    let few = length_few (drop place f.insns) in
    omega (arith, one, few, is)

-- Each step takes one instruction away.
use Rattle.std.proofs.Common.{◌≡◌, ℕ, suc, ◌+◌, ◌-◌, ◌<◌, ◌≤◌, List, [], ◌∷◌, ◌++◌, length, take, drop, ap, ◌∙◌, arith}
use Rattle.std.proofs.lemmas.List.{length-append, length-drop, length-take-le}
use Rattle.std.proofs.lemmas.Option.{slice_get_within}
use Rattle.rtx_tree.specs.declared.tree.Rtx.{Rtx}
use Rattle.rtx_tree.specs.declared.function.Insn.{Insn}
use Rattle.rtx_tree.specs.declared.function.Function.{Function}
use Rattle.new_insns.specs.Replaced.{window}
use Rattle.md_forms.specs.declared.form.Entry.{Entry}
use Rattle.combine.specs.Combine.{fused_window, combined_at, IsStep, Steps}
use Rattle.combine.proofs.Windows.{last_long}

fused_long : (x : Rtx) (insns : List Insn) → 0 < length insns → suc (length (fused_window x insns)) ≡ length insns
fused_long x [] some = absurd (omega arith)
fused_long x (i ∷ insns) some = ap suc (last_long x insns)

pub combined_long : (f : Function) (first second : ℕ) (x : Rtx) → first < second → second < length f.insns → suc (length (combined_at f first second x).insns) ≡ length f.insns
combined_long f first second x before within =
    let old = window f first (second + 1) in
    let new = fused_window x old in
    let front = length-take-le first f.insns (omega (arith, before, within)) in
    let rest = length-drop first f.insns in
    let long = length-take-le (second + 1 - first) (drop first f.insns) (omega (arith, before, within, rest)) in
    let one = fused_long x old (omega (arith, long, before)) in
    let behind = length-drop (second + 1) f.insns in
    let whole = length-append (take first f.insns) (new ++ drop (second + 1) f.insns) in
    let back = length-append new (drop (second + 1) f.insns) in
    omega (arith, front, long, one, behind, whole, back, before, within)

-- what stands for the window of a pair is shorter
pub pair_shorter : (f : Function) (first second : ℕ) (x : Rtx) (new : List Insn) → first < second → second < length f.insns → new ≡ fused_window x (window f first (second + 1)) → first + length new ≤ second + 1
pair_shorter f first second x new before within is =
    let rest = length-drop first f.insns in
    let long = length-take-le (second + 1 - first) (drop first f.insns) (omega (arith, before, within, rest)) in
    let one = fused_long x (window f first (second + 1)) (omega (arith, long, before)) in
    let same = ap length is in
    omega (arith, long, one, same, before)

pub step_long : (forms : List Entry) (f g : Function) → IsStep forms f g → suc (length g.insns) ≡ length f.insns
step_long forms f g step =
    ap (λ (h : Function). suc (length h.insns)) step.makes
    ∙ combined_long f step.first step.second step.pattern step.combines.before (slice_get_within f.insns step.second step.combines.links.other step.combines.links.at_second)

-- so many instructions fewer as there are steps
pub steps_long : (forms : List Entry) (n : ℕ) (f g : Function) → Steps forms n f g → n + length g.insns ≡ length f.insns
steps_long forms _ _ _ (Steps.none f) = omega arith
steps_long forms _ _ _ (Steps.step n f g h one more) =
    let rest = steps_long forms n g h more in
    let here = step_long forms f g one in
    omega (arith, rest, here)

use Rattle.std.proofs.Common.{◌≡◌, ℕ, List, ◌+◌, ◌-◌, ◌<◌, drop, length, length-set, ap, subst, ◌∙◌, arith}
use Rattle.job_order.specs.Jobs as spec
use Rattle.job_order.proofs.HeightLaws.{heights_more, low_more}
use Rattle.job_order.proofs.height.heights_of.Goals as goal

pub loop-place-preserved : goal.loop-place-preserved
loop-place-preserved c =
    let l = c.loop-place in
    let js = c.args.jobs.now in
    let hs = l.heights.items in
    let p : ℕ = l.place - 1 in
    let h = c.height_under-height.result in
    let here : l.place ≡ p + 1 = omega (arith, c.loop-place-test.true) in
    let within : p < length js = omega (arith, c.loop-place-test.true, l.auto.place) in
    let in_heights : p < length hs = omega (arith, l.invariant.all) in
    let behind : drop (p + 1) hs ≡ spec.heights_from (p + 1) (drop (p + 1) js) = subst (λ (k : ℕ). drop k hs ≡ spec.heights_from k (drop k js)) here l.invariant.behind in
    let under : h ≡ spec.height_under p (drop (p + 1) js) (drop (p + 1) hs) = c.height_under-height.ensures.under ∙ ap (λ (xs : List ℕ). spec.height_under p (drop (p + 1) js) (drop (p + 1) xs)) c.deref.ensures.value in
    record {
      behind = heights_more js hs p h within l.invariant.all behind under;
      all = length-set hs p h ∙ l.invariant.all;
      low = low_more hs p h in_heights l.invariant.low (omega (arith, c.height_under-height.ensures.low, l.invariant.all));
    }

use Rattle.std.proofs.Common.{◌≡◌, ◌+◌, ◌≤◌, length, refl, arith}
use Rattle.lint_source.proofs.RunLaws.{goes_on}
use Rattle.lint_source.proofs.run.runs_in.Goals as goal

pub loop-part-preserved : goal.loop-part-preserved
loop-part-preserved c =
    let all : c.len-count.result ≡ length c.args.trees = c.len-count.ensures c.args.trees c.in_ok-arranged.ensures in
    let within : c.loop-part.before + c.part-item.result.trees ≤ c.len-count.result = omega (arith, c.if-part-count.false, c.loop-part.invariant.within) in
    let fits : c.loop-part.before + c.part-item.result.trees ≤ length c.args.trees = omega (arith, all, within) in
    record {
      within = within;
      goes = goes_on c.args.trees c.args.parts.now c.loop-part.part-index c.part-item.result c.loop-part.runs c.push_run.new.runs c.loop-part.before (c.loop-part.before + c.part-item.result.trees) c.in_ok-forms.forms
          c.loop-part-test.true c.part-item.is refl fits (c.in_ok-forms.ensures c.args.trees c.in_ok-arranged.ensures fits) c.in_ok-push_run.ensures c.loop-part.invariant.goes;
    }

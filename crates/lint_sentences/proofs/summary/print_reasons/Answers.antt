use Rattle.std.proofs.Common.{◌<◌, ◌≤◌, ◌++◌, arith}
use Rattle.lint_sentences.specs.Summary as spec
use Rattle.lint_sentences.specs.Each.{each_from}
use Rattle.lint_sentences.proofs.EachLaws.{each_next, each_ends}
use Rattle.lint_sentences.proofs.summary.print_reasons.Goals as goal

pub loop-number-preserved : goal.loop-number-preserved
loop-number-preserved c =
    let within : c.loop-number.number < 13 = omega arith in
    each_next (spec.reason_text c.args.reasons.now) c.loop-number.out.items c.print_reason.new.out.items _ c.loop-number.number 13 within c.in_ok-print_reason.ensures c.loop-number.invariant

pub returns : goal.returns
returns c =
    let past : 13 ≤ c.loop-number.number = omega arith in
    each_ends (spec.reason_text c.args.reasons.now) c.loop-number.out.items (c.args.out.now.items ++ each_from (spec.reason_text c.args.reasons.now) 1 12) c.loop-number.number 13 past c.loop-number.invariant

use Rattle.std.proofs.Common.{◌<◌, ◌≤◌, ◌++◌, arith}
use Rattle.lint_sentences.specs.Instance as spec
use Rattle.lint_sentences.specs.Each.{each_from}
use Rattle.lint_sentences.proofs.EachLaws.{each_next, each_ends}
use Rattle.lint_sentences.proofs.instance.print_shared.Goals as goal

pub loop-second-preserved : goal.loop-second-preserved
loop-second-preserved c =
    let within : c.loop-second.second < 30 = omega arith in
    each_next (spec.shared_with c.args.operands.now) c.loop-second.out.items c.print_shared_with.new.out.items _ c.loop-second.second 30 within c.in_ok-print_shared_with.ensures c.loop-second.invariant

pub returns : goal.returns
returns c =
    let past : 30 ≤ c.loop-second.second = omega arith in
    each_ends (spec.shared_with c.args.operands.now) c.loop-second.out.items (c.args.out.now.items ++ each_from (spec.shared_with c.args.operands.now) 0 30) c.loop-second.second 30 past c.loop-second.invariant

use Rattle.std.proofs.Common.{◌<◌, ◌≤◌, ◌++◌, arith}
use Rattle.lint_sentences.specs.Instance as spec
use Rattle.lint_sentences.specs.Each.{each_from}
use Rattle.lint_sentences.proofs.EachLaws.{each_next, each_ends}
use Rattle.lint_sentences.proofs.instance.print_shared_with.Goals as goal

pub loop-first-preserved : goal.loop-first-preserved
loop-first-preserved c =
    let within : c.loop-first.first < c.args.second = omega arith in
    each_next (spec.shared_by c.args.operands.now c.args.second) c.loop-first.out.items c.print_shared_by.new.out.items _ c.loop-first.first c.args.second within c.in_ok-print_shared_by.ensures c.loop-first.invariant

pub returns : goal.returns
returns c =
    let past : c.args.second ≤ c.loop-first.first = omega arith in
    each_ends (spec.shared_by c.args.operands.now c.args.second) c.loop-first.out.items (c.args.out.now.items ++ each_from (spec.shared_by c.args.operands.now c.args.second) 0 c.args.second) c.loop-first.first c.args.second past c.loop-first.invariant

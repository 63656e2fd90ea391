use Rattle.std.proofs.Common.{◌<◌, ◌≤◌, ◌++◌, arith}
use Rattle.lint_sentences.specs.Instance as spec
use Rattle.lint_sentences.specs.Each.{each_from}
use Rattle.lint_sentences.proofs.EachLaws.{each_next, each_ends}
use Rattle.lint_sentences.proofs.instance.print_each_operand.Goals as goal

pub loop-number-preserved : goal.loop-number-preserved
loop-number-preserved c =
    let within : c.loop-number.number < 30 = omega arith in
    each_next (spec.operand_text_at c.args.operands.now) c.loop-number.out.items c.print_operand_at.new.out.items _ c.loop-number.number 30 within c.in_ok-print_operand_at.ensures c.loop-number.invariant

pub returns : goal.returns
returns c =
    let past : 30 ≤ c.loop-number.number = omega arith in
    each_ends (spec.operand_text_at c.args.operands.now) c.loop-number.out.items (c.args.out.now.items ++ each_from (spec.operand_text_at c.args.operands.now) 0 30) c.loop-number.number 30 past c.loop-number.invariant

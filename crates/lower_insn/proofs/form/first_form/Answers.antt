use Rattle.std.proofs.Common.{arith}
use Rattle.lower_insn.proofs.First.{found_from, found_within, first_nowhere}
use Rattle.lower_insn.proofs.form.first_form.Goals as goal

pub loop-form-smaller : goal.loop-form-smaller
loop-form-smaller c =
    omega (
      arith,
      found_from c.args.desc.now c.args.name.now c.loop-form.from c.in-Some.form c.in-Some.ensures,
      found_within c.args.desc.now c.args.name.now c.loop-form.from c.in-Some.form c.in-Some.ensures,
      c.in_ok-from.ensures,
    )

pub returns : goal.returns
returns c = first_nowhere c.args.desc.now c.args.name.now c.args.operands.now c.loop-form.from c.in_default.ensures c.loop-form.invariant.same

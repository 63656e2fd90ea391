use Rattle.sym_insns.specs.machine.Making.{regs_of, stores_of}
use Rattle.sym_insns.proofs.Values.{made_of_more}
use Rattle.sym_insns.proofs.value.+make.Goals as goal

pub make-returns-in_default : goal.make-returns-in_default
make-returns-in_default t c =
    let same =
    made_of_more (regs_of c.args.before.now) (stores_of c.args.before.now)
    c.args.x.now c.args.w c.as_slice.result.now c.as_slice.ensures.value
    c.in_default.len_at_least in
    rw same at c.made_of_parts.ensures

use Rattle.std.proofs.Common.{◌≡◌, ◌++◌, drop, map}
use Rattle.sym_state.specs.Views.{arg_of, need_of}
use Rattle.sym_insns.specs.Effects.{args_of, args_needs}
use Rattle.sym_insns.specs.machine.Making.{regs_of}
use Rattle.sym_insns.proofs.call.make_args.Given as goal

abbrev pub invariant-loop-arg : goal.invariant-loop-arg
invariant-loop-arg l = record {
  args : map arg_of l.args ++ args_of (regs_of l.before) (drop l.arg-index l.uses)
      ≡ args_of (regs_of l.before) l.uses;
  needs : map need_of l.needs ++ args_needs (regs_of l.before) (drop l.arg-index l.uses)
      ≡ map need_of l.initial.needs ++ args_needs (regs_of l.before) l.uses;
}

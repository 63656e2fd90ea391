use Rattle.std.proofs.Common.{arith}
use Rattle.rtx_tree.specs.declared.function.Insn.{Insn}
use Rattle.code_eval.specs.World.{symbols_in}
use Rattle.code_eval.proofs.Symbols.{symbols_next}
use Rattle.code_eval.proofs.world.symbols_of.Goals as goal

pub loop-insn-preserved : goal.loop-insn-preserved
loop-insn-preserved c = record {
  made = symbols_next (λ (i : Insn). symbols_in i.pattern) c.args.insns.now c.loop-insn.insn-index c.insn-item.result c.loop-insn.used.symbols
      c.push_symbols_in.new.used.symbols _ (omega arith) c.insn-item.is c.in_ok-push_symbols_in.ensures.made c.loop-insn.invariant.made;
  addresses = c.in_ok-push_symbols_in.ensures.addresses c.loop-insn.invariant.addresses;
  named = c.in_ok-push_symbols_in.ensures.named;
}

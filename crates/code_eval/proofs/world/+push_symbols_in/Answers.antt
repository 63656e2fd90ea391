use Rattle.std.proofs.Common.{arith}
use Rattle.code_eval.specs.World.{symbols_in}
use Rattle.code_eval.proofs.Symbols.{symbols_next}
use Rattle.code_eval.proofs.world.+push_symbols_in.Goals as goal

pub loop-kid-preserved : goal.loop-kid-preserved
loop-kid-preserved t c = record {
  made = symbols_next symbols_in c.as_slice-kid-items.result.now c.loop-kid.kid-index c.kid-item.result c.loop-kid.used.symbols
      c.push_symbols_in.new.used.symbols _ (omega arith) c.kid-item.is c.in_ok-push_symbols_in.ensures.made c.loop-kid.invariant.made;
  addresses = λ all. c.in_ok-push_symbols_in.ensures.addresses (c.loop-kid.invariant.addresses all);
  named = c.in_ok-push_symbols_in.ensures.named;
}

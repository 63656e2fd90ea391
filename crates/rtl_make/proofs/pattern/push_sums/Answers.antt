use Rattle.std.proofs.Common.{◌++◌, ◌-◌, arith}
use Rattle.rtl_make.specs.Made.{summing, each_from}
use Rattle.rtl_make.proofs.Turns.{each_turn, each_end}
use Rattle.rtl_make.proofs.pattern.push_sums.Goals as goal

pub loop-k-preserved : goal.loop-k-preserved
loop-k-preserved c = each_turn summing c.loop-k.out c.push.new.self _ c.in_ok-summing.field-0 c.loop-k.k 16 (omega (arith, c.loop-k.auto.k-end)) c.in_ok-summing.ensures c.in_ok-push.ensures.ok c.loop-k.invariant

pub returns : goal.returns
returns c = each_end summing c.loop-k.out (c.args.out.now ++ each_from summing 1 15) c.loop-k.k (16 - c.loop-k.k) (omega (arith, c.loop-k.auto.k-end)) c.loop-k.invariant

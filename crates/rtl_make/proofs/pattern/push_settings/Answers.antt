use Rattle.std.proofs.Common.{◌++◌, ◌-◌, arith}
use Rattle.rtl_make.specs.Made.{setting, each_from}
use Rattle.rtl_make.proofs.Turns.{each_turn, each_end}
use Rattle.rtl_make.proofs.pattern.push_settings.Goals as goal

pub loop-k-preserved : goal.loop-k-preserved
loop-k-preserved c = each_turn setting c.loop-k.out c.push.new.self _ c.in_ok-setting.field-0 c.loop-k.k 16 (omega (arith, c.loop-k.auto.k-end)) c.in_ok-setting.ensures c.in_ok-push.ensures.ok c.loop-k.invariant

pub returns : goal.returns
returns c = each_end setting c.loop-k.out (c.args.out.now ++ each_from setting 0 16) c.loop-k.k (16 - c.loop-k.k) (omega (arith, c.loop-k.auto.k-end)) c.loop-k.invariant

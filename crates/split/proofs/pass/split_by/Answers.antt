use Rattle.std.proofs.Common.{arith}
use Rattle.split.proofs.Running.{found_deep, found_replaced}
use Rattle.split.proofs.pass.split_by.Goals as goal

pub returns-then-depth-ge-MOST_SPLITS : goal.returns-then-depth-ge-MOST_SPLITS
returns-then-depth-ge-MOST_SPLITS c =
    found_deep c.args.desc.now c.args.pass c.args.depth c.args.place c.args.found.form c.args.chain.now c.args.found.sequence c.requires.within c.requires.found
    c.too_deep.result (omega (arith, c.if-depth-ge-MOST_SPLITS.true)) c.too_deep.ensures

pub returns : goal.returns
returns c =
    found_replaced c.args.desc.now c.args.pass c.args.depth c.args.place c.args.found.form c.args.chain.now c.args.found.sequence c.requires.within c.requires.found
    c.replace_insn.new.chain c.replace_insn.result (omega (arith, c.if-depth-ge-MOST_SPLITS.false)) c.replace_insn.ensures.gives

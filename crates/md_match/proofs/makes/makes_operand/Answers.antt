use Rattle.std.proofs.Common.{rules}
use Rattle.md_match.proofs.Decided.{operand_decided}
use Rattle.md_match.proofs.makes.makes_operand.Goals as goal

pub returns : goal.returns
returns c = operand_decided c.args.pattern.now c.args.insn.now c.args.operands.now c.names.result c.requires (c.asks_for.ensures.0 (search rules)) c.names.ensures

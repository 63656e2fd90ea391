use Rattle.std.proofs.Common.{◌∙◌, sym}
use Rattle.md_operand.proofs.Lengths.{nineteen, twenty_seven}
use Rattle.md_operand.proofs.built_in.BuiltIn.named.Goals as goal

pub returns-in-19 : goal.returns-in-19
returns-in-19 c = c.alone-in-19.ensures ∙ sym (nineteen c.args.name.now c.in-19.is)

pub returns-in-27 : goal.returns-in-27
returns-in-27 c = c.alone-in-27.ensures ∙ sym (twenty_seven c.args.name.now c.in-27.is)

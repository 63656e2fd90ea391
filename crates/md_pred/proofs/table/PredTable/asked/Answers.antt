use Rattle.std.proofs.Common.{◌≡◌, None, sym, ap, ◌∙◌}
use Rattle.md_operand.specs.Operand.{built_in_named}
use Rattle.md_pred.specs.machine.Table.{definition_in}
use Rattle.md_pred.proofs.Asking.{asked_again}
use Rattle.md_pred.proofs.table.PredTable.asked.Goals as goal

pub returns-in-None-2-clause-value : goal.returns-in-None-2-clause-value
returns-in-None-2-clause-value c =
    let none : built_in_named c.args.name.now ≡ None = ap built_in_named (sym c.bytes.ensures) ∙ sym c.named.ensures ∙ c.in-None-2.is in
    let found : c.named-in-None-2.result ≡ definition_in c.args.self.now.definitions c.args.name.now = c.named-in-None-2.ensures ∙ ap (definition_in c.args.self.now.definitions) c.bytes-in-None-2.ensures in
    c.begun.ensures.value ∙ asked_again c.args.self.now.definitions c.args.rounds c.args.name.now c.args.x.now c.args.mode c.named-in-None-2.result none c.if-rounds-eq0.false found

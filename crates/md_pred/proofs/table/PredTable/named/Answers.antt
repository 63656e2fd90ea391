use Rattle.std.proofs.Common.{◌≡◌, None, sym, ap, ◌∙◌}
use Rattle.md_operand.specs.Operand.{built_in_named}
use Rattle.md_pred.specs.machine.Table.{definition_in}
use Rattle.md_pred.proofs.Knowing.{defined_known}
use Rattle.md_pred.proofs.table.PredTable.named.Goals as goal

pub returns-in_ok-defined-in-None : goal.returns-in_ok-defined-in-None
returns-in_ok-defined-in-None c =
    let none : built_in_named c.args.name.now ≡ None = ap built_in_named (sym c.bytes.ensures) ∙ sym c.named.ensures ∙ c.in-None.is in
    let found : c.named-in-None.result ≡ definition_in c.args.self.now.definitions c.args.name.now = c.named-in-None.ensures ∙ ap (definition_in c.args.self.now.definitions) c.bytes-in-None.ensures in
    defined_known c.args.self.now c.args.x.now c.args.name.now c.named-in-None.result c.in_ok-defined-in-None.field-0 c.asked_for.result none found (λ rounds m so. c.in_ok-defined-in-None.ensures rounds m so) c.asked_for.ensures

use Rattle.md_pred.proofs.Keeping.{set_aside}
use Rattle.md_pred.proofs.definitions.definition_of.Goals as goal

pub returns-in-Err-clause-definition : goal.returns-in-Err-clause-definition
returns-in-Err-clause-definition c = set_aside c.args.rows.now c.args.form.now c.in-Err.field-0 c.in-Err.is

-- When tables are those of a description's forms.
use Rattle.std.specs.Prelude.{◌≡◌, ◌≤◌, List, length}
use Rattle.rtx_tree.specs.Limit.{most_forms}
use Rattle.md_forms.specs.declared.form.Entry.{Entry}
use Rattle.md_constr.specs.md_attr.declared.attributes.Attributes.{Attributes}
use Rattle.md_constr.specs.md_attr.machine.Tables.{AreAttributesOf}
use Rattle.md_pred.specs.declared.table.PredTable.{PredTable}
use Rattle.md_pred.specs.Holds.{holds}
use Rattle.md_pred.specs.machine.Table.{accepted_by}
use Rattle.md_constr.specs.declared.table.Constraints.{Constraints}
use Rattle.md_constr.specs.machine.Tables.{AreConstraintsOf}
use Rattle.md_dfa.specs.declared.pipeline.Pipeline.{Pipeline}
use Rattle.md_dfa.specs.Pipeline.{pipeline_in}
use Rattle.md_recog.specs.declared.half.Half.TheVariants as half
use Rattle.recog_tree.specs.declared.tables.Tables.{Tables}
use Rattle.recog_tree.specs.machine.Tables as by_key

-- there are no more forms than a description may have, and each table is that of the forms, as the
-- pipeline is
pub record AreTablesOf (forms : List Entry) (preds : PredTable) (constraints : Constraints) (attributes : Attributes) (insns splits windows : Tables) (pipeline : Pipeline) : Type 0 where
  pub short : length forms ≤ most_forms
  pub accepts : accepted_by preds ≡ holds forms
  pub asks : AreConstraintsOf constraints forms
  pub gives : AreAttributesOf attributes forms
  pub keyed : by_key.AreTablesOf half.Insn insns forms
  pub split : by_key.AreTablesOf half.Split splits forms
  pub window : by_key.AreTablesOf half.Window windows forms
  pub timed : pipeline ≡ pipeline_in forms

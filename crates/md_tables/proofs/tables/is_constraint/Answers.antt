use Rattle.std.proofs.Common.{sym, ap, ◌∙◌, false}
use Rattle.std.specs.Option.{option_copied, option_map_or}
use Rattle.md_tables.specs.declared.tables.ConstraintDraft.{ConstraintDraft}
use Rattle.md_tables.proofs.tables.is_constraint.Goals as goal

pub returns-in-Some : goal.returns-in-Some
returns-in-Some c = ap (λ o. option_map_or (λ (d : ConstraintDraft). d.accepted) o false) (sym (ap option_copied c.in-Some.is) ∙ c.first.ensures)

pub returns-in-None : goal.returns-in-None
returns-in-None c = ap (λ o. option_map_or (λ (d : ConstraintDraft). d.accepted) o false) (sym (ap option_copied c.in-None.is) ∙ c.first.ensures)

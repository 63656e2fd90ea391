use Rattle.std.proofs.Common.{ap, ◌∙◌}
use Rattle.std.specs.List.{find}
use Rattle.std.specs.Option.{option_map}
use Rattle.std.proofs.lemmas.List.{take_all}
use Rattle.md_forms.specs.md_tables.Tables.{defines_constraint}
use Rattle.md_attr.specs.Alternatives.{defines}
use Rattle.md_attr.proofs.FirstLaws.{given_next}
use Rattle.md_constr.specs.machine.Tables.{meaning_in, entry_admits}
use Rattle.md_constr.proofs.NameLaws.{admits_found}
use Rattle.md_constr.proofs.meanings.meanings_of.Goals as goal

pub loop-entry-preserved : goal.loop-entry-preserved
loop-entry-preserved c = λ name.
    given_next (defines defines_constraint name) entry_admits c.args.forms.now c.loop-entry.entry-index c.entry-item.result _ _ c.loop-entry-test.true c.entry-item.is (c.loop-entry.invariant name) (c.in_ok-add.ensures name)

pub returns : goal.returns
returns c = λ accepts name x.
    let all = take_all c.loop-entry.entry-index c.args.forms.now c.loop-entry-test.false in
    admits_found accepts x (meaning_in c.loop-entry.meanings name) (find (defines defines_constraint name) c.args.forms.now)
    (c.loop-entry.invariant name ∙ ap (λ es. option_map entry_admits (find (defines defines_constraint name) es)) all)

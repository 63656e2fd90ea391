use Rattle.std.proofs.Common.{ap, ◌∙◌}
use Rattle.std.specs.List.{find}
use Rattle.std.specs.Option.{option_map, option_and_then}
use Rattle.std.proofs.lemmas.List.{take_all}
use Rattle.md_forms.specs.md_tables.Tables.{defines_attribute}
use Rattle.md_attr.specs.Alternatives.{defines}
use Rattle.md_attr.specs.Values.{default_by}
use Rattle.md_attr.proofs.FirstLaws.{given_next, flattened}
use Rattle.md_attr.proofs.defaults.defaults_of.Goals as goal

pub loop-entry-preserved : goal.loop-entry-preserved
loop-entry-preserved c = λ name.
    given_next (defines defines_attribute name) default_by c.args.forms.now c.loop-entry.entry-index c.entry-item.result _ _ c.loop-entry-test.true c.entry-item.is (c.loop-entry.invariant name) (c.in_ok-add.ensures name)

pub returns : goal.returns
returns c = λ name.
    let all = take_all c.loop-entry.entry-index c.args.forms.now c.loop-entry-test.false in
    ap (option_and_then (λ default. default)) (c.loop-entry.invariant name ∙ ap (λ es. option_map default_by (find (defines defines_attribute name) es)) all)
    ∙ flattened default_by (find (defines defines_attribute name) c.args.forms.now)

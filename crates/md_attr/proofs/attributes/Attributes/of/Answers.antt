use Rattle.std.proofs.Common.{◌≡◌, map, rules}
use Rattle.md_attr.specs.machine.Tables.{settings_of}
use Rattle.md_attr.proofs.TableLaws.{given_same, counted_same}
use Rattle.md_attr.proofs.attributes.Attributes.of.Goals as goal

pub returns : goal.returns
returns c =
    let made : c.in_ok-all_settings.field-0 ≡ map settings_of c.args.forms.now = search rules in
    record {
      defaults = λ name. search (rules, c.in_ok-defaults_of.ensures name);
      given = λ name form alternative. given_same c.in_ok-all_settings.field-0 c.args.forms.now name form alternative made;
      alternatives = λ form. counted_same c.in_ok-all_settings.field-0 c.args.forms.now form made;
    }

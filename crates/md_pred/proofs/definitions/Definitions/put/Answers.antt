use Rattle.std.proofs.Common.{ap, ◌∙◌}
use Rattle.std.specs.Map.{lookup}
use Rattle.std.specs.Str.{bytes_eq}
use Rattle.name_places.proofs.TextKeys.{found_last}
use Rattle.md_pred.proofs.definitions.Definitions.put.Goals as goal

pub returns-clause-names : goal.returns-clause-names
returns-clause-names c = λ other.
    ap (λ es. lookup (λ text. bytes_eq other text.items) es) c.in_ok-insert.ensures.entries
    ∙ found_last (λ text. text.items) c.in_ok-from_slice.field-0 c.args.definition c.args.name.now other c.args.self.now.by_name.entries c.in_ok-from_slice.ensures.items c.requires

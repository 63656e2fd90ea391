use Rattle.std.proofs.Common.{◌≡◌, ap, ◌∙◌, rules, None}
use Rattle.std.specs.Map.{lookup}
use Rattle.std.specs.Str.{bytes_eq}
use Rattle.name_places.proofs.TextKeys.{found_last}
use Rattle.md_constr.specs.machine.Tables.{meaning_in}
use Rattle.md_constr.proofs.meanings.Meanings.put.Goals as goal

pub returns-in_ok-insert : goal.returns-in_ok-insert
returns-in_ok-insert c = λ other.
    let none : meaning_in c.args.self.now c.args.name.now ≡ None = search rules in
    ap (λ es. lookup (λ text. bytes_eq other text.items) es) c.in_ok-insert.ensures.entries
    ∙ found_last (λ text. text.items) c.in_ok-from_slice.field-0 c.args.meaning c.args.name.now other c.args.self.now.by_name.entries c.in_ok-from_slice.ensures.items none

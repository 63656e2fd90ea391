use Rattle.std.proofs.Common.{◌≡◌, ◌+◌, ap, ◌∙◌, rules, unwrap_or}
use Rattle.std.specs.Map.{lookup}
use Rattle.std.specs.Str.{bytes_eq}
use Rattle.md_forms.specs.machine.Counts.{count_in}
use Rattle.name_places.proofs.TextKeys.{found_apart, found_itself}
use Rattle.md_forms.proofs.shown.HeadCounts.count.Goals as goal

pub returns-clause-more : goal.returns-clause-more
returns-clause-more c =
    let number : c.unwrap_or-number.result ≡ count_in c.args.self.now c.args.head.now = search rules in
    record {
      same = λ h differ. ap (λ es. unwrap_or (lookup (λ text. bytes_eq h text.items) es) 0) c.in_ok-insert.ensures.entries
          ∙ ap (λ o. unwrap_or o 0) (found_apart (λ text. text.items) c.in_ok-from_slice.field-0 (c.unwrap_or-number.result + 1) h c.args.self.now.by_head.entries (ap (λ t. bytes_eq t h) c.in_ok-from_slice.ensures.items ∙ differ));
      more = ap (λ es. unwrap_or (lookup (λ text. bytes_eq c.args.head.now text.items) es) 0) c.in_ok-insert.ensures.entries
          ∙ ap (λ o. unwrap_or o 0) (found_itself (λ text. text.items) c.in_ok-from_slice.field-0 (c.unwrap_or-number.result + 1) c.args.head.now c.args.self.now.by_head.entries c.in_ok-from_slice.ensures.items)
          ∙ ap (λ n. n + 1) number;
    }

use Rattle.std.proofs.Common.{◌≡◌, drop}
use Rattle.std.specs.List.{find}
use Rattle.std.specs.Option.{is_none, option_map}
use Rattle.md_draft.specs.Parts.{attribute_in}
use Rattle.lint_about.specs.About.{whole}
use Rattle.lint_about.proofs.own.odd_attribute.Given as goal

abbrev pub invariant-loop-element : goal.invariant-loop-element
invariant-loop-element l = option_map whole (find (λ t. is_none (attribute_in t)) (drop l.element-index l.elements)) ≡ option_map whole (find (λ t. is_none (attribute_in t)) l.elements)

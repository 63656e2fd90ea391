use Rattle.std.proofs.Common.{◌≡◌, drop}
use Rattle.std.specs.List.{list_any}
use Rattle.md_text.specs.Template.{is_code_line}
use Rattle.md_text.proofs.template.any_code.Given as goal

abbrev pub invariant-loop-text : goal.invariant-loop-text
invariant-loop-text l = list_any is_code_line (drop l.text-index l.texts) ≡ list_any is_code_line l.texts

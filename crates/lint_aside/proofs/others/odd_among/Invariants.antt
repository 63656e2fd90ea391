use Rattle.std.proofs.Common.{◌≡◌, drop}
use Rattle.lint_about.specs.Within.{first_found}
use Rattle.lint_aside.specs.Others.{odd_text}
use Rattle.lint_aside.proofs.others.odd_among.Given as goal

abbrev pub invariant-loop-text : goal.invariant-loop-text
invariant-loop-text l = first_found (odd_text l.tables l.form.tree) (drop l.text-index l.texts) ≡ first_found (odd_text l.tables l.form.tree) l.texts

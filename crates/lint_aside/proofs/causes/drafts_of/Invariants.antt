use Rattle.std.proofs.Common.{◌≡◌, map, take}
use Rattle.md_forms.specs.Forms.{draft_entry}
use Rattle.lint_aside.proofs.causes.drafts_of.Given as goal

abbrev pub invariant-loop-form : goal.invariant-loop-form
invariant-loop-form l = l.drafts ≡ map (draft_entry l.constants) (take l.form-index l.forms)

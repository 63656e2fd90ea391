-- The steps of the code, for the contracts of private functions alone.
use Rattle.std.specs.Prelude.{ℕ, ◌+◌, List}
use Rattle.md_desc.specs.md_forms.declared.form.Entry.{Entry}
use Rattle.md_desc.specs.md_attr.Alternatives.{IsAlternative}
use Rattle.lint_found.specs.declared.found.Finding.{Finding}
use Rattle.lint_found.specs.Found.{AlternativesFound, FormFound}

-- what is found of an alternative, of which the rest goes on
abbrev pub AlternativeComes : List Entry → ℕ → ℕ → List Finding → List Finding → Type 0
AlternativeComes forms form alternative found more =
    IsAlternative forms form alternative → (all : List Finding) →
    AlternativesFound forms form (alternative + 1) more all → AlternativesFound forms form alternative found all

abbrev pub AlternativesCome : List Entry → ℕ → List Finding → List Finding → Type 0
AlternativesCome forms form found more = AlternativesFound forms form 0 found more

abbrev pub FormComes : List Entry → ℕ → Entry → List Finding → List Finding → Type 0
FormComes forms form e found more = FormFound forms form e.form found more

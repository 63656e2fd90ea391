-- What is told beside a finding: why nothing comes to an alternative, where nothing does, and which
-- members of its constraints admit nothing.
use Rattle.std.specs.Prelude.{◌≡◌, ℕ, ℤ, List, [], ◌∷◌, Option, Some, None}
use Rattle.md_desc.specs.md_forms.declared.form.Entry.{Entry}
use Rattle.lint_told.specs.declared.told.Told.{Told}
use Rattle.lint_told.specs.declared.told.Told.TheVariants as told
use Rattle.lint_found.specs.declared.found.Finding.{Finding}
use Rattle.lint_found.specs.declared.found.Finding.TheVariants as finding
use Rattle.lint_why.specs.declared.why.Why.{Why}
use Rattle.lint_why.specs.Why.{IsWhy}
use Rattle.lint_idle.specs.Idle.{idle_of}
use Rattle.lint_beside.specs.declared.beside.Beside.{Beside}

-- why nothing is reached, where nothing is
abbrev pub IsReason : List Entry → List ℤ → ℕ → ℕ → Told → Option Why → Type 0
IsReason forms tested form alternative told.Unreached (Some w) = IsWhy forms tested form alternative w
IsReason forms tested form alternative told.Unreached None = ⊥
IsReason forms tested form alternative t w = w ≡ None

pub record IsBesideTold (forms : List Entry) (tested : List ℤ) (form alternative : ℕ) (t : Told) (b : Beside) : Type 0 where
  pub why_is : IsReason forms tested form alternative t b.why
  pub idle_are : b.idle ≡ idle_of forms tested form alternative

pub record IsNothing (b : Beside) : Type 0 where
  pub no_why : b.why ≡ None
  pub none_idle : b.idle ≡ []

-- nothing is told beside a form that is set aside
abbrev pub IsBeside : List Entry → List ℤ → Finding → Beside → Type 0
IsBeside forms tested (finding.Aside form reason) b = IsNothing b
IsBeside forms tested (finding.Told form alternative t) b =
    IsBesideTold forms tested form alternative t.told b

-- beside each of some findings, in order
pub data AreBeside (forms : List Entry) (tested : List ℤ) : List Finding → List Beside → Type 0 where
  none : AreBeside forms tested [] []
  next : (f : Finding) (fs : List Finding) (b : Beside) (bs : List Beside) →
      IsBeside forms tested f b → AreBeside forms tested fs bs →
      AreBeside forms tested (f ∷ fs) (b ∷ bs)

-- What a description refuses of the functions that are tried: of each group the first that is refused,
-- with the line of its refusal, unless that line was told before.
use Rattle.std.specs.Prelude.{ℕ, ℤ, List, [], ◌∷◌, Option, Some, None, Ok, Err}
use Rattle.md_desc.specs.md_forms.declared.form.Entry.{Entry}
use Rattle.pass_name.specs.declared.road.Road.TheVariants.{Usual}
use Rattle.run_refusal.specs.declared.refusal.Refusal.{Refusal}
use Rattle.func_text.specs.declared.assembly.Assembly.{Assembly}
use Rattle.func_text.specs.Compile.{FunctionsCome}
use Rattle.lint_tried.specs.Numbers.{tested_numbers}
use Rattle.lint_groups.specs.declared.group.Group.{Group}
use Rattle.lint_groups.specs.declared.group.Group.TheVariants as group
use Rattle.lint_groups.specs.declared.tries.Try.{Try}
use Rattle.lint_groups.specs.Groups.{groups_of, tries_of}
use Rattle.lint_refused.specs.declared.refused.Site.{Site}
use Rattle.lint_refused.specs.declared.refused.Site.TheVariants as site
use Rattle.lint_refused.specs.declared.refused.Refused.{Refused}
use Rattle.lint_refused.specs.Told.{told_at, with_told}

-- ---- what comes of a function

-- where a refusal is told: at the form that splits or replaces, or of the description
abbrev pub site_of : Group → Site
site_of (group.Split form) = site.Split form
site_of (group.Peephole form) = site.Peephole form
site_of _ = site.Description

-- a refusal of a function of a group, if it is told
unfoldable pub told_if : Group → List ℕ → Refusal → Option Refused
told_if g what e = told_at (site_of g) what e

-- it has an assembly, or it is refused
pub data Comes (forms : List Entry) (g : Group) (t : Try) : Option Refused → Type 0 where
  assembled : (a : Assembly) → FunctionsCome forms Usual (t.function ∷ []) (Ok a) →
      Comes forms g t None
  refused : (e : Refusal) → FunctionsCome forms Usual (t.function ∷ []) (Err e) →
      Comes forms g t (told_if g t.what e)

-- the first of some functions that is refused
pub data FirstRefused (forms : List Entry) (g : Group) : List Try → Option Refused → Type 0 where
  none : FirstRefused forms g [] None
  passes : (t : Try) (ts : List Try) (r : Option Refused) → Comes forms g t None →
      FirstRefused forms g ts r → FirstRefused forms g (t ∷ ts) r
  first : (t : Try) (ts : List Try) (r : Refused) → Comes forms g t (Some r) →
      FirstRefused forms g (t ∷ ts) (Some r)

-- ---- what is told

-- what is told of some groups behind others, by the numbers in the tests of the description
pub data AreTold (forms : List Entry) (tested : List ℤ) : List Group → List Refused → List Refused → Type 0 where
  none : (told : List Refused) → AreTold forms tested [] told told
  next : (g : Group) (gs : List Group) (r : Option Refused) (told all : List Refused) →
      FirstRefused forms g (tries_of forms tested g) r →
      AreTold forms tested gs (with_told told r) all → AreTold forms tested (g ∷ gs) told all

-- what a description refuses
abbrev pub AreRefused : List Entry → List Refused → Type 0
AreRefused forms all = AreTold forms (tested_numbers forms) (groups_of forms) [] all

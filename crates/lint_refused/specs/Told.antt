-- What the refusal of a function tells: why it is refused, and the line of the refusal.
use Rattle.std.specs.Prelude.{ℕ, ◌||◌, not, Bool, true, false, List, [], ◌∷◌, ◌++◌, Option, Some, None, if◌then◌else◌}
use Rattle.std.specs.List.{list_any}
use Rattle.std.specs.Str.{bytes_eq}
use Rattle.pass_name.specs.declared.pass.Pass.{Pass}
use Rattle.pass_name.specs.declared.pass.Pass.TheVariants.{Lower, Reload, Frame}
use Rattle.run_refusal.specs.declared.refusal.Refusal.{Refusal}
use Rattle.run_refusal.specs.declared.refusal.Refusal.TheVariants as refusal
use Rattle.run_refusal.specs.Refusals.{line_of}
use Rattle.lint_refused.specs.declared.refused.Site.{Site}
use Rattle.lint_refused.specs.declared.refused.Site.TheVariants as site
use Rattle.lint_refused.specs.declared.refused.Why.{Why}
use Rattle.lint_refused.specs.declared.refused.Why.TheVariants as why
use Rattle.lint_refused.specs.declared.refused.Refused.{Refused}
use Rattle.lint_refused.specs.Refused.{is_unequal_as}

-- ---- why

-- an instruction is unmatched at lowering where no form matches and none makes it; what reload and
-- the frame put in the place of others, or beside them, can't be done; and what others emit has no
-- form
abbrev pub why_unmatched : Pass → Why
why_unmatched Lower = why.Missing
why_unmatched Reload = why.Cannot
why_unmatched Frame = why.Cannot
why_unmatched pass = why.Unmatched

-- that no form matches an instruction, that no alternative of the one that does can be reached, that
-- something else would not do the same, or another reason
abbrev pub why_of : Refusal → Why
why_of (refusal.Unmatched function uid pass insn) = why_unmatched pass
why_of (refusal.Unsatisfied function uid form insn) = why.Untaken
why_of (refusal.NotEquated function uid rule item left right) = why.Wrong
why_of e = why.Cannot

-- it says of a function that it is none of the language
abbrev pub is_ill_formed : Refusal → Bool
is_ill_formed (refusal.IllFormed function uid rule) = true
is_ill_formed _ = false

abbrev pub is_missing : Why → Bool
is_missing why.Missing = true
is_missing _ = false

abbrev pub is_unmatched : Why → Bool
is_unmatched why.Unmatched = true
is_unmatched _ = false

-- what says something of what stands there: of a split, once a form has matched the instruction; of a
-- peephole, what it replaces
abbrev pub counts : Site → Why → Bool
counts site.Description w = true
counts (site.Split form) w = not (is_missing w)
counts (site.Peephole form) w = is_unequal_as w || is_unmatched w

-- ---- what is told

abbrev pub told : Site → List ℕ → Refusal → Refused
told at what e = record { site = at; why = why_of e; what = what; line = line_of e }

-- nothing, where the function is none of the language, or that it is refused says nothing there
abbrev pub told_at : Site → List ℕ → Refusal → Option Refused
told_at at what e =
    if is_ill_formed e || not (counts at (why_of e)) then None else Some (told at what e)

abbrev pub has_line : List ℕ → Refused → Bool
has_line line r = bytes_eq line r.line

-- what is told behind others, unless its line was told before
abbrev pub with_told : List Refused → Option Refused → List Refused
with_told all None = all
with_told all (Some r) = if list_any (has_line r.line) all then all else all ++ r ∷ []

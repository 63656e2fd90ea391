-- A function whose windows are rewritten does what it did, and keeps its labels and barriers; and where its uids differ, they still do.
use Rattle.std.proofs.Common.{List, Ok}
use Rattle.rtx_tree.specs.declared.function.Function.{Function}
use Rattle.md_forms.specs.declared.form.Entry.{Entry}
use Rattle.law_function_kept.specs.Keeps.{Keeps}
use Rattle.law_kept_composed.proofs.Keeping.{keeps_refl, keeps_trans}
use Rattle.law_insn_replaced.specs.law_pass_needs.Left.{SameMarks}
use Rattle.law_insn_replaced.specs.law_pass_needs.Reloadable.{UidsDiffer}
use Rattle.law_insn_replaced.specs.law_window_lines.ForLines.{MarksAreEmpty}
use Rattle.law_insn_replaced.proofs.Marks.{same_refl, same_trans}
use Rattle.law_window_replaced.specs.Natural.{RegistersAreNatural}
use Rattle.law_window_made.specs.Made.{with_sequence}
use Rattle.law_window_made.proofs.Does.{made_does}
use Rattle.law_window_made.proofs.Kept.{made_same, made_empty, made_natural}
use Rattle.law_window_made.proofs.Uids.{made_differ}
use Rattle.peep2.specs.Cover.{CoverComes}
use Rattle.peep2.proofs.Kept.{IsKept, kept}

-- what is known of a function behind some windows
record Does (f g : Function) : Type 0 where
  keeps : Keeps f g
  marks : MarksAreEmpty g
  natural : RegistersAreNatural g

does_step : (f : Function) → IsKept (Does f)
does_step f h first end last sequence put so_far = record {
  keeps = keeps_trans f h (with_sequence h first end last sequence) so_far.keeps (made_does h first end last sequence put so_far.marks so_far.natural);
  marks = made_empty h first end last sequence put so_far.marks;
  natural = made_natural h first end last sequence put so_far.natural;
}

marks_step : (f : Function) → IsKept (SameMarks f)
marks_step f h first end last sequence put so_far = same_trans f h (with_sequence h first end last sequence) so_far (made_same h first end last sequence put)

module _ (forms : List Entry) (f g : Function) where
  pub cover_same : CoverComes forms f (Ok g) → SameMarks f g
  cover_same comes = kept forms (SameMarks f) (marks_step f) f g comes (same_refl f)

  pub cover_differ : UidsDiffer f → CoverComes forms f (Ok g) → UidsDiffer g
  cover_differ differ comes = kept forms UidsDiffer made_differ f g comes differ

  pub peepholes_do : MarksAreEmpty f → RegistersAreNatural f → CoverComes forms f (Ok g) → Keeps f g
  peepholes_do marks natural comes =
      (kept forms (Does f) (does_step f) f g comes (record { keeps = keeps_refl f; marks = marks; natural = natural })).keeps

-- Where the uids of a function differ, they still do when its instructions are split.
use Rattle.std.proofs.Common.{List, Ok, sym, subst}
use Rattle.rtx_tree.specs.declared.function.Function.{Function}
use Rattle.md_forms.specs.declared.form.Entry.{Entry}
use Rattle.md_forms.specs.Forms.{names_of}
use Rattle.form_needs.specs.Needs.{name_at}
use Rattle.law_insn_replaced.specs.law_pass_needs.Reloadable.{UidsDiffer}
use Rattle.law_insn_replaced.proofs.Uids.{replaced_differ}
use Rattle.pass_name.specs.declared.pass.Pass.{Pass}
use Rattle.split.specs.Split.{SplitComes}
use Rattle.split.proofs.Made.{comes_to}
use Rattle.split.proofs.Left.{IsKept, kept}

module _ (forms : List Entry) (pass : Pass) where
  uids_step : IsKept forms pass UidsDiffer
  uids_step f g place i form sequence at is comes differ =
      subst UidsDiffer (sym (comes_to f g place i (name_at (names_of forms) form) sequence comes)) (replaced_differ f place i sequence at is.splits.instruction differ)

  pub uids_differ : (f g : Function) → UidsDiffer f → SplitComes forms pass f (Ok g) → UidsDiffer g
  uids_differ f g differ comes = kept forms pass UidsDiffer uids_step f g comes differ

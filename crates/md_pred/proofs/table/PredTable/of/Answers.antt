use Rattle.std.proofs.Common.{sym, ap, ◌+◌, ℕ}
use Rattle.md_pred.proofs.Same.{table_holds}
use Rattle.md_pred.proofs.Told.{told}
use Rattle.md_pred.proofs.table.PredTable.of.Goals as goal

pub returns-clause-accepts : goal.returns-clause-accepts
returns-clause-accepts c =
    table_holds c.in_ok-definitions.definitions c.args.forms.now _ (rw (sym c.as_slice.ensures.value) c.in_ok-definitions.ensures) (ap (λ (n : ℕ). n + 1) c.len-rounds.ensures)

pub returns-clause-told : goal.returns-clause-told
returns-clause-told c drafts is = told drafts c.args.forms.now is

pub returns-in_err-definitions-clause-told : goal.returns-in_err-definitions-clause-told
returns-in_err-definitions-clause-told c drafts is = told drafts c.args.forms.now is

pub returns-in_err-weights-clause-told : goal.returns-in_err-weights-clause-told
returns-in_err-weights-clause-told c drafts is = told drafts c.args.forms.now is

pub returns-in_err-known-clause-told : goal.returns-in_err-known-clause-told
returns-in_err-known-clause-told c drafts is = told drafts c.args.forms.now is

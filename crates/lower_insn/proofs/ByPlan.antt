-- An instruction that is made by its plan.
use Rattle.std.proofs.Common.{◌≡◌, ℕ, Bool, true, false, List, Some, None, Result, Ok, Err, sym, subst}
use Rattle.std.specs.Prelude.{MatchBool}
use Rattle.rtx_tree.specs.declared.function.Insn.{Insn}
use Rattle.md_forms.specs.declared.form.Entry.{Entry}
use Rattle.form_needs.specs.Needs.{needs_form}
use Rattle.pass_refusal.specs.declared.refusal.PassRefusal.{PassRefusal}
use Rattle.pass_refusal.specs.Outcome.{Gives}
use Rattle.pass_refusal.proofs.Refusing.{refuses_map}
use Rattle.lower_insn.specs.declared.part.Lowered.{Lowered}
use Rattle.lower_insn.specs.declared.part.Plan.{Plan}
use Rattle.lower_insn.specs.Plan.{planned}
use Rattle.lower_insn.specs.Lowered.{InsnLowers, IsMatched, IsUnmatched, Lowers, parts_of, uids_for}
use Rattle.lower_insn.specs.machine.Work.{LowersBy, Stays, as_insn}

module _ (forms : List Entry) (i : Insn) where
  pub by_plan : (greatest next : ℕ) (plan : Plan) (result : Result Lowered PassRefusal) → needs_form i ≡ true → IsUnmatched forms i.pattern →
      planned forms false i.pattern next ≡ Some plan → LowersBy forms i greatest plan result → Gives (as_insn result) (InsnLowers forms i greatest next)
  by_plan greatest next plan (Ok l) needs none so made =
      subst (λ (k : ℕ). InsnLowers forms i greatest next (Ok (Some (record { form = k; sequence = l.sequence })))) (sym made.1)
      (InsnLowers.lowered plan (Ok l.sequence) needs none so made.0)
  by_plan greatest next plan (Err e) needs none so made =
      refuses_map e (Lowers forms (uids_for i greatest) (parts_of false i.pattern plan) 0 plan.next) (InsnLowers forms i greatest next)
      (λ d p. InsnLowers.lowered plan (Err d) needs none so p) made

  pub stays_if : (b : Bool) → needs_form i ≡ true → MatchBool b (IsMatched forms i.pattern) (IsUnmatched forms i.pattern) → Stays forms i b
  stays_if true needs m = λ greatest next. InsnLowers.matched needs m
  stays_if false needs none = (needs, none)

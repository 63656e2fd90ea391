-- Lines whose symbolic state agrees with that of instructions, run beside them: they have a meaning, and what their state tells of where
-- they end is so.
use Rattle.std.proofs.Common.{◌≡◌, ◌≢◌, ℕ, zero, suc, ◌+◌, ◌%◌, ◌^◌, ◌<◌, ◌==◌, ◌&&◌, ◌||◌, Bool, true, false, List, [], ◌∷◌, length, Option, Some, None, refl, sym, ◌∙◌, ap, subst, arith}
use Rattle.std.specs.Prelude.{if◌then◌else◌, is_some, not}
use Rattle.std.specs.List.{All, list_all}
use Rattle.bits64.specs.Words.{bits_of}
use Rattle.rtx_tree.specs.declared.machine.RangeAt.{RangeAt}
use Rattle.rtx_tree.specs.Registers.{is_call_used}
use Rattle.rtx_tree.specs.declared.function.Insn.{Insn}
use Rattle.rv_text.specs.declared.line.Line.{Line}
use Rattle.rv_line.specs.Step.{register}
use Rattle.rv_line.specs.declared.state.RvState.{RvState}
use Rattle.term_tree.specs.Tree.{Tree}
use Rattle.term_mean.specs.Meaning.{Valuation, mean}
use Rattle.term_mean.proofs.SumLaws.{mean-cut}
use Rattle.law_window_runs.specs.Insns.{InsnsEnd, InsnsCome}
use Rattle.law_window_runs.specs.Insns as insns
use Rattle.law_window_runs.specs.Lines.{LinesCome}
use Rattle.law_window_runs.specs.Same.{IsKept}
use Rattle.sym_diff.specs.sym_state.State.{State, Call}
use Rattle.sym_diff.specs.sym_state.Registers.{held}
use Rattle.law_line_terms.specs.sym_insns.Run as insns_run
use Rattle.law_line_terms.specs.sym_lines.Run as lines_run
use Rattle.law_line_terms.specs.law_insn_terms.Needs.{First}
use Rattle.law_line_terms.specs.law_insn_terms.Shows.{ShowsMemory}
use Rattle.law_line_terms.specs.law_insn_terms.Means.{EndMeans}
use Rattle.law_line_terms.specs.ShowsLine.{ShowsNumber}
use Rattle.law_line_terms.specs.EndsLines.{calls}
use Rattle.sym_diff.specs.Registers.{one_calls, is_passed_over}
use Rattle.sym_diff.specs.Agree.{Agree, CallsAgree}
use Rattle.law_line_terms.proofs.Runs as line_runs
use Rattle.law_states_agree.proofs.Twice as twice
use Rattle.law_states_agree.proofs.Covered as covered

-- ---- calls of both

or_false : (a b : Bool) → a ≡ false → b ≡ false → (a || b) ≡ false
or_false a b first second = ap (λ x. x || b) first ∙ second

-- where the first calls nothing, neither does the second
pub none_calls : (a b : Option Call) → CallsAgree true a b → a ≡ None → b ≡ None
none_calls None None agree is = refl
none_calls None (Some b) agree is = absurd agree
none_calls (Some a) b agree is = absurd (let no : ⊥ = cc in no)

-- behind a window that is no call, nothing is passed over; behind a call, what it may change is
pub not_passed : (v : Valuation) (ranges : List RangeAt) (a b : State) (first second : Option Call) (came : InsnsCome) (ending : InsnsEnd) (reg : ℕ) → came.ending ≡ ending → EndMeans v ranges a.jump first came →
    CallsAgree true first second → IsKept ending reg → ((is_some first || is_some second) && is_call_used reg) ≡ false
not_passed v ranges a b first second came (insns.Calls event w) reg ends means agree kept = by (is_some first || is_some second)
  where
    by : (x : Bool) → (x && is_call_used reg) ≡ false
    by true = kept
    by false = refl
not_passed v ranges a b None None came ending reg ends means agree kept = refl
not_passed v ranges a b None (Some c) came ending reg ends means agree kept = absurd agree
not_passed v ranges a b (Some c) second came insns.Falls reg ends means agree kept = absurd (let both : insns.Falls ≡ insns.Calls means.event means.width = sym ends ∙ means.ending_is in let no : ⊥ = cc in no)
not_passed v ranges a b (Some c) second came (insns.Goes uid) reg ends means agree kept = absurd (let both : insns.Goes uid ≡ insns.Calls means.event means.width = sym ends ∙ means.ending_is in let no : ⊥ = cc in no)
not_passed v ranges a b (Some c) second came insns.Returns reg ends means agree kept = absurd (let both : insns.Returns ≡ insns.Calls means.event means.width = sym ends ∙ means.ending_is in let no : ⊥ = cc in no)

-- ---- what lines leave

-- the registers and the memory where lines end
pub record Left (u : Valuation) (f : First) (m : RvState) (a b : State) (done : LinesCome) : Type 0 where
  pub registers : (reg : ℕ) → is_passed_over (one_calls a b) (suc reg) ≡ false → ShowsNumber u m.regs done.machine.regs (held b.regs (suc reg)) (suc reg)
  pub long : length done.machine.regs ≡ 32
  pub words : (reg number : ℕ) → register done.machine.regs reg ≡ Some number → number < 2 ^ 64
  pub memory_is : ShowsMemory u f done.machine.memory (length b.stores)

pub word_by : (u : Valuation) (first code : List (Option ℕ)) (reg : ℕ) (left : Option (Option Tree)) → ShowsNumber u first code left reg → ((number : ℕ) → register first reg ≡ Some number → number < 2 ^ 64) →
    (number : ℕ) → register code reg ≡ Some number → number < 2 ^ 64
word_by u first code reg None shows words number is = words number (sym shows ∙ is)
word_by u first code reg (Some None) shows words number is = absurd shows
word_by u first code reg (Some (Some t)) shows words number is =
    let same : mean u t ≡ number = let e : Some (mean u t) ≡ Some number = sym shows.0 ∙ is in cc in
    subst (λ n. n < 2 ^ 64) same (let cut : mean u t % 2 ^ 64 ≡ mean u t = ap (λ w. mean u t % 2 ^ bits_of w) (sym shows.1) ∙ mean-cut u t in omega (arith, cut))

-- What is equated over the registers that it defines is equated over every register.
use Rattle.std.proofs.Common.{◌≡◌, ℕ, zero, suc, Bool, true, false, List, [], ◌∷◌, Option, Some, None, refl, sym, ap, subst, ◌∙◌}
use Rattle.std.specs.Prelude.{is_some, if◌then◌else◌}
use Rattle.std.proofs.lemmas.Bool.{false≢true, true≢false}
use Rattle.rtx_tree.specs.RegSet.{has_reg}
use Rattle.rtx_tree.specs.declared.function.Insn.{Insn}
use Rattle.term_tree.specs.Tree.{Tree}
use Rattle.law_window_runs.specs.Uses.{window_defines}
use Rattle.law_pass_needs.specs.sym_state.State.{State, Ran, Runs, own_register}
use Rattle.law_pass_needs.specs.sym_state.State as state
use Rattle.law_pass_needs.specs.sym_state.Registers.{held}
use Rattle.law_pass_needs.specs.sym_insns.Run.{run}
use Rattle.sym_diff.specs.Difference.{Difference}
use Rattle.sym_diff.specs.Registers.{value_behind, one_calls, compared_register, compared_all, compared_registers, changed_in}
use Rattle.sym_diff.specs.States.{difference}
use Rattle.sym_diff.specs.Agree.{Knows, RegisterAgrees, RegistersAgree}
use Rattle.sym_diff.proofs.AgreeLaws.{or_none, none_or, none_register}
use Rattle.equate.specs.Verdict.{Same}
use Rattle.equate.specs.Side.{Insns}
use Rattle.equate.specs.Equated.{Equated, judged, told}
use Rattle.equate.proofs.VerdictLaws.{verdict_same}
use Rattle.equate.proofs.Soundness.{no_return}
use Rattle.equate.proofs.law_insn_terms.Kept.{held_defined}
use Rattle.reuse.specs.Reuse.{EquatedOverAll}

-- ---- registers

-- a register that is not held knows its own bits
own_known : (reg : ℕ) (t : Tree) → value_behind None reg ≡ Some t → Knows (value_behind None reg) t
own_known reg t is = let some : Some (own_register reg) ≡ Some t = is in let same : own_register reg ≡ t = cc in subst (Knows (value_behind None reg)) same (refl, refl)

unheld : (o : Option (Option Tree)) → is_some o ≡ false → o ≡ None
unheld None is = refl
unheld (Some x) is = absurd (true≢false is)

module _ (few live : List ℕ) (a b : State) (agree : RegistersAgree few a b) where
  -- one of the few
  among : (reg : ℕ) → has_reg few reg ≡ true → RegisterAgrees live a b reg
  among reg has passed =
      let own = agree reg passed in
      record { known = λ is. own.known has; kept = λ low left changed. absurd (true≢false (sym has ∙ (own.kept low left changed).1)) }

  -- one that neither side changes
  left_alone : (reg : ℕ) → held a.regs reg ≡ None → held b.regs reg ≡ None → RegisterAgrees live a b reg
  left_alone reg first second passed = record {
    known = λ is t value. subst (λ v. Knows (value_behind v reg) t) (sym second) (own_known reg t (ap (λ v. value_behind v reg) (sym first) ∙ value));
    kept = λ low left changed. absurd (false≢true (ap is_some (sym second) ∙ changed));
  }

  -- where the few are among those that a side changes
  each_agrees : ((reg : ℕ) → has_reg few reg ≡ false → (held a.regs reg ≡ None) × (held b.regs reg ≡ None)) → RegistersAgree live a b
  each_agrees others reg = by (has_reg few reg) refl
    where
      by : (b' : Bool) → has_reg few reg ≡ b' → RegisterAgrees live a b reg
      by true has = among reg has
      by false other = let both = others reg other in left_alone reg both.0 both.1

all_none : (live : List ℕ) (a b : State) → RegistersAgree live a b → (regs : List ℕ) → compared_all (one_calls a b) live a.regs b.regs regs ≡ None
all_none live a b agree [] = refl
all_none live a b agree (reg ∷ regs) =
    none_or (compared_register (one_calls a b) live (held a.regs reg) (held b.regs reg) reg) (compared_all (one_calls a b) live a.regs b.regs regs)
    (none_register live a b reg (agree reg)) (all_none live a b agree regs)

-- ---- verdicts

told_same : (x : Option Difference) → told x ≡ Same → x ≡ None
told_same None h = refl
told_same (Some d) h = cc

judged_too : (few live : List ℕ) (r s : Ran) → judged false few r s ≡ Same → ((a b : State) → r ≡ Runs a → s ≡ Runs b → compared_registers live a b ≡ None) → judged false live r s ≡ Same
judged_too few live (state.BadShape index) s h none = cc
judged_too few live state.TooLarge (state.BadShape index) h none = cc
judged_too few live state.TooLarge state.TooLarge h none = cc
judged_too few live state.TooLarge (Runs b) h none = cc
judged_too few live (Runs a) (state.BadShape index) h none = cc
judged_too few live (Runs a) state.TooLarge h none = cc
judged_too few live (Runs a) (Runs b) h none =
    let found = told_same (difference false few a b) h in
    let rest = (or_none (compared_registers few a b) _ found).1 in
    ap told (none_or (compared_registers live a b) _ (none a b refl refl) rest)

module _ (before after : List Insn) (few : List ℕ) (equated : Equated before (Insns after) few)
    (covers : (reg : ℕ) → has_reg few reg ≡ false → ((reg ≡ 0 → ⊥) × (window_defines before reg ≡ false)) × (window_defines after reg ≡ false)) where
  unchanged : (insns : List Insn) (s : State) → run insns ≡ Runs s → (reg : ℕ) → (reg ≡ 0 → ⊥) → window_defines insns reg ≡ false → held s.regs reg ≡ None
  unchanged insns s runs zero some none = absurd (some refl)
  unchanged insns s runs (suc reg) some none = unheld (held s.regs (suc reg)) (held_defined insns s runs reg ∙ none)

  registers_agree : (live : List ℕ) (a b : State) → run before ≡ Runs a → run after ≡ Runs b → RegistersAgree live a b
  registers_agree live a b first second =
      let alike = verdict_same before (Insns after) few equated (no_return before after) in
      let same_first : alike.first ≡ a = runs_one alike.first a (sym alike.runs_first ∙ first) in
      let same_second : alike.second ≡ b = runs_one alike.second b (sym alike.runs_second ∙ second) in
      let agree = subst (λ y. RegistersAgree few a y) same_second (subst (λ x. RegistersAgree few x alike.second) same_first alike.agree.registers) in
      each_agrees few live a b agree (λ reg other.
      let both = covers reg other in
      (unchanged before a first reg both.0.0 both.0.1, unchanged after b second reg both.0.0 both.1))
    where
      runs_one : (x y : State) → Runs x ≡ Runs y → x ≡ y
      runs_one x y same = cc

  pub over_all : EquatedOverAll before after
  over_all live =
      let no = no_return before after in
      let judged_few = sym (ap (λ b. if b then Same else judged false few (run before) (run after)) no) ∙ equated in
      ap (λ b. if b then Same else judged false live (run before) (run after)) no
      ∙ judged_too few live (run before) (run after) judged_few
      (λ a b first second. all_none live a b (registers_agree live a b first second) (changed_in b.regs (changed_in a.regs [])))

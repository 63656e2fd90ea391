-- Where a window ends and where instructions end whose symbolic states agree: both fall through, go to one label, or make the same call.
use Rattle.std.proofs.Common.{◌≡◌, ℕ, ◌^◌, ◌<◌, ◌==◌, Bool, true, false, List, Option, Some, None, refl, sym, ◌∙◌, ap, subst}
use Rattle.std.specs.Prelude.{if◌then◌else◌}
use Rattle.bits64.specs.declared.Width.TheVariants.{W8}
use Rattle.rtx_tree.specs.declared.function.Insn.{Insn}
use Rattle.rtx_tree.specs.declared.machine.RangeAt.{RangeAt}
use Rattle.rtx_tree.specs.declared.machine.SymbolAt.{SymbolAt}
use Rattle.rtx_tree.specs.declared.memories.MemByte.{MemByte}
use Rattle.run_memory.specs.RunMemory.{visible}
use Rattle.rtl_step.specs.Regs.{Regs}
use Rattle.rtl_step.specs.declared.call.CallEvent.{CallEvent}
use Rattle.term_tree.specs.Tree.{Tree, width_of}
use Rattle.term_mean.specs.Meaning.{Valuation, mean}
use Rattle.term_mean.proofs.SumLaws.{mean-constant}
use Rattle.law_window_kept.specs.law_function_kept.Outcomes.{HasEach}
use Rattle.law_states_agree.specs.law_window_runs.Insns.{InsnsEnd, Falls, Goes, Calls, InsnsCome}
use Rattle.law_window_kept.specs.Same.{SameEnd}
use Rattle.law_window_kept.specs.Same as window
use Rattle.law_states_agree.specs.sym_state.State.{State, Call, Jump, Runs}
use Rattle.law_states_agree.specs.sym_state.State as symbolic
use Rattle.law_states_agree.specs.sym_insns.Effects.{uid_in}
use Rattle.law_states_agree.specs.sym_insns.Run.{run}
use Rattle.law_states_agree.specs.sym_diff.Compared.{target_term, arg_at}
use Rattle.law_states_agree.specs.sym_diff.Agree.{Agree, CallsAgree, SameCall}
use Rattle.law_states_agree.specs.law_insn_terms.Means.{EndMeans, CallMeans, ArgsMean, LeadsOn}
use Rattle.law_states_agree.proofs.law_insn_terms.LastInsn.{HandsOver, EndsWell, ends_well}
use Rattle.law_states_agree.proofs.Agreeing.{same_way, widths_differ, uid_small, shown_uid}
use Rattle.law_insns_agree.proofs.Calls.{numbers_at, each_passed, widths_same}
use Rattle.law_insns_agree.proofs.Told.{Told}

-- ---- where a jump leads

pub one_target : (uid other : ℕ) (first second : Option ℕ) → uid_in uid ≡ first → uid_in other ≡ second → target_term first ≡ target_term second → (first ≡ None → ⊥) → uid ≡ other
one_target uid other None second is is' same some = absurd (some refl)
one_target uid other (Some x) None is is' same some = widths_differ (ap width_of same)
one_target uid other (Some x) (Some y) is is' same some =
    let first = uid_small uid x is in
    let second = uid_small other y is' in
    let one : x ≡ y = shown_uid x y (subst (λ n. n < 2 ^ 32) first.1 first.0) (subst (λ n. n < 2 ^ 32) second.1 second.0) same in
    first.1 ∙ one ∙ sym second.1

zero_condition : (v : Valuation) (jump : Jump) → jump ≡ symbolic.falls → (mean v jump.condition == 0) ≡ true
zero_condition v jump fell = ap (λ n. n == 0) (ap (λ (j : Jump). mean v j.condition) fell ∙ mean-constant v W8 0)

module _ (before after : List Insn) (live : List ℕ) (a b : State) (runs_first : run before ≡ Runs a) (runs_second : run after ≡ Runs b) (agree : Agree false live a b)
    (symbols : List SymbolAt) (ranges : List RangeAt) (regs other : Regs) (memory : List MemByte) (came : InsnsCome)
    (told : Told before after a b symbols ranges regs other memory came) (memory_is : told.done.memory ≡ came.memory) where
  abbrev done : InsnsCome
  done = told.done

  -- ---- no call

  -- the conditions have one number, or are both other than 0
  zero_same : EndMeans told.v ranges a.jump None told.again → EndMeans told.u ranges a.jump None told.again → (mean told.v a.jump.condition == 0) ≡ (mean told.u b.jump.condition == 0)
  zero_same own second =
      same_way (mean told.v a.jump.condition == 0) (mean told.u a.jump.condition == 0) a.jump.target told.again.ending own second ∙ ap (λ t. mean told.u t == 0) agree.jumps.0

  -- a window that goes to a label has a jump with a target
  has_target : (mean told.v a.jump.condition == 0) ≡ false → EndsWell a → a.jump.target ≡ None → ⊥
  has_target taken well none = let no : true ≡ false = sym (zero_condition told.v a.jump (well.no_target none)) ∙ taken in absurd (let no' : ⊥ = cc in no')

  led_by : (c : Bool) → (mean told.v a.jump.condition == 0) ≡ c → EndsWell a → LeadsOn c a.jump.target came.ending → LeadsOn c b.jump.target done.ending → SameEnd came.ending done.ending
  led_by true is well first second = subst (λ e. SameEnd e done.ending) (sym first) (subst (λ e. SameEnd Falls e) (sym second) window.falls)
  led_by false is well first second =
      let uid : first.0 ≡ second.0 = one_target first.0 second.0 a.jump.target b.jump.target first.2 second.2 agree.jumps.1 (has_target is well) in
      subst (λ e. SameEnd e done.ending) (sym first.1) (subst (λ e. SameEnd (Goes first.0) e) (sym (second.1 ∙ ap Goes (sym uid))) (window.goes first.0))

  no_call : EndMeans told.v ranges a.jump None came → EndMeans told.v ranges a.jump None told.again → EndMeans told.u ranges a.jump None told.again → EndMeans told.u ranges b.jump None done → SameEnd came.ending done.ending
  no_call means own second later =
      led_by (mean told.v a.jump.condition == 0) refl (ends_well before a runs_first) means
      (subst (λ c. LeadsOn c b.jump.target done.ending) (sym (zero_same own second)) later)

  -- ---- a call

  abbrev event_of : InsnsEnd → CallEvent → CallEvent
  event_of (Calls event w) other = event
  event_of _ other = other

  -- the window's call by both valuations, run on the registers that it uses
  target_same : (x : Call) → CallMeans told.v ranges x told.again → CallMeans told.u ranges x told.again → mean told.v x.target ≡ mean told.u x.target
  target_same x own second =
      let events : second.event ≡ own.event = ap (λ e. event_of e own.event) (sym second.ending_is ∙ own.ending_is) in
      sym own.target_is ∙ sym (ap (λ (e : CallEvent). e.target) events) ∙ second.target_is

  args_same : (x : Call) → CallMeans told.v ranges x told.again → CallMeans told.u ranges x told.again → (reg : ℕ) (t : Tree) → arg_at x.args reg ≡ Some t → mean told.v t ≡ mean told.u t
  args_same x own second reg t at =
      let events : second.event ≡ own.event = ap (λ e. event_of e own.event) (sym second.ending_is ∙ own.ending_is) in
      numbers_at told.v told.u x.args own.event.args reg t own.args_are (subst (λ (e : CallEvent). ArgsMean told.u x.args e.args) events second.args_are) at

  call_by : (x y : Call) → SameCall false x y → CallMeans told.v ranges x came → CallMeans told.v ranges x told.again → CallMeans told.u ranges x told.again → CallMeans told.u ranges y done → HandsOver x → HandsOver y →
      SameEnd came.ending done.ending
  call_by x y agrees means own second later hands hands' =
      let target : later.event.target ≡ means.event.target = later.target_is ∙ ap (mean told.u) (sym agrees.target) ∙ sym (target_same x own second) ∙ sym means.target_is in
      let passes : HasEach means.event.args later.event.args =
      each_passed told.v told.u x.args y.args means.event.args later.event.args hands.distinct means.args_are later.args_are agrees.args (args_same x own second) in
      let no_more : HasEach later.event.args means.event.args =
      each_passed told.u told.v y.args x.args later.event.args means.event.args hands'.distinct later.args_are means.args_are (agrees.more refl)
      (λ reg t at. sym (args_same x own second reg t (agrees.more refl reg t at))) in
      let width : means.width ≡ later.width = widths_same x.result y.result means.width later.width means.width_is later.width_is (agrees.result refl) in
      subst (λ e. SameEnd e done.ending) (sym means.ending_is)
      (subst (λ e. SameEnd (Calls means.event means.width) e) (sym (later.ending_is ∙ ap (Calls later.event) (sym width)))
      (window.calls means.event later.event means.width
      (record { target_is = target; passes = passes; no_more = no_more; memory_is = later.memory_is ∙ ap (visible ranges) memory_is ∙ sym means.memory_is })))

  -- ---- both

  ends_by : (first second : Option Call) → a.call ≡ first → b.call ≡ second → CallsAgree false first second → EndMeans told.v ranges a.jump first came → EndMeans told.v ranges a.jump first told.again →
      EndMeans told.u ranges a.jump first told.again → EndMeans told.u ranges b.jump second done → SameEnd came.ending done.ending
  ends_by None None is is' called means own second later = no_call means own second later
  ends_by None (Some y) is is' called means own second later = absurd called
  ends_by (Some x) None is is' called means own second later = absurd called
  ends_by (Some x) (Some y) is is' called means own second later =
      call_by x y called means own second later ((ends_well before a runs_first).hands_over x is) ((ends_well after b runs_second).hands_over y is')

  pub same_end : SameEnd came.ending done.ending
  same_end = ends_by a.call b.call refl refl agree.calls told.means.ending told.own_means.ending told.other_means.ending told.done_means.ending

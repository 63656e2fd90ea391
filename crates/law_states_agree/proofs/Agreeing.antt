-- Lines whose symbolic state agrees with that of instructions, over the registers that are live behind, do what the instructions do: they
-- go the same way, and all that is asked of them holds.
use Rattle.std.proofs.Common.{◌≡◌, ◌≢◌, ℕ, zero, suc, ◌%◌, ◌^◌, ◌<◌, ◌==◌, Bool, true, false, nat_lt, List, [], ◌∷◌, Option, Some, None, refl, sym, ◌∙◌, ap, subst, arith, tests}
use Rattle.std.proofs.lemmas.Bool.Decides.{nat_tests}
use Rattle.std.specs.Prelude.{if◌then◌else◌}
use Rattle.bits64.specs.declared.Width.TheVariants.{W8, W64}
use Rattle.rtx_tree.specs.declared.function.Insn.{Insn}
use Rattle.rtx_tree.specs.declared.machine.RangeAt.{RangeAt}
use Rattle.rtx_tree.specs.declared.machine.World.{World}
use Rattle.rtx_tree.specs.declared.memories.MemByte.{MemByte}
use Rattle.rtx_tree.specs.Memories.{IsOrdered}
use Rattle.run_memory.specs.RunMemory.{visible}
use Rattle.rtl_step.specs.Regs.{Regs}
use Rattle.rtl_step.specs.declared.call.CallEvent.{CallEvent}
use Rattle.rv_text.specs.Body.{label_text}
use Rattle.rv_text.specs.declared.line.Line.{Line}
use Rattle.rv_line.specs.declared.state.RvState.{RvState}
use Rattle.same_behaviour.specs.Ending.{IsUid}
use Rattle.term_tree.specs.Tree.{width_of}
use Rattle.term_mean.specs.Meaning.{Valuation, mean}
use Rattle.term_mean.specs.Sums.{constant}
use Rattle.term_mean.proofs.SumLaws.{mean-constant}
use Rattle.law_window_runs.specs.Insns.{InsnsEnd, InsnsCome}
use Rattle.law_window_runs.specs.Insns as rtl
use Rattle.law_window_runs.specs.Lines.{LinesEnd, LinesCome}
use Rattle.law_window_runs.specs.Lines as code_lines
use Rattle.law_window_runs.specs.Same.{SameEnd, Starts, DoSame}
use Rattle.law_window_runs.specs.Same as window
use Rattle.sym_diff.specs.sym_state.State.{State, Call, Jump, Runs}
use Rattle.sym_diff.specs.sym_state.State as symbolic
use Rattle.law_line_terms.specs.sym_insns.Effects.{uid_in}
use Rattle.law_line_terms.specs.sym_insns.Run as insns_run
use Rattle.law_line_terms.specs.sym_lines.Run as lines_run
use Rattle.law_line_terms.specs.sym_lines.Run.{label_uid}
use Rattle.sym_diff.specs.Registers.{is_live}
use Rattle.sym_diff.specs.Compared.{target_term, arg_at, arg_beside}
use Rattle.sym_diff.specs.Agree.{Agree, CallsAgree, SameCall}
use Rattle.law_line_terms.specs.law_insn_terms.Means.{EndMeans, CallMeans, ArgsMean, LeadsOn}
use Rattle.law_line_terms.specs.EndsLines.{EndsLines, falls, goes, calls}
use Rattle.law_line_terms.proofs.sym_lines.Labels.{label_uid-law}
use Rattle.law_line_terms.proofs.law_insn_terms.LastInsn.{HandsOver, EndsWell, ends_well}
use Rattle.law_states_agree.proofs.Windows.{window_keeps}
use Rattle.law_states_agree.proofs.LinesKeep.{lines_ordered}
use Rattle.law_states_agree.proofs.Calls.{same_args}
use Rattle.law_states_agree.proofs.Told.{code_of, Told, tell}
use Rattle.law_states_agree.proofs.Does as does

-- ---- where a jump leads

falls_or_goes : {A : Type 0} (uid : ℕ) (ending : InsnsEnd) → ending ≡ rtl.Falls → ending ≡ rtl.Goes uid → A
falls_or_goes uid ending first second = absurd (let both : rtl.Falls ≡ rtl.Goes uid = sym first ∙ second in let no : ⊥ = cc in no)

-- one window leads one way, whatever it is told by
pub same_way : (b c : Bool) (target : Option ℕ) (ending : InsnsEnd) → LeadsOn b target ending → LeadsOn c target ending → b ≡ c
same_way true true target ending first second = refl
same_way false false target ending first second = refl
same_way true false target ending first second = falls_or_goes second.0 ending first second.1
same_way false true target ending first second = falls_or_goes first.0 ending second first.1

is_zero : (n : ℕ) → n ≡ 0 → (n == 0) ≡ true
is_zero n is = grind (arith, nat_tests, is)

not_zero : (n : ℕ) → n ≢ 0 → (n == 0) ≡ false
not_zero n is = grind (arith, nat_tests, is)

pub widths_differ : {A : Type 0} → W64 ≡ W8 → A
widths_differ same = absurd (let no : ⊥ = cc in no)

none_shown : {A : Type 0} (uid : ℕ) → target_term (Some uid) ≡ target_term None → A
none_shown uid same = widths_differ (ap width_of same)

-- the uids of two targets that are shown by one term
pub shown_uid : (uid other : ℕ) → uid < 2 ^ 32 → other < 2 ^ 32 → target_term (Some uid) ≡ target_term (Some other) → uid ≡ other
shown_uid uid other first second same =
    let numbers : uid % 2 ^ 64 ≡ other % 2 ^ 64 = sym (mean-constant nowhere W64 uid) ∙ ap (mean nowhere) same ∙ mean-constant nowhere W64 other in
    omega (arith, numbers, first, second)
  where
    nowhere : Valuation
    nowhere = record { reg = λ reg. 0; sym = λ name. 0; memory = λ number address. 0 }

pub uid_small : (uid x : ℕ) → uid_in uid ≡ Some x → (uid < 2 ^ 32) × (uid ≡ x)
uid_small uid x is = by (nat_lt uid (2 ^ 32)) refl is
  where
    by : (b : Bool) → nat_lt uid (2 ^ 32) ≡ b → (if b then Some uid else None) ≡ Some x → (uid < 2 ^ 32) × (uid ≡ x)
    by true small is = (grind (arith, nat_tests, small), let same : uid ≡ x = cc in same)
    by false large is = absurd (let no : ⊥ = cc in no)

module _ (number : ℕ) (insns : List Insn) (lines : List Line) (live : List ℕ) (Few : ℕ → Type 0) (a b : State) (runs_first : insns_run.run insns ≡ Runs a) (agree : Agree true live a b)
    (world : World) (ranges : List RangeAt) (regs : Regs) (memory : List MemByte) (m : RvState) (came : InsnsCome)
    (starts : Starts insns Few world ranges regs memory m) (told : Told number insns lines a b world ranges regs memory m came) where
  abbrev done : LinesCome
  done = told.ran.done

  -- ---- no call

  zero_same : EndMeans told.v ranges a.jump None told.again → EndMeans told.u ranges a.jump None told.again → (mean told.v a.jump.condition == 0) ≡ (mean told.u b.jump.condition == 0)
  zero_same own code =
      same_way (mean told.v a.jump.condition == 0) (mean told.u a.jump.condition == 0) a.jump.target told.again.ending own code ∙ ap (λ t. mean told.u t == 0) agree.jumps.0

  falls_same : (e : LinesEnd) → done.ending ≡ e → e ≡ code_lines.Falls → came.ending ≡ rtl.Falls → SameEnd number ranges done.machine came.ending done.ending
  falls_same e is fell comes = subst (λ x. SameEnd number ranges done.machine x done.ending) (sym comes) (subst (λ x. SameEnd number ranges done.machine rtl.Falls x) (sym (is ∙ fell)) window.falls)

  target_by : (text : List ℕ) (uid : ℕ) (first second : Option ℕ) → a.jump.target ≡ first → b.jump.target ≡ second → uid_in uid ≡ first → label_uid number text ≡ second → target_term first ≡ target_term second →
      (first ≡ None → a.jump ≡ symbolic.falls) → (a.jump ≡ symbolic.falls → ⊥) → (text ≡ label_text number uid) × IsUid uid
  target_by text uid None second is is' in_is label same none some = absurd (some (none refl))
  target_by text uid (Some x) None is is' in_is label same none some = none_shown x same
  target_by text uid (Some x) (Some y) is is' in_is label same none some =
      let at = (label_uid-law number text y).0 label in
      let small = uid_small uid x in_is in
      let one : x ≡ y = shown_uid x y (subst (λ n. n < 2 ^ 32) small.1 small.0) at.1 same in
      (at.0 ∙ ap (label_text number) (sym one ∙ sym small.1), small.0)

  goes_same : (text : List ℕ) (uid : ℕ) → done.ending ≡ code_lines.Goes text → came.ending ≡ rtl.Goes uid → text ≡ label_text number uid → IsUid uid → SameEnd number ranges done.machine came.ending done.ending
  goes_same text uid is comes label small =
      subst (λ x. SameEnd number ranges done.machine x done.ending) (sym comes)
      (subst (λ x. SameEnd number ranges done.machine (rtl.Goes uid) x) (sym (is ∙ ap code_lines.Goes label)) (window.goes uid small))

  -- a condition that is not 0 is none of a window without a jump
  taken : mean told.u b.jump.condition ≢ 0 → a.jump ≡ symbolic.falls → ⊥
  taken some fell = some (ap (mean told.u) (sym agree.jumps.0 ∙ ap (λ (j : Jump). j.condition) fell) ∙ mean-constant told.u W8 0)

  no_call_by : EndsLines told.u (code_of world.symbols m) m.regs number b done → b.call ≡ None → EndMeans told.v ranges a.jump None came → (mean told.v a.jump.condition == 0) ≡ (mean told.u b.jump.condition == 0) → EndsWell a →
      SameEnd number ranges done.machine came.ending done.ending
  no_call_by (falls none nothing shows ends) is means truth well =
      let leads : LeadsOn true a.jump.target came.ending = subst (λ x. LeadsOn x a.jump.target came.ending) (truth ∙ is_zero (mean told.u b.jump.condition) nothing) means in
      falls_same done.ending refl ends leads
  no_call_by (goes text none some shows target ends) is means truth well =
      let leads : LeadsOn false a.jump.target came.ending = subst (λ x. LeadsOn x a.jump.target came.ending) (truth ∙ not_zero (mean told.u b.jump.condition) some) means in
      let label = target_by text leads.0 a.jump.target b.jump.target refl refl leads.2 target agree.jumps.1 well.no_target (taken some) in
      goes_same text leads.0 ends leads.1 label.0 label.1
  no_call_by (calls call before there stays stores regs shows ends args) is means truth well = absurd (let no : None ≡ Some call = sym is ∙ there in let no' : ⊥ = cc in no')

  -- ---- a call

  abbrev event_of : InsnsEnd → CallEvent → CallEvent
  event_of (rtl.Calls event w) other = event
  event_of _ other = other

  call_by : (x y : Call) → EndsLines told.u (code_of world.symbols m) m.regs number b done → b.call ≡ Some y → SameCall true x y → CallMeans told.v ranges x came → CallMeans told.v ranges x told.again → CallMeans told.u ranges x told.again →
      CallMeans told.w ranges x told.again → HandsOver x → visible ranges done.machine.memory ≡ visible ranges came.memory → SameEnd number ranges done.machine came.ending done.ending
  call_by x y (falls none nothing shows ends) is same means own code other hands seen = absurd (let no : None ≡ Some y = sym none ∙ is in let no' : ⊥ = cc in no')
  call_by x y (goes text none some shows target ends) is same means own code other hands seen = absurd (let no : None ≡ Some y = sym none ∙ is in let no' : ⊥ = cc in no')
  call_by x y (calls call before there stays stores regs_are shows ends args) is agrees means own code other hands seen =
      let one : call ≡ y = let e : Some call ≡ Some y = sym there ∙ is in cc in
      let event : CallEvent = own.event in
      let code_event : code.event ≡ own.event = ap (λ e. event_of e own.event) (sym code.ending_is ∙ own.ending_is) in
      let other_event : other.event ≡ own.event = ap (λ e. event_of e own.event) (sym other.ending_is ∙ own.ending_is) in
      let target : mean told.u call.target ≡ means.event.target =
      ap (λ (c : Call). mean told.u c.target) one ∙ ap (mean told.u) (sym agrees.target) ∙ sym code.target_is ∙ ap (λ (e : CallEvent). e.target) code_event ∙ own.target_is ∙ sym means.target_is in
      let arguments = same_args told.v told.u told.w x.args means.event.args own.event.args before.regs ranges (mean told.u call.target) m.regs done.machine
      means.args_are own.args_are (subst (λ (e : CallEvent). ArgsMean told.u x.args e.args) code_event code.args_are) (subst (λ (e : CallEvent). ArgsMean told.w x.args e.args) other_event other.args_are) hands.distinct
      (λ reg t at. subst (λ l. arg_beside true (Some t) (arg_at l reg) ≡ Some t) (sym (ap (λ (c : Call). c.args) one) ∙ args) (agrees.args reg t at))
      shows.registers told.held_at told.none_at in
      subst (λ e. SameEnd number ranges done.machine e done.ending) (sym means.ending_is)
      (subst (λ e. SameEnd number ranges done.machine (rtl.Calls means.event means.width) e) (sym ends)
      (window.calls means.event means.width (mean told.u call.target) (record { target_is = target; args_are = arguments; memory_is = seen ∙ sym means.memory_is })))

  -- ---- both

  ends_by : (first second : Option Call) → b.call ≡ second → CallsAgree true first second → EndMeans told.v ranges a.jump first came → EndMeans told.v ranges a.jump first told.again → EndMeans told.u ranges a.jump first told.again →
      EndMeans told.w ranges a.jump first told.again → ((call : Call) → first ≡ Some call → HandsOver call) → visible ranges done.machine.memory ≡ visible ranges came.memory → SameEnd number ranges done.machine came.ending done.ending
  ends_by None None is called means own code other hands seen = no_call_by told.ran.ends is means (zero_same own code) (ends_well insns a runs_first)
  ends_by None (Some y) is called means own code other hands seen = absurd called
  ends_by (Some x) None is called means own code other hands seen = absurd called
  ends_by (Some x) (Some y) is called means own code other hands seen = call_by x y told.ran.ends is called means own code other (hands x refl) seen

  pub same_end : visible ranges done.machine.memory ≡ visible ranges came.memory → SameEnd number ranges done.machine came.ending done.ending
  same_end seen =
      ends_by a.call b.call refl agree.calls told.means.ending told.own_means.ending told.code_means.ending told.other_means.ending (λ call is. (ends_well insns a runs_first).hands_over call is) seen

-- lines whose symbolic state agrees with that of instructions do what they do, over any of the registers that are live
pub agreeing_does : (number : ℕ) (insns : List Insn) (lines : List Line) (live : List ℕ) (Few : ℕ → Type 0) → ((reg : ℕ) → Few reg → is_live live reg ≡ true) → (a b : State) → insns_run.run insns ≡ Runs a → lines_run.run number lines ≡ Runs b → Agree true live a b →
    DoSame number insns lines Few
agreeing_does number insns lines live Few few a b runs_first runs_second agree world ranges regs memory m came starts comes =
    let told = tell number insns lines live Few a b runs_first runs_second agree world ranges regs memory m came starts comes in
    let keeps = window_keeps world.symbols ranges insns regs memory came comes in
    let ordered : IsOrdered told.ran.done.machine.memory = lines_ordered world lines m told.ran.done told.ran.comes starts.beside.second.memory.ordered in
    let beside = does.beside number insns lines live Few few a b runs_first agree world ranges regs memory m came starts told keeps ordered in
    record {
      done = told.ran.done;
      comes = told.ran.comes;
      same_end = same_end number insns lines live Few a b runs_first agree world ranges regs memory m came starts told beside.visible_is;
      beside = beside;
      agree = does.agree_behind number insns lines live Few few a b runs_first agree world ranges regs memory m came starts told;
      kept = does.kept number insns lines live Few few a b runs_first agree world ranges regs memory m came starts told;
      return_address = does.kept_address number insns lines live Few few a b runs_first agree world ranges regs memory m came starts told keeps;
      entry_is = told.ran.entry_is;
    }

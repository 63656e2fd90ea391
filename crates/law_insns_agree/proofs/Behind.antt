-- A register behind a window and behind instructions whose symbolic states agree: what is known of it in the one is known in the other, and
-- what the window leaves alone stays as it was.
use Rattle.std.proofs.Common.{◌≡◌, ◌≤◌, ℕ, zero, suc, ◌==◌, ◌&&◌, ◌||◌, nat_le, Bool, true, false, List, Option, Some, None, refl, sym, ◌∙◌, ap, arith, tests}
use Rattle.std.proofs.lemmas.Bool.Decides.{nat_tests}
use Rattle.std.specs.Prelude.{if◌then◌else◌, is_some, not, option_and_then}
use Rattle.std.specs.FinMap.{get}
use Rattle.bits64.specs.declared.Width.{Width}
use Rattle.bits64.specs.declared.Width.TheVariants.{W64}
use Rattle.bits64.specs.Words.{bits_of, low}
use Rattle.rtx_tree.specs.Registers.{is_call_used, virtual_stack_vars}
use Rattle.rtx_tree.specs.declared.function.Insn.{Insn}
use Rattle.rtx_tree.specs.declared.machine.RangeAt.{RangeAt}
use Rattle.rtx_tree.specs.declared.machine.SymbolAt.{SymbolAt}
use Rattle.rtx_tree.specs.declared.memories.MemByte.{MemByte}
use Rattle.rtl_step.specs.Regs.{Regs, known_of, known_in, reg_value}
use Rattle.term_tree.specs.Tree.{Tree, width_of}
use Rattle.term_tree.specs.Form.{narrower}
use Rattle.term_mean.specs.Meaning.{Valuation, mean}
use Rattle.term_mean.specs.Compared.{low_bits}
use Rattle.term_mean.proofs.CutLaws.{low-low}
use Rattle.term_mean.proofs.ComparedLaws.{mean-low_bits}
use Rattle.law_states_agree.specs.law_window_runs.Insns.{InsnsEnd, Falls, Goes, Calls, Returns, InsnsCome}
use Rattle.law_states_agree.specs.law_window_runs.Same.{IsKept}
use Rattle.law_states_agree.specs.law_window_runs.Uses.{window_defines}
use Rattle.law_window_kept.specs.Same.{KnownToo, KnownAlike, SameEnd, Starts, is_free, falls, goes, calls}
use Rattle.law_states_agree.specs.sym_state.State.{State, Call, Runs, own_register}
use Rattle.law_states_agree.specs.sym_state.Registers.{held}
use Rattle.law_states_agree.specs.sym_insns.Run.{run}
use Rattle.law_states_agree.specs.law_insn_terms.Shows.{ShowsRegister}
use Rattle.law_states_agree.specs.law_insn_terms.Means.{left_at, first_of, EndMeans}
use Rattle.law_states_agree.proofs.law_insn_terms.Left.{left_value}
use Rattle.law_states_agree.proofs.law_insn_terms.Kept.{held_defined}
use Rattle.law_states_agree.specs.sym_diff.Registers.{is_live, one_calls, is_passed_over, value_behind}
use Rattle.law_states_agree.specs.sym_diff.Agree.{Agree, AgreesIn, CallsAgree, Knows}
use Rattle.law_states_agree.proofs.Behind.{cut, own_mean, known_value, IsKnown, within_64}
use Rattle.law_states_agree.proofs.Windows.{WindowKeeps}
use Rattle.law_insns_agree.proofs.Told.{Told}

-- ---- what a call leaves

-- registers of a window that is no call are those that its state shows, and so are those that a call leaves
left_same : (ending : InsnsEnd) (regs : Regs) (reg : ℕ) (w : Width) → IsKept ending reg → reg_value (left_at ending regs) reg w ≡ reg_value regs reg w
left_same Falls regs reg w kept = refl
left_same (Goes uid) regs reg w kept = refl
left_same (Calls event w') regs reg w kept = left_value (Calls event w') regs reg w kept
left_same Returns regs reg w kept = refl

kept_too : (ending other : InsnsEnd) (reg : ℕ) → SameEnd ending other → IsKept ending reg → IsKept other reg
kept_too ending other reg falls kept = tt
kept_too ending other reg (goes uid) kept = tt
kept_too ending other reg (calls event event' w same) kept = kept

-- behind a window that is no call, nothing is passed over; behind a call, what it may change is
not_passed : (v : Valuation) (ranges : List RangeAt) (a : State) (first second : Option Call) (came : InsnsCome) (ending : InsnsEnd) (reg : ℕ) → came.ending ≡ ending → EndMeans v ranges a.jump first came →
    CallsAgree false first second → IsKept ending reg → ((is_some first || is_some second) && is_call_used reg) ≡ false
not_passed v ranges a first second came (Calls event w) reg ends means agree kept = by (is_some first || is_some second)
  where
    by : (x : Bool) → (x && is_call_used reg) ≡ false
    by true = kept
    by false = refl
not_passed v ranges a None None came ending reg ends means agree kept = refl
not_passed v ranges a None (Some c) came ending reg ends means agree kept = absurd agree
not_passed v ranges a (Some c) second came Falls reg ends means agree kept = absurd (let both : Falls ≡ Calls means.event means.width = sym ends ∙ means.ending_is in let no : ⊥ = cc in no)
not_passed v ranges a (Some c) second came (Goes uid) reg ends means agree kept = absurd (let both : Goes uid ≡ Calls means.event means.width = sym ends ∙ means.ending_is in let no : ⊥ = cc in no)
not_passed v ranges a (Some c) second came Returns reg ends means agree kept = absurd (let both : Returns ≡ Calls means.event means.width = sym ends ∙ means.ending_is in let no : ⊥ = cc in no)

-- ---- a register that is set to what is known of a term

set_reads : (u : Valuation) (regs : Regs) (reg : ℕ) (x t : Tree) (w : Width) → get regs (suc reg) ≡ Some (known_of (width_of x) (mean u x)) → narrower (width_of x) (width_of t) ≡ false → low_bits (width_of t) x ≡ t →
    bits_of w ≤ bits_of (width_of t) → reg_value regs (suc reg) w ≡ Some (low w (mean u t))
set_reads u regs reg x t w set wide is less =
    let wide' : bits_of (width_of t) ≤ bits_of (width_of x) = grind (arith, nat_tests, wide) in
    let less' : bits_of w ≤ bits_of (width_of x) = omega (arith, wide', less) in
    let here : nat_le (bits_of w) (bits_of (width_of x)) ≡ true = grind (arith, tests, less') in
    let number : low w (low (width_of x) (mean u x)) ≡ low w (mean u t) =
    ap (low w) (cut u x) ∙ sym (low-low w (width_of t) (mean u x) less) ∙ ap (low w) (sym (mean-low_bits u (width_of t) x)) ∙ ap (λ y. low w (mean u y)) is in
    ap (option_and_then (known_in w)) set ∙ ap (λ b. if b then Some (low w (low (width_of x) (mean u x))) else None) here ∙ ap Some number

-- ---- behind both

module _ (before after : List Insn) (live : List ℕ) (Few : ℕ → Type 0) (few : (reg : ℕ) → Few reg → is_live live reg ≡ true) (a b : State) (runs_first : run before ≡ Runs a) (agree : Agree false live a b)
    (symbols : List SymbolAt) (ranges : List RangeAt) (regs other : Regs) (memory : List MemByte) (came : InsnsCome)
    (starts : Starts before Few symbols regs other memory) (told : Told before after a b symbols ranges regs other memory came) (same_end : SameEnd came.ending told.done.ending) where
  abbrev left : Regs
  left = left_at told.done.ending told.done.regs

  undefined : (reg : ℕ) (o : Option (Option Tree)) → held a.regs (suc reg) ≡ o → o ≡ None → window_defines before (suc reg) ≡ false
  undefined reg o is none = sym (held_defined before a runs_first reg) ∙ ap is_some (is ∙ none)

  unchanged : (reg : ℕ) (o : Option (Option Tree)) → held a.regs (suc reg) ≡ o → window_defines before (suc reg) ≡ false → o ≡ None
  unchanged reg None is none = refl
  unchanged reg (Some x) is none = absurd (let no : true ≡ false = sym (ap is_some is) ∙ held_defined before a runs_first reg ∙ none in let no' : ⊥ = cc in no')

  passed_by : (reg : ℕ) → IsKept came.ending reg → is_passed_over (one_calls a b) reg ≡ false
  passed_by reg kept = not_passed told.v ranges a a.call b.call came came.ending reg refl told.means.ending agree.calls kept

  -- ---- what is known

  -- what is known of a register that goes by its own bits
  own_reads : (reg : ℕ) (t : Tree) (w : Width) (o : Option ℕ) → reg_value other (suc reg) w ≡ o → low_bits (width_of t) (own_register (suc reg)) ≡ t → bits_of w ≤ bits_of (width_of t) →
      (reg_value other (suc reg) w ≡ None → ⊥) → reg_value other (suc reg) w ≡ Some (low w (mean told.u t))
  own_reads reg t w None at is less missing = absurd (missing at)
  own_reads reg t w (Some value) at is less missing =
      let number : low w (mean told.u t) ≡ low w (told.u.reg (suc reg)) =
      ap (λ y. low w (mean told.u y)) (sym is) ∙ ap (low w) (own_mean told.u (width_of t) (suc reg)) ∙ low-low w (width_of t) (told.u.reg (suc reg)) less in
      at ∙ ap Some (told.reads (suc reg) w value at ∙ sym number)

  behind_by : (reg : ℕ) (second : Option (Option Tree)) (t : Tree) (w : Width) → Knows (value_behind second (suc reg)) t → bits_of w ≤ bits_of (width_of t) →
      ShowsRegister told.u (first_of symbols other memory) left second (suc reg) → (low_bits (width_of t) (own_register (suc reg)) ≡ t → reg_value other (suc reg) w ≡ None → ⊥) →
      reg_value left (suc reg) w ≡ Some (low w (mean told.u t))
  behind_by reg None t w knows less shows missing = shows w ∙ own_reads reg t w (reg_value other (suc reg) w) refl knows.1 less (missing knows.1)
  behind_by reg (Some None) t w knows less shows missing = absurd knows
  behind_by reg (Some (Some x)) t w knows less shows missing = set_reads told.u left reg x t w shows knows.0 knows.1 less

  agree_by : (reg : ℕ) (first second : Option (Option Tree)) (w : Width) (value : ℕ) → held a.regs (suc reg) ≡ first → Few (suc reg) →
      ((t : Tree) → value_behind first (suc reg) ≡ Some t → Knows (value_behind second (suc reg)) t) →
      ShowsRegister told.v (first_of symbols regs memory) (left_at came.ending came.regs) first (suc reg) → ShowsRegister told.u (first_of symbols other memory) left second (suc reg) →
      reg_value (left_at came.ending came.regs) (suc reg) w ≡ Some value → reg_value left (suc reg) w ≡ Some value
  agree_by reg None second w value is lives knows shows shows' known =
      let there : reg_value other (suc reg) w ≡ Some value = starts.passed (suc reg) lives (undefined reg None is refl) w value (sym (shows w) ∙ known) in
      let own : low w (mean told.u (own_register (suc reg))) ≡ low w (told.u.reg (suc reg)) =
      ap (low w) (own_mean told.u W64 (suc reg)) ∙ low-low w W64 (told.u.reg (suc reg)) (within_64 w) in
      behind_by reg second (own_register (suc reg)) w (knows (own_register (suc reg)) refl) (within_64 w) shows'
      (λ own_is none. absurd (let no : ◌≡◌ {A = Option ℕ} None (Some value) = sym none ∙ there in let no' : ⊥ = cc in no'))
      ∙ ap Some (own ∙ sym (told.reads (suc reg) w value there))
  agree_by reg (Some None) second w value is lives knows shows shows' known =
      absurd (let none : ◌≡◌ {A = Option ℕ} None (Some value) = sym (ap (option_and_then (known_in w)) shows) ∙ known in let no : ⊥ = cc in no)
  agree_by reg (Some (Some t)) second w value is lives knows shows shows' known =
      let is_known : IsKnown w t (mean told.v t) value = known_value w t (mean told.v t) value (sym (ap (option_and_then (known_in w)) shows) ∙ known) (cut told.v t) in
      behind_by reg second t w (knows t refl) is_known.narrow shows' (λ own_is. told.known reg t w is own_is is_known.narrow)
      ∙ ap Some (ap (low w) (told.numbers reg t is) ∙ sym is_known.value_is)

  pub agree_behind : (reg : ℕ) → Few reg → IsKept came.ending reg → KnownToo came.regs told.done.regs reg
  agree_behind zero lives kept w value is = is
  agree_behind (suc reg) lives kept w value is =
      sym (left_same told.done.ending told.done.regs (suc reg) w (kept_too came.ending told.done.ending (suc reg) same_end kept))
      ∙ agree_by reg (held a.regs (suc reg)) (held b.regs (suc reg)) w value refl lives ((agree.registers (suc reg) (passed_by (suc reg) kept)).known (few (suc reg) lives))
      (told.means.shows.registers reg) (told.done_means.shows.registers reg) (left_same came.ending came.regs (suc reg) w kept ∙ is)

  -- ---- what the window leaves alone

  -- a register that is not free, and that the window leaves alone, is none that a call of it may change
  call_keeps : (keeps : WindowKeeps symbols ranges before memory came) (reg : ℕ) (ending : InsnsEnd) → came.ending ≡ ending → window_defines before reg ≡ false → is_free reg ≡ false → IsKept ending reg
  call_keeps keeps reg Falls is undefined unfree = tt
  call_keeps keeps reg (Goes uid) is undefined unfree = tt
  call_keeps keeps reg Returns is undefined unfree = tt
  call_keeps keeps reg (Calls event w) is undefined unfree = by (is_call_used reg) (reg == 1) refl refl unfree
    where
      by : (x y : Bool) → is_call_used reg ≡ x → (reg == 1) ≡ y → (x && not y) ≡ false → is_call_used reg ≡ false
      by false y used is_ra unfree = used
      by true false used is_ra unfree = absurd (let no : ⊥ = cc in no)
      by true true used is_ra unfree =
          let ra : reg ≡ 1 = grind (arith, nat_tests, is_ra) in
          let no : true ≡ false = sym (keeps.calls event w is) ∙ ap (window_defines before) (sym ra) ∙ undefined in absurd (let no' : ⊥ = cc in no')

  kept_by : (reg : ℕ) (second : Option (Option Tree)) (w : Width) → (is_some second ≡ true → ⊥) → ShowsRegister told.u (first_of symbols other memory) left second (suc reg) → reg_value other (suc reg) w ≡ reg_value left (suc reg) w
  kept_by reg None w none shows = sym (shows w)
  kept_by reg (Some x) w none shows = absurd (none refl)

  pub kept_behind : WindowKeeps symbols ranges before memory came → (reg : ℕ) → reg ≤ virtual_stack_vars → window_defines before reg ≡ false → is_free reg ≡ false → KnownAlike other told.done.regs reg
  kept_behind keeps zero hard undefined unfree w = refl
  kept_behind keeps (suc reg) hard undefined unfree w =
      let kept : IsKept came.ending (suc reg) = call_keeps keeps (suc reg) came.ending refl undefined unfree in
      let agrees : AgreesIn live a b (suc reg) = agree.registers (suc reg) (passed_by (suc reg) kept) in
      kept_by reg (held b.regs (suc reg)) w
      (λ changed. let no : true ≡ false = sym (agrees.kept hard (unchanged reg (held a.regs (suc reg)) refl undefined) changed).0 ∙ unfree in absurd (let no' : ⊥ = cc in no'))
      (told.done_means.shows.registers reg)
      ∙ left_same told.done.ending told.done.regs (suc reg) w (kept_too came.ending told.done.ending (suc reg) same_end kept)

-- Lines whose symbolic state agrees with that of instructions, over the registers that are live behind, do what the instructions do.
use Rattle.std.proofs.Common.{◌≡◌, ◌≢◌, ◌≤◌, ℕ, zero, suc, ◌+◌, ◌-◌, ◌%◌, ◌^◌, ◌<◌, ◌==◌, ◌&&◌, ◌||◌, nat_le, Bool, true, false, List, [], ◌∷◌, length, Option, Some, None, refl, sym, ◌∙◌, ap, subst, arith, tests}
use Rattle.std.proofs.lemmas.Bool.Decides.{nat_tests}
use Rattle.std.specs.Prelude.{if◌then◌else◌, is_some, not, option_map, option_and_then, slice_get}
use Rattle.std.specs.FinMap.{get}
use Rattle.std.specs.List.{All}
use Rattle.bits64.specs.declared.Width.{Width}
use Rattle.bits64.specs.Words.{low}
use Rattle.rtx_tree.specs.declared.machine.RangeAt.{RangeAt}
use Rattle.rtx_tree.specs.declared.machine.World.{World}
use Rattle.rtx_tree.specs.declared.memories.MemByte.{MemByte}
use Rattle.rtx_tree.specs.Memories.{IsOrdered, byte_at}
use Rattle.rtx_tree.specs.Registers.{is_call_used, virtual_stack_vars}
use Rattle.rtx_tree.specs.declared.function.Insn.{Insn}
use Rattle.run_memory.specs.RunMemory.{is_visible, visible}
use Rattle.rtl_step.specs.declared.regs.Known.{Known}
use Rattle.rtl_step.specs.Regs.{Regs, known_in, reg_value}
use Rattle.rv_text.specs.declared.line.Line.{Line}
use Rattle.rv_line.specs.Step.{register}
use Rattle.rv_line.specs.declared.state.RvState.{RvState}
use Rattle.same_behaviour.specs.Lawful.{IsMemory}
use Rattle.term_tree.specs.Tree.{Tree}
use Rattle.term_mean.specs.Meaning.{mean}
use Rattle.law_window_runs.specs.Insns.{InsnsEnd, InsnsCome}
use Rattle.law_window_runs.specs.Insns as insns
use Rattle.law_window_runs.specs.Uses.{window_defines}
use Rattle.law_window_runs.specs.Beside.{reads, Agrees, Beside}
use Rattle.law_window_runs.specs.Same.{Starts, IsKept}
use Rattle.sym_diff.specs.sym_state.State.{State, Call, Runs, own_register}
use Rattle.sym_diff.specs.sym_state.Registers.{held}
use Rattle.law_line_terms.specs.sym_insns.Run as insns_run
use Rattle.law_line_terms.specs.sym_lines.Run as lines_run
use Rattle.law_line_terms.specs.law_insn_terms.Shows.{ShowsRegister}
use Rattle.law_line_terms.specs.law_insn_terms.Means.{left_at, first_of, EndMeans}
use Rattle.law_line_terms.specs.ShowsLine.{ShowsNumber}
use Rattle.sym_diff.specs.Registers.{is_live, is_free, one_calls, is_passed_over, value_behind}
use Rattle.sym_diff.specs.Agree.{Agree, AgreesIn, Knows}
use Rattle.law_line_terms.proofs.law_insn_terms.Left.{left_value}
use Rattle.law_line_terms.proofs.law_insn_terms.Kept.{held_defined}
use Rattle.law_states_agree.proofs.Windows.{WindowKeeps}
use Rattle.law_states_agree.proofs.Twice as twice
use Rattle.law_states_agree.proofs.Behind.{cut, known_value, IsKnown, kept_behind, changed_behind}
use Rattle.law_states_agree.proofs.Ends.{not_passed, none_calls}
use Rattle.law_states_agree.proofs.Told.{Told}
use Rattle.law_states_agree.proofs.Visible.{all_bytes, same_seen, seen_same}
use Rattle.law_states_agree.proofs.Covered.{some_of}

-- registers of a window that is no call are those that its state shows, and so are those that a call leaves
left_same : (ending : InsnsEnd) (regs : Regs) (reg : ℕ) (w : Width) → IsKept ending reg → reg_value (left_at ending regs) reg w ≡ reg_value regs reg w
left_same insns.Falls regs reg w kept = refl
left_same (insns.Goes uid) regs reg w kept = refl
left_same (insns.Calls event w') regs reg w kept = left_value (insns.Calls event w') regs reg w kept
left_same insns.Returns regs reg w kept = refl

none_of : (o : Option ℕ) → is_some o ≡ false → o ≡ None
none_of None is = refl
none_of (Some x) is = absurd (let no : ⊥ = cc in no)

past_none : (regs : List (Option ℕ)) (reg : ℕ) → length regs ≤ reg → slice_get regs reg ≡ None
past_none [] reg past = refl
past_none (x ∷ regs) zero past = absurd (omega (arith, past))
past_none (x ∷ regs) (suc reg) past = past_none regs reg (omega (arith, past))

none_past : (regs : List (Option ℕ)) (reg : ℕ) → (length regs ≤ reg) × (0 < reg) → register regs reg ≡ None
none_past regs zero past = absurd (omega (arith, past.1))
none_past regs (suc reg) past =
    let some : (suc reg == 0) ≡ false = grind (arith, nat_tests) in
    ap (λ b. if b then Some 0 else option_and_then (λ (value : Option ℕ). value) (slice_get regs (suc reg))) some ∙ ap (option_and_then (λ (value : Option ℕ). value)) (past_none regs (suc reg) past.0)

free_used : (reg : ℕ) → is_free reg ≡ true → is_call_used reg ≡ true
free_used reg is = by (is_call_used reg) is
  where
    by : (b : Bool) → (b && not (reg == 1)) ≡ true → b ≡ true
    by true is = refl
    by false is = is

module _ (number : ℕ) (insns : List Insn) (lines : List Line) (live : List ℕ) (Few : ℕ → Type 0) (few : (reg : ℕ) → Few reg → is_live live reg ≡ true) (a b : State) (runs_first : insns_run.run insns ≡ Runs a) (agree : Agree true live a b)
    (world : World) (ranges : List RangeAt) (regs : Regs) (memory : List MemByte) (m : RvState) (came : InsnsCome)
    (starts : Starts insns Few world ranges regs memory m) (told : Told number insns lines a b world ranges regs memory m came) where
  -- ---- registers

  undefined : (reg : ℕ) (o : Option (Option Tree)) → held a.regs (suc reg) ≡ o → o ≡ None → window_defines insns (suc reg) ≡ false
  undefined reg o is none = sym (held_defined insns a runs_first reg) ∙ ap is_some (is ∙ none)

  unchanged : (reg : ℕ) (o : Option (Option Tree)) → held a.regs (suc reg) ≡ o → window_defines insns (suc reg) ≡ false → o ≡ None
  unchanged reg None is none = refl
  unchanged reg (Some x) is none = absurd (let no : true ≡ false = sym (ap is_some is) ∙ held_defined insns a runs_first reg ∙ none in let no' : ⊥ = cc in no')

  agree_by : (reg : ℕ) (first second : Option (Option Tree)) (w : Width) (value : ℕ) → held a.regs (suc reg) ≡ first → Few (suc reg) →
      ((t : Tree) → value_behind first (suc reg) ≡ Some t → Knows (value_behind second (suc reg)) t) →
      ShowsRegister told.v (first_of world.symbols regs memory) (left_at came.ending came.regs) first (suc reg) → ShowsNumber told.u m.regs told.ran.done.machine.regs second (suc reg) →
      reg_value (left_at came.ending came.regs) (suc reg) w ≡ Some value → reads told.ran.done.machine.regs (suc reg) w ≡ Some value
  agree_by reg None second w value is lives knows shows shows' known =
      kept_behind told.u m.regs told.ran.done.machine.regs reg second w value (knows (own_register (suc reg)) refl) (told.held_at (suc reg))
      (starts.passed (suc reg) lives (undefined reg None is refl) w value (sym (shows w) ∙ known)) shows'
  agree_by reg (Some None) second w value is lives knows shows shows' known =
      absurd (let none : ◌≡◌ {A = Option ℕ} None (Some value) = sym (ap (option_and_then (known_in w)) shows) ∙ known in let no : ⊥ = cc in no)
  agree_by reg (Some (Some t)) second w value is lives knows shows shows' known =
      let is_known : IsKnown w t (mean told.v t) value = known_value w t (mean told.v t) value (sym (ap (option_and_then (known_in w)) shows) ∙ known) (cut told.v t) in
      changed_behind told.u m.regs told.ran.done.machine.regs reg second t w value (knows t refl)
      (record { narrow = is_known.narrow; value_is = is_known.value_is ∙ ap (low w) (sym (told.numbers reg t is)) }) (told.held_at (suc reg)) (told.there reg t is) shows'

  zero_low : (w : Width) → low w 0 ≡ 0
  zero_low w = omega arith

  passed_by : (reg : ℕ) → IsKept came.ending reg → is_passed_over (one_calls a b) reg ≡ false
  passed_by reg kept = not_passed told.v ranges a b a.call b.call came came.ending reg refl told.means.ending agree.calls kept

  pub agree_behind : (reg : ℕ) → Few reg → IsKept came.ending reg → Agrees came.regs told.ran.done.machine.regs reg
  agree_behind zero lives kept w value is = let same : 0 ≡ value = cc in ap Some (zero_low w ∙ same)
  agree_behind (suc reg) lives kept w value is =
      agree_by reg (held a.regs (suc reg)) (held b.regs (suc reg)) w value refl lives ((agree.registers (suc reg) (passed_by (suc reg) kept)).known (few (suc reg) lives))
      (told.means.shows.registers reg) (told.left.registers reg (passed_by (suc reg) kept)) (left_same came.ending came.regs (suc reg) w kept ∙ is)

  -- ---- what the instructions leave alone

  unused_by : (x : Bool) (reg : ℕ) → is_call_used reg ≡ false → (x && is_call_used reg) ≡ false
  unused_by true reg is = is
  unused_by false reg is = refl

  kept_number : (reg : ℕ) (second : Option (Option Tree)) → (is_some second ≡ true → ⊥) → ShowsNumber told.u m.regs told.ran.done.machine.regs second (suc reg) → register told.ran.done.machine.regs (suc reg) ≡ register m.regs (suc reg)
  kept_number reg None none shows = shows
  kept_number reg (Some x) none shows = absurd (none refl)

  kept_by : (reg : ℕ) (hard : Bool) → nat_le (suc reg) 32 ≡ hard → window_defines insns (suc reg) ≡ false → is_call_used (suc reg) ≡ false → register told.ran.done.machine.regs (suc reg) ≡ register m.regs (suc reg)
  kept_by reg true hard undefined unused =
      let agrees : AgreesIn live a b (suc reg) = agree.registers (suc reg) (unused_by (is_some a.call || is_some b.call) (suc reg) unused) in
      let hard' : suc reg ≤ virtual_stack_vars = grind (arith, nat_tests, hard) in
      kept_number reg (held b.regs (suc reg))
      (λ changed. let free = (agrees.kept hard' (unchanged reg (held a.regs (suc reg)) refl undefined) changed).0 in
      absurd (let no : true ≡ false = sym (free_used (suc reg) free) ∙ unused in let no' : ⊥ = cc in no'))
      (told.left.registers reg (unused_by (is_some a.call || is_some b.call) (suc reg) unused))
  kept_by reg false soft undefined unused =
      let past : 32 ≤ suc reg = grind (arith, nat_tests, soft) in
      none_past told.ran.done.machine.regs (suc reg) (omega (arith, past, told.left.long), omega arith) ∙ sym (none_past m.regs (suc reg) (omega (arith, past, starts.beside.second.long), omega arith))

  pub kept : (reg : ℕ) → window_defines insns reg ≡ false → is_call_used reg ≡ false → register told.ran.done.machine.regs reg ≡ register m.regs reg
  kept zero undefined unused = refl
  kept (suc reg) undefined unused = kept_by reg (nat_le (suc reg) 32) refl undefined unused

  -- without a call, ra too
  pub kept_address : WindowKeeps world.symbols ranges insns memory came → window_defines insns 1 ≡ false → register told.ran.done.machine.regs 1 ≡ register m.regs 1
  kept_address keeps undefined =
      let none : a.call ≡ None = by a.call told.means.ending in
      let none' : b.call ≡ None = none_calls a.call b.call agree.calls none in
      let passed : is_passed_over (one_calls a b) 1 ≡ false = ap (λ (o : Option Call). (is_some o || is_some b.call) && is_call_used 1) none ∙ ap (λ (o : Option Call). (false || is_some o) && is_call_used 1) none' in
      kept_number 0 (held b.regs 1)
      (λ changed. let free = ((agree.registers 1 passed).kept (omega arith) (unchanged 0 (held a.regs 1) refl undefined) changed).0 in absurd (let no : ⊥ = cc in no))
      (told.left.registers 0 passed)
    where
      by : (o : Option Call) → EndMeans told.v ranges a.jump o came → o ≡ None
      by None means = refl
      by (Some call) means = absurd (let no : true ≡ false = sym (keeps.calls means.event means.width means.ending_is) ∙ undefined in let no' : ⊥ = cc in no')

  -- ---- memory

  is_byte : (address byte : ℕ) → byte_at came.memory address ≡ Some byte → byte_at told.ran.done.machine.memory address ≡ Some byte
  is_byte address byte is =
      let has : is_some (byte_at memory address) ≡ true = sym (told.means.shows.memory_is.addresses address) ∙ ap is_some is in
      let first = some_of (byte_at memory address) has in
      let has' : is_some (byte_at told.ran.done.machine.memory address) ≡ true = told.left.memory_is.addresses address ∙ ap is_some (starts.beside.within address first.0 first.1) in
      let second = some_of (byte_at told.ran.done.machine.memory address) has' in
      let same : second.0 ≡ byte = told.left.memory_is.bytes address second.0 second.1 ∙ ap (λ n. told.u.memory n address) (sym (ap (λ (l : List (Tree × Tree)). length l) agree.stores)) ∙ sym (told.bytes address byte is) in
      second.1 ∙ ap Some same

  seen_by : (address : ℕ) (o : Option ℕ) → byte_at came.memory address ≡ o → is_visible ranges address ≡ true → byte_at told.ran.done.machine.memory address ≡ byte_at came.memory address
  seen_by address (Some byte) is seen = is_byte address byte is ∙ sym is
  seen_by address None is seen =
      let none : is_some (byte_at memory address) ≡ false = sym (told.means.shows.memory_is.addresses address) ∙ ap is_some is in
      let none' : is_some (byte_at told.ran.done.machine.memory address) ≡ false =
      told.left.memory_is.addresses address ∙ ap is_some (seen_same ranges m.memory memory starts.beside.visible_is address seen) ∙ none in
      none_of (byte_at told.ran.done.machine.memory address) none' ∙ sym is

  bytes_of : (bytes : List MemByte) → ((address byte : ℕ) → byte_at bytes address ≡ Some byte → (address < 2 ^ 64) × (byte < 2 ^ 8)) → IsOrdered bytes → IsMemory bytes
  bytes_of bytes each ordered = record { ordered = ordered; bytes = all_bytes bytes ordered each }

  pub beside : WindowKeeps world.symbols ranges insns memory came → IsOrdered told.ran.done.machine.memory → Beside ranges came.memory told.ran.done.machine
  beside keeps ordered' =
      let ordered : IsOrdered came.memory = keeps.ordered starts.beside.first.ordered in record {
        first = bytes_of came.memory (λ address byte is. (told.means.shows.memory_is.words address byte is, told.means.shows.memory_is.small address byte is)) ordered;
        second = record {
          long = told.left.long;
          words = told.left.words;
          memory = bytes_of told.ran.done.machine.memory (λ address byte is. (told.left.memory_is.words address byte is, told.left.memory_is.small address byte is)) ordered';
        };
        within = is_byte;
        visible_is = same_seen ranges told.ran.done.machine.memory came.memory ordered' ordered (λ address seen. seen_by address (byte_at came.memory address) refl seen);
      }

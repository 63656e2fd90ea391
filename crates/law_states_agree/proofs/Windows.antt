-- What a window of instructions that has a meaning keeps: memory has its addresses in order, and a call is one of its instructions.
use Rattle.std.proofs.Common.{◌≡◌, ℕ, ◌^◌, ◌<◌, Bool, true, false, List, [], ◌∷◌, Option, Some, None, refl, sym, ◌∙◌, ap, subst, arith}
use Rattle.std.specs.Prelude.{◌||◌, ◌&&◌, zero, suc, ◌+◌, ◌/◌, ◌%◌, option_map, option_and_then, unwrap_or, is_some}
use Rattle.std.specs.List.{All, list_any}
use Rattle.bits64.specs.declared.Width.{Width}
use Rattle.bits64.specs.Words.{bytes_of}
use Rattle.rtx_tree.specs.Memories.{IsOrdered, with_byte}
use Rattle.rtx_tree.proofs.MemoryPlaces.{ordered_stays}
use Rattle.rtx_tree.specs.Registers.{is_call_used}
use Rattle.rtx_tree.specs.declared.function.Insn.{Insn}
use Rattle.rtx_tree.specs.declared.function.Kind.{Kind}
use Rattle.rtx_tree.specs.declared.function.Kind.TheVariants as kind
use Rattle.rtx_tree.specs.declared.machine.RangeAt.{RangeAt}
use Rattle.rtx_tree.specs.declared.machine.SymbolAt.{SymbolAt}
use Rattle.rtx_tree.specs.declared.memories.MemByte.{MemByte}
use Rattle.run_memory.specs.RunMemory.{load, store, with_number}
use Rattle.reg_uses.specs.Effects.{pattern_defines}
use Rattle.reg_uses.specs.Uses.{insn_defines, is_call_kind}
use Rattle.rtl_step.specs.Regs.{Regs}
use Rattle.rtl_step.specs.Value.{of_two}
use Rattle.rtl_step.specs.Effect.{effects_of, bytes_after, memory_after}
use Rattle.rtl_step.specs.declared.effect.Effect.{Effect}
use Rattle.rtl_step.specs.declared.effect.Effect.TheVariants as effect
use Rattle.rtl_step.specs.Jump.{jump_of}
use Rattle.rtl_step.specs.declared.jump.Way.{Way}
use Rattle.rtl_step.specs.declared.jump.Way.TheVariants as way
use Rattle.rtl_step.specs.Call.{event_of, result_width}
use Rattle.rtl_step.specs.declared.call.CallEvent.{CallEvent}
use Rattle.law_window_runs.specs.Insns.{InsnsEnd, Falls, Goes, Calls, Returns, InsnsCome, come_to, come_after, end_of_way, insn_comes, goes_on, insns_come}
use Rattle.law_window_runs.specs.Uses.{window_defines}

-- ---- memory in order

pub number_ordered : (memory : List MemByte) (address count number : ℕ) → IsOrdered memory → IsOrdered (with_number memory address count number)
number_ordered memory address zero number ordered = ordered
number_ordered memory address (suc count) number ordered =
    number_ordered (with_byte memory address (number % 256)) (address + 1) count (number / 256) (ordered_stays memory address (number % 256) ordered)

stored_ordered : (memory : List MemByte) (at count value : ℕ) (old : Option ℕ) → IsOrdered memory →
    IsOrdered (unwrap_or (option_map (λ _. with_number memory at count value) old) memory)
stored_ordered memory at count value None ordered = ordered
stored_ordered memory at count value (Some old) ordered = number_ordered memory at count value ordered

effect_ordered : (e : Effect) (memory : List MemByte) → IsOrdered memory → IsOrdered (bytes_after e memory)
effect_ordered effect.Nothing memory ordered = ordered
effect_ordered (effect.Sets reg known) memory ordered = ordered
effect_ordered (effect.Unsets reg) memory ordered = ordered
effect_ordered (effect.Stores w at value) memory ordered = stored_ordered memory at (bytes_of w) value (load w memory at) ordered

effects_ordered : (es : List Effect) (memory : List MemByte) → IsOrdered memory → IsOrdered (memory_after es memory)
effects_ordered [] memory ordered = ordered
effects_ordered (e ∷ es) memory ordered = effects_ordered es (bytes_after e memory) (effect_ordered e memory ordered)

module _ (symbols : List SymbolAt) (ranges : List RangeAt) where
  -- ---- one instruction: what is told of where it comes to

  -- memory stays in order, and a call is a call's
  record Keeps (i : Insn) (memory : List MemByte) (came : InsnsCome) : Type 0 where
    pub ordered : IsOrdered memory → IsOrdered came.memory
    pub calls : (event : CallEvent) (w : Width) → came.ending ≡ Calls event w → i.kind ≡ kind.Call

  plain_keeps : (i : Insn) (regs : Regs) (memory : List MemByte) (o : Option (List Effect)) (came : InsnsCome) → option_map (come_after regs memory) o ≡ Some came → Keeps i memory came
  plain_keeps i regs memory None came is = absurd (let no : ⊥ = cc in no)
  plain_keeps i regs memory (Some es) came is =
      let same : come_after regs memory es ≡ came = cc in
      subst (λ came. Keeps i memory came) same (record {
        ordered = effects_ordered es memory;
        calls = λ event w ends. absurd (let no : ⊥ = cc in no);
      })

  way_keeps : (i : Insn) (regs : Regs) (memory : List MemByte) (w : Way) → jump_of symbols regs memory i.pattern ≡ Some w → Keeps i memory (come_to regs memory (end_of_way w))
  way_keeps i regs memory way.Falls leads = record {
    ordered = λ ordered. ordered;
    calls = λ event w ends. absurd (let no : ⊥ = cc in no);
  }
  way_keeps i regs memory (way.Goes uid) leads = record {
    ordered = λ ordered. ordered;
    calls = λ event w ends. absurd (let no : ⊥ = cc in no);
  }
  way_keeps i regs memory way.Leaves leads = record {
    ordered = λ ordered. ordered;
    calls = λ event w ends. absurd (let no : ⊥ = cc in no);
  }

  jump_keeps : (i : Insn) (regs : Regs) (memory : List MemByte) (o : Option Way) (came : InsnsCome) → jump_of symbols regs memory i.pattern ≡ o → option_map (λ w. come_to regs memory (end_of_way w)) o ≡ Some came → Keeps i memory came
  jump_keeps i regs memory None came leads is = absurd (let no : ⊥ = cc in no)
  jump_keeps i regs memory (Some w) came leads is =
      let same : come_to regs memory (end_of_way w) ≡ came = cc in
      subst (λ came. Keeps i memory came) same (way_keeps i regs memory w leads)

  call_keeps : (i : Insn) (regs : Regs) (memory : List MemByte) (event : Option CallEvent) (w : Option Width) (came : InsnsCome) → i.kind ≡ kind.Call →
      of_two (λ event w. Some (come_to regs memory (Calls event w))) event w ≡ Some came → Keeps i memory came
  call_keeps i regs memory None w came called is = absurd (let no : ⊥ = cc in no)
  call_keeps i regs memory (Some event) None came called is = absurd (let no : ⊥ = cc in no)
  call_keeps i regs memory (Some event) (Some w) came called is =
      let same : come_to regs memory (Calls event w) ≡ came = cc in
      subst (λ came. Keeps i memory came) same (record {
        ordered = λ ordered. ordered;
        calls = λ e u ends. called;
      })

  kind_keeps : (k : Kind) (i : Insn) (regs : Regs) (memory : List MemByte) (came : InsnsCome) → i.kind ≡ k → insn_comes k symbols ranges i regs memory ≡ Some came → Keeps i memory came
  kind_keeps kind.Plain i regs memory came is comes = plain_keeps i regs memory (effects_of symbols regs memory i.pattern) came comes
  kind_keeps kind.Jump i regs memory came is comes = jump_keeps i regs memory (jump_of symbols regs memory i.pattern) came refl comes
  kind_keeps kind.Call i regs memory came is comes = call_keeps i regs memory (event_of symbols regs memory ranges i.pattern i.uses) (result_width i.pattern) came is comes
  kind_keeps kind.Label i regs memory came is comes = absurd (let no : ⊥ = cc in no)
  kind_keeps kind.Barrier i regs memory came is comes =
      let same : come_to regs memory Falls ≡ came = cc in
      subst (λ came. Keeps i memory came) same (record {
        ordered = λ ordered. ordered;
        calls = λ event w ends. absurd (let no : ⊥ = cc in no);
      })

  -- ---- the window

  -- a call may change ra
  call_defines : (i : Insn) → i.kind ≡ kind.Call → insn_defines i 1 ≡ true
  call_defines i is = ap (λ k. pattern_defines 1 i.pattern || (is_call_kind k && is_call_used 1)) is ∙ or_true (pattern_defines 1 i.pattern)
    where
      or_true : (b : Bool) → (b || true) ≡ true
      or_true true = refl
      or_true false = refl

  or_left : (a b : Bool) → a ≡ true → (a || b) ≡ true
  or_left a b is = ap (λ x. x || b) is

  or_right : (a b : Bool) → b ≡ true → (a || b) ≡ true
  or_right true b is = refl
  or_right false b is = is

  pub record WindowKeeps (insns : List Insn) (memory : List MemByte) (came : InsnsCome) : Type 0 where
    pub ordered : IsOrdered memory → IsOrdered came.memory
    pub calls : (event : CallEvent) (w : Width) → came.ending ≡ Calls event w → window_defines insns 1 ≡ true

  stops : (i : Insn) (insns : List Insn) (memory : List MemByte) (here came : InsnsCome) → Keeps i memory here → Some here ≡ Some came → WindowKeeps (i ∷ insns) memory came
  stops i insns memory here came keeps is =
      let same : here ≡ came = cc in
      subst (λ came. WindowKeeps (i ∷ insns) memory came) same (record {
        ordered = keeps.ordered;
        calls = λ event w ends. or_left (insn_defines i 1) (window_defines insns 1) (call_defines i (keeps.calls event w ends));
      })

  -- what is known of each run of the rest
  abbrev Rest : List Insn → Type 0
  Rest insns = (regs : Regs) (memory : List MemByte) (came : InsnsCome) → insns_come symbols ranges insns regs memory ≡ Some came → WindowKeeps insns memory came

  goes_by : (ending : InsnsEnd) (i : Insn) (insns : List Insn) (memory : List MemByte) (here came : InsnsCome) → Rest insns → here.ending ≡ ending → Keeps i memory here →
      goes_on ending here (insns_come symbols ranges insns) ≡ Some came → WindowKeeps (i ∷ insns) memory came
  goes_by Falls i insns memory here came later ends keeps comes =
      let rest = later here.regs here.memory came comes in
      record {
        ordered = λ ordered. rest.ordered (keeps.ordered ordered);
        calls = λ event w called. or_right (insn_defines i 1) (window_defines insns 1) (rest.calls event w called);
      }
  goes_by (Goes uid) i insns memory here came later ends keeps comes = stops i insns memory here came keeps comes
  goes_by (Calls event w) i insns memory here came later ends keeps comes = stops i insns memory here came keeps comes
  goes_by Returns i insns memory here came later ends keeps comes = stops i insns memory here came keeps comes

  first_by : (o : Option InsnsCome) (i : Insn) (insns : List Insn) (regs : Regs) (memory : List MemByte) (came : InsnsCome) → Rest insns → insn_comes i.kind symbols ranges i regs memory ≡ o →
      option_and_then (λ came. goes_on came.ending came (insns_come symbols ranges insns)) o ≡ Some came → WindowKeeps (i ∷ insns) memory came
  first_by None i insns regs memory came later is comes = absurd (let no : ⊥ = cc in no)
  first_by (Some here) i insns regs memory came later is comes = goes_by here.ending i insns memory here came later refl (kind_keeps i.kind i regs memory here refl is) comes

  pub window_keeps : (insns : List Insn) (regs : Regs) (memory : List MemByte) (came : InsnsCome) → insns_come symbols ranges insns regs memory ≡ Some came → WindowKeeps insns memory came
  window_keeps [] regs memory came comes =
      let same : come_to regs memory Falls ≡ came = cc in
      subst (λ came. WindowKeeps [] memory came) same (record {
        ordered = λ ordered. ordered;
        calls = λ event w ends. absurd (let no : ⊥ = cc in no);
      })
  window_keeps (i ∷ insns) regs memory came comes = first_by (insn_comes i.kind symbols ranges i regs memory) i insns regs memory came (window_keeps insns) refl comes

-- The items of a function that may set the registers of its caller have its behaviour, in each run that leaves them as it found them.
use Rattle.std.proofs.Common.{◌≡◌, ◌≢◌, ℕ, zero, suc, ◌<◌, ◌^◌, ◌||◌, ◌&&◌, Bool, true, false, List, [], ◌∷◌, Option, Some, None, refl, sym, ap, subst, ◌∙◌}
use Rattle.std.proofs.lemmas.Bool.{false_from_ne_true}
use Rattle.std.specs.List.{list_any}
use Rattle.std.specs.Prelude.{slice_get, slice_index, option_map, option_and_then}
use Rattle.bits64.specs.Words.{low}
use Rattle.bits64.specs.declared.Width.{Width}
use Rattle.bits64.specs.declared.Width.TheVariants.{W64}
use Rattle.rtx_tree.specs.Tree.{head_of}
use Rattle.rtx_tree.specs.RegSet.{has_reg}
use Rattle.rtx_tree.specs.Registers.{is_call_used}
use Rattle.rtx_tree.specs.declared.function.Function.{Function}
use Rattle.rtx_tree.specs.declared.function.Insn.{Insn}
use Rattle.rtx_tree.specs.declared.function.Kind.{Kind}
use Rattle.rtx_tree.specs.declared.function.Kind.TheVariants as kind
use Rattle.rtx_tree.specs.declared.machine.RangeAt.{RangeAt}
use Rattle.rtx_tree.specs.declared.machine.Reply.{Reply}
use Rattle.rtx_tree.specs.declared.machine.Start.{Start}
use Rattle.rtx_tree.specs.declared.machine.SymbolAt.{SymbolAt}
use Rattle.rtx_tree.specs.declared.machine.World.{World}
use Rattle.rtx_tree.specs.declared.memories.MemByte.{MemByte}
use Rattle.rtl_step.specs.Call.{event_of, result_width, regs_replied}
use Rattle.rtl_step.specs.Effect.{effects_of, regs_after}
use Rattle.rtl_step.specs.Jump.{jump_of}
use Rattle.rtl_step.specs.Regs.{Regs, reg_value}
use Rattle.rtl_step.specs.Step.{is_mark}
use Rattle.rtl_step.specs.Value.{of_two}
use Rattle.rtl_step.specs.declared.call.CallEvent.{CallEvent}
use Rattle.rtl_step.specs.declared.effect.Effect.{Effect}
use Rattle.rtl_step.specs.declared.jump.Way.{Way}
use Rattle.rtl_step.specs.declared.step.State.{State}
use Rattle.func_run.specs.Run as func
use Rattle.func_run.specs.declared.outcome.Outcome.{Outcome}
use Rattle.func_run.specs.declared.outcome.Outcome.TheVariants as rtl
use Rattle.law_function_kept.specs.Ends.{is_past, ends_past}
use Rattle.rv_regs.specs.Registers.{kept_registers}
use Rattle.reg_uses.specs.Effects.{pattern_defines}
use Rattle.reg_uses.specs.Uses.{insn_sets, is_call_kind, is_result, function_sets, return_uses}
use Rattle.rv_text.specs.declared.line.CodeItem.{CodeItem}
use Rattle.rv_text.specs.declared.line.Line.{Line}
use Rattle.rv_line.specs.Run as lines
use Rattle.rv_line.specs.Run.{after_call}
use Rattle.rv_line.specs.Step.{register}
use Rattle.rv_line.specs.declared.state.RvState.{RvState}
use Rattle.law_window_runs.specs.same_behaviour.Lawful.{seen_by_rtl}
use Rattle.law_window_runs.proofs.same_behaviour.Registers.{low_same}
use Rattle.law_window_runs.specs.Beside.{Agrees, IsMachine}
use Rattle.law_window_runs.specs.Insns as window
use Rattle.law_window_runs.specs.Insns.{InsnsEnd, InsnsCome, insns_come, insn_comes, come_to}
use Rattle.law_window_runs.specs.Same.{LinesDo, IsKept}
use Rattle.law_window_runs.specs.Uses.{window_defines}
use Rattle.law_window_lines.specs.ForLines.{MarksAreEmpty}
use Rattle.law_window_lines.specs.Items.{AreItems, IsLiveBehind, is_quiet}
use Rattle.law_window_lines.specs.Left.{found, LeavesAsFound, SameWhereLeft, SetsAreNamed}
use Rattle.law_window_lines.proofs.Entry.{agrees_at_entry}
use Rattle.law_window_lines.proofs.Follow.{good_runs, follows}
use Rattle.law_window_lines.proofs.Kept.{each_in, kept_hard, lines_keep, saved_same}
use Rattle.law_window_lines.proofs.Quiet.{quiet_leaves}
use Rattle.law_window_lines.proofs.Replies.{agrees_after}
use Rattle.law_window_lines.proofs.Sets.{plain_keeps, jump_defines, call_defines}
use Rattle.law_window_lines.proofs.Steps.{IsKeeping}
use Rattle.law_window_lines.proofs.Small.{or_true, and_none, ◌also◌}

-- ---- an instruction that no `set` of the function sets

none_in : {X : Type 0} (p : X → Bool) (xs : List X) (k : ℕ) (x : X) → list_any p xs ≡ false → slice_get xs k ≡ Some x → p x ≡ false
none_in p [] k x none there = absurd (let no : ⊥ = cc in no)
none_in p (y ∷ xs) zero x none there = let same : y ≡ x = cc in subst (λ y. p y ≡ false) same (first (p y) none)
  where
    first : (b : Bool) → b || list_any p xs ≡ false → b ≡ false
    first true is = is
    first false is = refl
none_in p (y ∷ xs) (suc k) x none there = none_in p xs k x (rest (p y) none) there
  where
    rest : (b : Bool) → b || list_any p xs ≡ false → list_any p xs ≡ false
    rest true is = absurd (let no : ⊥ = cc in no)
    rest false is = is

-- ---- what an instruction comes to

module _ (symbols : List SymbolAt) (ranges : List RangeAt) where
  stays : (e : InsnsEnd) (c came : InsnsCome) → c.ending ≡ e → window.goes_on e c (insns_come symbols ranges []) ≡ Some came → c ≡ came
  stays window.Falls c came is comes = let same : come_to c.regs c.memory window.Falls ≡ came = cc in ap (come_to c.regs c.memory) is ∙ same
  stays (window.Goes uid) c came is comes = let same : c ≡ came = cc in same
  stays (window.Calls event w) c came is comes = let same : c ≡ came = cc in same
  stays window.Returns c came is comes = let same : c ≡ came = cc in same

  one_by : (c : Option InsnsCome) (came : InsnsCome) →
      option_and_then (λ came. window.goes_on came.ending came (insns_come symbols ranges [])) c ≡ Some came → c ≡ Some came
  one_by None came comes = absurd (let no : ⊥ = cc in no)
  one_by (Some c) came comes = ap Some (stays c.ending c came refl comes)

  -- one instruction is what a window of it comes to
  one_is : (i : Insn) (k : Kind) (regs : Regs) (memory : List MemByte) (came : InsnsCome) → i.kind ≡ k →
      insns_come symbols ranges (i ∷ []) regs memory ≡ Some came → insn_comes k symbols ranges i regs memory ≡ Some came
  one_is i k regs memory came is comes =
      ap (λ k. insn_comes k symbols ranges i regs memory) (sym is) ∙ one_by (insn_comes i.kind symbols ranges i regs memory) came comes

  -- ---- what is known behind it of a register that it does not set

  -- it was known before, and the instruction defines it not
  abbrev KnownBefore : Insn → ℕ → Regs → Regs → Type 0
  KnownBefore i reg before after = (w : Width) (v : ℕ) → reg_value after reg w ≡ Some v →
      (pattern_defines reg i.pattern ≡ false) × (reg_value before reg w ≡ Some v)

  plain_known : (i : Insn) (reg : ℕ) (regs : Regs) (memory : List MemByte) (effects : Option (List Effect)) (came : InsnsCome) →
      effects_of symbols regs memory i.pattern ≡ effects → option_map (window.come_after regs memory) effects ≡ Some came →
      ((es : List Effect) → effects_of symbols regs memory i.pattern ≡ Some es → KnownBefore i reg regs (regs_after es regs)) →
      KnownBefore i reg regs came.regs
  plain_known i reg regs memory None came are is law = absurd (let no : ⊥ = cc in no)
  plain_known i reg regs memory (Some es) came are is law = let here : window.come_after regs memory es ≡ came = cc in
      subst (λ (c : InsnsCome). KnownBefore i reg regs c.regs) here (law es are)

  jump_known : (i : Insn) (reg : ℕ) (regs : Regs) (memory : List MemByte) (took : Option Way) (came : InsnsCome) →
      jump_of symbols regs memory i.pattern ≡ took →
      option_map (λ w. come_to regs memory (window.end_of_way w)) took ≡ Some came → KnownBefore i reg regs came.regs
  jump_known i reg regs memory None came are is = absurd (let no : ⊥ = cc in no)
  jump_known i reg regs memory (Some took) came are is = let here : come_to regs memory (window.end_of_way took) ≡ came = cc in
      subst (λ (c : InsnsCome). KnownBefore i reg regs c.regs) here
      (λ w v known. (jump_defines symbols regs memory i.pattern reg took are, known))

  -- what a call comes to
  record IsCall (i : Insn) (reg : ℕ) (regs : Regs) (came : InsnsCome) : Type 0 where
    regs_are : came.regs ≡ regs
    defines : (reg ≡ 10 → ⊥) → pattern_defines reg i.pattern ≡ false
    event : CallEvent
    width : Width
    ends : came.ending ≡ window.Calls event width

  call_comes : (i : Insn) (reg : ℕ) (regs : Regs) (memory : List MemByte) (event : Option CallEvent) (width : Option Width)
      (came : InsnsCome) →
      event_of symbols regs memory ranges i.pattern i.uses ≡ event →
      of_two (λ event w. Some (come_to regs memory (window.Calls event w))) event width ≡ Some came → IsCall i reg regs came
  call_comes i reg regs memory None width came event_is is = absurd (let no : ⊥ = cc in no)
  call_comes i reg regs memory (Some event) None came event_is is = absurd (let no : ⊥ = cc in no)
  call_comes i reg regs memory (Some event) (Some w) came event_is is = let here : come_to regs memory (window.Calls event w) ≡ came = cc in
      subst (IsCall i reg regs) here (record {
        regs_are = refl;
        defines = λ other. call_defines symbols regs memory i.pattern i.uses ranges reg event event_is other;
        event = event;
        width = w;
        ends = refl;
      })

  is_call : (i : Insn) (reg : ℕ) (regs : Regs) (memory : List MemByte) (came : InsnsCome) → i.kind ≡ kind.Call →
      insns_come symbols ranges (i ∷ []) regs memory ≡ Some came → IsCall i reg regs came
  is_call i reg regs memory came call comes =
      call_comes i reg regs memory (event_of symbols regs memory ranges i.pattern i.uses) (result_width i.pattern) came refl
      (one_is i kind.Call regs memory came call comes)

module _ (number : ℕ) (f : Function) (marks : MarksAreEmpty f) (named : SetsAreNamed f) (items : List CodeItem) (start : Start)
    (world : World) where
  -- of those that no `set` of the function sets the code has what is known
  abbrev Keeps : Regs → RvState → Type 0
  Keeps regs m = (reg : ℕ) → has_reg kept_registers reg ≡ true → function_sets f reg ≡ false → Agrees regs m.regs reg

  -- an end with a value, that leaves what was found, before the end of the chain
  abbrev Good : State → Outcome → Type 0
  Good s outcome = ((outcome ≢ rtl.Undefined) × LeavesAsFound start outcome) × (is_past f s ≡ false)

  sets_none : (place reg : ℕ) (i : Insn) → slice_get f.insns place ≡ Some i → function_sets f reg ≡ false → insn_sets reg i ≡ false
  sets_none place reg i there unset = none_in (insn_sets reg) f.insns place i unset there

  -- ---- an instruction and its lines

  known_by : (k : Kind) (place reg : ℕ) (i : Insn) (regs : Regs) (memory : List MemByte) (came : InsnsCome) → i.kind ≡ k →
      slice_get f.insns place ≡ Some i → has_reg kept_registers reg ≡ true → function_sets f reg ≡ false →
      insns_come world.symbols start.visible (i ∷ []) regs memory ≡ Some came → ((reg : ℕ) → IsKept came.ending reg) →
      (is_call_kind k ≡ false) × KnownBefore world.symbols start.visible i reg regs came.regs
  known_by kind.Plain place reg i regs memory came is there kept unset comes stays = (
    refl,
    plain_known world.symbols start.visible i reg regs memory (effects_of world.symbols regs memory i.pattern) came refl
        (one_is world.symbols start.visible i kind.Plain regs memory came is comes)
        (λ es are. plain_keeps world.symbols regs memory i.pattern es reg are (named place i there is) (kept_hard reg kept).some
        (sets_none place reg i there unset)),
  )
  known_by kind.Jump place reg i regs memory came is there kept unset comes stays = (
    refl,
    jump_known world.symbols start.visible i reg regs memory (jump_of world.symbols regs memory i.pattern) came refl
        (one_is world.symbols start.visible i kind.Jump regs memory came is comes),
  )
  known_by kind.Call place reg i regs memory came is there kept unset comes stays =
      let call = is_call world.symbols start.visible i reg regs memory came is comes in
      let kept_too : is_call_used 1 ≡ false = subst (λ e. IsKept e 1) call.ends (stays 1) in absurd (let no : ⊥ = cc in no)
  known_by kind.Label place reg i regs memory came is there kept unset comes stays =
      let none = one_is world.symbols start.visible i kind.Label regs memory came is comes in absurd (let no : ⊥ = cc in no)
  known_by kind.Barrier place reg i regs memory came is there kept unset comes stays =
      let one = one_is world.symbols start.visible i kind.Barrier regs memory came is comes in
      let here : come_to regs memory window.Falls ≡ came = cc in (
        refl,
        subst (λ (c : InsnsCome). KnownBefore world.symbols start.visible i reg regs c.regs) here
            (λ w v known. (marks place reg i there (ap is_mark is), known)),
      )

  defines_none : (i : Insn) (reg : ℕ) → (is_call_kind i.kind && is_call_used reg) ≡ false → pattern_defines reg i.pattern ≡ false →
      window_defines (i ∷ []) reg ≡ false
  defines_none i reg calls none = ap (λ b. (b || (is_call_kind i.kind && is_call_used reg)) || false) none ∙ ap (λ b. b || false) calls

  keeps_on : (place : ℕ) (i : Insn) (ls : List Line) (regs : Regs) (memory : List MemByte) (m : RvState) (came : InsnsCome) →
      slice_get f.insns place ≡ Some i → insns_come world.symbols start.visible (i ∷ []) regs memory ≡ Some came →
      ((reg : ℕ) → IsKept came.ending reg) → (does : LinesDo number (i ∷ []) ls (IsLiveBehind f place) world start.visible m came) →
      Keeps regs m → Keeps came.regs does.done.machine
  keeps_on place i ls regs memory m came there comes stays does keeps reg kept unset = λ w v known.
      let law = known_by i.kind place reg i regs memory came refl there kept unset comes stays in
      let before = law.1 w v known in
      ap (option_map (low w)) (lines_keep number (i ∷ []) ls (IsLiveBehind f place) world start.visible m came does reg kept
      (defines_none i reg (ap (λ b. b && is_call_used reg) law.0) before.0)) ∙ keeps reg kept unset w v before.1

  keeps_replied : (place : ℕ) (i : Insn) (ls : List Line) (regs : Regs) (memory : List MemByte) (m : RvState) (came : InsnsCome)
      (w : Width) (reply : Reply) → i.kind ≡ kind.Call → insns_come world.symbols start.visible (i ∷ []) regs memory ≡ Some came →
      (does : LinesDo number (i ∷ []) ls (IsLiveBehind f place) world start.visible m came) → Keeps regs m →
      Keeps (regs_replied came.regs w reply.value) (after_call reply does.done.machine)
  keeps_replied place i ls regs memory m came w reply call comes does keeps reg kept unset =
      let is = is_call world.symbols start.visible i reg regs memory came call comes in
      agrees_after came.regs w reply does.done.machine reg does.beside.second.long (λ preserved. λ v value known.
      ap (option_map (low v)) (lines_keep number (i ∷ []) ls (IsLiveBehind f place) world start.visible m came does reg kept
      (defines_none i reg (ap (λ b. is_call_kind i.kind && b) preserved ∙
      and_none (is_call_kind i.kind)) (is.defines (kept_hard reg kept).no_result))) ∙
      keeps reg kept unset v value (subst (λ (regs : Regs). reg_value regs reg v ≡ Some value) is.regs_are known))

  keeps_quiet : (place : ℕ) (i : Insn) (regs : Regs) (memory : List MemByte) (m : RvState) (effects : List Effect) →
      is_quiet (head_of i.pattern).code ≡ true → effects_of world.symbols regs memory i.pattern ≡ Some effects → Keeps regs m →
      Keeps (regs_after effects regs) m
  keeps_quiet place i regs memory m effects quiet are keeps reg kept unset = λ w v known.
      keeps reg kept unset w v ((quiet_leaves world.symbols regs memory i.pattern effects quiet are).known reg w v known).1

  -- ---- at a return

  whole : (o : Option ℕ) (x : ℕ) → ((n : ℕ) → o ≡ Some n → n < 2 ^ 64) → option_map (low W64) o ≡ Some x → o ≡ Some x
  whole None x fits is = absurd (let no : ⊥ = cc in no)
  whole (Some n) x fits is = let small = fits n refl in let same : low W64 n ≡ x = cc in ap Some (sym (low_same n small) ∙ same)

  uses_set : (reg : ℕ) → has_reg kept_registers reg ≡ true → function_sets f reg ≡ true → return_uses f reg ≡ true
  uses_set reg kept set = ap (λ b. is_result f reg || (b && function_sets f reg)) kept ∙ ap (λ b. is_result f reg || b) set ∙
      or_true (is_result f reg)

  agrees_by : (regs : Regs) (m : RvState) (reg : ℕ) (b : Bool) → function_sets f reg ≡ b → has_reg kept_registers reg ≡ true →
      Keeps regs m →
      ((reg : ℕ) → return_uses f reg ≡ true → reg < 32 → Agrees regs m.regs reg) → Agrees regs m.regs reg
  agrees_by regs m reg true set kept keeps used = used reg (uses_set reg kept set) (kept_hard reg kept).below
  agrees_by regs m reg false unset kept keeps used = keeps reg kept unset

  -- what is found in a register at the return, its machine has
  returns_with : (regs : Regs) (m : RvState) → IsMachine m → Keeps regs m →
      ((reg : ℕ) → return_uses f reg ≡ true → reg < 32 → Agrees regs m.regs reg) → (reg x : ℕ) → has_reg kept_registers reg ≡ true →
      reg_value regs reg W64 ≡ Some x → register m.regs reg ≡ Some x
  returns_with regs m is_machine keeps used reg x kept known =
      whole (register m.regs reg) x (λ n. is_machine.words reg n) (agrees_by regs m reg
      (function_sets f reg) refl kept keeps used W64 x known)

  one_of : (xs ys : List (Option ℕ)) (k : ℕ) (x y : Option ℕ) → xs ≡ ys → slice_get xs k ≡ Some x → slice_get ys k ≡ Some y → x ≡ y
  one_of xs ys k x y same at_x at_y = let both : ◌≡◌ {A = Option (Option ℕ)} (Some x) (Some y) = sym at_x ∙ ap (λ l. slice_get l k) same ∙
      at_y in cc

  returns_all : (s : State) (m : RvState) → IsMachine m → Keeps s.regs m →
      ((reg : ℕ) → return_uses f reg ≡ true → reg < 32 → Agrees s.regs m.regs reg) → func.kept_of s.regs ≡ found start → (reg : ℕ) →
      has_reg kept_registers reg ≡ true → register m.regs reg ≡ register (lines.entry_regs start) reg
  returns_all s m is_machine keeps used left reg kept =
      let at : (k reg x : ℕ) → has_reg kept_registers reg ≡ true → slice_get (func.kept_of s.regs) k ≡ Some (reg_value s.regs reg W64) →
      slice_get (found start) k ≡ Some (Some x) → register m.regs reg ≡ Some x = λ k reg x kept at_x at_y.
      returns_with s.regs m is_machine keeps used reg x kept
      (one_of (func.kept_of s.regs) (found start) k (reg_value s.regs reg W64) (Some x) left at_x at_y) in
      let saved : ℕ → ℕ = λ k. slice_index start.saved k in
      each_in (λ reg. register m.regs reg ≡ register (lines.entry_regs start) reg) kept_registers reg
      (at 1 1 start.ra refl refl refl also at 0 2 start.sp refl refl refl also at 2 8 (saved 0) refl refl refl also
      at 3 9 (saved 1) refl refl refl also at 4 18 (saved 2) refl refl refl also at 5 19 (saved 3) refl refl refl also
      at 6 20 (saved 4) refl refl refl also at 7 21 (saved 5) refl refl refl also at 8 22 (saved 6) refl refl refl also
      at 9 23 (saved 7) refl refl refl also at 10 24 (saved 8) refl refl refl also at 11 25 (saved 9) refl refl refl also
      at 12 26 (saved 10) refl refl refl also at 13 27 (saved 11) refl refl refl also tt) kept

  keeping : IsKeeping number f marks items start world Keeps Good
  keeping = record {
    defined = λ s good. good.0.0 refl;
    stands = λ s outcome good. good.1;
    does = keeps_on;
    quiet = λ place i regs memory m effects there plain quiet are keeps. keeps_quiet place i regs memory m effects quiet are keeps;
    replied = λ place i ls regs memory m came event w reply there call comes ends does keeps.
        keeps_replied place i ls regs memory m came w reply call comes does keeps;
    returns = λ s m is_machine keeps used good. let all = returns_all s m is_machine keeps used good.0.1 in
        (all 1 refl, saved_same m.regs (lines.entry_regs start) all);
  }

-- the items of a function do what it does in each run that leaves sp, ra and s0 to s11 as it found them, and returns before the end of
-- the chain
pub items_are_same_where_left : (number : ℕ) (f : Function) (items : List CodeItem) → MarksAreEmpty f → SetsAreNamed f →
    AreItems number f items → SameWhereLeft f items
items_are_same_where_left number f items marks named are =
    λ frame size start world n holds within lawful lawful_world defined left returns.
    let Keep : Regs → RvState → Type 0 = Keeps number f marks named items start world in
    let Ends : State → Outcome → Type 0 = Good number f marks named items start world in
    follows number f marks items frame size start world Keep Ends are holds lawful lawful_world
    (keeping number f marks named items start world)
    (λ reg kept unset. agrees_at_entry frame size start reg (kept_hard reg kept).below) n
    (good_runs number f marks items frame size start world Keep Ends n
    (λ last same. (
      (defined, left),
      sym same ∙
          false_from_ne_true (ends_past world f n (func.entry_of (seen_by_rtl frame size start))) returns,
    )))

-- An instruction outside of the window does the same in both runs.
use Rattle.std.proofs.Common.{◌≡◌, ◌≢◌, ℕ, zero, suc, ◌+◌, ◌==◌, ◌||◌, ◌&&◌, if◌then◌else◌, Bool, true, false, List, [], ◌∷◌, Option, Some, None, refl, sym, ap, ◌∙◌}
use Rattle.std.specs.Prelude.{slice_get, option_map}
use Rattle.bits64.specs.declared.Width.{Width}
use Rattle.bits64.specs.declared.Width.TheVariants.{W64}
use Rattle.rtx_tree.specs.Patterns.{is_pc, label_of, place_of}
use Rattle.rtx_tree.specs.Registers.{is_call_used}
use Rattle.rtx_tree.specs.declared.code.Code.{Code}
use Rattle.rtx_tree.specs.declared.code.Code.TheVariants.{Set, Return, IfThenElse}
use Rattle.rtx_tree.specs.declared.function.Insn.{Insn}
use Rattle.rtx_tree.specs.declared.function.Kind.{Kind}
use Rattle.rtx_tree.specs.declared.function.Kind.TheVariants as kind
use Rattle.rtx_tree.specs.declared.machine.SymbolAt.{SymbolAt}
use Rattle.rtx_tree.specs.declared.memories.MemByte.{MemByte}
use Rattle.rtx_tree.specs.declared.tree.Rtx.{Rtx, out-Rtx}
use Rattle.rtl_step.specs.Call.{event_of, result_width}
use Rattle.rtl_step.specs.Effect.{effects_of, regs_after, memory_after}
use Rattle.rtl_step.specs.Jump as jump
use Rattle.rtl_step.specs.Jump.{jump_of}
use Rattle.rtl_step.specs.Regs.{Regs}
use Rattle.rtl_step.specs.Step.{step, act, after_effects, after_jump, after_event, is_mark}
use Rattle.rtl_step.specs.Value.{of_two, value_of}
use Rattle.rtl_step.specs.declared.call.CallEvent.{CallEvent}
use Rattle.rtl_step.specs.declared.effect.Effect.{Effect}
use Rattle.rtl_step.specs.declared.jump.Way.{Way}
use Rattle.rtl_step.specs.declared.jump.Way.TheVariants as way
use Rattle.rtl_step.specs.declared.step.State.{State}
use Rattle.rtl_step.specs.declared.step.StepEnd.TheVariants as ends
use Rattle.rtl_func.specs.Paths.{leads}
use Rattle.reg_uses.specs.Effects.{pattern_uses, pattern_defines}
use Rattle.reg_uses.specs.Uses.{insn_uses, insn_defines, has_argument, is_call_kind, is_return, is_return_code, return_uses}
use Rattle.live.specs.Live.{IsLive, AtUse, Passing}
use Rattle.law_function_kept.specs.Ends.{is_past}
use Rattle.law_kept_composed.proofs.Events.{event_refl}
use Rattle.law_window_kept.specs.Same.{KnownToo}
use Rattle.law_window_lines.proofs.Leads as leads_by
use Rattle.law_window_lines.proofs.Leads.{LeadsBy, leads_on, jump_leads}
use Rattle.law_window_lines.proofs.Sets.{jump_defines, call_defines}
use Rattle.law_window_lines.proofs.Simulation as machine
use Rattle.law_window_replaced.proofs.Effects.{AsMuch, effects_too, effects_fix, after_too}
use Rattle.law_window_replaced.proofs.Insns.{jump_too, event_too}
use Rattle.law_window_replaced.proofs.Known.{or_first, or_later}
use Rattle.law_window_replaced.proofs.Memory.{memory_effects}
use Rattle.law_window_replaced.proofs.Onward as onward
use Rattle.law_window_replaced.proofs.Onward.{never, not_there, go_both, falls_both, jumps_both, calls_both, returns_both}
use Rattle.law_window_replaced.proofs.Setting.{Setting, new_of, Alike, Simulates, EndsWell, Onward}
use Rattle.law_window_replaced.proofs.Stands.{Stands, step_is, there_is, not_past}

-- ---- what leaves a function is a return

module _ (symbols : List SymbolAt) (regs : Regs) (memory : List MemByte) where
  goes_not : (b : Bool) (uid : ℕ) → (if b then way.Falls else way.Goes uid) ≡ way.Leaves → ⊥
  goes_not true uid is = cc
  goes_not false uid is = cc

  label_not : (label : Option ℕ) → option_map way.Goes label ≡ Some way.Leaves → ⊥
  label_not None is = cc
  label_not (Some uid) is = cc

  branch_not : (test label : Option ℕ) → of_two (λ holds uid. Some (jump.chosen holds uid)) test label ≡ Some way.Leaves → ⊥
  branch_not None label is = cc
  branch_not (Some holds) None is = cc
  branch_not (Some holds) (Some uid) is =
      let same : jump.chosen holds uid ≡ way.Leaves = cc in goes_not (holds == 0) uid same

  test_not : (b : Bool) (test label : Rtx) → (if b then jump.branch symbols regs memory test label else None) ≡ Some way.Leaves → ⊥
  test_not true test label is = branch_not (value_of symbols regs memory test W64) (label_of label) is
  test_not false test label is = cc

  source_not : (code : Code) (kids : List Rtx) (source : Rtx) → jump.way_by code kids source symbols regs memory ≡ Some way.Leaves → ⊥
  source_not IfThenElse (test ∷ label ∷ other ∷ []) source is = test_not (is_pc other) test label is
  source_not _ kids source is = label_not (label_of source) is

  pc_not : (b : Bool) (source : Rtx) → (if b then jump.way_of symbols regs memory source else None) ≡ Some way.Leaves → ⊥
  pc_not true source is = source_not (out-Rtx source).code (out-Rtx source).kids source is
  pc_not false source is = cc

  leaves_by : (code : Code) (kids : List Rtx) → jump.jump_by code kids symbols regs memory ≡ Some way.Leaves →
      is_return_code code ≡ true
  leaves_by Return kids is = refl
  leaves_by Set (place ∷ source ∷ []) is = absurd (pc_not (is_pc place) source is)
  leaves_by _ kids is = absurd (let no : ⊥ = cc in no)

  pub leaves_is : (i : Insn) → jump_of symbols regs memory i.pattern ≡ Some way.Leaves → is_return i ≡ true
  leaves_is i is = leaves_by (out-Rtx i.pattern).code (out-Rtx i.pattern).kids is

-- ---- what an instruction defines

pub plain_defines : (i : Insn) (reg : ℕ) (k : Kind) → i.kind ≡ k → is_call_kind k ≡ false → pattern_defines reg i.pattern ≡ false →
    insn_defines i reg ≡ false
plain_defines i reg k is other none = ap (λ b. b || (is_call_kind i.kind && is_call_used reg)) none ∙
    ap (λ k. is_call_kind k && is_call_used reg) is ∙ ap (λ b. b && is_call_used reg) other

no_call : (b : Bool) → b && false ≡ false
no_call true = refl
no_call false = refl

pub call_leaves : (i : Insn) (reg : ℕ) → is_call_used reg ≡ false → pattern_defines reg i.pattern ≡ false → insn_defines i reg ≡ false
call_leaves i reg kept none = ap (λ b. b || (is_call_kind i.kind && is_call_used reg)) none ∙
    ap (λ b. is_call_kind i.kind && b) kept ∙ no_call (is_call_kind i.kind)

pub not_result : (reg : ℕ) → is_call_used reg ≡ false → reg ≡ 10 → ⊥
not_result reg kept is = let no : true ≡ false = sym (ap is_call_used is) ∙ kept in cc

pub no_jump : (k : Kind) (i : Insn) → i.kind ≡ k → k ≢ kind.Jump → i.kind ≢ kind.Jump
no_jump k i is other jumps = other (sym is ∙ jumps)

pub plain_not : kind.Plain ≢ kind.Jump
plain_not is = cc

pub call_not : kind.Call ≢ kind.Jump
call_not is = cc

module _ (c : Setting) (s t : State) (q other : ℕ) (i : Insn) (there : slice_get c.f.insns q ≡ Some i) (alike : Alike c q s t)
    (go_on : Onward c (q + 1) (other + 1)) (well : EndsWell c s) (before : is_past (new_of c) t ≡ false) where
  abbrev symbols : List SymbolAt
  symbols = c.world.symbols

  uses_known : AsMuch symbols s.regs t.regs s.memory (λ reg. pattern_uses reg i.pattern)
  uses_known r uses = alike.live (suc r) (AtUse q i there
      (or_first (insn_uses i (suc r)) _ (or_first (pattern_uses (suc r) i.pattern) _ uses)))

  args_known : (reg : ℕ) → has_argument reg i.uses ≡ true → KnownToo s.regs t.regs reg
  args_known reg uses = alike.live reg (AtUse q i there
      (or_first (insn_uses i reg) _ (or_later (pattern_uses reg i.pattern) _ uses)))

  -- ---- plain instructions

  abbrev behind : State → ℕ → List Effect → State
  behind s next es = record s { next = next; regs = regs_after es s.regs; memory = memory_after es s.memory }

  live_behind : (es : List Effect) → effects_of symbols s.regs s.memory i.pattern ≡ Some es → i.kind ≡ kind.Plain → (reg : ℕ) →
      (b : Bool) → pattern_defines reg i.pattern ≡ b → IsLive c.f reg (q + 1) →
      KnownToo (regs_after es s.regs) (regs_after es t.regs) reg
  live_behind es are plain zero b is lives = λ w v known. known
  live_behind es are plain (suc r) true is lives =
      effects_fix symbols s.regs t.regs s.memory i.pattern es r (c.natural q i there) are is s.regs t.regs
  live_behind es are plain (suc r) false is lives = after_too es s.regs t.regs (suc r)
      (alike.live (suc r) (Passing q (q + 1) i there (plain_defines i (suc r) kind.Plain plain refl is)
      (leads_on c.f.insns q i there (no_jump kind.Plain i plain plain_not)) lives))

  alike_behind : (es : List Effect) → effects_of symbols s.regs s.memory i.pattern ≡ Some es → i.kind ≡ kind.Plain →
      Alike c (q + 1) (behind s (q + 1) es) (behind t (other + 1) es)
  alike_behind es are plain = record {
    live = λ reg lives. live_behind es are plain reg (pattern_defines reg i.pattern) refl lives;
    kept = λ reg kept unset. after_too es s.regs t.regs reg (alike.kept reg kept unset);
    memory_is = ap (memory_after es) alike.memory_is;
    visible_is = alike.visible_is;
    calls_are = alike.calls_are;
    is_memory = memory_effects es s.memory alike.is_memory;
  }

  plain_by : (o : Option (List Effect)) → effects_of symbols s.regs s.memory i.pattern ≡ o → i.kind ≡ kind.Plain →
      step c.world c.f s ≡ act kind.Plain c.world c.f i q s →
      step c.world (new_of c) t ≡ act kind.Plain c.world (new_of c) i other t → Simulates c s t
  plain_by None are plain is is' = absurd (never c s s (is ∙ ap (after_effects s q) are) well)
  plain_by (Some es) are plain is is' =
      let are' : effects_of symbols t.regs t.memory i.pattern ≡ Some es =
      ap (λ m. effects_of symbols t.regs m i.pattern) alike.memory_is ∙
      effects_too symbols s.regs t.regs s.memory i.pattern (c.natural q i there) uses_known es are in
      go_both c s (behind s (q + 1) es) t t (behind t (other + 1) es) ends.Next 0 (is ∙ ap (after_effects s q) are) refl
      (machine.stays t) (is' ∙ ap (after_effects t other) are')
      (go_on (behind s (q + 1) es) (behind t (other + 1) es) refl refl (alike_behind es are plain))

  -- ---- jumps

  -- what is live where a jump leads is live before it
  alike_at : (p : ℕ) (w : Way) → jump_of symbols s.regs s.memory i.pattern ≡ Some w → i.kind ≡ kind.Jump →
      leads c.f.insns q p ≡ true → Alike c p s t
  alike_at p w goes jumps led = record {
    live = λ reg lives. alike.live reg (Passing q p i there
        (plain_defines i reg kind.Jump jumps refl (jump_defines symbols s.regs s.memory i.pattern reg w goes)) led lives);
    kept = alike.kept;
    memory_is = alike.memory_is;
    visible_is = alike.visible_is;
    calls_are = alike.calls_are;
    is_memory = alike.is_memory;
  }

  return_known : (reg : ℕ) → is_return i ≡ true → return_uses c.f reg ≡ true → KnownToo s.regs t.regs reg
  return_known reg return uses = alike.live reg (AtUse q i there
      (or_later (insn_uses i reg) _ (ap (λ b. b && return_uses c.f reg) return ∙ uses)))

  way_by : (w : Way) → LeadsBy c.f.insns q w → jump_of symbols s.regs s.memory i.pattern ≡ Some w →
      jump_of symbols t.regs t.memory i.pattern ≡ Some w → i.kind ≡ kind.Jump →
      step c.world c.f s ≡ act kind.Jump c.world c.f i q s →
      step c.world (new_of c) t ≡ act kind.Jump c.world (new_of c) i other t → Simulates c s t
  way_by _ (leads_by.falls_on led) goes goes' jumps is is' =
      falls_both c s t (q + 1) (other + 1) (is ∙ ap (after_jump c.f s q) goes) (is' ∙ ap (after_jump (new_of c) t other) goes')
      (alike_at (q + 1) way.Falls goes jumps led) go_on
  way_by _ (leads_by.goes_on uid led) goes goes' jumps is is' =
      jumps_both c s t t 0 uid (place_of uid c.f.insns) refl (is ∙ ap (after_jump c.f s q) goes) (machine.stays t)
      (is' ∙ ap (after_jump (new_of c) t other) goes') (λ p at. alike_at p (way.Goes uid) goes jumps (led p at)) well
  way_by _ leads_by.leaves_it goes goes' jumps is is' =
      returns_both c s t q alike (λ reg uses. return_known reg (leaves_is symbols s.regs s.memory i goes) uses)
      (is ∙ ap (after_jump c.f s q) goes) (is' ∙ ap (after_jump (new_of c) t other) goes') well
      (λ past over. not_there c t before past)

  jump_by : (o : Option Way) → jump_of symbols s.regs s.memory i.pattern ≡ o → i.kind ≡ kind.Jump →
      step c.world c.f s ≡ act kind.Jump c.world c.f i q s →
      step c.world (new_of c) t ≡ act kind.Jump c.world (new_of c) i other t → Simulates c s t
  jump_by None goes jumps is is' = absurd (never c s s (is ∙ ap (after_jump c.f s q) goes) well)
  jump_by (Some w) goes jumps is is' =
      way_by w (jump_leads symbols s.regs s.memory c.f.insns q i w there jumps goes) goes
      (ap (λ m. jump_of symbols t.regs m i.pattern) alike.memory_is ∙
      jump_too symbols s.regs t.regs s.memory i.pattern (c.natural q i there) uses_known w goes) jumps is is'

  -- ---- calls

  at_call : (event : CallEvent) → event_of symbols s.regs s.memory s.visible i.pattern i.uses ≡ Some event → i.kind ≡ kind.Call →
      onward.AtCall c s t q
  at_call event is calls = record {
    live = λ reg lives kept. alike.live reg (Passing q (q + 1) i there
        (call_leaves i reg kept (call_defines symbols s.regs s.memory i.pattern i.uses s.visible reg event is (not_result reg kept)))
        (leads_on c.f.insns q i there (no_jump kind.Call i calls call_not)) lives);
    kept = λ reg kept unset preserved. alike.kept reg kept unset;
    memory_is = alike.memory_is;
    visible_is = alike.visible_is;
    calls_are = alike.calls_are;
    is_memory = alike.is_memory;
  }

  call_by : (width : Option Width) (o : Option CallEvent) → result_width i.pattern ≡ width →
      event_of symbols s.regs s.memory s.visible i.pattern i.uses ≡ o → i.kind ≡ kind.Call →
      step c.world c.f s ≡ after_event c.world s q width o →
      step c.world (new_of c) t ≡
      after_event c.world t other (result_width i.pattern) (event_of symbols t.regs t.memory t.visible i.pattern i.uses) →
      Simulates c s t
  call_by None o width_is is_event calls is is' = absurd (never c s s is well)
  call_by (Some w) None width_is is_event calls is is' = absurd (never c s s is well)
  call_by (Some w) (Some event) width_is is_event calls is is' =
      let too : event_of symbols t.regs t.memory t.visible i.pattern i.uses ≡ Some event =
      ap (λ m. event_of symbols t.regs m t.visible i.pattern i.uses) alike.memory_is ∙
      ap (λ v. event_of symbols t.regs s.memory v i.pattern i.uses) alike.visible_is ∙
      event_too symbols s.regs t.regs s.memory s.visible i.pattern i.uses (c.natural q i there) uses_known args_known event is_event in
      calls_both c s t t 0 q other event event w is (machine.stays t)
      (is' ∙ ap (λ w. after_event c.world t other w (event_of symbols t.regs t.memory t.visible i.pattern i.uses)) width_is ∙
      ap (after_event c.world t other (Some w)) too) (event_refl event) (at_call event is_event calls) go_on before

  -- ---- whatever it is

  by_kind : (k : Kind) → i.kind ≡ k → is_mark k ≡ false → step c.world c.f s ≡ act k c.world c.f i q s →
      step c.world (new_of c) t ≡ act k c.world (new_of c) i other t → Simulates c s t
  by_kind kind.Plain is none taken taken' = plain_by (effects_of symbols s.regs s.memory i.pattern) refl is taken taken'
  by_kind kind.Jump is none taken taken' = jump_by (jump_of symbols s.regs s.memory i.pattern) refl is taken taken'
  by_kind kind.Call is none taken taken' =
      call_by (result_width i.pattern) (event_of symbols s.regs s.memory s.visible i.pattern i.uses) refl refl is taken taken'
  by_kind kind.Label is none taken taken' = absurd (let no : ⊥ = cc in no)
  by_kind kind.Barrier is none taken taken' = absurd (let no : ⊥ = cc in no)

-- an instruction outside of the window
pub insn_both : (c : Setting) (s t : State) (q other : ℕ) (i : Insn) (xs ys : List Insn) → Stands c.f.insns s.next (i ∷ xs) q →
    Stands (new_of c).insns t.next (i ∷ ys) other → is_mark i.kind ≡ false → Alike c q s t → Onward c (q + 1) (other + 1) →
    EndsWell c s → Simulates c s t
insn_both c s t q other i xs ys stands stands' none alike go_on well =
    by_kind c s t q other i (there_is c.f.insns s.next i xs q stands) alike go_on well
    (not_past (new_of c) t i ys other i.kind stands' none refl) i.kind refl none
    (step_is c.world c.f s i xs q i.kind stands none refl) (step_is c.world (new_of c) t i ys other i.kind stands' none refl)

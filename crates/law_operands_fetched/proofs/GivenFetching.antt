-- The moves before an instruction of a function fetch what they are to fetch, in a state with the function's frame.
use Rattle.std.proofs.Common.{◌≡◌, ℕ, ◌+◌, ◌<◌, ◌^◌, true, List, slice_get, Some, sym, ap, ◌∙◌, arith}
use Rattle.std.proofs.Math.Nat.{mod-eq_of_lt}
use Rattle.std.proofs.lemmas.Int.{of_z-to_z}
use Rattle.std.specs.Int.{cast_signed, cast_unsigned, w64}
use Rattle.std.specs.Prelude.{is_some}
use Rattle.law_operands_replaced.specs.bits64.Words.{low, sum_of}
use Rattle.law_operands_replaced.specs.bits64.declared.Width.TheVariants.{W64}
use Rattle.law_operands_replaced.specs.rtx_tree.declared.machine.SymbolAt.{SymbolAt}
use Rattle.law_operands_replaced.specs.rtx_tree.declared.memories.MemByte.{MemByte}
use Rattle.law_operands_replaced.specs.rtx_tree.declared.tree.Rtx.{Rtx}
use Rattle.law_operands_replaced.specs.run_memory.RunMemory.{load}
use Rattle.law_operands_replaced.specs.rtl_func.Shapes.{is_shaped}
use Rattle.law_operands_replaced.proofs.rtl_func.AllPass.{all_pass}
use Rattle.law_operands_replaced.specs.rtl_step.Regs.{Regs, reg_value}
use Rattle.rv_regs.specs.Registers.{stack_pointer}
use Rattle.same_behaviour.specs.Lawful.{IsMemory}
use Rattle.law_operands_replaced.specs.sym_insns.Shape.{all_natural}
use Rattle.assign.specs.declared.home.Home.TheVariants.{Slot}
use Rattle.assign.specs.declared.home.HomeOf.{HomeOf}
use Rattle.assign.specs.declared.places.Layout.{Layout}
use Rattle.law_operands_replaced.specs.md_match.Pattern.{Ops}
use Rattle.law_operands_replaced.specs.md_match.Match.{MatchesOne}
use Rattle.reload_homes.specs.Homes.{home_of, homed}
use Rattle.reload_homes.specs.Homes as place_homes
use Rattle.law_operands_replaced.specs.reload_operands.Operands.{operands_of}
use Rattle.law_operands_replaced.specs.reload_operands.declared.operand.Base.{Base}
use Rattle.law_operands_replaced.specs.reload_operands.declared.operand.Operand.{Operand}
use Rattle.reload_moves.specs.declared.part.Part.{Part}
use Rattle.reload_moves.specs.Moves.{comes_in}
use Rattle.reload_choice.specs.reload_fit.Addressed.{slot_offset}
use Rattle.reload_choice.specs.declared.given.Given.{Given}
use Rattle.reload_choice.specs.declared.given.Plan.{Plan}
use Rattle.reload_choice.specs.Sound.{IsPart, IsSoundPlan}
use Rattle.law_operands_replaced.proofs.Fetches.{offset_by}
use Rattle.law_operands_fetched.proofs.Fetching.{Fetching}
use Rattle.law_operands_fetched.proofs.GivenBases.{HasSlot, slot_there_is}
use Rattle.law_operands_fetched.proofs.GivenOperands.{operand_is, base_is}
use Rattle.law_operands_fetched.proofs.HomedQuiet.{HasQuietHomes}
use Rattle.law_operands_replaced.proofs.Valued.{HasValue}

-- what a state has of a frame whose lowest address sp is
pub record HasFrame (homes : List HomeOf) (layout : Layout) (regs : Regs) (memory : List MemByte) (sp : ℕ) : Type 0 where
  pub pointer : reg_value regs stack_pointer W64 ≡ Some sp
  pub memory_is : IsMemory memory
  -- each slot ends below 2^64, and has a number
  pub within : (reg : ℕ) → home_of homes reg ≡ Slot → sp + place_homes.slot_offset layout reg < 2 ^ 64
  pub loads : (reg : ℕ) → home_of homes reg ≡ Slot → is_some (load W64 memory (sp + place_homes.slot_offset layout reg)) ≡ true
  pub word : sp < 2 ^ 64

-- what is asked of the instruction with its references to the frame put in, before its registers have homes
pub record IsMatched (homes : List HomeOf) (layout : Layout) (pattern w : Rtx) (found : Ops) : Type 0 where
  pub matches : MatchesOne pattern w found
  pub shaped : all_pass is_shaped w ≡ true
  pub natural : all_natural w ≡ true
  pub quiet : HasQuietHomes homes layout w
  pub shapes : (x : Rtx) → all_pass is_shaped x ≡ true → all_natural x ≡ true → all_pass is_shaped (homed homes layout x) ≡ true
  pub naturals : (x : Rtx) → all_pass is_shaped x ≡ true → all_natural x ≡ true → all_natural (homed homes layout x) ≡ true

no_wrap : (sp n : ℕ) → n < 2 ^ 64 → sp + n < 2 ^ 64 → sum_of W64 sp (low W64 (cast_unsigned w64 (cast_signed w64 n))) ≡ sp + n
no_wrap sp n few within =
    ap (λ k. sum_of W64 sp (low W64 k)) (of_z-to_z w64 n few) ∙ ap (sum_of W64 sp) (mod-eq_of_lt few) ∙ mod-eq_of_lt within

module _ (homes : List HomeOf) (layout : Layout) (symbols : List SymbolAt) (regs : Regs) (memory : List MemByte)
    (sp : ℕ) (pattern w : Rtx) (found : Ops)
    (frame : HasFrame homes layout regs memory sp) (is : IsMatched homes layout pattern w found) where
  few : (reg : ℕ) → home_of homes reg ≡ Slot → place_homes.slot_offset layout reg < 2 ^ 64
  few reg home = let within = frame.within reg home in omega (arith, within)

  slot_loads : (b : Base) → HasSlot homes layout few b → is_some (load W64 memory (offset_by symbols memory sp (slot_offset b))) ≡ true
  slot_loads b has =
      ap (λ n. is_some (load W64 memory (sum_of W64 sp (low W64 (cast_unsigned w64 (cast_signed w64 n)))))) has.slot_is ∙
      ap (λ at. is_some (load W64 memory at)) (no_wrap sp (place_homes.slot_offset layout has.reg)
      (few has.reg has.home_is) (frame.within has.reg has.home_is)) ∙
      frame.loads has.reg has.home_is

  -- then all of it is given, where each input that is moved has a value
  pub fetching : (with_homes : Rtx) (given : Given) (plan : Plan) → given.operands ≡ operands_of pattern found w with_homes homes layout →
      IsSoundPlan given plan →
      ((i : ℕ) (p : Part) (x : Operand) → IsPart given plan i p x → comes_in p ≡ true → HasValue symbols regs memory x.tree) →
      Fetching symbols regs memory sp given plan
  fetching with_homes given plan are sound valued = record {
    sound = sound;
    operands = λ i x at. operand_is homes layout few is.shapes is.naturals pattern w found is.matches is.shaped
        is.natural is.quiet with_homes i x
        (sym (ap (λ (xs : List Operand). slice_get xs i) are) ∙ at);
    pointer = frame.pointer;
    small = mod-eq_of_lt frame.word;
    memory_is = frame.memory_is;
    slots = λ i x base at based.
        let b = base_is homes layout few is.shapes is.naturals pattern w found is.matches is.shaped is.natural is.quiet with_homes i x base
        (sym (ap (λ (xs : List Operand). slice_get xs i) are) ∙ at) based in
        slot_loads base (slot_there_is homes layout few b.0 base b.1);
    valued = valued;
  }

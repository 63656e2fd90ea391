-- One line of a function, and its words.
use Rattle.std.proofs.Common.{◌≡◌, ℕ, pos, negsuc, ◌+◌, ◌*◌, ◌%◌, ◌^◌, ◌<◌, ◌≤◌, ◌==◌, Bool, true, false, if◌then◌else◌, List, [], ◌∷◌, length, map, Option, Some, None, option_map, refl, sym, ◌∙◌, ap, arith, bytes_eq}
use Rattle.std.specs.Prelude.{◌-ℤ◌, slice_get}
use Rattle.std.specs.Int.{cast_unsigned, w64}
use Rattle.std.proofs.lemmas.Bool.{false≢true}
use Rattle.std.proofs.lemmas.Int.{ints}
use Rattle.bits64.specs.declared.Width.TheVariants.{W64}
use Rattle.bits64.specs.Operators.{holds}
use Rattle.long_branches.specs.Branches.{Reaches, IsClosed}
use Rattle.rtx_tree.specs.declared.machine.World.{World}
use Rattle.rtx_tree.specs.declared.memories.MemByte.{MemByte}
use Rattle.run_memory.specs.Symbols.{symbol_address}
use Rattle.rv_text.specs.Table.{row_of, table, row_named, find_row, all_mnemonics}
use Rattle.rv_text.specs.declared.line.Line.{Line}
use Rattle.rv_text.specs.declared.line.CodeItem.TheVariants.{Code}
use Rattle.rv_text.specs.declared.action.Action.{Action}
use Rattle.rv_text.specs.declared.action.Action.TheVariants.{Compute, Load, Store, SymbolAddress, Branch, Jump, Call, CallRegister, Return}
use Rattle.rv_text.specs.declared.mnemonic.Mnemonic.{Mnemonic}
use Rattle.rv_line.specs.Run.{args_of}
use Rattle.rv_line.specs.Step.{with_register, source_value, of_both, register_call_end, return_end, set_rd, computed, loaded, set_memory, stored, register, branch_end, act}
use Rattle.rv_line.specs.declared.state.RvState.{RvState}
use Rattle.rv_line.specs.declared.state.LineEnd.{LineEnd}
use Rattle.rv_line.specs.declared.state.LineEnd.TheVariants.{Next, Jumped, Called, Returned, Stuck}
use Rattle.rv_word.specs.Word.{IsWithin}
use Rattle.rv_unit.specs.Names.{find_mnemonic, mnemonic_named, spelling_named}
use Rattle.rv_unit.specs.Layout.{pieces_of}
use Rattle.rv_unit.specs.Words.{Placed}
use Rattle.rv_image.specs.Image.{names_symbol}
use Rattle.law_image.proofs.Facts.{is_branch, is_plain}
use Rattle.law_image.proofs.Standing.{word_place}

-- ---- the mnemonic of a line

row_found : (name : List ℕ) (ms : List Mnemonic) → find_row name (map row_of ms) ≡ option_map row_of (find_mnemonic name ms)
row_found name [] = refl
row_found name (m ∷ ms) = by (bytes_eq (row_of m).name name) (row_found name ms)
  where
    by : (b : Bool) → find_row name (map row_of ms) ≡ option_map row_of (find_mnemonic name ms) → (if b then Some (row_of m) else find_row name (map row_of ms)) ≡ option_map row_of (if b then Some m else find_mnemonic name ms)
    by true is = refl
    by false is = is

pub row_is : (name : List ℕ) → row_named name ≡ option_map row_of (mnemonic_named name)
unfolding table mnemonic_named
row_is name = row_found name all_mnemonics

-- ---- how lines end

abbrev pub has_jumped : LineEnd → Bool
has_jumped Next = false
has_jumped Jumped = true
has_jumped (Called target) = false
has_jumped Returned = false
has_jumped Stuck = false

rd_stays : (state : RvState) (line : Line) (o : Option ℕ) → has_jumped (set_rd state line o).0 ≡ false
rd_stays state line None = refl
rd_stays state line (Some value) = refl

call_stays : (o : Option ℕ) → has_jumped (register_call_end o) ≡ false
call_stays None = refl
call_stays (Some target) = by (target % 4 == 0)
  where
    by : (b : Bool) → has_jumped (if b then Called target else Stuck) ≡ false
    by true = refl
    by false = refl

return_stays : (entry_ra : ℕ) (o : Option ℕ) → has_jumped (return_end entry_ra o) ≡ false
return_stays entry_ra None = refl
return_stays entry_ra (Some target) = by (target == entry_ra)
  where
    by : (b : Bool) → has_jumped (if b then Returned else Stuck) ≡ false
    by true = refl
    by false = refl

memory_stays : (state : RvState) (o : Option (List MemByte)) → has_jumped (set_memory state o).0 ≡ false
memory_stays state None = refl
memory_stays state (Some memory) = refl

-- no line but a branch or a jump leads to a label
pub plain_stays : (action : Action) (world : World) (line : Line) (state : RvState) → is_plain action ≡ true → has_jumped (act action world line state).0 ≡ false
plain_stays (Compute operation w left right) world line state plain = rd_stays state line (of_both (computed operation w) (source_value state line left) (source_value state line right))
plain_stays (Load w extension) world line state plain = rd_stays state line (loaded w extension state line)
plain_stays (Store w) world line state plain = memory_stays state (stored w state line)
plain_stays SymbolAddress world line state plain = absurd (false≢true plain)
plain_stays (Branch comparison left right) world line state plain = absurd (false≢true plain)
plain_stays Jump world line state plain = absurd (false≢true plain)
plain_stays Call world line state plain = absurd (false≢true plain)
plain_stays CallRegister world line state plain = call_stays (register state.regs line.rs)
plain_stays (Return through) world line state plain = return_stays state.entry_ra (source_value state line through)

pub no_symbol : (action : Action) → is_plain action ≡ true → action ≡ SymbolAddress → ⊥
no_symbol action plain is = false≢true (sym (ap is_plain is) ∙ plain)

abbrev leaps : Action → Bool
leaps (Compute operation w left right) = false
leaps (Load w extension) = false
leaps (Store w) = false
leaps SymbolAddress = false
leaps (Branch comparison left right) = false
leaps Jump = true
leaps Call = false
leaps CallRegister = false
leaps (Return through) = false

pub no_leap : (action : Action) → action ≡ Jump → action ≡ SymbolAddress → ⊥
no_leap action jump symbol = false≢true (sym (ap leaps symbol) ∙ ap leaps jump)

pub branches_no_symbol : (action : Action) → is_branch action ≡ true → action ≡ SymbolAddress → ⊥
branches_no_symbol action branches is = false≢true (sym (ap is_branch is) ∙ branches)

pub record Branches (done : LineEnd × RvState) (state : RvState) : Type 0 where
  pub taken : Option Bool
  pub is : done ≡ (branch_end taken, state)

pub branch_does : (action : Action) (world : World) (line : Line) (state : RvState) → is_branch action ≡ true → Branches (act action world line state) state
branch_does (Compute operation w left right) world line state is = absurd (false≢true is)
branch_does (Load w extension) world line state is = absurd (false≢true is)
branch_does (Store w) world line state is = absurd (false≢true is)
branch_does SymbolAddress world line state is = absurd (false≢true is)
branch_does (Branch relation left right) world line state is = record { taken = of_both (holds relation W64) (source_value state line left) (source_value state line right); is = refl }
branch_does Jump world line state is = absurd (false≢true is)
branch_does Call world line state is = absurd (false≢true is)
branch_does CallRegister world line state is = absurd (false≢true is)
branch_does (Return through) world line state is = absurd (false≢true is)

-- ---- a function at a place

-- what the words of a function and their world have to be
pub record Sound (unit : Placed) (from : ℕ) (world : World) : Type 0 where
  pub closed : IsClosed (pieces_of unit.items) unit.longs
  pub size : 4 * word_place unit (length unit.items) ≤ 1048572
  pub place : from < 2 ^ 61
  pub addresses : (name : List ℕ) (address : ℕ) → symbol_address unit.symbols name ≡ Some address → (address + 2048 < 2 ^ 31) × (address % 4 ≡ 0)
  pub has : (at : ℕ) (line : Line) → slice_get unit.items at ≡ Some (Code line) → names_symbol (spelling_named line.name) ≡ true → symbol_address world.symbols line.target ≡ symbol_address unit.symbols line.target

-- distances of a function
pub near_range : (a b : ℕ) → Reaches a b → 4 * a ≤ 1048572 → 4 * b ≤ 1048572 → IsWithin (negsuc 4095) (pos 4094) (pos (4 * b) -ℤ pos (4 * a))
near_range a b reaches small_a small_b = (omega (arith, ints, reaches.0), omega (arith, ints, reaches.1))

pub even_distance : (a b : ℕ) → 4 * a ≤ 1048572 → 4 * b ≤ 1048572 → cast_unsigned w64 (pos (4 * b) -ℤ pos (4 * a)) % 2 ≡ 0
even_distance a b small_a small_b = omega (arith, ints)

pub leap_range : (a b : ℕ) → 4 * a ≤ 1048572 → 4 * b ≤ 1048572 → IsWithin (negsuc 1048575) (pos 1048574) (pos (4 * b) -ℤ pos (4 * a))
leap_range a b small_a small_b = (omega (arith, ints), omega (arith, ints))

pub over_range : (a b : ℕ) → 4 * a + 8 ≤ 1048572 → 4 * b ≤ 1048572 → IsWithin (negsuc 1048575) (pos 1048574) ((pos (4 * b) -ℤ pos (4 * a)) -ℤ pos 4)
over_range a b small_a small_b = (omega (arith, ints), omega (arith, ints))

pub even_over : (a b : ℕ) → 4 * a + 8 ≤ 1048572 → 4 * b ≤ 1048572 → cast_unsigned w64 ((pos (4 * b) -ℤ pos (4 * a)) -ℤ pos 4) % 2 ≡ 0
even_over a b small_a small_b = omega (arith, ints)

pub eight_range : IsWithin (negsuc 4095) (pos 4094) (pos 8)
eight_range = (omega (arith, ints), omega (arith, ints))

pub eight_even : cast_unsigned w64 (pos 8) % 2 ≡ 0
eight_even = omega (arith, ints)

pub same_args : (regs : List (Option ℕ)) (value : ℕ) → args_of (with_register regs 1 value) ≡ args_of regs
same_args [] value = refl
same_args (a ∷ []) value = refl
same_args (a ∷ b ∷ regs) value = refl

-- Valuations by the second of two machines of instructions: what is known of its registers, and some number in the bits above.
use Rattle.std.proofs.Common.{◌≡◌, ℕ, zero, suc, ◌+◌, ◌*◌, ◌^◌, ◌<◌, ◌≤◌, nat_le, Bool, true, false, List, Option, Some, None, refl, sym, ◌∙◌, arith, tests}
use Rattle.std.specs.Prelude.{if◌then◌else◌, option_and_then}
use Rattle.std.specs.FinMap.{get}
use Rattle.bits64.specs.declared.Width.{Width}
use Rattle.bits64.specs.declared.Width.TheVariants.{W8, W16, W32, W64}
use Rattle.bits64.specs.Words.{bits_of, low}
use Rattle.rtx_tree.specs.declared.function.Insn.{Insn}
use Rattle.rtx_tree.specs.declared.machine.SymbolAt.{SymbolAt}
use Rattle.rtx_tree.specs.declared.memories.MemByte.{MemByte}
use Rattle.rtl_step.specs.declared.regs.Known.{Known}
use Rattle.rtl_step.specs.Regs.{Regs, known_in, reg_value}
use Rattle.law_states_agree.specs.same_behaviour.Lawful.{IsMemory, AreAddresses}
use Rattle.term_mean.specs.Meaning.{Valuation}
use Rattle.law_states_agree.specs.law_window_runs.Uses.{window_uses}
use Rattle.law_window_kept.specs.Same.{KnownToo}
use Rattle.law_states_agree.specs.law_insn_terms.Means.{IsFirst, first_of}
use Rattle.law_states_agree.proofs.law_insn_terms.Firsts.{first_shows}
use Rattle.law_states_agree.proofs.Behind.{zero_one}
use Rattle.law_states_agree.proofs.Codes.{symbol_number, symbol_is, symbol_word, byte_number, byte_is, asked, asked_reads, zero_low}

-- ---- bits above those of a width

above_same : (w u : Width) (x n : ℕ) → bits_of w ≤ bits_of u → low w x ≡ low w (x + n * 2 ^ bits_of u)
above_same W8 W8 x n less = omega arith
above_same W8 W16 x n less = omega arith
above_same W8 W32 x n less = omega arith
above_same W8 W64 x n less = omega arith
above_same W16 W8 x n less = absurd (omega (arith, less))
above_same W16 W16 x n less = omega arith
above_same W16 W32 x n less = omega arith
above_same W16 W64 x n less = omega arith
above_same W32 W8 x n less = absurd (omega (arith, less))
above_same W32 W16 x n less = absurd (omega (arith, less))
above_same W32 W32 x n less = omega arith
above_same W32 W64 x n less = omega arith
above_same W64 W8 x n less = absurd (omega (arith, less))
above_same W64 W16 x n less = absurd (omega (arith, less))
above_same W64 W32 x n less = absurd (omega (arith, less))
above_same W64 W64 x n less = omega arith

above_differ : (w u : Width) (x : ℕ) → bits_of u < bits_of w → low w (x + 0 * 2 ^ bits_of u) ≡ low w (x + 1 * 2 ^ bits_of u) → ⊥
above_differ W8 W8 x less same = omega (arith, less)
above_differ W8 W16 x less same = omega (arith, less)
above_differ W8 W32 x less same = omega (arith, less)
above_differ W8 W64 x less same = omega (arith, less)
above_differ W16 W8 x less same = omega (arith, same)
above_differ W16 W16 x less same = omega (arith, less)
above_differ W16 W32 x less same = omega (arith, less)
above_differ W16 W64 x less same = omega (arith, less)
above_differ W32 W8 x less same = omega (arith, same)
above_differ W32 W16 x less same = omega (arith, same)
above_differ W32 W32 x less same = omega (arith, less)
above_differ W32 W64 x less same = omega (arith, less)
above_differ W64 W8 x less same = omega (arith, same)
above_differ W64 W16 x less same = omega (arith, same)
above_differ W64 W32 x less same = omega (arith, same)
above_differ W64 W64 x less same = omega (arith, less)

-- ---- registers

-- what is known, and a number in the bits above
abbrev filled : ℕ → Option Known → ℕ
filled above None = above
filled above (Some k) = k.value + above * 2 ^ bits_of k.width

abbrev pub other_number : Regs → ℕ → ℕ → ℕ
other_number regs above zero = 0
other_number regs above (suc reg) = filled above (get regs (suc reg))

filled_reads : (o : Option Known) (above : ℕ) (w : Width) (value : ℕ) → option_and_then (known_in w) o ≡ Some value → value ≡ low w (filled above o)
filled_reads None above w value is = absurd (let no : ⊥ = cc in no)
filled_reads (Some k) above w value is = by (nat_le (bits_of w) (bits_of k.width)) refl is
  where
    by : (b : Bool) → nat_le (bits_of w) (bits_of k.width) ≡ b → (if b then Some (low w k.value) else None) ≡ Some value → value ≡ low w (k.value + above * 2 ^ bits_of k.width)
    by true less is = let same : low w k.value ≡ value = cc in sym same ∙ above_same w k.width k.value above (grind (arith, tests, less))
    by false less is = absurd (let no : ⊥ = cc in no)

filled_differ : (o : Option Known) (w : Width) → option_and_then (known_in w) o ≡ None → low w (filled 0 o) ≡ low w (filled 1 o) → ⊥
filled_differ None w is same = zero_one w same
filled_differ (Some k) w is same = by (nat_le (bits_of w) (bits_of k.width)) refl is
  where
    by : (b : Bool) → nat_le (bits_of w) (bits_of k.width) ≡ b → (if b then Some (low w k.value) else None) ≡ None → ⊥
    by true less is = let no : ⊥ = cc in no
    by false less is = above_differ w k.width k.value (grind (arith, tests, less)) same

pub other_reads : (regs : Regs) (above reg : ℕ) (w : Width) (value : ℕ) → reg_value regs reg w ≡ Some value → value ≡ low w (other_number regs above reg)
other_reads regs above zero w value is = let same : 0 ≡ value = cc in sym same ∙ zero_low w
other_reads regs above (suc reg) w value is = filled_reads (get regs (suc reg)) above w value is

-- two numbers above tell a width apart that is not known
pub unknown_differ : (regs : Regs) (reg : ℕ) (w : Width) → reg_value regs (suc reg) w ≡ None → low w (other_number regs 0 (suc reg)) ≡ low w (other_number regs 1 (suc reg)) → ⊥
unknown_differ regs reg w is same = filled_differ (get regs (suc reg)) w is same

-- ---- valuations

abbrev pub other_valuation : List SymbolAt → Regs → List MemByte → ℕ → Valuation
other_valuation symbols regs memory above = record { reg = other_number regs above; sym = symbol_number symbols; memory = λ number. byte_number memory }

pub other_first : (symbols : List SymbolAt) (regs : Regs) (memory : List MemByte) (above : ℕ) → AreAddresses symbols → IsMemory memory →
    IsFirst (other_valuation symbols regs memory above) (first_of symbols regs memory)
other_first symbols regs memory above words is_memory = record {
  of = record { registers = other_reads regs above; symbols = symbol_is symbols; words = symbol_word symbols words };
  memory_is = first_shows (other_valuation symbols regs memory above) (first_of symbols regs memory) is_memory (byte_is memory);
}

-- the registers that a window uses are those of the other machine
used_reads : (insns : List Insn) (regs other : Regs) (above : ℕ) → ((reg : ℕ) → window_uses insns reg ≡ true → KnownToo regs other reg) →
    (reg : ℕ) (w : Width) (value : ℕ) → reg_value (asked insns regs) reg w ≡ Some value → value ≡ low w (other_number other above reg)
used_reads insns regs other above used zero w value is = let same : 0 ≡ value = cc in sym same ∙ zero_low w
used_reads insns regs other above used (suc reg) w value is =
    let there = asked_reads insns regs reg w value is in
    other_reads other above (suc reg) w value (used (suc reg) there.0 w value there.1)

pub used_first : (symbols : List SymbolAt) (insns : List Insn) (regs other : Regs) (memory : List MemByte) (above : ℕ) → AreAddresses symbols → IsMemory memory →
    ((reg : ℕ) → window_uses insns reg ≡ true → KnownToo regs other reg) → IsFirst (other_valuation symbols other memory above) (first_of symbols (asked insns regs) memory)
used_first symbols insns regs other memory above words is_memory used = record {
  of = record { registers = used_reads insns regs other above used; symbols = symbol_is symbols; words = symbol_word symbols words };
  memory_is = first_shows (other_valuation symbols other memory above) (first_of symbols (asked insns regs) memory) is_memory (byte_is memory);
}

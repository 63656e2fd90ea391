-- What there is before the first instruction: a memory is shown by bytes that it has, and the state before any instruction shows the machine as it is.
use Rattle.std.proofs.lemmas.Bool.Decides.{nat_tests}
use Rattle.std.proofs.Common.{◌≡◌, ℕ, suc, ◌<◌, ◌^◌, ◌==◌, Bool, true, false, List, [], ◌∷◌, Some, refl, arith}
use Rattle.std.specs.Prelude.{if◌then◌else◌}
use Rattle.std.specs.List.{All}
use Rattle.rtx_tree.specs.declared.machine.SymbolAt.{SymbolAt}
use Rattle.rtx_tree.specs.declared.memories.MemByte.{MemByte}
use Rattle.rtx_tree.specs.Memories.{byte_at}
use Rattle.rtl_step.specs.Regs.{Regs}
use Rattle.law_window_runs.specs.same_behaviour.Lawful.{IsByte, IsMemory}
use Rattle.term_mean.specs.Meaning.{Valuation}
use Rattle.sym_insns.specs.sym_state.State.{start}
use Rattle.law_insn_terms.specs.Needs.{First}
use Rattle.law_insn_terms.specs.Shows.{ShowsMemory, Shows}
use Rattle.law_insn_terms.specs.Means.{first_of, IsFirst}

rest_of : (b : MemByte) (memory : List MemByte) → All IsByte (b ∷ memory) → All IsByte memory
rest_of b memory all = λ k d less. all (suc k) d (omega (arith, less))

-- a byte that a memory has, and its address
bytes_of_memory : (memory : List MemByte) → All IsByte memory → (address byte : ℕ) → byte_at memory address ≡ Some byte → (address < 2 ^ 64) × (byte < 256)
bytes_of_memory [] all address byte is = absurd (let no : ⊥ = cc in no)
bytes_of_memory (b ∷ memory) all address byte is = by (b.address == address) refl (bytes_of_memory memory (rest_of b memory all) address byte) is
  where
    by : (same : Bool) → (b.address == address) ≡ same → (byte_at memory address ≡ Some byte → (address < 2 ^ 64) × (byte < 256)) →
        (if same then Some b.byte else byte_at memory address) ≡ Some byte → (address < 2 ^ 64) × (byte < 256)
    by true here later there =
        let at : b.address ≡ address = grind (arith, nat_tests, here) in
        let value : b.byte ≡ byte = cc in
        let first : IsByte b = all 0 b (omega arith) in
        let word : b.address < 2 ^ 64 = first.address in
        let small : b.byte < 2 ^ 8 = first.byte in
        (omega (arith, at, word), omega (arith, value, small))
    by false here later there = later there

-- a memory is shown where its bytes are those of the valuation's first memory, which may have more
pub first_shows : (v : Valuation) (f : First) → IsMemory f.memory → ((address byte : ℕ) → byte_at f.memory address ≡ Some byte → byte ≡ v.memory 0 address) → ShowsMemory v f f.memory 0
first_shows v f lawful same = record {
  bytes = same;
  small = λ address byte is. (bytes_of_memory f.memory lawful.bytes address byte is).1;
  words = λ address byte is. (bytes_of_memory f.memory lawful.bytes address byte is).0;
  addresses = λ address. refl;
}

-- the state before the first instruction
pub start_shows : (v : Valuation) (symbols : List SymbolAt) (regs : Regs) (memory : List MemByte) → IsFirst v (first_of symbols regs memory) → Shows v (first_of symbols regs memory) start regs memory
start_shows v symbols regs memory first = record {
  registers = λ reg w. refl;
  memory_is = first.memory_is;
  stored = tt;
}

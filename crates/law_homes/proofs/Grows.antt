-- A node keeps its value where each of its parts does and memory has no less: GCC Internals, "RTL Expressions".
use Rattle.std.proofs.Common.{◌≡◌, ℕ, zero, suc, ◌+◌, ◌*◌, Bool, true, false, List, [], ◌∷◌, Option, Some, None, refl, ap, ◌∙◌}
use Rattle.std.specs.Prelude.{ℤ, if◌then◌else◌}
use Rattle.bits64.specs.Words.{bytes_of}
use Rattle.bits64.specs.declared.Width.{Width}
use Rattle.bits64.specs.declared.Width.TheVariants.{W64}
use Rattle.rtx_tree.specs.Memories.{byte_at}
use Rattle.rtx_tree.specs.declared.class.Class.{Class}
use Rattle.rtx_tree.specs.declared.class.Class.TheVariants as class
use Rattle.rtx_tree.specs.declared.code.Code.{Code}
use Rattle.rtx_tree.specs.declared.machine.SymbolAt.{SymbolAt}
use Rattle.rtx_tree.specs.declared.memories.MemByte.{MemByte}
use Rattle.run_memory.specs.RunMemory.{number_at, is_aligned, load}
use Rattle.rtl_step.specs.Regs.{Regs}
use Rattle.rtl_step.specs.Value as rtl
use Rattle.rtl_step.specs.Value.{Reading, of_one}
use Rattle.rtl_step.proofs.Too.{Too, too_then, too_two}
use Rattle.rtl_step.proofs.Readings.{Reads, AllRead, converted_too, two_too}
use Rattle.law_window_runs.specs.Beside.{Within}

-- ---- loads

-- what the one memory has, the other has
pub number_too : (memory other : List MemByte) → Within memory other → (address count : ℕ) →
    Too (number_at memory address count) (number_at other address count)
number_too memory other within address zero = λ v is. is
number_too memory other within address (suc count) =
    too_two (λ byte rest. Some (byte + 256 * rest)) (byte_at memory address) (byte_at other address)
    (number_at memory (address + 1) count) (number_at other (address + 1) count)
    (within address) (number_too memory other within (address + 1) count)

pub load_too : (memory other : List MemByte) → Within memory other → (w : Width) (address : ℕ) →
    Too (load w memory address) (load w other address)
load_too memory other within w address = by (is_aligned w address)
  where
    by : (b : Bool) → Too (if b then number_at memory address (bytes_of w) else None) (if b then number_at other address (bytes_of w) else None)
    by true = number_too memory other within address (bytes_of w)
    by false = λ v none. absurd (let no : ⊥ = cc in no)

-- ---- readings

module _ (symbols : List SymbolAt) (regs regs' : Regs) (memory other : List MemByte) (within : Within memory other) where
  memory_too : (w : Width) (a b : Option ℕ) → Too a b → Too (of_one (load w memory) a) (of_one (load w other) b)
  memory_too w None b too v is = absurd (let no : ⊥ = cc in no)
  memory_too w (Some at) b too v is = ap (of_one (load w other)) (too at refl) ∙ load_too memory other within w at v is

  one_too : (k : Class) (c : Code) (r r' : Reading) (w : Width) → Reads r r' →
      Too (rtl.value_of_one memory k c r w) (rtl.value_of_one other k c r' w)
  one_too class.Memory c r r' w reads = memory_too w (r.value W64) (r'.value W64) (reads.values W64)
  one_too class.Lowpart c r r' w reads = reads.values w
  one_too class.Unary c r r' w reads = too_then (rtl.unary c w) (r.value w) (r'.value w) (reads.values w)
  one_too class.Extension c r r' w reads = converted_too c r r' w reads
  one_too class.Truncation c r r' w reads = converted_too c r r' w reads
  one_too k c r r' w reads = λ v none. absurd (let no : ⊥ = cc in no)

  -- an expression without parts has a value that the other has
  abbrev pub LeafToo : Class → ℤ → List ℕ → Width → Type 0
  LeafToo k n name w = Too (rtl.value_of_none symbols regs k n name w) (rtl.value_of_none symbols regs' k n name w)

  -- a leaf that is no register
  pub leaf_too : (k : Class) (n : ℤ) (name : List ℕ) (w : Width) → (k ≡ class.Register → ⊥) → LeafToo k n name w
  leaf_too class.Register n name w none = absurd (none refl)
  leaf_too class.Constant n name w none = λ v is. is
  leaf_too class.Symbol n name w none = λ v is. is
  leaf_too k n name w none = λ v no_value. absurd (let no : ⊥ = cc in no)

  pub value_grows : (k : Class) (c : Code) (n : ℤ) (name : List ℕ) (rs rs' : List Reading) (w : Width) →
      LeafToo k n name w → AllRead rs rs' →
      Too (rtl.value_by symbols regs memory k c n name rs w) (rtl.value_by symbols regs' other k c n name rs' w)
  value_grows k c n name [] [] w leaf reads = leaf
  value_grows k c n name [] (r' ∷ rs') w leaf reads = absurd reads
  value_grows k c n name (r ∷ rs) [] w leaf reads = absurd reads
  value_grows k c n name (r ∷ []) (r' ∷ []) w leaf reads = one_too k c r r' w reads.0
  value_grows k c n name (r ∷ []) (r' ∷ r'' ∷ rs') w leaf reads = absurd reads.1
  value_grows k c n name (r ∷ s ∷ rs) (r' ∷ []) w leaf reads = absurd reads.1
  value_grows k c n name (r ∷ s ∷ []) (r' ∷ s' ∷ []) w leaf reads = two_too k c r r' s s' w reads.0 reads.1.0
  value_grows k c n name (r ∷ s ∷ []) (r' ∷ s' ∷ u' ∷ rs') w leaf reads = absurd reads.1.1
  value_grows k c n name (r ∷ s ∷ u ∷ rs) (r' ∷ s' ∷ []) w leaf reads = absurd reads.1.1
  value_grows k c n name (r ∷ s ∷ u ∷ rs) (r' ∷ s' ∷ u' ∷ rs') w leaf reads = λ v none. absurd (let no : ⊥ = cc in no)

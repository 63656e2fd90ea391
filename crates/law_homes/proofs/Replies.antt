-- Registers and memory behind a reply: GCC Internals, "Calls"; RISC-V ELF psABI, "Integer Register Convention".
use Rattle.std.proofs.Common.{◌≡◌, ℕ, zero, suc, ◌+◌, ◌*◌, ◌<◌, ◌≤◌, not, Bool, true, false, cond, List, [], ◌∷◌, Option, Some, None, refl, sym, ap, ◌∙◌, arith}
use Rattle.std.proofs.lemmas.Bool.{false≢true}
use Rattle.std.proofs.lemmas.List.Elements.{All-head, All-tail}
use Rattle.std.specs.Cmp.{nat_cmp_total}
use Rattle.std.specs.FinMap.{get, get-insert}
use Rattle.std.specs.List.{All}
use Rattle.std.specs.Prelude.{option_and_then, option_map, if◌then◌else◌}
use Rattle.bits64.specs.Words.{bytes_of}
use Rattle.bits64.specs.declared.Width.{Width}
use Rattle.rtx_tree.specs.Memories.{byte_at, with_byte}
use Rattle.rtx_tree.specs.Registers.{is_call_used}
use Rattle.rtx_tree.specs.declared.machine.RangeAt.{RangeAt}
use Rattle.rtx_tree.specs.declared.memories.MemByte.{MemByte}
use Rattle.rtx_tree.proofs.MemoryWrites.{byte_at-with_byte_other}
use Rattle.run_memory.specs.RunMemory.{number_at, is_aligned, load, written, is_visible}
use Rattle.rtl_step.specs.Call.{regs_replied}
use Rattle.rtl_step.specs.Regs.{Regs, known_in, known_of, reg_value, preserved}
use Rattle.rtl_step.specs.declared.regs.Known.{Known}
use Rattle.rtl_step.proofs.Registers.{get_kept}
use Rattle.law_window_lines.proofs.Small.{is_here, is_other}

-- ---- registers

-- a0 holds the reply's value
pub replied_here : (regs : Regs) (w : Width) (value : ℕ) (v : Width) → reg_value (regs_replied regs w value) 10 v ≡ known_in v (known_of w value)
replied_here regs w value v =
    ap (option_and_then (known_in v)) (get-insert nat_cmp_total (preserved regs) 10 (known_of w value) 10
    ∙ ap (λ b. cond b (Some (known_of w value)) (get (preserved regs) 10)) (is_here 10))

kept_by : (b : Bool) (o : Option Known) (v : Width) → option_and_then (known_in v) (cond (not b) o None) ≡ (if b then None else option_and_then (known_in v) o)
kept_by true o v = refl
kept_by false o v = refl

-- any other register is what it was, or unset where a call may change it
pub replied_other : (regs : Regs) (w : Width) (value reg : ℕ) (v : Width) → (10 ≡ reg → ⊥) →
    reg_value (regs_replied regs w value) reg v ≡ (if is_call_used reg then None else reg_value regs reg v)
replied_other regs w value zero v other = refl
replied_other regs w value (suc reg) v other =
    ap (option_and_then (known_in v)) (get-insert nat_cmp_total (preserved regs) 10 (known_of w value) (suc reg)
    ∙ ap (λ b. cond b (Some (known_of w value)) (get (preserved regs) (suc reg))) (is_other (suc reg) 10 other)
    ∙ get_kept regs (λ r. not (is_call_used r)) (suc reg))
    ∙ kept_by (is_call_used (suc reg)) (get regs (suc reg)) v

if_none : (b : Bool) (o : Option ℕ) (v : ℕ) → (if b then None else o) ≡ Some v → (b ≡ false) × (o ≡ Some v)
if_none true o v is = absurd (let no : ⊥ = cc in no)
if_none false o v is = (refl, is)

-- what is known of another register behind a reply was known before, and no call may change it
pub replied_known : (regs : Regs) (w : Width) (value reg : ℕ) (v : Width) (x : ℕ) → (10 ≡ reg → ⊥) → reg_value (regs_replied regs w value) reg v ≡ Some x →
    (is_call_used reg ≡ false) × (reg_value regs reg v ≡ Some x)
replied_known regs w value reg v x other is = if_none (is_call_used reg) (reg_value regs reg v) x (sym (replied_other regs w value reg v other) ∙ is)

-- one that no call may change is as it was
pub replied_kept : (regs : Regs) (w : Width) (value reg : ℕ) (v : Width) → is_call_used reg ≡ false → reg_value (regs_replied regs w value) reg v ≡ reg_value regs reg v
replied_kept regs w value reg v kept =
    replied_other regs w value reg v (λ same. false≢true (sym kept ∙ sym (ap is_call_used same)))
    ∙ ap (λ b. if b then None else reg_value regs reg v) kept

-- ---- memory

module _ (ranges : List RangeAt) where
  abbrev AllSeen : List MemByte → Type 0
  AllSeen writes = All (λ (write : MemByte). is_visible ranges write.address ≡ true) writes

  -- a byte that is not seen is not written
  pub unseen_byte : (writes memory : List MemByte) (address : ℕ) → AllSeen writes → is_visible ranges address ≡ false →
      byte_at (written writes memory) address ≡ byte_at memory address
  unseen_byte [] memory address seen hidden = refl
  unseen_byte (write ∷ writes) memory address seen hidden =
      unseen_byte writes (with_byte memory write.address write.byte) address (All-tail (λ (write : MemByte). is_visible ranges write.address ≡ true) write writes seen) hidden
      ∙ byte_at-with_byte_other memory write.address write.byte address
      (λ same. false≢true (sym hidden ∙ (ap (is_visible ranges) same ∙ All-head (λ (write : MemByte). is_visible ranges write.address ≡ true) write writes seen)))

  number_same : (memory other : List MemByte) (address count : ℕ) → ((place : ℕ) → address ≤ place → place < address + count → byte_at memory place ≡ byte_at other place) →
      number_at memory address count ≡ number_at other address count
  number_same memory other address zero same = refl
  number_same memory other address (suc count) same =
      ap (λ o. option_and_then (λ byte. option_map (λ rest. byte + 256 * rest) (number_at memory (address + 1) count)) o) (same address (omega arith) (omega arith))
      ∙ ap (λ o. option_and_then (λ byte. option_map (λ rest. byte + 256 * rest) o) (byte_at other address))
      (number_same memory other (address + 1) count (λ place least most. same place (omega (arith, least)) (omega (arith, most))))

  -- a load of what is not seen has what it had
  pub unseen_load : (writes memory : List MemByte) (w : Width) (address : ℕ) → AllSeen writes →
      ((place : ℕ) → address ≤ place → place < address + bytes_of w → is_visible ranges place ≡ false) → load w (written writes memory) address ≡ load w memory address
  unseen_load writes memory w address seen hidden =
      ap (λ o. if is_aligned w address then o else None)
      (number_same (written writes memory) memory address (bytes_of w) (λ place least most. unseen_byte writes memory place seen (hidden place least most)))

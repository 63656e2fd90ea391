-- Valuations by a machine of instructions, and by one of lines: what registers, symbols and memory are before the first of them.
use Rattle.std.proofs.Common.{◌≡◌, ℕ, zero, suc, ◌+◌, ◌%◌, ◌^◌, ◌<◌, ◌≤◌, nat_le, Bool, true, false, cond, List, [], ◌∷◌, length, Option, Some, None, Equal, refl, sym, ◌∙◌, ap, subst, arith, tests, rules}
use Rattle.std.proofs.lemmas.Cmp.{nat_cmp_total}
use Rattle.std.specs.FinMap.{get, retain_keys, get-retain_keys, gets}
use Rattle.std.specs.Ordering.{nat_cmp}
use Rattle.std.specs.Prelude.{if◌then◌else◌, option_map, option_and_then, unwrap_or}
use Rattle.std.specs.List.{All}
use Rattle.std.specs.Str.{bytes_eq}
use Rattle.std.proofs.Math.Nat.{mod-eq_of_lt}
use Rattle.bits64.specs.declared.Width.{Width}
use Rattle.bits64.specs.declared.Width.TheVariants.{W8, W16, W32, W64}
use Rattle.bits64.specs.Words.{bits_of, low}
use Rattle.rtx_tree.specs.declared.machine.SymbolAt.{SymbolAt}
use Rattle.rtx_tree.specs.declared.memories.MemByte.{MemByte}
use Rattle.rtx_tree.specs.Memories.{byte_at}
use Rattle.rtx_tree.specs.declared.function.Insn.{Insn}
use Rattle.run_memory.specs.Symbols.{symbol_address}
use Rattle.rtl_step.specs.declared.regs.Known.{Known}
use Rattle.rtl_step.specs.Regs.{Regs, known_in, reg_value}
use Rattle.rv_line.specs.Step.{register}
use Rattle.rv_line.specs.declared.state.RvState.{RvState}
use Rattle.same_behaviour.specs.Lawful.{IsMemory, AreAddresses}
use Rattle.term_mean.specs.Meaning.{Valuation}
use Rattle.law_line_terms.specs.law_insn_terms.Needs.{First}
use Rattle.law_line_terms.specs.law_insn_terms.Means.{IsFirst, first_of}
use Rattle.law_line_terms.proofs.law_insn_terms.Firsts.{first_shows}
use Rattle.law_window_runs.specs.Uses.{window_uses}
use Rattle.law_window_runs.specs.Beside.{reads, Agrees, Within}

-- ---- symbols

abbrev pub symbol_number : List SymbolAt → List ℕ → ℕ
symbol_number symbols name = unwrap_or (symbol_address symbols name) 0

pub symbol_is : (symbols : List SymbolAt) (name : List ℕ) (address : ℕ) → symbol_address symbols name ≡ Some address → address ≡ symbol_number symbols name
symbol_is symbols name address is = sym (ap (λ o. unwrap_or o 0) is)

pub symbol_word : (symbols : List SymbolAt) → AreAddresses symbols → (name : List ℕ) (address : ℕ) → symbol_address symbols name ≡ Some address → address < 2 ^ 64
symbol_word [] all name address is = absurd (let no : ⊥ = cc in no)
symbol_word (s ∷ symbols) all name address is = by (bytes_eq s.name name) (symbol_word symbols (λ k d less. all (suc k) d (omega (arith, less))) name address) is
  where
    by : (b : Bool) → (symbol_address symbols name ≡ Some address → address < 2 ^ 64) → (if b then Some s.address else symbol_address symbols name) ≡ Some address → address < 2 ^ 64
    by true rest is = let same : s.address ≡ address = cc in subst (λ n. n < 2 ^ 64) same (all 0 s (omega arith))
    by false rest is = rest is

-- ---- memory

abbrev pub byte_number : List MemByte → ℕ → ℕ
byte_number memory address = unwrap_or (byte_at memory address) 0

pub byte_is : (memory : List MemByte) (address byte : ℕ) → byte_at memory address ≡ Some byte → byte ≡ byte_number memory address
byte_is memory address byte is = sym (ap (λ o. unwrap_or o 0) is)

-- ---- the registers of instructions

abbrev value_known : Option Known → ℕ
value_known None = 0
value_known (Some k) = k.value

abbrev pub own_number : Regs → ℕ → ℕ
own_number regs zero = 0
own_number regs (suc reg) = value_known (get regs (suc reg))

-- a machine of instructions, as a valuation
abbrev pub own_valuation : List SymbolAt → Regs → List MemByte → Valuation
own_valuation symbols regs memory = record { reg = own_number regs; sym = symbol_number symbols; memory = λ number. byte_number memory }

pub zero_low : (w : Width) → 0 ≡ low w 0
zero_low W8 = refl
zero_low W16 = refl
zero_low W32 = refl
zero_low W64 = refl

own_low : (o : Option Known) (w : Width) (value : ℕ) → option_and_then (known_in w) o ≡ Some value → value ≡ low w (value_known o)
own_low None w value is = absurd (let no : ⊥ = cc in no)
own_low (Some k) w value is = by (nat_le (bits_of w) (bits_of k.width)) is
  where
    by : (b : Bool) → (if b then Some (low w k.value) else None) ≡ Some value → value ≡ low w k.value
    by true is = let same : low w k.value ≡ value = cc in sym same
    by false is = absurd (let no : ⊥ = cc in no)

own_reads : (regs : Regs) (reg : ℕ) (w : Width) (value : ℕ) → reg_value regs reg w ≡ Some value → value ≡ low w (own_number regs reg)
own_reads regs zero w value is = let same : 0 ≡ value = cc in sym same ∙ zero_low w
own_reads regs (suc reg) w value is = own_low (get regs (suc reg)) w value is

pub own_first : (symbols : List SymbolAt) (regs : Regs) (memory : List MemByte) → AreAddresses symbols → IsMemory memory → IsFirst (own_valuation symbols regs memory) (first_of symbols regs memory)
own_first symbols regs memory words is_memory = record {
  of = record { registers = own_reads regs; symbols = symbol_is symbols; words = symbol_word symbols words };
  memory_is = first_shows (own_valuation symbols regs memory) (first_of symbols regs memory) is_memory (byte_is memory);
}

-- ---- the registers of lines

-- what a register holds, and another number where it is unset
abbrev pub code_number : List (Option ℕ) → ℕ → ℕ → ℕ
code_number regs other reg = unwrap_or (register regs reg) other

-- a machine of lines, as a valuation
abbrev pub code_valuation : List SymbolAt → RvState → ℕ → Valuation
code_valuation symbols m other = record { reg = code_number m.regs other; sym = symbol_number symbols; memory = λ number. byte_number m.memory }

pub code_is : (regs : List (Option ℕ)) (other reg number : ℕ) → register regs reg ≡ Some number → number ≡ code_number regs other reg
code_is regs other reg number is = sym (ap (λ o. unwrap_or o other) is)

read_number : (o : Option ℕ) (w : Width) (other value : ℕ) → option_map (low w) o ≡ Some value → value ≡ low w (unwrap_or o other)
read_number None w other value is = absurd (let no : ⊥ = cc in no)
read_number (Some number) w other value is = let same : low w number ≡ value = cc in sym same

pub code_reads : (regs : List (Option ℕ)) (other reg : ℕ) (w : Width) (value : ℕ) → reads regs reg w ≡ Some value → value ≡ low w (code_number regs other reg)
code_reads regs other reg w value is = read_number (register regs reg) w other value is

-- ---- the registers that instructions use

abbrev pub asked : List Insn → Regs → Regs
asked insns regs = retain_keys regs (window_uses insns)

same_key : (insns : List Insn) (reg : ℕ) → (x : ℕ) → nat_cmp reg x ≡ Equal → window_uses insns x ≡ window_uses insns reg
same_key insns reg x is = ap (window_uses insns) (let same : reg ≡ x = search (rules, nat_cmp_total, is) in sym same)

asked_get : (insns : List Insn) (regs : Regs) (reg : ℕ) → get (asked insns regs) reg ≡ cond (window_uses insns reg) (get regs reg) None
asked_get insns regs reg = get-retain_keys regs (window_uses insns) reg (same_key insns reg)

-- one that is used is there as it was
pub asked_used : (insns : List Insn) (regs : Regs) (reg : ℕ) (w : Width) → window_uses insns reg ≡ true → reg_value (asked insns regs) reg w ≡ reg_value regs reg w
asked_used insns regs zero w used = refl
asked_used insns regs (suc reg) w used =
    ap (option_and_then (known_in w)) (asked_get insns regs (suc reg) ∙ ap (λ b. cond b (get regs (suc reg)) None) used)

-- one that is not there as it was has no value
pub asked_reads : (insns : List Insn) (regs : Regs) (reg : ℕ) (w : Width) (value : ℕ) → reg_value (asked insns regs) (suc reg) w ≡ Some value → (window_uses insns (suc reg) ≡ true) × (reg_value regs (suc reg) w ≡ Some value)
asked_reads insns regs reg w value is = by (window_uses insns (suc reg)) refl
  where
    by : (b : Bool) → window_uses insns (suc reg) ≡ b → (window_uses insns (suc reg) ≡ true) × (reg_value regs (suc reg) w ≡ Some value)
    by true used = (used, sym (asked_used insns regs (suc reg) w used) ∙ is)
    by false unused = absurd (let none : ◌≡◌ {A = Option ℕ} None (Some value) = sym (ap (option_and_then (known_in w)) (asked_get insns regs (suc reg) ∙ ap (λ b. cond b (get regs (suc reg)) None) unused)) ∙ is in let no : ⊥ = cc in no)

-- the registers that are used agree with those of the lines, so that these show them
pub asked_shown : (insns : List Insn) (regs : Regs) (code : List (Option ℕ)) (other : ℕ) → ((reg : ℕ) → window_uses insns reg ≡ true → Agrees regs code reg) →
    (reg : ℕ) (w : Width) (value : ℕ) → reg_value (asked insns regs) reg w ≡ Some value → value ≡ low w (code_number code other reg)
asked_shown insns regs code other agree zero w value is = let same : 0 ≡ value = cc in sym same ∙ zero_low w
asked_shown insns regs code other agree (suc reg) w value is =
    let there = asked_reads insns regs reg w value is in
    code_reads code other (suc reg) w value (agree (suc reg) there.0 w value there.1)

-- and those of the instructions
pub asked_own : (insns : List Insn) (regs : Regs) (v : ℕ → ℕ) → ((reg : ℕ) (w : Width) (value : ℕ) → reg_value regs reg w ≡ Some value → value ≡ low w (v reg)) →
    (reg : ℕ) (w : Width) (value : ℕ) → reg_value (asked insns regs) reg w ≡ Some value → value ≡ low w (v reg)
asked_own insns regs v shown zero w value is = shown zero w value is
asked_own insns regs v shown (suc reg) w value is = shown (suc reg) w value (asked_reads insns regs reg w value is).1

pub asked_first : (symbols : List SymbolAt) (insns : List Insn) (regs : Regs) (memory : List MemByte) (m : RvState) (other : ℕ) → AreAddresses symbols → IsMemory memory → Within memory m.memory →
    ((reg : ℕ) → window_uses insns reg ≡ true → Agrees regs m.regs reg) → IsFirst (code_valuation symbols m other) (first_of symbols (asked insns regs) memory)
asked_first symbols insns regs memory m other words is_memory within agree = record {
  of = record { registers = asked_shown insns regs m.regs other agree; symbols = symbol_is symbols; words = symbol_word symbols words };
  memory_is = first_shows (code_valuation symbols m other) (first_of symbols (asked insns regs) memory) is_memory (λ address byte is. byte_is m.memory address byte (within address byte is));
}

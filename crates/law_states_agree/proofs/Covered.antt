-- What lines need is met, where each of their needs is one of the instructions' and these are met: on a machine of lines beside that of
-- the instructions there is as much, and more.
use Rattle.std.proofs.Common.{◌≡◌, ℕ, zero, suc, ◌+◌, ◌*◌, ◌==◌, ◌&&◌, ◌||◌, nat_le, Bool, true, false, List, [], ◌∷◌, Option, Some, None, refl, sym, ◌∙◌, ap, subst, arith, tests}
use Rattle.std.proofs.lemmas.Bool.Decides.{nat_tests}
use Rattle.std.proofs.lemmas.Slice.Eq.{bytes_eq-Decides}
use Rattle.std.specs.Prelude.{not, if◌then◌else◌, is_some, option_map, option_and_then}
use Rattle.std.specs.List.{All, list_all, list_any}
use Rattle.std.specs.Str.{bytes_eq}
use Rattle.bits64.specs.declared.Width.{Width}
use Rattle.bits64.specs.declared.Width.TheVariants.{W8, W16, W32, W64}
use Rattle.bits64.specs.Words.{bits_of, bytes_of, low}
use Rattle.rtx_tree.specs.declared.machine.SymbolAt.{SymbolAt}
use Rattle.rtx_tree.specs.declared.memories.MemByte.{MemByte}
use Rattle.rtx_tree.specs.Memories.{byte_at}
use Rattle.rtx_tree.specs.declared.function.Insn.{Insn}
use Rattle.run_memory.specs.RunMemory.{load, number_at, is_aligned}
use Rattle.run_memory.specs.Symbols.{symbol_address}
use Rattle.rtl_step.specs.Regs.{Regs, reg_value}
use Rattle.rv_line.specs.Step.{register}
use Rattle.rv_line.specs.declared.state.RvState.{RvState}
use Rattle.term_tree.specs.Tree.{Tree}
use Rattle.term_mean.specs.Meaning.{Valuation, mean}
use Rattle.law_window_runs.specs.Uses.{window_uses}
use Rattle.law_window_runs.specs.Beside.{reads, Agrees, Within}
use Rattle.sym_diff.specs.sym_state.State.{Need, NeedAt, Register, Lost, Access, Divisor, Symbol}
use Rattle.sym_diff.specs.Registers.{same_tree}
use Rattle.sym_diff.specs.Compared.{covers, is_covered}
use Rattle.sym_diff.proofs.sym_term.Steps.{same-is}
use Rattle.law_line_terms.specs.law_insn_terms.Needs.{First, is_met}
use Rattle.law_line_terms.specs.law_insn_terms.Means.{first_of, all_met}
use Rattle.law_line_terms.proofs.law_insn_terms.Used.{IsGoodNeed, IsUsed}
use Rattle.law_states_agree.proofs.Codes.{asked, asked_used}
use Rattle.law_states_agree.proofs.Calls.{both_true}

pub same_terms : (t u : Tree) → same_tree t u ≡ true → t ≡ u
same_terms t u same = (same-is t u).0 same

pub same_width : (w u : Width) → (bits_of w == bits_of u) ≡ true → w ≡ u
same_width W8 W8 is = refl
same_width W16 W16 is = refl
same_width W32 W32 is = refl
same_width W64 W64 is = refl
same_width W8 W16 is = absurd (let no : ⊥ = cc in no)
same_width W8 W32 is = absurd (let no : ⊥ = cc in no)
same_width W8 W64 is = absurd (let no : ⊥ = cc in no)
same_width W16 W8 is = absurd (let no : ⊥ = cc in no)
same_width W16 W32 is = absurd (let no : ⊥ = cc in no)
same_width W16 W64 is = absurd (let no : ⊥ = cc in no)
same_width W32 W8 is = absurd (let no : ⊥ = cc in no)
same_width W32 W16 is = absurd (let no : ⊥ = cc in no)
same_width W32 W64 is = absurd (let no : ⊥ = cc in no)
same_width W64 W8 is = absurd (let no : ⊥ = cc in no)
same_width W64 W16 is = absurd (let no : ⊥ = cc in no)
same_width W64 W32 is = absurd (let no : ⊥ = cc in no)

pub same_reg : (a b : ℕ) → (a == b) ≡ true → a ≡ b
same_reg a b is = grind (arith, nat_tests, is)

pub some_of : (o : Option ℕ) → is_some o ≡ true → (x : ℕ) × (o ≡ Some x)
some_of None is = absurd (let no : ⊥ = cc in no)
some_of (Some x) is = (x, refl)

-- ---- memory that is within another

module _ (memory other : List MemByte) (within : Within memory other) where
  number_by : (address count : ℕ) → (is_some (number_at memory (address + 1) count) ≡ true → is_some (number_at other (address + 1) count) ≡ true) → (byte : Option ℕ) → byte_at memory address ≡ byte →
      is_some (option_and_then (λ byte. option_map (λ rest. byte + 256 * rest) (number_at memory (address + 1) count)) byte) ≡ true →
      is_some (option_and_then (λ byte. option_map (λ rest. byte + 256 * rest) (number_at other (address + 1) count)) (byte_at other address)) ≡ true
  number_by address count rest None is there = absurd (let no : ⊥ = cc in no)
  number_by address count rest (Some byte) is there =
      ap (λ o. is_some (option_and_then (λ byte. option_map (λ rest. byte + 256 * rest) (number_at other (address + 1) count)) o)) (within address byte is)
      ∙ some_mapped (number_at other (address + 1) count) byte (rest (sym (some_mapped_is (number_at memory (address + 1) count) byte) ∙ there))
    where
      some_mapped_is : (o : Option ℕ) (byte : ℕ) → is_some (option_map (λ rest. byte + 256 * rest) o) ≡ is_some o
      some_mapped_is None byte = refl
      some_mapped_is (Some n) byte = refl

      some_mapped : (o : Option ℕ) (byte : ℕ) → is_some o ≡ true → is_some (option_map (λ rest. byte + 256 * rest) o) ≡ true
      some_mapped None byte is = is
      some_mapped (Some n) byte is = refl

  number_within : (count address : ℕ) → is_some (number_at memory address count) ≡ true → is_some (number_at other address count) ≡ true
  number_within zero address there = refl
  number_within (suc count) address there = number_by address count (number_within count (address + 1)) (byte_at memory address) refl there

  pub load_within : (w : Width) (address : ℕ) → is_some (load w memory address) ≡ true → is_some (load w other address) ≡ true
  load_within w address = by (is_aligned w address)
    where
      by : (b : Bool) → is_some (if b then number_at memory address (bytes_of w) else None) ≡ true → is_some (if b then number_at other address (bytes_of w) else None) ≡ true
      by true there = number_within (bytes_of w) address there
      by false there = there

-- ---- a need

module _ (symbols : List SymbolAt) (insns : List Insn) (regs : Regs) (memory : List MemByte) (m : RvState) (v : Valuation) (within : Within memory m.memory)
    (agree : (reg : ℕ) → window_uses insns reg ≡ true → Agrees regs m.regs reg) where
  abbrev few : First
  few = first_of symbols (asked insns regs) memory

  abbrev pub code_first : First
  code_first = record { symbols = symbols; reads = reads m.regs; memory = m.memory }

  read_by : (o : Option ℕ) (w u : Width) → is_some (option_map (low w) o) ≡ true → is_some (option_map (low u) o) ≡ true
  read_by None w u is = is
  read_by (Some n) w u is = refl

  register_met : (reg : ℕ) (w u : Width) → window_uses insns reg ≡ true → is_some (reg_value (asked insns regs) reg w) ≡ true → is_some (reads m.regs reg u) ≡ true
  register_met reg w u used there =
      let value = some_of (reg_value regs reg w) (ap is_some (sym (asked_used insns regs reg w used)) ∙ there) in
      read_by (register m.regs reg) w u (ap is_some (agree reg used w value.0 value.1))

  one_met : (had need : Need) → IsGoodNeed (λ reg. window_uses insns reg ≡ true) had → is_met v few had ≡ true → covers had need ≡ true → is_met v code_first need ≡ true
  one_met (Register reg w) (Register reg' u) used met is =
      let both = both_true (reg == reg') (nat_le (bits_of u) (bits_of w)) is in
      subst (λ r. is_some (reads m.regs r u) ≡ true) (same_reg reg reg' both.0) (register_met reg w u used met)
  one_met (Register reg w) (Lost reg' u) used met is = absurd (let no : ⊥ = cc in no)
  one_met (Register reg w) (Access t u) used met is = absurd (let no : ⊥ = cc in no)
  one_met (Register reg w) (Divisor t) used met is = absurd (let no : ⊥ = cc in no)
  one_met (Register reg w) (Symbol name) used met is = absurd (let no : ⊥ = cc in no)
  one_met (Lost reg w) need used met is = absurd (let no : ⊥ = cc in no)
  one_met (Access t w) (Access u x) used met is =
      let both = both_true (bits_of w == bits_of x) (same_tree t u) is in
      let at : is_some (load w m.memory (mean v t)) ≡ true = load_within memory m.memory within w (mean v t) met in
      subst (λ y. is_some (load y m.memory (mean v u)) ≡ true) (same_width w x both.0) (subst (λ y. is_some (load w m.memory (mean v y)) ≡ true) (same_terms t u both.1) at)
  one_met (Access t w) (Register reg u) used met is = absurd (let no : ⊥ = cc in no)
  one_met (Access t w) (Lost reg u) used met is = absurd (let no : ⊥ = cc in no)
  one_met (Access t w) (Divisor u) used met is = absurd (let no : ⊥ = cc in no)
  one_met (Access t w) (Symbol name) used met is = absurd (let no : ⊥ = cc in no)
  one_met (Divisor t) (Divisor u) used met is = subst (λ y. not (mean v y == 0) ≡ true) (same_terms t u is) met
  one_met (Divisor t) (Register reg u) used met is = absurd (let no : ⊥ = cc in no)
  one_met (Divisor t) (Lost reg u) used met is = absurd (let no : ⊥ = cc in no)
  one_met (Divisor t) (Access u x) used met is = absurd (let no : ⊥ = cc in no)
  one_met (Divisor t) (Symbol name) used met is = absurd (let no : ⊥ = cc in no)
  one_met (Symbol name) (Symbol other) used met is = subst (λ y. is_some (symbol_address symbols y) ≡ true) ((bytes_eq-Decides name other).0 is) met
  one_met (Symbol name) (Register reg u) used met is = absurd (let no : ⊥ = cc in no)
  one_met (Symbol name) (Lost reg u) used met is = absurd (let no : ⊥ = cc in no)
  one_met (Symbol name) (Access u x) used met is = absurd (let no : ⊥ = cc in no)
  one_met (Symbol name) (Divisor u) used met is = absurd (let no : ⊥ = cc in no)

  covered_met : (had : List NeedAt) (need : Need) → All (IsUsed insns) had → all_met v few had ≡ true → is_covered had need ≡ true → is_met v code_first need ≡ true
  covered_met [] need used met is = absurd (let no : ⊥ = cc in no)
  covered_met (n ∷ had) need used met is =
      let both = both_true (is_met v few n.what) (all_met v few had) met in
      by (covers n.what need) refl (covered_met had need (λ k d less. used (suc k) d (omega (arith, less))) both.1) is
    where
      by : (b : Bool) → covers n.what need ≡ b → (is_covered had need ≡ true → is_met v code_first need ≡ true) → (b || is_covered had need) ≡ true → is_met v code_first need ≡ true
      by true here rest is = one_met n.what need (used 0 n (omega arith)) (both_true (is_met v few n.what) (all_met v few had) met).0 here
      by false here rest is = rest is

  -- all needs of lines
  pub all_covered : (had needs : List NeedAt) → All (IsUsed insns) had → all_met v few had ≡ true → list_all (λ n. is_covered had n.what) needs ≡ true → all_met v code_first needs ≡ true
  all_covered had [] used met is = refl
  all_covered had (n ∷ needs) used met is =
      let both = both_true (is_covered had n.what) (list_all (λ n. is_covered had n.what) needs) is in
      ap (λ b. b && all_met v code_first needs) (covered_met had n.what used met both.0) ∙ all_covered had needs used met both.1

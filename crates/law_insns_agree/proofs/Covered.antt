-- What instructions need is met, where each of their needs is one of a window's and these are met: of what the window uses the other
-- machine knows as much.
use Rattle.std.proofs.Common.{◌≡◌, ◌≤◌, ℕ, zero, suc, ◌+◌, ◌==◌, ◌&&◌, ◌||◌, nat_le, Bool, true, false, List, [], ◌∷◌, Option, Some, None, refl, sym, ◌∙◌, ap, subst, arith, tests}
use Rattle.std.proofs.lemmas.Slice.Eq.{bytes_eq-Decides}
use Rattle.std.specs.Prelude.{not, if◌then◌else◌, is_some, option_and_then}
use Rattle.std.specs.FinMap.{get}
use Rattle.std.specs.List.{All, list_all}
use Rattle.bits64.specs.declared.Width.{Width}
use Rattle.bits64.specs.Words.{bits_of, low}
use Rattle.rtx_tree.specs.declared.machine.SymbolAt.{SymbolAt}
use Rattle.rtx_tree.specs.declared.memories.MemByte.{MemByte}
use Rattle.rtx_tree.specs.declared.function.Insn.{Insn}
use Rattle.run_memory.specs.RunMemory.{load}
use Rattle.run_memory.specs.Symbols.{symbol_address}
use Rattle.rtl_step.specs.declared.regs.Known.{Known}
use Rattle.rtl_step.specs.Regs.{Regs, known_in, reg_value}
use Rattle.term_mean.specs.Meaning.{Valuation, mean}
use Rattle.law_states_agree.specs.law_window_runs.Uses.{window_uses}
use Rattle.law_window_kept.specs.Same.{KnownToo}
use Rattle.law_states_agree.specs.sym_state.State.{Need, NeedAt, Register, Lost, Access, Divisor, Symbol}
use Rattle.law_states_agree.specs.sym_diff.Registers.{same_tree}
use Rattle.law_states_agree.specs.sym_diff.Compared.{covers, is_covered}
use Rattle.law_states_agree.specs.law_insn_terms.Needs.{First, is_met}
use Rattle.law_states_agree.specs.law_insn_terms.Means.{first_of, all_met}
use Rattle.law_states_agree.proofs.law_insn_terms.Bools.{both_of}
use Rattle.law_states_agree.proofs.law_insn_terms.Used.{IsGoodNeed, IsUsed}
use Rattle.law_states_agree.proofs.Codes.{asked, asked_used}
use Rattle.law_states_agree.proofs.Covered.{same_terms, same_width, same_reg, some_of}

-- ---- registers

fewer_known : (o : Option Known) (w u : Width) → bits_of u ≤ bits_of w → is_some (option_and_then (known_in w) o) ≡ true → is_some (option_and_then (known_in u) o) ≡ true
fewer_known None w u less is = is
fewer_known (Some k) w u less is = by (nat_le (bits_of w) (bits_of k.width)) (nat_le (bits_of u) (bits_of k.width)) refl refl is
  where
    by : (b c : Bool) → nat_le (bits_of w) (bits_of k.width) ≡ b → nat_le (bits_of u) (bits_of k.width) ≡ c → is_some (if b then Some (low w k.value) else None) ≡ true → is_some (if c then Some (low u k.value) else None) ≡ true
    by b true first second is = refl
    by false false first second is = absurd (let no : ⊥ = cc in no)
    by true false first second is = absurd (omega (arith, at_most, more, less))
      where
        at_most : bits_of w ≤ bits_of k.width
        at_most = grind (arith, tests, first)

        more : bits_of k.width + 1 ≤ bits_of u
        more = grind (arith, tests, second)

fewer_read : (regs : Regs) (reg : ℕ) (w u : Width) → bits_of u ≤ bits_of w → is_some (reg_value regs reg w) ≡ true → is_some (reg_value regs reg u) ≡ true
fewer_read regs zero w u less is = refl
fewer_read regs (suc reg) w u less is = fewer_known (get regs (suc reg)) w u less is

-- ---- a need

module _ (symbols : List SymbolAt) (insns : List Insn) (regs other : Regs) (memory : List MemByte) (v : Valuation) (used : (reg : ℕ) → window_uses insns reg ≡ true → KnownToo regs other reg) where
  abbrev few : First
  few = first_of symbols (asked insns regs) memory

  abbrev others : First
  others = first_of symbols other memory

  register_met : (reg : ℕ) (w u : Width) → bits_of u ≤ bits_of w → window_uses insns reg ≡ true → is_some (reg_value (asked insns regs) reg w) ≡ true → is_some (reg_value other reg u) ≡ true
  register_met reg w u less is_used there =
      let value = some_of (reg_value regs reg w) (ap is_some (sym (asked_used insns regs reg w is_used)) ∙ there) in
      fewer_read other reg w u less (ap is_some (used reg is_used w value.0 value.1))

  one_met : (had need : Need) → IsGoodNeed (λ reg. window_uses insns reg ≡ true) had → is_met v few had ≡ true → covers had need ≡ true → is_met v others need ≡ true
  one_met (Register reg w) (Register reg' u) good met is =
      let both = both_of (reg == reg') (nat_le (bits_of u) (bits_of w)) is in
      let less : bits_of u ≤ bits_of w = grind (arith, tests, both.1) in
      subst (λ r. is_some (reg_value other r u) ≡ true) (same_reg reg reg' both.0) (register_met reg w u less good met)
  one_met (Register reg w) (Lost reg' u) good met is = absurd (let no : ⊥ = cc in no)
  one_met (Register reg w) (Access t u) good met is = absurd (let no : ⊥ = cc in no)
  one_met (Register reg w) (Divisor t) good met is = absurd (let no : ⊥ = cc in no)
  one_met (Register reg w) (Symbol name) good met is = absurd (let no : ⊥ = cc in no)
  one_met (Lost reg w) need good met is = absurd (let no : ⊥ = cc in no)
  one_met (Access t w) (Access u x) good met is =
      let both = both_of (bits_of w == bits_of x) (same_tree t u) is in
      subst (λ y. is_some (load y memory (mean v u)) ≡ true) (same_width w x both.0) (subst (λ y. is_some (load w memory (mean v y)) ≡ true) (same_terms t u both.1) met)
  one_met (Access t w) (Register reg u) good met is = absurd (let no : ⊥ = cc in no)
  one_met (Access t w) (Lost reg u) good met is = absurd (let no : ⊥ = cc in no)
  one_met (Access t w) (Divisor u) good met is = absurd (let no : ⊥ = cc in no)
  one_met (Access t w) (Symbol name) good met is = absurd (let no : ⊥ = cc in no)
  one_met (Divisor t) (Divisor u) good met is = subst (λ y. not (mean v y == 0) ≡ true) (same_terms t u is) met
  one_met (Divisor t) (Register reg u) good met is = absurd (let no : ⊥ = cc in no)
  one_met (Divisor t) (Lost reg u) good met is = absurd (let no : ⊥ = cc in no)
  one_met (Divisor t) (Access u x) good met is = absurd (let no : ⊥ = cc in no)
  one_met (Divisor t) (Symbol name) good met is = absurd (let no : ⊥ = cc in no)
  one_met (Symbol name) (Symbol name') good met is = subst (λ y. is_some (symbol_address symbols y) ≡ true) ((bytes_eq-Decides name name').0 is) met
  one_met (Symbol name) (Register reg u) good met is = absurd (let no : ⊥ = cc in no)
  one_met (Symbol name) (Lost reg u) good met is = absurd (let no : ⊥ = cc in no)
  one_met (Symbol name) (Access u x) good met is = absurd (let no : ⊥ = cc in no)
  one_met (Symbol name) (Divisor u) good met is = absurd (let no : ⊥ = cc in no)

  covered_met : (had : List NeedAt) (need : Need) → All (IsUsed insns) had → all_met v few had ≡ true → is_covered had need ≡ true → is_met v others need ≡ true
  covered_met [] need good met is = absurd (let no : ⊥ = cc in no)
  covered_met (n ∷ had) need good met is =
      let both = both_of (is_met v few n.what) (all_met v few had) met in
      by (covers n.what need) refl (covered_met had need (λ k d less. good (suc k) d (omega (arith, less))) both.1) is
    where
      by : (b : Bool) → covers n.what need ≡ b → (is_covered had need ≡ true → is_met v others need ≡ true) → (b || is_covered had need) ≡ true → is_met v others need ≡ true
      by true here rest is = one_met n.what need (good 0 n (omega arith)) (both_of (is_met v few n.what) (all_met v few had) met).0 here
      by false here rest is = rest is

  -- all needs
  pub all_covered : (had needs : List NeedAt) → All (IsUsed insns) had → all_met v few had ≡ true → list_all (λ n. is_covered had n.what) needs ≡ true → all_met v others needs ≡ true
  all_covered had [] good met is = refl
  all_covered had (n ∷ needs) good met is =
      let both = both_of (is_covered had n.what) (list_all (λ n. is_covered had n.what) needs) is in
      ap (λ b. b && all_met v others needs) (covered_met had n.what good met both.0) ∙ all_covered had needs good met both.1

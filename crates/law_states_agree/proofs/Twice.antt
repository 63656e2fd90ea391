-- Instructions that have a meaning, run again on the registers that they use alone, and there with what a machine of lines holds for a
-- valuation: their symbolic state tells the same of both.
use Rattle.std.proofs.Common.{◌≡◌, ◌≢◌, ℕ, zero, suc, ◌+◌, ◌%◌, ◌^◌, ◌<◌, ◌==◌, ◌&&◌, Bool, true, false, cond, List, [], ◌∷◌, length, Option, Some, None, refl, sym, ◌∙◌, ap, subst, arith}
use Rattle.std.specs.Prelude.{if◌then◌else◌, is_some}
use Rattle.std.specs.List.{All, list_all}
use Rattle.std.specs.FinMap.{get}
use Rattle.bits64.specs.Words.{low}
use Rattle.rtx_tree.specs.declared.machine.RangeAt.{RangeAt}
use Rattle.rtx_tree.specs.declared.machine.SymbolAt.{SymbolAt}
use Rattle.rtx_tree.specs.declared.memories.MemByte.{MemByte}
use Rattle.rtx_tree.specs.Memories.{byte_at}
use Rattle.rtx_tree.specs.declared.function.Insn.{Insn}
use Rattle.rtl_step.specs.declared.regs.Known.{Known}
use Rattle.rtl_step.specs.Regs.{Regs, known_of}
use Rattle.rv_line.specs.declared.state.RvState.{RvState}
use Rattle.same_behaviour.specs.Lawful.{IsMemory, AreAddresses}
use Rattle.term_tree.specs.Tree.{Tree, width_of}
use Rattle.term_mean.specs.Meaning.{Valuation, mean}
use Rattle.term_mean.proofs.SumLaws.{mean-cut}
use Rattle.law_window_runs.specs.Insns.{InsnsCome, insns_come}
use Rattle.law_window_runs.specs.Uses.{window_uses}
use Rattle.law_window_runs.specs.Beside.{Agrees, Within}
use Rattle.sym_diff.specs.sym_state.State.{State, Call, Need, NeedAt, Register, Lost, Access, Divisor, Symbol, Runs}
use Rattle.sym_diff.specs.sym_state.Registers.{held}
use Rattle.law_line_terms.specs.sym_insns.Run.{run}
use Rattle.law_line_terms.specs.law_insn_terms.Needs.{First, is_met}
use Rattle.law_line_terms.specs.law_insn_terms.Shows.{ShowsRegister}
use Rattle.law_line_terms.specs.law_insn_terms.Means.{IsFirst, first_of, all_met, left_at, Means, EndMeans, IsAligned, RunMeans, Comes}
use Rattle.law_line_terms.proofs.law_insn_terms.Runs.{run_means, run_comes}
use Rattle.law_line_terms.proofs.law_insn_terms.Used.{IsGoodNeed, IsUsed, needs_used}
use Rattle.law_states_agree.proofs.Codes.{own_valuation, own_first, asked, asked_used, asked_own, asked_first, code_valuation}

-- a valuation with the same registers, symbols and first memory is one of the same beginning
pub first_moved : (first v : Valuation) (f : First) → IsFirst first f → ((reg : ℕ) → v.reg reg ≡ first.reg reg) → ((name : List ℕ) → v.sym name ≡ first.sym name) →
    ((address : ℕ) → v.memory 0 address ≡ first.memory 0 address) → IsFirst v f
first_moved first v f is regs symbols memory = record {
  of = record {
    registers = λ reg w value there. is.of.registers reg w value there ∙ ap (low w) (sym (regs reg));
    symbols = λ name address there. is.of.symbols name address there ∙ sym (symbols name);
    words = is.of.words;
  };
  memory_is = record {
    bytes = λ address byte there. is.memory_is.bytes address byte there ∙ sym (memory address);
    small = is.memory_is.small;
    words = is.memory_is.words;
    addresses = is.memory_is.addresses;
  };
}

-- ---- needs are met by the registers that are used

module _ (symbols : List SymbolAt) (insns : List Insn) (regs : Regs) (memory : List MemByte) (v : Valuation) where
  same_met : (need : Need) → IsGoodNeed (λ reg. window_uses insns reg ≡ true) need → is_met v (first_of symbols (asked insns regs) memory) need ≡ is_met v (first_of symbols regs memory) need
  same_met (Register reg w) used = ap is_some (asked_used insns regs reg w used)
  same_met (Lost reg w) used = refl
  same_met (Access address w) used = refl
  same_met (Divisor term) used = refl
  same_met (Symbol name) used = refl

  pub asked_met : (needs : List NeedAt) → All (IsUsed insns) needs → all_met v (first_of symbols (asked insns regs) memory) needs ≡ all_met v (first_of symbols regs memory) needs
  asked_met [] used = refl
  asked_met (n ∷ needs) used =
      ap (λ b. b && all_met v (first_of symbols (asked insns regs) memory) needs) (same_met n.what (used 0 n (omega arith)))
      ∙ ap (λ b. is_met v (first_of symbols regs memory) n.what && b) (asked_met needs (λ k d less. used (suc k) d (omega (arith, less))))

-- a call of a run has a target that is a multiple of 4
pub call_aligned : (v : Valuation) (ranges : List RangeAt) (s : State) (call : Option Call) (came : InsnsCome) → EndMeans v ranges s.jump call came → IsAligned v call
call_aligned v ranges s None came ends = tt
call_aligned v ranges s (Some call) came ends = ap (λ n. n % 4) (sym ends.target_is) ∙ ends.aligned

-- a register's term has the same number where the same is known of the register
pub known_same : (v u : Valuation) (t : Tree) → known_of (width_of t) (mean v t) ≡ known_of (width_of t) (mean u t) → mean v t ≡ mean u t
known_same v u t same = sym (mean-cut v t) ∙ ap (λ (k : Known). k.value) same ∙ mean-cut u t

pub shown_same : (v u : Valuation) (f g : First) (regs : Regs) (reg : ℕ) (t : Tree) (o : Option (Option Tree)) → o ≡ Some (Some t) → ShowsRegister v f regs o reg → ShowsRegister u g regs o reg → mean v t ≡ mean u t
shown_same v u f g regs reg t o is first second =
    let a : get regs reg ≡ Some (known_of (width_of t) (mean v t)) = subst (λ o. ShowsRegister v f regs o reg) is first in
    let b : get regs reg ≡ Some (known_of (width_of t) (mean u t)) = subst (λ o. ShowsRegister u g regs o reg) is second in
    let c : Some (known_of (width_of t) (mean v t)) ≡ Some (known_of (width_of t) (mean u t)) = sym a ∙ b in
    known_same v u t (let same : known_of (width_of t) (mean v t) ≡ known_of (width_of t) (mean u t) = cc in same)

module _ (symbols : List SymbolAt) (ranges : List RangeAt) (insns : List Insn) (regs : Regs) (memory : List MemByte) (m : RvState) (s : State) (came : InsnsCome)
    (words : AreAddresses symbols) (is_memory : IsMemory memory) (within : Within memory m.memory) (agree : (reg : ℕ) → window_uses insns reg ≡ true → Agrees regs m.regs reg)
    (runs : run insns ≡ Runs s) (comes : insns_come symbols ranges insns regs memory ≡ Some came) where
  -- by what the instructions' own registers hold
  pub own : RunMeans (own_valuation symbols regs memory) (first_of symbols regs memory) ranges s came
  own = run_means symbols ranges insns regs memory s came (own_valuation symbols regs memory) runs comes (own_first symbols regs memory words is_memory)

  abbrev pub few : First
  few = first_of symbols (asked insns regs) memory

  own_few : IsFirst own.v few
  own_few =
      let own_is = own_first symbols regs memory words is_memory in
      record {
        of = record {
          registers = asked_own insns regs own.v.reg (λ reg w value there. own_is.of.registers reg w value there ∙ ap (low w) (sym (own.same_reg reg)));
          symbols = λ name address there. own_is.of.symbols name address there ∙ sym (own.same_sym name);
          words = own_is.of.words;
        };
        memory_is = record {
          bytes = λ address byte there. own_is.memory_is.bytes address byte there ∙ sym (own.same_memory address);
          small = own_is.memory_is.small;
          words = own_is.memory_is.words;
          addresses = own_is.memory_is.addresses;
        };
      }

  -- the same instructions on the registers that they use
  pub again : Comes own.v few ranges s (insns_come symbols ranges insns (asked insns regs) memory)
  again = run_comes symbols ranges insns (asked insns regs) memory s own.v runs own_few own.means.shows.stored
      (asked_met symbols insns regs memory own.v s.needs (needs_used insns s runs) ∙ own.met) (call_aligned own.v ranges s s.call came own.means.ending)

  -- and by what a machine of lines holds, with another number where a register is unset
  pub coded : (other : ℕ) → RunMeans (code_valuation symbols m other) few ranges s again.come
  coded other = run_means symbols ranges insns (asked insns regs) memory s again.come (code_valuation symbols m other) runs again.comes (asked_first symbols insns regs memory m other words is_memory within agree)

  -- a register's term has the number that the instructions leave
  pub same_number : (other reg : ℕ) (t : Tree) → held s.regs (suc reg) ≡ Some (Some t) → mean (coded other).v t ≡ mean own.v t
  same_number other reg t is =
      shown_same (coded other).v own.v few few (left_at again.come.ending again.come.regs) (suc reg) t (held s.regs (suc reg)) is
      ((coded other).means.shows.registers reg) (again.means.shows.registers reg)

  -- each byte that the instructions leave is the valuation's
  pub same_byte : (other address byte : ℕ) → byte_at came.memory address ≡ Some byte → byte ≡ (coded other).v.memory (length s.stores) address
  same_byte other address byte is =
      let there : is_some (byte_at again.come.memory address) ≡ true =
      again.means.shows.memory_is.addresses address ∙ sym (own.means.shows.memory_is.addresses address) ∙ ap is_some is in
      by (byte_at again.come.memory address) refl there
    where
      by : (o : Option ℕ) → byte_at again.come.memory address ≡ o → is_some o ≡ true → byte ≡ (coded other).v.memory (length s.stores) address
      by None at there = absurd (let no : ⊥ = cc in no)
      by (Some b) at there =
          own.means.shows.memory_is.bytes address byte is
          ∙ sym (again.means.shows.memory_is.bytes address b at)
          ∙ (coded other).means.shows.memory_is.bytes address b at

  pub has_byte : (address : ℕ) → is_some (byte_at came.memory address) ≡ is_some (byte_at memory address)
  has_byte address = own.means.shows.memory_is.addresses address

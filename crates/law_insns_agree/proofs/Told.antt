-- Instructions whose symbolic state agrees with that of a window, run beside it: they have a meaning, and what both symbolic states tell is
-- so, by what the one and by what the other machine holds.
use Rattle.std.proofs.Common.{◌≡◌, ◌≤◌, ℕ, suc, ◌%◌, true, false, List, length, Option, Some, None, refl, sym, ◌∙◌, ap, subst}
use Rattle.std.specs.Prelude.{is_some}
use Rattle.bits64.specs.declared.Width.{Width}
use Rattle.bits64.specs.Words.{bits_of, low}
use Rattle.rtx_tree.specs.declared.machine.RangeAt.{RangeAt}
use Rattle.rtx_tree.specs.declared.machine.SymbolAt.{SymbolAt}
use Rattle.rtx_tree.specs.declared.memories.MemByte.{MemByte}
use Rattle.rtx_tree.specs.Memories.{byte_at}
use Rattle.rtx_tree.specs.declared.function.Insn.{Insn}
use Rattle.rtl_step.specs.Regs.{Regs, reg_value}
use Rattle.law_states_agree.specs.same_behaviour.Lawful.{IsMemory, AreAddresses}
use Rattle.term_tree.specs.Tree.{Tree, width_of}
use Rattle.term_mean.specs.Meaning.{Valuation, mean}
use Rattle.term_mean.specs.Compared.{low_bits}
use Rattle.term_mean.specs.Stores.{Stored}
use Rattle.term_mean.proofs.CutLaws.{low-low}
use Rattle.law_states_agree.specs.law_window_runs.Insns.{InsnsCome, insns_come}
use Rattle.law_states_agree.specs.law_window_runs.Uses.{window_uses}
use Rattle.law_window_kept.specs.Same.{KnownToo}
use Rattle.law_states_agree.specs.sym_state.State.{State, Call, Runs, own_register}
use Rattle.law_states_agree.specs.sym_state.Registers.{held}
use Rattle.law_states_agree.specs.sym_insns.Run.{run}
use Rattle.law_states_agree.specs.law_insn_terms.Needs.{First}
use Rattle.law_states_agree.specs.law_insn_terms.Means.{IsFirst, first_of, left_at, Means, IsAligned, RunMeans, Comes}
use Rattle.law_states_agree.proofs.law_insn_terms.Runs.{run_means, run_comes}
use Rattle.law_states_agree.proofs.law_insn_terms.Used.{needs_used}
use Rattle.law_states_agree.specs.sym_diff.Agree.{Agree, CallsAgree}
use Rattle.law_states_agree.proofs.Behind.{own_mean}
use Rattle.law_states_agree.proofs.Codes.{own_valuation, own_first, asked, asked_own}
use Rattle.law_states_agree.proofs.Twice.{first_moved, asked_met, call_aligned, shown_same}
use Rattle.law_insns_agree.proofs.Numbers.{unknown_differ, other_valuation, other_first, used_first}
use Rattle.law_insns_agree.proofs.Covered.{all_covered}

-- What is known of both. The window was run on its own registers, by a valuation v of these; and again on those that it uses, by v, and by a
-- valuation u of what the other machine holds.
pub record Told (before after : List Insn) (a b : State) (symbols : List SymbolAt) (ranges : List RangeAt) (regs other : Regs) (memory : List MemByte) (came : InsnsCome) : Type 0 where
  pub v : Valuation
  pub u : Valuation
  pub again : InsnsCome
  pub done : InsnsCome
  pub comes : insns_come symbols ranges after other memory ≡ Some done
  pub means : Means v (first_of symbols regs memory) ranges a came
  pub own_means : Means v (first_of symbols (asked before regs) memory) ranges a again
  pub other_means : Means u (first_of symbols (asked before regs) memory) ranges a again
  pub done_means : Means u (first_of symbols other memory) ranges b done
  pub reads : (reg : ℕ) (w : Width) (value : ℕ) → reg_value other reg w ≡ Some value → value ≡ low w (u.reg reg)
  pub numbers : (reg : ℕ) (t : Tree) → held a.regs (suc reg) ≡ Some (Some t) → mean u t ≡ mean v t
  pub known : (reg : ℕ) (t : Tree) (w : Width) → held a.regs (suc reg) ≡ Some (Some t) → low_bits (width_of t) (own_register (suc reg)) ≡ t → bits_of w ≤ bits_of (width_of t) →
      reg_value other (suc reg) w ≡ None → ⊥
  pub bytes : (address byte : ℕ) → byte_at came.memory address ≡ Some byte → byte ≡ u.memory (length a.stores) address

-- two valuations that give a register's own low bits one number
own_same : (v u : Valuation) (reg : ℕ) (t : Tree) (w : Width) → low_bits (width_of t) (own_register reg) ≡ t → bits_of w ≤ bits_of (width_of t) → mean v t ≡ mean u t → low w (v.reg reg) ≡ low w (u.reg reg)
own_same v u reg t w is less same =
    let whole : low (width_of t) (v.reg reg) ≡ low (width_of t) (u.reg reg) =
    sym (own_mean v (width_of t) reg) ∙ ap (mean v) is ∙ same ∙ ap (mean u) (sym is) ∙ own_mean u (width_of t) reg in
    sym (low-low w (width_of t) (v.reg reg) less) ∙ ap (low w) whole ∙ low-low w (width_of t) (u.reg reg) less

aligned_by : (v : Valuation) (first second : Option Call) → CallsAgree false first second → IsAligned v first → IsAligned v second
aligned_by v None None same is = tt
aligned_by v None (Some y) same is = absurd same
aligned_by v (Some x) None same is = absurd same
aligned_by v (Some x) (Some y) same is = ap (λ t. mean v t % 4) (sym same.target) ∙ is

module _ (before after : List Insn) (live : List ℕ) (a b : State) (runs_first : run before ≡ Runs a) (runs_second : run after ≡ Runs b) (agree : Agree false live a b)
    (symbols : List SymbolAt) (ranges : List RangeAt) (regs other : Regs) (memory : List MemByte) (came : InsnsCome)
    (words : AreAddresses symbols) (is_memory : IsMemory memory) (used : (reg : ℕ) → window_uses before reg ≡ true → KnownToo regs other reg)
    (comes : insns_come symbols ranges before regs memory ≡ Some came) where
  abbrev few : First
  few = first_of symbols (asked before regs) memory

  abbrev others : First
  others = first_of symbols other memory

  -- ---- the window, by what its own registers hold

  own : RunMeans (own_valuation symbols regs memory) (first_of symbols regs memory) ranges a came
  own = run_means symbols ranges before regs memory a came (own_valuation symbols regs memory) runs_first comes (own_first symbols regs memory words is_memory)

  own_few : IsFirst own.v few
  own_few =
      let moved = first_moved (own_valuation symbols regs memory) own.v (first_of symbols regs memory) (own_first symbols regs memory words is_memory) own.same_reg own.same_sym own.same_memory in
      record {
        of = record { registers = asked_own before regs own.v.reg moved.of.registers; symbols = moved.of.symbols; words = moved.of.words };
        memory_is = record { bytes = moved.memory_is.bytes; small = moved.memory_is.small; words = moved.memory_is.words; addresses = moved.memory_is.addresses };
      }

  -- on the registers that it uses
  again : Comes own.v few ranges a (insns_come symbols ranges before (asked before regs) memory)
  again = run_comes symbols ranges before (asked before regs) memory a own.v runs_first own_few own.means.shows.stored
      (asked_met symbols before regs memory own.v a.needs (needs_used before a runs_first) ∙ own.met) (call_aligned own.v ranges a a.call came own.means.ending)

  -- by what the other machine holds, with a number in the bits above
  by_other : (above : ℕ) → RunMeans (other_valuation symbols other memory above) few ranges a again.come
  by_other above = run_means symbols ranges before (asked before regs) memory a again.come (other_valuation symbols other memory above) runs_first again.comes
      (used_first symbols before regs other memory above words is_memory used)

  number_same : (above reg : ℕ) (t : Tree) → held a.regs (suc reg) ≡ Some (Some t) → mean (by_other above).v t ≡ mean own.v t
  number_same above reg t is =
      shown_same (by_other above).v own.v few few (left_at again.come.ending again.come.regs) (suc reg) t (held a.regs (suc reg)) is
      ((by_other above).means.shows.registers reg) (again.means.shows.registers reg)

  byte_same : (address byte : ℕ) → byte_at came.memory address ≡ Some byte → byte ≡ (by_other 0).v.memory (length a.stores) address
  byte_same address byte is =
      let there : is_some (byte_at again.come.memory address) ≡ true =
      again.means.shows.memory_is.addresses address ∙ sym (own.means.shows.memory_is.addresses address) ∙ ap is_some is in
      by (byte_at again.come.memory address) refl there
    where
      by : (o : Option ℕ) → byte_at again.come.memory address ≡ o → is_some o ≡ true → byte ≡ (by_other 0).v.memory (length a.stores) address
      by None at there = absurd (let no : ⊥ = cc in no)
      by (Some n) at there =
          own.means.shows.memory_is.bytes address byte is
          ∙ sym (again.means.shows.memory_is.bytes address n at)
          ∙ (by_other 0).means.shows.memory_is.bytes address n at

  -- ---- the instructions

  first_other : IsFirst (by_other 0).v others
  first_other =
      first_moved (other_valuation symbols other memory 0) (by_other 0).v others (other_first symbols other memory 0 words is_memory) (by_other 0).same_reg (by_other 0).same_sym (by_other 0).same_memory

  second : Comes (by_other 0).v others ranges b (insns_come symbols ranges after other memory)
  second = run_comes symbols ranges after other memory b (by_other 0).v runs_second first_other
      (subst (λ stores. Stored (by_other 0).v stores) agree.stores (by_other 0).means.shows.stored)
      (all_covered symbols before regs other memory (by_other 0).v used a.needs b.needs (needs_used before a runs_first) (by_other 0).met agree.needs)
      (aligned_by (by_other 0).v a.call b.call agree.calls (call_aligned (by_other 0).v ranges a a.call again.come (by_other 0).means.ending))

  is_known : (reg : ℕ) (t : Tree) (w : Width) → held a.regs (suc reg) ≡ Some (Some t) → low_bits (width_of t) (own_register (suc reg)) ≡ t → bits_of w ≤ bits_of (width_of t) → reg_value other (suc reg) w ≡ None → ⊥
  is_known reg t w is own_is less none =
      let same : low w ((by_other 0).v.reg (suc reg)) ≡ low w ((by_other 1).v.reg (suc reg)) =
      own_same (by_other 0).v (by_other 1).v (suc reg) t w own_is less (number_same 0 reg t is ∙ sym (number_same 1 reg t is)) in
      unknown_differ other reg w none (ap (low w) (sym ((by_other 0).same_reg (suc reg))) ∙ same ∙ ap (low w) ((by_other 1).same_reg (suc reg)))

  pub tell : Told before after a b symbols ranges regs other memory came
  tell = record {
    v = own.v;
    u = (by_other 0).v;
    again = again.come;
    done = second.come;
    comes = second.comes;
    means = own.means;
    own_means = again.means;
    other_means = (by_other 0).means;
    done_means = second.means;
    reads = first_other.of.registers;
    numbers = number_same 0;
    known = is_known;
    bytes = byte_same;
  }

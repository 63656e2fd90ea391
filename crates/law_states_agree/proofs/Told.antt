-- Lines whose symbolic state agrees with that of instructions, run on a machine beside theirs: they have a meaning, and what both symbolic
-- states tell is so, by what the one and by what the other machine holds.
use Rattle.std.proofs.Common.{◌≡◌, ◌≢◌, ℕ, zero, suc, ◌+◌, ◌%◌, ◌^◌, ◌<◌, ◌==◌, ◌&&◌, ◌||◌, Bool, true, false, List, [], ◌∷◌, length, Option, Some, None, refl, sym, ◌∙◌, ap, subst, arith}
use Rattle.std.specs.Prelude.{if◌then◌else◌, is_some, not, unwrap_or}
use Rattle.std.specs.List.{All, list_all}
use Rattle.bits64.specs.Words.{low}
use Rattle.rtx_tree.specs.declared.machine.RangeAt.{RangeAt}
use Rattle.rtx_tree.specs.declared.machine.SymbolAt.{SymbolAt}
use Rattle.rtx_tree.specs.declared.machine.World.{World}
use Rattle.rtx_tree.specs.declared.memories.MemByte.{MemByte}
use Rattle.rtx_tree.specs.Memories.{byte_at}
use Rattle.rtx_tree.specs.Registers.{is_call_used}
use Rattle.rtx_tree.specs.declared.function.Insn.{Insn}
use Rattle.rtl_step.specs.Regs.{Regs}
use Rattle.rv_text.specs.declared.line.Line.{Line}
use Rattle.rv_line.specs.Step.{register}
use Rattle.rv_line.specs.declared.state.RvState.{RvState}
use Rattle.term_tree.specs.Tree.{Tree, width_of}
use Rattle.term_mean.specs.Meaning.{Valuation, mean}
use Rattle.term_mean.specs.Compared.{low_bits}
use Rattle.term_mean.specs.Stores.{Stored}
use Rattle.law_window_runs.specs.Insns.{InsnsCome, insns_come}
use Rattle.law_window_runs.specs.Insns as insns
use Rattle.law_window_runs.specs.Lines.{LinesCome}
use Rattle.law_window_runs.specs.Beside.{reads}
use Rattle.law_window_runs.specs.Same.{Starts}
use Rattle.sym_diff.specs.sym_state.State.{State, Call, Runs, own_register}
use Rattle.sym_diff.specs.sym_state.Registers.{held}
use Rattle.law_line_terms.specs.sym_insns.Run as insns_run
use Rattle.law_line_terms.specs.sym_lines.Run as lines_run
use Rattle.law_line_terms.specs.law_insn_terms.Needs.{First}
use Rattle.law_line_terms.specs.law_insn_terms.Shows.{ShowsMemory}
use Rattle.law_line_terms.specs.law_insn_terms.Means.{Means, first_of, all_met, IsAligned, RunMeans}
use Rattle.law_line_terms.proofs.law_insn_terms.Firsts.{first_shows}
use Rattle.law_line_terms.specs.ShowsLine.{ShowsNumber, ShowsLine}
use Rattle.law_line_terms.specs.EndsLines.{EndsLines, falls, goes, calls, IsBefore, LinesRun}
use Rattle.sym_diff.specs.Registers.{one_calls, is_passed_over}
use Rattle.sym_diff.specs.Agree.{Agree, CallsAgree}
use Rattle.law_line_terms.proofs.law_insn_terms.Left.{held_left}
use Rattle.law_line_terms.proofs.law_insn_terms.Used.{needs_used}
use Rattle.law_line_terms.proofs.Runs as line_runs
use Rattle.law_states_agree.proofs.Codes.{symbol_is, symbol_word, byte_is, code_is, code_reads, code_valuation, asked}
use Rattle.law_states_agree.proofs.Twice as twice
use Rattle.law_states_agree.proofs.Covered.{all_covered}
use Rattle.law_states_agree.proofs.Covered as covered
use Rattle.law_states_agree.proofs.Behind.{not_missing}
use Rattle.law_states_agree.proofs.Ends.{Left, word_by}

-- what there is before the first line
abbrev pub code_of : List SymbolAt → RvState → First
code_of symbols m = record { symbols = symbols; reads = reads m.regs; memory = m.memory }

-- What is known of both. The instructions were run on their own registers, by a valuation v of these; and again on those that they use, by v, and by
-- valuations of what the lines hold, u and w, which differ where the lines hold nothing.
pub record Told (number : ℕ) (insns : List Insn) (lines : List Line) (a b : State) (world : World) (ranges : List RangeAt) (regs : Regs) (memory : List MemByte) (m : RvState) (came : InsnsCome) :
    Type 0 where
  pub v : Valuation
  pub u : Valuation
  pub w : Valuation
  pub again : InsnsCome
  pub means : Means v (first_of world.symbols regs memory) ranges a came
  pub own_means : Means v (first_of world.symbols (asked insns regs) memory) ranges a again
  pub code_means : Means u (first_of world.symbols (asked insns regs) memory) ranges a again
  pub other_means : Means w (first_of world.symbols (asked insns regs) memory) ranges a again
  pub held_at : (reg n : ℕ) → register m.regs reg ≡ Some n → n ≡ u.reg reg
  pub none_at : (reg : ℕ) → register m.regs reg ≡ None → (u.reg reg ≡ 0) × (w.reg reg ≡ 1)
  pub numbers : (reg : ℕ) (t : Tree) → held a.regs (suc reg) ≡ Some (Some t) → mean u t ≡ mean v t
  pub there : (reg : ℕ) (t : Tree) → held a.regs (suc reg) ≡ Some (Some t) → low_bits (width_of t) (own_register (suc reg)) ≡ t → register m.regs (suc reg) ≡ None → ⊥
  pub bytes : (address byte : ℕ) → byte_at came.memory address ≡ Some byte → byte ≡ u.memory (length a.stores) address
  pub ran : LinesRun u (code_of world.symbols m) m.regs world number lines b m
  pub left : Left u (code_of world.symbols m) m a b ran.done

module _ (number : ℕ) (insns : List Insn) (lines : List Line) (live : List ℕ) (Few : ℕ → Type 0) (a b : State)
    (runs_first : insns_run.run insns ≡ Runs a) (runs_second : lines_run.run number lines ≡ Runs b) (agree : Agree true live a b)
    (world : World) (ranges : List RangeAt) (regs : Regs) (memory : List MemByte) (m : RvState) (came : InsnsCome)
    (starts : Starts insns Few world ranges regs memory m) (comes : insns_come world.symbols ranges insns regs memory ≡ Some came) where
  -- the instructions on the registers that they use, by what the machine of lines holds
  abbrev pub coded : (other : ℕ) → RunMeans (code_valuation world.symbols m other) (first_of world.symbols (asked insns regs) memory) ranges a
      (twice.again world.symbols ranges insns regs memory m a came starts.symbols starts.beside.first starts.beside.within starts.used runs_first comes).come
  coded = twice.coded world.symbols ranges insns regs memory m a came starts.symbols starts.beside.first starts.beside.within starts.used runs_first comes

  abbrev pub by_code : ℕ → Valuation
  by_code other = (coded other).v

  abbrev code_first : First
  code_first = code_of world.symbols m

  pub held_number : (other reg number : ℕ) → register m.regs reg ≡ Some number → number ≡ (by_code other).reg reg
  held_number other reg number is = code_is m.regs other reg number is ∙ sym ((coded other).same_reg reg)

  before : (other : ℕ) → IsBefore (by_code other) code_first world m
  before other = record {
    of = record {
      registers = λ reg w value there. code_reads m.regs other reg w value there ∙ ap (low w) (sym ((coded other).same_reg reg));
      symbols = λ name address there. symbol_is world.symbols name address there ∙ sym ((coded other).same_sym name);
      words = symbol_word world.symbols starts.symbols;
    };
    first = record {
      reads_are = λ reg w. refl;
      words = λ reg n there. (starts.beside.second.words reg n there, held_number other reg n there);
    };
    symbols_are = refl;
    long = starts.beside.second.long;
    memory_is = first_shows (by_code other) code_first starts.beside.second.memory (λ address byte there. byte_is m.memory address byte there ∙ sym ((coded other).same_memory address));
  }

  met : (other : ℕ) → all_met (by_code other) code_first b.needs ≡ true
  met other =
      all_covered world.symbols insns regs memory m (by_code other) starts.beside.within starts.used a.needs b.needs (needs_used insns a runs_first) (coded other).met agree.needs

  aligned_by : (v : Valuation) (first second : Option Call) → CallsAgree true first second → IsAligned v first → IsAligned v second
  aligned_by v None None same is = tt
  aligned_by v None (Some y) same is = absurd same
  aligned_by v (Some x) None same is = absurd same
  aligned_by v (Some x) (Some y) same is = ap (λ t. mean v t % 4) (sym same.target) ∙ is

  -- the lines have a meaning
  pub ran : (other : ℕ) → LinesRun (by_code other) code_first m.regs world number lines b m
  ran other =
      line_runs.lines_run (by_code other) code_first world number lines b m (before other) runs_second
      (subst (λ stores. Stored (by_code other) stores) agree.stores (coded other).means.shows.stored) (met other)
      (aligned_by (by_code other) a.call b.call agree.calls (twice.call_aligned (by_code other) ranges a a.call _ (coded other).means.ending))

  -- ---- what they leave

  left_shown : (other : ℕ) (s : State) (done : LinesCome) → ShowsLine (by_code other) code_first m.regs s done.machine → length s.stores ≡ length b.stores →
      ((reg : ℕ) → is_passed_over (one_calls a b) (suc reg) ≡ false → held s.regs (suc reg) ≡ held b.regs (suc reg)) → Left (by_code other) code_first m a b done
  left_shown other s done shows stores same = record {
    registers = λ reg not_passed. subst (λ left. ShowsNumber (by_code other) m.regs done.machine.regs left (suc reg)) (same reg not_passed) (shows.registers reg);
    long = shows.long;
    words = words;
    memory_is = subst (λ n. ShowsMemory (by_code other) code_first done.machine.memory n) stores shows.memory_is;
  }
    where
      words : (reg n : ℕ) → register done.machine.regs reg ≡ Some n → n < 2 ^ 64
      words zero n is = let same : 0 ≡ n = cc in subst (λ x. x < 2 ^ 64) same (omega arith)
      words (suc reg) n is = word_by (by_code other) m.regs done.machine.regs (suc reg) (held s.regs (suc reg)) (shows.registers reg) (λ k there. starts.beside.second.words (suc reg) k there) n is

  called_used : (reg : ℕ) → (second : Option Call) (call : Call) → second ≡ Some call → ((is_some a.call || is_some second) && is_call_used reg) ≡ false → is_call_used reg ≡ false
  called_used reg second call is passed = by (is_some a.call) (sym (ap (λ (o : Option Call). (is_some a.call || is_some o) && is_call_used reg) is) ∙ passed)
    where
      by : (x : Bool) → ((x || true) && is_call_used reg) ≡ false → is_call_used reg ≡ false
      by true is = is
      by false is = is

  pub left : (other : ℕ) (done : LinesCome) → EndsLines (by_code other) code_first m.regs number b done → Left (by_code other) code_first m a b done
  left other done (falls none nothing shows ends) = left_shown other b done shows refl (λ reg passed. refl)
  left other done (goes text none taken shows target ends) = left_shown other b done shows refl (λ reg passed. refl)
  left other done (calls call state is stays stores regs_are shows ends args) =
      left_shown other state done shows (sym (ap (λ (l : List (Tree × Tree)). length l) stores))
      (λ reg passed. sym (ap (λ l. held l (suc reg)) regs_are ∙ held_left state.regs reg false (called_used (suc reg) b.call call is passed)))

  -- ---- all that is known

  none_number : (other reg : ℕ) → register m.regs reg ≡ None → (by_code other).reg reg ≡ other
  none_number other reg is = (coded other).same_reg reg ∙ ap (λ o. unwrap_or o other) is

  number_same : (other reg : ℕ) (t : Tree) → held a.regs (suc reg) ≡ Some (Some t) →
      mean (by_code other) t ≡ mean (twice.own world.symbols ranges insns regs memory m a came starts.symbols starts.beside.first starts.beside.within starts.used runs_first comes).v t
  number_same = twice.same_number world.symbols ranges insns regs memory m a came starts.symbols starts.beside.first starts.beside.within starts.used runs_first comes

  pub tell : Told number insns lines a b world ranges regs memory m came
  tell =
      let own = twice.own world.symbols ranges insns regs memory m a came starts.symbols starts.beside.first starts.beside.within starts.used runs_first comes in
      let again = twice.again world.symbols ranges insns regs memory m a came starts.symbols starts.beside.first starts.beside.within starts.used runs_first comes in
      record {
        v = own.v;
        u = by_code 0;
        w = by_code 1;
        again = again.come;
        means = own.means;
        own_means = again.means;
        code_means = (coded 0).means;
        other_means = (coded 1).means;
        held_at = held_number 0;
        none_at = λ reg is. (none_number 0 reg is, none_number 1 reg is);
        numbers = number_same 0;
        there = λ reg t is own_is missing. not_missing (by_code 0) (by_code 1) (suc reg) t own_is (none_number 0 (suc reg) missing) (none_number 1 (suc reg) missing) (number_same 0 reg t is ∙ sym (number_same 1 reg t is));
        bytes = twice.same_byte world.symbols ranges insns regs memory m a came starts.symbols starts.beside.first starts.beside.within starts.used runs_first comes 0;
        ran = ran 0;
        left = left 0 (ran 0).done (ran 0).ends;
      }

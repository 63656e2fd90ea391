-- A function does what it did with a window replaced by what is equated with it.
use Rattle.std.proofs.Common.{◌≡◌, ℕ, ◌-◌, true, List}
use Rattle.rtx_tree.specs.declared.function.Insn.{Insn}
use Rattle.rtx_tree.specs.declared.function.Function.{Function}
use Rattle.live.specs.Live.{IsLiveAfter}
use Rattle.new_insns.specs.Replaced.{window, replaced}
use Rattle.equate.specs.sym_diff.Registers.{is_live}
use Rattle.equate.proofs.Soundness.{few_keep}
use Rattle.law_function_kept.specs.Keeps.{Keeps}
use Rattle.law_window_replaced.specs.law_window_kept.Same.{CanReplace}
use Rattle.law_window_replaced.specs.law_window_lines.ForLines.{MarksAreEmpty}
use Rattle.law_window_replaced.specs.Natural.{RegistersAreNatural}
use Rattle.law_window_replaced.proofs.Replacing.{replaced_keeps}
use Rattle.law_window_put.specs.Put.{IsPut}

module _ (f : Function) (first end : ℕ) (new : List Insn) (put : IsPut f first end new) where
  compared : (reg : ℕ) → IsLiveAfter f reg (end - 1) → is_live put.live reg ≡ true
  compared reg lives = (put.are.each reg).1 lives

  pub put_replaces : CanReplace (window f first end) new (λ reg. IsLiveAfter f reg (end - 1))
  put_replaces = few_keep (window f first end) new put.live put.equated (λ reg. IsLiveAfter f reg (end - 1)) compared

  pub window_does : MarksAreEmpty f → RegistersAreNatural f → Keeps f (replaced f first end new)
  window_does marks natural = replaced_keeps f first end new put.order put.within marks natural put_replaces

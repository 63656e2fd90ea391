-- A function does what it did with a sequence in a window's place.
use Rattle.std.proofs.Common.{ℕ, List}
use Rattle.rtx_tree.specs.declared.tree.Rtx.{Rtx}
use Rattle.rtx_tree.specs.declared.function.Insn.{Insn}
use Rattle.rtx_tree.specs.declared.function.Function.{Function}
use Rattle.law_function_kept.specs.Keeps.{Keeps}
use Rattle.law_window_replaced.specs.law_window_lines.ForLines.{MarksAreEmpty}
use Rattle.law_window_replaced.specs.Natural.{RegistersAreNatural}
use Rattle.law_insn_replaced.specs.insn_replace.Replace.{made}
use Rattle.law_window_put.proofs.Does.{window_does}
use Rattle.law_window_made.specs.Made.{with_sequence, IsMadePut}

pub made_does : (f : Function) (first end : ℕ) (last : Insn) (sequence : List Rtx) → IsMadePut f first end last sequence →
    MarksAreEmpty f → RegistersAreNatural f → Keeps f (with_sequence f first end last sequence)
made_does f first end last sequence is marks natural = window_does f first end (made f last sequence) is.put marks natural

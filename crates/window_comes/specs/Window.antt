-- A window of a function replaced by a sequence that is equated with it: GCC Internals, "RTL to RTL
-- Peephole Optimizers".
use Rattle.std.specs.Prelude.{◌≡◌, ℕ, ◌-◌, ◌≤◌, ◌<◌, List, Some, Result, Ok, Err}
use Rattle.rtx_tree.specs.declared.function.Insn.{Insn}
use Rattle.rtx_tree.specs.declared.function.Function.{Function}
use Rattle.rtx_tree.specs.declared.tree.Rtx.{Rtx}
use Rattle.rtx_tree.specs.declared.limit.Limit.TheVariants.{Instructions}
use Rattle.rtx_tree.specs.Limit.{most_made}
use Rattle.rtl_chain.specs.Counts.{instruction_count}
use Rattle.live.specs.Live.{AreLiveAfter}
use Rattle.new_insns.specs.Replaced as windows
use Rattle.insn_replace.specs.Replace.{made}
use Rattle.pass_refusal.specs.equate.Side.{Insns}
use Rattle.pass_refusal.specs.equate.Equated.{verdict}
use Rattle.pass_refusal.specs.Refused.{refused_by}
use Rattle.pass_refusal.specs.declared.refusal.PassRefusal.{PassRefusal}
use Rattle.pass_refusal.specs.declared.refusal.PassRefusal.TheVariants as refusal
use Rattle.law_window_put.specs.Put.{IsPut}

-- how many instructions a function has with a sequence in the place of a window whose last is given
abbrev pub count_with : Function → ℕ → ℕ → Insn → List Rtx → ℕ
count_with f first end last sequence =
    instruction_count (windows.replaced f first end (made f last sequence)).insns

-- What a sequence in the place of a window comes to, by a rule, where the window's first and last
-- instruction are given: the function with it, where that is not too long, and the sequence is
-- equated with the window over what is live behind; else the number of instructions, before any
-- comparison, or what the comparison refuses, which shows the first.
pub data WindowComes (f : Function) (first end : ℕ) (i last : Insn) (rule : List ℕ) (sequence : List Rtx) : Result Function PassRefusal → Type 0 where
  long : most_made < count_with f first end last sequence →
      WindowComes f first end i last rule sequence (Err (refusal.Limit Instructions (count_with f first end last sequence)))
  refused : (live : List ℕ) (e : PassRefusal) → AreLiveAfter f (end - 1) live →
      refused_by i.uid rule (verdict (windows.window f first end) (Insns (made f last sequence)) live) ≡ Some e →
      count_with f first end last sequence ≤ most_made → WindowComes f first end i last rule sequence (Err e)
  replaced : IsPut f first end (made f last sequence) → count_with f first end last sequence ≤ most_made →
      WindowComes f first end i last rule sequence (Ok (windows.replaced f first end (made f last sequence)))

-- a replacement comes to one thing
abbrev pub OneComes : Type 0
OneComes =
    (f : Function) (first end : ℕ) (i last : Insn) (rule : List ℕ) (sequence : List Rtx) (a b : Result Function PassRefusal) →
    WindowComes f first end i last rule sequence a → WindowComes f first end i last rule sequence b → a ≡ b

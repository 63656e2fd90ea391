-- A chain with other instructions in the place of windows of it, each of which can be replaced over
-- what is live behind it: GCC Internals, "Insns" and "Liveness information".
use Rattle.std.specs.Prelude.{ℕ, ◌+◌, ◌-◌, ◌<◌, List, [], ◌∷◌, ◌++◌, length}
use Rattle.rtx_tree.specs.declared.function.Function.{Function}
use Rattle.rtx_tree.specs.declared.function.Insn.{Insn}
use Rattle.live.specs.Live.{IsLiveAfter}
use Rattle.law_window_kept.specs.Same.{CanReplace}

-- the rest of the function's chain from a place on, and the rest of the other: instructions that
-- stay, and windows
pub data AreReplaced (f : Function) : ℕ → List Insn → List Insn → Type 0 where
  end : (place : ℕ) → AreReplaced f place [] []
  stays : (place : ℕ) (i : Insn) (xs ys : List Insn) → AreReplaced f (place + 1) xs ys →
      AreReplaced f place (i ∷ xs) (i ∷ ys)
  window : (place : ℕ) (before after xs ys : List Insn) → 0 < length before →
      CanReplace before after (λ reg. IsLiveAfter f reg (place + length before - 1)) →
      AreReplaced f (place + length before) xs ys → AreReplaced f place (before ++ xs) (after ++ ys)

-- What is asked of a function for which lines stand: GCC Internals, "Insns" (labels and barriers
-- hold nothing).
use Rattle.std.specs.Prelude.{◌≡◌, ℕ, true, false, Some, slice_get}
use Rattle.rtx_tree.specs.declared.function.Insn.{Insn}
use Rattle.rtx_tree.specs.declared.function.Function.{Function}
use Rattle.rtl_step.specs.Step.{is_mark}
use Rattle.reg_uses.specs.Effects.{pattern_defines}

-- labels and barriers define nothing
abbrev pub MarksAreEmpty : Function → Type 0
MarksAreEmpty f =
    (place reg : ℕ) (i : Insn) → slice_get f.insns place ≡ Some i → is_mark i.kind ≡ true →
    pattern_defines reg i.pattern ≡ false

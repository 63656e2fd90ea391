-- What lowering makes of comparisons of values in SI: their sign extensions are compared. GCC
-- Internals, "Standard Pattern Names For Generation" (`cstoreMODE4`, `cbranchMODE4`).
use Rattle.std.specs.Prelude.{◌≡◌, ◌<◌, ◌^◌, ℕ, ◌+◌, true, List, [], ◌∷◌}
use Rattle.rtx_tree.specs.declared.code.Code.TheVariants.{SignExtend}
use Rattle.rtx_tree.specs.declared.code.Mode.{Mode}
use Rattle.rtx_tree.specs.declared.code.Mode.TheVariants.{SI, DI}
use Rattle.rtx_tree.specs.declared.function.Insn.{Insn}
use Rattle.rtx_tree.specs.declared.tree.Rtx.{Rtx}
use Rattle.rtx_tree.specs.Patterns.{set_rtx}
use Rattle.rtx_tree.specs.Tree.{node_of}
use Rattle.rtl_func.specs.Calls.{has_argument}
use Rattle.md_operand.specs.Operand.{accepts, is_constant, is_comparison}
use Rattle.md_operand.specs.declared.built_in.BuiltIn.TheVariants as own
use Rattle.lower_insn.specs.Lowered.{InsnAnswer, InsnLowers}
use Rattle.plain_forms.specs.Forms.{plain_forms}
use Rattle.law_plain_leaves.specs.Machine.{Throughout, AreShaped, ArePrintable}
use Rattle.law_plain_matched.specs.Matched.{IsConstantOf, Register, is_word, of_operands}
use Rattle.law_plain_planned.specs.Planned.{new, branch_on, Expands}

-- ---- what a comparison is for

pub data Comparing : Type 0 where
  -- a register of a mode is set to it
  value : (m : Mode) (target test : Rtx) → is_word m ≡ true → Register m target → accepts own.Comparison m test ≡ true → Comparing
  -- it leads to a label
  branch : (test uid : Rtx) → is_constant uid ≡ true → is_comparison test ≡ true → Comparing

-- the instruction, where these are compared
abbrev pub comparing : Comparing → Rtx → Rtx → Rtx
comparing (Comparing.value m target test word is compares) a b = set_rtx target (of_operands test a b)
comparing (Comparing.branch test uid label compares) a b = branch_on (of_operands test a b) uid

-- ---- what stands in its place

abbrev pub extends : Rtx → Rtx
extends a = node_of SignExtend DI (a ∷ [])

-- the extensions of two values in the new registers from a number on, which are compared
abbrev pub widened : ℕ → Comparing → Rtx → Rtx → List Rtx
widened next c a b =
    set_rtx (new DI next) (extends a) ∷ set_rtx (new DI (next + 1)) (extends b) ∷ comparing c (new DI next) (new DI (next + 1)) ∷ []

pub data IsWidened (next : ℕ) : Rtx → List Rtx → Type 0 where
  registers : (c : Comparing) (a b : Rtx) → Register SI a → Register SI b → IsWidened next (comparing c a b) (widened next c a b)
  constant : (c : Comparing) (a k : Rtx) → Register SI a → IsConstantOf SI k →
      IsWidened next (comparing c a k) (set_rtx (new SI next) k ∷ widened (next + 1) c a (new SI next))

-- ---- the law

abbrev pub PlainWidens : Type 0
PlainWidens =
    (i : Insn) (greatest next : ℕ) (sequence : List Rtx) (answer : InsnAnswer) → IsWidened next i.pattern sequence → next + 2 < 2 ^ 62 →
    AreShaped i.pattern → ArePrintable i.pattern → Throughout has_argument i.pattern → InsnLowers plain_forms i greatest next answer → Expands answer sequence

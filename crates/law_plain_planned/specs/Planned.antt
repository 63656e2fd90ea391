-- What lowering makes of the instructions of the plain profile that it expands, by the form of a
-- standard name: GCC Internals, "Standard Pattern Names For Generation".
use Rattle.std.specs.Prelude.{◌≡◌, ◌<◌, ◌^◌, ◌⊎◌, ℕ, pos, true, List, [], ◌∷◌, Some, None, Ok}
use Rattle.rtx_tree.specs.declared.code.Code.{Code}
use Rattle.rtx_tree.specs.declared.code.Code.TheVariants.{Pc}
use Rattle.rtx_tree.specs.declared.code.Mode.{Mode}
use Rattle.rtx_tree.specs.declared.code.Mode.TheVariants.{Void, DI}
use Rattle.rtx_tree.specs.declared.function.Insn.{Insn}
use Rattle.rtx_tree.specs.declared.tree.Rtx.{Rtx}
use Rattle.rtx_tree.specs.Patterns.{set_rtx}
use Rattle.rtx_tree.specs.Registers.{pseudo}
use Rattle.rtx_tree.specs.Tree.{reg_of, leaf_of, node_of}
use Rattle.rtl_func.specs.Calls.{has_argument}
use Rattle.md_operand.specs.Operand.{is_constant, is_comparison}
use Rattle.lower_insn.specs.Lowered.{InsnAnswer, InsnLowers}
use Rattle.plain_forms.specs.Forms.{plain_forms}
use Rattle.law_plain_leaves.specs.Machine.{Throughout, ArePrintable}
use Rattle.law_plain_matched.specs.Matched.{IsNonzero, IsConstantOf, Register, Memory, is_some_mode, is_word, takes_registers, choice, of_operands}

-- the first new register
abbrev pub new : Mode → ℕ → Rtx
new m next = reg_of m (pseudo next)

-- a branch to a label, where a test holds
abbrev pub branch_on : Rtx → Rtx → Rtx
branch_on test uid = set_rtx (leaf_of Pc Void (pos 0)) (choice test uid)

-- ---- those that set one register before

pub data IsPlanned (next : ℕ) : Rtx → List Rtx → Type 0 where
  stored : (m : Mode) (place c : Rtx) → is_some_mode m ≡ true → Memory m place → IsNonzero m c →
      IsPlanned next (set_rtx place c) (set_rtx (new m next) c ∷ set_rtx place (new m next) ∷ [])
  computed : (c : Code) (m : Mode) (target a k : Rtx) → takes_registers c ≡ true → is_word m ≡ true → Register m target → Register m a → IsConstantOf m k →
      IsPlanned next (set_rtx target (node_of c m (a ∷ k ∷ []))) (set_rtx (new m next) k ∷ set_rtx target (node_of c m (a ∷ new m next ∷ [])) ∷ [])
  branched : (test a k uid : Rtx) → is_constant uid ≡ true → is_comparison test ≡ true → Register DI a → IsNonzero DI k →
      IsPlanned next (branch_on (of_operands test a k) uid) (set_rtx (new DI next) k ∷ branch_on (of_operands test a (new DI next)) uid ∷ [])

-- ---- the law

-- it stays, or these stand in its place
abbrev pub Expands : InsnAnswer → List Rtx → Type 0
Expands answer sequence = (answer ≡ Ok None) ⊎ ((form : ℕ) × (answer ≡ Ok (Some (record { form = form; sequence = sequence }))))

abbrev pub PlainExpands : Type 0
PlainExpands =
    (i : Insn) (greatest next : ℕ) (sequence : List Rtx) (answer : InsnAnswer) → IsPlanned next i.pattern sequence → next < 2 ^ 62 →
    ArePrintable i.pattern → Throughout has_argument i.pattern → InsnLowers plain_forms i greatest next answer → Expands answer sequence

-- Which instructions of the plain profile a plain form matches before registers have homes, and which
-- lowering makes by the form of a standard name: GCC Internals, "Standard Pattern Names For
-- Generation".
use Rattle.std.specs.Prelude.{◌≡◌, ◌⊎◌, ℕ, ℤ, zero, pos, true, false, Bool, [], ◌∷◌, None, Ok}
use Rattle.rtx_tree.specs.declared.code.Code.{Code}
use Rattle.rtx_tree.specs.declared.code.Code.TheVariants as code
use Rattle.rtx_tree.specs.declared.code.Mode.{Mode}
use Rattle.rtx_tree.specs.declared.code.Mode.TheVariants.{Void, SI, DI}
use Rattle.rtx_tree.specs.declared.function.Insn.{Insn}
use Rattle.rtx_tree.specs.declared.tree.Rtx.{Rtx}
use Rattle.rtx_tree.specs.Patterns.{set_rtx}
use Rattle.rtx_tree.specs.Tree.{head_of, tree_of, leaf_of, node_of, const_of}
use Rattle.md_operand.specs.Operand.{accepts, is_comparison, is_constant, is_extended}
use Rattle.md_operand.specs.declared.built_in.BuiltIn.TheVariants as own
use Rattle.lower_insn.specs.Lowered.{IsMatched, is_note_tree, InsnAnswer, InsnLowers}
use Rattle.plain_forms.specs.Forms.{plain_forms}
use Rattle.plain_shape.specs.Plain.{is_plain, register_or_constant}
use Rattle.law_plain_leaves.specs.Machine.{AreShaped, ArePrintable}

-- ---- a constant

abbrev pub is_nought : ℤ → Bool
is_nought (pos zero) = true
is_nought _ = false

-- a tree is a constant of a mode
pub record IsConstantOf (m : Mode) (x : Rtx) : Type 0 where
  pub value : ℤ
  pub within : is_extended m value ≡ true
  pub is : x ≡ const_of value

-- other than 0
pub record IsNonzero (m : Mode) (x : Rtx) : Type 0 where
  pub constant : IsConstantOf m x
  pub other : is_nought constant.value ≡ false

-- ---- what lowering makes by a standard name

-- a register and a constant, by an operation that takes no constant
abbrev pub takes_registers : Code → Bool
takes_registers code.Minus = true
takes_registers code.Mult = true
takes_registers code.Div = true
takes_registers code.Udiv = true
takes_registers code.Mod = true
takes_registers code.Umod = true
takes_registers _ = false

abbrev pub is_word : Mode → Bool
is_word SI = true
is_word DI = true
is_word _ = false

-- a mode, and not none
abbrev pub is_some_mode : Mode → Bool
is_some_mode Void = false
is_some_mode _ = true

-- (if_then_else TEST (label_ref UID) (pc))
abbrev pub choice : Rtx → Rtx → Rtx
choice test uid = node_of code.IfThenElse Void (test ∷ node_of code.LabelRef Void (uid ∷ []) ∷ leaf_of code.Pc Void (pos 0) ∷ [])

-- the comparison that a tree is, of other operands
abbrev pub of_operands : Rtx → Rtx → Rtx → Rtx
of_operands test a b = tree_of (head_of test) (a ∷ b ∷ [])

abbrev pub Register : Mode → Rtx → Type 0
Register m x = accepts own.Register m x ≡ true

abbrev pub Memory : Mode → Rtx → Type 0
Memory m x = accepts own.Memory m x ≡ true

abbrev pub Either : Mode → Rtx → Type 0
Either m x = register_or_constant m x ≡ true

pub data IsExpanded (x : Rtx) : Type 0 where
  stores : (m : Mode) (place c : Rtx) → is_some_mode m ≡ true → Memory m place → IsNonzero m c → x ≡ set_rtx place c → IsExpanded x
  computes : (c : Code) (m : Mode) (target a k : Rtx) → takes_registers c ≡ true → is_word m ≡ true → Register m target → Register m a → IsConstantOf m k →
      x ≡ set_rtx target (node_of c m (a ∷ k ∷ [])) → IsExpanded x
  branches : (test a k uid : Rtx) → is_constant uid ≡ true → is_comparison test ≡ true → Register DI a → IsNonzero DI k →
      x ≡ set_rtx (leaf_of code.Pc Void (pos 0)) (choice (of_operands test a k) uid) → IsExpanded x
  compares_narrow : (m : Mode) (target test a b : Rtx) → is_word m ≡ true → Register m target → accepts own.Comparison m test ≡ true → Register SI a → Either SI b →
      x ≡ set_rtx target (of_operands test a b) → IsExpanded x
  branches_narrow : (test a b uid : Rtx) → is_constant uid ≡ true → is_comparison test ≡ true → Register SI a → Either SI b →
      x ≡ set_rtx (leaf_of code.Pc Void (pos 0)) (choice (of_operands test a b) uid) → IsExpanded x

-- ---- the law

abbrev pub PlainMatches : Type 0
PlainMatches =
    (x : Rtx) → is_plain x ≡ true → AreShaped x → ArePrintable x →
    IsMatched plain_forms x ⊎ ((is_note_tree x ≡ true) ⊎ IsExpanded x)

-- lowering leaves a plain instruction as it is, or it is one of those
abbrev pub PlainStays : Type 0
PlainStays =
    (i : Insn) (greatest next : ℕ) (answer : InsnAnswer) → is_plain i.pattern ≡ true → AreShaped i.pattern → ArePrintable i.pattern →
    InsnLowers plain_forms i greatest next answer → (answer ≡ Ok None) ⊎ IsExpanded i.pattern

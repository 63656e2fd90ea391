-- What an instruction and its effects become where its registers have homes: GCC Internals, "RTL
-- passes" (reload) and "Side Effect Expressions".
use Rattle.std.specs.List.{list_all}
use Rattle.std.specs.Prelude.{◌≡◌, ◌⊎◌, ◌+◌, ◌&&◌, ℕ, ℤ, pos, negsuc, Bool, true, false, List, [], ◌∷◌, Some, slice_get}
use Rattle.bits64.specs.declared.Width.{Width}
use Rattle.rtx_tree.specs.Registers.{virtual_stack_vars}
use Rattle.rtx_tree.specs.Tree.{head_of, kids_of, mentions_reg}
use Rattle.rtx_tree.specs.declared.code.Code.{Code}
use Rattle.rtx_tree.specs.declared.code.Code.TheVariants.{Reg, IfThenElse, Set}
use Rattle.rtx_tree.specs.declared.function.Function.{Function}
use Rattle.rtx_tree.specs.declared.function.Insn.{Insn}
use Rattle.rtx_tree.specs.declared.function.Kind.TheVariants.{Jump, Call}
use Rattle.rtx_tree.specs.declared.tree.Rtx.{Rtx}
use Rattle.rtx_tree.specs.declared.tree.Rtx.TheFolds.{fold-Rtx}
use Rattle.rtx_tree.specs.declared.tree.Rtx.TheOpen.{Rtx-F}
use Rattle.rtl_step.specs.Regs.{known_of}
use Rattle.rtl_step.specs.declared.effect.Effect.{Effect}
use Rattle.rtl_step.specs.declared.effect.Effect.TheVariants.{Nothing, Sets, Unsets, Stores}
use Rattle.rtl_step.specs.declared.regs.Known.{Known}
use Rattle.reg_uses.specs.Uses.{insn_defines, has_argument}
use Rattle.rtl_func.specs.Calls.{is_argument}
use Rattle.md_operand.specs.Addresses.{is_constant, is_any}
use Rattle.law_window_lines.specs.ForLines.{MarksAreEmpty}
use Rattle.assign.specs.declared.home.Home.TheVariants.{Hard, Slot}
use Rattle.assign.specs.declared.home.HomeOf.{HomeOf}
use Rattle.assign.specs.declared.places.Layout.{Layout}
use Rattle.reload_homes.specs.FrameRefs.{framed}
use Rattle.reload_homes.specs.Homes.{home_of, homed, slot_offset}
use Rattle.law_homes.specs.Stands.{has_home}

-- ---- instructions

-- a tree with its frame references put in, and then the homes of its registers
abbrev pub placed : List HomeOf → Layout → Rtx → Rtx
placed homes layout x = homed homes layout (framed layout.size x)

-- the number of a register is a natural one
abbrev pub is_sized : Code → ℤ → Bool
is_sized Reg (pos number) = true
is_sized Reg (negsuc number) = false
is_sized _ number = true

abbrev pub sized_step : Rtx-F Bool → Bool
sized_step x = is_sized x.code x.number && list_all (λ here. here) x.kids

-- each number in a tree has its size
abbrev pub all_sized : Rtx → Bool
all_sized = fold-Rtx Bool sized_step

-- the label that a jump goes to, in (set (pc) LABEL) and in (set (pc) (if_then_else TEST LABEL
-- (pc)))
abbrev pub source_label : Code → List Rtx → Rtx → Rtx
source_label IfThenElse (test ∷ label ∷ other ∷ []) source = label
source_label _ kids source = source

abbrev pub label_by : Code → List Rtx → Rtx → Rtx
label_by Set (place ∷ source ∷ []) x = source_label (head_of source).code (kids_of source) source
label_by _ kids x = x

-- a label whose parts are constants: (label_ref UID)
abbrev pub names_constant : Rtx → Bool
names_constant label = list_all (is_constant is_any) (kids_of label)

-- What is asked of a function: its numbers have their sizes; of the hard registers it names a0 to
-- a7 alone, which alone its calls are handed, and virtual-stack-vars, which it changes nowhere;
-- labels are told by constants, and labels and barriers define nothing.
pub record CanBePlaced (f : Function) : Type 0 where
  pub sized : (place : ℕ) (i : Insn) → slice_get f.insns place ≡ Some i → all_sized i.pattern ≡ true
  pub named : (place reg : ℕ) (i : Insn) → slice_get f.insns place ≡ Some i →
      mentions_reg reg i.pattern ≡ true →
      (reg ≡ virtual_stack_vars) ⊎ (has_home reg ≡ true)
  pub passed : (place reg : ℕ) (i : Insn) → slice_get f.insns place ≡ Some i → i.kind ≡ Call →
      has_argument reg i.uses ≡ true →
      is_argument reg ≡ true
  pub vars : (place : ℕ) (i : Insn) → slice_get f.insns place ≡ Some i →
      insn_defines i virtual_stack_vars ≡ false
  pub labels : (place : ℕ) (i : Insn) → slice_get f.insns place ≡ Some i → i.kind ≡ Jump →
      names_constant (label_by (head_of i.pattern).code (kids_of i.pattern) i.pattern) ≡ true
  pub marks : MarksAreEmpty f

-- ---- effects

-- What an effect becomes, where the frame has this lowest address: a register that is set is set in
-- its home, which is a store of as many bits where that is a slot; one that is unset is unset, or
-- its slot is left; a store stays.
pub data BecomesInHomes (homes : List HomeOf) (layout : Layout) (base : ℕ) : Effect → Effect → Type 0 where
  sets : (reg hard : ℕ) (known : Known) → home_of homes reg ≡ Hard hard →
      BecomesInHomes homes layout base (Sets reg known) (Sets hard known)
  fills : (reg : ℕ) (w : Width) (value : ℕ) → home_of homes reg ≡ Slot →
      BecomesInHomes homes layout base (Sets reg (known_of w value)) (Stores w (base + slot_offset layout reg) value)
  unsets : (reg hard : ℕ) → home_of homes reg ≡ Hard hard →
      BecomesInHomes homes layout base (Unsets reg) (Unsets hard)
  leaves : (reg : ℕ) → home_of homes reg ≡ Slot →
      BecomesInHomes homes layout base (Unsets reg) Nothing
  stores : (w : Width) (at value : ℕ) →
      BecomesInHomes homes layout base (Stores w at value) (Stores w at value)
  nothing : BecomesInHomes homes layout base Nothing Nothing

-- each of some effects, in order
pub data AllInHomes (homes : List HomeOf) (layout : Layout) (base : ℕ) : List Effect → List Effect → Type 0 where
  none : AllInHomes homes layout base [] []
  one_more : (e e' : Effect) (es es' : List Effect) → BecomesInHomes homes layout base e e' →
      AllInHomes homes layout base es es' →
      AllInHomes homes layout base (e ∷ es) (e' ∷ es')

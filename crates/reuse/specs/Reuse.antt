-- Values that a basic block computes again, and registers that it sets in vain: GCC Internals,
-- "Passes and Files of the Compiler" (common subexpression elimination, dead code elimination).
-- Of two instructions that set a register to one expression the second takes the register of the
-- first. A set of a register that is dead behind it goes.
use Rattle.std.specs.Prelude.{◌≡◌, ◌⊎◌, ℕ, zero, suc, ℤ, pos, ◌+◌, ◌<◌, ◌≤◌, Bool, true, false, ◌&&◌, ◌||◌, not, List, [], ◌∷◌, ◌++◌, Option, Some, None, if◌then◌else◌, slice_get}
use Rattle.std.specs.List.{list_any, list_all}
use Rattle.rtx_tree.specs.declared.code.Code.{Code}
use Rattle.rtx_tree.specs.declared.code.Code.TheVariants.{Reg, Set}
use Rattle.rtx_tree.specs.declared.code.Mode.{Mode}
use Rattle.rtx_tree.specs.declared.tree.Rtx.{Rtx}
use Rattle.rtx_tree.specs.declared.tree.Rtx.TheOpen.{Rtx-F}
use Rattle.rtx_tree.specs.declared.tree.Rtx.TheFolds.{fold-Rtx}
use Rattle.rtx_tree.specs.declared.function.Kind.{Kind}
use Rattle.rtx_tree.specs.declared.function.Kind.TheVariants.{Plain, Barrier}
use Rattle.rtx_tree.specs.declared.function.Insn.{Insn}
use Rattle.rtx_tree.specs.declared.function.Function.{Function}
use Rattle.rtx_tree.specs.Limit.{most_reused}
use Rattle.rtx_tree.specs.Patterns.{with_pattern}
use Rattle.rtx_tree.specs.Tree.{head_of, kids_of, mentions_reg, reg_of, replaced_at}
use Rattle.reg_uses.specs.Uses.{insn_defines}
use Rattle.mem_uses.specs.Memory.{has_memory, stores}
use Rattle.live.specs.Live.{IsLiveAfter}
use Rattle.new_insns.specs.Replaced.{window, replaced}
use Rattle.insn_fuse.specs.Fused.{set_of}
use Rattle.std_name.specs.Operands.{is_leaf, is_vars}
use Rattle.form_needs.specs.Needs.{lower_facts}
use Rattle.md_match.specs.Pattern.{Ops}
use Rattle.md_forms.specs.declared.form.Entry.{Entry}
use Rattle.md_desc.specs.Recog.{MatchesAt}
use Rattle.equate.specs.Side.{Insns}
use Rattle.equate.specs.Equated.{Equated}

-- ---- plain sets of a register

abbrev pub is_reg_code : Code → Bool
is_reg_code Reg = true
is_reg_code _ = false

abbrev pub set_mode_by : Kind → Code → List Rtx → Option Mode
set_mode_by Plain Set (target ∷ source ∷ []) =
    if is_reg_code (head_of target).code then Some (head_of target).mode else None
set_mode_by _ _ parts = None

-- the mode of the register of which an instruction is a plain set
abbrev pub set_mode : Insn → Option Mode
set_mode i = set_mode_by i.kind (head_of i.pattern).code (kids_of i.pattern)

-- what an instruction sets its place to
abbrev pub source_of : Insn → Option Rtx
source_of i = slice_get (kids_of i.pattern) 1

-- the instruction with a register as what it sets its place to
abbrev pub reusing : Mode → ℕ → Insn → Insn
reusing mode reg i = with_pattern i (replaced_at (1 ∷ []) (reg_of mode reg) i.pattern)

-- it is more than an operand of a move: no register, no low part of one, no memory, no constant and
-- no symbol; the address of the locals is more, too
abbrev pub is_computed : Rtx → Bool
is_computed x = not (is_leaf x) || is_vars x

-- ---- what an expression asks of the instructions from the first up to the second

abbrev pub defined_by : Insn → Code → ℤ → Bool
defined_by i Reg (pos reg) = insn_defines i reg
defined_by i _ number = false

abbrev pub defined_step : Insn → Rtx-F Bool → Bool
defined_step i x = defined_by i x.code x.number || list_any (λ here. here) x.kids

-- an instruction defines a register that stands in an expression
abbrev pub defines_part : Insn → Rtx → Bool
defines_part i = fold-Rtx Bool (defined_step i)

-- no label, no jump and no call
abbrev pub stands_between : Kind → Bool
stands_between Plain = true
stands_between Barrier = true
stands_between _ = false

-- an instruction leads on to the next alone, and leaves what an expression is worth
abbrev pub keeps : Rtx → Insn → Bool
keeps source i =
    stands_between i.kind && (not (defines_part i source) && not (has_memory source && stores i))

-- an instruction leaves a register alone
abbrev pub leaves : ℕ → Insn → Bool
leaves reg i = not (insn_defines i reg)

-- ---- a repeated value

-- The first is a plain set of a pseudo register, the second one of a register of the same mode, and
-- both set it to the same expression, which is computed and does not mention the first's register.
pub record SetAgain (one other : Insn) (register : ℕ) (mode : Mode) (source : Rtx) : Type 0 where
  pub sets : set_of one ≡ Some register
  pub in_mode : set_mode one ≡ Some mode
  pub again_in : set_mode other ≡ Some mode
  pub sets_to : source_of one ≡ Some source
  pub again_to : source_of other ≡ Some source
  pub computed : is_computed source ≡ true
  pub apart : mentions_reg register source ≡ false

-- Between the two no register of the expression is defined, nothing is stored where it has memory,
-- and the first's register stays.
pub record StaysKnown (one : Insn) (between : List Insn) (register : ℕ) (source : Rtx) : Type 0 where
  pub kept : list_all (keeps source) (one ∷ between) ≡ true
  pub alone : list_all (leaves register) between ≡ true

-- some form matches an instruction
pub record IsFormed (forms : List Entry) (i : Insn) : Type 0 where
  pub form : ℕ
  pub operands : Ops
  pub matches : MatchesAt forms lower_facts i.pattern form operands

-- instructions are equated with others over every register
abbrev pub EquatedOverAll : List Insn → List Insn → Type 0
EquatedOverAll old new = (live : List ℕ) → Equated old (Insns new) live

-- The last of some instructions repeats the value of the first, and can take its register.
pub record Repeats (forms : List Entry) (one : Insn) (between : List Insn) (other new : Insn) :
    Type 0 where
  pub register : ℕ
  pub mode : Mode
  pub source : Rtx
  pub again : SetAgain one other register mode source
  pub known : StaysKnown one between register source
  pub makes : new ≡ reusing mode register other
  pub formed : IsFormed forms new
  pub equated : EquatedOverAll (one ∷ (between ++ other ∷ [])) (one ∷ (between ++ new ∷ []))

-- two places of a function with a repeated value, and the instruction that then stands at the
-- second
pub record RepeatsAt (forms : List Entry) (f : Function) (first second : ℕ) (new : Insn) :
    Type 0 where
  pub before : first < second
  pub near : second ≤ first + most_reused
  pub one : Insn
  pub other : Insn
  pub at_first : slice_get f.insns first ≡ Some one
  pub at_second : slice_get f.insns second ≡ Some other
  pub repeats : Repeats forms one (window f (first + 1) second) other new

abbrev pub NoneRepeats : List Entry → Function → Type 0
NoneRepeats forms f =
    (first second : ℕ) (new : Insn) → RepeatsAt forms f first second new → ⊥

-- of the repeated values the one whose second stands first, and of these the one whose first stands
-- last
pub record IsNextRepeat (forms : List Entry) (f : Function) (first second : ℕ) (new : Insn) :
    Type 0 where
  pub repeats : RepeatsAt forms f first second new
  pub chosen : (i j : ℕ) (n : Insn) → RepeatsAt forms f i j n →
      (second < j) ⊎ ((second ≡ j) × (i ≤ first))

-- ---- a dead set

-- a plain set of a pseudo register that is not live behind it
pub record IsDeadSet (f : Function) (place : ℕ) : Type 0 where
  pub insn : Insn
  pub at_place : slice_get f.insns place ≡ Some insn
  pub register : ℕ
  pub sets : set_of insn ≡ Some register
  pub dead : IsLiveAfter f register place → ⊥

abbrev pub NoneDead : Function → Type 0
NoneDead f = (place : ℕ) → IsDeadSet f place → ⊥

pub record IsFirstDead (f : Function) (place : ℕ) : Type 0 where
  pub dead : IsDeadSet f place
  pub first : (other : ℕ) → IsDeadSet f other → place ≤ other

-- ---- all of them

-- the function with an instruction at a place
abbrev pub with_insn : Function → ℕ → Insn → Function
with_insn f place new = replaced f place (place + 1) (new ∷ [])

-- the function without the instruction at a place
abbrev pub without : Function → ℕ → Function
without f place = replaced f place (place + 1) []

-- The next repeated value is reused; where there is none the first dead set goes.
pub data IsStep (forms : List Entry) (f : Function) : Function → Type 0 where
  reuses : (first second : ℕ) (new : Insn) → IsNextRepeat forms f first second new →
      IsStep forms f (with_insn f second new)
  drops : (place : ℕ) → NoneRepeats forms f → IsFirstDead f place → IsStep forms f (without f place)

-- so many steps
pub data Steps (forms : List Entry) : ℕ → Function → Function → Type 0 where
  none : (f : Function) → Steps forms zero f f
  step : (n : ℕ) (f g h : Function) → IsStep forms f g → Steps forms n g h →
      Steps forms (suc n) f h

-- steps until no value is repeated and no set is dead
pub record Reused (forms : List Entry) (n : ℕ) (f g : Function) : Type 0 where
  pub steps : Steps forms n f g
  pub none_repeats : NoneRepeats forms g
  pub none_dead : NoneDead g

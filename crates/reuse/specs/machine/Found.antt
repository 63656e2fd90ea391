-- What the private functions find.
use Rattle.std.specs.Prelude.{◌≡◌, ℕ, ◌+◌, ◌<◌, ◌≤◌, true, false, List, [], ◌∷◌, Option, Some, None, slice_get}
use Rattle.std.specs.List.{list_all}
use Rattle.rtx_tree.specs.declared.code.Mode.{Mode}
use Rattle.rtx_tree.specs.declared.tree.Rtx.{Rtx}
use Rattle.rtx_tree.specs.Tree.{mentions_reg}
use Rattle.rtx_tree.specs.declared.function.Insn.{Insn}
use Rattle.rtx_tree.specs.declared.function.Function.{Function}
use Rattle.new_insns.specs.Replaced.{window}
use Rattle.md_forms.specs.declared.form.Entry.{Entry}
use Rattle.reuse.specs.Reuse.{source_of, is_computed, keeps, SetAgain, EquatedOverAll, RepeatsAt, NoneRepeats, IsNextRepeat, IsDeadSet, IsFirstDead, NoneDead, IsStep}
use Rattle.reuse.specs.declared.again.Again.{Again}
use Rattle.reuse.specs.declared.search.Repeat.{Repeat}
use Rattle.reuse.specs.declared.search.Span.{Span}
use Rattle.reuse.specs.declared.pass.Sight.{Sight}

-- ---- two instructions

-- both set their places to an expression, which is computed and does not mention a register
pub record SetsSame (one other : Insn) (register : ℕ) (source : Rtx) : Type 0 where
  pub sets_to : source_of one ≡ Some source
  pub again_to : source_of other ≡ Some source
  pub computed : is_computed source ≡ true
  pub apart : mentions_reg register source ≡ false

-- the register and the mode of a value that is set again, or that it is not
abbrev pub FoundAgain : Insn → Insn → Option Again → Type 0
FoundAgain one other None =
    (register : ℕ) (mode : Mode) (source : Rtx) → SetAgain one other register mode source → ⊥
FoundAgain one other (Some a) = (source : Rtx) × SetAgain one other a.register a.mode source

-- ---- what stands between

-- the instructions from a place up to a second keep what the second sets its place to
abbrev pub KeptFrom : Function → ℕ → ℕ → Type 0
KeptFrom f first second =
    (other : Insn) (source : Rtx) → slice_get f.insns second ≡ Some other →
    source_of other ≡ Some source → list_all (keeps source) (window f first second) ≡ true

-- ---- the window

-- instructions with another last
abbrev pub last_put : Insn → List Insn → List Insn
last_put new [] = []
last_put new (i ∷ []) = new ∷ []
last_put new (i ∷ j ∷ insns) = i ∷ last_put new (j ∷ insns)

-- the window from one place up to another is equated over every register with itself with another
-- last
abbrev pub IsPutLast : Function → ℕ → ℕ → Insn → Type 0
IsPutLast f first end new =
    EquatedOverAll (window f first end) (last_put new (window f first end))

-- ---- a repeated value

-- the instruction that then stands at the second place, or that there is none
abbrev pub Tried : List Entry → Function → ℕ → ℕ → Option Insn → Type 0
Tried forms f first second None = (new : Insn) → RepeatsAt forms f first second new → ⊥
Tried forms f first second (Some new) = RepeatsAt forms f first second new

-- no repeated value with this second has its first at a place or behind it
abbrev pub NoneFrom : List Entry → Function → ℕ → ℕ → Type 0
NoneFrom forms f second place =
    (first : ℕ) (new : Insn) → place ≤ first → RepeatsAt forms f first second new → ⊥

-- and none has it at a place or in front of it
abbrev pub NoneUpto : List Entry → Function → ℕ → ℕ → Type 0
NoneUpto forms f second place =
    (first : ℕ) (new : Insn) → first ≤ place → RepeatsAt forms f first second new → ⊥

-- the repeated value with this second whose first stands last
pub record IsLast (forms : List Entry) (f : Function) (second : ℕ) (r : Repeat) : Type 0 where
  pub second_is : r.second ≡ second
  pub repeats : RepeatsAt forms f r.first second r.new
  pub last : NoneFrom forms f second (r.first + 1)

abbrev pub LastRepeat : List Entry → Function → ℕ → Option Repeat → Type 0
LastRepeat forms f second None = NoneFrom forms f second 0
LastRepeat forms f second (Some r) = IsLast forms f second r

abbrev pub NextRepeat : List Entry → Function → Option Repeat → Type 0
NextRepeat forms f None = NoneRepeats forms f
NextRepeat forms f (Some r) = IsNextRepeat forms f r.first r.second r.new

-- the seconds of repeated values stand within a span, and their firsts in front of a place
abbrev pub AreWithin : List Entry → Function → Span → Type 0
AreWithin forms f span =
    (first second : ℕ) (new : Insn) → RepeatsAt forms f first second new →
    (span.from ≤ second) × (second < span.end) × (first < span.firsts)

-- the firsts of the repeated values with this second stand in front of a place
abbrev pub AreAhead : List Entry → Function → ℕ → ℕ → Type 0
AreAhead forms f second place =
    (first : ℕ) (new : Insn) → RepeatsAt forms f first second new → first < place

-- ---- a dead set

-- none stands in front of a place
abbrev pub NoneDeadBefore : Function → ℕ → Type 0
NoneDeadBefore f place = (other : ℕ) → other < place → IsDeadSet f other → ⊥

abbrev pub FirstDead : Function → Option ℕ → Type 0
FirstDead f None = NoneDead f
FirstDead f (Some place) = IsFirstDead f place

-- ---- a step

-- repeated values stand within the span, and no dead set in front of the place
pub record AreSeen (forms : List Entry) (f : Function) (sight : Sight) : Type 0 where
  pub within : AreWithin forms f sight.span
  pub alive : NoneDeadBefore f sight.dead

-- one step was made, or there is none
abbrev pub Stepped : List Entry → Function → Function → Option Sight → Type 0
Stepped forms f g None = (g ≡ f) × NoneRepeats forms f × NoneDead f
Stepped forms f g (Some sight) = IsStep forms f g × AreSeen forms g sight

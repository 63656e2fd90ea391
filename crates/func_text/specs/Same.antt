-- What the written text does: for each function of the input, in order, the lines and labels that
-- its part of the text spells have the same behaviour as the function.
use Rattle.std.specs.Prelude.{◌≡◌, ℕ, ◌≤◌, List, [], ◌∷◌, ◌++◌, Some, slice_get, Ok}
use Rattle.rtx_tree.specs.Limit.{most_frame}
use Rattle.rtx_tree.specs.declared.function.Function.{Function}
use Rattle.rv_text.specs.Body.{Spells}
use Rattle.rv_text.specs.declared.line.CodeItem.{CodeItem}
use Rattle.same_behaviour.specs.Same.{Same}
use Rattle.pass_name.specs.declared.road.Road.{Road}
use Rattle.md_forms.specs.declared.form.Entry.{Entry}
use Rattle.func_after.specs.law_insn_replaced.Sound.{IsSound}
use Rattle.func_after.specs.After.{AfterComes}
use Rattle.func_after.specs.declared.compilation.Compilation.{Compilation}
use Rattle.asm_out.specs.Frame.{framed}

-- The parts of a text that are its functions', in order: between the `NAME:` line and the `.size`
-- line of each stands what spells its items.
pub data AreParts : List Function → List ℕ → List (List CodeItem) → Type 0 where
  none : AreParts [] [] []
  part : (f : Function) (functions : List Function) (body rest : List ℕ) (items : List CodeItem) (others : List (List CodeItem)) → Spells body items → AreParts functions rest others →
      AreParts (f ∷ functions) (framed f.name body ++ rest) (items ∷ others)

-- ---- their behaviour

-- the items of a function have its behaviour: for some size that a frame may have, so it is from
-- every lawful start whose frame has that size at least, in every lawful world
pub record HasBehaviour (f : Function) (items : List CodeItem) : Type 0 where
  pub size : ℕ
  pub small : size ≤ most_frame
  pub same : Same size f items

-- so do the items of each of some functions
pub data AreSame : List Function → List (List CodeItem) → Type 0 where
  none : AreSame [] []
  function : (f : Function) (functions : List Function) (items : List CodeItem) (others : List (List CodeItem)) → HasBehaviour f items → AreSame functions others →
      AreSame (f ∷ functions) (items ∷ others)

-- a text that was written has the behaviour of the input's functions
pub record DoesSame (functions : List Function) (text : List ℕ) : Type 0 where
  pub items : List (List CodeItem)
  pub parts : AreParts functions text items
  pub same : AreSame functions items

-- ---- their behaviour in the frames that the passes lay out

-- each of some functions is sound
abbrev pub AreSound : List Function → Type 0
AreSound functions = (index : ℕ) (f : Function) → slice_get functions index ≡ Some f → IsSound f

-- the items of each function have its behaviour, in each frame that has the room at least of which
-- the passes laid out its frame
pub data AreSameFramed (forms : List Entry) (road : Road) : List Function → List (List CodeItem) → Type 0 where
  none : AreSameFramed forms road [] []
  function : (f : Function) (m : Compilation) (functions : List Function) (items : List CodeItem) (others : List (List CodeItem)) →
      AfterComes forms road f (Ok m) → Same m.layout.size f items → AreSameFramed forms road functions others →
      AreSameFramed forms road (f ∷ functions) (items ∷ others)

-- so does the text that was written by some forms
pub record DoesSameFramed (forms : List Entry) (road : Road) (functions : List Function) (text : List ℕ) : Type 0 where
  pub items : List (List CodeItem)
  pub parts : AreParts functions text items
  pub same : AreSameFramed forms road functions items

-- What stands in the place of the instructions of a function whose registers have homes: GCC
-- Internals, "RTL passes" (reload) and "Insns".
use Rattle.std.specs.Prelude.{◌≡◌, ℕ, ◌+◌, true, false, List, [], ◌∷◌, ◌++◌, length}
use Rattle.std.specs.List.{All}
use Rattle.rtx_tree.specs.declared.function.Function.{Function}
use Rattle.rtx_tree.specs.declared.function.Insn.{Insn}
use Rattle.rtx_tree.specs.declared.tree.Rtx.{Rtx}
use Rattle.rtx_tree.specs.Patterns.{with_pattern}
use Rattle.md_match.specs.Pattern.{Ops}
use Rattle.md_forms.specs.declared.form.Entry.{Entry}
use Rattle.form_needs.specs.Needs.{needs_form}
use Rattle.assign.specs.declared.home.HomeOf.{HomeOf}
use Rattle.assign.specs.declared.places.Layout.{Layout}
use Rattle.law_frame.specs.Frame.{next_uid, with_insns}
use Rattle.reload_choice.specs.declared.given.Plan.{Plan}
use Rattle.reload_choice.specs.Sound.{IsSoundPlan}
use Rattle.reload.specs.Reload.{alone, given_by, moves_of, window_of, IsMatch, IsMatched}

-- What stands in the place of an instruction, where uids are free from one on: the instruction
-- itself, with its uid, its kind and what its call reads, but another pattern. (Nothing of
-- constraints and cost is said here: meaning needs only that the plan is sound.)
pub data IsWindow (forms : List Entry) (homes : List HomeOf) (layout : Layout) (uid : ℕ)
    (i : Insn) : List Insn → Type 0 where
  -- what needs no form stands there alone: a label and a barrier as they were, a use or a clobber
  -- with its homes put in
  stays : needs_form i ≡ false → IsWindow forms homes layout uid i
      (with_pattern i (alone homes layout i) ∷ [])
  -- what needs one was matched by a form before its registers had homes, and stands between the
  -- moves of a sound plan, which some forms match
  made : (form : ℕ) (pattern : Rtx) (found : Ops) (plan : Plan) → needs_form i ≡ true →
      IsMatch forms layout i form pattern found →
      IsSoundPlan (given_by homes layout i pattern found) plan →
      All (IsMatched forms) (moves_of (given_by homes layout i pattern found) plan) →
      IsWindow forms homes layout uid i (window_of uid i (given_by homes layout i pattern found)
      plan)

-- A chain in which a window stands for each instruction of another one, one behind the other. A
-- window takes one uid less of those that are free than it has instructions.
pub data AreWindows (forms : List Entry) (homes : List HomeOf) (layout : Layout) : ℕ → List Insn →
    List Insn → Type 0 where
  none : (uid : ℕ) → AreWindows forms homes layout uid [] []
  one_more : (uid next : ℕ) (i : Insn) (insns window rest : List Insn) →
      IsWindow forms homes layout uid i window →
      next + 1 ≡ uid + length window → AreWindows forms homes layout next insns rest →
      AreWindows forms homes layout uid (i ∷ insns) (window ++ rest)

-- A function differs from another in its instructions alone, which are such windows; the moves take
-- the uids after the greatest.
pub record HasWindows (forms : List Entry) (homes : List HomeOf) (layout : Layout)
    (f g : Function) : Type 0 where
  pub windows : AreWindows forms homes layout (next_uid f.insns) f.insns g.insns
  pub function_is : g ≡ with_insns f g.insns

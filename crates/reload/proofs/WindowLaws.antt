-- What stands in the place of each instruction, once a function's registers have homes.
use Rattle.std.proofs.Common.{◌≡◌, ℕ, ◌+◌, ◌&&◌, not, Bool, true, List, [], ◌∷◌, length, Ok, Err}
use Rattle.std.proofs.Common.{refl, ap}
use Rattle.std.specs.Prelude.{if◌then◌else◌, IfOk}
use Rattle.rtx_tree.specs.declared.function.Function.{Function}
use Rattle.rtx_tree.specs.declared.function.Insn.{Insn}
use Rattle.rtx_tree.specs.declared.function.Kind.{Kind}
use Rattle.rtx_tree.specs.declared.function.Kind.TheVariants.{Plain, Jump, Call, Label, Barrier}
use Rattle.rtx_tree.specs.declared.tree.Rtx.{Rtx}
use Rattle.rtx_tree.specs.Tree.{head_of}
use Rattle.rtl_step.specs.Step.{is_mark}
use Rattle.md_match.specs.Pattern.{Ops}
use Rattle.md_forms.specs.declared.form.Entry.{Entry}
use Rattle.form_needs.specs.Needs.{is_kind, is_note, needs_form}
use Rattle.assign.specs.declared.home.HomeOf.{HomeOf}
use Rattle.assign.specs.declared.places.Layout.{Layout}
use Rattle.law_frame.specs.Frame.{next_uid}
use Rattle.reload_choice.specs.declared.given.Given.{Given}
use Rattle.reload_choice.specs.declared.given.Plan.{Plan}
use Rattle.reload_choice.specs.Choice.{IsChosen}
use Rattle.reload_choice.specs.Insns.{between, insns_before, insns_after}
use Rattle.reload_choice.specs.Sound.{IsSoundPlan}
use Rattle.reload_choice.proofs.SoundLaws.{sound_at}
use Rattle.reload.specs.Reload.{with_homes, alone, given_by, window_by, IsMatch, InsnAnswer}
use Rattle.reload.specs.Reload.{MatchReloads, InsnReloads, chain_behind, ChainReloads, Answer}
use Rattle.reload.specs.Reload.{function_of, FunctionReloads}
use Rattle.reload.specs.Windows.{IsWindow, AreWindows, HasWindows}

-- ---- an instruction

-- the plan of the best alternative is sound
chosen_sound : (forms : List Entry) (form : ℕ) (given : Given) (plan : Plan) →
    IsChosen forms form given plan → IsSoundPlan given plan
chosen_sound forms form given plan is = sound_at forms form given is.0 plan is.1.here

module _ (forms : List Entry) (homes : List HomeOf) (layout : Layout) (uid : ℕ) (i : Insn) where
  match_window : (form : ℕ) (pattern : Rtx) (found : Ops) (answer : InsnAnswer) →
      needs_form i ≡ true → IsMatch forms layout i form pattern found →
      MatchReloads forms form (given_by homes layout i pattern found) uid i answer →
      IfOk answer (IsWindow forms homes layout uid i)
  match_window form pattern found _ needs m (MatchReloads.unsatisfied none) = tt
  match_window form pattern found _ needs m (MatchReloads.stuck plan before x is stuck) = tt
  match_window form pattern found _ needs m (MatchReloads.made plan is matched) =
      IsWindow.made form pattern found plan needs m
      (chosen_sound forms form (given_by homes layout i pattern found) plan is) matched

  insn_window : (answer : InsnAnswer) → InsnReloads forms homes layout uid i answer →
      IfOk answer (IsWindow forms homes layout uid i)
  insn_window _ (InsnReloads.stays free) = IsWindow.stays free
  insn_window _ (InsnReloads.unmatched needs none) = tt
  insn_window _ (InsnReloads.matched form pattern found answer needs m x) =
      match_window form pattern found answer needs m x

-- ---- a chain, and a function

module _ (forms : List Entry) (homes : List HomeOf) (layout : Layout) where
  behind_windows : (uid next : ℕ) (i : Insn) (insns window : List Insn) (rest : InsnAnswer) →
      IsWindow forms homes layout uid i window → next + 1 ≡ uid + length window →
      IfOk rest (AreWindows forms homes layout next insns) →
      IfOk (chain_behind window rest) (AreWindows forms homes layout uid (i ∷ insns))
  behind_windows uid next i insns window (Ok rest) is free more =
      AreWindows.one_more uid next i insns window rest is free more
  behind_windows uid next i insns window (Err e) is free more = tt

  chain_windows : (uid : ℕ) (insns : List Insn) (answer : InsnAnswer) →
      ChainReloads forms homes layout uid insns answer →
      IfOk answer (AreWindows forms homes layout uid insns)
  chain_windows _ _ _ (ChainReloads.none uid) = AreWindows.none uid
  chain_windows _ _ _ (ChainReloads.refused uid i insns e x) = tt
  chain_windows _ _ _ (ChainReloads.goes_on uid next i insns window rest x free more) =
      behind_windows uid next i insns window rest
      (insn_window forms homes layout uid i (Ok window) x) free
      (chain_windows next insns rest more)

  function_windows : (f : Function) (answer : InsnAnswer) →
      IfOk answer (AreWindows forms homes layout (next_uid f.insns) f.insns) →
      IfOk (function_of f answer) (HasWindows forms homes layout f)
  function_windows f (Ok insns) are = record { windows = are; function_is = refl }
  function_windows f (Err e) are = tt

  comes_windows : (f : Function) (answer : Answer) → FunctionReloads forms homes layout f answer →
      IfOk answer (HasWindows forms homes layout f)
  comes_windows f _ (FunctionReloads.comes answer x) =
      function_windows f answer (chain_windows (next_uid f.insns) f.insns answer x)

-- each instruction of a function that is reloaded has its window
pub reload_windows : (forms : List Entry) (homes : List HomeOf) (layout : Layout) (f g : Function) →
    FunctionReloads forms homes layout f (Ok g) → HasWindows forms homes layout f g
reload_windows forms homes layout f g is = comes_windows forms homes layout f (Ok g) is

-- ---- what a window is

-- the instruction with another pattern between moves; a label and a barrier have none and are as
-- they were
pub record IsAmong (uid : ℕ) (i : Insn) (window : List Insn) : Type 0 where
  pub before : List Rtx
  pub pattern : Rtx
  pub after : List Rtx
  pub window_is : window ≡ window_by uid i before pattern after
  pub mark_stays : is_mark i.kind ≡ true → pattern ≡ i.pattern

mark_or_kind : {P : Type 0} (kind : Kind) (note : Bool) → is_mark kind ≡ true →
    (is_kind kind && not note) ≡ true → P
mark_or_kind Plain note mark needs = absurd (let never : ⊥ = cc in never)
mark_or_kind Jump note mark needs = absurd (let never : ⊥ = cc in never)
mark_or_kind Call note mark needs = absurd (let never : ⊥ = cc in never)
mark_or_kind Label note mark needs = absurd (let never : ⊥ = cc in never)
mark_or_kind Barrier note mark needs = absurd (let never : ⊥ = cc in never)

-- a label and a barrier need no form
mark_needs : {P : Type 0} (i : Insn) → is_mark i.kind ≡ true → needs_form i ≡ true → P
mark_needs i mark needs = mark_or_kind i.kind (is_note (head_of i.pattern).code) mark needs

pub among : (forms : List Entry) (homes : List HomeOf) (layout : Layout) (uid : ℕ) (i : Insn)
    (window : List Insn) →
    IsWindow forms homes layout uid i window → IsAmong uid i window
among forms homes layout uid i _ (IsWindow.stays free) = record {
  before = [];
  pattern = alone homes layout i;
  after = [];
  window_is = refl;
  mark_stays = λ mark. ap (λ b. if b then i.pattern else with_homes homes layout i) mark;
}
among forms homes layout uid i _ (IsWindow.made form pattern found plan needs m sound matched) =
    let given = given_by homes layout i pattern found in record {
      before = insns_before given.operands plan.parts;
      pattern = between given.pattern given.operands plan.parts given.insn;
      after = insns_after given.operands plan.parts;
      window_is = refl;
      mark_stays = λ mark. mark_needs i mark needs;
    }

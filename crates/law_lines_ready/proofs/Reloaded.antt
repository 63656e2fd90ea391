-- A function whose registers get homes has placed instructions still.
use Rattle.std.proofs.Common.{◌≡◌, ℕ, ◌+◌, if◌then◌else◌, Bool, true, false, not, ◌&&◌, List, [], ◌∷◌, length, Some, refl, sym, ◌∙◌}
use Rattle.std.specs.List.{AllByRecursion}
use Rattle.std.specs.Prelude.{slice_get}
use Rattle.std.proofs.lemmas.Bool.{false≢true, true≢false, and_parts}
use Rattle.rtx_tree.specs.Patterns.{with_pattern}
use Rattle.rtx_tree.specs.Tree.{head_of}
use Rattle.rtx_tree.specs.declared.function.Function.{Function}
use Rattle.rtx_tree.specs.declared.function.Insn.{Insn}
use Rattle.rtx_tree.specs.declared.function.Kind.{Kind}
use Rattle.rtx_tree.specs.declared.function.Kind.TheVariants as kind
use Rattle.rtx_tree.specs.declared.tree.Rtx.{Rtx}
use Rattle.rtl_func.specs.Calls.{is_argument}
use Rattle.rtl_func.specs.Kinds.{kinds_agree}
use Rattle.rtl_func.specs.Modes.{modes_agree}
use Rattle.rtl_step.specs.Step.{is_mark}
use Rattle.reg_uses.specs.Effects.{pattern_defines}
use Rattle.reg_uses.specs.Uses.{has_argument}
use Rattle.same_behaviour.specs.Ending.{IsUid}
use Rattle.split.specs.form_needs.Needs.{is_kind, is_note, needs_form}
use Rattle.md_match.specs.Pattern.{Ops}
use Rattle.md_forms.specs.declared.form.Entry.{Entry}
use Rattle.assign.specs.Homes.{AreHomes}
use Rattle.assign.specs.declared.home.HomeOf.{HomeOf}
use Rattle.assign.specs.declared.places.Layout.{Layout}
use Rattle.law_output.proofs.law_pass_needs.Places.{all_at, all_joined, at_place}
use Rattle.law_reload.specs.law_frame.Frame.{next_uid, plain_insns}
use Rattle.law_reload.specs.reload_choice.Insns.{between, insns_before, insns_after}
use Rattle.law_reload.specs.reload_choice.Sound.{IsSoundPlan}
use Rattle.law_reload.specs.reload_choice.declared.given.Plan.{Plan}
use Rattle.law_reload.specs.reload.Reload.{with_homes, given_by, window_by}
use Rattle.law_reload.specs.reload.Windows.{IsWindow, AreWindows, HasWindows}
use Rattle.split.specs.law_insn_replaced.Sound.{IsSound}
use Rattle.law_reload.proofs.NaturalHomes.{reloaded_registers}
use Rattle.law_lines_ready.specs.Placed.{IsInsnPlaced, ArePlaced}
use Rattle.law_lines_ready.proofs.Notes.{note_plain, form_unmarked, no_label}
use Rattle.law_lines_ready.proofs.Sound.{sound_placed}

-- all that is asked, numbers of registers apart
record IsLeft (i : Insn) : Type 0 where
  marks : is_mark i.kind ≡ true → (reg : ℕ) → pattern_defines reg i.pattern ≡ false
  label : i.kind ≡ kind.Label → IsUid i.uid
  plain : is_mark i.kind ≡ false → is_note (head_of i.pattern).code ≡ true → i.kind ≡ kind.Plain
  passed : is_mark i.kind ≡ false → (reg : ℕ) → has_argument reg i.uses ≡ true → is_argument reg ≡ true

-- ---- moves

plain_left : (uid : ℕ) (xs : List Rtx) → AllByRecursion IsLeft (plain_insns uid xs)
plain_left uid [] = tt
plain_left uid (x ∷ xs) = (
  record {
    marks = λ mark reg. absurd (false≢true mark);
    label = λ is. absurd (let no : ⊥ = cc in no);
    plain = λ none note. refl;
    passed = λ none reg has. absurd (false≢true has);
  },
  plain_left (uid + 1) xs,
)

-- ---- an instruction with another pattern

other_left : (i : Insn) (x : Rtx) → IsInsnPlaced i → is_mark i.kind ≡ false → (is_note (head_of x).code ≡ true → i.kind ≡ kind.Plain) →
    IsLeft (with_pattern i x)
other_left i x is none plain = record {
  marks = λ mark reg. absurd (true≢false (sym mark ∙ none));
  label = λ label. absurd (no_label i.kind none label);
  plain = λ none note. plain note;
  passed = is.passed;
}

-- what needs no form and is no mark is a use or a clobber alone
noted : (k : Kind) (note : Bool) → is_mark k ≡ false → (is_kind k && not note) ≡ false → note ≡ true
noted kind.Label note none free = absurd (true≢false none)
noted kind.Barrier note none free = absurd (true≢false none)
noted k true none free = refl
noted kind.Plain false none free = absurd (true≢false free)
noted kind.Jump false none free = absurd (true≢false free)
noted kind.Call false none free = absurd (true≢false free)

module _ (homes : List HomeOf) (layout : Layout) (i : Insn) (is : IsInsnPlaced i) where
  alone_left : (b : Bool) → is_mark i.kind ≡ b → needs_form i ≡ false →
      IsLeft (with_pattern i (if b then i.pattern else with_homes homes layout i))
  alone_left true mark free = record { marks = is.marks; label = is.label; plain = is.plain; passed = is.passed }
  alone_left false none free =
      other_left i (with_homes homes layout i) is none
      (λ note. is.plain none (noted i.kind (is_note (head_of i.pattern).code) none free))

  between_left : (pattern : Rtx) (found : Ops) (plan : Plan) → needs_form i ≡ true →
      IsSoundPlan (given_by homes layout i pattern found) plan →
      let given = given_by homes layout i pattern found in
      IsLeft (with_pattern i (between given.pattern given.operands plan.parts given.insn))
  between_left pattern found plan needs sound =
      let given = given_by homes layout i pattern found in
      let x = between given.pattern given.operands plan.parts given.insn in
      let none : is_mark i.kind ≡ false = form_unmarked i needs in
      let agrees : kinds_agree i.kind x ≡ true = (and_parts (modes_agree x) (kinds_agree i.kind x) sound.whole).1 in
      other_left i x is none (λ note. note_plain i.kind x agrees none note)

window_left : (uid : ℕ) (i : Insn) (before : List Rtx) (y : Rtx) (after : List Rtx) → IsLeft (with_pattern i y) →
    AllByRecursion IsLeft (window_by uid i before y after)
window_left uid i before y after own =
    all_joined IsLeft (plain_insns uid before) (with_pattern i y ∷ plain_insns (uid + length before) after) (plain_left uid before)
    (own, plain_left (uid + length before) after)

-- ---- the windows

module _ (forms : List Entry) (homes : List HomeOf) (layout : Layout) where
  one_left : (uid : ℕ) (i : Insn) (window : List Insn) → IsInsnPlaced i → IsWindow forms homes layout uid i window →
      AllByRecursion IsLeft window
  one_left uid i _ is (IsWindow.stays free) = (alone_left homes layout i is (is_mark i.kind) refl free, tt)
  one_left uid i _ is (IsWindow.made form pattern found plan needs match sound matched) =
      let given = given_by homes layout i pattern found in
      window_left uid i (insns_before given.operands plan.parts) (between given.pattern given.operands plan.parts given.insn)
      (insns_after given.operands plan.parts) (between_left homes layout i is pattern found plan needs sound)

  chain_left : (uid : ℕ) (xs ys : List Insn) → AllByRecursion IsInsnPlaced xs → AreWindows forms homes layout uid xs ys →
      AllByRecursion IsLeft ys
  chain_left _ _ _ all (AreWindows.none uid) = tt
  chain_left _ _ _ all (AreWindows.one_more uid next i insns window rest is free more) =
      all_joined IsLeft window rest (one_left uid i window all.0 is) (chain_left next insns rest all.1 more)

with_numbers : (g : Function) → AllByRecursion IsLeft g.insns →
    ((place : ℕ) (i : Insn) → slice_get g.insns place ≡ Some i → IsLeft i → IsInsnPlaced i) → ArePlaced g
with_numbers g all each = all_at IsInsnPlaced g.insns (λ place i at. each place i at (at_place IsLeft g.insns all place i at))

pub reload_placed : (forms : List Entry) (homes : List HomeOf) (layout : Layout) (f g : Function) → AreHomes f homes → IsSound f →
    HasWindows forms homes layout f g → ArePlaced g
reload_placed forms homes layout f g are sound windows =
    with_numbers g (chain_left forms homes layout (next_uid f.insns) f.insns g.insns (sound_placed f sound) windows.windows)
    (λ place i at left. record {
      marks = left.marks;
      label = left.label;
      plain = left.plain;
      natural = reloaded_registers f homes layout are sound.reloadable forms g windows place i at;
      passed = left.passed;
    })

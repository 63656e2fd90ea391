-- A function that is reloaded has registers with natural numbers.
use Rattle.std.proofs.Common.{◌≡◌, ℕ, ◌+◌, if◌then◌else◌, Bool, true, false, List, [], ◌∷◌, drop, length, Some, refl}
use Rattle.std.specs.List.{AllByRecursion, list_all}
use Rattle.std.specs.Prelude.{slice_get}
use Rattle.std.proofs.lemmas.Bool.{and_parts}
use Rattle.rtx_tree.specs.Patterns.{with_pattern}
use Rattle.rtx_tree.specs.declared.function.Function.{Function}
use Rattle.rtx_tree.specs.declared.function.Insn.{Insn}
use Rattle.rtx_tree.specs.declared.tree.Rtx.{Rtx}
use Rattle.md_match.specs.Pattern.{Ops}
use Rattle.md_forms.specs.declared.form.Entry.{Entry}
use Rattle.reload.specs.form_needs.Needs.{needs_form}
use Rattle.rtl_step.specs.Step.{is_mark}
use Rattle.law_reload_moves.specs.sym_insns.Shape.{all_natural}
use Rattle.same_behaviour.proofs.Places.{get_dropped, drop_next}
use Rattle.assign.specs.declared.home.HomeOf.{HomeOf}
use Rattle.assign.specs.declared.places.Layout.{Layout}
use Rattle.reload.proofs.law_pass_needs.Places.{all_joined, at_place}
use Rattle.law_reload_moves.specs.law_window_replaced.Natural.{RegistersAreNatural}
use Rattle.law_reload_moves.specs.law_frame.Frame.{next_uid, plain_insns}
use Rattle.law_reload_moves.specs.reload_choice.Insns.{between, insns_before, insns_after}
use Rattle.reload.specs.Reload.{with_homes, given_by, window_by, IsMatch}
use Rattle.reload.specs.Windows.{IsWindow, AreWindows, HasWindows}
use Rattle.law_reload.proofs.NaturalMoves.{OperandsNatural, before_natural, after_natural}
use Rattle.law_reload.proofs.NaturalBetween.{between_natural}

abbrev IsNatural : Insn → Type 0
IsNatural i = all_natural i.pattern ≡ true

plain_natural : (uid : ℕ) (xs : List Rtx) → list_all all_natural xs ≡ true →
    AllByRecursion IsNatural (plain_insns uid xs)
plain_natural uid [] all = tt
plain_natural uid (x ∷ xs) all =
    let parts = and_parts (all_natural x) _ all in
    (parts.0, plain_natural (uid + 1) xs parts.1)

window_natural : (uid : ℕ) (i : Insn) (before : List Rtx) (y : Rtx) (after : List Rtx) →
    list_all all_natural before ≡ true → all_natural y ≡ true → list_all all_natural after ≡ true →
    AllByRecursion IsNatural (window_by uid i before y after)
window_natural uid i before y after one own two =
    all_joined IsNatural (plain_insns uid before)
    (with_pattern i y ∷ plain_insns (uid + length before) after)
    (plain_natural uid before one) (own, plain_natural (uid + length before) after two)

-- What is asked of a function whose registers have homes: with these put in, what it names has
-- natural numbers, and so do the trees of the operands of each match.
pub record HomesAreNatural (forms : List Entry) (f : Function) (homes : List HomeOf)
    (layout : Layout) : Type 0 where
  pub own : RegistersAreNatural f
  pub homed : (place : ℕ) (i : Insn) → slice_get f.insns place ≡ Some i → is_mark i.kind ≡ false →
      all_natural (with_homes homes layout i) ≡ true
  pub operands : (place : ℕ) (i : Insn) (form : ℕ) (pattern : Rtx) (found : Ops) →
      slice_get f.insns place ≡ Some i → needs_form i ≡ true →
      IsMatch forms layout i form pattern found →
      OperandsNatural (given_by homes layout i pattern found).operands

module _ (forms : List Entry) (f : Function) (homes : List HomeOf) (layout : Layout)
    (natural : HomesAreNatural forms f homes layout)
    (unmarked : (i : Insn) → needs_form i ≡ true → is_mark i.kind ≡ false) where
  alone_by : (place : ℕ) (i : Insn) (b : Bool) → slice_get f.insns place ≡ Some i →
      is_mark i.kind ≡ b →
      all_natural (if b then i.pattern else with_homes homes layout i) ≡ true
  alone_by place i true at is = natural.own place i at
  alone_by place i false at is = natural.homed place i at is

  one_natural : (place uid : ℕ) (i : Insn) (window : List Insn) → slice_get f.insns place ≡ Some i →
      IsWindow forms homes layout uid i window → AllByRecursion IsNatural window
  one_natural place uid i _ at (IsWindow.stays free) =
      (alone_by place i (is_mark i.kind) at refl, tt)
  one_natural place uid i _ at (IsWindow.made form pattern found plan needs match sound matched) =
      let given = given_by homes layout i pattern found in
      let operands = natural.operands place i form pattern found at needs match in
      window_natural uid i (insns_before given.operands plan.parts)
      (between given.pattern given.operands plan.parts given.insn)
      (insns_after given.operands plan.parts)
      (before_natural given.operands operands plan.parts sound.few)
      (between_natural given.pattern given.operands plan.parts given.insn operands sound.few
      (natural.homed place i at (unmarked i needs)))
      (after_natural given.operands operands plan.parts sound.few)

  chain_natural : (uid place : ℕ) (xs ys : List Insn) → drop place f.insns ≡ xs →
      AreWindows forms homes layout uid xs ys → AllByRecursion IsNatural ys
  chain_natural _ place _ _ there (AreWindows.none uid) = tt
  chain_natural _ place _ _ there (AreWindows.one_more uid next i insns window rest is free more) =
      all_joined IsNatural window rest
      (one_natural place uid i window (get_dropped f.insns place i insns there) is)
      (chain_natural next (place + 1) insns rest (drop_next f.insns place i insns there) more)

  -- what it becomes has them
  pub reloaded_natural : (g : Function) → HasWindows forms homes layout f g → RegistersAreNatural g
  reloaded_natural g are place i at = at_place IsNatural g.insns
      (chain_natural (next_uid f.insns) 0 f.insns g.insns refl are.windows) place i at

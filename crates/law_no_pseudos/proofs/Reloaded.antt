-- A function whose registers get homes names registers of the machine alone.
use Rattle.std.proofs.Common.{◌≡◌, ℕ, ◌+◌, if◌then◌else◌, Bool, true, false, List, [], ◌∷◌, length, refl, sym, ap, subst, ◌∙◌}
use Rattle.std.specs.List.{AllByRecursion}
use Rattle.std.proofs.lemmas.Bool.{false≢true}
use Rattle.rtx_tree.specs.Code.{class_of_code}
use Rattle.rtx_tree.specs.Patterns.{with_pattern}
use Rattle.rtx_tree.specs.Tree.{head_of, kids_of}
use Rattle.rtx_tree.specs.declared.code.Code.{Code}
use Rattle.rtx_tree.specs.declared.code.Code.TheVariants as code
use Rattle.rtx_tree.specs.declared.function.Function.{Function}
use Rattle.rtx_tree.specs.declared.function.Insn.{Insn}
use Rattle.rtx_tree.specs.declared.tree.Rtx.{Rtx}
use Rattle.md_match.specs.Pattern.{Ops}
use Rattle.md_match.specs.Match.{MatchesOne}
use Rattle.md_forms.specs.declared.form.Entry.{Entry}
use Rattle.form_needs.specs.Needs.{is_homeless, names_homeless}
use Rattle.rtl_func.specs.Kinds.{is_nothing, is_nothing_by}
use Rattle.rtl_step.specs.Step.{is_mark}
use Rattle.assign.specs.Homes.{AreHomes}
use Rattle.assign.specs.declared.home.HomeOf.{HomeOf}
use Rattle.assign.specs.declared.places.Layout.{Layout}
use Rattle.law_reload.specs.law_frame.Frame.{next_uid, plain_insns}
use Rattle.law_reload.specs.law_pass_needs.Reloadable.{IsInsnReloadable, IsReloadable}
use Rattle.reload.proofs.law_pass_needs.Places.{all_at, all_joined, at_place}
use Rattle.law_reload_moves.specs.reload_operands.declared.operand.Operand.{Operand}
use Rattle.law_reload.specs.reload_choice.Insns.{between, insns_before, insns_after}
use Rattle.law_reload.specs.reload.Reload.{placed, with_homes, given_by, window_by}
use Rattle.law_reload.specs.reload.Windows.{IsWindow, AreWindows, HasWindows}
use Rattle.law_reload_moves.proofs.law_operands_fetched.FoundParts.{operand_has}
use Rattle.law_reload_moves.proofs.NewsLaws.{operand_of_match}
use Rattle.law_reload.proofs.Reloading.{matches_of}
use Rattle.law_emitted_hard.specs.Hard.{IsHard, AreHard}
use Rattle.law_emitted_hard.proofs.Trees.{hard_whole}
use Rattle.law_no_pseudos.specs.Hard.{IsHardInsn, AreHardInsns, IsHardFunction}
use Rattle.law_no_pseudos.proofs.Homes.{Lives, AllLive, kids_named, homed_hard}
use Rattle.law_no_pseudos.proofs.Living.{placed_lives}
use Rattle.law_no_pseudos.proofs.Moves.{OperandsAreHard, before_hard, after_hard}
use Rattle.law_no_pseudos.proofs.Between.{between_hard}

-- ---- a label and a barrier hold nothing

nothing_by : (c : Code) (kids : List Rtx) (x : Rtx) → (head_of x).code ≡ c → kids_of x ≡ kids → is_nothing_by (class_of_code c) kids ≡ true → IsHard x
nothing_by code.Parallel [] x code_is kids_are is =
    hard_whole x (ap (λ c. is_homeless c (head_of x).number) code_is) (subst AreHard (sym kids_are) tt)
nothing_by code.Parallel (y ∷ kids) x code_is kids_are is = absurd (false≢true is)
nothing_by _ kids x code_is kids_are is = absurd (false≢true is)

nothing_hard : (x : Rtx) → is_nothing x ≡ true → IsHard x
nothing_hard x is = nothing_by (head_of x).code (kids_of x) x refl refl is

-- ---- windows

pub plain_hard : (uid : ℕ) (xs : List Rtx) → AreHard xs → AreHardInsns (plain_insns uid xs)
plain_hard uid [] all = tt
plain_hard uid (x ∷ xs) all = (all.0, plain_hard (uid + 1) xs all.1)

window_hard : (uid : ℕ) (i : Insn) (before : List Rtx) (y : Rtx) (after : List Rtx) → AreHard before → IsHard y → AreHard after →
    AreHardInsns (window_by uid i before y after)
window_hard uid i before y after one own two =
    all_joined IsHardInsn (plain_insns uid before) (with_pattern i y ∷ plain_insns (uid + length before) after)
    (plain_hard uid before one) (own, plain_hard (uid + length before) after two)

module _ (forms : List Entry) (homes : List HomeOf) (layout : Layout) where
  -- what is known of an instruction before its registers have homes
  record IsKnown (i : Insn) : Type 0 where
    reloadable : IsInsnReloadable i
    lives : AllLive homes layout (placed layout i)

  homes_hard : (i : Insn) → IsKnown i → IsHard (with_homes homes layout i)
  homes_hard i known = homed_hard homes layout (placed layout i) known.lives

  -- an operand of a match is a part of the tree that is matched
  operand_hard : (i : Insn) (pattern : Rtx) (found : Ops) → MatchesOne pattern (placed layout i) found → IsKnown i →
      OperandsAreHard (given_by homes layout i pattern found).operands
  operand_hard i pattern found matches known k x at =
      let o = operand_of_match pattern found (placed layout i) (with_homes homes layout i) homes layout k x at in
      let part : AllLive homes layout o.was = operand_has found (AllLive homes layout) (λ x is. kids_named (Lives homes layout) x is)
      pattern (placed layout i) o.form o.was x.number matches known.lives o.given_by o.found_is in
      ap (λ (x : Operand). names_homeless x.tree) o.operand_is ∙ homed_hard homes layout o.was part

  alone_hard : (i : Insn) (b : Bool) → is_mark i.kind ≡ b → IsKnown i → IsHard (if b then i.pattern else with_homes homes layout i)
  alone_hard i true mark known = nothing_hard i.pattern (known.reloadable.empty mark)
  alone_hard i false none known = homes_hard i known

  one_hard : (uid : ℕ) (i : Insn) (window : List Insn) → IsKnown i → IsWindow forms homes layout uid i window → AreHardInsns window
  one_hard uid i _ known (IsWindow.stays free) = (alone_hard i (is_mark i.kind) refl known, tt)
  one_hard uid i _ known (IsWindow.made form pattern found plan needs match sound matched) =
      let given = given_by homes layout i pattern found in
      let operands = operand_hard i pattern found (matches_of forms layout i form pattern found match) known in
      window_hard uid i (insns_before given.operands plan.parts) (between given.pattern given.operands plan.parts given.insn)
      (insns_after given.operands plan.parts)
      (before_hard given.operands operands plan.parts sound.greatest)
      (between_hard given.pattern given.operands plan.parts given.insn operands sound.greatest (homes_hard i known))
      (after_hard given.operands operands plan.parts sound.greatest)

  chain_hard : (uid : ℕ) (xs ys : List Insn) → AllByRecursion IsKnown xs → AreWindows forms homes layout uid xs ys → AreHardInsns ys
  chain_hard _ _ _ all (AreWindows.none uid) = tt
  chain_hard _ _ _ all (AreWindows.one_more uid next i insns window rest is free more) =
      all_joined IsHardInsn window rest (one_hard uid i window all.0 is) (chain_hard next insns rest all.1 more)

  -- what it becomes
  pub reload_hard : (f g : Function) → AreHomes f homes → IsReloadable f → HasWindows forms homes layout f g → IsHardFunction g
  reload_hard f g are is windows =
      chain_hard (next_uid f.insns) f.insns g.insns
      (all_at IsKnown f.insns (λ place i at. record {
        reloadable = at_place IsInsnReloadable f.insns is.each place i at;
        lives = placed_lives f homes layout are is place i at;
      }))
      windows.windows

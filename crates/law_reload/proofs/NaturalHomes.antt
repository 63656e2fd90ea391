-- A function that can be reloaded has registers with natural numbers, and so has it with their
-- homes put in and with moves.
use Rattle.std.proofs.Common.{◌≡◌, ◌⊎◌, inl, inr, ℕ, ◌≤◌, not, Bool, true, false, List, [], ◌∷◌, Some, ap, ◌∙◌, arith}
use Rattle.std.proofs.lemmas.Bool.{and_parts}
use Rattle.std.proofs.lemmas.Bool.Decides.{nat_tests}
use Rattle.std.specs.List.{AllByRecursion, list_all}
use Rattle.std.specs.Prelude.{pos, slice_get}
use Rattle.rtx_tree.specs.Tree.{head_of, kids_of}
use Rattle.rtx_tree.specs.declared.code.Code.TheVariants as code
use Rattle.rtx_tree.specs.declared.function.Function.{Function}
use Rattle.rtx_tree.specs.declared.function.Insn.{Insn}
use Rattle.rtx_tree.specs.declared.tree.Rtx.{Rtx}
use Rattle.md_match.specs.Pattern.{Ops}
use Rattle.md_match.specs.Match.{MatchesOne}
use Rattle.md_forms.specs.declared.form.Entry.{Entry}
use Rattle.reload.specs.form_needs.Needs.{is_note, needs_form}
use Rattle.rtl_func.specs.Nodes.{nodes_of}
use Rattle.rtl_func.specs.Shapes.{is_effect, is_shaped}
use Rattle.rtl_func.proofs.AllPass.{all_pass}
use Rattle.rtl_step.specs.Step.{is_mark}
use Rattle.law_reload_moves.specs.sym_insns.Shape.{is_natural, all_natural}
use Rattle.assign.specs.Homes.{AreHomes}
use Rattle.assign.specs.declared.home.Home.TheVariants.{Hard}
use Rattle.assign.specs.declared.home.HomeOf.{HomeOf}
use Rattle.assign.specs.declared.places.Layout.{Layout}
use Rattle.reload.specs.law_pass_needs.Reloadable.{IsInsnReloadable, IsReloadable}
use Rattle.reload.proofs.law_pass_needs.Places.{at_place}
use Rattle.law_reload_moves.specs.law_window_replaced.Natural.{RegistersAreNatural}
use Rattle.law_reload_moves.proofs.law_window_replaced.Trees.{natural_kids}
use Rattle.reload_homes.specs.Homes.{home_of}
use Rattle.law_reload_moves.specs.reload_operands.declared.operand.Operand.{Operand}
use Rattle.law_homes.proofs.HomesApart.{hard_home}
use Rattle.law_reload_moves.proofs.law_operands_fetched.FoundParts.{operand_has}
use Rattle.law_reload_moves.proofs.FramedGood.{framed_natural}
use Rattle.law_reload_moves.proofs.HomedTrees.{homed_natural}
use Rattle.law_reload_moves.proofs.NewsLaws.{operand_of_match}
use Rattle.reload.specs.Reload.{placed, with_homes, given_by}
use Rattle.reload.specs.Windows.{HasWindows}
use Rattle.law_reload.proofs.EffectsKeep.{vars_kept}
use Rattle.law_reload.proofs.NaturalWindows.{HomesAreNatural, reloaded_natural}
use Rattle.law_reload.proofs.Placeable.{shape_agrees}
use Rattle.law_reload.proofs.Reloading.{matches_of, unmarked}

each_kid : (xs : List Rtx) → list_all all_natural xs ≡ true →
    AllByRecursion (λ x. all_natural x ≡ true) xs
each_kid [] all = tt
each_kid (x ∷ xs) all = let both = and_parts (all_natural x) _ all in (both.0, each_kid xs both.1)

module _ (f : Function) (homes : List HomeOf) (layout : Layout) (are : AreHomes f homes)
    (is : IsReloadable f) where
  -- a hard home is a register of the order, or the register itself
  home_natural : (reg hard : ℕ) → home_of homes reg ≡ Hard hard →
      is_natural code.Reg (pos reg) ≡ true → is_natural code.Reg (pos hard) ≡ true
  home_natural reg hard home natural = elim (hard_home f homes are reg hard home) [
    | inl among ↦ let most = among.1 in grind (arith, nat_tests, most)
    | inr same ↦ ap (λ k. is_natural code.Reg (pos k)) same ∙ natural
  ]

  one : (place : ℕ) (i : Insn) → slice_get f.insns place ≡ Some i → IsInsnReloadable i
  one place i at = at_place IsInsnReloadable f.insns is.each place i at

  placed_one : (i : Insn) → IsInsnReloadable i → is_mark i.kind ≡ false →
      all_natural (placed layout i) ≡ true
  placed_one i can none =
      let shaped : all_pass is_shaped i.pattern ≡ true =
      (and_parts (is_effect i.pattern) (list_all is_shaped (nodes_of i.pattern))
      (shape_agrees i can none)).1 in
      framed_natural layout.size i.pattern shaped can.natural (vars_kept i can none)

  needs_unmarked : (i : Insn) → needs_form i ≡ true → is_mark i.kind ≡ false
  needs_unmarked i needs = unmarked i.kind (not (is_note (head_of i.pattern).code)) needs

  -- an operand of a match is a part of the tree that is matched
  operand_one : (i : Insn) (pattern : Rtx) (found : Ops) →
      MatchesOne pattern (placed layout i) found →
      all_natural (placed layout i) ≡ true → (k : ℕ) (x : Operand) →
      slice_get (given_by homes layout i pattern found).operands k ≡ Some x →
      all_natural x.tree ≡ true
  operand_one i pattern found matches natural k x at =
      let o = operand_of_match pattern found (placed layout i) (with_homes homes layout i) homes
      layout k x at in
      let part : all_natural o.was ≡ true = operand_has found (λ x. all_natural x ≡ true)
      (λ x is. each_kid (kids_of x) (natural_kids x is)) pattern (placed layout i) o.form o.was
      x.number
      matches natural o.given_by o.found_is in
      ap (λ (x : Operand). all_natural x.tree) o.operand_is ∙
      homed_natural homes layout home_natural o.was part

  pub homes_natural : (forms : List Entry) → HomesAreNatural forms f homes layout
  homes_natural forms = record {
    own = λ place i at. (one place i at).natural;
    homed = λ place i at none.
        homed_natural homes layout home_natural (placed layout i)
        (placed_one i (one place i at) none);
    operands = λ place i form pattern found at needs match k x there.
        operand_one i pattern found (matches_of forms layout i form pattern found match)
        (placed_one i (one place i at) (needs_unmarked i needs)) k x there;
  }

  -- what it becomes has them
  pub reloaded_registers : (forms : List Entry) (g : Function) → HasWindows forms homes layout f g →
      RegistersAreNatural g
  reloaded_registers forms g windows =
      reloaded_natural forms f homes layout (homes_natural forms) needs_unmarked g windows

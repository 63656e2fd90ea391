-- Which operands of a pattern that is written out are inputs and outputs; none is clobbered or hidden.
use Rattle.std.proofs.Common.{◌≡◌, ℕ, pos, Bool, true, false, ◌&&◌, ◌||◌, List, [], ◌∷◌, ◌++◌, refl, ap, ◌∙◌}
use Rattle.std.specs.Prelude.{ℤ}
use Rattle.std.specs.List.{flat_map, list_any}
use Rattle.rtx_tree.specs.declared.code.Code.{Code}
use Rattle.rtx_tree.specs.declared.code.Code.TheVariants as code
use Rattle.rtx_tree.specs.declared.code.Mode.{Mode}
use Rattle.rtx_tree.specs.declared.code.Mode.TheVariants.{Void}
use Rattle.rtx_tree.specs.declared.tree.Rtx.{Rtx}
use Rattle.rtx_tree.specs.declared.tree.Rtx.TheOpen.{Rtx-F}
use Rattle.md_match.specs.Pattern.{role_of}
use Rattle.md_match.specs.declared.role.Role.TheVariants.{Itself}
use Rattle.reload_operands.specs.md_constr.Inputs.{operand_here, taken_step, taken_in, taken_at, taken_at_by, taken_by, taken_by_parts, changed_at, changed_at_by, changed_whole, clobbered_by, clobbered_by_parts, set_by, set_by_parts, effects_by, effects_of, inputs_in, outputs_in}
use Rattle.reload_operands.specs.Directions.{has_number, is_input, is_output, is_clobbered, is_operator_code, scratch_here, scratch_step, scratches_in, reads_scratch, hides, is_hidden}
use Rattle.rtx_open.proofs.Expressions.{Written, node, none, with, rtx, rtxs, outside, outside_is, gathered, gathers}
use Rattle.law_plain_matches.proofs.Patterns.{operand}
use Rattle.law_plain_matches.proofs.Sets.{set_of}

-- what is known of the operand with a number
pub record Directed (pattern : Rtx) (k : ℕ) (input output : Bool) : Type 0 where
  pub input_is : is_input pattern k ≡ input
  pub output_is : is_output pattern k ≡ output
  pub clobbered_is : is_clobbered pattern k ≡ false
  pub hidden_is : is_hidden pattern k ≡ false

-- what an expression of a pattern takes, and its scratches
abbrev pub takes : Written → List ℕ
takes x = gathered taken_step x

abbrev pub scratches : Written → List ℕ
scratches x = gathered scratch_step x

-- ---- no placeholder

pub itself_takes : (c : Code) (z : ℤ) → role_of c ≡ Itself → operand_here c z ≡ []
itself_takes code.MatchOperand z is = cc
itself_takes code.MatchDup z is = cc
itself_takes code.MatchScratch z is = cc
itself_takes code.MatchOperator z is = cc
itself_takes _ z is = refl

pub itself_scratches : (c : Code) (z : ℤ) → role_of c ≡ Itself → scratch_here c z ≡ []
itself_scratches code.MatchScratch z is = cc
itself_scratches _ z is = refl

-- ---- (set TARGET SOURCE)

module _ (target source : Written) where
  abbrev whole : Rtx
  whole = rtx (set_of target source)

  abbrev here : Rtx-F Rtx
  here = outside (set_of target source)

  one_effect : effects_of whole ≡ whole ∷ []
  one_effect = ap (λ o. effects_by o.code whole o.kids) (outside_is (set_of target source))

  pub set_takes : inputs_in whole ≡ (taken_at (rtx target) ++ takes source) ++ []
  set_takes =
      ap (flat_map taken_by) one_effect ∙
      (ap (λ o. taken_by_parts o.code whole o.kids ++ []) (outside_is (set_of target source)) ∙
      ap (λ xs. (taken_at (rtx target) ++ xs) ++ []) (gathers taken_step source))

  pub set_changes : outputs_in whole ≡ changed_at (rtx target) ++ []
  set_changes = ap (flat_map set_by) one_effect ∙ ap (λ o. set_by_parts o.code o.kids ++ []) (outside_is (set_of target source))

  clobbers : flat_map clobbered_by (effects_of whole) ≡ []
  clobbers = ap (flat_map clobbered_by) one_effect ∙ ap (λ o. clobbered_by_parts o.code o.kids ++ []) (outside_is (set_of target source))

  pub none_clobbered : (k : ℕ) → is_clobbered whole k ≡ false
  none_clobbered k = ap (has_number k) clobbers

  pub none_hidden : (k : ℕ) → scratches (set_of target source) ≡ [] → is_hidden whole k ≡ false
  none_hidden k free =
      ap (list_any (hides k)) one_effect ∙
      (ap (λ o. ((is_operator_code o.code && has_number k (taken_in whole)) || reads_scratch k o.code whole) || false) (outside_is (set_of target source)) ∙
      ap (λ xs. has_number k xs || false) (gathers scratch_step (set_of target source) ∙ free))

-- ---- an operand is set

module _ (p : List ℕ) (m : Mode) (source : Written) where
  abbrev target : Written
  target = operand p 0 m

  nothing_taken : taken_at (rtx target) ≡ []
  nothing_taken = ap (λ o. taken_at_by o.code o.kids) (outside_is target)

  changed : changed_at (rtx target) ≡ 0 ∷ []
  changed = ap (λ o. changed_at_by o.code (rtx target) o.kids) (outside_is target) ∙ ap (λ o. operand_here o.code o.number) (outside_is target)

  module _ (ns : List ℕ) (taken : takes source ≡ ns) (free : scratches source ≡ []) where
    sets_inputs : inputs_in (rtx (set_of target source)) ≡ ns ++ []
    sets_inputs = set_takes target source ∙ (ap (λ xs. (xs ++ takes source) ++ []) nothing_taken ∙ ap (λ xs. xs ++ []) taken)

    sets_outputs : outputs_in (rtx (set_of target source)) ≡ 0 ∷ []
    sets_outputs = set_changes target source ∙ ap (λ xs. xs ++ []) changed

    free_whole : scratches (set_of target source) ≡ []
    free_whole = ap (λ xs. xs ++ []) free

    pub sets : (k : ℕ) (input output : Bool) → has_number k (ns ++ []) ≡ input → has_number k (0 ∷ []) ≡ output → Directed (rtx (set_of target source)) k input output
    sets k input output one other = record {
      input_is = ap (has_number k) sets_inputs ∙ one;
      output_is = ap (has_number k) sets_outputs ∙ other;
      clobbered_is = none_clobbered target source k;
      hidden_is = none_hidden target source k free_whole;
    }

-- An operand of a plain form, as reload knows it: no scratch, no address, in no low part, neither
-- clobbered nor hidden.
use Rattle.std.proofs.Common.{◌≡◌, ℕ, Bool, true, false, List, [], ◌∷◌, Option, refl, ap, ◌∙◌}
use Rattle.rtx_tree.specs.declared.code.Mode.{Mode}
use Rattle.rtx_tree.specs.declared.tree.Rtx.{Rtx}
use Rattle.rtx_tree.specs.Code.{mode_or}
use Rattle.rtx_tree.specs.Tree.{head_of}
use Rattle.assign.specs.declared.home.HomeOf.{HomeOf}
use Rattle.assign.specs.declared.places.Layout.{Layout}
use Rattle.md_operand.specs.Operand.{built_in_named}
use Rattle.reload_homes.specs.Homes.{homed}
use Rattle.reload_operands.specs.declared.operand.Base.{Base}
use Rattle.reload_operands.specs.declared.operand.Operand.{Operand}
use Rattle.reload_operands.specs.Directions.{is_input, is_output, is_clobbered, is_hidden}
use Rattle.reload_operands.specs.Put.{in_lowpart}
use Rattle.reload_operands.specs.Bases.{in_slot, base_of}
use Rattle.reload_operands.specs.Changes.{changes_address, other_memory}
use Rattle.reload_operands.specs.Operands.{is_scratch_code, is_operator_code, is_address_predicate, operand_for}
use Rattle.std.specs.Prelude.{is_some}
use Rattle.law_plain_known.proofs.Directed.{Directed}

-- what is told of it
pub record Told : Type 0 where
  pub tree : Rtx
  pub mode : Mode
  pub is_operator : Bool
  pub is_input : Bool
  pub is_output : Bool
  pub in_slot : Bool
  pub base : Option Base
  pub changed_address : Bool
  pub other_memory : Bool

abbrev pub plainly : ℕ → Told → Operand
plainly k t = record {
  number = k;
  tree = t.tree;
  mode = t.mode;
  is_operator = t.is_operator;
  is_scratch = false;
  is_address = false;
  is_input = t.is_input;
  is_output = t.is_output;
  is_clobbered = false;
  is_hidden = false;
  in_slot = t.in_slot;
  in_lowpart = false;
  base = t.base;
  changed_address = t.changed_address;
  other_memory = t.other_memory;
}

module _ (pattern placed with_homes : Rtx) (homes : List HomeOf) (layout : Layout) (k : ℕ) (p x : Rtx) where
  -- by its directions, its placeholder and its tree
  pub record IsPlainly (operator input output : Bool) : Type 0 where
    pub operator_is : is_operator_code (head_of p).code ≡ operator
    pub scratch_is : is_scratch_code (head_of x).code ≡ false
    pub address_is : is_address_predicate (built_in_named (head_of p).name) ≡ false
    pub directed : Directed pattern k input output
    pub whole : in_lowpart pattern placed k ≡ false

  abbrev pub told : Bool → Bool → Bool → Told
  told operator input output = record {
    tree = homed homes layout x;
    mode = mode_or (head_of x).mode (head_of p).mode;
    is_operator = operator;
    is_input = input;
    is_output = output;
    in_slot = in_slot homes x;
    base = base_of homes layout x;
    changed_address = changes_address homes placed with_homes (is_some (base_of homes layout x)) x (homed homes layout x);
    other_memory = other_memory pattern placed k;
  }

  abbrev as_made : Bool → Bool → Bool → Bool → Bool → Bool → Bool → Bool → Operand
  as_made operator scratch address input output clobbered hidden low =
      record (plainly k (told operator input output)) { is_scratch = scratch; is_address = address; is_clobbered = clobbered; is_hidden = hidden; in_lowpart = low }

  pub known_is : (operator input output : Bool) → IsPlainly operator input output → operand_for pattern placed with_homes homes layout k p x ≡ plainly k (told operator input output)
  known_is operator input output i =
      let d = i.directed in
      let scratch = is_scratch_code (head_of x).code in
      let address = is_address_predicate (built_in_named (head_of p).name) in
      let takes = is_input pattern k in
      let gives = is_output pattern k in
      let clobbered = is_clobbered pattern k in
      let hidden = is_hidden pattern k in
      let low = in_lowpart pattern placed k in
      ap (λ b. as_made b scratch address takes gives clobbered hidden low) i.operator_is ∙
      (ap (λ b. as_made operator b address takes gives clobbered hidden low) i.scratch_is ∙
      (ap (λ b. as_made operator false b takes gives clobbered hidden low) i.address_is ∙
      (ap (λ b. as_made operator false false b gives clobbered hidden low) d.input_is ∙
      (ap (λ b. as_made operator false false input b clobbered hidden low) d.output_is ∙
      (ap (λ b. as_made operator false false input output b hidden low) d.clobbered_is ∙
      (ap (λ b. as_made operator false false input output false b low) d.hidden_is ∙
      ap (λ b. as_made operator false false input output false false b) i.whole))))))

-- An operand that a placeholder of a plain form finds, by its sort.
use Rattle.std.proofs.Common.{◌≡◌, ℕ, Bool, false, List, Option, ap, ◌∙◌}
use Rattle.std.specs.Prelude.{is_some}
use Rattle.rtx_tree.specs.declared.code.Mode.{Mode}
use Rattle.rtx_tree.specs.declared.tree.Rtx.{Rtx}
use Rattle.rtx_tree.specs.Code.{mode_or}
use Rattle.rtx_tree.specs.Tree.{head_of}
use Rattle.assign.specs.declared.home.HomeOf.{HomeOf}
use Rattle.assign.specs.declared.places.Layout.{Layout}
use Rattle.md_operand.specs.Operand.{built_in_named}
use Rattle.reload_homes.specs.Homes.{homed}
use Rattle.reload_operands.specs.declared.operand.Base.{Base}
use Rattle.reload_operands.specs.declared.operand.Operand.{Operand}
use Rattle.reload_operands.specs.Put.{in_lowpart}
use Rattle.reload_operands.specs.Bases.{in_slot, base_of}
use Rattle.reload_operands.specs.Changes.{changes_address, other_memory}
use Rattle.reload_operands.specs.Operands.{is_operator_code, is_address_predicate, operand_for}
use Rattle.rtx_open.proofs.Expressions.{rtx, outside_is}
use Rattle.law_plain_matches.proofs.Patterns.{operand}
use Rattle.law_plain_known.proofs.Directed.{Directed}
use Rattle.law_plain_known.proofs.Plainly.{plainly, known_is}
use Rattle.law_plain_standing.proofs.Sorts as sorts
use Rattle.law_plain_standing.proofs.Sorts.{Sort}
use Rattle.law_plain_homed.proofs.Leaves.{HasSort}

module _ (pattern placed with_homes : Rtx) (homes : List HomeOf) (layout : Layout) (k : ℕ) (name : List ℕ) (n : Mode) (x : Rtx) (s : Sort) (sorted : HasSort homes layout x s) where
  abbrev p : Rtx
  p = rtx (operand name k n)

  abbrev pub changed : Bool
  changed = changes_address homes placed with_homes (is_some (base_of homes layout x)) x (homed homes layout x)

  abbrev pub other : Bool
  other = other_memory pattern placed k

  -- what is asked of it besides
  pub record IsFound (mode : Mode) (input output : Bool) : Type 0 where
    pub moded : mode_or (head_of x).mode n ≡ mode
    pub no_address : is_address_predicate (built_in_named name) ≡ false
    pub directed : Directed pattern k input output
    pub whole : in_lowpart pattern placed k ≡ false

  abbrev as_told : Rtx → Mode → Bool → Option Base → Bool → Bool → Operand
  as_told tree mode slot base input output =
      plainly k (record {
        tree = tree;
        mode = mode;
        is_operator = false;
        is_input = input;
        is_output = output;
        in_slot = slot;
        base = base;
        changed_address = changed;
        other_memory = other;
      })

  pub found_is : (mode : Mode) (input output : Bool) → IsFound mode input output → operand_for pattern placed with_homes homes layout k p x ≡ sorts.operand k s mode input output changed other
  found_is mode input output f =
      let here = outside_is (operand name k n) in
      let own = mode_or (head_of x).mode (head_of p).mode in
      let slot = in_slot homes x in
      let base = base_of homes layout x in
      known_is pattern placed with_homes homes layout k p x false input output (record {
        operator_is = ap (λ o. is_operator_code o.code) here;
        scratch_is = sorted.unscratched;
        address_is = ap (λ o. is_address_predicate (built_in_named o.name)) here ∙ f.no_address;
        directed = f.directed;
        whole = f.whole;
      }) ∙
      (ap (λ y. as_told y own slot base input output) sorted.tree_is ∙
      (ap (λ y. as_told (sorts.tree s) y slot base input output) (ap (λ o. mode_or (head_of x).mode o.mode) here ∙ f.moded) ∙
      (ap (λ y. as_told (sorts.tree s) mode y base input output) sorted.slot_is ∙
      ap (λ y. as_told (sorts.tree s) mode (sorts.in_slot s) y input output) sorted.base_is)))

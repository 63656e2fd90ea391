-- What the parts of an alternative say of their operands: each stands at its operand's place, and
-- those with one holder stay or go together.
use Rattle.std.proofs.Common.{◌≡◌, ℕ, zero, suc, Bool, true, false, not, ◌&&◌, ◌||◌, List, [], ◌∷◌, length, map, Option, Some, slice_get, refl, sym, ap, subst, ◌∙◌}
use Rattle.std.specs.Prelude.{is_some}
use Rattle.std.specs.Option.{option_map_or}
use Rattle.std.proofs.lemmas.Bool.{and_parts}
use Rattle.std.proofs.lemmas.List.{length-map}
use Rattle.rtx_tree.specs.declared.tree.Rtx.{out-Rtx}
use Rattle.c_eval.specs.Value.{same_tree}
use Rattle.reload_operands.specs.declared.operand.Operand.{Operand}
use Rattle.reload_moves.specs.declared.fitting.Fitting.{Fitting}
use Rattle.reload_moves.specs.declared.part.Part.{Part}
use Rattle.reload_moves.specs.Moved.{is_marked, holder_of, moved_in, part_of, parts_of}
use Rattle.reload_fit.specs.Fitting.{Asks, has_address_letter, has_address, is_memory_code, fitting_at, fittings_of}
use Rattle.reload_choice.specs.Sound.{SaysOf}
use Rattle.reload_choice.proofs.RoundLaws.{moved_settled}
use Rattle.reload_choice.proofs.HolderLaws.{marked_together, kept_together}
use Rattle.reload_choice.proofs.DigitLaws.{same_itself, fitting_here, as_many, in_order, are_within, is_alike, are_alike}

mapped_from : {X Y : Type 0} (f : X → Y) (xs : List X) (i : ℕ) (y : Y) →
    slice_get (map f xs) i ≡ Some y → (x : X) × (slice_get xs i ≡ Some x) × (y ≡ f x)
mapped_from f [] i y at = absurd (let never : ⊥ = cc in never)
mapped_from f (x ∷ xs) zero y at = (x, refl, let same : y ≡ f x = cc in same)
mapped_from f (x ∷ xs) (suc i) y at = mapped_from f xs i y at

-- what is memory has no base where it needs none
base_none : (base operator memory more : Bool) → base && (not operator && (memory || more)) ≡ false →
    operator ≡ false → memory ≡ true → base ≡ false
base_none true true memory more is other has = absurd (let never : ⊥ = cc in never)
base_none true false true more is other has = absurd (let never : ⊥ = cc in never)
base_none true false false more is other has = absurd (let never : ⊥ = cc in never)
base_none false operator memory more is other has = refl

module _ (asks : Asks) (operands : List Operand) where
  abbrev fits : List Fitting
  fits = fittings_of asks operands

  abbrev moved : List Bool
  moved = moved_in fits

  abbrev parts : List Part
  parts = parts_of fits

  abbrev part_for : ℕ → Operand → Part
  part_for i x = part_of fits moved (fitting_at asks operands i x)

  -- the part at a place is that of the operand there
  part_here : (i : ℕ) (p : Part) → slice_get parts i ≡ Some p →
      (x : Operand) × (slice_get operands i ≡ Some x) × (p ≡ part_for i x)
  part_here i p at =
      let from = mapped_from (part_of fits moved) fits i p at in
      let found = fitting_here asks operands i from.0 from.1 in
      (found.0, found.1, from.2 ∙ ap (part_of fits moved) found.2)

  pub parts_cover : length parts ≡ length operands
  parts_cover = length-map fits (part_of fits moved) ∙ as_many asks operands

  pub part_in_order : (i : ℕ) (p : Part) → slice_get parts i ≡ Some p → p.place ≡ i
  part_in_order i p at = ap (λ (q : Part). q.place) (part_here i p at).2

  operand_here : (i : ℕ) (p : Part) (x : Operand) → slice_get parts i ≡ Some p →
      slice_get operands p.place ≡ Some x → slice_get operands i ≡ Some x
  operand_here i p x at of =
      subst (λ (n : ℕ). slice_get operands n ≡ Some x) (part_in_order i p at) of

  part_is : (i : ℕ) (p : Part) (x : Operand) → slice_get parts i ≡ Some p →
      slice_get operands p.place ≡ Some x → p ≡ part_for i x
  part_is i p x at of =
      let here = part_here i p at in
      let both : Some here.0 ≡ Some x = sym here.1 ∙ operand_here i p x at of in
      let same : here.0 ≡ x = cc in
      here.2 ∙ ap (part_for i) same

  says_for : (i : ℕ) (x : Operand) → SaysOf (part_for i x) x
  says_for i x = record {
    input = refl;
    output = refl;
    far = refl;
    slot_far = refl;
    base = λ based. (and_parts (is_some x.base)
        (not x.is_operator && has_address (asks.asked x.number) x) based).0;
    unbased = λ none other memory. base_none (is_some x.base) x.is_operator
        (is_memory_code (out-Rtx x.tree).code)
        (x.is_address || has_address_letter (asks.asked x.number)) none other memory;
  }

  pub part_says : (i : ℕ) (p : Part) (x : Operand) → slice_get parts i ≡ Some p →
      slice_get operands p.place ≡ Some x → SaysOf p x
  part_says i p x at of =
      subst (λ (q : Part). SaysOf q x) (sym (part_is i p x at of)) (says_for i x)

  holder_here : (i : ℕ) (p : Part) → slice_get parts i ≡ Some p → p.holder ≡ holder_of fits moved i
  holder_here i p at = ap (λ (q : Part). q.holder) (part_here i p at).2

  moved_here : (i : ℕ) (p : Part) → slice_get parts i ≡ Some p → p.is_moved ≡ is_marked moved i
  moved_here i p at = ap (λ (q : Part). q.is_moved) (part_here i p at).2

  one_holder : (i j : ℕ) (p q : Part) → slice_get parts i ≡ Some p → slice_get parts j ≡ Some q →
      p.holder ≡ q.holder → holder_of fits moved i ≡ holder_of fits moved j
  one_holder i j p q at_p at_q one = sym (holder_here i p at_p) ∙ (one ∙ holder_here j q at_q)

  -- operands with one holder are moved both or neither
  pub parts_together : (i j : ℕ) (p q : Part) → slice_get parts i ≡ Some p →
      slice_get parts j ≡ Some q → p.holder ≡ q.holder → p.is_moved ≡ q.is_moved
  parts_together i j p q at_p at_q one =
      moved_here i p at_p ∙
      (marked_together fits moved (in_order asks operands) (are_within asks operands)
      (moved_settled fits (in_order asks operands)) i j (one_holder i j p q at_p at_q one) ∙
      sym (moved_here j q at_q))

  -- and those that aren't moved are the same
  pub parts_kept : (i j : ℕ) (p q : Part) (x y : Operand) → slice_get parts i ≡ Some p →
      slice_get operands p.place ≡ Some x → slice_get parts j ≡ Some q →
      slice_get operands q.place ≡ Some y → p.holder ≡ q.holder → p.is_moved ≡ false →
      same_tree x.tree y.tree ≡ true
  parts_kept i j p q x y at_p of_p at_q of_q one stays =
      let alike : is_alike asks operands y.tree i ≡ is_alike asks operands y.tree j =
      kept_together fits moved (in_order asks operands) (are_within asks operands)
      (moved_settled fits (in_order asks operands)) (is_alike asks operands y.tree)
      (are_alike asks operands y.tree) i j
      (one_holder i j p q at_p at_q one) (sym (moved_here i p at_p) ∙ stays) in
      let at_x : is_alike asks operands y.tree i ≡ same_tree x.tree y.tree =
      ap (λ (o : Option Operand). option_map_or (λ z. same_tree z.tree y.tree) o false)
      (operand_here i p x at_p of_p) in
      let at_y : is_alike asks operands y.tree j ≡ same_tree y.tree y.tree =
      ap (λ (o : Option Operand). option_map_or (λ z. same_tree z.tree y.tree) o false)
      (operand_here j q y at_q of_q) in
      sym at_x ∙ (alike ∙ (at_y ∙ same_itself y.tree))

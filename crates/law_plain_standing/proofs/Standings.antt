-- How an operand stands, by whether its letters admit it.
use Rattle.std.proofs.Common.{◌≡◌, ℕ, Bool, true, false, not, ◌&&◌, ◌||◌, List, [], ◌∷◌, Option, Some, None, refl, ap, ◌∙◌}
use Rattle.std.specs.Prelude.{ℤ, if◌then◌else◌, is_some}
use Rattle.std.specs.List.{list_any}
use Rattle.rtx_tree.specs.declared.code.Mode.{Mode}
use Rattle.rtx_tree.specs.declared.tree.Rtx.{Rtx}
use Rattle.md_text.specs.declared.constraint.Member.{Member}
use Rattle.md_text.specs.declared.constraint.Direction.{Direction}
use Rattle.md_forms.specs.declared.form.Entry.{Entry}
use Rattle.reload_operands.specs.declared.operand.Operand.{Operand}
use Rattle.reload_moves.specs.declared.fitting.Standing.{Standing}
use Rattle.reload_moves.specs.declared.fitting.Standing.TheVariants.{Stays, Far, Tied, Moves}
use Rattle.reload_moves.specs.declared.fitting.Needs.{Needs}
use Rattle.reload_moves.specs.declared.fitting.Fitting.{Fitting}
use Rattle.reload_fit.specs.Addressed.{far_offset}
use Rattle.reload_fit.specs.Fitting.{Asks, asks_address, is_digit, is_narrow_sum, is_admitted, admitted_as, shown, standing_by, standing_of, digits_of, slot_far_of, needs_of, is_based, fitting_at}
use Rattle.plain_forms.specs.Parts.{alternative}
use Rattle.law_plain_known.proofs.Plainly.{Told, plainly}
use Rattle.law_plain_untied.proofs.Parts.{stands}
use Rattle.law_plain_standing.proofs.Sorts.{Sort, tree, in_slot, base, operand}
use Rattle.law_plain_standing.proofs.Asked.{AreLetters, IsAsked, Meets}

-- an operand with letters: it stays where they admit it, and else is moved
abbrev by_parts : Bool → Bool → Bool → Bool → Rtx → Standing
by_parts slot admitted digit address x =
    if false || ((slot && false) || (false || false)) then Moves else if false then Stays else if admitted && not ((false || address) && (slot || is_narrow_sum x)) then admitted_as x else (if digit then Tied else Moves)

parted : (slot admitted digit address : Bool) (x : Rtx) → digit ≡ false → address ≡ false → by_parts slot admitted digit address x ≡ (if admitted then admitted_as x else Moves)
parted slot admitted true address x free also = cc
parted slot admitted false true x free also = cc
parted true true false false x free also = refl
parted true false false false x free also = refl
parted false true false false x free also = refl
parted false false false false x free also = refl

module _ (forms : List Entry) (asks : Asks) (k : ℕ) (ms : List Member) (letters : AreLetters ms) (i : IsAsked forms asks k ms) (s : Sort) (mode : Mode) (input output changed other : Bool) (operands : List Operand) where
  abbrev pub the : Operand
  the = operand k s mode input output changed other

  abbrev pub admitted : Bool
  admitted = is_admitted asks the

  pub standing_is : standing_of asks operands the ≡ (if admitted then admitted_as (tree s) else Moves)
  standing_is =
      ap (λ o. standing_by o operands the admitted) i.asked_is ∙
      parted (in_slot s) admitted (list_any is_digit ms) (list_any asks_address ms) (tree s) letters.digitless letters.addressless

  -- by what is shown of it
  pub admitted_is : admitted ≡ Meets forms (shown (Some (alternative i.direction ms)) the) ms
  admitted_is = i.admits_is (shown (asks.asked k) the) ∙ ap (λ o. Meets forms (shown o the) ms) i.asked_is

  digits_are : digits_of (asks.asked k) operands the ≡ []
  digits_are = ap (λ o. digits_of o operands the) i.asked_is ∙ letters.undigited _ operands the

  pub fitting_is : (place : ℕ) (standing : Standing) (needs : Needs) → standing_of asks operands the ≡ standing → needs_of (asks.asked k) the ≡ needs → fitting_at asks operands place the ≡ stands place standing needs
  fitting_is place standing needs one other =
      let digits = digits_of (asks.asked k) operands the in
      ap (λ x. record { place = place; standing = x; digits = digits; needs = needs_of (asks.asked k) the }) one ∙
      (ap (λ x. record { place = place; standing = standing; digits = x; needs = needs_of (asks.asked k) the }) digits_are ∙
      ap (λ x. record { place = place; standing = standing; digits = []; needs = x }) other)

-- Of two operands, none of them tied, an alternative is reachable where each of them may be moved as it
-- stands.
use Rattle.std.proofs.Common.{◌≡◌, Bool, true, ◌&&◌, List, [], ◌∷◌, refl, ap, ◌∙◌}
use Rattle.reload_operands.specs.declared.operand.Operand.{Operand}
use Rattle.reload_moves.specs.declared.fitting.Standing.{Standing}
use Rattle.reload_moves.specs.declared.fitting.Fitting.{Fitting}
use Rattle.reload_moves.specs.declared.fitting.Needs.{Needs}
use Rattle.reload_moves.specs.declared.part.Part.{Part}
use Rattle.reload_moves.specs.Moved.{parts_of}
use Rattle.reload_fit.specs.Fitting.{Asks}
use Rattle.reload_choice.specs.declared.given.Given.{Given}
use Rattle.reload_choice.specs.Movable.{shares_well, shares_with_all, all_share_well, part_is_good, all_good, part_may_move, all_may_move, has_registers, is_suited, stays_formed, is_reachable}
use Rattle.law_plain_untied.proofs.Parts.{stands, part, IsUntied, two_parts}
use Rattle.law_plain_untied.proofs.Asked.{suffice}
use Rattle.law_plain_reach.proofs.Tests.{both_true}
use Rattle.law_plain_reach.proofs.Each.{IsSelf, apart, with_itself}

module _ (x y : Operand) (s t : Standing) (m n : Needs) where
  abbrev pub operands : List Operand
  operands = x ∷ y ∷ []

  abbrev pub fits : List Fitting
  fits = stands 0 s m ∷ stands 1 t n ∷ []

  abbrev pub p : Part
  p = part 0 s m

  abbrev pub q : Part
  q = part 1 t n

  abbrev pub parts : List Part
  parts = p ∷ q ∷ []

  both_of : (u v : Bool) → u ≡ true → v ≡ true → (u && (v && true)) ≡ true
  both_of u v one two = both_true u (v && true) one (both_true v true two refl)

  shared : IsSelf x → IsSelf y → all_share_well operands parts ≡ true
  shared one two =
      both_of (shares_with_all operands parts p) (shares_with_all operands parts q)
      (both_of (shares_well operands p p) (shares_well operands p q) (with_itself operands p x refl one) (apart operands p q refl))
      (both_of (shares_well operands q p) (shares_well operands q q) (apart operands q p refl) (with_itself operands q y refl two))

  module _ (asks : Asks) (given : Given) (formed : List Bool) where
    -- all that is asked
    pub record IsSuited : Type 0 where
      pub operands_are : given.operands ≡ operands
      pub enough : suffice parts ≡ true
      pub self_0 : IsSelf x
      pub self_1 : IsSelf y
      pub good_0 : part_is_good given p ≡ true
      pub good_1 : part_is_good given q ≡ true
      pub moves_0 : part_may_move asks operands fits formed p ≡ true
      pub moves_1 : part_may_move asks operands fits formed q ≡ true
      pub formed_is : stays_formed given parts ≡ true

    by_parts : IsSuited → is_reachable asks operands given fits formed parts ≡ true
    by_parts i =
        let share = ap (λ xs. all_share_well xs parts) i.operands_are ∙ shared i.self_0 i.self_1 in
        let good = both_of (part_is_good given p) (part_is_good given q) i.good_0 i.good_1 in
        let move = both_of (part_may_move asks operands fits formed p) (part_may_move asks operands fits formed q) i.moves_0 i.moves_1 in
        both_true (has_registers parts) (is_suited asks operands given fits formed parts && stays_formed given parts) i.enough
        (both_true (is_suited asks operands given fits formed parts) (stays_formed given parts)
        (both_true (all_share_well given.operands parts && all_good given parts) (all_may_move asks operands fits formed parts) (both_true (all_share_well given.operands parts) (all_good given parts) share good) move) i.formed_is)

    pub reachable : IsUntied s → IsUntied t → IsSuited → is_reachable asks operands given fits formed (parts_of fits) ≡ true
    reachable free also i = ap (is_reachable asks operands given fits formed) (two_parts s t m n free also) ∙ by_parts i

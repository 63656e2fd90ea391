-- Of three operands, none of them tied, an alternative is reachable where each of them may be moved as
-- it stands.
use Rattle.std.proofs.Common.{◌≡◌, Bool, true, ◌&&◌, List, [], ◌∷◌, refl, ap, ◌∙◌}
use Rattle.reload_operands.specs.declared.operand.Operand.{Operand}
use Rattle.reload_moves.specs.declared.fitting.Fitting.{Fitting}
use Rattle.reload_moves.specs.declared.fitting.Needs.{Needs}
use Rattle.reload_moves.specs.declared.part.Part.{Part}
use Rattle.reload_moves.specs.Moved.{parts_of}
use Rattle.reload_fit.specs.Fitting.{Asks}
use Rattle.reload_choice.specs.declared.given.Given.{Given}
use Rattle.reload_choice.specs.Movable.{shares_well, shares_with_all, all_share_well, part_is_good, all_good, part_may_move, all_may_move, has_registers, is_suited, stays_formed, is_reachable}
use Rattle.law_plain_untied.proofs.Parts.{stands, part, settled, three_parts}
use Rattle.law_plain_untied.proofs.Asked.{suffice}
use Rattle.law_plain_reach.proofs.Tests.{both_true}
use Rattle.law_plain_reach.proofs.Each.{IsSelf, apart, with_itself}

module _ (x y z : Operand) (b c d : Bool) (m n o : Needs) where
  abbrev pub operands : List Operand
  operands = x ∷ y ∷ z ∷ []

  abbrev pub fits : List Fitting
  fits = stands 0 (settled b) m ∷ stands 1 (settled c) n ∷ stands 2 (settled d) o ∷ []

  abbrev pub p : Part
  p = part 0 (settled b) m

  abbrev pub q : Part
  q = part 1 (settled c) n

  abbrev pub r : Part
  r = part 2 (settled d) o

  abbrev pub parts : List Part
  parts = p ∷ q ∷ r ∷ []

  -- what three tests say of one list of three
  all_three : (u v w : Bool) → u ≡ true → v ≡ true → w ≡ true → (u && (v && (w && true))) ≡ true
  all_three u v w one two three = both_true u (v && (w && true)) one (both_true v (w && true) two (both_true w true three refl))

  shared : IsSelf x → IsSelf y → IsSelf z → all_share_well operands parts ≡ true
  shared one two three =
      all_three (shares_with_all operands parts p) (shares_with_all operands parts q) (shares_with_all operands parts r)
      (all_three (shares_well operands p p) (shares_well operands p q) (shares_well operands p r) (with_itself operands p x refl one) (apart operands p q refl) (apart operands p r refl))
      (all_three (shares_well operands q p) (shares_well operands q q) (shares_well operands q r) (apart operands q p refl) (with_itself operands q y refl two) (apart operands q r refl))
      (all_three (shares_well operands r p) (shares_well operands r q) (shares_well operands r r) (apart operands r p refl) (apart operands r q refl) (with_itself operands r z refl three))

  module _ (asks : Asks) (given : Given) (formed : List Bool) where
    -- all that is asked
    pub record IsSuited : Type 0 where
      pub operands_are : given.operands ≡ operands
      pub enough : suffice parts ≡ true
      pub self_0 : IsSelf x
      pub self_1 : IsSelf y
      pub self_2 : IsSelf z
      pub good_0 : part_is_good given p ≡ true
      pub good_1 : part_is_good given q ≡ true
      pub good_2 : part_is_good given r ≡ true
      pub moves_0 : part_may_move asks operands fits formed p ≡ true
      pub moves_1 : part_may_move asks operands fits formed q ≡ true
      pub moves_2 : part_may_move asks operands fits formed r ≡ true
      pub formed_is : stays_formed given parts ≡ true

    by_parts : IsSuited → is_reachable asks operands given fits formed parts ≡ true
    by_parts s =
        let share = ap (λ xs. all_share_well xs parts) s.operands_are ∙ shared s.self_0 s.self_1 s.self_2 in
        let good = all_three (part_is_good given p) (part_is_good given q) (part_is_good given r) s.good_0 s.good_1 s.good_2 in
        let move = all_three (part_may_move asks operands fits formed p) (part_may_move asks operands fits formed q) (part_may_move asks operands fits formed r) s.moves_0 s.moves_1 s.moves_2 in
        both_true (has_registers parts) (is_suited asks operands given fits formed parts && stays_formed given parts) s.enough
        (both_true (is_suited asks operands given fits formed parts) (stays_formed given parts)
        (both_true (all_share_well given.operands parts && all_good given parts) (all_may_move asks operands fits formed parts) (both_true (all_share_well given.operands parts) (all_good given parts) share good) move) s.formed_is)

    pub reachable : IsSuited → is_reachable asks operands given fits formed (parts_of fits) ≡ true
    reachable s = ap (is_reachable asks operands given fits formed) (three_parts b c d m n o) ∙ by_parts s

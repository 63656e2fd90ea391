-- Where no digit ties an operand to another, each that is moved stands for itself.
use Rattle.std.proofs.Common.{◌≡◌, ℕ, Bool, true, false, List, [], ◌∷◌, refl}
use Rattle.reload_moves.specs.declared.fitting.Standing.{Standing}
use Rattle.reload_moves.specs.declared.fitting.Standing.TheVariants.{Stays, Far, Tied, Moves}
use Rattle.reload_moves.specs.declared.fitting.Needs.{Needs}
use Rattle.reload_moves.specs.declared.fitting.Fitting.{Fitting}
use Rattle.reload_moves.specs.declared.part.Part.{Part}
use Rattle.reload_moves.specs.Moved.{moves, is_tied, parts_of}

-- an operand at a place, without digits
abbrev pub stands : ℕ → Standing → Needs → Fitting
stands place standing needs = record { place = place; standing = standing; digits = []; needs = needs }

-- what it comes to: it stands for itself
abbrev pub part : ℕ → Standing → Needs → Part
part place standing needs = record { place = place; holder = place; is_moved = moves standing; needs = needs }

-- an operand stays at a far base, stays, or is moved
abbrev pub IsUntied : Standing → Type 0
IsUntied s = is_tied s ≡ false

pub no_parts : parts_of [] ≡ []
no_parts = refl

pub one_part : (s : Standing) (m : Needs) → IsUntied s → parts_of (stands 0 s m ∷ []) ≡ part 0 s m ∷ []
one_part Stays m free = refl
one_part Far m free = refl
one_part Moves m free = refl
one_part Tied m free = absurd (let no : ⊥ = cc in no)

pub two_parts : (s t : Standing) (m n : Needs) → IsUntied s → IsUntied t → parts_of (stands 0 s m ∷ stands 1 t n ∷ []) ≡ part 0 s m ∷ part 1 t n ∷ []
two_parts Tied t m n free other = absurd (let no : ⊥ = cc in no)
two_parts Stays Stays m n free other = refl
two_parts Stays Far m n free other = refl
two_parts Stays Moves m n free other = refl
two_parts Stays Tied m n free other = absurd (let no : ⊥ = cc in no)
two_parts Far Stays m n free other = refl
two_parts Far Far m n free other = refl
two_parts Far Moves m n free other = refl
two_parts Far Tied m n free other = absurd (let no : ⊥ = cc in no)
two_parts Moves Stays m n free other = refl
two_parts Moves Far m n free other = refl
two_parts Moves Moves m n free other = refl
two_parts Moves Tied m n free other = absurd (let no : ⊥ = cc in no)

-- ---- more operands, none of which is far

abbrev pub settled : Bool → Standing
settled true = Moves
settled false = Stays

pub three_parts : (b c d : Bool) (m n o : Needs) →
    parts_of (stands 0 (settled b) m ∷ stands 1 (settled c) n ∷ stands 2 (settled d) o ∷ []) ≡ part 0 (settled b) m ∷ part 1 (settled c) n ∷ part 2 (settled d) o ∷ []
three_parts true true true m n o = refl
three_parts true true false m n o = refl
three_parts true false true m n o = refl
three_parts true false false m n o = refl
three_parts false true true m n o = refl
three_parts false true false m n o = refl
three_parts false false true m n o = refl
three_parts false false false m n o = refl

-- an operator, what it compares, and a label
pub four_parts : (b c : Bool) (m n o p : Needs) →
    parts_of (stands 0 Stays m ∷ stands 1 (settled b) n ∷ stands 2 (settled c) o ∷ stands 3 Stays p ∷ []) ≡
    part 0 Stays m ∷ part 1 (settled b) n ∷ part 2 (settled c) o ∷ part 3 Stays p ∷ []
four_parts true true m n o p = refl
four_parts true false m n o p = refl
four_parts false true m n o p = refl
four_parts false false m n o p = refl

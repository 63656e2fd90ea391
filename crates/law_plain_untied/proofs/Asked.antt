-- Four registers suffice for the operands of the plain forms: each that is moved has its own, and a
-- result that is moved has one more for a far base.
use Rattle.std.proofs.Common.{◌≡◌, ℕ, Bool, true, false, List, [], ◌∷◌, length, Option, Some, None, nat_le, refl}
use Rattle.std.specs.Prelude.{ℤ}
use Rattle.reload_moves.specs.declared.fitting.Standing.TheVariants.{Stays}
use Rattle.reload_moves.specs.declared.fitting.Needs.{Needs}
use Rattle.reload_moves.specs.declared.part.Part.{Part}
use Rattle.reload_moves.specs.Registers.{asks_of}
use Rattle.law_plain_untied.proofs.Parts.{part, settled}

abbrev pub suffice : List Part → Bool
suffice parts = nat_le (length (asks_of parts)) 4

-- what an operand asks for
abbrev pub needs : Bool → Bool → Bool → Option ℤ → Option ℤ → Needs
needs input output base slot_far far = record { is_input = input; is_output = output; has_base = base; slot_far = slot_far; far = far }

-- ---- a result, and inputs without a base: a register that stays, or what is moved

-- a result that stays is a register, so it is not far; one that is moved may be
abbrev pub result : Bool → Option ℤ → Needs
result true far = needs false true false None far
result false far = needs false true false None None

-- an input that stays is not far
abbrev pub input : Bool → Option ℤ → Needs
input true far = needs true false false None far
input false far = needs true false false None None

pub set_of_two : (b c d : Bool) (x y z : Option ℤ) → suffice (part 0 (settled b) (result b x) ∷ part 1 (settled c) (input c y) ∷ part 2 (settled d) (input d z) ∷ []) ≡ true
set_of_two true true true None y z = refl
set_of_two true true true (Some x) y z = refl
set_of_two true true false None y z = refl
set_of_two true true false (Some x) y z = refl
set_of_two true false true None y z = refl
set_of_two true false true (Some x) y z = refl
set_of_two true false false None y z = refl
set_of_two true false false (Some x) y z = refl
set_of_two false true true x y z = refl
set_of_two false true false x y z = refl
set_of_two false false true x y z = refl
set_of_two false false false x y z = refl

-- an operator, what it compares, and a label
-- (all stand inside the value that is taken)
abbrev pub taken : Needs
taken = needs true false false None None

pub branch : (c d : Bool) (y z : Option ℤ) → suffice (part 0 Stays taken ∷ part 1 (settled c) (input c y) ∷ part 2 (settled d) (input d z) ∷ part 3 Stays taken ∷ []) ≡ true
branch true true y z = refl
branch true false y z = refl
branch false true y z = refl
branch false false y z = refl

-- ---- a result, and one input that may be memory with a base

abbrev pub memory : Bool → Bool → Option ℤ → Option ℤ → Needs
memory true base slot_far far = needs true false base slot_far far
memory false base slot_far far = needs true false false None None

pub set_of_one : (b c base : Bool) (x y z : Option ℤ) → suffice (part 0 (settled b) (result b x) ∷ part 1 (settled c) (memory c base y z) ∷ []) ≡ true
set_of_one true true true None y z = refl
set_of_one true true true (Some x) y z = refl
set_of_one true true false None y z = refl
set_of_one true true false (Some x) y z = refl
set_of_one true false base None y z = refl
set_of_one true false base (Some x) y z = refl
set_of_one false true true x y z = refl
set_of_one false true false x y z = refl
set_of_one false false base x y z = refl

-- ---- a store: memory that stays, near or far, perhaps with a base in a slot

abbrev unmoved : ℕ → Needs → Part
unmoved place n = record { place = place; holder = place; is_moved = false; needs = n }

pub store : (c base : Bool) (x y z : Option ℤ) → suffice (unmoved 0 (needs false true base x y) ∷ part 1 (settled c) (input c z) ∷ []) ≡ true
store true true x None z = refl
store true true x (Some y) z = refl
store true false x None z = refl
store true false x (Some y) z = refl
store false true x None z = refl
store false true x (Some y) z = refl
store false false x None z = refl
store false false x (Some y) z = refl

-- ---- a call, a jump and a return

pub call : (b : Bool) (x : Option ℤ) → suffice (part 0 (settled b) (input b x) ∷ part 1 Stays taken ∷ []) ≡ true
call true x = refl
call false x = refl

pub jump : suffice (part 0 Stays taken ∷ []) ≡ true
jump = refl

pub return : suffice [] ≡ true
return = refl

-- The moves of an instruction's operands, in order: GCC Internals, "RTL passes" (reload), "Standard
-- Pattern Names For Generation" (movm). A move is small data, and names operands by their places.
use Rattle.std.specs.Prelude.{ℕ, ℤ, ◌==◌, nat_lt, Bool, not, ◌&&◌, ◌||◌, List, [], ◌∷◌, ◌++◌, flat_map, Option, Some, None, is_some, if◌then◌else◌}
use Rattle.std.specs.List.{list_any}
use Rattle.reload_moves.specs.declared.part.Part.{Part}
use Rattle.reload_moves.specs.declared.ask.What.TheVariants.{Own, StayingFar, ResultFar}
use Rattle.reload_moves.specs.declared.ask.Ask.{Ask}
use Rattle.reload_moves.specs.declared.moves.Move.{Move}
use Rattle.reload_moves.specs.declared.moves.Move.TheVariants.{Far, Base, In, Out}
use Rattle.reload_moves.specs.Registers.{ask, base_ask, holds_base, is_result, stays_far, register_for}

-- ---- the registers of an operand

abbrev pub own_of : List Ask → Part → ℕ
own_of asks p = register_for asks (ask Own p.holder)

-- the base of what is moved as an input alone goes through its own register
abbrev pub base_of : List Ask → Part → ℕ
base_of asks p = if holds_base p then register_for asks (base_ask p) else own_of asks p

abbrev pub far_of : List Ask → Part → ℕ
far_of asks p = register_for asks (ask StayingFar p.holder)

abbrev pub end_far_of : List Ask → Part → ℕ
end_far_of asks p = register_for asks (ask ResultFar p.place)

-- ---- what is moved once

-- an operand stands in front of one with which it shares
abbrev pub is_in_front : Part → Part → Bool
is_in_front p q = nat_lt q.place p.place && (q.holder == p.holder)

-- one that shares with it and stands in front of it passes a test
abbrev pub any_in_front : (Part → Bool) → List Part → Part → Bool
any_in_front test parts p = list_any (λ q. is_in_front p q && test q) parts

-- an input that is moved
abbrev pub comes_in : Part → Bool
comes_in p = p.is_moved && p.needs.is_input

-- inputs that share a register are moved once
abbrev pub comes_in_first : List Part → Part → Bool
comes_in_first parts p = comes_in p && not (any_in_front comes_in parts p)

abbrev pub stays_based : Part → Bool
stays_based p = not p.is_moved && p.needs.has_base

abbrev pub stays_based_first : List Part → Part → Bool
stays_based_first parts p = stays_based p && not (any_in_front stays_based parts p)

abbrev pub stays_far_first : List Part → Part → Bool
stays_far_first parts p = stays_far p && not (any_in_front stays_far parts p)

-- A base is loaded once for those of what stays that share it, for each result, and for an input
-- that is moved.
abbrev pub loads_base : List Part → Part → Bool
loads_base parts p =
    p.needs.has_base && (stays_based_first parts p || (is_result p || comes_in_first parts p))

-- ---- moves

-- a far base is made right before what uses it
abbrev pub far_to : ℕ → Option ℤ → List Move
far_to into None = []
far_to into (Some offset) = Far into offset ∷ []

-- the base of an operand, through itself where its slot is far
abbrev pub base_load : List Ask → Part → List Move
base_load asks p = far_to (base_of asks p) p.needs.slot_far ++ Base (base_of asks p) p.place ∷ []

abbrev pub base_moves : List Ask → List Part → Part → List Move
base_moves asks parts p = if loads_base parts p then base_load asks p else []

-- the register in the address of what is moved in: a far memory is loaded through its own register
abbrev pub in_base : List Ask → Part → Option ℕ
in_base asks p = if is_some p.needs.far then Some (own_of asks p) else (if p.needs.has_base then Some (base_of asks p) else None)

-- an input into its own register
abbrev pub in_load : List Ask → Part → List Move
in_load asks p =
    far_to (own_of asks p) p.needs.far ++ In (own_of asks p) p.place (in_base asks p) ∷ []

abbrev pub in_moves : List Ask → List Part → Part → List Move
in_moves asks parts p = if comes_in_first parts p then in_load asks p else []

-- the far base of what stays, made once for those that share it
abbrev pub far_moves : List Ask → List Part → Part → List Move
far_moves asks parts p = if stays_far_first parts p then far_to (far_of asks p) p.needs.far else []

-- the register in the address of what is moved out
abbrev pub out_base : List Ask → Part → Option ℕ
out_base asks p = if is_some p.needs.far then Some (end_far_of asks p) else (if p.needs.has_base then Some (base_of asks p) else None)

-- a result out of its own register
abbrev pub out_store : List Ask → Part → List Move
out_store asks p =
    far_to (end_far_of asks p) p.needs.far ++ Out (own_of asks p) p.place (out_base asks p) ∷ []

abbrev pub out_moves : List Ask → Part → List Move
out_moves asks p = if is_result p then out_store asks p else []

abbrev pub turn_moves : List Ask → List Part → Part → List Move
turn_moves asks parts p = base_moves asks parts p ++ in_moves asks parts p

-- before the instruction: of each operand in order its base and then itself; then the far bases of
-- what stays
abbrev pub moves_before : List Ask → List Part → List Move
moves_before asks parts =
    flat_map (turn_moves asks parts) parts ++ flat_map (far_moves asks parts) parts

-- after it: each result in order
abbrev pub moves_after : List Ask → List Part → List Move
moves_after asks parts = flat_map (out_moves asks) parts

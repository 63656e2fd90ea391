-- The registers that an alternative needs: RISC-V ELF psABI, "Integer Register Convention" (t3 to
-- t6); GCC Internals, "RTL passes" (reload). What asks for a register stands in a list, and the
-- k-th of it has t3 + k.
use Rattle.std.specs.Prelude.{ℕ, ◌+◌, ◌==◌, Bool, not, ◌&&◌, ◌||◌, List, [], ◌∷◌, ◌++◌, is_some, if◌then◌else◌}
use Rattle.std.specs.List.{list_any, position_from}
use Rattle.std.specs.Option.{unwrap_or}
use Rattle.reload_moves.specs.declared.part.Part.{Part}
use Rattle.reload_moves.specs.declared.ask.What.{What}
use Rattle.reload_moves.specs.declared.ask.What.TheVariants.{Own, StayingBase, ResultBase, StayingFar, ResultFar}
use Rattle.reload_moves.specs.declared.ask.Ask.{Ask}

-- ---- what asks

abbrev pub ask : What → ℕ → Ask
ask what place = record { what = what; place = place }

abbrev pub rank : What → ℕ
rank Own = 0
rank StayingBase = 1
rank ResultBase = 2
rank StayingFar = 3
rank ResultFar = 4

abbrev pub same_ask : Ask → Ask → Bool
same_ask a b = (rank a.what == rank b.what) && (a.place == b.place)

abbrev pub is_asked : List Ask → Ask → Bool
is_asked asks a = list_any (same_ask a) asks

-- what asks already asks for nothing new
abbrev pub with_ask : List Ask → Ask → List Ask
with_ask asks a = if is_asked asks a then asks else asks ++ a ∷ []

abbrev pub with_ask_if : Bool → List Ask → Ask → List Ask
with_ask_if needed asks a = if needed then with_ask asks a else asks

-- ---- who asks

-- an operand that is moved after the instruction
abbrev pub is_result : Part → Bool
is_result p = p.is_moved && p.needs.is_output

-- a slot holds its base, which the instruction or a move behind it names
abbrev pub holds_base : Part → Bool
holds_base p = p.needs.has_base && (not p.is_moved || p.needs.is_output)

abbrev pub base_ask : Part → Ask
base_ask p = if p.is_moved then ask ResultBase p.place else ask StayingBase p.holder

-- a far memory that stays
abbrev pub stays_far : Part → Bool
stays_far p = not p.is_moved && is_some p.needs.far

-- a far memory into which a result is moved
abbrev pub ends_far : Part → Bool
ends_far p = is_result p && is_some p.needs.far

-- ---- their order

-- in an operand's turn: its own register where it is moved; one for its base, of what stays or of a
-- result; one for the far base of what stays
abbrev pub with_turn : List Ask → Part → List Ask
with_turn asks p =
    with_ask_if (stays_far p) (with_ask_if (holds_base p) (with_ask_if p.is_moved asks (ask Own p.holder)) (base_ask p)) (ask StayingFar p.holder)

abbrev pub with_turns : List Ask → List Part → List Ask
with_turns asks [] = asks
with_turns asks (p ∷ ps) = with_turns (with_turn asks p) ps

-- behind all of these: one for the far base of each far memory into which a result is moved
abbrev pub with_end : List Ask → Part → List Ask
with_end asks p = with_ask_if (ends_far p) asks (ask ResultFar p.place)

abbrev pub with_ends : List Ask → List Part → List Ask
with_ends asks [] = asks
with_ends asks (p ∷ ps) = with_ends (with_end asks p) ps

abbrev pub asks_of : List Part → List Ask
asks_of parts = with_ends (with_turns [] parts) parts

-- ---- their registers

-- the k-th that asks has t3 + k; what doesn't ask has none of t3 to t6
abbrev pub register_for : List Ask → Ask → ℕ
register_for asks a = 28 + unwrap_or (position_from (same_ask a) 0 asks) 4

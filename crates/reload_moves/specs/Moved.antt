-- Which operands are moved in an alternative, and which share a register: GCC Internals, "Simple
-- Constraints" (digits). Operands are named by their places, and a row has a mark for each.
use Rattle.std.specs.Prelude.{ℕ, ◌==◌, Bool, true, false, not, ◌&&◌, ◌||◌, List, [], ◌∷◌, map, min, Option, Some, None, slice_get, if◌then◌else◌}
use Rattle.std.specs.List.{list_all, list_any, find}
use Rattle.std.specs.Option.{option_map, option_map_or, unwrap_or}
use Rattle.reload_moves.specs.declared.fitting.Standing.{Standing}
use Rattle.reload_moves.specs.declared.fitting.Standing.TheVariants.{Tied, Moves}
use Rattle.reload_moves.specs.declared.fitting.Digit.{Digit}
use Rattle.reload_moves.specs.declared.fitting.Fitting.{Fitting}
use Rattle.reload_moves.specs.declared.part.Part.{Part}

-- ---- rows

abbrev pub is_marked : List Bool → ℕ → Bool
is_marked row place = unwrap_or (slice_get row place) false

-- as many rounds as there are operands, each of which marks more; one more would add nothing
abbrev pub rounds : (List Bool → List Bool) → List Fitting → List Bool → List Bool
rounds step [] row = row
rounds step (_ ∷ more) row = rounds step more (step row)

-- ---- what is moved

abbrev pub moves : Standing → Bool
moves Moves = true
moves _ = false

abbrev pub is_tied : Standing → Bool
is_tied Tied = true
is_tied _ = false

abbrev pub is_other : List Bool → Digit → Bool
is_other moved d = not d.same || is_marked moved d.place

-- each of some digits names an operand that is another tree or is moved
abbrev pub are_other : List Bool → List Digit → Bool
are_other moved ds = list_all (is_other moved) ds

-- A tied operand is torn where each of its digits names an operand that is another tree or is
-- moved, and where it is itself moved, since another is torn from it.
abbrev pub is_torn : List Bool → Fitting → Bool
is_torn moved f = is_tied f.standing && (is_marked moved f.place || are_other moved f.digits)

abbrev pub names_first : ℕ → List Digit → Bool
names_first place [] = false
names_first place (d ∷ more) = d.place == place

abbrev pub draws : List Bool → ℕ → Fitting → Bool
draws moved place f = is_torn moved f && names_first place f.digits

-- a torn operand names it first
abbrev pub is_drawn : List Fitting → List Bool → ℕ → Bool
is_drawn fits moved place = list_any (draws moved place) fits

-- what was moved, what is torn, and what a torn operand names first
abbrev pub is_moved_next : List Fitting → List Bool → Fitting → Bool
is_moved_next fits moved f =
    is_marked moved f.place || (is_torn moved f || is_drawn fits moved f.place)

abbrev pub round : List Fitting → List Bool → List Bool
round fits moved = map (is_moved_next fits moved) fits

abbrev pub those_that_move : List Fitting → List Bool
those_that_move fits = map (λ f. moves f.standing) fits

-- Where a digit's operand isn't the same as the one that it names, or that one is moved, both are
-- moved: the least such set.
abbrev pub moved_in : List Fitting → List Bool
moved_in fits = rounds (round fits) fits (those_that_move fits)

-- ---- what shares a register, or a base

abbrev pub first_of : List Digit → Option ℕ
first_of [] = None
first_of (d ∷ more) = Some d.place

abbrev pub is_kept : List Bool → Digit → Bool
is_kept moved d = d.same && not (is_marked moved d.place)

abbrev pub first_kept : List Bool → List Digit → Option Digit
first_kept moved ds = find (is_kept moved) ds

-- the first operand that is the same tree and isn't moved
abbrev pub kept_of : List Bool → List Digit → Option ℕ
kept_of moved ds = option_map (λ d. d.place) (first_kept moved ds)

abbrev pub named_by : List Bool → Fitting → Option ℕ
named_by moved f = if is_marked moved f.place then first_of f.digits else kept_of moved f.digits

-- the operand with which a tied one shares: where it is moved, the first that it names, else the
-- first that is the same and not moved
abbrev pub link_of : List Bool → Fitting → ℕ
link_of moved f = if is_tied f.standing then unwrap_or (named_by moved f) f.place else f.place

abbrev pub link : List Fitting → List Bool → ℕ → ℕ
link fits moved place = option_map_or (link_of moved) (slice_get fits place) place

-- the place as many links on as there are operands
abbrev pub end_of : (ℕ → ℕ) → List Fitting → ℕ → ℕ
end_of next [] place = place
end_of next (_ ∷ more) place = end_of next more (next place)

-- the least place on so many links
abbrev pub least_on : (ℕ → ℕ) → List Fitting → ℕ → ℕ → ℕ
least_on next [] least place = least
least_on next (_ ∷ more) least place = least_on next more (min least (next place)) (next place)

-- The operand that stands for those that share with it: the one at the end of the links, or the
-- least of those that name each other in a circle.
abbrev pub holder_of : List Fitting → List Bool → ℕ → ℕ
holder_of fits moved place =
    let end = end_of (link fits moved) fits place in least_on (link fits moved) fits end end

-- ---- each operand, once it is settled what is moved

abbrev pub part_of : List Fitting → List Bool → Fitting → Part
part_of fits moved f = record {
  place = f.place;
  holder = holder_of fits moved f.place;
  is_moved = is_marked moved f.place;
  needs = f.needs;
}

abbrev pub parts_in : List Fitting → List Bool → List Part
parts_in fits moved = map (part_of fits moved) fits

abbrev pub parts_of : List Fitting → List Part
parts_of fits = parts_in fits (moved_in fits)

-- ---- where digits lead

abbrev pub leads_to : List Digit → ℕ → Bool
leads_to ds place = list_any (λ d. d.place == place) ds

abbrev pub leads : List Bool → ℕ → Fitting → Bool
leads row place g = is_marked row g.place && leads_to g.digits place

abbrev pub one_leads : List Fitting → List Bool → ℕ → Bool
one_leads fits row place = list_any (leads row place) fits

-- an operand is marked, or the digits of a marked one lead to it
abbrev pub is_led_to : List Fitting → List Bool → Fitting → Bool
is_led_to fits row f = is_marked row f.place || one_leads fits row f.place

abbrev pub lead : List Fitting → List Bool → List Bool
lead fits row = map (is_led_to fits row) fits

abbrev pub only : List Fitting → ℕ → List Bool
only fits place = map (λ f. f.place == place) fits

-- the operand itself, and those to which its digits lead
abbrev pub led_from : List Fitting → ℕ → List Bool
led_from fits place = rounds (lead fits) fits (only fits place)

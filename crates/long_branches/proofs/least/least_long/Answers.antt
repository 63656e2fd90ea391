-- The set grows from none, and what grew is least where a round changes nothing.
use Rattle.std.proofs.Common.{ℕ, length, replicate, rules, ◌≡◌, Bool, false, List, sym, subst}
use Rattle.long_branches.specs.Branches.{ArePlaces, IsLeast}
use Rattle.long_branches.specs.machine.Rounds.{IsRound, HasGrown}
use Rattle.long_branches.specs.declared.piece.Piece.{Piece}
use Rattle.long_branches.proofs.Flags.{whole}
use Rattle.long_branches.proofs.Rounds.{least_is_one, least_then, grown_then, nothing_grown}
use Rattle.long_branches.proofs.least.least_long.Goals as goal

pub returns-in_err-longs-clause-one : goal.returns-in_err-longs-clause-one
returns-in_err-longs-clause-one c = least_is_one

pub returns-in_err-places-clause-one : goal.returns-in_err-places-clause-one
returns-in_err-places-clause-one c = least_is_one

pub returns-then-not-grow-clause-one : goal.returns-then-not-grow-clause-one
returns-then-not-grow-clause-one c = least_is_one

pub rounds-init : goal.rounds-init
rounds-init c =
    let none : c.in_ok-longs.longs.items ≡ replicate (length c.args.pieces.now) false = search rules in
    subst (HasGrown c.args.pieces.now) (sym none) (nothing_grown c.args.pieces.now)

-- the places are those of the flags, and the round is one of them
here : (pieces : List Piece) (old read written : List Bool) (places lent : List ℕ) (new : List Bool) (some : Bool) → read ≡ old → written ≡ old → lent ≡ places → ArePlaces pieces read places → IsRound pieces lent written new (length pieces) some → ArePlaces pieces old places × IsRound pieces places old new (length pieces) some
here pieces old read written places lent new some read_is written_is lent_is are round =
    let A : List Bool → Type 0 = λ flags. ArePlaces pieces flags places in
    let P : List ℕ → Type 0 = λ ns. IsRound pieces ns written new (length pieces) some in
    let R : List Bool → Type 0 = λ flags. IsRound pieces places flags new (length pieces) some in
    (subst A read_is are, subst R written_is (subst P lent_is round))

pub rounds-preserved : goal.rounds-preserved
rounds-preserved c =
    let facts = here c.args.pieces.now c.rounds.longs.items c.deref.result.now c.deref_mut.result.now c.in_ok-places.places c.as_slice.result.now c.grow.new.longs c.grow.result c.deref.ensures.value c.deref_mut.ensures.value c.as_slice.ensures.value c.in_ok-places.ensures c.grow.ensures in
    let over = whole c.grow.new.longs c.rounds.longs.items c.rounds.longs.len c.rounds.longs.ok.0 facts.1.has_each in
    subst (HasGrown c.args.pieces.now) (sym over) (grown_then c.args.pieces.now c.in_ok-places.places c.rounds.longs.items c.grow.new.longs c.grow.result facts.0 facts.1 c.rounds.invariant)

pub returns-then-not-grow-clause-least : goal.returns-then-not-grow-clause-least
returns-then-not-grow-clause-least c =
    let facts = here c.args.pieces.now c.rounds.longs.items c.deref.result.now c.deref_mut.result.now c.in_ok-places.places c.as_slice.result.now c.grow.new.longs c.grow.result c.deref.ensures.value c.deref_mut.ensures.value c.as_slice.ensures.value c.in_ok-places.ensures c.grow.ensures in
    let over = whole c.grow.new.longs c.rounds.longs.items c.rounds.longs.len c.rounds.longs.ok.0 facts.1.has_each in
    subst (IsLeast c.args.pieces.now) (sym over) (least_then c.args.pieces.now c.in_ok-places.places c.rounds.longs.items c.grow.new.longs c.grow.result c.rounds.invariant facts.0 facts.1 c.if-not-grow.true)

-- One piece more: its branch becomes long, or stays as it is.
use Rattle.std.proofs.Common.{inl, inr, sym, ◌∙◌, arith}
use Rattle.long_branches.specs.declared.piece.Piece.TheVariants.{Fixed}
use Rattle.long_branches.proofs.Rounds.{stepped, stayed}
use Rattle.long_branches.proofs.least.grow.Goals as goal
use Rattle.long_branches.proofs.least.grow.Goals.{then-not-longs-at+then-misses, else-not-longs-at, else-not-longs-at-via-then-not-longs-at+else-misses, else-not-longs-at-via-else-not-longs-at}

pub loop-at-preserved : goal.loop-at-preserved
loop-at-preserved c = elim c.if-not-longs-at.branch [
  | then-not-longs-at+then-misses w ↦
      stepped c.args.pieces.now c.args.places.now c.args.longs.now c.loop-at.longs c.if-not-longs-at.longs c.loop-at.at c.loop-at.some c.if-not-longs-at.some _ c.loop-at.invariant c.loop-at-test.true (omega arith) w.if-not-longs-at.true (sym w.misses.ensures ∙ w.if-misses.true) w.longs-is w.some-is
  | else-not-longs-at w ↦ elim w.else-not-longs-at.branch [
    | else-not-longs-at-via-then-not-longs-at+else-misses v ↦
        stayed c.args.pieces.now c.args.places.now c.args.longs.now c.loop-at.longs c.if-not-longs-at.longs c.loop-at.at c.loop-at.some c.if-not-longs-at.some _ c.loop-at.invariant c.loop-at-test.true (inr (sym v.misses.ensures ∙ v.if-misses.false)) w.longs-is w.some-is
    | else-not-longs-at-via-else-not-longs-at v ↦
        stayed c.args.pieces.now c.args.places.now c.args.longs.now c.loop-at.longs c.if-not-longs-at.longs c.loop-at.at c.loop-at.some c.if-not-longs-at.some (Fixed 0) c.loop-at.invariant c.loop-at-test.true (inl v.if-not-longs-at.false) w.longs-is w.some-is
  ]
]

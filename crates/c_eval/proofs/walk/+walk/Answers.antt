use Rattle.std.proofs.Common.{◌≡◌, ℕ, ◌+◌, ◌-◌, ◌*◌, ◌/◌, ◌^◌, ◌<◌, ◌≤◌, ◌⊎◌, inl, inr, Some, None, length, drop, sym, ◌∙◌, arith}
use Rattle.std.proofs.lemmas.List.{length-set}
use Rattle.c_eval.proofs.Bounds.{starts_early}
use Rattle.c_eval.proofs.Halves.{halved, path_begins, small_at_middle, small_on_path}
use Rattle.c_eval.proofs.Rows.{gathers_on, part_ends, gathered}
use Rattle.c_eval.proofs.Paths.{ends_elsewhere}
use Rattle.c_eval.proofs.walk.+walk.Goals as goal
use Rattle.c_eval.proofs.walk.+walk.Goals.{part_at-then-loop-first-test+else-start-gt0, part_at-else-loop-first-test}

pub last_part-overflow_sub-middle-2 : goal.last_part-overflow_sub-middle-2
last_part-overflow_sub-middle-2 g t c =
    omega (arith, starts_early c.args.heads.now c.args.end c.start_of-start.result c.requires.some c.requires.within c.start_of-start.ensures)

pub last_part-overflow_sub-levels : goal.last_part-overflow_sub-levels
last_part-overflow_sub-levels g t c =
    (halved c.args.heads.now c.args.end c.start_of-start.result c.args.levels c.requires.some c.requires.within c.requires.small c.start_of-start.ensures).0

pub last_part-part_at-path-requires : goal.last_part-part_at-path-requires
last_part-part_at-path-requires g t c κs within =
    let half = halved c.args.heads.now c.args.end c.start_of-start.result c.args.levels c.requires.some c.requires.within c.requires.small c.start_of-start.ensures in
    let falls : 3 * (c.args.levels - 1) + 2 < t = omega (arith, c.decreases, half.0) in (
      falls,
      (
        within,
        (
          omega (arith, c.requires.within, half.1.before),
          (
            tt,
            λ e s ends starts off.
                small_at_middle c.args.heads.now c.start_of-start.result c.args.end _ _ e s c.requires.within c.start_of-start.ensures.inside half.1 ends starts,
          ),
        ),
      ),
    )

pub last_part-loop-path-init : goal.last_part-loop-path-init
last_part-loop-path-init g t c =
    let half = halved c.args.heads.now c.args.end c.start_of-start.result c.args.levels c.requires.some c.requires.within c.requires.small c.start_of-start.ensures in
    path_begins (g.R.Reads.read_by c.args.reads.now) c.args.heads.now c.start_of-start.result c.args.end _ _ c.part_at-path.result c.requires.within c.start_of-start.ensures.inside half.1 c.part_at-path.ensures.part c.part_at-path.ensures.end

pub last_part-part_at-path-requires-in-loop-path :
    goal.last_part-part_at-path-requires-in-loop-path
last_part-part_at-path-requires-in-loop-path g t c κs within =
    let half = halved c.args.heads.now c.args.end c.start_of-start.result c.args.levels c.requires.some c.requires.within c.requires.small c.start_of-start.ensures in
    let falls : 3 * (c.args.levels - 1) + 2 < t = omega (arith, c.decreases, half.0) in (
      falls,
      (
        within,
        (
          omega (arith, c.requires.within, c.parent_of-parent.ensures.before),
          (
            c.loop-path.invariant.is,
            λ e s ends starts off.
                small_on_path (g.R.Reads.read_by c.args.reads.now) c.args.heads.now c.start_of-start.result c.args.end _ _ c.parent_of-parent.result c.loop-path.path e s c.requires.within c.start_of-start.ensures.inside half.1 c.loop-path.invariant c.parent_of-parent.ensures ends starts (ends_elsewhere c.loop-path.path e off),
          ),
        ),
      ),
    )

pub part_at-part_before-part-requires : goal.part_at-part_before-part-requires
part_at-part_before-part-requires g t c κs within =
    let falls : 3 * c.args.levels + 1 < t = omega (arith, c.decreases) in (
      falls,
      (
        within,
        (
          omega (arith, c.requires.within, c.loop-first.invariant.gathers.before),
          (
            c.if-start-gt0.true,
            (
              c.requires.path,
              λ s off starts.
                  c.requires.small c.loop-first.start s (part_ends (g.R.Reads.read_by c.args.reads.now) c.args.heads.now c.args.at c.size_of-size.result c.loop-first.start c.loop-first.first c.loop-first.readings c.index-heads-at.result c.requires.within c.index-heads-at.is c.size_of-size.ensures.value c.if-start-gt0.true c.loop-first.invariant.room c.loop-first-test.true c.loop-first.invariant.gathers) starts off,
            ),
          ),
        ),
      ),
    )

pub part_at-loop-first-preserved : goal.part_at-loop-first-preserved
part_at-loop-first-preserved g t c =
    let more = gathers_on (g.R.Reads.read_by c.args.reads.now) c.args.heads.now c.args.at c.size_of-size.result c.loop-first.start c.loop-first.first c.loop-first.readings c.part_before-part.result c.requires.within c.loop-first.invariant.room c.size_of-size.ensures.bound c.loop-first-test.true c.loop-first.invariant.all c.loop-first.invariant.gathers c.part_before-part.ensures.part c.part_before-part.ensures.end in
    record { room = omega (arith, c.loop-first.invariant.room); all = length-set c.loop-first.readings (c.loop-first.first - 1) c.part_before-part.result.reading ∙ c.loop-first.invariant.all; gathers = more }

pub part_at-returns-clause-part : goal.part_at-returns-clause-part
part_at-returns-clause-part g t c =
    gathered (g.R.Reads.read_by c.args.reads.now) c.args.heads.now c.args.at c.size_of-size.result c.loop-first.start c.loop-first.first c.loop-first.readings c.index-heads-at.result c.read.result c.requires.within c.index-heads-at.is c.size_of-size.ensures.value c.loop-first.invariant.room c.loop-first.invariant.all over c.loop-first.invariant.gathers c.read.ensures
  where
    over : (c.loop-first.first + c.size_of-size.result ≤ 3) ⊎ (c.loop-first.start ≤ 0)
    over = elim c.loop-first-test.branch [ part_at-then-loop-first-test+else-start-gt0 w ↦ inr w.if-start-gt0.false | part_at-else-loop-first-test w ↦ inl w.loop-first-test.false ]

-- Each part that is not on the path from the middle has at most half as many heads.
use Rattle.std.proofs.Common.{◌≡◌, ◌≢◌, ℕ, zero, suc, ◌+◌, ◌-◌, ◌*◌, ◌/◌, ◌^◌, ◌<◌, ◌≤◌, ◌⊎◌, inl, inr, List, length, sym, subst, arith}
use Rattle.std.proofs.lemmas.Bool.{cases_order}
use Rattle.std.proofs.Math.Nat.{pow-succ'}
use Rattle.c_cond.specs.c_words.declared.head.CondHead.{CondHead}
use Rattle.c_eval.specs.declared.reading.Reading.{Reading}
use Rattle.c_eval.specs.declared.walk.Part.{Part}
use Rattle.c_eval.specs.machine.Places.{MoreUpTo, IsStart, IsPart, IsParent, EndsPart}
use Rattle.c_eval.proofs.Bounds.{starts_early, within_tree, behind_path, before_path, starts_within, starts_before}

-- On both sides of the middle stand fewer heads than half.
pub record IsMiddle (first last middle half : ℕ) : Type 0 where
  pub after : first ≤ middle
  pub before : middle < last
  pub left : middle < first + half
  pub right : last ≤ middle + half

-- The path has come to this part.
pub record OnPath (read : CondHead → List Reading → Reading) (heads : List CondHead) (first last middle : ℕ) (part : Part) : Type 0 where
  pub is : IsPart read heads part
  pub after : first ≤ part.start
  pub before : part.start ≤ middle
  pub behind : middle < part.end
  pub within : part.end ≤ last

-- the path begins in the middle
pub path_begins : (read : CondHead → List Reading → Reading) (heads : List CondHead) (first last middle half : ℕ) (part : Part) → last ≤ length heads → MoreUpTo heads first last → IsMiddle first last middle half → IsPart read heads part → part.end ≡ middle + 1 → OnPath read heads first last middle part
path_begins read heads first last middle half part within tree halves is end = record {
  is = is;
  after = starts_within heads first last part.end part.start within tree (omega (arith, halves.after)) (omega (arith, halves.before)) is.starts;
  before = omega (arith, is.some);
  behind = omega arith;
  within = omega (arith, halves.before);
}

-- and goes on to the parent
pub path_goes_on : (read : CondHead → List Reading → Reading) (heads : List CondHead) (first last middle at : ℕ) (part next : Part) → last ≤ length heads → MoreUpTo heads first last → OnPath read heads first last middle part → IsParent heads part.end last at → IsPart read heads next → next.end ≡ at + 1 → OnPath read heads first last middle next
path_goes_on read heads first last middle at part next within tree path parent is end = record {
  is = is;
  after = starts_within heads first last next.end next.start within tree (omega (arith, path.after, path.is.some, parent.behind)) (omega (arith, parent.before)) is.starts;
  before = omega (arith, path.before, starts_before heads part.start part.end last at next.start within (omega (arith, path.is.some)) path.is.starts parent (omega (arith, is.some)) starts);
  behind = omega (arith, path.behind, parent.behind);
  within = omega (arith, parent.before);
}
  where
    starts : IsStart heads (at + 1) next.start
    starts = subst (λ (e : ℕ). IsStart heads e next.start) end is.starts

-- the parts of the head in the middle are small
pub small_at_middle : (heads : List CondHead) (first last middle half end start : ℕ) → last ≤ length heads → MoreUpTo heads first last → IsMiddle first last middle half → EndsPart heads middle end → IsStart heads end start → end < start + half
small_at_middle heads first last middle half end start within tree halves ends starts =
    omega (arith, halves.left, ends.before, within_tree heads first last middle end start within tree halves.after halves.before ends starts)

-- and so are those of a parent, but for the part on the path
pub small_on_path : (read : CondHead → List Reading → Reading) (heads : List CondHead) (first last middle half at : ℕ) (part : Part) (end start : ℕ) → last ≤ length heads → MoreUpTo heads first last → IsMiddle first last middle half → OnPath read heads first last middle part → IsParent heads part.end last at → EndsPart heads at end → IsStart heads end start → part.end ≢ end → end < start + half
small_on_path read heads first last middle half at part end start within tree halves path parent ends starts off = by_order (cases_order end part.end)
  where
    some : 0 < part.end
    some = omega (arith, path.is.some)

    by_order : (end ≡ part.end) ⊎ ((end < part.end) ⊎ (part.end < end)) → end < start + half
    by_order (inl same) = absurd (off (sym same))
    by_order (inr (inl earlier)) =
        omega (arith, halves.left, path.before, before_path heads part.start part.end last at end within some path.is.starts parent earlier ends, within_tree heads first last at end start within tree (omega (arith, path.after, path.is.some, parent.behind)) parent.before ends starts)
    by_order (inr (inr later)) =
        omega (arith, halves.right, path.behind, ends.before, parent.before, behind_path heads part.end last at end start within parent later ends starts)

-- ---- halving

-- a tree has a middle, and each half of what a number of so many bits can say takes one bit less
pub halves : (first last levels : ℕ) → first < last → last < first + 2 ^ levels → (0 < levels) × IsMiddle first last (first + (last - 1 - first) / 2) (2 ^ (levels - 1))
halves first last zero some small = omega arith
halves first last (suc levels) some small =
    let twice : 2 ^ suc levels ≡ 2 * 2 ^ levels = pow-succ' 2 levels in
    let level : suc levels - 1 ≡ levels = omega arith in (
      omega arith,
      subst (λ (n : ℕ). IsMiddle first last (first + (last - 1 - first) / 2) (2 ^ n)) (sym level) (record {
        after = omega arith;
        before = omega arith;
        left = omega (arith, twice);
        right = omega (arith, twice);
      }),
    )

-- the first part of the path, where the tree has fewer heads than so many bits can say
pub halved : (heads : List CondHead) (end start levels : ℕ) → 0 < end → end ≤ length heads → ((s : ℕ) → IsStart heads end s → end < s + 2 ^ levels) → IsStart heads end start → (0 < levels) × IsMiddle start end (start + (end - 1 - start) / 2) (2 ^ (levels - 1))
halved heads end start levels some within small starts =
    halves start end levels (starts_early heads end start some within starts) (small start starts)

-- Where parts of a tree start and end among its heads.
use Rattle.std.proofs.Common.{◌≡◌, ℕ, ◌+◌, ◌-◌, ◌<◌, ◌≤◌, ◌⊎◌, inl, inr, List, length, ap, arith, length-drop}
use Rattle.std.proofs.lemmas.Bool.{cases_lt}
use Rattle.c_cond.specs.c_words.declared.head.CondHead.{CondHead}
use Rattle.c_eval.specs.machine.Places.{trees_at, count_at, MoreUpTo, IsStart, IsParent, EndsPart}
use Rattle.c_eval.proofs.Stacks.{some_trees}

-- there is one tree more behind a tree than before it
pub one_more : (heads : List CondHead) (end start : ℕ) → 0 < end → end ≤ length heads → IsStart heads end start → count_at heads end ≡ count_at heads start + 1
one_more heads end start some within starts =
    omega (arith, ap length starts.rest, length-drop 1 (trees_at heads end), some_trees heads end some within)

-- a tree starts before its end
pub starts_early : (heads : List CondHead) (end start : ℕ) → 0 < end → end ≤ length heads → IsStart heads end start → start < end
starts_early heads end start some within starts = by_order (cases_lt start end)
  where
    by_order : (start < end) ⊎ (end ≤ start) → start < end
    by_order (inl early) = early
    by_order (inr late) =
        let same : start ≡ end = omega (arith, starts.before) in
        absurd (omega (arith, ap (count_at heads) same, one_more heads end start some within starts))

-- ---- a tree from `first` to `last`, its middle, and a part of a head of it

-- A part within the tree does not start before it.
pub within_tree : (heads : List CondHead) (first last at end start : ℕ) → last ≤ length heads → MoreUpTo heads first last → first ≤ at → at < last → EndsPart heads at end → IsStart heads end start → first ≤ start
within_tree heads first last at end start within tree after before ends starts = by_order (cases_lt start first) (cases_lt end first)
  where
    more : count_at heads first < count_at heads end
    more = omega (arith, tree (at + 1) (omega arith) (omega arith), ends.takes)

    by_order : (start < first) ⊎ (first ≤ start) → (end < first) ⊎ (first ≤ end) → first ≤ start
    by_order (inr fits) _ = fits
    by_order (inl early) (inl outside) = absurd (omega (arith, more, ends.inside first outside after))
    by_order (inl early) (inr inside) =
        absurd (omega (arith, more, starts.inside first early inside, one_more heads end start ends.some (omega (arith, ends.before)) starts))

-- A part of the parent of the path's part, and behind it, does not start before its end.
pub behind_path : (heads : List CondHead) (from last at end start : ℕ) → last ≤ length heads → IsParent heads from last at → from < end → EndsPart heads at end → IsStart heads end start → from ≤ start
behind_path heads from last at end start within parent later ends starts = by_order (cases_lt start from)
  where
    by_order : (start < from) ⊎ (from ≤ start) → from ≤ start
    by_order (inr fits) = fits
    by_order (inl early) =
        absurd (omega (arith, parent.inside end later ends.before, parent.before, starts.inside from early (omega arith), one_more heads end start ends.some (omega (arith, ends.before, parent.before)) starts))

-- One before it ends before the path's part starts.
pub before_path : (heads : List CondHead) (begin from last at end : ℕ) → last ≤ length heads → 0 < from → IsStart heads from begin → IsParent heads from last at → end < from → EndsPart heads at end → end ≤ begin
before_path heads begin from last at end within some path parent earlier ends = by_order (cases_lt begin end)
  where
    by_order : (begin < end) ⊎ (end ≤ begin) → end ≤ begin
    by_order (inr fits) = fits
    by_order (inl late) =
        absurd (omega (arith, path.inside end late (omega arith), ends.inside from earlier parent.behind, one_more heads from begin some (omega (arith, parent.behind, parent.before)) path))

-- A tree within another does not start before it.
pub starts_within : (heads : List CondHead) (first last end start : ℕ) → last ≤ length heads → MoreUpTo heads first last → first < end → end ≤ last → IsStart heads end start → first ≤ start
starts_within heads first last end start within tree after before starts = by_order (cases_lt start first)
  where
    by_order : (start < first) ⊎ (first ≤ start) → first ≤ start
    by_order (inr fits) = fits
    by_order (inl early) =
        absurd (omega (arith, tree end after before, starts.inside first early (omega arith), one_more heads end start (omega arith) (omega arith) starts))

-- The tree that the parent of a part ends does not start behind that part's start.
pub starts_before : (heads : List CondHead) (begin from last at start : ℕ) → last ≤ length heads → 0 < from → IsStart heads from begin → IsParent heads from last at → start < at + 1 → IsStart heads (at + 1) start → start ≤ begin
starts_before heads begin from last at start within some path parent parts starts = by_order (cases_lt begin start) (cases_lt from start)
  where
    fewer : count_at heads start ≤ count_at heads begin
    fewer =
        omega (arith, parent.takes, one_more heads (at + 1) start (omega arith) (omega (arith, parent.before)) starts, one_more heads from begin some (omega (arith, parent.behind, parent.before)) path)

    by_order : (begin < start) ⊎ (start ≤ begin) → (from < start) ⊎ (start ≤ from) → start ≤ begin
    by_order (inr fits) _ = fits
    by_order (inl late) (inr inside) = absurd (omega (arith, fewer, path.inside start late inside))
    by_order (inl late) (inl behind) =
        absurd (omega (arith, fewer, parts, parent.inside start behind (omega (arith, parts)), one_more heads from begin some (omega (arith, parent.behind, parent.before)) path))

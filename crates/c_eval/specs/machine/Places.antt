-- Where the parts of trees stand among heads. These definitions serve the contracts of private
-- functions alone.
use Rattle.std.specs.Prelude.{◌≡◌, ℕ, ◌+◌, ◌==◌, if◌then◌else◌, ◌<◌, ◌≤◌, List, [], length, take, drop, Option, Some, None}
use Rattle.c_cond.specs.c_words.declared.head.CondHead.{CondHead}
use Rattle.c_cond.specs.declared.tree.Tree.{Tree}
use Rattle.c_cond.specs.Tree.{grown, first_or_nothing}
use Rattle.c_eval.specs.declared.reading.Reading.{Reading}
use Rattle.c_eval.specs.declared.walk.Part.{Part}
use Rattle.c_eval.specs.Fold.{fold_by}

-- the trees that so many heads are, the last first
abbrev pub trees_at : List CondHead → ℕ → List Tree
trees_at heads place = grown [] (take place heads)

-- how many trees so many heads are
abbrev pub count_at : List CondHead → ℕ → ℕ
count_at heads place = length (trees_at heads place)

-- behind the one place and up to the other there are more trees than at the first
abbrev pub MoreUpTo : List CondHead → ℕ → ℕ → Type 0
MoreUpTo heads from to = (x : ℕ) → from < x → x ≤ to → count_at heads from < count_at heads x

-- The last tree of the heads before `end` starts here.
pub record IsStart (heads : List CondHead) (end start : ℕ) : Type 0 where
  pub before : start ≤ end
  pub rest : drop 1 (trees_at heads end) ≡ trees_at heads start
  pub inside : MoreUpTo heads start end

-- the part is the last tree of the heads before its end, and is read so
pub record IsPart (read : CondHead → List Reading → Reading) (heads : List CondHead) (part : Part) :
    Type 0 where
  pub within : part.end ≤ length heads
  pub some : part.start < part.end
  pub starts : IsStart heads part.end part.start
  pub reads : part.reading ≡ fold_by read (first_or_nothing (trees_at heads part.end))

abbrev pub IsPath : (CondHead → List Reading → Reading) → List CondHead → Option Part → Type 0
IsPath read heads None = Unit {0}
IsPath read heads (Some part) = IsPart read heads part

-- Of the tree before `from`, the head at this place has it as a part. The place is before `end`.
pub record IsParent (heads : List CondHead) (from end at : ℕ) : Type 0 where
  pub behind : from ≤ at
  pub before : at < end
  pub takes : count_at heads (at + 1) ≤ count_at heads from
  pub inside : MoreUpTo heads from at

-- A part of the head at this place ends here.
pub record EndsPart (heads : List CondHead) (at end : ℕ) : Type 0 where
  pub some : 0 < end
  pub before : end ≤ at
  pub takes : count_at heads (at + 1) ≤ count_at heads end
  pub inside : MoreUpTo heads end at

-- the part on the path, where it ends here
abbrev pub ending_at : Option Part → ℕ → Option Part
ending_at (Some part) end = if part.end == end then Some part else None
ending_at None end = None

-- the path has no part that ends here
abbrev pub IsOff : Option Part → ℕ → Type 0
IsOff path end = ending_at path end ≡ None

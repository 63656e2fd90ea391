-- A load from memory n moves to memory n - 1 where it lies apart from store n.
use Rattle.std.specs.Prelude.{ℕ, zero, suc, ◌+◌, ◌^◌, nat_lt, Bool, false, if◌then◌else◌, ◌&&◌, List, [], Option, Some, None, slice_get}
use Rattle.bits64.specs.declared.Width.{Width}
use Rattle.bits64.specs.declared.Width.TheVariants.{W64}
use Rattle.bits64.specs.Words.{bytes_of}
use Rattle.term_tree.specs.declared.head.Head.TheVariants as heads
use Rattle.term_tree.specs.Tree.{Tree, Node, no_trees, tree, width_of}
use Rattle.term_mean.specs.Stores.{Store}
use Rattle.term_mean.specs.Sums.{constant_in, minus}

-- p bytes at a and q bytes at b do not meet, where a - b is d modulo 2 ^ 64: q is not above d, and
-- p not above what is left
abbrev pub is_apart : ℕ → ℕ → Option ℕ → Bool
is_apart p q None = false
is_apart p q (Some d) = nat_lt q (d + 1) && nat_lt (p + d) (2 ^ 64 + 1)

abbrev pub lies_apart : Width → Tree → Option Store → Bool
lies_apart w a None = false
lies_apart w a (Some s) =
    is_apart (bytes_of w) (bytes_of (width_of s.1)) (constant_in (minus W64 a s.0))

-- the memory from which w bits at a may be taken in place of memory n; there is no moving past a
-- store that isn't known
abbrev pub source : List Store → Width → Tree → ℕ → ℕ
source stores w a zero = zero
source stores w a (suc n) =
    if lies_apart w a (slice_get stores n) then source stores w a n else suc n

abbrev pub loaded : List Store → Width → ℕ → Tree → Tree
loaded stores w n a = Node heads.Load w (source stores w a n) [] (tree a no_trees)

-- A tree that stands in a pool, and another that is put into it there.
use Rattle.std.proofs.Common.{◌≡◌, ◌≢◌, ℕ, List, Option, Some, None, IsSome, refl, ap, sym, subst, ◌∙◌}
use Rattle.std.specs.Prelude.{option_and_then}
use Rattle.node_pool.specs.Slots.{value_at, IsLive}
use Rattle.rtx_tree.specs.declared.tree.Rtx.{Rtx}
use Rattle.rtx_tree.specs.Tree.{part_at, replaced_at}
use Rattle.rtx_pool.specs.Trees.{part_of, IsPlaced, IsJoined}

not_both : (o : Option Rtx) (x : Rtx) → o ≡ Some x → o ≡ None → ⊥
not_both o x is none = cc

there : (o : Option Rtx) (x : Rtx) → o ≡ Some x → IsSome o
there o x is = subst IsSome (sym is) refl

only : (o : Option Rtx) (x y : Rtx) → o ≡ Some x → o ≡ Some y → x ≡ y
only o x y is too = cc

-- two trees that are placed one behind the other
module _ (old mid new : List (Option Rtx)) (whole part : ℕ) (second source : Rtx) (one : IsPlaced old mid whole second) (other : IsPlaced mid new part source) where
  pub roots_differ : whole ≢ part
  roots_differ same = not_both (value_at mid whole) second one.tree_is (ap (value_at mid) same ∙ other.free)

  whole_is : value_at new whole ≡ Some second
  whole_is = other.others whole roots_differ ∙ one.tree_is

  pub part_live : IsLive new part
  part_live = there (value_at new part) source other.tree_is

  pub path_there : (path : List ℕ) → IsSome (part_at second path) → IsSome (part_of new whole path)
  path_there path some = subst (λ o. IsSome (option_and_then (λ tree. part_at tree path) o)) (sym whole_is) some

  module _ (last : List (Option Rtx)) (path : List ℕ) (put : (tree inner : Rtx) → value_at new whole ≡ Some tree → value_at new part ≡ Some inner → IsJoined new last whole part (replaced_at path inner tree)) where
    last_is : value_at last whole ≡ Some (replaced_at path source second)
    last_is = (put second source whole_is other.tree_is).tree_is

    pub whole_live : IsLive last whole
    whole_live = there (value_at last whole) (replaced_at path source second) last_is

    pub whole_taken : (x : Rtx) → value_at last whole ≡ Some x → x ≡ replaced_at path source second
    whole_taken x is = only (value_at last whole) x (replaced_at path source second) is last_is

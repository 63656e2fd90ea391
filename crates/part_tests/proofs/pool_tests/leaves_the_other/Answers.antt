use Rattle.std.proofs.Common.{◌≡◌, ◌≢◌, ℕ, List, Option, Some, None, IsSome, refl, sym, subst, ◌∙◌}
use Rattle.node_pool.specs.Slots.{value_at}
use Rattle.rtx_tree.specs.declared.tree.Rtx.{Rtx}
use Rattle.rtx_pool.specs.Trees.{IsPlaced}
use Rattle.part_tests.proofs.pool_tests.leaves_the_other.Goals as goal

-- a root that has a tree is another than one where a tree is placed
apart : (old new : List (Option Rtx)) (root other : ℕ) (tree was : Rtx) → IsPlaced old new root tree → value_at old other ≡ Some was → other ≢ root
apart old new root other tree was placed there same =
    let here : value_at old root ≡ Some was = subst (λ n. value_at old n ≡ Some was) same there in
    let none = placed.free in
    cc

kept : (old new : List (Option Rtx)) (root other : ℕ) (tree was : Rtx) → IsPlaced old new root tree → value_at old other ≡ Some was → value_at new other ≡ Some was
kept old new root other tree was placed there = placed.others other (apart old new root other tree was placed there) ∙ there

-- two roots of three
module _ (t u v w : List (Option Rtx)) (first second third : ℕ) (tree part : Rtx) (one : IsPlaced t u first tree) (two : IsPlaced u v second tree) (three : IsPlaced v w third part) where
  first_is : value_at w first ≡ Some tree
  first_is = kept v w third first part tree three (kept u v second first tree tree two one.tree_is)

  second_is : value_at w second ≡ Some tree
  second_is = kept v w third second part tree three two.tree_is

  second_apart : second ≢ first
  second_apart same = apart u v second first tree tree two one.tree_is (sym same)

  second_third : second ≢ third
  second_third = apart v w third second part tree three two.tree_is

pub lift-requires : goal.lift-requires
lift-requires c =
    let one = c.in_ok-first.ensures.ok in
    let two = c.in_ok-second.ensures.ok in
    let three = c.in_ok-new.ensures.ok in
    let joined = c.replace_at.ensures c.in_ok-tree.tree c.reg-part.result (first_is _ _ _ _ _ _ _ _ _ one two three) three.tree_is in
    subst IsSome (sym joined.tree_is) refl

pub lift-requires-2 : goal.lift-requires-2
lift-requires-2 c =
    let one = c.in_ok-first.ensures.ok in
    let two = c.in_ok-second.ensures.ok in
    let three = c.in_ok-new.ensures.ok in
    let joined = c.replace_at.ensures c.in_ok-tree.tree c.reg-part.result (first_is _ _ _ _ _ _ _ _ _ one two three) three.tree_is in
    subst IsSome
    (sym (joined.others c.in_ok-second.second.index (second_apart _ _ _ _ _ _ _ _ _ one two three) (second_third _ _ _ _ _ _ _ _ _ one two three) ∙ second_is _ _ _ _ _ _ _ _ _ one two three)) refl

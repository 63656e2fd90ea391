-- Roots whose trees are written.
use Rattle.std.proofs.Common.{◌≡◌, ◌≢◌, ℕ, ◌+◌, ◌≤◌, List, set, Option, Some, None, IsSome, IfSome, refl, ap, sym, subst, ◌∙◌, arith}
use Rattle.std.specs.Prelude.{slice_get, option_and_then}
use Rattle.std.proofs.lemmas.Option.{slice_get_within}
use Rattle.node_pool.specs.Slots.{value_at, IsLive, spare_of}
use Rattle.node_pool.proofs.Values.{held_slot, free_slot, written_there, written_others, written_spare}
use Rattle.rtx_tree.specs.declared.tree.Rtx.{Rtx}
use Rattle.rtx_pool.specs.Trees.{IsChanged, IsPlaced, IsReleased, IsJoined}

-- what holds of a value that is there, and that it is there
pub with_some : {A : Type 0} (P : A → Type 0) (o : Option A) (x : A) → o ≡ Some x → IfSome o P → P x
with_some P o x is holds = subst (λ o. IfSome o P) is holds

pub before_some : {A B : Type 0} (f : A → Option B) (o : Option A) → IsSome (option_and_then f o) → IsSome o
before_some f None some = some
before_some f (Some x) some = refl

pub behind_some : {A B : Type 0} (f : A → Option B) (o : Option A) (x : A) → o ≡ Some x → IsSome (option_and_then f o) → IsSome (f x)
behind_some f o x is some = subst (λ o. IsSome (option_and_then f o)) is some

-- a tree in the place of a root's
pub changed_root : (old new : List (Option Rtx)) (root : ℕ) (was tree : Rtx) → value_at old root ≡ Some was →
    new ≡ set old root (Some tree) → IsChanged old new root tree
changed_root old new root was tree live are =
    subst (λ l. IsChanged old l root tree) (sym are) (record {
      tree_is = written_there old root (Some tree) (slice_get_within old root (Some was) (held_slot old root was live));
      others = λ other differ. written_others old root other (Some tree) differ;
      room = written_spare old root was tree live;
    })

-- a root's tree, if it is live
pub live_tree : (o : Option Rtx) → IsSome o → (tree : Rtx) × (o ≡ Some tree)
live_tree None some = absurd (cc)
live_tree (Some tree) some = (tree, refl)

pub changed_live : (old new : List (Option Rtx)) (root : ℕ) (tree : Rtx) → IsLive old root →
    new ≡ set old root (Some tree) → IsChanged old new root tree
changed_live old new root tree live are =
    let was = live_tree (value_at old root) live in
    changed_root old new root was.0 tree was.1 are

-- what is changed behind a change at the same root
pub changed_again : (old mid new : List (Option Rtx)) (root : ℕ) (tree other : Rtx) →
    ((other : ℕ) → other ≢ root → value_at mid other ≡ value_at old other) → spare_of mid ≡ spare_of old →
    IsChanged mid new root tree → tree ≡ other → IsChanged old new root other
changed_again old mid new root tree other others room is same =
    subst (IsChanged old new root) same (record {
      tree_is = is.tree_is;
      others = λ at differ. is.others at differ ∙ others at differ;
      room = is.room ∙ room;
    })

-- a root that gets a tree
pub placed_root : (old mid new : List (Option Rtx)) (root : ℕ) (tree : Rtx) →
    ((at : ℕ) → value_at mid at ≡ value_at old at) → spare_of old ≤ spare_of mid → slice_get mid root ≡ Some None →
    new ≡ set mid root (Some tree) → spare_of new + 1 ≡ spare_of mid → IsPlaced old new root tree
placed_root old mid new root tree same more free are less = record {
  free = sym (same root) ∙ free_slot mid root free;
  tree_is = ap (λ l. value_at l root) are ∙ written_there mid root (Some tree) (slice_get_within mid root None free);
  others = λ other differ. ap (λ l. value_at l other) are ∙ (written_others mid root other (Some tree) differ ∙ same other);
  room = omega (arith, more, less);
}

-- a root whose tree goes
pub released_root : (old new : List (Option Rtx)) (root : ℕ) (tree : Rtx) → value_at old root ≡ Some tree →
    new ≡ set old root None → spare_of new ≡ spare_of old + 1 → IsReleased old new root
released_root old new root tree live are more = record {
  free = ap (λ l. value_at l root) are ∙ written_there old root None (slice_get_within old root (Some tree) (held_slot old root tree live));
  others = λ other differ. ap (λ l. value_at l other) are ∙ written_others old root other None differ;
  room = more;
}

-- a root's tree put into another's
pub joined_root : (old mid lent new : List (Option Rtx)) (root used : ℕ) (tree other : Rtx) → root ≢ used →
    IsReleased old mid used →
    ((other : ℕ) → other ≢ root → value_at lent other ≡ value_at mid other) → spare_of lent ≡ spare_of mid →
    IsChanged lent new root tree → tree ≡ other → IsJoined old new root used other
joined_root old mid lent new root used tree other differ gone others room is same =
    subst (IsJoined old new root used) same (record {
      tree_is = is.tree_is;
      free = is.others used (λ e. differ (sym e)) ∙ (others used (λ e. differ (sym e)) ∙ gone.free);
      others = λ at no neither. is.others at no ∙ (others at no ∙ gone.others at neither);
      room = is.room ∙ (room ∙ gone.room);
    })

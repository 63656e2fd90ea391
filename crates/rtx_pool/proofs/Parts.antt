-- A part that is taken out of a tree and put back.
use Rattle.std.proofs.Common.{◌≡◌, ℕ, zero, suc, List, [], ◌∷◌, length, reverse, set, Option, Some, IsSome, IfSome, refl, ap, sym, subst, ◌∙◌}
use Rattle.std.specs.Prelude.{slice_get, slice_set, option_map, option_and_then}
use Rattle.std.proofs.lemmas.Option.{slice_get_within}
use Rattle.node_pool.proofs.Written.{got_same}
use Rattle.rtx_tree.specs.declared.tree.Rtx.{Rtx}
use Rattle.rtx_tree.specs.Tree.{head_of, kids_of, tree_of, part_at, changed_at, replaced_at}
use Rattle.rtx_tree.proofs.Trees.{head_of-tree, kids_of-tree}

-- what holds of a value that is there
pub at_some : {A : Type 0} (P : A → Type 0) (o : Option A) (x : A) → o ≡ Some x → P x → IfSome o P
at_some P o x is holds = subst (λ o. IfSome o P) (sym is) holds

pub some_is : {A : Type 0} (o : Option A) (x : A) → o ≡ Some x → IsSome o
some_is o x is = subst IsSome (sym is) refl

set_twice : {A : Type 0} (l : List A) (i : ℕ) (a b : A) → set (set l i a) i b ≡ set l i b
set_twice [] i a b = refl
set_twice (x ∷ l) zero a b = refl
set_twice (x ∷ l) (suc i) a b = ap (λ l. x ∷ l) (set_twice l i a b)

-- the kid through which a path leads
record Kid (kids : List Rtx) (k : ℕ) (path : List ℕ) (part : Rtx) : Type 0 where
  kid : Rtx
  there : slice_get kids k ≡ Some kid
  behind : part_at kid path ≡ Some part

kid_there : (kids : List Rtx) (k : ℕ) (path : List ℕ) (part : Rtx) →
    option_and_then (λ kid. part_at kid path) (slice_get kids k) ≡ Some part → Kid kids k path part
kid_there [] k path part h = cc
kid_there (x ∷ kids) zero path part h = record { kid = x; there = refl; behind = h }
kid_there (x ∷ kids) (suc k) path part h =
    let rest = kid_there kids k path part h in
    record { kid = rest.kid; there = rest.there; behind = rest.behind }

-- one step down
step : (k : ℕ) (path : List ℕ) (new x kid : Rtx) → slice_get (kids_of x) k ≡ Some kid →
    replaced_at (k ∷ path) new x ≡ tree_of (head_of x) (set (kids_of x) k (replaced_at path new kid))
step k path new x kid there =
    ap (λ o. tree_of (head_of x) (changed_at (kids_of x) k (option_map (replaced_at path new) o))) there

pub part_there : (path : List ℕ) (new x part : Rtx) → part_at x path ≡ Some part →
    part_at (replaced_at path new x) path ≡ Some new
part_there [] new x part h = refl
part_there (k ∷ path) new x part h =
    let at = kid_there (kids_of x) k path part h in
    let next = replaced_at path new at.kid in
    ap (λ y. part_at y (k ∷ path)) (step k path new x at.kid at.there) ∙
    (ap (λ l. option_and_then (λ kid. part_at kid path) (slice_get l k)) (kids_of-tree (head_of x) (set (kids_of x) k next)) ∙
    (ap (option_and_then (λ kid. part_at kid path)) (got_same (kids_of x) k next (slice_get_within (kids_of x) k at.kid at.there)) ∙
    part_there path new at.kid part at.behind))

-- a tree of a head and kids, of which one is put in the place of another one's
tree_twice : (x : Rtx) (k : ℕ) (a b : Rtx) →
    let y = tree_of (head_of x) (set (kids_of x) k a) in
    tree_of (head_of y) (set (kids_of y) k b) ≡ tree_of (head_of x) (set (kids_of x) k b)
tree_twice x k a b =
    ap (λ h. tree_of h (set (kids_of (tree_of (head_of x) (set (kids_of x) k a))) k b)) (head_of-tree (head_of x) (set (kids_of x) k a)) ∙
    (ap (λ l. tree_of (head_of x) (set l k b)) (kids_of-tree (head_of x) (set (kids_of x) k a)) ∙
    ap (tree_of (head_of x)) (set_twice (kids_of x) k a b))

-- of two parts put at one path the later counts
pub replaced_twice : (path : List ℕ) (a b x part : Rtx) → part_at x path ≡ Some part →
    replaced_at path b (replaced_at path a x) ≡ replaced_at path b x
replaced_twice [] a b x part h = refl
replaced_twice (k ∷ path) a b x part h =
    let at = kid_there (kids_of x) k path part h in
    let next = replaced_at path a at.kid in
    let y = tree_of (head_of x) (set (kids_of x) k next) in
    let here : slice_get (kids_of y) k ≡ Some next =
    ap (λ l. slice_get l k) (kids_of-tree (head_of x) (set (kids_of x) k next)) ∙
    got_same (kids_of x) k next (slice_get_within (kids_of x) k at.kid at.there) in
    ap (replaced_at (k ∷ path) b) (step k path a x at.kid at.there) ∙
    (step k path b y next here ∙
    (tree_twice x k next (replaced_at path b next) ∙
    (ap (λ z. tree_of (head_of x) (set (kids_of x) k z)) (replaced_twice path a b at.kid part at.behind) ∙
    sym (step k path b x at.kid at.there))))

-- a part is taken out, and another put in its place
pub changed : (x y z blank part new : Rtx) (path : List ℕ) → part_at x path ≡ Some part →
    y ≡ replaced_at path blank x → z ≡ replaced_at path new y → z ≡ replaced_at path new x
changed x y z blank part new path at one other =
    other ∙ (ap (replaced_at path new) one ∙ replaced_twice path blank new x part at)

pub still_there : (x y blank part : Rtx) (path : List ℕ) → part_at x path ≡ Some part →
    y ≡ replaced_at path blank x → IsSome (part_at y path)
still_there x y blank part path at one =
    some_is (part_at y path) blank (ap (λ z. part_at z path) one ∙ part_there path blank x part at)

get_same : (x y : Rtx) → Some x ≡ Some y → x ≡ y
get_same x y same = cc

-- the two items of a list, each put in the other's place
pub exchanged : (kids : List Rtx) (blank first second : Rtx) → length kids ≡ 2 → slice_get kids 0 ≡ Some first →
    slice_get (slice_set kids 0 blank) 1 ≡ Some second →
    slice_set (slice_set (slice_set kids 0 blank) 1 first) 0 second ≡ reverse kids
exchanged [] blank first second two here there = cc
exchanged (a ∷ []) blank first second two here there = cc
exchanged (a ∷ b ∷ []) blank first second two here there =
    let one = get_same a first here in
    let other = get_same b second there in
    ap (λ x. second ∷ x ∷ []) (sym one) ∙ ap (λ x. x ∷ a ∷ []) (sym other)
exchanged (a ∷ b ∷ c ∷ kids) blank first second two here there = absurd (no_more two)
  where
    no_more : length (a ∷ b ∷ c ∷ kids) ≡ 2 → ⊥
    no_more same = cc

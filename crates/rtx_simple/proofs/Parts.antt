-- Expressions whose parts are simple.
use Rattle.std.proofs.Common.{◌≡◌, ℕ, zero, suc, List, [], ◌∷◌, Option, Some, None, refl, sym, subst}
use Rattle.std.specs.Prelude.{IfSome, option_and_then, slice_get}
use Rattle.std.specs.List.{AllByRecursion}
use Rattle.rtx_tree.specs.declared.tree.Rtx.{Rtx}
use Rattle.rtx_tree.specs.Tree.{kids_of, part_at}
use Rattle.rtx_simple.specs.Simple.{once, IsSimple}

-- no rule applies to a part
abbrev pub IsDone : Rtx → Type 0
IsDone x = once x ≡ None

-- no rule applies to the parts
abbrev pub AreSimple : List Rtx → Type 0
AreSimple kids = AllByRecursion IsSimple kids

kid_at : (kids : List Rtx) (k : ℕ) (path : List ℕ) → AreSimple kids → IfSome (option_and_then (λ kid. part_at kid path) (slice_get kids k)) IsDone
kid_at [] k path all = tt
kid_at (x ∷ kids) zero path all = all.0 path
kid_at (x ∷ kids) (suc k) path all = kid_at kids k path all.1

pub simple_by : (x : Rtx) → once x ≡ None → AreSimple (kids_of x) → IsSimple x
simple_by x none all [] = none
simple_by x none all (k ∷ path) = kid_at (kids_of x) k path all

all_kids : (kids : List Rtx) → ((k : ℕ) (path : List ℕ) → IfSome (option_and_then (λ kid. part_at kid path) (slice_get kids k)) IsDone) → AreSimple kids
all_kids [] all = tt
all_kids (x ∷ kids) all = (λ path. all 0 path, all_kids kids (λ k. all (suc k)))

pub kids_simple : (x : Rtx) → IsSimple x → AreSimple (kids_of x)
kids_simple x simple = all_kids (kids_of x) (λ k path. simple (k ∷ path))

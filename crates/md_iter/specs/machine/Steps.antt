-- The steps of the code, for the contracts of private functions alone.
use Rattle.std.specs.Prelude.{◌≡◌, ℕ, ◌+◌, ◌≤◌, ◌<◌, Bool, List, Option, Result, Ok, Err, map, length, option_map}
use Rattle.std.specs.List.{flat_map}
use Rattle.std.specs.Global.{Vec}
use Rattle.lisp_read.specs.declared.tree.Tree.{Tree}
use Rattle.md_iter.specs.declared.definition.FormIterator.{FormIterator}
use Rattle.md_iter.specs.declared.definition.Definitions.{Definitions}
use Rattle.md_iter.specs.declared.substitution.Instance.{Instance}
use Rattle.md_iter.specs.declared.expand.TreeRefusal.{TreeRefusal}
use Rattle.md_iter.specs.declared.expand.TreeRefusal.TheVariants as tree_refusal
use Rattle.md_iter.specs.declared.refusal.IterRefusal.{IterRefusal}
use Rattle.md_iter.specs.declared.refusal.IterRefusal.TheVariants as refusal
use Rattle.md_iter.specs.Choice.{Chosen, from_head, uses}
use Rattle.md_iter.specs.Substitution.{substituted}
use Rattle.md_iter.specs.Expansion.{forms_with, PassesAt}
use Rattle.rtx_tree.specs.Limit.{most_forms}

-- the name that the code has begun
abbrev pub begun : Option (Vec ℕ) → Option (List ℕ)
begun name = option_map (λ v. v.items) name

-- what some trees use, the first of which may be the head of a list
abbrev pub uses_of : List FormIterator → List Tree → Bool → List (Option FormIterator)
uses_of iterators trees head_first =
    flat_map (λ uses. uses) (from_head head_first (map (uses iterators) trees))

-- some trees, the first of which may be the head of a list
abbrev pub substituted_trees : Definitions → List Chosen → List Tree → Bool → List Tree
substituted_trees definitions choice trees head_first =
    from_head head_first (map (substituted definitions choice) trees)

abbrev pub Gives : Definitions → List Tree → Result (List Instance) IterRefusal → Type 0
Gives definitions trees (Ok forms) =
    (forms ≡ forms_with definitions trees) × (length (forms_with definitions trees) ≤ most_forms)
Gives definitions trees (Err (refusal.Limit at)) = PassesAt definitions trees at
Gives definitions trees (Err refusal.Memory) = Unit {0}

abbrev pub IsTooMany : TreeRefusal → List Instance → List Instance → Type 0
IsTooMany tree_refusal.Limit before more = most_forms < length before + length more
IsTooMany tree_refusal.Memory before more = Unit {0}

abbrev pub IsLimitAt : ℕ → IterRefusal → Type 0
IsLimitAt at (refusal.Limit form) = form ≡ at
IsLimitAt at refusal.Memory = Unit {0}

-- Registers without a home in a tree, by its head and its parts.
use Rattle.std.proofs.Common.{◌≡◌, Bool, ◌||◌, List, [], ◌∷◌, map, refl, ap, ◌∙◌}
use Rattle.std.specs.List.{list_any}
use Rattle.rtx_tree.specs.declared.tree.Rtx.{Rtx}
use Rattle.rtx_tree.specs.declared.tree.Rtx.TheFolds.{fold_out-Rtx}
use Rattle.rtx_tree.specs.Tree.{head_of, kids_of}
use Rattle.form_needs.specs.Needs.{is_homeless, homeless_step, names_homeless}

any_of_map : {A : Type 0} (f : A → Bool) (xs : List A) → list_any (λ here. here) (map f xs) ≡ list_any f xs
any_of_map f [] = refl
any_of_map f (x ∷ xs) = ap (λ rest. f x || rest) (any_of_map f xs)

pub homeless_out : (x : Rtx) → names_homeless x ≡ (is_homeless (head_of x).code (head_of x).number || list_any names_homeless (kids_of x))
homeless_out x = fold_out-Rtx Bool homeless_step x ∙ ap (λ rest. is_homeless (head_of x).code (head_of x).number || rest) (any_of_map names_homeless (kids_of x))

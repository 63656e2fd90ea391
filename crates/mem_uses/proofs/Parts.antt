-- Memory in an expression, by its head and its kids.
use Rattle.std.proofs.Common.{◌≡◌, Bool, ◌||◌, List, [], ◌∷◌, map, refl, ap, ◌∙◌}
use Rattle.std.specs.List.{list_any}
use Rattle.rtx_tree.specs.declared.tree.Rtx.{Rtx}
use Rattle.rtx_tree.specs.declared.tree.Rtx.TheFolds.{fold_out-Rtx}
use Rattle.rtx_tree.specs.Tree.{head_of, kids_of, is_memory_code}
use Rattle.mem_uses.specs.Memory.{memory_step, has_memory}

any_of_map : {A : Type 0} (f : A → Bool) (xs : List A) → list_any (λ here. here) (map f xs) ≡ list_any f xs
any_of_map f [] = refl
any_of_map f (x ∷ xs) = ap (λ rest. f x || rest) (any_of_map f xs)

pub memory_out : (x : Rtx) → has_memory x ≡ (is_memory_code (head_of x).code || list_any has_memory (kids_of x))
memory_out x = fold_out-Rtx Bool memory_step x ∙ ap (λ rest. is_memory_code (head_of x).code || rest) (any_of_map has_memory (kids_of x))

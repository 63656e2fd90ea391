-- What is asked of the parts of an expression, by its head and its kids.
use Rattle.std.proofs.Common.{◌≡◌, Bool, ◌||◌, List, [], ◌∷◌, map, refl, ap, ◌∙◌}
use Rattle.std.specs.List.{list_any}
use Rattle.rtx_tree.specs.declared.function.Insn.{Insn}
use Rattle.rtx_tree.specs.declared.tree.Rtx.{Rtx}
use Rattle.rtx_tree.specs.declared.tree.Rtx.TheFolds.{fold_out-Rtx}
use Rattle.rtx_tree.specs.Tree.{head_of, kids_of}
use Rattle.reuse.specs.Reuse.{defined_by, defined_step, defines_part}

any_of_map : {A : Type 0} (f : A → Bool) (xs : List A) → list_any (λ here. here) (map f xs) ≡ list_any f xs
any_of_map f [] = refl
any_of_map f (x ∷ xs) = ap (λ rest. f x || rest) (any_of_map f xs)

pub defined_out : (i : Insn) (x : Rtx) → defines_part i x ≡ (defined_by i (head_of x).code (head_of x).number || list_any (defines_part i) (kids_of x))
defined_out i x = fold_out-Rtx Bool (defined_step i) x ∙ ap (λ rest. defined_by i (head_of x).code (head_of x).number || rest) (any_of_map (defines_part i) (kids_of x))

-- The end of a list of instructions, and the numbers of a tree's registers.
use Rattle.std.proofs.Common.{◌≡◌, ◌+◌, ◌<◌, ◌&&◌, ℕ, zero, suc, eqb, Bool, List, [], ◌∷◌, map, length, drop, refl, ◌∙◌, ap, add-one, arith}
use Rattle.std.specs.List.{list_all}
use Rattle.rtx_tree.specs.declared.tree.Rtx.{Rtx}
use Rattle.rtx_tree.specs.declared.tree.Rtx.TheFolds.{fold_out-Rtx}
use Rattle.rtx_tree.specs.Tree.{head_of, kids_of}
use Rattle.std.proofs.lemmas.Bool.Decides.{nat_tests}
use Rattle.rtx_tree.specs.declared.function.Insn.{Insn}
use Rattle.sym_insns.specs.Shape.{is_end, is_natural, natural_step, all_natural}

end_behind : (insns : List Insn) (i : ℕ) → i < length insns →
    is_end (drop (suc i) insns) ≡ eqb (suc i) (length insns)
end_behind [] i below = absurd (omega (arith, below))
end_behind (x ∷ []) zero below = refl
end_behind (x ∷ y ∷ ys) zero below = grind (arith, nat_tests)
end_behind (x ∷ insns) (suc i) below =
    let behind = end_behind insns i (omega (arith, below)) in
    grind (arith, nat_tests, behind)

-- an instruction is the last where the place behind it is the end
pub end_at : (insns : List Insn) (i : ℕ) → i < length insns →
    is_end (drop (i + 1) insns) ≡ eqb (i + 1) (length insns)
end_at insns i below = rw add-one (end_behind insns i below)

all_of_map : {A : Type 0} (f : A → Bool) (xs : List A) → list_all (λ here. here) (map f xs) ≡ list_all f xs
all_of_map f [] = refl
all_of_map f (x ∷ xs) = ap (λ rest. f x && rest) (all_of_map f xs)

-- the test of a tree, by its parts
pub natural_out : (x : Rtx) → all_natural x ≡ (is_natural (head_of x).code (head_of x).number && list_all all_natural (kids_of x))
natural_out x = fold_out-Rtx Bool natural_step x ∙ ap (λ rest. is_natural (head_of x).code (head_of x).number && rest) (all_of_map all_natural (kids_of x))

-- Where the registers of a tree have natural numbers, its numbers have their sizes.
use Rattle.std.proofs.Common.{◌≡◌, ℤ, true, List, [], ◌∷◌, refl}
use Rattle.std.specs.Prelude.{pos, negsuc}
use Rattle.std.specs.List.{AllByRecursion, list_all}
use Rattle.std.proofs.lemmas.Bool.{and_from, and_parts}
use Rattle.rtx_tree.specs.Tree.{head_of, kids_of}
use Rattle.rtx_tree.specs.declared.code.Code.{Code}
use Rattle.rtx_tree.specs.declared.code.Code.TheVariants.{Reg}
use Rattle.rtx_tree.specs.declared.tree.Rtx.{Rtx}
use Rattle.reload.specs.law_pass_needs.sym_insns.Shape.{is_natural, all_natural}
use Rattle.law_reload_moves.proofs.law_window_replaced.Trees.{natural_here, natural_kids}
use Rattle.law_homes.specs.Placed.{is_sized, all_sized}
use Rattle.law_homes.proofs.Trees.{tree_induction, sized_whole}

number_sized : (c : Code) (n : ℤ) → is_natural c n ≡ true → is_sized c n ≡ true
number_sized Reg (pos k) is = refl
number_sized Reg (negsuc k) is = is
number_sized _ n is = refl

abbrev Sized : Rtx → Type 0
Sized x = all_natural x ≡ true → all_sized x ≡ true

kids_sized : (xs : List Rtx) → AllByRecursion Sized xs → list_all all_natural xs ≡ true → list_all all_sized xs ≡ true
kids_sized [] each natural = refl
kids_sized (x ∷ xs) each natural =
    let both = and_parts (all_natural x) (list_all all_natural xs) natural in
    and_from (all_sized x) (list_all all_sized xs) (each.0 both.0) (kids_sized xs each.1 both.1)

pub natural_sized : (x : Rtx) → all_natural x ≡ true → all_sized x ≡ true
natural_sized = tree_induction Sized (λ x each natural.
    sized_whole x (number_sized (head_of x).code (head_of x).number (natural_here x natural)) (kids_sized (kids_of x) each (natural_kids x natural)))

-- What a tree reads, by its head and its kids.
use Rattle.std.proofs.Common.{◌≡◌, ℕ, Bool, true, false, ◌||◌, ◌&&◌, not, eqb, List, [], ◌∷◌, refl, ap, ◌∙◌}
use Rattle.std.specs.List.{list_any}
use Rattle.rtx_tree.specs.declared.tree.Rtx.{Rtx}
use Rattle.rtx_tree.specs.Tree.{head_of, kids_of, is_reg_numbered, mentions_reg}
use Rattle.rtx_tree.proofs.Trees.{mentions_out}
use Rattle.reg_uses.specs.Effects.{is_register, reads}

none_of : {X : Type 0} (xs : List X) → false ≡ list_any (λ (x : X). false) xs
none_of [] = refl
none_of (x ∷ xs) = none_of xs

any_and : {X : Type 0} (b : Bool) (f : X → Bool) (xs : List X) → (b && list_any f xs) ≡ list_any (λ x. b && f x) xs
any_and true f xs = refl
any_and false f xs = none_of xs

and_or : (b x y : Bool) → (b && (x || y)) ≡ ((b && x) || (b && y))
and_or true x y = refl
and_or false x y = refl

pub reads_out : (reg : ℕ) (x : Rtx) → reads reg x ≡ (is_register reg x || list_any (reads reg) (kids_of x))
reads_out reg x =
    let here = is_reg_numbered (head_of x).code (head_of x).number reg in
    let some = not (eqb reg 0) in
    ap (λ b. some && b) (mentions_out reg x) ∙ (and_or some here (list_any (mentions_reg reg) (kids_of x)) ∙ ap (λ b. (some && here) || b) (any_and some (mentions_reg reg) (kids_of x)))

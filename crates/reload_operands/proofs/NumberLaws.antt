-- Whether a number stands in lists one behind the other.
use Rattle.std.proofs.Common.{◌≡◌, ℕ, Bool, ◌||◌, List, [], ◌∷◌, ◌++◌, refl, sym, ap, ◌∙◌}
use Rattle.std.specs.List.{flat_map, list_any}
use Rattle.std.proofs.lemmas.List.Folds.{list_any-append, flat_map-map}
use Rattle.rtx_tree.specs.declared.tree.Rtx.{Rtx}
use Rattle.rtx_tree.specs.declared.tree.Rtx.TheFolds.{fold_out-Rtx}
use Rattle.rtx_tree.specs.Tree.{head_of, kids_of}
use Rattle.md_constr.specs.Inputs.{operand_here, taken_step, taken_in}
use Rattle.reload_operands.specs.Directions.{has_number, scratch_here, scratch_step, scratches_in}

pub has_in_both : (k : ℕ) (xs ys : List ℕ) → has_number k (xs ++ ys) ≡ (has_number k xs || has_number k ys)
has_in_both k xs ys = list_any-append _ xs ys

pub has_in_each : {X : Type 0} (k : ℕ) (f : X → List ℕ) (xs : List X) → has_number k (flat_map f xs) ≡ list_any (λ x. has_number k (f x)) xs
has_in_each k f [] = refl
has_in_each k f (x ∷ xs) = has_in_both k (f x) (flat_map f xs) ∙ ap (λ b. has_number k (f x) || b) (has_in_each k f xs)

taken_out : (x : Rtx) → taken_in x ≡ operand_here (head_of x).code (head_of x).number ++ flat_map taken_in (kids_of x)
taken_out x = fold_out-Rtx (List ℕ) taken_step x ∙ ap (λ (rest : List ℕ). operand_here (head_of x).code (head_of x).number ++ rest) (flat_map-map (λ (numbers : List ℕ). numbers) taken_in (kids_of x))

-- an expression takes what it takes itself, and what its parts take
pub takes_out : (k : ℕ) (x : Rtx) → has_number k (taken_in x) ≡ (has_number k (operand_here (head_of x).code (head_of x).number) || list_any (λ part. has_number k (taken_in part)) (kids_of x))
takes_out k x =
    ap (has_number k) (taken_out x) ∙
    (has_in_both k (operand_here (head_of x).code (head_of x).number) (flat_map taken_in (kids_of x)) ∙ ap (λ b. has_number k (operand_here (head_of x).code (head_of x).number) || b) (has_in_each k taken_in (kids_of x)))

-- what one of some things has is what the list of all has
pub has_in_all : {X : Type 0} (k : ℕ) (f : X → List ℕ) (xs ys : List X) (b : Bool) → ys ≡ xs → b ≡ list_any (λ x. has_number k (f x)) ys → b ≡ has_number k (flat_map f xs)
has_in_all k f xs ys b is e = e ∙ (ap (list_any (λ x. has_number k (f x))) is ∙ sym (has_in_each k f xs))

scratch_out : (x : Rtx) → scratches_in x ≡ scratch_here (head_of x).code (head_of x).number ++ flat_map scratches_in (kids_of x)
scratch_out x =
    fold_out-Rtx (List ℕ) scratch_step x ∙
    ap (λ (rest : List ℕ). scratch_here (head_of x).code (head_of x).number ++ rest) (flat_map-map (λ (numbers : List ℕ). numbers) scratches_in (kids_of x))

-- a scratch of an expression is one itself, or one of its parts
pub scratches_out : (k : ℕ) (x : Rtx) → has_number k (scratches_in x) ≡
    (has_number k (scratch_here (head_of x).code (head_of x).number) || list_any (λ part. has_number k (scratches_in part)) (kids_of x))
scratches_out k x =
    ap (has_number k) (scratch_out x) ∙
    (has_in_both k (scratch_here (head_of x).code (head_of x).number) (flat_map scratches_in (kids_of x)) ∙
    ap (λ b. has_number k (scratch_here (head_of x).code (head_of x).number) || b) (has_in_each k scratches_in (kids_of x)))

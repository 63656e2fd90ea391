-- The operands whose values an expression takes, by those that its kids take.
use Rattle.std.proofs.Common.{◌≡◌, ℕ, List, ◌++◌, ap, ◌∙◌, append_assoc}
use Rattle.std.proofs.lemmas.List.Folds.{flat_map-map}
use Rattle.std.specs.List.{flat_map}
use Rattle.rtx_tree.specs.declared.tree.Rtx.{Rtx}
use Rattle.rtx_tree.specs.declared.tree.Rtx.TheFolds.{fold_out-Rtx}
use Rattle.rtx_tree.specs.Tree.{head_of, kids_of}
use Rattle.md_constr.specs.Inputs.{operand_here, taken_step, taken_in}

taken_out : (x : Rtx) → taken_in x ≡ operand_here (head_of x).code (head_of x).number ++ flat_map taken_in (kids_of x)
taken_out x = fold_out-Rtx (List ℕ) taken_step x ∙ ap (λ (rest : List ℕ). operand_here (head_of x).code (head_of x).number ++ rest) (flat_map-map (λ (numbers : List ℕ). numbers) taken_in (kids_of x))

-- the number of the expression itself was appended
pub taken_first : (x : Rtx) (old numbers : List ℕ) (kids : List Rtx) → numbers ≡ old ++ operand_here (head_of x).code (head_of x).number → kids ≡ kids_of x → numbers ++ flat_map taken_in kids ≡ old ++ taken_in x
taken_first x old numbers kids made is = rw made (rw is (rw (taken_out x) (append_assoc old (operand_here (head_of x).code (head_of x).number) (flat_map taken_in (kids_of x)))))

-- a part was appended, and then another
pub appended_both : (old middle new a b : List ℕ) → middle ≡ old ++ a → new ≡ middle ++ b → new ≡ old ++ (a ++ b)
appended_both old middle new a b first second = second ∙ (ap (λ (l : List ℕ). l ++ b) first ∙ append_assoc old a b)

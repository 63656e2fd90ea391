-- What operands an expression names, by what its kids name.
use Rattle.std.proofs.Common.{◌≡◌, ℕ, List, ◌++◌, ap, ◌∙◌, append_assoc}
use Rattle.std.proofs.lemmas.List.Folds.{flat_map-map}
use Rattle.std.specs.List.{flat_map}
use Rattle.rtx_tree.specs.declared.tree.Rtx.{Rtx}
use Rattle.rtx_tree.specs.declared.tree.Rtx.TheFolds.{fold_out-Rtx}
use Rattle.rtx_tree.specs.Tree.{head_of, kids_of}
use Rattle.md_draft.specs.Compact.{operand_here, operands_step, operands_in}

operands_out : (x : Rtx) → operands_in x ≡ operand_here (head_of x).code (head_of x).number ++ flat_map operands_in (kids_of x)
operands_out x = fold_out-Rtx (List ℕ) operands_step x ∙ ap (λ (rest : List ℕ). operand_here (head_of x).code (head_of x).number ++ rest) (flat_map-map (λ (numbers : List ℕ). numbers) operands_in (kids_of x))

pub operands_first : (x : Rtx) (old numbers : List ℕ) (kids : List Rtx) → numbers ≡ old ++ operand_here (head_of x).code (head_of x).number → kids ≡ kids_of x → numbers ++ flat_map operands_in kids ≡ old ++ operands_in x
operands_first x old numbers kids made is = rw made (rw is (rw (operands_out x) (append_assoc old (operand_here (head_of x).code (head_of x).number) (flat_map operands_in (kids_of x)))))

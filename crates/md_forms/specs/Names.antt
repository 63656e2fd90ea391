-- Which operands a form names, by their numbers. GCC Internals, "RTL Template".
use Rattle.std.specs.Prelude.{ℕ, ℤ, ◌==◌, Bool, false, List, [], ◌∷◌, ◌++◌}
use Rattle.std.specs.Int.{cast_unsigned, w64}
use Rattle.std.specs.List.{flat_map}
use Rattle.rtx_tree.specs.declared.code.Code.{Code}
use Rattle.rtx_tree.specs.declared.code.Code.TheVariants.{MatchOperand, MatchDup, MatchScratch, MatchOperator, MatchOpDup}
use Rattle.rtx_tree.specs.declared.tree.Rtx.{Rtx}
use Rattle.rtx_tree.specs.declared.tree.Rtx.TheOpen.{Rtx-F}
use Rattle.rtx_tree.specs.declared.tree.Rtx.TheFolds.{fold-Rtx}
use Rattle.md_tables.specs.c_words.declared.head.CondHead.{CondHead}
use Rattle.md_tables.specs.c_words.declared.head.CondHead.TheVariants.{Assign}

abbrev pub operand_here : Code → ℤ → List ℕ
operand_here MatchOperand number = cast_unsigned w64 number ∷ []
operand_here MatchScratch number = cast_unsigned w64 number ∷ []
operand_here MatchOperator number = cast_unsigned w64 number ∷ []
operand_here _ number = []

abbrev pub operands_step : Rtx-F (List ℕ) → List ℕ
operands_step x = operand_here x.code x.number ++ flat_map (λ numbers. numbers) x.kids

-- the numbers of an expression's operands
abbrev pub operands_in : Rtx → List ℕ
operands_in = fold-Rtx (List ℕ) operands_step

abbrev pub dup_here : Code → ℤ → List ℕ
dup_here MatchDup number = cast_unsigned w64 number ∷ []
dup_here MatchOpDup number = cast_unsigned w64 number ∷ []
dup_here _ number = []

abbrev pub dups_step : Rtx-F (List ℕ) → List ℕ
dups_step x = dup_here x.code x.number ++ flat_map (λ numbers. numbers) x.kids

-- the numbers of the operands that stand in an expression once more
abbrev pub dups_in : Rtx → List ℕ
dups_in = fold-Rtx (List ℕ) dups_step

-- the statement sets the operand
abbrev pub is_assigned : ℕ → CondHead → Bool
is_assigned k (Assign n) = n == k
is_assigned k _ = false

-- Inputs and outputs, by the pattern: GCC Internals, "RTL Template" and "Side Effect Expressions".
-- What a `set`, a `clobber` and any other effect take and change is what constraints ask of
-- (`md_constr`, specs/Inputs.antt).
use Rattle.std.specs.Prelude.{ℕ, ℤ, ◌==◌, Bool, true, false, ◌&&◌, ◌||◌, List, [], ◌∷◌, ◌++◌}
use Rattle.std.specs.Int.{cast_unsigned, w64}
use Rattle.std.specs.List.{list_any, flat_map}
use Rattle.rtx_tree.specs.declared.code.Code.{Code}
use Rattle.rtx_tree.specs.declared.code.Code.TheVariants.{Clobber, MatchScratch, MatchOperator, MatchOpDup}
use Rattle.rtx_tree.specs.declared.tree.Rtx.{Rtx}
use Rattle.rtx_tree.specs.declared.tree.Rtx.TheOpen.{Rtx-F}
use Rattle.rtx_tree.specs.declared.tree.Rtx.TheFolds.{fold-Rtx}
use Rattle.rtx_tree.specs.Tree.{head_of, kids_of}
use Rattle.md_constr.specs.Inputs.{effects_of, inputs_in, outputs_in, clobbered_by, taken_in}

abbrev pub has_number : ℕ → List ℕ → Bool
has_number k numbers = list_any (λ n. n == k) numbers

-- an input: an operand whose value the pattern takes
abbrev pub is_input : Rtx → ℕ → Bool
is_input pattern k = has_number k (inputs_in pattern)

-- an output: an operand that a `set` of the pattern sets, or of which it sets the low part
abbrev pub is_output : Rtx → ℕ → Bool
is_output pattern k = has_number k (outputs_in pattern)

-- an operand that a `clobber` of the pattern names
abbrev pub is_clobbered : Rtx → ℕ → Bool
is_clobbered pattern k = has_number k (flat_map clobbered_by (effects_of pattern))

-- ---- what the pattern doesn't say

abbrev pub is_operator_code : Code → Bool
is_operator_code MatchOperator = true
is_operator_code MatchOpDup = true
is_operator_code _ = false

abbrev pub scratch_here : Code → ℤ → List ℕ
scratch_here MatchScratch number = cast_unsigned w64 number ∷ []
scratch_here _ number = []

abbrev pub scratch_step : Rtx-F (List ℕ) → List ℕ
scratch_step x = scratch_here x.code x.number ++ flat_map (λ numbers. numbers) x.kids

-- the numbers of the scratches in an expression
abbrev pub scratches_in : Rtx → List ℕ
scratches_in = fold-Rtx (List ℕ) scratch_step

-- a scratch is given by a clobber; a register may be matched in its place, and elsewhere it is
-- taken or changed
abbrev pub reads_scratch : ℕ → Code → Rtx → Bool
reads_scratch k Clobber effect = false
reads_scratch k _ effect = has_number k (scratches_in effect)

-- an effect is an operator and an operand with a number stands inside it or is it, or the operand
-- is a scratch there and the effect is no clobber
abbrev pub hides : ℕ → Rtx → Bool
hides k effect =
    (is_operator_code (head_of effect).code && has_number k (taken_in effect)) || reads_scratch k (head_of effect).code effect

-- An operand stands inside an effect of which the pattern doesn't say what it does with it.
abbrev pub is_hidden : Rtx → ℕ → Bool
is_hidden pattern k = list_any (hides k) (effects_of pattern)

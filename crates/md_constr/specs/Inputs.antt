-- Which operands of a form are taken and which are changed: GCC Internals, "RTL Template" and "Side
-- Effect Expressions". The pattern decides it, and not the marks of the constraints.
use Rattle.std.specs.Prelude.{ℕ, ℤ, List, [], ◌∷◌, ◌++◌, Option, Some, None}
use Rattle.std.specs.Int.{cast_unsigned, w64}
use Rattle.std.specs.List.{flat_map}
use Rattle.std.specs.Option.{option_map_or, option_or}
use Rattle.rtx_tree.specs.declared.code.Code.{Code}
use Rattle.rtx_tree.specs.declared.code.Code.TheVariants.{MatchOperand, MatchDup, MatchScratch, MatchOperator, MatchOpDup, Set, Use, Clobber, Parallel, Subreg}
use Rattle.rtx_tree.specs.declared.tree.Rtx.{Rtx}
use Rattle.rtx_tree.specs.declared.tree.Rtx.TheOpen.{Rtx-F}
use Rattle.rtx_tree.specs.declared.tree.Rtx.TheFolds.{fold-Rtx}
use Rattle.rtx_tree.specs.Tree.{head_of, kids_of}
use Rattle.md_forms.specs.declared.form.Form.{Form}

-- An operand, an operator, a scratch and a dup of an operand stand for the operand: where they are
-- taken it is taken, and where they are changed it is changed.
abbrev pub operand_here : Code → ℤ → List ℕ
operand_here MatchOperand number = cast_unsigned w64 number ∷ []
operand_here MatchDup number = cast_unsigned w64 number ∷ []
operand_here MatchScratch number = cast_unsigned w64 number ∷ []
operand_here MatchOperator number = cast_unsigned w64 number ∷ []
operand_here _ number = []

-- ---- what is taken

abbrev pub taken_step : Rtx-F (List ℕ) → List ℕ
taken_step x = operand_here x.code x.number ++ flat_map (λ numbers. numbers) x.kids

-- the numbers of the operands whose values an expression takes
abbrev pub taken_in : Rtx → List ℕ
taken_in = fold-Rtx (List ℕ) taken_step

abbrev pub taken_inside : Rtx → List ℕ
taken_inside x = flat_map taken_in (kids_of x)

abbrev pub taken_at_by : Code → List Rtx → List ℕ
taken_at_by Subreg (inner ∷ []) = taken_inside inner
taken_at_by _ parts = flat_map taken_in parts

-- of a target, or a target's low part, what stands inside is taken: a memory's address, and what an
-- operator is over
abbrev pub taken_at : Rtx → List ℕ
taken_at target = taken_at_by (head_of target).code (kids_of target)

-- by an effect's code; a use and a clobber alone take nothing, and what an operand stands for as a
-- whole is not known
abbrev pub taken_by_parts : Code → Rtx → List Rtx → List ℕ
taken_by_parts Set x (target ∷ source ∷ []) = taken_at target ++ taken_in source
taken_by_parts Use x parts = []
taken_by_parts Clobber x parts = []
taken_by_parts MatchOperand x parts = []
taken_by_parts MatchDup x parts = []
taken_by_parts MatchScratch x parts = []
taken_by_parts MatchOperator x parts = []
taken_by_parts MatchOpDup x parts = []
taken_by_parts _ x parts = taken_in x

abbrev pub taken_by : Rtx → List ℕ
taken_by x = taken_by_parts (head_of x).code x (kids_of x)

-- ---- what is changed

abbrev pub changed_whole : Rtx → List ℕ
changed_whole x = operand_here (head_of x).code (head_of x).number

abbrev pub changed_at_by : Code → Rtx → List Rtx → List ℕ
changed_at_by Subreg x (inner ∷ []) = changed_whole inner
changed_at_by _ x parts = changed_whole x

-- the operand that is a target, or whose low part is
abbrev pub changed_at : Rtx → List ℕ
changed_at target = changed_at_by (head_of target).code target (kids_of target)

-- what a set sets
abbrev pub set_target_by : Code → List Rtx → Option Rtx
set_target_by Set (target ∷ source ∷ []) = Some target
set_target_by _ parts = None

-- what a clobber names
abbrev pub clobber_target_by : Code → List Rtx → Option Rtx
clobber_target_by Clobber (target ∷ []) = Some target
clobber_target_by _ parts = None

-- what a set or a clobber changes
abbrev pub target_by : Code → List Rtx → Option Rtx
target_by c parts = option_or (set_target_by c parts) (clobber_target_by c parts)

abbrev pub target_of : Rtx → Option Rtx
target_of x = target_by (head_of x).code (kids_of x)

-- the operand that is a target, if there is one
abbrev pub changed_in_target : Option Rtx → List ℕ
changed_in_target target = option_map_or changed_at target []

abbrev pub changed_by_parts : Code → List Rtx → List ℕ
changed_by_parts c parts = changed_in_target (target_by c parts)

-- the operand that a set or a clobber changes
abbrev pub changed_by : Rtx → List ℕ
changed_by x = changed_by_parts (head_of x).code (kids_of x)

abbrev pub set_by_parts : Code → List Rtx → List ℕ
set_by_parts c parts = changed_in_target (set_target_by c parts)

-- the operand that a set changes
abbrev pub set_by : Rtx → List ℕ
set_by x = set_by_parts (head_of x).code (kids_of x)

abbrev pub clobbered_by_parts : Code → List Rtx → List ℕ
clobbered_by_parts c parts = changed_in_target (clobber_target_by c parts)

-- the operand that a clobber names
abbrev pub clobbered_by : Rtx → List ℕ
clobbered_by x = clobbered_by_parts (head_of x).code (kids_of x)

-- ---- forms

-- the effects of a pattern: those of a parallel, or itself
abbrev pub effects_by : Code → Rtx → List Rtx → List Rtx
effects_by Parallel x parts = parts
effects_by _ x parts = x ∷ []

abbrev pub effects_of : Rtx → List Rtx
effects_of x = effects_by (head_of x).code x (kids_of x)

abbrev pub inputs_in : Rtx → List ℕ
inputs_in pattern = flat_map taken_by (effects_of pattern)

abbrev pub changed_in : Rtx → List ℕ
changed_in pattern = flat_map changed_by (effects_of pattern)

abbrev pub outputs_in : Rtx → List ℕ
outputs_in pattern = flat_map set_by (effects_of pattern)

-- the inputs of a form: the operands whose values its patterns take
abbrev pub inputs_of : Form → List ℕ
inputs_of f = flat_map inputs_in f.patterns

-- the operands that stand in a form's patterns, each as often as it stands there
abbrev pub operands_of : Form → List ℕ
operands_of f = flat_map taken_in f.patterns

-- the operands that a form's patterns set or clobber
abbrev pub changed_of : Form → List ℕ
changed_of f = flat_map changed_in f.patterns

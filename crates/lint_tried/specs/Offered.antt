-- What is tried in the place of each operand of an alternative: the candidates that it takes, with
-- the constants at the ends of what it takes; and where its constraint names an operand by a digit,
-- the same tree as that one (GCC Internals, "Simple Constraints").
use Rattle.std.specs.Prelude.{ℕ, ℤ, ◌==◌, Bool, List, [], ◌∷◌, ◌++◌, map, filter, flat_map, slice_get, Option, if◌then◌else◌}
use Rattle.std.specs.Int.{cast_unsigned, w64}
use Rattle.std.specs.List.{list_any}
use Rattle.std.specs.Option.{option_map_or}
use Rattle.rtx_tree.specs.declared.tree.Rtx.{Rtx}
use Rattle.rtx_tree.specs.Tree.{head_of, const_of}
use Rattle.rv_regs.specs.Registers.{allocation_order}
use Rattle.md_text.specs.declared.constraint.Member.{Member}
use Rattle.md_text.specs.declared.constraint.Member.TheVariants as member
use Rattle.md_text.specs.declared.constraint.Alternative.{Alternative}
use Rattle.md_desc.specs.md_forms.declared.form.OperandConstraint.{OperandConstraint}
use Rattle.md_constr.specs.Inputs.{changed_of}
use Rattle.lint_choices.specs.Numbers.{numbers_by, tried_numbers, with_neighbours}
use Rattle.lint_made.specs.declared.candidate.Candidate.{Candidate}
use Rattle.lint_made.specs.declared.candidate.Candidate.TheVariants as candidate
use Rattle.lint_made.specs.Candidates.{tree_with, candidates_by}
use Rattle.lint_made.specs.Made.{givers}
use Rattle.lint_tried.specs.Numbers.{own_numbers}
use Rattle.lint_tried.specs.Trial.{Trial, takes}

-- ---- registers

-- a candidate over a register is taken
abbrev pub takes_over : Trial → Rtx → Candidate → ℕ → Bool
takes_over t p c reg = takes t p (tree_with reg c)

-- the registers over which a candidate is taken, in the order in which homes are tried
abbrev pub own_registers : Trial → Rtx → Candidate → List ℕ
own_registers t p c = filter (takes_over t p c) allocation_order

-- a candidate is taken over some register
abbrev pub is_taken : Trial → Rtx → Candidate → Bool
is_taken t p c = list_any (takes_over t p c) allocation_order

-- ---- constants

-- the numbers that are looked at, by those in the tests of the description
abbrev pub looked_at : Trial → List ℤ → List ℤ
looked_at t tested = numbers_by (tested ++ own_numbers t.says)

-- the form's own, and their neighbours, are tried wherever they are taken
abbrev pub named_numbers : Trial → List ℤ
named_numbers t = flat_map with_neighbours (own_numbers t.says)

abbrev pub takes_number : Trial → Rtx → ℤ → Bool
takes_number t p n = takes t p (const_of n)

-- the constants that are tried in the place of an operand
abbrev pub constants_at : Trial → List ℤ → Rtx → List ℤ
constants_at t looked p =
    tried_numbers (named_numbers t) looked (map (takes_number t p) looked)

-- ---- digits

abbrev pub digit_candidates : Member → List Candidate
digit_candidates (member.Same n) = candidate.Same n ∷ []
digit_candidates _ = []

abbrev pub digits_in : Option Alternative → List Candidate
digits_in alternative = option_map_or (λ (a : Alternative). flat_map digit_candidates a.members) alternative []

-- those of an operand's constraint, if it is that operand's
abbrev pub digits_of : ℕ → ℤ → OperandConstraint → List Candidate
digits_of alternative number k =
    if k.operand == cast_unsigned w64 number then digits_in (slice_get k.constraint alternative) else []

abbrev pub digits_at : Trial → Rtx → List Candidate
digits_at t p = flat_map (digits_of t.alternative (head_of p).number) t.says.constraints

-- ---- candidates

-- the form changes the operand of a placeholder
abbrev pub is_target : Trial → Rtx → Bool
is_target t p = list_any (λ number. number == cast_unsigned w64 (head_of p).number) (changed_of t.says)

abbrev pub could_stand : Trial → List ℤ → Rtx → List Candidate
could_stand t looked p =
    candidates_by (head_of p).code (is_target t p) (head_of p).mode (constants_at t looked p)

-- those that are taken by themselves, and those of digits
abbrev pub candidates_at : Trial → List ℤ → Rtx → List Candidate
candidates_at t looked p = filter (is_taken t p) (could_stand t looked p) ++ digits_at t p

-- the candidates of each operand that the pattern gives, from the left
abbrev pub candidates_of : Trial → List ℤ → List (List Candidate)
candidates_of t tested = map (candidates_at t (looked_at t tested)) (givers t.pattern)

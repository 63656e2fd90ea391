-- Whether operands fit an alternative of a form: GCC Internals, "Multiple Alternative Constraints",
-- "Simple Constraints" and "Constraint Modifier Characters".
use Rattle.std.specs.Prelude.{ℕ, ◌==◌, Bool, true, false, not, ◌&&◌, ◌||◌, List, [], ◌∷◌, Option, slice_get}
use Rattle.std.specs.List.{list_all, list_any}
use Rattle.std.specs.Option.{option_map_or}
use Rattle.rtx_tree.specs.declared.tree.Rtx.{Rtx}
use Rattle.rtx_tree.specs.Operands.{operand_at}
use Rattle.rtx_tree.specs.Tree.{mentions_reg}
use Rattle.md_operand.specs.Operand.{is_far}
use Rattle.c_eval.specs.Value.{same_tree}
use Rattle.pred_rows.specs.Tests.{Accepts}
use Rattle.md_text.specs.declared.constraint.Member.{Member}
use Rattle.md_text.specs.declared.constraint.Member.TheVariants as member
use Rattle.md_text.specs.declared.constraint.Alternative.{Alternative}
use Rattle.md_forms.specs.declared.form.OperandConstraint.{OperandConstraint}
use Rattle.md_forms.specs.declared.form.Entry.{Entry}
use Rattle.md_attr.specs.Alternatives.{form_at}
use Rattle.md_constr.specs.Inputs.{operands_of, inputs_of, changed_of}
use Rattle.md_constr.specs.Admits.{letter_admits, name_admits}
use Rattle.md_constr.specs.Early as early

-- the operands that defined constraints admit, by the constraints' names
abbrev pub Named : Type 0
Named = List ℕ → Rtx → Bool

-- ---- members

-- an operand is the same tree as the one with a number
abbrev pub is_same : List (Option Rtx) → ℕ → Rtx → Bool
is_same operands n x = option_map_or (same_tree x) (operand_at operands n) false

abbrev pub member_admits : Named → List (Option Rtx) → Rtx → Member → Bool
member_admits named operands x (member.Letter l) = letter_admits l x
member_admits named operands x (member.Same n) = is_same operands n x
member_admits named operands x (member.Defined name) = named name x

-- an operand meets one of the members; an alternative without members accepts anything
abbrev pub meets : Named → List (Option Rtx) → Rtx → List Member → Bool
meets named operands x [] = true
meets named operands x (m ∷ ms) = list_any (member_admits named operands x) (m ∷ ms)

-- ---- earlyclobber outputs

abbrev pub mentions_at : List (Option Rtx) → ℕ → ℕ → Bool
mentions_at operands reg n = option_map_or (mentions_reg reg) (operand_at operands n) false

-- an input other than operand n mentions the register
abbrev pub is_shared : List ℕ → List (Option Rtx) → ℕ → ℕ → Bool
is_shared inputs operands n reg =
    early.is_shared (λ input. input) (λ input reg. mentions_at operands reg input) inputs n reg

-- the pattern changes the operand of a constraint
abbrev pub is_changed : List ℕ → OperandConstraint → Bool
is_changed changed k = list_any (λ number. number == k.operand) changed

-- an operand in an alternative of its constraint is an earlyclobber output that shares a register
-- with an input
abbrev pub clashes_in : List ℕ → List ℕ → List (Option Rtx) → OperandConstraint → Rtx →
    Alternative → Bool
clashes_in inputs changed operands k x a =
    early.clashes a.early (is_changed changed k) (early.shares_register (is_shared inputs operands k.operand) x)

-- ---- memory at far addresses

-- the operand with a number is memory at a far address, which no load and no store reaches by
-- itself
abbrev pub is_far_at : List (Option Rtx) → ℕ → Bool
is_far_at operands n = option_map_or is_far (operand_at operands n) false

abbrev pub none_far : List (Option Rtx) → List ℕ → Bool
none_far operands numbers = list_all (λ n. not (is_far_at operands n)) numbers

-- ---- operands

-- an operand fits an alternative of its constraint: it meets a member, and shares no register with
-- an input if it is an earlyclobber output
abbrev pub fits_in : Named → List ℕ → List ℕ → List (Option Rtx) → OperandConstraint → Rtx →
    Alternative → Bool
fits_in named inputs changed operands k x a =
    meets named operands x a.members && not (clashes_in inputs changed operands k x a)

-- a constraint without alternatives is none, and accepts anything
abbrev pub fits_among : Named → List ℕ → List ℕ → List (Option Rtx) → OperandConstraint → Rtx → ℕ →
    List Alternative → Bool
fits_among named inputs changed operands k x alternative [] = true
fits_among named inputs changed operands k x alternative (a ∷ more) = option_map_or (fits_in named inputs changed operands k x) (slice_get (a ∷ more) alternative) false

abbrev pub fits_at : Named → List ℕ → List ℕ → List (Option Rtx) → ℕ → OperandConstraint → Rtx →
    Bool
fits_at named inputs changed operands alternative k x =
    fits_among named inputs changed operands k x alternative k.constraint

-- the operand of a constraint, where there is one, fits an alternative of it
abbrev pub operand_fits : Named → List ℕ → List ℕ → List (Option Rtx) → ℕ → OperandConstraint → Bool
operand_fits named inputs changed operands alternative k = option_map_or (fits_at named inputs changed operands alternative k) (operand_at operands k.operand) true

-- each operand that has a constraint fits
abbrev pub all_fit : Named → List ℕ → List ℕ → List (Option Rtx) → ℕ → List OperandConstraint → Bool
all_fit named inputs changed operands alternative ks =
    list_all (operand_fits named inputs changed operands alternative) ks

-- ---- one operand alone

-- what holds of each constraint of the operand with a number
abbrev pub each_of : ℕ → (OperandConstraint → Bool) → List OperandConstraint → Bool
each_of number p ks = list_all (λ k. not (k.operand == number) || p k) ks

abbrev pub admits_among : Named → List (Option Rtx) → Rtx → ℕ → List Alternative → Bool
admits_among named operands x alternative [] = true
admits_among named operands x alternative (a ∷ more) =
    option_map_or (λ a. meets named operands x a.members) (slice_get (a ∷ more) alternative) false

-- a constraint admits a tree in an alternative, in the place of its operand
abbrev pub constraint_admits : Named → List (Option Rtx) → ℕ → Rtx → OperandConstraint → Bool
constraint_admits named operands alternative x k =
    admits_among named operands x alternative k.constraint

-- ---- forms

-- all operands with these numbers and constraints fit: none is memory at a far address, and each
-- that has a constraint fits it
abbrev pub fit_together : Named → List ℕ → List ℕ → List ℕ → List (Option Rtx) → ℕ →
    List OperandConstraint → Bool
fit_together named numbers inputs changed operands alternative ks =
    none_far operands numbers && all_fit named inputs changed operands alternative ks

-- the operand with a number fits: it is no memory at a far address, and fits each of its
-- constraints
abbrev pub fits_alone : Named → List ℕ → List ℕ → List (Option Rtx) → ℕ → ℕ →
    List OperandConstraint → Bool
fits_alone named inputs changed operands alternative number ks =
    not (is_far_at operands number) &&
    each_of number (operand_fits named inputs changed operands alternative) ks

-- whether operands fit an alternative of the accepted form with an index
abbrev pub fits : List Entry → Accepts → ℕ → ℕ → List (Option Rtx) → Bool
fits forms accepts form alternative operands =
    option_map_or (λ f. fit_together (name_admits forms accepts) (operands_of f) (inputs_of f) (changed_of f) operands alternative f.constraints) (form_at forms form) false

-- whether the operand with a number fits an alternative of the accepted form with an index
abbrev pub number_fits : List Entry → Accepts → ℕ → ℕ → List (Option Rtx) → ℕ → Bool
number_fits forms accepts form alternative operands number =
    option_map_or (λ f. fits_alone (name_admits forms accepts) (inputs_of f) (changed_of f) operands alternative number f.constraints) (form_at forms form) false

-- whether the constraint of the operand with a number admits a tree in an alternative of the
-- accepted form with an index
abbrev pub number_admits : List Entry → Accepts → ℕ → ℕ → List (Option Rtx) → ℕ → Rtx → Bool
number_admits forms accepts form alternative operands number x =
    option_map_or (λ f. each_of number (constraint_admits (name_admits forms accepts) operands alternative x) f.constraints) (form_at forms form) false

-- How an operand stands in an alternative of its form, homes being put in: GCC Internals, "Multiple
-- Alternative Constraints", "Simple Constraints" and "Constraint Modifier Characters".
use Rattle.std.specs.Prelude.{ℕ, ℤ, ◌+◌, ◌==◌, Bool, true, false, not, ◌&&◌, ◌||◌, List, [], ◌∷◌, Option, Some, None, is_some, slice_get, option_and_then, if◌then◌else◌}
use Rattle.std.specs.List.{list_any, find, filter_map, position_from}
use Rattle.std.specs.Option.{option_map, option_map_or}
use Rattle.rtx_tree.specs.declared.code.Code.{Code}
use Rattle.rtx_tree.specs.declared.code.Code.TheVariants.{Plus}
use Rattle.rtx_tree.specs.declared.code.Mode.{Mode}
use Rattle.rtx_tree.specs.declared.code.Mode.TheVariants.{DI}
use Rattle.rtx_tree.specs.declared.tree.Rtx.{Rtx, out-Rtx}
use Rattle.rtx_tree.specs.Tree.{mentions_reg}
pub use Rattle.rtx_tree.specs.Tree.{is_memory_code}
use Rattle.c_eval.specs.Value.{same_tree}
use Rattle.md_text.specs.declared.constraint.Letter.{Letter}
use Rattle.md_text.specs.declared.constraint.Letter.TheVariants as letter
use Rattle.md_text.specs.declared.constraint.Member.{Member}
use Rattle.md_text.specs.declared.constraint.Member.TheVariants as member
use Rattle.md_text.specs.declared.constraint.Alternative.{Alternative}
use Rattle.md_forms.specs.declared.form.OperandConstraint.{OperandConstraint}
use Rattle.md_forms.specs.declared.form.Entry.{Entry}
use Rattle.md_desc.specs.md_attr.Alternatives.{form_at}
use Rattle.md_desc.specs.md_pred.Holds.{holds}
use Rattle.reload_operands.specs.md_constr.Early as early
use Rattle.reload_operands.specs.md_constr.Fits.{number_admits}
use Rattle.reload_operands.specs.declared.operand.Base.{Base}
use Rattle.reload_operands.specs.declared.operand.Operand.{Operand}
use Rattle.md_operand.specs.Operand.{is_far}
use Rattle.reload_moves.specs.declared.fitting.Standing.{Standing}
use Rattle.reload_moves.specs.declared.fitting.Standing.TheVariants.{Stays, Far, Tied, Moves}
use Rattle.reload_moves.specs.declared.fitting.Digit.{Digit}
use Rattle.reload_moves.specs.declared.fitting.Needs.{Needs}
use Rattle.reload_moves.specs.declared.fitting.Fitting.{Fitting}
use Rattle.reload_fit.specs.Addressed.{on_register, far_offset, slot_far}

-- ---- what an alternative asks

-- by the numbers of operands
pub record Asks : Type 0 where
  -- what stands in the constraint of an operand; none where the operand has no constraint
  pub asked : ℕ → Option Alternative
  -- the constraint of an operand admits a tree, digits apart; no constraint admits anything
  pub admits : ℕ → Rtx → Bool

abbrev pub asked_in : List OperandConstraint → ℕ → ℕ → Option Alternative
asked_in constraints alternative number = option_and_then (λ k. slice_get k.constraint alternative) (find (λ k. k.operand == number) constraints)

-- of some constraints of a form; where no operand is known, a digit admits nothing
abbrev pub asks_by : List Entry → ℕ → List OperandConstraint → ℕ → Asks
asks_by forms form constraints alternative =
    record { asked = asked_in constraints alternative; admits = number_admits forms (holds forms) form alternative [] }

-- of a form of a description
abbrev pub constraints_of : List Entry → ℕ → List OperandConstraint
constraints_of forms form = option_map_or (λ f. f.constraints) (form_at forms form) []

abbrev pub asks_of : List Entry → ℕ → ℕ → Asks
asks_of forms form alternative = asks_by forms form (constraints_of forms form) alternative

-- ---- what cannot stay, whatever its constraint admits

abbrev pub is_early : Option Alternative → Bool
is_early None = false
is_early (Some a) = a.early

-- an input mentions a register
abbrev pub mentions_as_input : Operand → ℕ → Bool
mentions_as_input y reg = y.is_input && mentions_reg reg y.tree

-- an input other than the operand with a number mentions a register
abbrev pub is_shared : List Operand → ℕ → ℕ → Bool
is_shared operands number reg =
    early.is_shared (λ y. y.number) mentions_as_input operands number reg

-- a register shares itself with an input
abbrev pub shares_register : List Operand → Operand → Bool
shares_register operands x = early.shares_register (is_shared operands x.number) x.tree

-- an operand that is changed before all inputs are taken shares a register with an input
abbrev pub clashes : Option Alternative → List Operand → Operand → Bool
clashes asked operands x =
    early.clashes (is_early asked) (x.is_output || x.is_clobbered) (shares_register operands x)

-- the low part of a slot is no memory that an instruction names
abbrev pub is_part_of_slot : Operand → Bool
is_part_of_slot x = x.in_slot && x.in_lowpart

-- an operator is never rewritten, so it is no scratch and no far memory
abbrev pub is_lost : Operand → Bool
is_lost x = x.is_operator && (x.is_scratch || is_far x.tree)

-- ---- what is asked of a constraint

abbrev pub is_address_letter : Letter → Bool
is_address_letter letter.Address = true
is_address_letter _ = false

abbrev pub asks_address : Member → Bool
asks_address (member.Letter l) = is_address_letter l
asks_address _ = false

abbrev pub has_address_letter : Option Alternative → Bool
has_address_letter None = false
has_address_letter (Some a) = list_any asks_address a.members

abbrev pub is_memory : Rtx → Bool
is_memory x = is_memory_code (out-Rtx x).code

-- an address operand: one with the predicate `address_operand`, or with the letter `p`
abbrev pub is_address_operand : Option Alternative → Operand → Bool
is_address_operand asked x = x.is_address || has_address_letter asked

-- a memory, or an address operand
abbrev pub has_address : Option Alternative → Operand → Bool
has_address asked x = is_memory x.tree || is_address_operand asked x

-- a slot holds the base of its address, and it can be rewritten
abbrev pub is_based : Option Alternative → Operand → Bool
is_based asked x = is_some x.base && (not x.is_operator && has_address asked x)

-- an operand with t3 in its address, where a slot holds its base or it is far; of this its
-- constraint is asked
abbrev pub shown : Option Alternative → Operand → Rtx
shown asked x = if is_based asked x || is_far x.tree then on_register 28 x else x.tree

abbrev pub is_address_mode : Mode → Bool
is_address_mode DI = true
is_address_mode _ = false

abbrev pub adds_memory : Code → List Rtx → Bool
adds_memory Plus parts = list_any is_memory parts
adds_memory _ parts = false

-- a sum with memory in it, in a mode narrower than that of addresses
abbrev pub is_narrow_sum : Rtx → Bool
is_narrow_sum x = not (is_address_mode (out-Rtx x).mode) && adds_memory (out-Rtx x).code (out-Rtx x).kids

-- An address operand in which a slot stands that is no base of it: it lives in a slot itself, or it
-- is a sum in another mode than DI. (What `address_operand` or `p` accepts has no memory in it
-- before homes are put in.)
abbrev pub is_baseless : Option Alternative → Operand → Bool
is_baseless asked x = is_address_operand asked x && (x.in_slot || is_narrow_sum x.tree)

abbrev pub is_admitted : Asks → Operand → Bool
is_admitted asks x = asks.admits x.number (shown (asks.asked x.number) x)

-- ---- digits

abbrev pub number_in : Member → Option ℕ
number_in (member.Same n) = Some n
number_in _ = None

-- where the operand with a number stands among the operands
abbrev pub place_of : List Operand → ℕ → Option ℕ
place_of operands number = position_from (λ y. y.number == number) 0 operands

-- a scratch is the same as none, and so is an address operand with a slot that is no base of it
abbrev pub is_lone : Option Alternative → Operand → Bool
is_lone asked x = x.is_scratch || is_baseless asked x

-- the operand at a place is the same as another, by whether this is the same as none
abbrev pub is_same_at : Bool → List Operand → ℕ → Operand → Bool
is_same_at lone operands place x =
    not lone && option_map_or (λ y. same_tree x.tree y.tree) (slice_get operands place) false

abbrev pub digit_at : Bool → List Operand → Operand → ℕ → Digit
digit_at lone operands x place =
    record { place = place; same = is_same_at lone operands place x }

abbrev pub digit_of : Bool → List Operand → Operand → ℕ → Option Digit
digit_of lone operands x number =
    option_map (digit_at lone operands x) (place_of operands number)

abbrev pub digit_in : Bool → List Operand → Operand → Member → Option Digit
digit_in lone operands x m = option_and_then (digit_of lone operands x) (number_in m)

abbrev pub digits_among : Bool → List Operand → Operand → List Member → List Digit
digits_among lone operands x members = filter_map (digit_in lone operands x) members

abbrev pub digits_by : Option Alternative → Bool → List Operand → Operand → List Digit
digits_by None lone operands x = []
digits_by (Some a) lone operands x = digits_among lone operands x a.members

-- the operands that the digits of its constraint name, in their order
abbrev pub digits_of : Option Alternative → List Operand → Operand → List Digit
digits_of asked operands x = digits_by asked (is_lone asked x) operands x

-- ---- standings

abbrev pub is_digit : Member → Bool
is_digit m = is_some (number_in m)

abbrev pub has_digit : Option Alternative → Bool
has_digit None = false
has_digit (Some a) = list_any is_digit a.members

-- The operand is moved at once: an earlyclobber clash, a slot inside a lowpart, an operator that is
-- a scratch or far, and a scratch that its constraint admits, since each scratch is given a
-- register.
abbrev pub moves_at_once : Option Alternative → List Operand → Operand → Bool → Bool
moves_at_once asked operands x admitted =
    clashes asked operands x || (is_part_of_slot x || (is_lost x || (x.is_scratch && admitted)))

abbrev pub admitted_as : Rtx → Standing
admitted_as x = if is_far x then Far else Stays

abbrev pub refused_as : Option Alternative → Standing
refused_as asked = if has_digit asked then Tied else Moves

-- An address operand in which a slot stands that is no base of it stays under no constraint.
abbrev pub may_stay : Option Alternative → Operand → Bool → Bool
may_stay asked x admitted = admitted && not (is_baseless asked x)

-- An operator stays. An operand stays where its constraint admits it with a register in its
-- address, digits apart; a far memory is so admitted at a far base alone. One that can't stay so is
-- tied where its constraint has a digit, and else it is moved.
abbrev pub standing_by : Option Alternative → List Operand → Operand → Bool → Standing
standing_by asked operands x admitted =
    if moves_at_once asked operands x admitted then Moves
    else if x.is_operator then Stays
    else if may_stay asked x admitted then admitted_as x.tree
    else refused_as asked

abbrev pub standing_of : Asks → List Operand → Operand → Standing
standing_of asks operands x = standing_by (asks.asked x.number) operands x (is_admitted asks x)

-- ---- each operand in an alternative

abbrev pub slot_far_of : Option Base → Option ℤ
slot_far_of None = None
slot_far_of (Some base) = slot_far base

-- what registers and moves ask of it
abbrev pub needs_of : Option Alternative → Operand → Needs
needs_of asked x = record {
  is_input = x.is_input;
  is_output = x.is_output;
  has_base = is_based asked x;
  slot_far = slot_far_of x.base;
  far = far_offset x.tree;
}

abbrev pub fitting_at : Asks → List Operand → ℕ → Operand → Fitting
fitting_at asks operands place x = record {
  place = place;
  standing = standing_of asks operands x;
  digits = digits_of (asks.asked x.number) operands x;
  needs = needs_of (asks.asked x.number) x;
}

-- how each operand stands, in their order
abbrev pub fittings_from : Asks → List Operand → ℕ → List Operand → List Fitting
fittings_from asks operands place [] = []
fittings_from asks operands place (x ∷ xs) =
    fitting_at asks operands place x ∷ fittings_from asks operands (place + 1) xs

abbrev pub fittings_of : Asks → List Operand → List Fitting
fittings_of asks operands = fittings_from asks operands 0 operands

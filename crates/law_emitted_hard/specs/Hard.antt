-- Trees that name registers of the machine alone: GCC Internals, "Registers and Memory" (hard
-- registers, pseudo registers and `virtual-stack-vars`) and "Defining RTL Sequences for Code
-- Generation".
use Rattle.std.specs.Prelude.{◌≡◌, false, List, [], ◌∷◌, Option, Some, None}
use Rattle.std.specs.List.{AllByRecursion}
use Rattle.rtx_tree.specs.declared.tree.Rtx.{Rtx}
use Rattle.md_match.specs.Pattern.{Ops}
use Rattle.form_needs.specs.Needs.{names_homeless}

-- no pseudo register, and not the address of the locals, stands in a tree
abbrev pub IsHard : Rtx → Type 0
IsHard x = names_homeless x ≡ false

abbrev pub AreHard : List Rtx → Type 0
AreHard xs = AllByRecursion IsHard xs

-- nor in an operand that is there
abbrev pub OperandsHard : Ops → Type 0
OperandsHard [] = Unit {0}
OperandsHard (None ∷ operands) = OperandsHard operands
OperandsHard (Some x ∷ operands) = IsHard x × OperandsHard operands

-- what holds of what is there, if something is
abbrev pub OnSome : {A : Type 0} → (A → Type 0) → Option A → Type 0
OnSome P None = Unit {0}
OnSome P (Some x) = P x

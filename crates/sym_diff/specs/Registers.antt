-- The registers of two symbolic states compared, over those that are live behind.
use Rattle.std.specs.Prelude.{ℕ, ◌^◌, ◌==◌, ◌&&◌, ◌||◌, not, nat_le, nat_lt, Bool, true, false, if◌then◌else◌, List, [], ◌∷◌, Option, Some, None, is_some}
use Rattle.std.specs.Ordering.{is_eq}
use Rattle.rtx_tree.specs.Registers.{is_call_used, virtual_stack_vars}
use Rattle.rtx_tree.specs.RegSet.{has_reg}
use Rattle.term_tree.specs.Tree.{Tree, width_of}
use Rattle.term_tree.specs.Form.{narrower}
use Rattle.term_tree.specs.Order.{tree_cmp}
use Rattle.term_mean.specs.Compared.{low_bits}
use Rattle.term_text.specs.declared.item.Item.TheVariants.{Register}
use Rattle.sym_state.specs.State.{Changed, State, own_register}
use Rattle.sym_state.specs.Registers.{held}
use Rattle.sym_diff.specs.Difference.{Difference, Differ, shown, or_else}

abbrev pub same_tree : Tree → Tree → Bool
same_tree a b = is_eq (tree_cmp a b)

-- ---- which registers are looked at: those that a side changes, in increasing order

abbrev pub put_number : ℕ → List ℕ → List ℕ
put_number reg [] = reg ∷ []
put_number reg (r ∷ regs) =
    if nat_lt r reg then r ∷ put_number reg regs else (
    if r == reg then r ∷ regs else reg ∷ r ∷ regs)

abbrev pub changed_in : List Changed → List ℕ → List ℕ
changed_in [] regs = regs
changed_in (c ∷ changes) regs = changed_in changes (put_number c.reg regs)

-- ---- one register

-- what a register holds behind a side; one that is not changed holds what it held
abbrev pub value_behind : Option (Option Tree) → ℕ → Option Tree
value_behind None reg = Some (own_register reg)
value_behind (Some value) reg = value

-- the low bits that the other side knows
abbrev pub cut_beside : Option Tree → Option Tree → Option Tree
cut_beside (Some a) (Some b) =
    Some (if narrower (width_of a) (width_of b) then low_bits (width_of a) b else b)
cut_beside a b = b

-- the second knows as many bits as the first, and the same ones
abbrev pub agrees : Option Tree → Option Tree → Bool
agrees None b = true
agrees (Some a) None = false
agrees (Some a) (Some b) =
    not (narrower (width_of b) (width_of a)) && same_tree (low_bits (width_of a) b) a

abbrev pub is_live : List ℕ → ℕ → Bool
is_live live reg = has_reg live reg

-- a0 to a7 and t0 to t6, which a function's own steps may change where they are not live
abbrev pub is_free : ℕ → Bool
is_free reg = is_call_used reg && not (reg == 1)

-- the second changes a hard register, or virtual-stack-vars, that the first leaves alone
abbrev pub changes_alone : List ℕ → Option (Option Tree) → Option (Option Tree) → ℕ → Bool
changes_alone live a b reg =
    nat_le reg virtual_stack_vars &&
    (not (is_some a) && (is_some b && not (is_free reg && not (is_live live reg))))

abbrev pub fails : List ℕ → Option (Option Tree) → Option (Option Tree) → ℕ → Bool
fails live a b reg =
    changes_alone live a b reg ||
    (is_live live reg && not (agrees (value_behind a reg) (value_behind b reg)))

abbrev pub one_calls : State → State → Bool
one_calls a b = is_some a.call || is_some b.call

-- behind a call the registers that it may change are not compared
abbrev pub is_passed_over : Bool → ℕ → Bool
is_passed_over calls reg = calls && is_call_used reg

abbrev pub register_difference : Option (Option Tree) → Option (Option Tree) → ℕ → Difference
register_difference a b reg = let left = value_behind a reg in
    Differ (Register reg) (shown left) (shown (cut_beside left (value_behind b reg)))

abbrev pub compared_register :
    Bool → List ℕ → Option (Option Tree) → Option (Option Tree) → ℕ → Option Difference
compared_register calls live a b reg =
    if not (is_passed_over calls reg) && fails live a b reg then Some (register_difference a b reg)
    else None

-- ---- all of them

abbrev pub compared_all : Bool → List ℕ → List Changed → List Changed → List ℕ → Option Difference
compared_all calls live a b [] = None
compared_all calls live a b (reg ∷ regs) =
    or_else (compared_register calls live (held a reg) (held b reg) reg)
    (compared_all calls live a b regs)

-- the first register that fails
abbrev pub compared_registers : List ℕ → State → State → Option Difference
compared_registers live a b =
    compared_all (one_calls a b) live a.regs b.regs (changed_in b.regs (changed_in a.regs []))

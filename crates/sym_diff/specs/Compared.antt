-- The stores, the jumps, the calls and the needs of two symbolic states compared.
use Rattle.std.specs.Prelude.{ℕ, ◌+◌, ◌==◌, ◌&&◌, nat_le, Bool, true, false, if◌then◌else◌, List, [], ◌∷◌, Option, Some, None}
use Rattle.std.specs.List.{list_any}
use Rattle.std.specs.Str.{bytes_eq}
use Rattle.bits64.specs.declared.Width.TheVariants.{W64}
use Rattle.bits64.specs.Words.{bits_of}
use Rattle.rtx_tree.specs.declared.code.Mode.{Mode}
use Rattle.rtx_tree.specs.Code.{mode_bits}
use Rattle.term_tree.specs.Tree.{Tree}
use Rattle.term_mean.specs.Stores.{Store}
use Rattle.term_mean.specs.Sums.{constant}
use Rattle.term_text.specs.declared.item.Item.{Item}
use Rattle.term_text.specs.declared.item.Item.TheVariants as item
use Rattle.sym_state.specs.State.{Jump, Arg, Call, Need, NeedAt, Register, Lost, Access, Divisor, Symbol, nothing, own_register, own_symbol}
use Rattle.sym_diff.specs.Difference.{Difference, Differ, Lacks, shown, or_else}
use Rattle.sym_diff.specs.Registers.{same_tree, put_number, cut_beside}

-- two terms of an item
abbrev pub compared_terms : Item → Tree → Tree → Option Difference
compared_terms i a b = if same_tree a b then None else Some (Differ i a b)

-- ---- stores, by their places: the addresses where they differ, else the values

abbrev pub compared_store : ℕ → Store → Store → Option Difference
compared_store index a b =
    or_else (compared_terms (item.Store index) a.0 b.0) (compared_terms (item.Store index) a.1 b.1)

abbrev pub compared_stores : ℕ → List Store → List Store → Option Difference
compared_stores index [] [] = None
compared_stores index (a ∷ as_) [] = Some (Differ (item.Store index) a.0 nothing)
compared_stores index [] (b ∷ bs) = Some (Differ (item.Store index) nothing b.0)
compared_stores index (a ∷ as_) (b ∷ bs) =
    or_else (compared_store index a b) (compared_stores (index + 1) as_ bs)

-- ---- the jump: the conditions where they differ, else the labels' uids

abbrev pub target_term : Option ℕ → Tree
target_term None = nothing
target_term (Some uid) = constant W64 uid

abbrev pub compared_jump : Jump → Jump → Option Difference
compared_jump a b =
    or_else (compared_terms item.Jump a.condition b.condition)
    (compared_terms item.Jump (target_term a.target) (target_term b.target))

-- ---- the call: the targets where they differ, else the first argument by its register, else the
-- widths of the results. A call of lines hands over all of a0 to a7, of which those are looked at
-- that the first hands over, in so many bits; and it takes its result in no mode

abbrev pub arg_at : List Arg → ℕ → Option Tree
arg_at [] reg = None
arg_at (arg ∷ args) reg = if arg.reg == reg then Some arg.value else arg_at args reg

abbrev pub args_in : List Arg → List ℕ → List ℕ
args_in [] regs = regs
args_in (arg ∷ args) regs = args_in args (put_number arg.reg regs)

-- the arguments that are looked at
abbrev pub compared_numbers : Bool → List Arg → List Arg → List ℕ
compared_numbers of_lines a b = if of_lines then args_in a [] else args_in b (args_in a [])

-- what the second hands over: of lines, so many bits as the first
abbrev pub arg_beside : Bool → Option Tree → Option Tree → Option Tree
arg_beside of_lines a b = if of_lines then cut_beside a b else b

-- both hand over the same, or both nothing
abbrev pub same_value : Option Tree → Option Tree → Bool
same_value None None = true
same_value (Some a) (Some b) = same_tree a b
same_value _ _ = false

abbrev pub compared_arg : Bool → Option Tree → Option Tree → Option Difference
compared_arg of_lines a b =
    let beside = arg_beside of_lines a b in
    if same_value a beside then None else Some (Differ item.Call (shown a) (shown beside))

abbrev pub compared_args : Bool → List Arg → List Arg → List ℕ → Option Difference
compared_args of_lines a b [] = None
compared_args of_lines a b (reg ∷ regs) =
    or_else (compared_arg of_lines (arg_at a reg) (arg_at b reg)) (compared_args of_lines a b regs)

-- the width in which a result is taken, 0 for none
abbrev pub result_bits : Option Mode → ℕ
result_bits None = 0
result_bits (Some mode) = mode_bits mode

abbrev pub compared_results : Bool → Call → Call → Option Difference
compared_results of_lines a b =
    if of_lines then None else
    compared_terms item.Call (constant W64 (result_bits a.result)) (constant W64 (result_bits b.result))

abbrev pub compared_calls : Bool → Option Call → Option Call → Option Difference
compared_calls of_lines None None = None
compared_calls of_lines (Some a) None = Some (Differ item.Call a.target nothing)
compared_calls of_lines None (Some b) = Some (Differ item.Call nothing b.target)
compared_calls of_lines (Some a) (Some b) =
    or_else (compared_terms item.Call a.target b.target)
    (or_else (compared_args of_lines a.args b.args (compared_numbers of_lines a.args b.args))
    (compared_results of_lines a b))

-- ---- the needs: each of the second is one of the first. Fewer bits of a register are had where
-- more are

abbrev pub covers : Need → Need → Bool
covers (Register reg w) (Register reg' w') = (reg == reg') && nat_le (bits_of w') (bits_of w)
covers (Access address w) (Access address' w') =
    (bits_of w == bits_of w') && same_tree address address'
covers (Divisor term) (Divisor term') = same_tree term term'
covers (Symbol name) (Symbol name') = bytes_eq name name'
covers _ _ = false

abbrev pub is_covered : List NeedAt → Need → Bool
is_covered had need = list_any (λ n. covers n.what need) had

-- a need is shown as its register, address, divisor or symbol
abbrev pub need_term : Need → Tree
need_term (Register reg w) = own_register reg
need_term (Lost reg w) = own_register reg
need_term (Access address w) = address
need_term (Divisor term) = term
need_term (Symbol name) = own_symbol name

-- the first that the first side has not
abbrev pub compared_needs : List NeedAt → List NeedAt → Option Difference
compared_needs had [] = None
compared_needs had (n ∷ needs) =
    if is_covered had n.what then compared_needs had needs else Some (Lacks (need_term n.what))

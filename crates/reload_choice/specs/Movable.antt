-- Which operands can be moved, and when an alternative is reachable: GCC Internals, "RTL passes"
-- (reload), "Side Effect Expressions" (what an instruction changes) and "Simple Constraints".
use Rattle.std.specs.Prelude.{ℕ, nat_le, ◌==◌, Bool, true, false, not, ◌&&◌, ◌||◌, List, [], map, length, is_some, slice_get}
use Rattle.std.specs.List.{list_all}
use Rattle.std.specs.Option.{option_map_or}
use Rattle.rtx_tree.specs.declared.code.Mode.{Mode}
use Rattle.rtx_tree.specs.declared.code.Mode.TheVariants.{Void}
use Rattle.rtx_tree.specs.declared.function.Kind.{Kind}
use Rattle.rtx_tree.specs.declared.function.Kind.TheVariants.{Plain}
use Rattle.rtx_tree.specs.declared.tree.Rtx.{Rtx, out-Rtx}
use Rattle.rtx_tree.specs.Tree.{reg_of}
use Rattle.rtx_tree.specs.Operands.{put_at}
use Rattle.c_eval.specs.Value.{same_mode, same_tree}
use Rattle.rtl_func.specs.Kinds.{kinds_agree}
use Rattle.rtl_func.specs.Modes.{modes_agree}
use Rattle.reload_operands.specs.declared.operand.Operand.{Operand}
use Rattle.reload_operands.specs.declared.whole.Whole.{Whole}
use Rattle.reload_operands.specs.Put.{put}
use Rattle.reload_moves.specs.declared.fitting.Fitting.{Fitting}
use Rattle.reload_moves.specs.declared.part.Part.{Part}
use Rattle.reload_fit.specs.Fitting.{Asks, is_memory_code}
use Rattle.reload_moves.specs.Moved.{is_marked}
use Rattle.reload_fit.specs.Taken.{takes_register}
use Rattle.reload_choice.specs.declared.given.Given.{Given}
use Rattle.reload_moves.specs.Registers.{is_result, asks_of}
use Rattle.reload_choice.specs.Insns.{between}

-- ---- an operand that is moved

abbrev pub is_mode : Mode → Bool
is_mode Void = false
is_mode _ = true

-- an instruction is within the table of codes, and of its kind
abbrev pub is_formed_as : Kind → Rtx → Bool
is_formed_as kind x = modes_agree x && kinds_agree kind x

-- the instruction with t3 in each of an operand's places
abbrev pub with_register : Given → Operand → Rtx
with_register given x = put given.pattern (put_at [] x.number (reg_of x.mode 28)) given.insn

-- the operand can be replaced: what comes of the instruction is within the table of codes, and of
-- its kind
abbrev pub is_formed : Given → Operand → Bool
is_formed given x = is_formed_as given.kind (with_register given x)

-- of each operand
abbrev pub formed_of : Given → List Bool
formed_of given = map (is_formed given) given.operands

abbrev pub can_be_replaced : List Bool → ℕ → Operand → Bool
can_be_replaced formed place x =
    not x.is_operator && (not x.is_hidden && (is_mode x.mode && (not x.in_lowpart && is_marked formed place)))

-- An operand can be moved where it is no operator, the pattern says what is done with it, it has a
-- mode, stands in no low part, can be replaced, and its constraint admits a register of t3 to t6.
abbrev pub may_move : Asks → List Operand → List Fitting → List Bool → ℕ → Operand → Bool
may_move asks operands fits formed place x =
    can_be_replaced formed place x && takes_register asks operands fits place x.mode

-- ---- a result that is moved

-- into a memory that is no slot only where the instruction changes no other memory, and of the
-- address no register but the base
abbrev pub may_land : Operand → Bool
may_land x =
    x.in_slot ||
    (not (is_memory_code (out-Rtx x.tree).code) || (not x.other_memory && not x.changed_address))

abbrev pub is_plain : Kind → Bool
is_plain Plain = true
is_plain _ = false

-- the instruction is no jump and no call, and changes no register twice, before homes are put in
-- and after
abbrev pub may_have_results : Kind → Whole → Bool
may_have_results kind whole = is_plain kind && (not whole.twice_before && not whole.twice_after)

-- a result can be moved where the instruction may have one, no clobber names it, and it may land
abbrev pub may_end : Given → Operand → Bool
may_end given x = may_have_results given.kind given.whole && (not x.is_clobbered && may_land x)

-- ---- operands that share a register

-- inputs are the same tree and are moved in one mode
abbrev pub are_same_inputs : Operand → Operand → Bool
are_same_inputs x y =
    not (x.is_input && y.is_input) || (same_tree x.tree y.tree && same_mode x.mode y.mode)

-- results are the same tree
abbrev pub are_same_outputs : Operand → Operand → Bool
are_same_outputs x y = not (x.is_output && y.is_output) || same_tree x.tree y.tree

-- a result shares with no scratch, and with nothing that is clobbered
abbrev pub is_alone : Operand → Operand → Bool
is_alone x y = not x.is_output || not (y.is_scratch || y.is_clobbered)

abbrev pub may_share : Operand → Operand → Bool
may_share x y = are_same_inputs x y && (are_same_outputs x y && is_alone x y)

abbrev pub at_both : List Operand → ℕ → ℕ → (Operand → Operand → Bool) → Bool
at_both operands i j test = option_map_or (λ x. option_map_or (test x) (slice_get operands j) false) (slice_get operands i) false

abbrev pub share : Part → Part → Bool
share p q = p.is_moved && (q.is_moved && (p.holder == q.holder))

abbrev pub shares_well : List Operand → Part → Part → Bool
shares_well operands p q = not (share p q) || at_both operands p.place q.place may_share

abbrev pub shares_with_all : List Operand → List Part → Part → Bool
shares_with_all operands parts p = list_all (shares_well operands p) parts

-- ---- what has a register in its address

-- an operand that stands in no low part, if a register stands in its address
abbrev pub is_clear : Part → Operand → Bool
is_clear p x = not x.in_lowpart || not (p.needs.has_base || is_some p.needs.far)

-- ---- reachable

abbrev pub part_may_end : Given → Part → Operand → Bool
part_may_end given p x = not (is_result p) || may_end given x

abbrev pub part_at_is_good : Given → Part → Operand → Bool
part_at_is_good given p x = is_clear p x && part_may_end given p x

abbrev pub part_is_good : Given → Part → Bool
part_is_good given p =
    option_map_or (part_at_is_good given p) (slice_get given.operands p.place) false

-- what has a register in its address is clear, and what is moved after the instruction may end
-- there
abbrev pub all_good : Given → List Part → Bool
all_good given parts = list_all (part_is_good given) parts

abbrev pub may_move_at : Asks → List Operand → List Fitting → List Bool → ℕ → Bool
may_move_at asks operands fits formed place =
    option_map_or (may_move asks operands fits formed place) (slice_get operands place) false

abbrev pub part_may_move : Asks → List Operand → List Fitting → List Bool → Part → Bool
part_may_move asks operands fits formed p =
    not p.is_moved || may_move_at asks operands fits formed p.place

abbrev pub are_all : List Bool → Bool
are_all row = list_all (λ mark. mark) row

-- each operand that is moved can be moved
abbrev pub all_may_move : Asks → List Operand → List Fitting → List Bool → List Part → Bool
all_may_move asks operands fits formed parts =
    are_all (map (part_may_move asks operands fits formed) parts)

abbrev pub all_share_well : List Operand → List Part → Bool
all_share_well operands parts = list_all (shares_with_all operands parts) parts

-- four registers suffice
abbrev pub has_registers : List Part → Bool
has_registers parts = nat_le (length (asks_of parts)) 4

-- operands that share a register may share it, results may be moved, and what is moved can be moved
abbrev pub is_suited : Asks → List Operand → Given → List Fitting → List Bool → List Part → Bool
is_suited asks operands given fits formed parts =
    (all_share_well given.operands parts && all_good given parts) && all_may_move asks operands fits formed parts

-- With all that is new in it the instruction is within the table of codes, and of its kind. (Of two
-- constants that are compared each alone can be replaced, and both only in one mode.)
abbrev pub stays_formed : Given → List Part → Bool
stays_formed given parts =
    is_formed_as given.kind (between given.pattern given.operands parts given.insn)

-- an alternative is reachable where all this holds and four registers suffice
abbrev pub is_reachable : Asks → List Operand → Given → List Fitting → List Bool → List Part → Bool
is_reachable asks operands given fits formed parts =
    has_registers parts && (is_suited asks operands given fits formed parts && stays_formed given parts)

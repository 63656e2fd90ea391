-- The instructions of a plan: GCC Internals, "RTL passes" (reload), "Side Effect Expressions"
-- (`set`), "Standard Pattern Names For Generation" (movm).
use Rattle.std.specs.Prelude.{ℕ, ℤ, List, [], ◌∷◌, flat_map, Option, Some, None, is_some, slice_get, if◌then◌else◌}
use Rattle.std.specs.Option.{option_map_or}
use Rattle.rtx_tree.specs.declared.code.Code.TheVariants.{Set, Mem, Plus}
use Rattle.rtx_tree.specs.declared.code.Mode.{Mode}
use Rattle.rtx_tree.specs.declared.code.Mode.TheVariants.{Void, DI}
use Rattle.rtx_tree.specs.declared.tree.Rtx.{Rtx}
use Rattle.rtx_tree.specs.Tree.{node_of, reg_of, const_of}
use Rattle.rtx_tree.specs.Operands.{put_at}
use Rattle.rv_regs.specs.Registers.{stack_pointer}
use Rattle.md_match.specs.Pattern.{Ops}
use Rattle.reload_operands.specs.declared.operand.Base as operands
use Rattle.reload_operands.specs.declared.operand.Operand.{Operand}
use Rattle.reload_operands.specs.Put.{put}
use Rattle.reload_moves.specs.declared.part.Part.{Part}
use Rattle.reload_moves.specs.declared.ask.Ask.{Ask}
use Rattle.reload_moves.specs.declared.moves.Move.{Move}
use Rattle.reload_moves.specs.declared.moves.Move.TheVariants.{Far, Base, In, Out}
use Rattle.reload_moves.specs.Registers.{asks_of}
use Rattle.reload_moves.specs.Moves.{own_of, base_of, far_of, moves_before, moves_after}
use Rattle.reload_fit.specs.Addressed.{address_on, on_register, slot_offset, slot_far}

-- ---- their instructions

abbrev pub set_of : Rtx → Rtx → Rtx
set_of target source = node_of Set Void (target ∷ source ∷ [])

abbrev pub set_reg : Mode → ℕ → Rtx → Rtx
set_reg mode reg source = set_of (reg_of mode reg) source

abbrev pub far_sum : ℕ → Rtx
far_sum into = node_of Plus DI (reg_of DI into ∷ reg_of DI stack_pointer ∷ [])

-- the two halves of a far base: a constant, and its sum with sp
abbrev pub far_insns : ℕ → ℤ → List Rtx
far_insns into offset =
    set_reg DI into (const_of offset) ∷ set_reg DI into (far_sum into) ∷ []

-- the slot of a base; a far one at the register into which the base is loaded
abbrev pub slot_address : ℕ → operands.Base → Rtx
slot_address into base =
    if is_some (slot_far base) then reg_of DI into else address_on stack_pointer (slot_offset base)

abbrev pub base_insn : ℕ → operands.Base → Rtx
base_insn into base = set_reg DI into (node_of Mem DI (slot_address into base ∷ []))

abbrev pub base_insns : ℕ → Option operands.Base → List Rtx
base_insns into None = []
base_insns into (Some base) = base_insn into base ∷ []

-- an operand, with the register in its address where there is one
abbrev pub reached : Option ℕ → Operand → Rtx
reached None x = x.tree
reached (Some reg) x = on_register reg x

-- an operand into a register, and out of it
abbrev pub in_insn : ℕ → Option ℕ → Operand → Rtx
in_insn into base x = set_reg x.mode into (reached base x)

abbrev pub out_insn : ℕ → Option ℕ → Operand → Rtx
out_insn from base x = set_of (reached base x) (reg_of x.mode from)

abbrev pub insns_at : Move → Operand → List Rtx
insns_at (Far into offset) x = []
insns_at (Base into place) x = base_insns into x.base
insns_at (In into place base) x = in_insn into base x ∷ []
insns_at (Out from place base) x = out_insn from base x ∷ []

-- the patterns of a move of the operand at a place
abbrev pub at_place : List Operand → ℕ → Move → List Rtx
at_place operands place m = option_map_or (insns_at m) (slice_get operands place) []

-- the instructions of a move
abbrev pub insns_of : List Operand → Move → List Rtx
insns_of operands (Far into offset) = far_insns into offset
insns_of operands (Base into place) = at_place operands place (Base into place)
insns_of operands (In into place base) = at_place operands place (In into place base)
insns_of operands (Out from place base) = at_place operands place (Out from place base)

-- the patterns of some moves
abbrev pub all_insns : List Operand → List Move → List Rtx
all_insns operands moves = flat_map (insns_of operands) moves

-- ---- the instruction between them

-- what stands for an operand: its own register where it is moved; where it stays, itself with a
-- register in its address if a slot holds its base or it is far
abbrev pub new_tree : List Ask → Part → Operand → Option Rtx
new_tree asks p x =
    if p.is_moved then Some (reg_of x.mode (own_of asks p))
    else if p.needs.has_base then Some (on_register (base_of asks p) x)
    else if is_some p.needs.far then Some (on_register (far_of asks p) x)
    else None

abbrev pub with_new : Ops → Operand → Option Rtx → Ops
with_new news x None = news
with_new news x (Some tree) = put_at news x.number tree

abbrev pub with_part : List Ask → List Operand → Ops → Part → Ops
with_part asks operands news p =
    option_map_or (λ x. with_new news x (new_tree asks p x)) (slice_get operands p.place) news

abbrev pub with_parts : List Ask → List Operand → Ops → List Part → Ops
with_parts asks operands news [] = news
with_parts asks operands news (p ∷ ps) =
    with_parts asks operands (with_part asks operands news p) ps

-- the new trees, by the numbers of the operands
abbrev pub news_of : List Ask → List Operand → List Part → Ops
news_of asks operands parts = with_parts asks operands [] parts

-- the instruction with these
abbrev pub between : Rtx → List Operand → List Part → Rtx → Rtx
between pattern operands parts insn = put pattern (news_of (asks_of parts) operands parts) insn

-- the instructions before it and after it
abbrev pub insns_before : List Operand → List Part → List Rtx
insns_before operands parts = all_insns operands (moves_before (asks_of parts) parts)

abbrev pub insns_after : List Operand → List Part → List Rtx
insns_after operands parts = all_insns operands (moves_after (asks_of parts) parts)

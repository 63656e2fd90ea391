-- Modes: GCC Internals, "Machine Modes" and "Registers and Memory".
use Rattle.std.specs.Prelude.{ℕ, ◌&&◌, ◌==◌, nat_le, Bool, true, if◌then◌else◌, List, filter, Option, Some, None, option_map}
use Rattle.std.specs.List.{list_all, find, filter_map, flat_map}
use Rattle.rtx_tree.specs.declared.code.Mode.{Mode}
use Rattle.rtx_tree.specs.declared.function.Insn.{Insn}
use Rattle.rtx_tree.specs.declared.tree.Rtx.{Rtx}
use Rattle.rtx_tree.specs.declared.class.Class.{Class}
use Rattle.rtx_tree.specs.declared.class.Class.TheVariants as class
use Rattle.rtl_func.specs.Nodes.{nodes_of}
use Rattle.rtl_func.specs.Shapes.{class_at, mode_at, number_at, same_mode, is_effect, is_shaped, has_call_mode}
use Rattle.rtl_func.specs.Uids.{is_ruled}

-- ---- modes agree: a pattern is an effect, each tree in it has the parts of its row, and a call's memory has mode SI

-- an effect whose trees have the parts of their rows, the mode of a call's memory apart
abbrev pub shapes_agree : Rtx → Bool
shapes_agree pattern = is_effect pattern && list_all is_shaped (nodes_of pattern)

-- the memory of each call has mode SI
abbrev pub call_modes_agree : Rtx → Bool
call_modes_agree pattern = list_all has_call_mode (nodes_of pattern)

abbrev pub modes_agree : Rtx → Bool
modes_agree pattern = shapes_agree pattern && call_modes_agree pattern

-- ---- one mode a pseudo: it has throughout the mode of its first mention, in the order of the chain and of each tree

abbrev pub register_by : Class → ℕ → Option ℕ
register_by class.Register number = Some number
register_by _ number = None

-- the register that a tree is
abbrev pub register_at : Rtx → Option ℕ
register_at x = register_by (class_at x) (number_at x)

-- a register in a mode
pub record Mention : Type 0 where
  pub reg : ℕ
  pub mode : Mode

abbrev pub mention_by : Mode → Option ℕ → Option Mention
mention_by mode None = None
mention_by mode (Some reg) =
    if nat_le 64 reg then Some (record { reg = reg; mode = mode }) else None

-- the pseudo that a tree is
abbrev pub mention_of : Rtx → Option Mention
mention_of x = mention_by (mode_at x) (register_at x)

abbrev pub mentions_in : Rtx → List Mention
mentions_in pattern = filter_map mention_of (nodes_of pattern)

abbrev pub mentions : List Insn → List Mention
mentions insns = flat_map (λ i. mentions_in i.pattern) (filter is_ruled insns)

-- the mode of a register's first mention
abbrev pub first_mode : List Mention → ℕ → Option Mode
first_mode all reg = option_map (λ m. m.mode) (find (λ m. m.reg == reg) all)

-- the mode of a register in one mention, if it is there
abbrev pub mode_in : Option Mention → ℕ → Option Mode
mode_in None reg = None
mode_in (Some m) reg = if m.reg == reg then Some m.mode else None

abbrev pub is_mode : Option Mode → Mode → Bool
is_mode None mode = true
is_mode (Some first) mode = same_mode first mode

abbrev pub keeps_mode : List Insn → Option Mention → Bool
keeps_mode insns None = true
keeps_mode insns (Some m) = is_mode (first_mode (mentions insns) m.reg) m.mode

abbrev pub has_its_mode : List Insn → Rtx → Bool
has_its_mode insns x = keeps_mode insns (mention_of x)

abbrev pub one_mode_a_pseudo : List Insn → Rtx → Bool
one_mode_a_pseudo insns pattern = list_all (has_its_mode insns) (nodes_of pattern)

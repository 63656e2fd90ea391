-- Which instructions can be compared: GCC Internals, "Insns", "Calls" and "Side Effect
-- Expressions".
use Rattle.std.specs.Prelude.{ℕ, ◌+◌, ◌^◌, ◌&&◌, not, nat_lt, ℤ, pos, negsuc, Bool, true, false, if◌then◌else◌, List, [], ◌∷◌, Option, Some, None}
use Rattle.std.specs.List.{list_all}
use Rattle.rtx_tree.specs.declared.code.Code.{Code}
use Rattle.rtx_tree.specs.declared.code.Code.TheVariants.{Reg}
use Rattle.rtx_tree.specs.declared.function.Insn.{Insn}
use Rattle.rtx_tree.specs.declared.function.Kind.{Kind}
use Rattle.rtx_tree.specs.declared.function.Kind.TheVariants.{Plain, Jump, Call, Label, Barrier}
use Rattle.rtx_tree.specs.declared.tree.Rtx.{Rtx}
use Rattle.rtx_tree.specs.declared.tree.Rtx.TheOpen.{Rtx-F}
use Rattle.rtx_tree.specs.declared.tree.Rtx.TheFolds.{fold-Rtx}
use Rattle.rtl_func.specs.Kinds.{kinds_agree, is_nothing}
use Rattle.rtl_func.specs.Modes.{shapes_agree}
use Rattle.rtl_func.specs.Calls.{call_result_agrees}
use Rattle.rtl_func.specs.Effects.{parallels_hold_simple}
use Rattle.reg_uses.specs.Uses.{is_return}
use Rattle.sym_insns.specs.Effects.{has_target}

-- a register's number is none below 0
abbrev pub is_natural : Code → ℤ → Bool
is_natural Reg (pos number) = nat_lt number (2 ^ 63)
is_natural Reg (negsuc number) = false
is_natural _ number = true

abbrev pub natural_step : Rtx-F Bool → Bool
natural_step x = is_natural x.code x.number && list_all (λ here. here) x.kids

-- the numbers of all registers in a tree
abbrev pub all_natural : Rtx → Bool
all_natural = fold-Rtx Bool natural_step

-- an instruction has the parts of its code, the kind of its pattern and the modes of its parts; a
-- call has its result in a0 and different arguments; a parallel holds set, use and clobber alone
abbrev pub is_shaped : Insn → Bool
is_shaped i =
    kinds_agree i.kind i.pattern && (shapes_agree i.pattern && (all_natural i.pattern &&
    (call_result_agrees i.kind i.pattern i.uses && parallels_hold_simple i.pattern)))

abbrev pub is_end : List Insn → Bool
is_end [] = true
is_end (i ∷ insns) = false

-- a jump, to a label whose uid has 32 bits, and a call are the last; a return, and a label, can't
-- be compared; a barrier, which holds nothing, is passed over
abbrev pub fits_kind : Kind → Insn → Bool → Bool
fits_kind Plain i last = is_shaped i
fits_kind Jump i last = is_shaped i && (not (is_return i) && (has_target i.pattern && last))
fits_kind Call i last = is_shaped i && last
fits_kind Label i last = false
fits_kind Barrier i last = is_nothing i.pattern

-- the place of the first instruction that can't be compared
abbrev pub bad_from : ℕ → List Insn → Option ℕ
bad_from index [] = None
bad_from index (i ∷ insns) =
    if fits_kind i.kind i (is_end insns) then bad_from (index + 1) insns else Some index

abbrev pub bad_insn : List Insn → Option ℕ
bad_insn insns = bad_from 0 insns

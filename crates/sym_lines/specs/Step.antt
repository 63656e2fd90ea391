-- What a line does to a symbolic state: RISC-V unprivileged manual, "RV32I Base Integer Instruction
-- Set" and its like. A line reads all bits of a register, and needs that it is set.
use Rattle.std.specs.Prelude.{ℕ, zero, suc, if◌then◌else◌, List, [], ◌∷◌, ◌++◌, length, Option, Some, None}
use Rattle.std.specs.Int.{cast_unsigned, w64}
use Rattle.bits64.specs.declared.Width.{Width}
use Rattle.bits64.specs.declared.Width.TheVariants.{W8, W64}
use Rattle.rv_text.specs.declared.action.Action.{Action}
use Rattle.rv_text.specs.declared.action.Action.TheVariants as action
use Rattle.rv_text.specs.declared.action.Source.{Source}
use Rattle.rv_text.specs.declared.action.Source.TheVariants.{First, Second, ReturnAddress, Immediate, Constant}
use Rattle.rv_text.specs.declared.action.Extension.{Extension}
use Rattle.rv_text.specs.declared.action.Extension.TheVariants.{Sign, Zero}
use Rattle.rv_text.specs.declared.line.Line.{Line}
use Rattle.term_tree.specs.declared.head.Head.TheVariants as heads
use Rattle.term_tree.specs.Tree.{Tree}
use Rattle.term_tree.specs.Form.{same_width}
use Rattle.term_mean.specs.Stores.{Store}
use Rattle.term_mean.specs.Sums.{constant, summed}
use Rattle.term_mean.specs.Normal.{built}
use Rattle.term_mean.specs.Compared.{compared, low_bits}
use Rattle.sym_state.specs.State.{Changed, Need, Access, Symbol, Arg, State, own_symbol, needs_at}
use Rattle.sym_state.specs.Registers.{put, left_by_call, read, read_needs}
use Rattle.sym_lines.specs.Compute.{computed}

-- ---- what a line reads

abbrev pub register : List Changed → ℕ → Tree
register regs reg = read regs reg W64

-- the needs of a register that is read: it is set
abbrev pub register_needs : List Changed → ℕ → List Need
register_needs regs reg = read_needs regs reg W8

abbrev pub source : List Changed → Line → Source → Tree
source regs line First = register regs line.rs
source regs line Second = register regs line.rt
source regs line ReturnAddress = register regs 1
source regs line Immediate = constant W64 (cast_unsigned w64 line.imm)
source regs line (Constant number) = constant W64 (cast_unsigned w64 number)

abbrev pub source_needs : List Changed → Line → Source → List Need
source_needs regs line First = register_needs regs line.rs
source_needs regs line Second = register_needs regs line.rt
source_needs regs line ReturnAddress = register_needs regs 1
source_needs regs line _ = []

-- ("Load and Store Instructions") rs plus the offset
abbrev pub address : List Changed → Line → Tree
address regs line = summed W64 (cast_unsigned w64 line.imm) ((1, register regs line.rs) ∷ [])

-- ---- what a line changes

-- rd is set
abbrev pub sets : ℕ → Line → Tree → List Need → State → State
sets index line term needs s = record s {
  regs = put s.regs line.rd (Some term);
  needs = s.needs ++ needs_at index needs;
}

abbrev pub extended : Extension → Width → Tree → Tree
extended Sign w t = if same_width w W64 then t else built [] heads.Sext W64 0 [] (t ∷ [])
extended Zero w t = if same_width w W64 then t else built [] heads.Zext W64 0 [] (t ∷ [])

-- what stands at an address in the memory behind all stores so far
abbrev pub loaded : List Store → Width → Tree → Tree
loaded before w at = built before heads.Load w (length before) [] (at ∷ [])

abbrev pub stores : ℕ → Width → Tree → Line → State → State
stores index w at line s = record s {
  stores = s.stores ++ (at, low_bits w (register s.regs line.rt)) ∷ [];
  needs = s.needs ++ needs_at index (register_needs s.regs line.rt ++ (register_needs s.regs line.rs ++ Access at w ∷ []));
}

-- ---- where it leads

abbrev pub jumps : ℕ → Option ℕ → Tree → List Need → State → State
jumps index target condition needs s = record s {
  jump = record { condition = condition; target = target };
  needs = s.needs ++ needs_at index needs;
}

-- a0 to a7, from one on, as they stand
abbrev pub args_from : ℕ → ℕ → List Changed → List Arg
args_from zero reg regs = []
args_from (suc count) reg regs = record { reg = reg; value = register regs reg } ∷ args_from count (suc reg) regs

abbrev pub calls : ℕ → Tree → List Need → State → State
calls index target needs s = record s {
  regs = left_by_call s.regs;
  call = Some (record { target = target; result = None; args = args_from 8 10 s.regs });
  needs = s.needs ++ needs_at index needs;
}

-- ---- the step

-- an action of a line at a place; the uid is that for which its label stands, if it stands for one
abbrev pub act : Action → ℕ → Option ℕ → Line → State → State
act (action.Compute o w left right) index uid line s =
    sets index line (computed o w (source s.regs line left) (source s.regs line right))
    (source_needs s.regs line left ++ source_needs s.regs line right) s
act (action.Load w extension) index uid line s = let at = address s.regs line in
    sets index line (extended extension w (loaded s.stores w at)) (register_needs s.regs line.rs ++ Access at w ∷ []) s
act (action.Store w) index uid line s = stores index w (address s.regs line) line s
act action.SymbolAddress index uid line s =
    sets index line (own_symbol line.target) (Symbol line.target ∷ []) s
act (action.Branch r left right) index uid line s =
    jumps index uid (compared r W64 (source s.regs line left) (source s.regs line right))
    (source_needs s.regs line left ++ source_needs s.regs line right) s
act action.Jump index uid line s = jumps index uid (constant W8 1) [] s
act action.Call index uid line s = calls index (own_symbol line.target) (Symbol line.target ∷ []) s
act action.CallRegister index uid line s =
    calls index (register s.regs line.rs) (register_needs s.regs line.rs) s
act (action.Return through) index uid line s = s

-- The states behind one instruction of a kind, or behind the lines that stand for it.
use Rattle.std.specs.Prelude.{◌≡◌, ℕ, true, false, List, [], ◌∷◌, Option, Some, None}
use Rattle.std.specs.List.{list_all}
use Rattle.rtx_tree.specs.declared.code.Mode.{Mode}
use Rattle.term_tree.specs.Tree.{Tree, width_of}
use Rattle.term_tree.specs.Form.{narrower}
use Rattle.term_mean.specs.Stores.{Store}
use Rattle.term_mean.specs.Compared.{low_bits}
use Rattle.sym_state.specs.State.{State, Jump, Arg, NeedAt, falls}
use Rattle.sym_state.specs.Registers.{left_by_call}
use Rattle.sym_diff.specs.Compared.{is_covered, arg_at, arg_beside}

-- the first knows of a term no more than the second
abbrev pub IsKnown : Tree → Tree → Type 0
IsKnown t u = (narrower (width_of u) (width_of t) ≡ false) × (low_bits (width_of t) u ≡ t)

-- each need of the second is one of the first
abbrev pub AreCovered : List NeedAt → List NeedAt → Type 0
AreCovered had needs = list_all (λ n. is_covered had n.what) needs ≡ true

-- a register is set
abbrev pub sets : ℕ → Tree → List NeedAt → State
sets reg t needs = record {
  regs = record { reg = reg; value = Some t } ∷ [];
  stores = [];
  jump = falls;
  call = None;
  needs = needs;
}

-- a value is stored
abbrev pub stores : Store → List NeedAt → State
stores s needs = record { regs = []; stores = s ∷ []; jump = falls; call = None; needs = needs }

-- it leads to a label, where a condition is not 0
abbrev pub jumps : Jump → List NeedAt → State
jumps j needs = record { regs = []; stores = []; jump = j; call = None; needs = needs }

-- what is handed over on the first side is handed over on the second, perhaps with other bits above
abbrev pub ArgumentsAgree : List Arg → List Arg → Type 0
ArgumentsAgree had args = (reg : ℕ) (t : Tree) → arg_at had reg ≡ Some t → arg_beside true (Some t) (arg_at args reg) ≡ Some t

-- an address is called
abbrev pub calls : Tree → Option Mode → List Arg → List NeedAt → State
calls target result args needs = record {
  regs = left_by_call [];
  stores = [];
  jump = falls;
  call = Some (record { target = target; result = result; args = args });
  needs = needs;
}

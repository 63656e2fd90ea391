-- What instructions and returns use and define: GCC Internals, "Insns", "Calls" and "Function
-- Entry" (`EPILOGUE_USES`); RISC-V ELF psABI, "Integer Register Convention".
use Rattle.std.specs.Prelude.{ℕ, Bool, true, false, ◌||◌, ◌&&◌, ◌==◌, is_some, List}
use Rattle.std.specs.List.{list_any}
use Rattle.rtx_tree.specs.declared.code.Code.{Code}
use Rattle.rtx_tree.specs.declared.code.Code.TheVariants.{Return}
use Rattle.rtx_tree.specs.declared.function.ArgUse.{ArgUse}
use Rattle.rtx_tree.specs.declared.function.Kind.{Kind}
use Rattle.rtx_tree.specs.declared.function.Kind.TheVariants.{Call}
use Rattle.rtx_tree.specs.declared.function.Insn.{Insn}
use Rattle.rtx_tree.specs.declared.function.Function.{Function}
use Rattle.rtx_tree.specs.RegSet.{has_reg}
use Rattle.rtx_tree.specs.Registers.{is_call_used}
use Rattle.rtx_tree.specs.Tree.{head_of}
use Rattle.rv_regs.specs.Registers.{kept_registers}
use Rattle.reg_uses.specs.Effects.{effect_sets, effects_of, pattern_uses, pattern_defines}

-- ---- instructions

abbrev pub is_call_kind : Kind → Bool
is_call_kind Call = true
is_call_kind _ = false

-- a call's target reads the register
abbrev pub has_argument : ℕ → List ArgUse → Bool
has_argument reg uses = list_any (λ u. u.reg == reg) uses

-- the pattern uses the register, or a call's target reads it
abbrev pub insn_uses : Insn → ℕ → Bool
insn_uses i reg = pattern_uses reg i.pattern || has_argument reg i.uses

-- the pattern defines the register, or a call may change it
abbrev pub insn_defines : Insn → ℕ → Bool
insn_defines i reg = pattern_defines reg i.pattern || (is_call_kind i.kind && is_call_used reg)

-- ---- returns

abbrev pub is_return_code : Code → Bool
is_return_code Return = true
is_return_code _ = false

-- (return)
abbrev pub is_return : Insn → Bool
is_return i = is_return_code (head_of i.pattern).code

-- a `set` of the instruction sets the register
abbrev pub insn_sets : ℕ → Insn → Bool
insn_sets reg i = list_any (effect_sets reg) (effects_of i.pattern)

abbrev pub function_sets : Function → ℕ → Bool
function_sets f reg = list_any (insn_sets reg) f.insns

-- a0, the register that holds a result, where there is one
abbrev pub is_result : Function → ℕ → Bool
is_result f reg = is_some f.result && (reg == 10)

-- a return uses the register of the result, and those of ra, sp and s0 to s11 that the function
-- sets
abbrev pub return_uses : Function → ℕ → Bool
return_uses f reg = is_result f reg || (has_reg kept_registers reg && function_sets f reg)

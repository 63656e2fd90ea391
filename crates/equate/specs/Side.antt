-- What is compared with instructions: instructions, or the lines of a function that has a number.
-- `both_return` is the one window that leads back to the caller on both sides.
use Rattle.std.specs.Prelude.{ℕ, ◌&&◌, ◌==◌, Bool, true, false, List, [], ◌∷◌, length, Option, Some}
use Rattle.rtx_tree.specs.declared.function.Insn.{Insn}
use Rattle.rtx_tree.specs.declared.function.Kind.{Kind}
use Rattle.rtx_tree.specs.declared.function.Kind.TheVariants.{Jump}
use Rattle.reg_uses.specs.Uses.{is_return}
use Rattle.rtl_func.specs.Modes.{shapes_agree}
use Rattle.rv_text.specs.Lines.{action_of}
use Rattle.rv_text.specs.declared.action.Action.{Action}
use Rattle.rv_text.specs.declared.action.Action.TheVariants.{Return}
use Rattle.rv_text.specs.declared.action.Source.{Source}
use Rattle.rv_text.specs.declared.action.Source.TheVariants.{First, ReturnAddress}
use Rattle.rv_text.specs.declared.line.Line.{Line}
use Rattle.sym_state.specs.State.{Ran}
use Rattle.sym_insns.specs.Run as insns
use Rattle.sym_lines.specs.Run as lines

pub data Side : Type 0 where
  Insns : List Insn → Side
  Lines : ℕ → List Line → Side

abbrev pub run_side : Side → Ran
run_side (Insns side) = insns.run side
run_side (Lines function side) = lines.run function side

abbrev pub side_length : Side → ℕ
side_length (Insns side) = length side
side_length (Lines function side) = length side

-- whether a call of the side hands over all of a0 to a7, and takes its result in no mode
abbrev pub is_lines : Side → Bool
is_lines (Insns side) = false
is_lines (Lines function side) = true

-- ---- returns (GCC Internals, "Side Effect Expressions", `return`; RISC-V assembly manual, `ret`)

abbrev pub is_jump : Kind → Bool
is_jump Jump = true
is_jump _ = false

-- a jump that is (return)
abbrev pub returns : Insn → Bool
returns i = is_jump i.kind && (is_return i && shapes_agree i.pattern)

abbrev pub is_one_return : List Insn → Bool
is_one_return (i ∷ []) = returns i
is_one_return _ = false

-- ra
abbrev pub return_address : ℕ
return_address = 1

abbrev pub returns_through : Source → Line → Bool
returns_through ReturnAddress line = true
returns_through First line = line.rs == return_address
returns_through _ line = false

abbrev pub returns_by : Option Action → Line → Bool
returns_by (Some (Return through)) line = returns_through through line
returns_by _ line = false

-- one line, `ret` or `jr ra`
abbrev pub is_one_return_line : Side → Bool
is_one_return_line (Lines function (line ∷ [])) = returns_by (action_of line) line
is_one_return_line _ = false

-- one (return), and one line `ret` or `jr ra`
abbrev pub both_return : List Insn → Side → Bool
both_return before after = is_one_return before && is_one_return_line after

-- The places of labels.
use Rattle.std.specs.Prelude.{ℕ, if◌then◌else◌, Option, Some}
use Rattle.rtx_tree.specs.declared.function.Insn.{Insn}
use Rattle.rtx_tree.specs.Patterns.{is_label}

-- the place of the first label with a uid, of a chain that begins with an instruction at a place;
-- where the rest has it is known
abbrev pub placed : Insn → ℕ → ℕ → Option ℕ → Option ℕ
placed i place uid rest = if is_label uid i then Some place else rest

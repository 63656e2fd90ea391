-- The instructions of patterns in front of a window's last.
use Rattle.std.specs.Prelude.{ℕ, ◌+◌, List, [], ◌∷◌}
use Rattle.rtx_tree.specs.declared.function.Insn.{Insn}
use Rattle.rtx_tree.specs.declared.tree.Rtx.{Rtx}
use Rattle.new_insns.specs.Made.{insn_for}

-- new instructions in front, which take uids from a number on
abbrev pub front_for : Insn → ℕ → List Rtx → List Insn
front_for old uid [] = []
front_for old uid (x ∷ more) = insn_for old uid x ∷ front_for old (uid + 1) more

-- The items that are added to a chain with a frame, by the patterns that leave it.
use Rattle.std.specs.Prelude.{ℕ, ◌+◌, if◌then◌else◌, List, [], ◌∷◌, ◌++◌, length}
use Rattle.rtx_tree.specs.declared.function.Insn.{Insn}
use Rattle.rtx_tree.specs.declared.tree.Rtx.{Rtx}
use Rattle.law_frame.specs.Frame.{plain_insns, return_with, returns}

abbrev pub leaving_by : List Rtx → ℕ → List Insn
leaving_by left uid = plain_insns uid left ++ return_with (uid + length left) ∷ []

-- what stands in the place of an item
abbrev pub item_by : List Rtx → ℕ → Insn → List Insn
item_by left uid i = if returns i then leaving_by left uid else i ∷ []

-- the next uid behind it
abbrev pub uid_by : List Rtx → ℕ → Insn → ℕ
uid_by left uid i = if returns i then uid + (length left + 1) else uid

abbrev pub uids_by : List Rtx → ℕ → List Insn → ℕ
uids_by left uid [] = uid
uids_by left uid (i ∷ insns) = uids_by left (uid_by left uid i) insns

-- What is defined at a place beside what is live after it, by the rows of a function.
use Rattle.std.specs.Prelude.{ℕ, Bool, ◌&&◌, List}
use Rattle.std.specs.List.{list_any}
use Rattle.rtx_tree.specs.declared.function.Insn.{Insn}
use Rattle.rtx_tree.specs.declared.function.Function.{Function}
use Rattle.rtl_func.specs.Successors.{successors_of}
use Rattle.reg_uses.specs.Uses.{insn_defines}
use Rattle.reg_rows.specs.Table.{has_at}

-- the row of a place to which p leads has the register
abbrev pub after_has : Function → List (List ℕ) → ℕ → ℕ → Bool
after_has f live p reg = list_any (λ q. has_at live q reg) (successors_of f.insns p)

-- an instruction at p defines x, and y is live after it
abbrev pub is_beside : Function → List (List ℕ) → ℕ → Insn → ℕ → ℕ → Bool
is_beside f live p i x y = after_has f live p y && insn_defines i x

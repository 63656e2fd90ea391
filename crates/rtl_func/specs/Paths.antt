-- Paths of control: GCC Internals, "Control Flow" and "Edges".
use Rattle.std.specs.Prelude.{◌≡◌, ℕ, ◌==◌, true, Bool, List, length}
use Rattle.std.specs.List.{list_any}
use Rattle.rtx_tree.specs.declared.function.Insn.{Insn}
use Rattle.rtl_func.specs.Successors.{successors_of}

-- a list has a place
abbrev pub has_place : List ℕ → ℕ → Bool
has_place places place = list_any (λ q. q == place) places

-- the instruction at p leads to q
abbrev pub leads : List Insn → ℕ → ℕ → Bool
leads insns p q = has_place (successors_of insns p) q

-- a path from one place to another, each place on it a successor of the one before
pub data Path (insns : List Insn) : ℕ → ℕ → Type 0 where
  Here : (p : ℕ) → Path insns p p
  Along : (p q r : ℕ) → leads insns p q ≡ true → Path insns q r → Path insns p r

-- a path leads from the first place to the exit, which is the place past the last
abbrev pub ReachesExit : List Insn → Type 0
ReachesExit insns = Path insns 0 (length insns)

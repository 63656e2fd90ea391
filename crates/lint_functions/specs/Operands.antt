-- The operands that are tried in the place of a part of a shape, with a register as their base:
-- constants at the ends of what a mode or an immediate operand holds, and memory at the ends of an
-- offset (GCC Internals, "Machine Modes" and "Addressing Modes"; RISC-V unprivileged manual,
-- "Integer Register-Immediate Instructions" and "Load and Store Instructions").
use Rattle.std.specs.Prelude.{ℕ, ℤ, pos, negsuc, List, [], ◌∷◌, map}
use Rattle.rtx_tree.specs.declared.code.Mode.{Mode}
use Rattle.rtx_tree.specs.declared.code.Mode.TheVariants.{QI, HI, SI, DI}
use Rattle.rtx_tree.specs.declared.tree.Rtx.{Rtx}
use Rattle.rtx_tree.specs.Registers.{virtual_stack_vars}
use Rattle.lint_made.specs.declared.candidate.Candidate.{Candidate}
use Rattle.lint_made.specs.declared.candidate.Candidate.TheVariants as candidate
use Rattle.lint_made.specs.Candidates.{tree_with}
use Rattle.plain_shape.specs.declared.shape.Part.{Part}
use Rattle.plain_shape.specs.declared.shape.Part.TheVariants as part

-- ---- constants

-- the ends of a mode, and of 12 signed bits where it has more
abbrev pub ends : Mode → List ℤ
ends QI = pos 0 ∷ pos 1 ∷ negsuc 0 ∷ negsuc 127 ∷ pos 127 ∷ []
ends HI = pos 0 ∷ pos 1 ∷ negsuc 0 ∷ negsuc 2047 ∷ pos 2047 ∷ negsuc 32767 ∷ pos 32767 ∷ []
ends SI = pos 0 ∷ pos 1 ∷ negsuc 0 ∷ negsuc 2047 ∷ pos 2047 ∷ negsuc 2048 ∷ pos 2048 ∷ negsuc 2147483647 ∷ pos 2147483647 ∷ []
ends _ = pos 0 ∷ pos 1 ∷ negsuc 0 ∷ negsuc 2047 ∷ pos 2047 ∷ negsuc 2048 ∷ pos 2048 ∷ negsuc 2147483647 ∷ pos 2147483648 ∷ negsuc 9223372036854775807 ∷ pos 9223372036854775807 ∷ []

-- the least count of a shift that does something, and the greatest
abbrev pub counts : Mode → List ℤ
counts SI = pos 1 ∷ pos 31 ∷ []
counts _ = pos 1 ∷ pos 63 ∷ []

abbrev pub numbers : List ℤ → List Candidate
numbers = map candidate.Number

-- ---- places

-- memory at the ends of an offset
abbrev pub memories : Mode → List Candidate
memories m =
    candidate.Memory m (pos 0) ∷ candidate.Memory m (negsuc 2047) ∷ candidate.Memory m (pos 2047) ∷ []

-- addresses in a frame of 40,000 bytes: near its end, behind the reach of an offset, at its start
abbrev pub frames : List Candidate
frames = candidate.Address (negsuc 7) ∷ candidate.Address (negsuc 2055) ∷ candidate.Address (negsuc 39999) ∷ []

-- ---- operands

abbrev pub candidates_of : Part → List Candidate
candidates_of (part.Register m) = candidate.Register m ∷ []
candidates_of part.AnyRegister = candidate.Register DI ∷ []
candidates_of (part.Constant m) = numbers (ends m)
candidates_of (part.RegisterOrConstant m) = candidate.Register m ∷ numbers (ends m)
candidates_of (part.Count m) = candidate.Register QI ∷ numbers (counts m)
candidates_of (part.Memory m) = memories m
candidates_of (part.RegisterOrMemory m) = candidate.Register m ∷ memories m
candidates_of part.Symbol = candidate.Symbol ∷ []
candidates_of part.Frame = frames

-- the base of the frame is its own
abbrev pub base_of : Part → ℕ → ℕ
base_of part.Frame reg = virtual_stack_vars
base_of _ reg = reg

-- the operands that are tried in the place of a part, over a register
abbrev pub operands_of : Part → ℕ → List Rtx
operands_of p reg = map (tree_with (base_of p reg)) (candidates_of p)

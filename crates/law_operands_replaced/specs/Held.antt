-- What registers hold once operands, their bases and far bases are fetched: GCC Internals, "RTL
-- passes" (reload).
use Rattle.std.specs.Prelude.{◌≡◌, ℕ, List, [], ◌∷◌, Some}
use Rattle.std.specs.FinMap.{get}
use Rattle.bits64.specs.declared.Width.{Width}
use Rattle.rtl_step.specs.Regs.{Regs, known_of}

-- a register, and the value in a width that it holds
pub record Held : Type 0 where
  pub reg : ℕ
  pub width : Width
  pub value : ℕ

-- the registers hold them all
abbrev pub Holds : Regs → List Held → Type 0
Holds regs [] = Unit {0}
Holds regs (h ∷ hs) = (get regs h.reg ≡ Some (known_of h.width h.value)) × Holds regs hs

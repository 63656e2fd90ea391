-- When one machine knows at least what another knows, but of t3 to t6, which hold values on their
-- way: RISC-V ELF psABI, "Integer Register Convention" (temporaries, which are no homes).
use Rattle.std.specs.Prelude.{◌≡◌, ℕ, ◌&&◌, nat_le, Bool, false}
use Rattle.rtl_step.specs.declared.step.State.{State}
use Rattle.law_window_kept.specs.Same.{KnownToo}

-- t3 to t6
abbrev pub is_scratch : ℕ → Bool
is_scratch reg = nat_le 28 reg && nat_le reg 31

-- the second has the memory and the calls of the first, and knows of each register but t3 to t6
-- what the first knows
pub record KnowsMore (u t : State) : Type 0 where
  pub known : (reg : ℕ) → is_scratch reg ≡ false → KnownToo u.regs t.regs reg
  pub memory_is : t.memory ≡ u.memory
  pub ranges_are : t.visible ≡ u.visible
  pub calls_are : t.calls ≡ u.calls

-- The registers of moves: RISC-V ELF psABI, "Integer Register Convention" (t3 to t6 are
-- call-clobbered); GCC Internals, "RTL passes" (reload).
use Rattle.std.specs.Prelude.{◌≡◌, ℕ, nat_le, Bool, true, false, ◌&&◌}
use Rattle.std.specs.FinMap.{get}
use Rattle.rtx_tree.specs.declared.tree.Rtx.{Rtx}
use Rattle.rtx_tree.specs.Tree.{mentions_reg}
use Rattle.rtl_step.specs.Regs.{Regs}
use Rattle.law_window_kept.specs.Same.{KnownToo}

-- t3 to t6, which hold what is moved
abbrev pub is_spare : ℕ → Bool
is_spare reg = nat_le 28 reg && nat_le reg 31

-- of every other register as much is known
abbrev pub KnowsRest : Regs → Regs → Type 0
KnowsRest regs other = (reg : ℕ) → is_spare reg ≡ false → KnownToo regs other reg

-- no other register has changed
abbrev pub KeepsRest : Regs → Regs → Type 0
KeepsRest regs other = (reg : ℕ) → is_spare reg ≡ false → get other reg ≡ get regs reg

-- no spare register stands in a tree
abbrev pub NamesNoSpare : Rtx → Type 0
NamesNoSpare x = (reg : ℕ) → mentions_reg reg x ≡ true → is_spare reg ≡ false

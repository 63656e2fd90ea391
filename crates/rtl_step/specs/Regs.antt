-- What is known of each register.
use Rattle.std.specs.Prelude.{ℕ, zero, suc, nat_le, not, if◌then◌else◌, Option, Some, None, option_and_then}
use Rattle.std.specs.Ordering.{nat_cmp}
use Rattle.std.specs.FinMap.{FinMap, get, insert, remove, retain_keys}
use Rattle.bits64.specs.declared.Width.{Width}
use Rattle.bits64.specs.Words.{bits_of, low}
use Rattle.rtx_tree.specs.Registers.{is_call_used}
use Rattle.rtl_step.specs.declared.regs.Known.{Known}

-- registers by number, each with its known low bits; one that is not there is unset
abbrev pub Regs : Type 0
Regs = FinMap nat_cmp Known

-- the low bits of a number, as what is known of a register
abbrev pub known_of : Width → ℕ → Known
known_of w value = record { width = w; value = low w value }

-- the low bits of what is known, where so many are known
abbrev pub known_in : Width → Known → Option ℕ
known_in w k = if nat_le (bits_of w) (bits_of k.width) then Some (low w k.value) else None

-- a register's value in a width, or none where fewer bits are known; register 0 is always 0 (RISC-V
-- unprivileged manual, "Programmers' Model for Base Integer ISA": x0 is hardwired with all bits
-- equal to 0)
abbrev pub reg_value : Regs → ℕ → Width → Option ℕ
reg_value regs zero w = Some 0
reg_value regs (suc reg) w = option_and_then (known_in w) (get regs (suc reg))

-- the registers after the low bits of one are set, of which no more is known then; register 0 keeps
-- nothing (GCC Internals, "Side Effect Expressions": `set`)
abbrev pub with_reg : Regs → ℕ → Known → Regs
with_reg regs zero known = regs
with_reg regs (suc reg) known = insert regs (suc reg) known

-- the registers after one is unset (GCC Internals, "Side Effect Expressions": `clobber`)
abbrev pub without_reg : Regs → ℕ → Regs
without_reg regs reg = remove regs reg

-- the registers that a call preserves (RISC-V ELF psABI, "Integer Register Convention")
abbrev pub preserved : Regs → Regs
preserved regs = retain_keys regs (λ reg. not (is_call_used reg))

-- ra, sp and s0 to s11 as lists of registers, and what the lines of a window do to them.
use Rattle.std.proofs.Common.{◌≡◌, ℕ, ◌<◌, ◌==◌, ◌||◌, ◌&&◌, not, nat_lt, ◌⊎◌, inl, inr, ⊎_elim, arith, Bool, true, false, List, [], ◌∷◌, Option, refl, sym, subst}
use Rattle.std.proofs.lemmas.Bool.Decides.{nat_tests}
use Rattle.rtx_tree.specs.RegSet.{has_reg}
use Rattle.rtx_tree.specs.Registers.{is_call_used}
use Rattle.rtx_tree.specs.declared.function.Insn.{Insn}
use Rattle.rtx_tree.specs.declared.machine.RangeAt.{RangeAt}
use Rattle.rtx_tree.specs.declared.machine.World.{World}
use Rattle.rv_regs.specs.Registers.{kept_registers}
use Rattle.rv_text.specs.declared.line.Line.{Line}
use Rattle.rv_line.specs.Run as lines
use Rattle.rv_line.specs.Step.{register}
use Rattle.rv_line.specs.declared.state.RvState.{RvState}
use Rattle.law_window_runs.specs.Insns.{InsnsCome}
use Rattle.law_window_runs.specs.Same.{LinesDo}
use Rattle.law_window_runs.specs.Uses.{window_defines}
use Rattle.law_window_lines.proofs.Small.{◌also◌}

abbrev pub OfEach : (ℕ → Type 0) → List ℕ → Type 0
OfEach P [] = Unit {0}
OfEach P (r ∷ regs) = P r × OfEach P regs

same_or_in : (P : ℕ → Type 0) (r reg : ℕ) (here rest : Bool) → (r == reg) ≡ here → P r → (rest ≡ true → P reg) → here || rest ≡ true → P reg
same_or_in P r reg true rest is holds later has = let same : r ≡ reg = grind (arith, nat_tests, is) in subst P same holds
same_or_in P r reg false rest is holds later has = later has

pub each_in : (P : ℕ → Type 0) (regs : List ℕ) (reg : ℕ) → OfEach P regs → has_reg regs reg ≡ true → P reg
each_in P [] reg all has = absurd (let no : ⊥ = cc in no)
each_in P (r ∷ regs) reg all has = same_or_in P r reg (r == reg) (has_reg regs reg) refl all.0 (each_in P regs reg all.1) has

-- a call preserves each but ra
abbrev pub IsPreserved : ℕ → Type 0
IsPreserved reg = (reg ≡ 1) ⊎ (is_call_used reg ≡ false)

pub kept_reg : (reg : ℕ) → has_reg kept_registers reg ≡ true → IsPreserved reg
kept_reg reg is = each_in IsPreserved kept_registers reg
    (inl refl also inr refl also inr refl also inr refl also inr refl also inr refl also inr refl also inr refl also inr refl also
    inr refl also inr refl also inr refl also inr refl also inr refl also tt) is

pub saved_same : (a b : List (Option ℕ)) → ((reg : ℕ) → has_reg kept_registers reg ≡ true → register a reg ≡ register b reg) →
    lines.saved_of a ≡ lines.saved_of b
saved_same a b same =
    let e2 = same 2 refl in let e8 = same 8 refl in let e9 = same 9 refl in let e18 = same 18 refl in let e19 = same 19 refl in
    let e20 = same 20 refl in let e21 = same 21 refl in let e22 = same 22 refl in let e23 = same 23 refl in let e24 = same 24 refl in
    let e25 = same 25 refl in let e26 = same 26 refl in let e27 = same 27 refl in
    cc

-- each is a hard register, neither zero nor a0
pub record IsHard (reg : ℕ) : Type 0 where
  pub some : 0 < reg
  pub no_result : reg ≡ 10 → ⊥
  pub below : reg < 32

abbrev IsTested : ℕ → Type 0
IsTested reg = nat_lt 0 reg && (nat_lt reg 32 && not (reg == 10)) ≡ true

hard_of : (reg : ℕ) → IsTested reg → IsHard reg
hard_of reg is = record {
  some = grind (arith, nat_tests, is);
  no_result = λ same. grind (arith, nat_tests, is, same);
  below = grind (arith, nat_tests, is);
}

pub kept_hard : (reg : ℕ) → has_reg kept_registers reg ≡ true → IsHard reg
kept_hard reg is = hard_of reg (each_in IsTested kept_registers reg
    (refl also refl also refl also refl also refl also refl also refl also refl also refl also refl also refl also refl also refl also
    refl also tt) is)

-- what no instruction of a window defines, its lines leave
pub lines_keep : (number : ℕ) (insns : List Insn) (ls : List Line) (Live : ℕ → Type 0) (world : World) (ranges : List RangeAt) (m : RvState)
    (came : InsnsCome) (does : LinesDo number insns ls Live world ranges m came) (reg : ℕ) → has_reg kept_registers reg ≡ true →
    window_defines insns reg ≡ false → register does.done.machine.regs reg ≡ register m.regs reg
lines_keep number insns ls Live world ranges m came does reg kept none = ⊎_elim
    (λ (ra : reg ≡ 1). subst (λ r. register does.done.machine.regs r ≡ register m.regs r) (sym ra)
    (does.return_address (subst (λ r. window_defines insns r ≡ false) ra none)))
    (λ preserved. does.kept reg none preserved)
    (kept_reg reg kept)

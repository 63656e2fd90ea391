-- The instructions that a sequence makes are as many.
use Rattle.std.proofs.Common.{◌≡◌, ℕ, suc, ◌+◌, List, [], ◌∷◌, length, Result, Ok, Err, IfOk, refl, ap, ◌∙◌}
use Rattle.rtx_tree.specs.declared.function.Insn.{Insn}
use Rattle.rtx_tree.specs.declared.tree.Rtx.{Rtx}
use Rattle.new_insns.specs.Made.{insns_for}

pub made_long : (i : Insn) (uid : ℕ) (sequence : List Rtx) → length (insns_for i uid sequence) ≡ length sequence
made_long i uid [] = refl
made_long i uid (x ∷ []) = refl
made_long i uid (x ∷ y ∷ more) = ap suc (made_long i (uid + 1) (y ∷ more))

-- those that a call made
pub long_of : {E : Type 0} (i : Insn) (uid : ℕ) (sequence : List Rtx) (r : Result (List Insn) E) → IfOk r (λ insns. insns ≡ insns_for i uid sequence) →
    IfOk r (λ insns. length insns ≡ length sequence)
long_of i uid sequence (Ok insns) is = ap length is ∙ made_long i uid sequence
long_of i uid sequence (Err e) is = tt

-- What is added at the end of a chain, by whether that is reached.
use Rattle.std.proofs.Common.{◌≡◌, ◌↔◌, Bool, true, false, IsTrue, List, Some, None, refl, sym, subst}
use Rattle.rtx_tree.specs.declared.function.Insn.{Insn}
use Rattle.rtl_func.specs.Paths.{ReachesExit}
use Rattle.rtl_chain.specs.End.{return_insn, IsFinished, IsEnd}

pub returning : (reached : Bool) (insns : List Insn) (end : Insn) → (IsTrue reached ↔ ReachesExit insns) → reached ≡ true → end ≡ return_insn insns → IsEnd insns (Some end)
returning reached insns end both is same = subst (λ i. IsEnd insns (Some i)) (sym same) (IsEnd.returning (both.0 is))

pub staying : (reached : Bool) (insns : List Insn) → (IsTrue reached ↔ ReachesExit insns) → reached ≡ false → IsEnd insns None
staying reached insns both is = IsEnd.staying (λ exit. let here : reached ≡ true = both.1 exit in let none : ⊥ = cc in none)

-- a chain is finished in one way
pub finish_one : (insns a b : List Insn) → IsFinished insns a → IsFinished insns b → a ≡ b
finish_one insns _ _ (IsFinished.returning _) (IsFinished.returning _) = refl
finish_one insns _ _ (IsFinished.returning reached) (IsFinished.staying never) = absurd (never reached)
finish_one insns _ _ (IsFinished.staying never) (IsFinished.returning reached) = absurd (never reached)
finish_one insns _ _ (IsFinished.staying _) (IsFinished.staying _) = refl

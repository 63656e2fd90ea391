-- A finished chain.
use Rattle.std.proofs.Common.{◌≡◌, [], ◌∷◌, ◌++◌, Some, None, refl}
use Rattle.rtx_tree.specs.declared.function.Insn.{Insn}
use Rattle.rtx_tree.specs.declared.function.Function.{Function}
use Rattle.rtl_chain.specs.End.{return_insn, IsEnd, IsFinished}
use Rattle.law_frame.specs.Frame.{with_insns}
use Rattle.frame.specs.machine.Steps.{Finishes}

pub with_end : (f g : Function) (end : Insn) → IsEnd f.insns (Some end) → g ≡ with_insns f (f.insns ++ end ∷ []) → Finishes f g
with_end f g _ (IsEnd.returning reached) is =
    record { chain = f.insns ++ return_insn f.insns ∷ []; finishes = IsFinished.returning reached; is = is }

pub without_end : (f : Function) → IsEnd f.insns None → Finishes f f
without_end f (IsEnd.staying never) = record { chain = f.insns; finishes = IsFinished.staying never; is = refl }

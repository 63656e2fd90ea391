-- A function that keeps the rules is ready; a replaced window keeps it so, and so does the return at the end of its chain.
use Rattle.std.proofs.Common.{ℕ, List, [], ◌∷◌, ◌++◌, sym}
use Rattle.std.specs.Prelude.{take, drop}
use Rattle.std.specs.List.{AllByRecursion}
use Rattle.std.proofs.lemmas.Bool.{true≢false}
use Rattle.rtx_tree.specs.declared.function.Insn.{Insn}
use Rattle.rtx_tree.specs.declared.function.Function.{Function}
use Rattle.rtl_chain.specs.End.{return_insn, IsFinished}
use Rattle.new_insns.specs.Replaced.{replaced}
use Rattle.law_rules.specs.Admitted.{IsWellFormed}
use Rattle.law_rules.proofs.Marks.{marks_are_empty}
use Rattle.law_pass_needs.specs.Ready.{IsInsnReady, AreReady}
use Rattle.law_pass_needs.proofs.Places.{all_joined, all_taken, all_dropped, all_at}

-- ---- a function that keeps the rules

pub well_formed_ready : (f : Function) → IsWellFormed f → AreReady f
well_formed_ready f is = all_at IsInsnReady f.insns (λ place i at. record {
  marks = λ mark reg. marks_are_empty f is place reg i at mark;
  label = λ label. is.labels.fit place i at label;
})

-- ---- a replaced window

pub replaced_ready : (f : Function) (first end : ℕ) (new : List Insn) → AreReady f → AllByRecursion IsInsnReady new → AreReady (replaced f first end new)
replaced_ready f first end new ready all =
    all_joined IsInsnReady (take first f.insns) (new ++ drop end f.insns) (all_taken IsInsnReady first f.insns ready)
    (all_joined IsInsnReady new (drop end f.insns) all (all_dropped IsInsnReady end f.insns ready))

-- ---- the finished chain

return_ready : (insns : List Insn) → IsInsnReady (return_insn insns)
return_ready insns = record {
  marks = λ mark reg. absurd (true≢false (sym mark));
  label = λ is. absurd (let none : ⊥ = cc in none);
}

pub all_finished : (insns finished : List Insn) → IsFinished insns finished → AllByRecursion IsInsnReady insns → AllByRecursion IsInsnReady finished
all_finished insns _ (IsFinished.returning reached) ready = all_joined IsInsnReady insns (return_insn insns ∷ []) ready (return_ready insns, tt)
all_finished insns _ (IsFinished.staying never) ready = ready

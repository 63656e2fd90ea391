-- Refusals with a property.
use Rattle.std.proofs.Common.{Result, Err, sym, subst}
use Rattle.run_refusal.specs.declared.refusal.Refusal.{Refusal}
use Rattle.run_refusal.specs.declared.refusal.Refusal.TheVariants as refusal
use Rattle.func_input.specs.Input.{RefusesWith}
use Rattle.func_input.specs.machine.Steps.{IsOrMemory}

-- a refusal with a property has any property that follows from it
pub refuses_map : {A B : Type 0} (e : Refusal) (P : Result A Refusal → Type 0) (Q : Result B Refusal → Type 0) → ((e : Refusal) → P (Err e) → Q (Err e)) → RefusesWith e P → RefusesWith e Q
refuses_map refusal.Memory P Q follows r = tt
refuses_map refusal.Usage P Q follows r = absurd r
refuses_map (refusal.Syntax file place) P Q follows r = follows (refusal.Syntax file place) r
refuses_map (refusal.Construct place name) P Q follows r = follows (refusal.Construct place name) r
refuses_map (refusal.IllFormed function uid rule) P Q follows r = follows (refusal.IllFormed function uid rule) r
refuses_map (refusal.Limit which count) P Q follows r = follows (refusal.Limit which count) r
refuses_map (refusal.Unmatched function uid stage insn) P Q follows r = follows (refusal.Unmatched function uid stage insn) r
refuses_map (refusal.Unsatisfied function uid form insn) P Q follows r = follows (refusal.Unsatisfied function uid form insn) r
refuses_map (refusal.NotEquated function uid rule item left right) P Q follows r = follows (refusal.NotEquated function uid rule item left right) r
refuses_map refusal.ReadFault P Q follows r = absurd r
refuses_map refusal.WriteFault P Q follows r = absurd r

-- a refusal that was made, or want of memory, where the refusal has a property
pub made_refuses : {A : Type 0} (e made : Refusal) (P : Result A Refusal → Type 0) → RefusesWith made P → IsOrMemory e made → RefusesWith e P
made_refuses refusal.Memory made P holds is = tt
made_refuses refusal.Usage made P holds is = subst (λ e. RefusesWith e P) (sym is) holds
made_refuses (refusal.Syntax file place) made P holds is = subst (λ e. RefusesWith e P) (sym is) holds
made_refuses (refusal.Construct place name) made P holds is = subst (λ e. RefusesWith e P) (sym is) holds
made_refuses (refusal.IllFormed function uid rule) made P holds is = subst (λ e. RefusesWith e P) (sym is) holds
made_refuses (refusal.Limit which count) made P holds is = subst (λ e. RefusesWith e P) (sym is) holds
made_refuses (refusal.Unmatched function uid stage insn) made P holds is = subst (λ e. RefusesWith e P) (sym is) holds
made_refuses (refusal.Unsatisfied function uid form insn) made P holds is = subst (λ e. RefusesWith e P) (sym is) holds
made_refuses (refusal.NotEquated function uid rule item left right) made P holds is = subst (λ e. RefusesWith e P) (sym is) holds
made_refuses refusal.ReadFault made P holds is = subst (λ e. RefusesWith e P) (sym is) holds
made_refuses refusal.WriteFault made P holds is = subst (λ e. RefusesWith e P) (sym is) holds

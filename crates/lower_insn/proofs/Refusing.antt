-- Refusals with a property.
use Rattle.std.proofs.Common.{Result, Ok, Err}
use Rattle.pass_refusal.specs.declared.refusal.PassRefusal.{PassRefusal}
use Rattle.pass_refusal.specs.Outcome.{Gives}
use Rattle.pass_refusal.proofs.Refusing.{refuses_map}

-- so for what is given
pub gives_map : {A : Type 0} (answer : Result A PassRefusal) (P Q : Result A PassRefusal → Type 0) → ((answer : Result A PassRefusal) → P answer → Q answer) →
    Gives answer P → Gives answer Q
gives_map (Ok x) P Q follows g = follows (Ok x) g
gives_map (Err e) P Q follows g = refuses_map e P Q (λ d p. follows (Err d) p) g

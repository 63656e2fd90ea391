-- What a call that gives homes has done: it gives what is told, or the refusal that is told; want
-- of memory is free.
use Rattle.std.specs.Prelude.{Result, Ok, Err}
use Rattle.reload.specs.declared.refusal.ReloadRefusal.{ReloadRefusal}
use Rattle.reload.specs.declared.refusal.ReloadRefusal.TheVariants as refusal

-- a call that refused as it should, or for which memory ran out
abbrev pub RefusesAs : ReloadRefusal → (ReloadRefusal → Type 0) → Type 0
RefusesAs refusal.Memory P = Unit {0}
RefusesAs e P = P e

-- what is told is given; a refusal is the one that is told
abbrev pub Gives : {A : Type 0} → Result A ReloadRefusal → (Result A ReloadRefusal → Type 0) →
    Type 0
Gives (Ok x) P = P (Ok x)
Gives (Err e) P = RefusesAs e (λ d. P (Err d))

-- What a call of a pass has done: it gives what is told, or the refusal that is told; want of
-- memory is free.
use Rattle.std.specs.Prelude.{Result, Ok, Err}
use Rattle.pass_refusal.specs.declared.refusal.PassRefusal.{PassRefusal}
use Rattle.pass_refusal.specs.declared.refusal.PassRefusal.TheVariants as refusal

-- a call that refused as it should, or for which memory ran out
abbrev pub RefusesWith : {A : Type 0} → PassRefusal → (Result A PassRefusal → Type 0) → Type 0
RefusesWith refusal.Memory P = Unit {0}
RefusesWith e P = P (Err e)

-- what is told is given; a refusal is the one that is told
abbrev pub Gives : {A : Type 0} → Result A PassRefusal → (Result A PassRefusal → Type 0) → Type 0
Gives (Ok x) P = P (Ok x)
Gives (Err e) P = RefusesWith e P

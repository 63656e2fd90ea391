-- What an answer says of the description.
use Rattle.std.specs.Prelude.{List, Result, Ok, Err}
use Rattle.md_forms.specs.declared.form.Entry.{Entry}
use Rattle.run_refusal.specs.declared.refusal.Refusal.{Refusal}
use Rattle.run_refusal.specs.declared.refusal.Refusal.TheVariants as refusal

-- a refusal has a property; a fault and want of memory have theirs elsewhere, and no words were
-- read and nothing was written
abbrev pub RefusesForms : Refusal → (Result (List Entry) Refusal → Type 0) → Type 0
RefusesForms refusal.Memory P = Unit {0}
RefusesForms refusal.ReadFault P = Unit {0}
RefusesForms refusal.Usage P = ⊥
RefusesForms refusal.WriteFault P = ⊥
RefusesForms e P = P (Err e)

-- what is told is given; a refusal is the one that is told; want of memory is free,
-- and so is a fault
abbrev pub Gives : Result (List Entry) Refusal → (Result (List Entry) Refusal → Type 0) → Type 0
Gives (Ok forms) P = P (Ok forms)
Gives (Err e) P = RefusesForms e P

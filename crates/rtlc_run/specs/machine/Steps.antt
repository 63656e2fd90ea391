-- The steps of the code: for the contracts of private functions alone.
use Rattle.std.specs.Prelude.{◌≡◌, ◌≢◌, ◌+◌, ◌<◌, ℕ, length, List, Result, Ok, Err, IfSome, Vec}
use Rattle.std.specs.declared.option.Option.{Option}
use Rattle.std.specs.declared.alloc.Global.{Global}
use Rattle.rtx_tree.specs.Limit.{most_bytes}
use Rattle.rtx_tree.specs.declared.limit.Limit.TheVariants as limit
use Rattle.run_refusal.specs.declared.refusal.Refusal.{Refusal}
use Rattle.run_refusal.specs.declared.refusal.Refusal.TheVariants as refusal
use Rattle.func_input.specs.Outcome.{Outcome}

-- what is told is given; a refusal is the one that is told; want of memory is free,
-- and so is a fault of a read
abbrev pub Gives : Result (Vec ℕ Global) Refusal → (Outcome → Type 0) → Type 0
Gives (Ok text) P = P (Ok text.items)
Gives (Err refusal.ReadFault) P = Unit {0}
Gives (Err refusal.WriteFault) P = ⊥
Gives (Err refusal.Memory) P = Unit {0}
Gives (Err e) P = P (Err e)

-- a command gave it: it is no refusal of the words or of the write
abbrev pub IsOwn : Result (Vec ℕ Global) Refusal → Type 0
IsOwn r = (r ≢ Err refusal.Usage) × (r ≢ Err refusal.WriteFault)

-- why the bytes of an input were not read
abbrev pub InputRefused : Option (List ℕ) → Refusal → Type 0
InputRefused input (refusal.Limit limit.Text count) =
    (count ≡ most_bytes + 1) × IfSome input (λ bytes. most_bytes < length bytes)
InputRefused input refusal.ReadFault = Unit {0}
InputRefused input refusal.Memory = Unit {0}
InputRefused input e = ⊥

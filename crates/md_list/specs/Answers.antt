-- What an answer says of the description.
use Rattle.std.specs.Prelude.{ℕ, List, Result, Ok, Err, Vec}
use Rattle.std.specs.declared.alloc.Global.{Global}
use Rattle.md_source.specs.declared.refusal.SourceRefusal.TheVariants as source
use Rattle.md_list.specs.declared.refusal.ListRefusal.{ListRefusal}
use Rattle.md_list.specs.declared.refusal.ListRefusal.TheVariants as refusal

-- a text or a refusal has a property; a fault and want of memory have theirs elsewhere
abbrev pub Gives : (Result (List ℕ) ListRefusal → Type 0) → Result (Vec ℕ Global) ListRefusal →
    Type 0
Gives P (Ok text) = P (Ok text.items)
Gives P (Err refusal.Memory) = Unit {0}
Gives P (Err (refusal.Source source.ReadFault)) = Unit {0}
Gives P (Err (refusal.Source source.Memory)) = Unit {0}
Gives P (Err e) = P (Err e)

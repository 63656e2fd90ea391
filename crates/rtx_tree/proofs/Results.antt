-- A fact that always holds holds after an error.
use Rattle.std.specs.Prelude.{Result, Ok, Err, OnErr}

pub on_err : {A E : Type 0} (result : Result A E) {P : Type 0} → P → OnErr result P
on_err (Ok x) holds = tt
on_err (Err e) holds = holds

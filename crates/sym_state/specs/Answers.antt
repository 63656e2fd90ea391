-- What a call that runs a side of a comparison gives.
use Rattle.std.specs.Prelude.{◌≡◌, ◌+◌, Result, Ok, Err}
use Rattle.rtx_tree.specs.Limit.{most_nodes}
use Rattle.sym_state.specs.declared.state.SymState.{SymState}
use Rattle.sym_state.specs.declared.refusal.SymRefusal.{SymRefusal}
use Rattle.sym_state.specs.declared.refusal.SymRefusal.TheVariants as refusal
use Rattle.sym_state.specs.State.{Ran, Runs, BadShape, TooLarge}
use Rattle.sym_state.specs.Views.{state_of}

-- what is told is given; a refusal is the one that is told; want of memory is free
abbrev pub Gives : Result SymState SymRefusal → Ran → Type 0
Gives (Ok s) r = r ≡ Runs (state_of s)
Gives (Err (refusal.Shape index)) r = r ≡ BadShape index
Gives (Err (refusal.Size size)) r = (r ≡ TooLarge) × (size ≡ most_nodes + 1)
Gives (Err refusal.Memory) r = Unit {0}

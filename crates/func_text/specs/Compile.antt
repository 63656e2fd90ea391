-- What the bytes of an input come to by a description: the assembly of its functions, or the first
-- refusal.
use Rattle.std.specs.Prelude.{◌≡◌, ℕ, List, ◌++◌, Result, Ok, Err}
use Rattle.rtx_tree.specs.declared.function.Function.{Function}
use Rattle.pass_name.specs.declared.road.Road.{Road}
use Rattle.run_refusal.specs.declared.refusal.Refusal.{Refusal}
use Rattle.md_forms.specs.declared.form.Entry.{Entry}
use Rattle.func_input.specs.Input.{FunctionsComeTo, InputComesTo, RefusesWith}
pub use Rattle.func_input.specs.Input.{Gives}
use Rattle.func_input.specs.Outcome as texts
use Rattle.func_text.specs.declared.assembly.Assembly.{Assembly}
use Rattle.func_text.specs.declared.summary.Summary.{Summary}
use Rattle.func_text.specs.Assembly.{Outcome, AssemblyComes}

-- What some functions come to: their assembly, or the first of them that is refused. Each is looked
-- at before the text of any is made.
abbrev pub FunctionsCome : List Entry → Road → List Function → Outcome → Type 0
FunctionsCome forms road = FunctionsComeTo (AssemblyComes forms road)

-- what the bytes of an input come to
abbrev pub InputComes : List Entry → Road → List ℕ → Outcome → Type 0
InputComes forms road = InputComesTo (AssemblyComes forms road)

-- the text of an assembly
abbrev pub text_told : Outcome → texts.Outcome
text_told (Ok assembly) = Ok assembly.text
text_told (Err e) = Err e

-- what is told of the bytes of an input
abbrev pub TextComes : List Entry → Road → List ℕ → texts.Outcome → Type 0
TextComes forms road bytes told = (o : Outcome) × InputComes forms road bytes o × (told ≡ text_told o)

-- A call appended the text of an assembly that is told to an output, and gave its summary; a refusal
-- is the one that is told; want of memory is free.
abbrev pub Compiles : List ℕ → List ℕ → Result Summary Refusal → (Outcome → Type 0) → Type 0
Compiles out out' (Ok summary) P = (a : Assembly) × P (Ok a) × (out' ≡ out ++ a.text) × (summary ≡ a.summary)
Compiles out out' (Err e) P = RefusesWith e P

-- What an input comes to, from what its parts gave.
use Rattle.std.proofs.Common.{◌≡◌, ℕ, List, [], ◌++◌, Ok, Err, None, refl, ap, ◌∙◌}
use Rattle.rtx_tree.specs.declared.function.Function.{Function}
use Rattle.pass_name.specs.declared.road.Road.{Road}
use Rattle.run_refusal.specs.declared.refusal.Refusal.{Refusal}
use Rattle.md_forms.specs.declared.form.Entry.{Entry}
use Rattle.func_input.specs.Refused.{first_refused}
use Rattle.func_input.specs.Input.{IsRead, FunctionsComeTo, RefusesWith}
use Rattle.func_input.proofs.Refusing.{refuses_map}
use Rattle.func_input.proofs.Any.{read_comes}
use Rattle.func_text.specs.Assembly.{Outcome, AssemblyComes}
use Rattle.func_text.specs.declared.summary.Summary.{Summary}
use Rattle.func_text.specs.Compile.{FunctionsCome, InputComes, TextComes, Gives, Compiles}

-- what a call told has any property that follows from its own
pub gives_map : (o : Outcome) (P Q : Outcome → Type 0) → ((o : Outcome) → P o → Q o) → Gives o P → Gives o Q
gives_map (Ok a) P Q follows h = follows (Ok a) h
gives_map (Err e) P Q follows h = refuses_map e P Q (λ e. follows (Err e)) h

-- what was assembled, the functions come to where none is refused
pub functions_come : (forms : List Entry) (road : Road) (functions : List Function) (o : Outcome) → first_refused functions ≡ None → Gives o (AssemblyComes forms road functions) → Gives o (FunctionsCome forms road functions)
functions_come forms road functions o none h = gives_map o (AssemblyComes forms road functions) (FunctionsCome forms road functions) (λ o own. FunctionsComeTo.admitted o none own) h

-- ---- the text of an input

-- what refuses the assembly of the bytes refuses its text
pub text_refused : (forms : List Entry) (road : Road) (bytes : List ℕ) (e : Refusal) → RefusesWith e (InputComes forms road bytes) → RefusesWith e (TextComes forms road bytes)
text_refused forms road bytes e h = refuses_map e (InputComes forms road bytes) (TextComes forms road bytes) (λ e comes. (Err e, comes, refl)) h

-- and so does what refuses its functions
pub text_unmade : (forms : List Entry) (road : Road) (bytes : List ℕ) (functions : List Function) (e : Refusal) → IsRead bytes functions → RefusesWith e (FunctionsCome forms road functions) → RefusesWith e (TextComes forms road bytes)
text_unmade forms road bytes functions e read h =
    refuses_map e (FunctionsCome forms road functions) (TextComes forms road bytes) (λ e comes. (Err e, read_comes (AssemblyComes forms road) bytes functions (Err e) read comes, refl)) h

-- what was appended to nothing is the text
pub text_made : (forms : List Entry) (road : Road) (bytes : List ℕ) (functions : List Function) (old new : List ℕ) (s : Summary) → IsRead bytes functions → old ≡ [] → Compiles old new (Ok s) (FunctionsCome forms road functions) → TextComes forms road bytes (Ok new)
text_made forms road bytes functions old new s read empty made =
    (Ok made.0, read_comes (AssemblyComes forms road) bytes functions (Ok made.0) read made.1, ap (λ (t : List ℕ). Ok t) (made.2 ∙ ap (λ (t : List ℕ). t ++ made.0.text) empty))

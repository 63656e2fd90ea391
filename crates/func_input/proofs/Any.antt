-- Any last step: what refuses the functions or the bytes refuses them by each, and what a last step gives for the functions, the bytes come to.
use Rattle.std.proofs.Common.{◌≡◌, ◌≤◌, ℕ, List, length, Result, Ok, Err, refl, sym, ap, subst, ◌∙◌}
use Rattle.rtx_tree.specs.declared.function.Function.{Function}
use Rattle.lisp_read.specs.declared.tree.Tree.{Tree}
use Rattle.lisp_read.specs.Reading.{Reading, ReadsAs, Trees}
use Rattle.lisp_read.specs.Parsed.{stands}
use Rattle.rtl_read.specs.Syntax.{functions_in}
use Rattle.run_refusal.specs.declared.refusal.Refusal.{Refusal}
use Rattle.func_input.specs.Refused.{first_refused}
use Rattle.rtx_tree.specs.Limit.{most_bytes}
use Rattle.func_input.specs.Input.{IsRead, IsInput, FunctionsComeTo, ReadingComesTo, InputComesTo, AreThemselves, FunctionsGive, InputGives, RefusesWith}
use Rattle.func_input.proofs.Refusing.{refuses_map}

-- what functions of which none is refused come to
abbrev pub Last : Type 0 → Type 1
Last A = List Function → Result A Refusal → Type 0

same_err : {A B : Type 0} (e d : Refusal) → ◌≡◌ {A = Result A Refusal} (Err e) (Err d) → ◌≡◌ {A = Result B Refusal} (Err e) (Err d)
same_err e d is = ap (λ (x : Refusal). Err x) (let same : e ≡ d = cc in same)

-- ---- refusals

functions_any : {B : Type 0} (last : Last B) (functions : List Function) (o : Result (List Function) Refusal) (e : Refusal) → o ≡ Err e → FunctionsGive functions o → FunctionsComeTo last functions (Err e)
functions_any last functions _ e is (FunctionsComeTo.refused d first) = subst (FunctionsComeTo last functions) (same_err d e is) (FunctionsComeTo.refused d first)
functions_any last functions _ e is (FunctionsComeTo.admitted o none own) = absurd (let no : ◌≡◌ {A = Result (List Function) Refusal} (Err e) (Ok functions) = sym is ∙ own in let nothing : ⊥ = cc in nothing)

reading_any : {B : Type 0} (last : Last B) (reading : Reading) (o : Result (List Function) Refusal) (e : Refusal) → o ≡ Err e → ReadingComesTo AreThemselves reading o → ReadingComesTo last reading (Err e)
reading_any last _ _ e is (ReadingComesTo.syntax place) = subst (ReadingComesTo last _) (same_err _ e is) (ReadingComesTo.syntax place)
reading_any last _ _ e is (ReadingComesTo.depth place) = subst (ReadingComesTo last _) (same_err _ e is) (ReadingComesTo.depth place)
reading_any last _ _ e is (ReadingComesTo.outside trees place name out) = subst (ReadingComesTo last _) (same_err _ e is) (ReadingComesTo.outside trees place name out)
reading_any last _ _ e is (ReadingComesTo.inside trees functions o stand comes) = ReadingComesTo.inside trees functions (Err e) stand (functions_any last functions o e is comes)

input_any : {B : Type 0} (last : Last B) (bytes : List ℕ) (o : Result (List Function) Refusal) (e : Refusal) → o ≡ Err e → InputGives bytes o → InputComesTo last bytes (Err e)
input_any last bytes _ e is (InputComesTo.too_long long) = subst (InputComesTo last bytes) (same_err _ e is) (InputComesTo.too_long long)
input_any last bytes _ e is (InputComesTo.read reading o within reads comes) = InputComesTo.read reading (Err e) within reads (reading_any last reading o e is comes)

-- functions that are refused are refused by any last step
pub functions_refused : {B : Type 0} (last : Last B) (functions : List Function) (e : Refusal) → RefusesWith e (FunctionsGive functions) → RefusesWith e (FunctionsComeTo last functions)
functions_refused last functions e h = refuses_map e (FunctionsGive functions) (FunctionsComeTo last functions) (λ e gives. functions_any last functions (Err e) e refl gives) h

-- and so are bytes
pub input_refused : {B : Type 0} (last : Last B) (bytes : List ℕ) (e : Refusal) → RefusesWith e (InputGives bytes) → RefusesWith e (InputComesTo last bytes)
input_refused last bytes e h = refuses_map e (InputGives bytes) (InputComesTo last bytes) (λ e gives. input_any last bytes (Err e) e refl gives) h

-- ---- bytes that are read

-- what the functions come to, the bytes come to
pub read_comes : {B : Type 0} (last : Last B) (bytes : List ℕ) (functions : List Function) (o : Result B Refusal) → IsRead bytes functions → FunctionsComeTo last functions o → InputComesTo last bytes o
read_comes last bytes functions o read comes = InputComesTo.read (Trees read.trees) o read.within read.reads (ReadingComesTo.inside read.trees functions o read.stand comes)

-- ---- inputs

pub input_gives : (bytes : List ℕ) (functions : List Function) → IsInput bytes functions → InputGives bytes (Ok functions)
input_gives bytes functions input =
    read_comes AreThemselves bytes functions (Ok functions) input.read (FunctionsComeTo.admitted (Ok functions) input.admitted refl)

functions_of : (bytes : List ℕ) (trees : List Tree) (functions found : List Function) (o : Result (List Function) Refusal) → length bytes ≤ most_bytes → ReadsAs bytes (Trees trees) → functions_in trees ≡ stands found → o ≡ Ok functions → FunctionsGive found o → IsInput bytes functions
functions_of bytes trees functions found _ within reads stand is (FunctionsComeTo.refused e first) = absurd (let nothing : ⊥ = cc in nothing)
functions_of bytes trees functions found _ within reads stand is (FunctionsComeTo.admitted o none own) =
    let same : found ≡ functions = same_ok found functions (sym own ∙ is) in
    record { read = record { within = within; trees = trees; reads = reads; stand = stand ∙ ap stands same }; admitted = ap first_refused (sym same) ∙ none }
  where
    same_ok : (a b : List Function) → ◌≡◌ {A = Result (List Function) Refusal} (Ok a) (Ok b) → a ≡ b
    same_ok a b is = cc

reading_of : (bytes : List ℕ) (functions : List Function) (reading : Reading) (o : Result (List Function) Refusal) → length bytes ≤ most_bytes → ReadsAs bytes reading → o ≡ Ok functions → ReadingComesTo AreThemselves reading o → IsInput bytes functions
reading_of bytes functions _ _ within reads is (ReadingComesTo.syntax place) = absurd (let nothing : ⊥ = cc in nothing)
reading_of bytes functions _ _ within reads is (ReadingComesTo.depth place) = absurd (let nothing : ⊥ = cc in nothing)
reading_of bytes functions _ _ within reads is (ReadingComesTo.outside trees place name out) = absurd (let nothing : ⊥ = cc in nothing)
reading_of bytes functions _ _ within reads is (ReadingComesTo.inside trees found o stand comes) = functions_of bytes trees functions found o within reads stand is comes

pub gives_input : (bytes : List ℕ) (functions : List Function) (o : Result (List Function) Refusal) → o ≡ Ok functions → InputGives bytes o → IsInput bytes functions
gives_input bytes functions _ is (InputComesTo.too_long long) = absurd (let nothing : ⊥ = cc in nothing)
gives_input bytes functions _ is (InputComesTo.read reading o within reads comes) = reading_of bytes functions reading o within reads is comes

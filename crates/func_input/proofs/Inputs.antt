-- What the bytes of an input come to by a last step, where they are those of known functions, and where no refusal is told.
use Rattle.std.proofs.Common.{◌≡◌, ◌≤◌, ℕ, List, length, Result, Ok, None, sym, ap, subst, ◌∙◌, arith}
use Rattle.rtx_tree.specs.declared.function.Function.{Function}
use Rattle.lisp_read.specs.declared.tree.Tree.{Tree}
use Rattle.lisp_read.specs.Reading.{Reading, ReadsAs, Trees}
use Rattle.lisp_read.specs.Parsed.{stands}
use Rattle.lisp_read.proofs.Unique.{one_reading}
use Rattle.rtl_read.specs.Syntax.{functions_in}
use Rattle.run_refusal.specs.declared.refusal.Refusal.{Refusal}
use Rattle.func_input.specs.Refused.{first_refused}
use Rattle.rtx_tree.specs.Limit.{most_bytes}
use Rattle.func_input.specs.Input.{IsInput, FunctionsComeTo, ReadingComesTo, InputComesTo}
use Rattle.func_input.proofs.Any.{Last}
use Rattle.func_input.proofs.One.{apart, same_functions, not_both}

-- ---- known functions

-- functions of which none is refused come to what the last step gives
pub admitted_last : {A : Type 0} (last : Last A) (functions : List Function) (o : Result A Refusal) → first_refused functions ≡ None → FunctionsComeTo last functions o → last functions o
admitted_last last functions _ none (FunctionsComeTo.refused e is) = apart e _ is none
admitted_last last functions _ none (FunctionsComeTo.admitted o none' own) = own

trees_last : {A : Type 0} (last : Last A) (bytes : List ℕ) (functions : List Function) (reading : Reading) (o : Result A Refusal) → (input : IsInput bytes functions) → reading ≡ Trees input.read.trees → ReadingComesTo last reading o → last functions o
trees_last last bytes functions _ _ input is (ReadingComesTo.syntax place) = absurd (let nothing : ⊥ = cc in nothing)
trees_last last bytes functions _ _ input is (ReadingComesTo.depth place) = absurd (let nothing : ⊥ = cc in nothing)
trees_last last bytes functions _ _ input is (ReadingComesTo.outside trees place name out) =
    let same : trees ≡ input.read.trees = cc in
    not_both trees place name functions out (ap functions_in same ∙ input.read.stand)
trees_last last bytes functions _ _ input is (ReadingComesTo.inside trees found o stand comes) =
    let same : trees ≡ input.read.trees = cc in
    let found_is : found ≡ functions = same_functions found functions (sym stand ∙ ap functions_in same ∙ input.read.stand) in
    admitted_last last functions o input.admitted (subst (λ fs. FunctionsComeTo last fs o) found_is comes)

-- an input comes to what the last step gives for its functions
pub input_last : {A : Type 0} (last : Last A) (bytes : List ℕ) (functions : List Function) (o : Result A Refusal) → IsInput bytes functions → InputComesTo last bytes o → last functions o
input_last last bytes functions _ input (InputComesTo.too_long long) = absurd (let within = input.read.within in omega (arith, long, within))
input_last last bytes functions _ input (InputComesTo.read reading o within reads comes) =
    trees_last last bytes functions reading o input (one_reading bytes reading (Trees input.read.trees) reads input.read.reads) comes

-- ---- no refusal

-- the functions of an input, with what the last step gives for them
pub record Reached {A : Type 0} (last : Last A) (bytes : List ℕ) (o : Result A Refusal) : Type 0 where
  pub functions : List Function
  pub input : IsInput bytes functions
  pub own : last functions o

functions_reached : {A : Type 0} (last : Last A) (bytes : List ℕ) (x : A) (trees : List Tree) (functions : List Function) (o : Result A Refusal) → length bytes ≤ most_bytes → ReadsAs bytes (Trees trees) → functions_in trees ≡ stands functions → o ≡ Ok x →
    FunctionsComeTo last functions o → Reached last bytes o
functions_reached last bytes x trees functions _ within reads stand is (FunctionsComeTo.refused e first) = absurd (let nothing : ⊥ = cc in nothing)
functions_reached last bytes x trees functions _ within reads stand is (FunctionsComeTo.admitted o none own) =
    record { functions = functions; input = record { read = record { within = within; trees = trees; reads = reads; stand = stand }; admitted = none }; own = own }

reading_reached : {A : Type 0} (last : Last A) (bytes : List ℕ) (x : A) (reading : Reading) (o : Result A Refusal) → length bytes ≤ most_bytes → ReadsAs bytes reading → o ≡ Ok x → ReadingComesTo last reading o → Reached last bytes o
reading_reached last bytes x _ _ within reads is (ReadingComesTo.syntax place) = absurd (let nothing : ⊥ = cc in nothing)
reading_reached last bytes x _ _ within reads is (ReadingComesTo.depth place) = absurd (let nothing : ⊥ = cc in nothing)
reading_reached last bytes x _ _ within reads is (ReadingComesTo.outside trees place name out) = absurd (let nothing : ⊥ = cc in nothing)
reading_reached last bytes x _ _ within reads is (ReadingComesTo.inside trees functions o stand comes) = functions_reached last bytes x trees functions o within reads stand is comes

-- bytes that come to no refusal are those of an input
pub input_reached : {A : Type 0} (last : Last A) (bytes : List ℕ) (x : A) (o : Result A Refusal) → o ≡ Ok x → InputComesTo last bytes o → Reached last bytes o
input_reached last bytes x _ is (InputComesTo.too_long long) = absurd (let nothing : ⊥ = cc in nothing)
input_reached last bytes x _ is (InputComesTo.read reading o within reads comes) = reading_reached last bytes x reading o within reads is comes

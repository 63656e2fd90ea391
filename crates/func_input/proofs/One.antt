-- Bytes come to one answer, where the last step gives one.
use Rattle.std.proofs.Common.{◌≡◌, ℕ, List, Result, Err, Option, Some, None, refl, sym, ap, subst, ◌∙◌, arith}
use Rattle.rtx_tree.specs.declared.place.Place.{Place}
use Rattle.rtx_tree.specs.declared.function.Function.{Function}
use Rattle.lisp_read.specs.declared.tree.Tree.{Tree}
use Rattle.lisp_read.specs.Reading.{Reading, Trees}
use Rattle.lisp_read.specs.Parsed.{Parsed, stands, construct}
use Rattle.lisp_read.proofs.Unique.{one_reading}
use Rattle.rtl_read.specs.Syntax.{functions_in}
use Rattle.run_refusal.specs.declared.refusal.Refusal.{Refusal}
use Rattle.run_refusal.specs.declared.refusal.Refusal.TheVariants as refusal
use Rattle.func_input.specs.Input.{IsRead, FunctionsComeTo, ReadingComesTo, InputComesTo, AreThemselves, Given, InputGives}
use Rattle.func_input.proofs.Any.{Last}

-- a last step gives one answer for some functions
abbrev pub IsOne : {A : Type 0} → Last A → Type 0
IsOne {A} last = (functions : List Function) (a b : Result A Refusal) → last functions a → last functions b → a ≡ b

same_some : (a b : Refusal) → ◌≡◌ {A = Option Refusal} (Some a) (Some b) → a ≡ b
same_some a b is = cc

pub apart : {P : Type 0} (e : Refusal) (o : Option Refusal) → o ≡ Some e → o ≡ None → P
apart e o is none = absurd (let no : ◌≡◌ {A = Option Refusal} (Some e) None = sym is ∙ none in let nothing : ⊥ = cc in nothing)

pub one_coming : {A : Type 0} (last : Last A) (functions : List Function) (a b : Result A Refusal) → IsOne last → FunctionsComeTo last functions a → FunctionsComeTo last functions b → a ≡ b
one_coming last functions _ _ one (FunctionsComeTo.refused e is) (FunctionsComeTo.refused e' is') = ap (λ (e : Refusal). Err e) (same_some e e' (sym is ∙ is'))
one_coming last functions _ _ one (FunctionsComeTo.refused e is) (FunctionsComeTo.admitted o none own) = apart e _ is none
one_coming last functions _ _ one (FunctionsComeTo.admitted o none own) (FunctionsComeTo.refused e is) = apart e _ is none
one_coming last functions _ _ one (FunctionsComeTo.admitted o none own) (FunctionsComeTo.admitted o' none' own') = one functions o o' own own'

pub same_functions : (a b : List Function) → ◌≡◌ {A = Parsed (List Function)} (stands a) (stands b) → a ≡ b
same_functions a b is = cc

same_construct : (place place' : Place) (name name' : List ℕ) → ◌≡◌ {A = Parsed (List Function)} (construct place name) (construct place' name') → (place ≡ place') × (name ≡ name')
same_construct place place' name name' is = (cc, cc)

pub not_both : {P : Type 0} (trees : List Tree) (place : Place) (name : List ℕ) (functions : List Function) → functions_in trees ≡ construct place name → functions_in trees ≡ stands functions → P
not_both trees place name functions out is = absurd (let no : ◌≡◌ {A = Parsed (List Function)} (construct place name) (stands functions) = sym out ∙ is in let nothing : ⊥ = cc in nothing)

one_reading_comes : {A : Type 0} (last : Last A) (reading : Reading) (a b : Result A Refusal) → IsOne last → ReadingComesTo last reading a → ReadingComesTo last reading b → a ≡ b
one_reading_comes last _ _ _ one (ReadingComesTo.syntax place) (ReadingComesTo.syntax _) = refl
one_reading_comes last _ _ _ one (ReadingComesTo.depth place) (ReadingComesTo.depth _) = refl
one_reading_comes last _ _ _ one (ReadingComesTo.outside trees place name is) (ReadingComesTo.outside _ place' name' is') =
    let same = same_construct place place' name name' (sym is ∙ is') in ap (λ (p : Place). Err (refusal.Construct p name)) same.0 ∙ ap (λ (n : List ℕ). Err (refusal.Construct place' n)) same.1
one_reading_comes last _ _ _ one (ReadingComesTo.outside trees place name is) (ReadingComesTo.inside _ functions o is' come) = not_both trees place name functions is is'
one_reading_comes last _ _ _ one (ReadingComesTo.inside trees functions o is come) (ReadingComesTo.outside _ place name is') = not_both trees place name functions is' is
one_reading_comes last _ _ _ one (ReadingComesTo.inside trees functions o is come) (ReadingComesTo.inside _ functions' o' is' come') =
    one_coming last functions o o' one come (subst (λ fs. FunctionsComeTo last fs o') (same_functions functions' functions (sym is' ∙ is)) come')

-- bytes come to one
pub one_coming_to : {A : Type 0} (last : Last A) (bytes : List ℕ) (a b : Result A Refusal) → IsOne last → InputComesTo last bytes a → InputComesTo last bytes b → a ≡ b
one_coming_to last bytes _ _ one (InputComesTo.too_long long) (InputComesTo.too_long longer) = refl
one_coming_to last bytes _ _ one (InputComesTo.too_long long) (InputComesTo.read r o within reads comes) = absurd (omega (arith, long, within))
one_coming_to last bytes _ _ one (InputComesTo.read r o within reads comes) (InputComesTo.too_long long) = absurd (omega (arith, long, within))
one_coming_to last bytes _ _ one (InputComesTo.read r o within reads comes) (InputComesTo.read r' o' within' reads' comes') =
    one_reading_comes last r o o' one comes (subst (λ r. ReadingComesTo last r o') (one_reading bytes r' r reads' reads) comes')

-- they give one
pub one_giving : (bytes : List ℕ) (a b : Given) → InputGives bytes a → InputGives bytes b → a ≡ b
one_giving bytes a b p q = one_coming_to AreThemselves bytes a b (λ functions a b is is'. is ∙ sym is') p q

-- bytes are read as one list of functions
pub one_read : (bytes : List ℕ) (functions functions' : List Function) → IsRead bytes functions → IsRead bytes functions' → functions ≡ functions'
one_read bytes functions functions' r r' =
    let same : r.trees ≡ r'.trees = same_trees r.trees r'.trees (one_reading bytes (Trees r.trees) (Trees r'.trees) r.reads r'.reads) in
    same_functions functions functions' (sym r.stand ∙ ap functions_in same ∙ r'.stand)
  where
    same_trees : (a b : List Tree) → ◌≡◌ {A = Reading} (Trees a) (Trees b) → a ≡ b
    same_trees a b is = cc

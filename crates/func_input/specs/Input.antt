-- The functions of an input, and what its bytes come to by a last step over its functions.
use Rattle.std.specs.Prelude.{◌≡◌, ◌+◌, ◌<◌, ◌≤◌, ℕ, List, length, codes, Some, None, Result, Ok, Err}
use Rattle.rtx_tree.specs.Limit.{most_bytes, most_open}
use Rattle.rtx_tree.specs.declared.place.Place.{Place}
use Rattle.rtx_tree.specs.declared.function.Function.{Function}
use Rattle.rtx_tree.specs.declared.limit.Limit.TheVariants as limit
use Rattle.lisp_read.specs.declared.tree.Tree.{Tree}
use Rattle.lisp_read.specs.Reading.{Reading, ReadsAs, Trees, Syntax, Depth}
use Rattle.lisp_read.specs.Parsed.{stands, construct}
use Rattle.rtl_read.specs.Syntax.{functions_in}
use Rattle.run_refusal.specs.declared.refusal.Refusal.{Refusal}
use Rattle.run_refusal.specs.declared.refusal.Refusal.TheVariants as refusal
use Rattle.func_input.specs.Refused.{first_refused}

-- the bytes are read as functions
pub record IsRead (bytes : List ℕ) (functions : List Function) : Type 0 where
  pub within : length bytes ≤ most_bytes
  pub trees : List Tree
  pub reads : ReadsAs bytes (Trees trees)
  pub stand : functions_in trees ≡ stands functions

-- the bytes are the text of an input with these functions, which are well-formed and within the
-- limits
pub record IsInput (bytes : List ℕ) (functions : List Function) : Type 0 where
  pub read : IsRead bytes functions
  pub admitted : first_refused functions ≡ None

-- ---- what an input comes to

-- What some functions come to by a last step, which says what functions of which none is refused
-- come to. Each is looked at before that step.
pub data FunctionsComeTo {A : Type 0} (last : List Function → Result A Refusal → Type 0) (functions : List Function) : Result A Refusal → Type 0 where
  refused : (e : Refusal) → first_refused functions ≡ Some e →
      FunctionsComeTo last functions (Err e)
  admitted : (outcome : Result A Refusal) → first_refused functions ≡ None →
      last functions outcome → FunctionsComeTo last functions outcome

-- what a text comes to, by its reading
pub data ReadingComesTo {A : Type 0} (last : List Function → Result A Refusal → Type 0) : Reading → Result A Refusal → Type 0 where
  syntax : (place : Place) →
      ReadingComesTo last (Syntax place) (Err (refusal.Syntax (codes "-") place))
  depth : (place : Place) →
      ReadingComesTo last (Depth place) (Err (refusal.Limit limit.Depth (most_open + 1)))
  outside : (trees : List Tree) (place : Place) (name : List ℕ) →
      functions_in trees ≡ construct place name →
      ReadingComesTo last (Trees trees) (Err (refusal.Construct place name))
  inside : (trees : List Tree) (functions : List Function) (outcome : Result A Refusal) →
      functions_in trees ≡ stands functions → FunctionsComeTo last functions outcome →
      ReadingComesTo last (Trees trees) outcome

-- What the bytes of an input come to. How many there are is looked at first, then their reading.
pub data InputComesTo {A : Type 0} (last : List Function → Result A Refusal → Type 0) (bytes : List ℕ) : Result A Refusal → Type 0 where
  too_long : most_bytes < length bytes →
      InputComesTo last bytes (Err (refusal.Limit limit.Text (most_bytes + 1)))
  read : (reading : Reading) (outcome : Result A Refusal) → length bytes ≤ most_bytes →
      ReadsAs bytes reading → ReadingComesTo last reading outcome → InputComesTo last bytes outcome

-- ---- what is refused whatever the last step is

-- functions, or a refusal
abbrev pub Given : Type 0
Given = Result (List Function) Refusal

-- the last step that leaves the functions as they are
abbrev pub AreThemselves : List Function → Given → Type 0
AreThemselves functions outcome = outcome ≡ Ok functions

-- What some functions give: themselves, where none is refused, or the first refusal. They come to
-- the same refusal by any last step.
abbrev pub FunctionsGive : List Function → Given → Type 0
FunctionsGive = FunctionsComeTo AreThemselves

-- What the bytes of an input give: its functions, or the first refusal. They come to the same
-- refusal by any last step.
abbrev pub InputGives : List ℕ → Given → Type 0
InputGives = InputComesTo AreThemselves

-- ---- what a call has done

-- a call that refused as it should, or for which memory ran out; it tells no fault and nothing of
-- the words
abbrev pub RefusesWith : {A : Type 0} → Refusal → (Result A Refusal → Type 0) → Type 0
RefusesWith refusal.Memory P = Unit {0}
RefusesWith refusal.Usage P = ⊥
RefusesWith refusal.ReadFault P = ⊥
RefusesWith refusal.WriteFault P = ⊥
RefusesWith e P = P (Err e)

-- what is told is given; a refusal is the one that is told; want of memory is free
abbrev pub Gives : {A : Type 0} → Result A Refusal → (Result A Refusal → Type 0) → Type 0
Gives (Ok x) P = P (Ok x)
Gives (Err e) P = RefusesWith e P

-- a call that read the bytes as functions, or refused them
abbrev pub Reads : List ℕ → Given → Type 0
Reads bytes (Ok functions) = IsRead bytes functions
Reads bytes (Err e) = RefusesWith e (InputGives bytes)

-- what is told is given; a refusal is the one that is told; want of memory is free;
-- nothing is given where none of the functions is refused
abbrev pub GivesNothing : Result (Unit {0}) Refusal → List Function → Type 0
GivesNothing (Ok done) functions = first_refused functions ≡ None
GivesNothing (Err e) functions = RefusesWith e (FunctionsGive functions)

-- The steps of the code: for the contracts of private functions alone.
use Rattle.std.specs.Prelude.{◌≡◌, ℕ, List, ◌++◌, Some, None, Result, Ok, Err}
use Rattle.std.specs.declared.option.Option.{Option}
use Rattle.rtx_tree.specs.declared.function.Function.{Function}
use Rattle.lisp_read.specs.declared.tree.Tree.{Tree}
use Rattle.lisp_read.specs.Reading.{Trees}
use Rattle.lisp_read.specs.Parsed.{stands}
use Rattle.rtl_read.specs.Syntax.{functions_in}
use Rattle.run_refusal.specs.declared.refusal.Refusal.{Refusal}
use Rattle.run_refusal.specs.declared.refusal.Refusal.TheVariants as refusal
use Rattle.func_input.specs.Input.{ReadingComesTo, AreThemselves, RefusesWith}
use Rattle.func_input.specs.Outcome.{Outcome}

-- a refusal was made, or memory ran out for it
abbrev pub IsOrMemory : Refusal → Refusal → Type 0
IsOrMemory refusal.Memory e = Unit {0}
IsOrMemory made e = made ≡ e

-- a call gave the functions, or told the construct
abbrev pub Parses : List Tree → Result (List Function) Refusal → Type 0
Parses trees (Ok functions) = functions_in trees ≡ stands functions
Parses trees (Err e) = RefusesWith e (ReadingComesTo AreThemselves (Trees trees))

-- what is told is that there is something to refuse
abbrev pub TellsOf : Option Refusal → Result (Unit {0}) Refusal → Type 0
TellsOf o told = (r : Refusal) × (o ≡ Some r) × (told ≡ Err r)

-- a call found nothing to refuse, or told it
abbrev pub Checked : Result (Unit {0}) Refusal → Option Refusal → Type 0
Checked (Ok done) o = o ≡ None
Checked (Err e) o = RefusesWith e (TellsOf o)

-- a call appended a text that has a property, or it refused
abbrev pub AppendedSome : {A : Type 0} →
    List ℕ → List ℕ → Result A Refusal → (Outcome → Type 0) → Type 0
AppendedSome old new (Ok x) P = (text : List ℕ) × P (Ok text) × (new ≡ old ++ text)
AppendedSome old new (Err e) P = RefusesWith e P

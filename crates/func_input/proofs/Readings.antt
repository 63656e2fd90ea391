-- What the readings of bytes give.
use Rattle.std.proofs.Common.{◌≡◌, ◌+◌, ◌≤◌, ℕ, length, List, Result, Ok, Err, codes}
use Rattle.std.specs.Prelude.{IfErr}
use Rattle.rtx_tree.specs.declared.place.Place.{Place}
use Rattle.rtx_tree.specs.declared.function.Function.{Function}
use Rattle.rtx_tree.specs.declared.limit.Limit.TheVariants as limit
use Rattle.lisp_read.specs.declared.tree.Tree.{Tree}
use Rattle.lisp_read.specs.Reading.{ReadsAs, Trees, Syntax, Depth}
use Rattle.rtx_tree.specs.Limit.{most_open, most_bytes}
use Rattle.lisp_read.specs.Parsed.{stands}
use Rattle.rtl_read.specs.Syntax.{functions_in}
use Rattle.run_refusal.specs.declared.refusal.Refusal.{Refusal}
use Rattle.run_refusal.specs.declared.refusal.Refusal.TheVariants as refusal
use Rattle.func_input.specs.Input.{IsRead, ReadingComesTo, InputComesTo, AreThemselves, InputGives, RefusesWith, Reads}
use Rattle.func_input.specs.machine.Steps.{IsOrMemory, Parses}
use Rattle.func_input.proofs.Refusing.{refuses_map, made_refuses}
use Rattle.func_input.proofs.Unread.{no_functions}

-- the refusal that was made for a place where the bytes stop being a text
pub syntax_refused : (bytes : List ℕ) (place : Place) (e : Refusal) → length bytes ≤ most_bytes → IsOrMemory e (refusal.Syntax (codes "-") place) → ReadsAs bytes (Syntax place) → RefusesWith e (InputGives bytes)
syntax_refused bytes place e within is r =
    made_refuses e (refusal.Syntax (codes "-") place) (InputGives bytes) (InputComesTo.read (Syntax place) (Err (refusal.Syntax (codes "-") place)) within r (ReadingComesTo.syntax place)) is

-- a place where the bytes go too deep
pub depth_refused : (bytes : List ℕ) (place : Place) → length bytes ≤ most_bytes → ReadsAs bytes (Depth place) → InputGives bytes (Err (refusal.Limit limit.Depth (most_open + 1)))
depth_refused bytes place within r = InputComesTo.read (Depth place) (Err (refusal.Limit limit.Depth (most_open + 1))) within r (ReadingComesTo.depth place)

-- what was parsed of the trees, is read of the bytes
pub parsed_reads : (bytes : List ℕ) (trees : List Tree) (result : Result (List Function) Refusal) → length bytes ≤ most_bytes → ReadsAs bytes (Trees trees) → Parses trees result → Reads bytes result
parsed_reads bytes trees (Ok functions) within reads stand = record { within = within; trees = trees; reads = reads; stand = stand }
parsed_reads bytes trees (Err e) within reads h =
    refuses_map e (ReadingComesTo AreThemselves (Trees trees)) (InputGives bytes) (λ e comes. InputComesTo.read (Trees trees) (Err e) within reads comes) h

-- where nothing was parsed, nothing is read
abbrev pub Unparsed : List Tree → Refusal → Type 0
Unparsed trees e = (e ≡ refusal.Memory → ⊥) → (functions : List Function) → functions_in trees ≡ stands functions → ⊥

pub unparsed_unread : (bytes : List ℕ) (trees : List Tree) (result : Result (List Function) Refusal) → ReadsAs bytes (Trees trees) → IfErr result (Unparsed trees) →
    IfErr result (λ e. (e ≡ refusal.Memory → ⊥) → (functions : List Function) → IsRead bytes functions → ⊥)
unparsed_unread bytes trees (Ok functions) reads h = tt
unparsed_unread bytes trees (Err e) reads h = λ other functions read. no_functions bytes trees functions reads (h other) read

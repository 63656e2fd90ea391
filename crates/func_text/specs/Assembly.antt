-- The assembly of functions by a description: for each function, in order and numbered from 0, what
-- it comes to at output, with a summary of all.
use Rattle.std.specs.Prelude.{◌<◌, ◌^◌, ℕ, ◌+◌, List, [], ◌∷◌, ◌++◌, length, Result, Ok, Err}
use Rattle.rtx_tree.specs.declared.function.Function.{Function}
use Rattle.pass_name.specs.declared.pass.Pass.TheVariants.{Output}
use Rattle.run_refusal.specs.declared.refusal.Refusal.{Refusal}
use Rattle.pass_name.specs.declared.road.Road.{Road}
use Rattle.md_forms.specs.declared.form.Entry.{Entry}
use Rattle.func_after.specs.After.{AfterComes, refused_for}
use Rattle.func_after.specs.declared.compilation.Compilation.{Compilation}
use Rattle.asm_out.specs.declared.piece.Piece.{Piece}
use Rattle.asm_out.specs.Comes as out
use Rattle.asm_out.specs.Outcome as out_of
use Rattle.func_text.specs.declared.assembly.Assembly.{Assembly}
use Rattle.func_text.specs.Summary as summaries
use Rattle.func_text.specs.Summary.{summary_of, plus}

-- ---- assemblies

abbrev pub nothing : Assembly
nothing = record { text = []; parts = []; summary = summaries.empty }

-- the assembly of one function, with what the passes made of it
abbrev pub alone : Function → Compilation → Piece → Assembly
alone f m piece = record { text = piece.text; parts = piece.items ∷ []; summary = summary_of f m piece.items }

-- an assembly and another behind it
abbrev pub joined : Assembly → Assembly → Assembly
joined a b = record { text = a.text ++ b.text; parts = a.parts ++ b.parts; summary = plus a.summary b.summary }

-- an assembly, or the first refusal on the way to it
abbrev pub Outcome : Type 0
Outcome = Result Assembly Refusal

abbrev pub outcome_behind : Assembly → Outcome → Outcome
outcome_behind a (Ok rest) = Ok (joined a rest)
outcome_behind a (Err e) = Err e

-- ---- one function

-- what a function comes to with what it comes to at output: its text with its lines and labels, and
-- its summary; or the refusal of the run
abbrev pub told_for : Function → Compilation → out_of.Outcome → Outcome
told_for f m (Ok piece) = Ok (alone f m piece)
told_for f m (Err e) = Err (refused_for f.name Output e)

-- What a function with a number comes to behind a text of a size: what refuses it before output, or
-- else what it comes to there.
pub data FunctionComes (forms : List Entry) (road : Road) (number size : ℕ) (f : Function) : Outcome → Type 0 where
  refused : (e : Refusal) → AfterComes forms road f (Err e) → FunctionComes forms road number size f (Err e)
  written : (m : Compilation) (o : out_of.Outcome) → AfterComes forms road f (Ok m) →
      out.FunctionComes forms number m.function size o →
      FunctionComes forms road number size f (told_for f m o)

-- ---- all

-- What some functions come to behind a text of a size, where the first has a number: their texts in
-- order, or the first refusal. A function's number has 32 bits.
pub data AreWritten (forms : List Entry) (road : Road) : ℕ → ℕ → List Function → Outcome → Type 0 where
  none : (number size : ℕ) → AreWritten forms road number size [] (Ok nothing)
  refused : (number size : ℕ) (f : Function) (functions : List Function) (e : Refusal) →
      FunctionComes forms road number size f (Err e) →
      AreWritten forms road number size (f ∷ functions) (Err e)
  goes_on : (number size : ℕ) (f : Function) (functions : List Function) (one : Assembly) (rest : Outcome) → number < 2 ^ 32 →
      FunctionComes forms road number size f (Ok one) → AreWritten forms road (number + 1) (size + length one.text) functions rest →
      AreWritten forms road number size (f ∷ functions) (outcome_behind one rest)

-- the assembly of some functions, or the first refusal
abbrev pub AssemblyComes : List Entry → Road → List Function → Outcome → Type 0
AssemblyComes forms road = AreWritten forms road 0 0

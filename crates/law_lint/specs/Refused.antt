-- What is told as wrong is refused at output: the instruction of such an instance comes to no text
-- in a function with number 0 where the registers that are live behind it are those over which it
-- was compared.
use Rattle.std.specs.Prelude.{◌≡◌, ℕ, true, List, Ok}
use Rattle.rtx_tree.specs.declared.function.Function.{Function}
use Rattle.rtx_tree.specs.declared.function.Insn.{Insn}
use Rattle.md_forms.specs.declared.form.Entry.{Entry}
use Rattle.live.specs.Live.{AreLiveAfter}
use Rattle.form_needs.specs.Needs.{needs_form}
use Rattle.asm_out.specs.declared.piece.Piece.{Piece}
use Rattle.asm_out.specs.Comes.{PlaceComes}
use Rattle.lint_judge.specs.Judged.{AreAllLive}
use Rattle.lint_judge.specs.declared.judged.Judged.{Judged}
use Rattle.lint_tried.specs.declared.instance.Instance.{Instance}
use Rattle.lint_told.specs.Told.{IsWrong}

-- the registers of the machine but `zero` are live behind a place, and no other
abbrev pub HasAllLive : Function → ℕ → Type 0
HasAllLive f place = (live : List ℕ) → AreLiveAfter f place live → AreAllLive live

-- an instruction comes to no text at a place of a function with number 0
abbrev pub HasNoText : List Entry → Function → ℕ → Insn → Type 0
HasNoText forms f place i = (piece : Piece) → PlaceComes forms 0 f place i (Ok piece) → ⊥

-- the instruction of an instance that is wrong has none, where it asks for a form
abbrev pub WrongIsRefused : Type 0
WrongIsRefused = (forms : List Entry) (form alternative : ℕ) (instance : Instance) (judged : Judged) →
    IsWrong forms form alternative instance judged → needs_form instance.insn ≡ true →
    (f : Function) (place : ℕ) → HasAllLive f place → HasNoText forms f place instance.insn

-- What is written of a function: its frame of lines, and in it for each label its line, and for
-- each instruction that needs a form the filled template of the first that counts, the lines of
-- which are equated with the instruction over what is live behind it.
use Rattle.std.specs.Prelude.{◌≡◌, ◌<◌, ◌^◌, ℕ, ◌+◌, true, List, [], ◌∷◌, ◌++◌, map}
use Rattle.std.specs.List.{AllZip}
use Rattle.rtx_tree.specs.declared.function.Insn.{Insn}
use Rattle.rtx_tree.specs.declared.function.Function.{Function}
use Rattle.rv_text.specs.Text.{IsTextOf}
use Rattle.rv_text.specs.declared.line.Line.{Line}
use Rattle.rv_text.specs.declared.line.CodeItem.{CodeItem}
use Rattle.rv_text.specs.declared.line.CodeItem.TheVariants as item
use Rattle.md_forms.specs.declared.form.Entry.{Entry}
use Rattle.md_desc.specs.declared.output.Chosen.{Chosen}
use Rattle.md_output.specs.Filled.{lines_of}
use Rattle.form_needs.specs.Needs.{is_label, is_silent}
use Rattle.pass_refusal.specs.equate.Side.{Lines}
use Rattle.pass_refusal.specs.equate.Equated.{Equated}
use Rattle.asm_out.specs.declared.piece.Piece.{Piece}
use Rattle.asm_out.specs.Frame.{framed, label_line}
use Rattle.asm_out.specs.Filled.{text_of, written}
use Rattle.asm_out.specs.Comes.{IsTried}

-- the lines of an instruction at a place of a function: those of the filled template of the first
-- form that counts, with the lowest enabled alternative that fits; and they are equated with the
-- instruction over the registers that are live behind it
pub record AreInsnLines (forms : List Entry) (number : ℕ) (f : Function) (place : ℕ) (i : Insn)
    (c : Chosen) (lines : List Line) : Type 0 where
  pub live : List ℕ
  pub tried : IsTried forms number f place i c lines live
  pub spelled : AllZip IsTextOf (lines_of (text_of forms number i c)) lines
  pub equated : Equated (i ∷ []) (Lines number lines) live

-- the text and the items of the rest of a function's chain from a place on
pub data AreWritten (forms : List Entry) (number : ℕ) (f : Function) : ℕ → List Insn → List ℕ → List CodeItem → Type 0 where
  none : (place : ℕ) → AreWritten forms number f place [] [] []
  label : (place : ℕ) (i : Insn) (insns : List Insn) (text : List ℕ) (items : List CodeItem) →
      is_label i.kind ≡ true → i.uid < 2 ^ 32 →
      AreWritten forms number f (place + 1) insns text items →
      AreWritten forms number f place (i ∷ insns) (label_line number i.uid ++ text) (item.Label number i.uid ∷ items)
  silent : (place : ℕ) (i : Insn) (insns : List Insn) (text : List ℕ) (items : List CodeItem) →
      is_silent i ≡ true →
      AreWritten forms number f (place + 1) insns text items → AreWritten forms number f place (i ∷ insns) text items
  lines : (place : ℕ) (i : Insn) (insns : List Insn) (c : Chosen) (lines : List Line) (text : List ℕ) (items : List CodeItem) →
      AreInsnLines forms number f place i c lines → AreWritten forms number f (place + 1) insns text items →
      AreWritten forms number f place (i ∷ insns) (written (text_of forms number i c) ++ text) (map item.Code lines ++ items)

-- a text and its items are those of a function with a number
pub record IsWritten (forms : List Entry) (number : ℕ) (f : Function) (piece : Piece) : Type 0 where
  pub body : List ℕ
  pub framed_is : piece.text ≡ framed f.name body
  pub are : AreWritten forms number f 0 f.insns body piece.items

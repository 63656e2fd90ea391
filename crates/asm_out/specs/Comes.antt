-- What a function comes to at output: a text with the items that it spells, or the first refusal.
-- GCC Internals, "Pattern Ordering" (the first match), "Multiple Alternative Constraints" and
-- "Output Template".
use Rattle.std.specs.Prelude.{◌≡◌, ◌<◌, ◌^◌, ℕ, ◌+◌, true, List, [], ◌∷◌, ◌++◌, length, map, nat_le, if◌then◌else◌, Some, Ok, Err}
use Rattle.rtx_tree.specs.declared.function.Insn.{Insn}
use Rattle.rtx_tree.specs.declared.function.Function.{Function}
use Rattle.rv_text.specs.declared.line.Line.{Line}
use Rattle.rv_text.specs.declared.line.CodeItem.TheVariants as item
use Rattle.live.specs.Live.{AreLiveAfter}
use Rattle.md_forms.specs.declared.form.Entry.{Entry}
use Rattle.md_forms.specs.Forms.{names_of}
use Rattle.md_desc.specs.declared.output.Chosen.{Chosen}
use Rattle.md_desc.specs.Recog.{IsChosen, NoneMatchesOut}
use Rattle.pass_refusal.specs.form_needs.Needs.{is_label, is_silent, needs_form, output_facts, name_at}
use Rattle.pass_refusal.specs.equate.Side.{Lines}
use Rattle.pass_refusal.specs.equate.Equated.{verdict, Equated}
use Rattle.asm_out.specs.declared.piece.Piece.{Piece}
use Rattle.pass_refusal.specs.declared.refusal.PassRefusal.{PassRefusal}
use Rattle.pass_refusal.specs.Refused.{unmatched_insn, refused_by}
use Rattle.asm_out.specs.Frame.{opening_lines, closing_line, label_line}
use Rattle.asm_out.specs.Filled.{text_of, written, AreLinesOf}
use Rattle.asm_out.specs.Refused.{too_long}
use Rattle.rtx_tree.specs.Limit.{most_output}
use Rattle.asm_out.specs.Outcome.{Outcome, only_text, nothing, outcome_behind}

-- ---- instructions

-- what is compared for an instruction at a place: the form that is chosen for it, the lines of its
-- text, and the registers that are live behind it
pub record IsTried (forms : List Entry) (number : ℕ) (f : Function) (place : ℕ) (i : Insn)
    (c : Chosen) (lines : List Line) (live : List ℕ) : Type 0 where
  pub needs : needs_form i ≡ true
  pub chosen : IsChosen forms output_facts i.pattern c
  pub read : AreLinesOf (text_of forms number i c) lines
  pub live_after : AreLiveAfter f place live

-- the text that is written for an instruction, with its lines
abbrev pub code_piece : List Entry → ℕ → Insn → Chosen → List Line → Piece
code_piece forms number i c lines = record { text = written (text_of forms number i c); items = map item.Code lines }

abbrev pub label_piece : ℕ → ℕ → Piece
label_piece number uid = record { text = label_line number uid; items = item.Label number uid ∷ [] }

-- What an item at a place of a function's chain comes to. A label has its line; a barrier, and a
-- use or a clobber alone, nothing; an instruction the lines of the first form that counts, where
-- they are equated with it over the registers that are live behind it.
pub data PlaceComes (forms : List Entry) (number : ℕ) (f : Function) (place : ℕ) (i : Insn) : Outcome → Type 0 where
  label : is_label i.kind ≡ true → i.uid < 2 ^ 32 →
      PlaceComes forms number f place i (Ok (label_piece number i.uid))
  silent : is_silent i ≡ true → PlaceComes forms number f place i (Ok nothing)
  unmatched : needs_form i ≡ true →
      NoneMatchesOut forms output_facts i.pattern →
      PlaceComes forms number f place i (Err (unmatched_insn i))
  refused : (c : Chosen) (lines : List Line) (live : List ℕ) (e : PassRefusal) →
      IsTried forms number f place i c lines live →
      refused_by i.uid (name_at (names_of forms) c.form) (verdict (i ∷ []) (Lines number lines) live) ≡ Some e →
      PlaceComes forms number f place i (Err e)
  equated : (c : Chosen) (lines : List Line) (live : List ℕ) →
      IsTried forms number f place i c lines live →
      Equated (i ∷ []) (Lines number lines) live →
      PlaceComes forms number f place i (Ok (code_piece forms number i c lines))

-- ---- functions

-- the parts of a function's text: the lines before its instructions, what stands at each place of
-- its chain, and the line behind them
pub data Part : Type 0 where
  Opening : Part
  Place : ℕ → Insn → Part
  Closing : Part

abbrev pub places_from : ℕ → List Insn → List Part
places_from place [] = []
places_from place (i ∷ insns) = Place place i ∷ places_from (place + 1) insns

abbrev pub parts_of : Function → List Part
parts_of f = Opening ∷ (places_from 0 f.insns ++ Closing ∷ [])

abbrev pub PartComes : List Entry → ℕ → Function → Part → Outcome → Type 0
PartComes forms number f Opening o = o ≡ Ok (only_text (opening_lines f.name))
PartComes forms number f (Place place i) o = PlaceComes forms number f place i o
PartComes forms number f Closing o = o ≡ Ok (only_text (closing_line f.name))

-- behind a text of a size: no longer than an assembly may be
abbrev pub limited : ℕ → Outcome → Outcome
limited size (Ok piece) =
    if nat_le (size + length piece.text) most_output then Ok piece else Err too_long
limited size (Err e) = Err e

-- what parts come to behind a text of a size: their pieces in order, or the first refusal
pub data PartsCome (comes : Part → Outcome → Type 0) : ℕ → List Part → Outcome → Type 0 where
  none : (size : ℕ) → PartsCome comes size [] (Ok nothing)
  refused : (size : ℕ) (p : Part) (parts : List Part) (o : Outcome) (e : PassRefusal) → comes p o →
      limited size o ≡ Err e →
      PartsCome comes size (p ∷ parts) (Err e)
  goes_on :
      (size : ℕ) (p : Part) (parts : List Part) (o : Outcome) (piece : Piece) (rest : Outcome) →
      comes p o →
      limited size o ≡ Ok piece → PartsCome comes (size + length piece.text) parts rest →
      PartsCome comes size (p ∷ parts) (outcome_behind piece rest)

-- what a function with a number comes to behind a text of a size
abbrev pub FunctionComes : List Entry → ℕ → Function → ℕ → Outcome → Type 0
FunctionComes forms number f size = PartsCome (PartComes forms number f) size (parts_of f)

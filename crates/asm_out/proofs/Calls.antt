-- What the calls have done, from what their parts did.
use Rattle.std.proofs.Common.{◌≡◌, ℕ, ◌+◌, true, false, map, List, ◌∷◌, [], ◌++◌, length, Ok, Err, sym, ap, subst, ◌∙◌}
use Rattle.std.specs.Prelude.{if◌then◌else◌, nat_le}
use Rattle.rtx_tree.specs.declared.function.Insn.{Insn}
use Rattle.rtx_tree.specs.declared.function.Function.{Function}
use Rattle.rv_text.specs.declared.line.Line.{Line}
use Rattle.rv_text.specs.declared.line.CodeItem.{CodeItem}
use Rattle.rv_text.specs.declared.line.CodeItem.TheVariants as item
use Rattle.md_forms.specs.declared.form.Entry.{Entry}
use Rattle.md_forms.specs.Forms.{names_of}
use Rattle.md_desc.specs.declared.output.Chosen.{Chosen}
use Rattle.form_needs.specs.Needs.{name_at}
use Rattle.pass_refusal.specs.equate.Side.{Lines}
use Rattle.pass_refusal.specs.equate.Equated.{verdict, Equated}
use Rattle.asm_out.specs.declared.piece.Piece.{Piece}
use Rattle.pass_refusal.specs.declared.refusal.PassRefusal.{PassRefusal}
use Rattle.asm_out.specs.Filled.{text_of, written}
use Rattle.pass_refusal.specs.Refused.{unmatched_insn}
use Rattle.pass_refusal.specs.Outcome.{RefusesWith}
use Rattle.asm_out.specs.Refused.{too_long}
use Rattle.rtx_tree.specs.Limit.{most_output}
use Rattle.asm_out.specs.Outcome.{Outcome, Appends}
use Rattle.asm_out.specs.Comes.{IsTried, PlaceComes, code_piece, limited}
use Rattle.pass_refusal.specs.machine.Steps.{IsRefusal}
use Rattle.pass_refusal.proofs.Refusing.{refuses_map}

-- a piece that is too long
pub piece_too_long : (size : ℕ) (piece : Piece) (e : PassRefusal) → e ≡ too_long → nat_le (size + length piece.text) most_output ≡ false → RefusesWith e (λ o. o ≡ limited size (Ok piece))
piece_too_long size piece e is past =
    subst (λ (e : PassRefusal). RefusesWith e (λ o. o ≡ limited size (Ok piece))) (sym is) (ap (λ b. if b then Ok piece else Err too_long) (sym past))

-- and one that is not
pub piece_appended : (t t' : List ℕ) (i i' : List CodeItem) (piece : Piece) → nat_le (length t + length piece.text) most_output ≡ true → t' ≡ t ++ piece.text → i' ≡ i ++ piece.items →
    Appends {A = Unit {0}} t t' i i' (Ok tt) (λ o. o ≡ limited (length t) (Ok piece))
piece_appended t t' i i' piece room text items = (piece, ap (λ b. if b then Ok piece else Err too_long) (sym room), text, items)

-- an instruction for which no form counts
pub told_unmatched : (i : Insn) (e : PassRefusal) (P : Outcome → Type 0) → e ≡ unmatched_insn i → P (Err (unmatched_insn i)) → RefusesWith e P
told_unmatched i e P is holds = subst (λ (e : PassRefusal). RefusesWith e P) (sym is) holds

module _ (forms : List Entry) (number : ℕ) (f : Function) (place : ℕ) (i : Insn) (c : Chosen) (lines : List Line) (live : List ℕ) (tried : IsTried forms number f place i c lines live) where
  -- a comparison that fails
  pub judged_wrong : (e : PassRefusal) → RefusesWith e (IsRefusal i.uid (name_at (names_of forms) c.form) (verdict (i ∷ []) (Lines number lines) live)) → RefusesWith e (PlaceComes forms number f place i)
  judged_wrong e r = refuses_map e (IsRefusal i.uid (name_at (names_of forms) c.form) (verdict (i ∷ []) (Lines number lines) live)) (PlaceComes forms number f place i) (λ e is. PlaceComes.refused c lines live e tried is) r

  -- and one that does not
  pub judged_same : (piece : Piece) → Equated (i ∷ []) (Lines number lines) live → piece ≡ code_piece forms number i c lines → PlaceComes forms number f place i (Ok piece)
  judged_same piece same is = subst (λ (p : Piece). PlaceComes forms number f place i (Ok p)) (sym is) (PlaceComes.equated c lines live tried same)

-- the piece of an instruction, by its text and its lines
pub code_piece_is : (forms : List Entry) (number : ℕ) (i : Insn) (c : Chosen) (lines ls : List Line) (t : List ℕ) (piece : Piece) →
    piece ≡ record { text = written t; items = map item.Code ls } → t ≡ text_of forms number i c → ls ≡ lines → piece ≡ code_piece forms number i c lines
code_piece_is forms number i c lines ls t piece is texts same =
    is ∙ (ap (λ (t : List ℕ). record { text = written t; items = map item.Code ls }) texts ∙ ap (λ (ls : List Line). record { text = written (text_of forms number i c); items = map item.Code ls }) same)

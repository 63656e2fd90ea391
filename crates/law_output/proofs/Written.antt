-- What is written of a function whose registers have homes has its behaviour.
use Rattle.std.proofs.Common.{◌≡◌, ℕ, ◌+◌, List, Some, subst, arith}
use Rattle.std.specs.Prelude.{slice_get}
use Rattle.rtx_tree.specs.declared.function.Function.{Function}
use Rattle.md_forms.specs.declared.form.Entry.{Entry}
use Rattle.asm_out.specs.declared.piece.Piece.{Piece}
use Rattle.asm_out.specs.Written.{IsWritten}
use Rattle.law_window_lines.specs.Items.{AreItems}
use Rattle.law_window_lines.specs.Left.{SameWhereLeft}
use Rattle.law_window_lines.proofs.Left.{items_are_same_where_left}
use Rattle.law_pass_needs.proofs.Places.{at_place}
use Rattle.law_output.specs.Ready.{IsInsnWritable, AreWritable}
use Rattle.law_output.proofs.Places.{items_from}

pub written_is_same : (forms : List Entry) (number : ℕ) (f : Function) (piece : Piece) → AreWritable f → IsWritten forms number f piece →
    SameWhereLeft f piece.items
written_is_same forms number f piece ready written =
    let items : AreItems number f piece.items = items_from forms number f ready 0 f.insns written.body piece.items written.are
    (λ k i at. let from_first : k ≡ 0 + k = omega arith in subst (λ n. slice_get f.insns n ≡ Some i) from_first at) in
    items_are_same_where_left number f piece.items
    (λ place reg i at mark. (at_place IsInsnWritable f.insns ready place i at).marks mark reg)
    (λ place i at. (at_place IsInsnWritable f.insns ready place i at).named) items

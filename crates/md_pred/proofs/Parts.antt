-- Questions and their parts, by their places in the row.
use Rattle.std.proofs.Common.{◌≡◌, ℕ, ◌<◌, ◌≤◌, false, List, length, take, get_or, sym, ap, subst, arith}
use Rattle.std.proofs.lemmas.List.{length-take-le}
use Rattle.rtx_tree.specs.declared.code.Mode.{Mode}
use Rattle.rtx_tree.specs.declared.tree.Rtx.{Rtx}
use Rattle.pred_rows.specs.declared.node.Node.{Node}
use Rattle.pred_rows.specs.Tests.{Accepts}
use Rattle.pred_rows.specs.machine.Rows.{answer_at, answers, holds_at, node_answer}
use Rattle.pred_rows.proofs.Answering.{holds_still, holds_here, holds_nowhere}

module _ (other : Accepts) (x : Rtx) (m : Mode) (rows : List Node) where
  -- a part that stands before its question
  pub part_before : (at place : ℕ) → place < at → at ≤ length rows → holds_at other x m rows place ≡ answer_at (answers other x m (take at rows)) place
  part_before at place before within =
      let long : length (take at rows) ≡ at = length-take-le at rows within in
      holds_still other x m (take at rows) rows place (ap (λ (n : ℕ). take n rows) long) (omega (arith, long, before))

  -- at any other place there is none
  pub no_part : (at place : ℕ) → at ≤ place → at ≤ length rows → false ≡ answer_at (answers other x m (take at rows)) place
  no_part at place behind within =
      let long : length (take at rows) ≡ at = length-take-le at rows within in
      sym (holds_nowhere other x m (take at rows) place (omega (arith, long, behind)))

  -- the question there, by the row as it was read
  pub question_there : (at : ℕ) (n : Node) (nodes : List Node) → nodes ≡ rows → at < length nodes → n ≡ get_or nodes at n → node_answer other x m (answers other x m (take at rows)) n ≡ holds_at other x m rows at
  question_there at n nodes read within is =
      let inside : at < length rows = subst (λ (ns : List Node). at < length ns) read within in
      let there : n ≡ get_or rows at n = subst (λ (ns : List Node). n ≡ get_or ns at n) read is in
      sym (holds_here other x m rows at n inside there)

  -- there is none
  pub none_there : (at : ℕ) (nodes : List Node) → nodes ≡ rows → length nodes ≤ at → false ≡ holds_at other x m rows at
  none_there at nodes read past =
      let behind : length rows ≤ at = subst (λ (ns : List Node). length ns ≤ at) read past in
      sym (holds_nowhere other x m rows at behind)

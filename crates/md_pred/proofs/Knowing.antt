-- What is known of a table's questions.
use Rattle.std.proofs.Common.{◌≡◌, ℕ, zero, suc, ◌+◌, ◌<◌, ◌≤◌, false, List, Option, Some, None, length, get_or, sym, ◌∙◌, arith}
use Rattle.std.specs.Option.{IfSome}
use Rattle.rtx_tree.specs.declared.code.Mode.{Mode}
use Rattle.rtx_tree.specs.declared.tree.Rtx.{Rtx}
use Rattle.md_operand.specs.Operand.{built_in_named}
use Rattle.pred_rows.specs.declared.node.Node.{Node}
use Rattle.md_pred.specs.declared.answers.Answers.{Answers}
use Rattle.md_pred.specs.declared.definitions.Definition.{Definition}
use Rattle.md_pred.specs.declared.table.PredTable.{PredTable}
use Rattle.md_pred.specs.machine.Known.{answer_in, AreAnswers, at_place, part_at, node_at, named_by, defined_by}
use Rattle.md_pred.specs.machine.Table.{definition_in}
use Rattle.md_pred.proofs.Parts.{part_before, no_part, question_there}
use Rattle.md_pred.proofs.Asking.{asked_once_more}
use Rattle.md_pred.specs.machine.Steps.{asked_within}

-- ---- parts of a question

module _ (table : PredTable) (x : Rtx) where
  pub part_known : (at place : ℕ) (o : Option Answers) → place < at → at < length table.definitions.rows → IfSome o (AreAnswers (at_place table x place)) → IfSome o (AreAnswers (part_at table x at place))
  part_known at place None before within is = tt
  part_known at place (Some a) before within is = λ rounds m so.
      sym (part_before (asked_within table rounds) x m table.definitions.rows at place before (omega (arith, within))) ∙ is rounds m so

  pub none_known : (at place : ℕ) (a : Answers) → at ≤ place → at < length table.definitions.rows → ((m : Mode) → answer_in a m ≡ false) → AreAnswers (part_at table x at place) a
  none_known at place a behind within is = λ rounds m so.
      sym (no_part (asked_within table rounds) x m table.definitions.rows at place behind (omega (arith, within))) ∙ sym (is m)

  -- ---- predicates

  pub defined_known : (name : List ℕ) (d : Option Definition) (a : Answers) (o : Option Answers) → built_in_named name ≡ None → d ≡ definition_in table.definitions name → AreAnswers (defined_by table x d) a
      → IfSome o (λ b. (b.rounds ≡ a.rounds + 1) × ((m : Mode) → answer_in b m ≡ answer_in a m)) → IfSome o (AreAnswers (named_by table x name))
  defined_known name d a None none found are is = tt
  defined_known name d a (Some b) none found are is = by
    where
      by : AreAnswers (named_by table x name) b
      by zero m so = absurd (omega (arith, so, is.0))
      by (suc rounds) m so = asked_once_more table.definitions rounds name x m d none found ∙ are rounds m (omega (arith, so, is.0)) ∙ sym (is.1 m)

  -- ---- the question at a place, by its node

  pub question_known : (place : ℕ) (n : Node) (nodes : List Node) (o : Option Answers) → nodes ≡ table.definitions.rows → place < length nodes → n ≡ get_or nodes place n
      → IfSome o (AreAnswers (node_at table x place n)) → IfSome o (AreAnswers (at_place table x place))
  question_known place n nodes None read within is are = tt
  question_known place n nodes (Some a) read within is are = λ rounds m so.
      sym (question_there (asked_within table rounds) x m table.definitions.rows place n nodes read within is) ∙ are rounds m so

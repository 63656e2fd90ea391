use Rattle.std.proofs.Common.{◌≡◌, Some, w64, to_z, of_z, ap, sym, ◌∙◌, rules}
use Rattle.std.proofs.lemmas.Int.{to_z-of_z}
use Rattle.rtx_tree.specs.Tree.{head_of}
use Rattle.lint_tried.specs.Trial.{operand_number}
use Rattle.lint_tried.specs.machine.Views.{trial_of}
use Rattle.lint_tried.proofs.TakenLaws.{numbered_takes}
use Rattle.lint_tried.proofs.trial.Trial.constraint_takes.Goals as goal

pub returns-in-Some : goal.returns-in-Some
returns-in-Some c =
    let number : to_z w64 (of_z w64 (head_of c.args.placeholder.now).number) ≡ (head_of c.args.placeholder.now).number = search (rules, to_z-of_z) in
    let some : operand_number (head_of c.args.placeholder.now).number ≡ Some c.in-Some.number = ap operand_number (sym number) ∙ sym c.in-Some.ensures in
    numbered_takes (trial_of c.args.self.now) c.args.placeholder.now c.args.x.now c.in-Some.number c.new-nothing.result c.operand_admits.result some c.new-nothing.ensures c.operand_admits.ensures

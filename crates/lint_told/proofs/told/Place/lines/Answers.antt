use Rattle.lint_told.proofs.ComesLaws.{is_printed}
use Rattle.lint_told.proofs.told.Place.lines.Goals as goal

pub returns : goal.returns
returns c =
    c.outcome_of.ensures c.args.self.now.description.now c.args.self.now.form c.args.self.now.alternative c.args.instance.now
    (is_printed c.args.self.now.description.now c.args.self.now.form c.args.self.now.alternative c.args.instance.now c.args.chosen.now c.args.self.now.says.now c.in_ok-judged.judged
    c.requires.reached (c.in_ok-is_split.ensures.kept c.if-branch.false) c.requires.says c.in_ok-judged.ensures)

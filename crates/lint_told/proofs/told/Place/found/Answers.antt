use Rattle.std.proofs.Common.{◌<◌, length, arith, subst}
use Rattle.lint_told.specs.Told.{IsWrong, IsRight, IsElsewhere}
use Rattle.lint_told.specs.machine.Steps.{Comes}
use Rattle.lint_told.proofs.ToldLaws.{wrong_at, goes_on_at, passes_at}
use Rattle.lint_told.proofs.told.Place.found.Goals as goal
use Rattle.lint_told.proofs.told.Place.found.Goals.{in-Elsewhere, in-Right}

pub returns-in-Wrong : goal.returns-in-Wrong
returns-in-Wrong c =
    let within : c.loop-at.at < length c.args.instances.now = omega arith in
    let wrong : IsWrong c.args.self.now.description.now c.args.self.now.form c.args.self.now.alternative c.index-instances-at.result c.in-Wrong.judged =
    subst (Comes c.args.self.now.description.now c.args.self.now.form c.args.self.now.alternative c.index-instances-at.result) c.in-Wrong.is c.in_ok-outcome.ensures in (
      within,
      wrong_at c.args.self.now.description.now c.args.self.now.form c.args.self.now.alternative c.args.instances.now c.loop-at.at c.index-instances-at.result c.loop-at.is_reached c.in-Wrong.judged
          within c.index-instances-at.is wrong c.loop-at.invariant,
    )

pub loop-at-preserved : goal.loop-at-preserved
loop-at-preserved c =
    let within : c.loop-at.at < length c.args.instances.now = omega arith in
    elim c.match-branch-2.branch [
      | in-Elsewhere w ↦ (
          let other : IsElsewhere c.args.self.now.description.now c.args.self.now.form c.args.self.now.alternative c.index-instances-at.result =
          subst (Comes c.args.self.now.description.now c.args.self.now.form c.args.self.now.alternative c.index-instances-at.result) w.in-Elsewhere.is c.in_ok-outcome.ensures in
          rw w.is_reached-is (passes_at c.args.self.now.description.now c.args.self.now.form c.args.self.now.alternative c.args.instances.now c.loop-at.at c.index-instances-at.result c.loop-at.is_reached
          within c.index-instances-at.is other c.loop-at.invariant))
      | in-Right w ↦ (
          let fine : IsRight c.args.self.now.description.now c.args.self.now.form c.args.self.now.alternative c.index-instances-at.result =
          subst (Comes c.args.self.now.description.now c.args.self.now.form c.args.self.now.alternative c.index-instances-at.result) w.in-Right.is c.in_ok-outcome.ensures in
          rw w.is_reached-is (goes_on_at c.args.self.now.description.now c.args.self.now.form c.args.self.now.alternative c.args.instances.now c.loop-at.at c.index-instances-at.result c.loop-at.is_reached
          within c.index-instances-at.is fine c.loop-at.invariant))
    ]

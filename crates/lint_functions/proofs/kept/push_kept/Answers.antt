use Rattle.std.proofs.Common.{◌≡◌, ◌++◌, map, rules}
use Rattle.lint_choices.proofs.PushedLaws.{pushed_three}
use Rattle.lint_functions.specs.Functions as spec
use Rattle.lint_functions.proofs.kept.push_kept.Goals as goal

pub returns : goal.returns
returns c =
    let loads : c.push_loads.new.out ≡ c.args.out.now ++ map (spec.load c.args.mode) spec.kept = search rules in
    let stores : c.push_stores.new.out ≡ c.push_call.new.out ++ map (spec.store c.args.mode) spec.kept = search rules in
    pushed_three c.args.out.now _ _ _ c.push_loads.new.out c.push_call.new.out c.push_stores.new.out loads c.in_ok-push_call.ensures stores

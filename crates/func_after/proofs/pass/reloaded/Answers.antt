use Rattle.std.proofs.Common.{sym, ap, subst, ◌∙◌}
use Rattle.pass_name.specs.declared.pass.Pass.TheVariants.{Reload}
use Rattle.func_input.specs.Input.{RefusesWith}
use Rattle.func_after.specs.After.{PassMakes, unreloaded_for}
use Rattle.func_after.proofs.PassLaws.{reload_gave, reload_refused}
use Rattle.func_after.proofs.pass.reloaded.Goals as goal

pub returns-in-Ok : goal.returns-in-Ok
returns-in-Ok c =
    reload_gave c.args.desc.now c.args.m c.in_ok-homes.homes c.in_ok-layout.layout c.in_ok-layout.ensures.value c.in_ok-homes.ensures.homes
    c.in-Ok.function c.in-Ok.ensures.gives

pub returns-in-Err : goal.returns-in-Err
returns-in-Err c =
    subst (λ e. RefusesWith e (PassMakes c.args.desc.now c.args.m Reload))
    (sym (c.unreloaded_for.ensures ∙ ap (λ name. unreloaded_for name c.in-Err.e) c.requires))
    (reload_refused c.args.desc.now c.args.m c.in_ok-homes.homes c.in_ok-layout.layout c.in_ok-layout.ensures.value
    c.in_ok-homes.ensures.homes c.in-Err.e c.in-Err.ensures.gives)

use Rattle.std.proofs.Common.{◌≡◌, ◌+◌, ◌<◌, ◌≤◌, [], length, sym, ap, subst, ◌∙◌, arith}
use Rattle.rtx_tree.specs.declared.function.Function.{Function}
use Rattle.new_insns.specs.Replaced.{window}
use Rattle.schedule.specs.Schedule.{region_end, IsPlan, IsPlanned, Scheduled}
use Rattle.schedule.specs.machine.Made.{IsDone}
use Rattle.schedule.proofs.OneLaws.{scheduled_one}
use Rattle.schedule.proofs.PlanLaws.{plans_keep}
use Rattle.schedule.proofs.DoesLaws.{schedule_does}
use Rattle.schedule.proofs.StepLaws.{LeadsFrom, leads_past, leads_done, ends_there, done_long}
use Rattle.schedule.proofs.pass.schedule.Goals as goal

pub returns-in_err-end-clause-one : goal.returns-in_err-end-clause-one
returns-in_err-end-clause-one c = λ forms pipe f g h a b x y. scheduled_one forms pipe f g h a b x y

pub returns-in_err-end-clause-kept : goal.returns-in_err-end-clause-kept
returns-in_err-end-clause-kept c = plans_keep

pub returns-in_err-end-clause-does : goal.returns-in_err-end-clause-does
returns-in_err-end-clause-does c = λ forms pipe f g a lawful marks natural comes. schedule_does forms pipe lawful f g a marks natural comes

pub returns-in_err-plan-clause-one : goal.returns-in_err-plan-clause-one
returns-in_err-plan-clause-one c = λ forms pipe f g h a b x y. scheduled_one forms pipe f g h a b x y

pub returns-in_err-plan-clause-kept : goal.returns-in_err-plan-clause-kept
returns-in_err-plan-clause-kept c = plans_keep

pub returns-in_err-plan-clause-does : goal.returns-in_err-plan-clause-does
returns-in_err-plan-clause-does c = λ forms pipe f g a lawful marks natural comes. schedule_does forms pipe lawful f g a marks natural comes

pub returns-in_err-cycles-clause-one : goal.returns-in_err-cycles-clause-one
returns-in_err-cycles-clause-one c = λ forms pipe f g h a b x y. scheduled_one forms pipe f g h a b x y

pub returns-in_err-cycles-clause-kept : goal.returns-in_err-cycles-clause-kept
returns-in_err-cycles-clause-kept c = plans_keep

pub returns-in_err-cycles-clause-does : goal.returns-in_err-cycles-clause-does
returns-in_err-cycles-clause-does c = λ forms pipe f g a lawful marks natural comes. schedule_does forms pipe lawful f g a marks natural comes

pub returns-in_err-into_function-clause-one : goal.returns-in_err-into_function-clause-one
returns-in_err-into_function-clause-one c = λ forms pipe f g h a b x y. scheduled_one forms pipe f g h a b x y

pub returns-in_err-into_function-clause-kept : goal.returns-in_err-into_function-clause-kept
returns-in_err-into_function-clause-kept c = plans_keep

pub returns-in_err-into_function-clause-does : goal.returns-in_err-into_function-clause-does
returns-in_err-into_function-clause-does c = λ forms pipe f g a lawful marks natural comes. schedule_does forms pipe lawful f g a marks natural comes

pub returns-clause-one : goal.returns-clause-one
returns-clause-one c = λ forms pipe f g h a b x y. scheduled_one forms pipe f g h a b x y

pub returns-clause-kept : goal.returns-clause-kept
returns-clause-kept c = plans_keep

pub returns-clause-does : goal.returns-clause-does
returns-clause-does c = λ forms pipe f g a lawful marks natural comes. schedule_does forms pipe lawful f g a marks natural comes

pub loop-place-preserved-then-end-place : goal.loop-place-preserved-then-end-place
loop-place-preserved-then-end-place c =
    let a = c.args in
    let l = c.loop-place in
    let within : l.place < length l.chain.insns = omega (arith, c.loop-place-test.true, c.len.ensures) in
    let none : region_end l.chain l.place ≡ l.place = sym c.in_ok-end.ensures.end ∙ c.if-end-place.true in
    subst (λ (g : Function). LeadsFrom a.desc.now a.pipe.now 0 a.f [] (l.place + 1) g l.cycles) (sym c.in_ok-end.ensures.same)
    (leads_past a.desc.now a.pipe.now a.f l.place l.chain l.cycles within none l.invariant)

pub loop-place-smaller : goal.loop-place-smaller
loop-place-smaller c =
    let l = c.loop-place in
    let from = c.in_ok-end.ensures.from in
    let within = c.in_ok-end.ensures.within in
    let order : l.place < c.in_ok-end.end = omega (arith, from, c.if-end-place.false) in
    let done = subst (λ (g : Function). IsDone g l.place c.in_ok-end.end c.in_ok-plan.plan l.cycles c.put_region.new.chain c.in_ok-cycles.cycles) (c.in_ok-plan.ensures.same ∙ c.in_ok-end.ensures.same) c.in_ok-cycles.ensures in
    let long = done_long l.chain c.put_region.new.chain l.place c.in_ok-end.end c.in_ok-plan.plan l.cycles c.in_ok-cycles.cycles order within c.in_ok-plan.ensures.long done in
    omega (arith, long, order, within, c.loop-place-test.true, c.len.ensures)

pub loop-place-preserved : goal.loop-place-preserved
loop-place-preserved c =
    let a = c.args in
    let l = c.loop-place in
    let end = c.in_ok-end.end in
    let plan = c.in_ok-plan.plan in
    let from = c.in_ok-end.ensures.from in
    let end_is : end ≡ region_end l.chain l.place = c.in_ok-end.ensures.end in
    let some : l.place < region_end l.chain l.place = omega (arith, from, c.if-end-place.false, end_is) in
    let same = ap (λ (g : Function). window g l.place end) c.in_ok-end.ensures.same ∙ ap (λ n. window l.chain l.place n) end_is in
    let planned : IsPlanned a.desc.now a.pipe.now l.chain l.place plan = record {
      some = some;
      plan = subst (λ w. IsPlan a.desc.now a.pipe.now w plan) same c.in_ok-plan.ensures.plan;
    } in
    let done = subst (λ (g : Function). IsDone g l.place end plan l.cycles c.put_region.new.chain c.in_ok-cycles.cycles) (c.in_ok-plan.ensures.same ∙ c.in_ok-end.ensures.same) c.in_ok-cycles.ensures in
    leads_done a.desc.now a.pipe.now a.f l.place end l.chain c.put_region.new.chain plan l.cycles c.in_ok-cycles.cycles planned end_is done l.invariant

pub returns-clause-scheduled : goal.returns-clause-scheduled
returns-clause-scheduled c =
    let a = c.args in
    let l = c.loop-place in
    let past : length l.chain.insns ≤ l.place = omega (arith, c.len.ensures, c.loop-place-test.false) in
    subst (λ (g : Function). Scheduled a.desc.now a.pipe.now a.f l.cycles g) (sym c.in_ok-into_function.ensures)
    (ends_there a.desc.now a.pipe.now a.f l.place l.chain l.cycles past l.invariant)

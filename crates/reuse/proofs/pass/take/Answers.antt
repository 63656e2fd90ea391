use Rattle.std.proofs.Common.{◌≡◌, ◌+◌, [], ap, sym, subst, ◌∙◌, arith}
use Rattle.std.proofs.lemmas.Option.{slice_get_within}
use Rattle.new_insns.specs.Replaced.{replaced}
use Rattle.reuse.specs.Reuse.{IsStep, without}
use Rattle.reuse.specs.machine.Found.{AreSeen}
use Rattle.live_chain.specs.Stays.{StaysBefore}
use Rattle.reuse.proofs.Next.{still_alive}
use Rattle.reuse.proofs.Shift.{within_drop}
use Rattle.reuse.proofs.pass.take.Goals as goal

pub replace-requires-clause-within : goal.replace-requires-clause-within
replace-requires-clause-within c =
    let within = slice_get_within c.args.chain.now.insns c.args.place c.requires.first.dead.insn c.requires.first.dead.at_place in
    omega (arith, within, c.in_ok-after.ensures)

pub returns : goal.returns
returns c =
    let f = c.args.chain.now in
    let p = c.args.place in
    let within = slice_get_within f.insns p c.requires.first.dead.insn c.requires.first.dead.at_place in
    let is : c.replace.new.self ≡ without f p =
    c.in_ok-dead.ensures.replaced ∙ (ap (λ n. replaced f p n c.new.result) c.in_ok-after.ensures ∙ ap (replaced f p (p + 1)) c.new.ensures) in (
      subst (IsStep c.args.desc.now f) (sym is) (IsStep.drops p c.requires.none c.requires.first),
      subst (λ g. AreSeen c.args.desc.now g (record { span = record { from = p; end = c.past-end.result; firsts = p }; dead = c.in_ok-dead.dead })) (sym is) (record {
        within = within_drop c.args.desc.now f p c.past-end.result c.requires.none c.requires.first c.past-end.ensures;
        alive = still_alive f p (p + 1) c.in_ok-dead.dead [] (omega (arith, within)) (subst (λ g. StaysBefore f g c.in_ok-dead.dead) is c.in_ok-dead.ensures.stays) c.in_ok-dead.ensures.before
            (λ other below d. let from = c.requires.first.first other d in absurd (omega (arith, below, from, c.in_ok-dead.ensures.before)));
      }),
    )

use Rattle.std.proofs.Common.{◌≡◌, ◌+◌, ◌≤◌, ◌∷◌, [], ap, sym, subst, ◌∙◌, arith}
use Rattle.std.proofs.lemmas.Option.{slice_get_within}
use Rattle.new_insns.specs.Replaced.{replaced}
use Rattle.reuse.specs.Reuse.{IsStep, with_insn}
use Rattle.reuse.specs.machine.Found.{AreSeen, NoneDeadBefore}
use Rattle.live_chain.specs.Stays.{StaysBefore}
use Rattle.reuse.proofs.Next.{still_alive, fewer_alive}
use Rattle.reuse.proofs.Shift.{within_reuse}
use Rattle.reuse.proofs.pass.put.Goals as goal

pub replace-requires-clause-within : goal.replace-requires-clause-within
replace-requires-clause-within c =
    let within = slice_get_within c.args.chain.now.insns c.args.repeat.second c.requires.next.repeats.other c.requires.next.repeats.at_second in
    omega (arith, within, c.in_ok-after.ensures)

pub returns : goal.returns
returns c =
    let f = c.args.chain.now in
    let r = c.args.repeat in
    let is : c.replace.new.self ≡ with_insn f r.second r.new =
    c.in_ok-same.ensures.replaced ∙ (ap (λ n. replaced f r.second n c.in_ok-insns.insns) c.in_ok-after.ensures ∙ ap (replaced f r.second (r.second + 1)) c.in_ok-insns.ensures) in (
      subst (IsStep c.args.desc.now f) (sym is) (IsStep.reuses r.first r.second r.new c.requires.next),
      subst (λ g. AreSeen c.args.desc.now g (record { span = record { from = r.second; end = c.max-end.result; firsts = c.max-end.result }; dead = c.min.result })) (sym is) (record {
        within = within_reuse c.args.desc.now f r.first r.second r.new c.args.sight.span c.max-end.result c.requires.next c.requires.seen.within (omega (arith, c.max-end.ensures, c.past-far.ensures));
        alive = alive;
      }),
    )
  where
    alive : NoneDeadBefore (with_insn c.args.chain.now c.args.repeat.second c.args.repeat.new) c.min.result
    alive =
        let f = c.args.chain.now in
        let r = c.args.repeat in
        let within = slice_get_within f.insns r.second c.requires.next.repeats.other c.requires.next.repeats.at_second in
        let is : c.replace.new.self ≡ with_insn f r.second r.new =
        c.in_ok-same.ensures.replaced ∙ (ap (λ n. replaced f r.second n c.in_ok-insns.insns) c.in_ok-after.ensures ∙ ap (replaced f r.second (r.second + 1)) c.in_ok-insns.ensures) in
        let stays = subst (λ g. StaysBefore f g c.in_ok-same.same) is c.in_ok-same.ensures.stays in
        let less : c.min.result ≤ c.args.sight.dead = omega (arith, c.min.ensures) in
        let upto : c.min.result ≤ c.in_ok-same.same = omega (arith, c.min.ensures) in
        still_alive f r.second (r.second + 1) c.min.result (r.new ∷ []) (omega (arith, within))
        (λ place reg l. stays place reg (omega (arith, l, upto))) (omega (arith, upto, c.in_ok-same.ensures.before))
        (fewer_alive f c.args.sight.dead c.min.result less c.requires.seen.alive)

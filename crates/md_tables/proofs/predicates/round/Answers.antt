use Rattle.std.proofs.Common.{◌+◌, ◌≤◌, ap, ◌∙◌, rules, length, map, [], ◌∷◌}
use Rattle.std.proofs.lemmas.List.{take_all, length-append}
use Rattle.md_tables.specs.Predicates as spec
use Rattle.md_tables.specs.machine.Depths.{is_below, below}
use Rattle.md_tables.proofs.DepthLaws.{mapped_next}
use Rattle.md_tables.proofs.predicates.round.Goals as goal

pub loop-d-preserved : goal.loop-d-preserved
loop-d-preserved c = record {
  count = ap length c.in_ok-push.ensures.ok ∙ length-append c.loop-d.next (c.depth_of.result ∷ []) ∙ ap (λ k. k + 1) c.loop-d.invariant.count;
  sound = λ n within. mapped_next (is_below (n + 1)) (spec.is_sound c.args.predicates.now (below n c.args.depths.now)) c.loop-d.next c.push.new.self c.args.predicates.now c.loop-d.d-index c.depth_of.result c.d-item.result
      (search rules) (search rules) (search rules) (c.depth_of.ensures n within) (c.loop-d.invariant.sound n within);
}

pub returns : goal.returns
returns c =
    let end : length c.args.predicates.now ≤ c.loop-d.d-index = search rules in
    record {
      count = search rules;
      sound = λ n within. c.loop-d.invariant.sound n within ∙ ap (map (spec.is_sound c.args.predicates.now (below n c.args.depths.now))) (take_all c.loop-d.d-index c.args.predicates.now end);
    }

use Rattle.std.proofs.Common.{◌∙◌, refl, arith}
use Rattle.node_pool.proofs.Grown.{one_more, linked_more}
use Rattle.node_pool.proofs.slot.add_free.Goals as goal

pub loop-preserved : goal.loop-preserved
loop-preserved g c = record {
  values = one_more c.args.slots.now.items c.loop.slots.items c.push_reserved.new.self.items _ c.loop.counter c.push_reserved.ensures.items refl c.loop.invariant.values;
  links = λ free links. linked_more c.loop.slots.items c.push_reserved.new.self.items free c.loop.counter c.loop.next c.len-here.result _ c.push_reserved.ensures.items refl refl (c.len-here.ensures ∙ c.loop.slots.ok.0) (c.loop.invariant.links free links);
  long = omega (arith, c.push_reserved.ensures.len, c.loop.invariant.long);
  room = omega (arith, c.push_reserved.ensures.capacity, c.loop.invariant.room);
}

use Rattle.std.proofs.Common.{◌≡◌, ◌∷◌, sym, subst, ◌∙◌}
use Rattle.rtx_tree.specs.Memories.{IsOrdered}
use Rattle.run_memory.proofs.Parts.{one_seen, tail_ordered, visible_ordered}
use Rattle.run_memory.proofs.visible_part.Goals as goal

pub loop-byte-preserved-then-is_visible : goal.loop-byte-preserved-then-is_visible
loop-byte-preserved-then-is_visible c =
    let rest : c.loop-byte.rest.now ≡ c.in-Some.byte.now ∷ c.in-Some.behind.now = c.in-Some.ensures.cases.0 in
    record {
      made = one_seen _ _ _ _ _ _ c.in-Some.byte.now rest (sym c.is_visible.ensures ∙ c.if-is_visible.true) c.in_ok-push.ensures.ok c.loop-byte.invariant.made;
      ordered = tail_ordered c.in-Some.byte.now _ (subst IsOrdered rest c.loop-byte.invariant.ordered);
    }

pub after_gap-rest-requires-clause-ordered : goal.after_gap-rest-requires-clause-ordered
after_gap-rest-requires-clause-ordered c = subst IsOrdered c.in-Some.ensures.cases.0 c.loop-byte.invariant.ordered

pub from_items-requires : goal.from_items-requires
from_items-requires c = visible_ordered c.args.ranges.now _ _ c.loop-byte.rest.now c.bytes-rest.ensures.ordered c.in_default.ensures.cases c.loop-byte.invariant.made

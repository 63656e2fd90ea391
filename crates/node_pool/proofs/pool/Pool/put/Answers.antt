use Rattle.std.proofs.Common.{◌≡◌, ◌-◌, Some, None, slice_get, ap, subst, refl, ◌∙◌}
use Rattle.std.proofs.lemmas.Option.{slice_get_within}
use Rattle.node_pool.specs.Slots.{spare_of, value_at}
use Rattle.node_pool.specs.declared.slot.Slot.{Slot}
use Rattle.node_pool.proofs.Values.{written_there}
use Rattle.node_pool.proofs.Kept.{holds, has_head, put_keeps, viewed, fell}
use Rattle.node_pool.proofs.pool.Pool.put.Goals as goal

pub invariant_of-self : goal.invariant_of-self
invariant_of-self g c =
    let new : Slot g.row.T.Denot = record { value = Some c.args.value; next = c.index_mut-slot.result.now.next } in
    let head = has_head c.self.inside.slots.items c.self.inside.first c.self.inside.spare c.index_mut-slot.result.now c.args.self.now
    c.self.invariant c.self.view_is c.requires c.index_mut-slot.ensures.value in
    put_keeps c.self.inside.slots.items c.self.inside.first c.self.inside.spare (c.self.inside.spare - 1) c.index_mut-slot.result.now new c.args.value
    c.self.invariant head.0 head.1 refl

pub returns-clause-free : goal.returns-clause-free
returns-clause-free g c =
    let head = has_head c.self.inside.slots.items c.self.inside.first c.self.inside.spare c.index_mut-slot.result.now c.args.self.now
    c.self.invariant c.self.view_is c.requires c.index_mut-slot.ensures.value in
    subst (λ l. slice_get l c.self.inside.first ≡ Some None) c.self.view_is
    (holds c.self.inside.slots.items c.self.inside.first c.index_mut-slot.result.now head.1.there ∙ ap Some head.1.free)

pub returns-clause-slots : goal.returns-clause-slots
returns-clause-slots g c =
    let new : Slot g.row.T.Denot = record { value = Some c.args.value; next = c.index_mut-slot.result.now.next } in
    viewed c.self.inside.slots.items c.self.inside.first new (Some c.args.value) c.args.self.now c.self.view_is refl

pub returns-clause-spare : goal.returns-clause-spare
returns-clause-spare g c =
    let head = has_head c.self.inside.slots.items c.self.inside.first c.self.inside.spare c.index_mut-slot.result.now c.args.self.now
    c.self.invariant c.self.view_is c.requires c.index_mut-slot.ensures.value in
    fell _ _ (c.self.inside.spare - 1) c.self.inside.spare (invariant_of-self g c).all (c.self.invariant.all ∙ ap spare_of c.self.view_is) head.0

pub returns-clause-there : goal.returns-clause-there
returns-clause-there g c =
    ap (λ l. value_at l c.self.inside.first) (returns-clause-slots g c) ∙
    written_there c.args.self.now c.self.inside.first (Some c.args.value)
    (slice_get_within c.args.self.now c.self.inside.first None (returns-clause-free g c))

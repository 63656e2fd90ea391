use Rattle.std.proofs.Common.{◌≡◌, Some, subst, sym, ◌∙◌}
use Rattle.node_pool.specs.Slots.{IsLive, value_at}
use Rattle.node_pool.specs.declared.slot.Slot.{Slot}
use Rattle.node_pool.proofs.Kept.{live_slot, held, set_keeps, viewed}
use Rattle.node_pool.proofs.pool.Pool.set.Goals as goal

pub invariant_of-self : goal.invariant_of-self
invariant_of-self g c =
    let new : Slot g.row.T.Denot = record { value = c.replace.new.dest; next = c.index_mut-slot.result.now.next } in
    set_keeps c.self.inside.slots.items c.args.id.index c.self.inside.first c.self.inside.spare c.index_mut-slot.result.now new c.in-Some.old c.args.value
    c.self.invariant
    (live_slot c.self.inside.slots.items c.args.id.index c.index_mut-slot.result.now
    (subst (λ l. IsLive l c.args.id.index) (sym c.self.view_is) c.requires) c.index_mut-slot.ensures.value)
    (sym c.replace.ensures.value ∙ c.in-Some.is) c.replace.ensures.after

pub returns-clause-slots : goal.returns-clause-slots
returns-clause-slots g c =
    let new : Slot g.row.T.Denot = record { value = c.replace.new.dest; next = c.index_mut-slot.result.now.next } in
    viewed c.self.inside.slots.items c.args.id.index new (Some c.args.value) c.args.self.now c.self.view_is c.replace.ensures.after

pub returns-clause-old : goal.returns-clause-old
returns-clause-old g c =
    subst (λ l. value_at l c.args.id.index ≡ Some c.in-Some.old) c.self.view_is
    (held c.self.inside.slots.items c.args.id.index c.index_mut-slot.result.now c.in-Some.old
    (live_slot c.self.inside.slots.items c.args.id.index c.index_mut-slot.result.now
    (subst (λ l. IsLive l c.args.id.index) (sym c.self.view_is) c.requires) c.index_mut-slot.ensures.value)
    (sym c.replace.ensures.value ∙ c.in-Some.is))

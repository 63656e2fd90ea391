use Rattle.std.proofs.Common.{◌∙◌, sym, ap, subst}
use Rattle.rtx_tree.specs.Memories.{IsPlaceOf, byte_at}
use Rattle.rtx_tree.proofs.MemoryPlaces.{byte_at_place}
use Rattle.rtx_tree.proofs.memories.Memories.byte_at.Goals as goal

pub returns : goal.returns
returns c =
    let place = subst (λ bytes. IsPlaceOf bytes c.args.address c.in_ok-place.place) c.as_slice.ensures.value c.in_ok-place.ensures in
    sym (byte_at_place _ c.self.invariant _ _ _ place c.item.ensures) ∙ ap (λ bytes. byte_at bytes c.args.address) c.self.view_is

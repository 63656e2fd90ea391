use Rattle.std.proofs.Common.{◌∙◌, sym, ap, subst}
use Rattle.std.specs.Prelude.{is_some}
use Rattle.rtx_tree.specs.Memories.{IsPlaceOf, IsOrdered, byte_at, with_byte}
use Rattle.rtx_tree.proofs.MemoryPlaces.{has_place, with_byte_place, ordered_stays}
use Rattle.rtx_tree.proofs.MemoryWrites.{with_byte_missing}
use Rattle.rtx_tree.proofs.memories.Memories.set_byte.Goals as goal

pub invariant_of-self : goal.invariant_of-self
invariant_of-self c =
    let place = subst (λ bytes. IsPlaceOf bytes c.args.address c.in-Some.place) c.as_slice.ensures.value c.in-Some.ensures in
    let written = c.replace.ensures.items ∙ with_byte_place _ c.self.invariant _ _ c.args.byte place in
    subst IsOrdered (sym written) (ordered_stays _ c.args.address c.args.byte c.self.invariant)

pub returns-in-Some-clause-bytes : goal.returns-in-Some-clause-bytes
returns-in-Some-clause-bytes c =
    let place = subst (λ bytes. IsPlaceOf bytes c.args.address c.in-Some.place) c.as_slice.ensures.value c.in-Some.ensures in
    c.replace.ensures.items ∙ with_byte_place _ c.self.invariant _ _ c.args.byte place ∙ ap (λ bytes. with_byte bytes c.args.address c.args.byte) c.self.view_is

pub returns-in-Some-clause-has : goal.returns-in-Some-clause-has
returns-in-Some-clause-has c =
    let place = subst (λ bytes. IsPlaceOf bytes c.args.address c.in-Some.place) c.as_slice.ensures.value c.in-Some.ensures in
    has_place _ c.self.invariant _ _ place ∙ ap (λ bytes. is_some (byte_at bytes c.args.address)) c.self.view_is

pub returns-in-None-clause-bytes : goal.returns-in-None-clause-bytes
returns-in-None-clause-bytes c =
    sym (with_byte_missing _ c.args.address c.args.byte (sym (ap (λ bytes. byte_at bytes c.args.address) (c.as_slice.ensures.value ∙ c.self.view_is)) ∙ c.in-None.ensures))

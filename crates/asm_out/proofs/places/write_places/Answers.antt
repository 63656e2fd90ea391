use Rattle.std.proofs.Common.{◌≡◌, ◌<◌, List, length, get_or, subst, arith}
use Rattle.std.proofs.lemmas.Result.{err_from_is_err_and}
use Rattle.rtx_tree.specs.declared.function.Insn.{Insn}
use Rattle.asm_out.specs.Comes.{PartComes}
use Rattle.asm_out.proofs.PlacesLaws.{places_start, places_on, places_wrong, places_end}
use Rattle.asm_out.proofs.places.write_places.Goals as goal

pub loop-place-init : goal.loop-place-init
loop-place-init c = places_start (PartComes c.args.setting.now.description.now c.args.setting.now.number c.args.setting.now.function.now) c.args.out.now.items c.args.items.now.items c.args.setting.now.function.now.insns

pub returns-in_err-write_place : goal.returns-in_err-write_place
returns-in_err-write_place c =
    let insns = c.args.setting.now.function.now.insns in
    let k = c.loop-place.place in
    let x = c.insn-item.result in
    let within : k < length insns = omega (arith, c.as_slice-insn-items.ensures.len) in
    let is : x ≡ get_or insns k x = subst (λ (xs : List Insn). x ≡ get_or xs k x) c.as_slice-insn-items.ensures.value c.insn-item.is in
    let p = err_from_is_err_and c.from_residual.result c.from_residual.ensures.1 in
    rw (p.1, p.2)
    (places_wrong (PartComes c.args.setting.now.description.now c.args.setting.now.number c.args.setting.now.function.now) c.args.out.now.items c.loop-place.out.items c.args.items.now.items c.loop-place.items.items insns k x c.in_err-write_place.field-0.0
    within is c.loop-place.invariant c.in_err-write_place.ensures)

pub loop-place-preserved : goal.loop-place-preserved
loop-place-preserved c =
    let insns = c.args.setting.now.function.now.insns in
    let k = c.loop-place.place in
    let x = c.insn-item.result in
    let within : k < length insns = omega (arith, c.as_slice-insn-items.ensures.len) in
    let is : x ≡ get_or insns k x = subst (λ (xs : List Insn). x ≡ get_or xs k x) c.as_slice-insn-items.ensures.value c.insn-item.is in
    places_on (PartComes c.args.setting.now.description.now c.args.setting.now.number c.args.setting.now.function.now) c.args.out.now.items c.loop-place.out.items c.write_place.new.out.items c.args.items.now.items c.loop-place.items.items
    c.write_place.new.items.items insns k x within is c.loop-place.invariant c.in_ok-write_place.ensures

pub returns : goal.returns
returns c =
    places_end (PartComes c.args.setting.now.description.now c.args.setting.now.number c.args.setting.now.function.now) c.args.out.now.items c.loop-place.out.items c.args.items.now.items c.loop-place.items.items c.args.setting.now.function.now.insns
    c.loop-place.place (omega (arith, c.as_slice-insn-items.ensures.len)) c.loop-place.invariant

-- A binary search by the registers' numbers, which increase as those of the pseudos do.
use Rattle.std.proofs.Common.{rules, sym, ap, arith}
use Rattle.std.specs.Prelude.{option_map, ◌<◌, Ok, Err}
use Rattle.std.specs.List.{AllPairs}
use Rattle.std.proofs.lemmas.List.Sorted.{answers_always}
use Rattle.assign.specs.declared.places.SlotAt.{SlotAt}
use Rattle.reload_homes.specs.Homes.{holds}
use Rattle.reload_homes.proofs.Lookups.{keys_rise, found}
use Rattle.reload_homes.proofs.lookup.offset_at.Goals as goal

pub returns-in-Ok : goal.returns-in-Ok
returns-in-Ok c =
    let up : AllPairs (λ (x y : SlotAt). holds x < holds y) c.args.slots.now = λ i j d l w. omega (arith, keys_rise (λ (x : SlotAt). x.pseudo) c.args.slots.now c.requires i j d l w) in
    let at = found holds c.args.slots.now up c.args.reg (Ok c.in-Ok.at) c.in-Ok.ensures.bound (c.in-Ok.ensures.position holds (answers_always _ _ _ (λ f a r g called. search rules))) in
    sym (ap (option_map (λ (x : SlotAt). x.offset)) (at (record { pseudo = 0; offset = 0 })))

pub returns-in-Err : goal.returns-in-Err
returns-in-Err c =
    let up : AllPairs (λ (x y : SlotAt). holds x < holds y) c.args.slots.now = λ i j d l w. omega (arith, keys_rise (λ (x : SlotAt). x.pseudo) c.args.slots.now c.requires i j d l w) in
    let none = found holds c.args.slots.now up c.args.reg (Err c.in-Err.field-0) c.in-Err.ensures.bound (c.in-Err.ensures.position holds (answers_always _ _ _ (λ f a r g called. search rules))) in
    sym (ap (option_map (λ (x : SlotAt). x.offset)) none)

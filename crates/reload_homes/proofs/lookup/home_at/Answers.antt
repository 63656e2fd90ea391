-- A binary search by the registers' numbers, which increase as those of the pseudos do.
use Rattle.std.proofs.Common.{rules, sym, ap, arith}
use Rattle.std.specs.Prelude.{option_map, ◌<◌, Ok, Err}
use Rattle.std.specs.List.{AllPairs}
use Rattle.std.proofs.lemmas.List.Sorted.{answers_always}
use Rattle.assign.specs.declared.home.Home.TheVariants.{Hard}
use Rattle.assign.specs.declared.home.HomeOf.{HomeOf}
use Rattle.assign.specs.Homes.{register}
use Rattle.reload_homes.proofs.Lookups.{keys_rise, found}
use Rattle.reload_homes.proofs.lookup.home_at.Goals as goal

pub returns-in-Ok : goal.returns-in-Ok
returns-in-Ok c =
    let up : AllPairs (λ (x y : HomeOf). register x < register y) c.args.homes.now = λ i j d l w. omega (arith, keys_rise (λ (x : HomeOf). x.pseudo) c.args.homes.now c.requires i j d l w) in
    let at = found register c.args.homes.now up c.args.reg (Ok c.in-Ok.at) c.in-Ok.ensures.bound (c.in-Ok.ensures.position register (answers_always _ _ _ (λ f a r g called. search rules))) in
    sym (ap (option_map (λ (x : HomeOf). x.home)) (at (record { pseudo = 0; home = Hard 0 })))

pub returns-in-Err : goal.returns-in-Err
returns-in-Err c =
    let up : AllPairs (λ (x y : HomeOf). register x < register y) c.args.homes.now = λ i j d l w. omega (arith, keys_rise (λ (x : HomeOf). x.pseudo) c.args.homes.now c.requires i j d l w) in
    let none = found register c.args.homes.now up c.args.reg (Err c.in-Err.field-0) c.in-Err.ensures.bound (c.in-Err.ensures.position register (answers_always _ _ _ (λ f a r g called. search rules))) in
    sym (ap (option_map (λ (x : HomeOf). x.home)) none)

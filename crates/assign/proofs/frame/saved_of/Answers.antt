use Rattle.std.proofs.Common.{◌≡◌, ℕ, List, length, ap, arith, rules}
use Rattle.assign.specs.Frame.{saved_of}
use Rattle.assign.proofs.FrameLaws.{few_saved}
use Rattle.assign.proofs.frame.saved_of.Goals as goal

pub returns : goal.returns
returns c =
    let f = c.args.f.now in
    let homes = c.args.homes.now in
    let saved : List ℕ = c.add_homes.new.saved in
    let value : saved ≡ saved_of f homes = search rules in
    record { value = value; few = omega (arith, ap length value, few_saved f homes) }

use Rattle.std.proofs.Common.{sym}
use Rattle.std.proofs.lemmas.Int.{to_z-of_z}
use Rattle.rv_text.proofs.Places.{no_place, place_found}
use Rattle.rv_text.proofs.parse.read_place.Goals as goal

pub returns-in-None : goal.returns-in-None
returns-in-None c = no_place c.args.least c.args.most c.args.text.now (sym c.in-None.ensures)

pub returns-in-Some : goal.returns-in-Some
returns-in-Some c =
    let least = c.ranges.least in
    let most = c.ranges.most in
    place_found c.args.least c.args.most c.args.text.now c.in-Some.number.now c.in-Some.reg.now (sym c.in-Some.ensures) c.read_number.result c.read_register.result c.pair.result (simp to_z-of_z at c.read_number.ensures) c.read_register.ensures c.pair.ensures

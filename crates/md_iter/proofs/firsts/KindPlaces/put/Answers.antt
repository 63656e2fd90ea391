use Rattle.std.proofs.lemmas.Result.{on_ok_weaker}
use Rattle.md_iter.proofs.KindLaws.{puts_mode, puts_code, puts_int}
use Rattle.md_iter.proofs.firsts.KindPlaces.put.Goals as goal

pub returns-in-Mode : goal.returns-in-Mode
returns-in-Mode c = on_ok_weaker c.put.result (puts_mode c.args.self.now c.put.new.self c.args.kind c.args.name.now c.args.place c.in-Mode.is) c.put.ensures

pub returns-in-Code : goal.returns-in-Code
returns-in-Code c = on_ok_weaker c.put-in-Code.result (puts_code c.args.self.now c.put-in-Code.new.self c.args.kind c.args.name.now c.args.place c.in-Code.is) c.put-in-Code.ensures

pub returns-in-Int : goal.returns-in-Int
returns-in-Int c = on_ok_weaker c.put-in-Int.result (puts_int c.args.self.now c.put-in-Int.new.self c.args.kind c.args.name.now c.args.place c.in-Int.is) c.put-in-Int.ensures

use Rattle.std.proofs.lemmas.Int.{to_z-of_z}
use Rattle.rv_text.specs.Lines.{parts_view}
use Rattle.rv_text.proofs.Operands.{imm_sets}
use Rattle.rv_text.proofs.parse.read_imm.Goals as goal

pub returns : goal.returns
returns c =
    let least = c.ranges.least in
    let most = c.ranges.most in
    imm_sets c.args.least c.args.most c.args.text.now (parts_view c.args.parts) c.read_number.result _ (simp to_z-of_z at c.read_number.ensures) c.set_imm.ensures

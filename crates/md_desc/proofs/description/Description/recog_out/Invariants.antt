use Rattle.std.proofs.Common.{◌-◌, length}
use Rattle.md_desc.specs.Recog.{NoneOutBefore}
use Rattle.md_desc.proofs.description.Description.recog_out.Given as goal

abbrev pub invariant-loop-found : goal.invariant-loop-found
invariant-loop-found l = NoneOutBefore l.self l.facts l.insn l.from

abbrev pub decreases-loop-found : goal.decreases-loop-found
decreases-loop-found l = length l.self - l.from

use Rattle.std.proofs.Common.{take}
use Rattle.std.specs.List.{AllZip}
use Rattle.md_output.specs.Read.{IsReadAs}
use Rattle.md_output.proofs.read.read_lines.Given as goal

abbrev pub invariant-loop-text : goal.invariant-loop-text
invariant-loop-text l = AllZip IsReadAs (take l.text-index l.texts) l.lines

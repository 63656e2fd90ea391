-- The steps of the code, for the contracts of private functions alone.
use Rattle.std.specs.Prelude.{List, []}
use Rattle.rv_text.specs.declared.line.Line.{Line}
use Rattle.equate.specs.declared.verdict.Side.{Side}
use Rattle.equate.specs.declared.verdict.Side.TheVariants.{Insns, Lines}

-- the lines of a side
abbrev pub lines_in : Side → List Line
lines_in (Insns insns) = []
lines_in (Lines function lines) = lines

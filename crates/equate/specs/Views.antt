-- What the code's own types are in the words of the definitions.
use Rattle.equate.specs.Side as spec
use Rattle.equate.specs.declared.verdict.Side.{Side}
use Rattle.equate.specs.declared.verdict.Side.TheVariants.{Insns, Lines}

abbrev pub side_of : Side → spec.Side
side_of (Insns insns) = spec.Insns insns
side_of (Lines function lines) = spec.Lines function lines

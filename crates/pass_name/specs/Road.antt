-- The roads of a function: which passes it goes through, in their order (GCC Internals, "Passes and
-- Files of the Compiler"). On each road registers have homes behind reload, and then the frame.
use Rattle.std.specs.Prelude.{List, [], ◌∷◌, ◌++◌}
use Rattle.pass_name.specs.declared.pass.Pass.{Pass}
use Rattle.pass_name.specs.declared.pass.Pass.TheVariants.{Read, Lower, Reuse, Combine, Split1, Reload, Frame, Split2, Peephole2, Schedule}
use Rattle.pass_name.specs.declared.road.Road.{Road}
use Rattle.pass_name.specs.declared.road.Road.TheVariants.{Usual, Reusing, Scheduled}

-- the passes before registers have homes
abbrev pub before_homes : Road → List Pass
before_homes Usual = Read ∷ Lower ∷ Combine ∷ Split1 ∷ []
before_homes Reusing = Read ∷ Lower ∷ Reuse ∷ Combine ∷ Split1 ∷ []
before_homes Scheduled = Read ∷ Lower ∷ Combine ∷ Split1 ∷ []

-- those behind the frame
abbrev pub behind_frame : Road → List Pass
behind_frame Usual = Split2 ∷ Peephole2 ∷ []
behind_frame Reusing = Split2 ∷ Peephole2 ∷ []
behind_frame Scheduled = Split2 ∷ Peephole2 ∷ Schedule ∷ []

-- all before the text is written
abbrev pub passes_of : Road → List Pass
passes_of road = before_homes road ++ (Reload ∷ Frame ∷ behind_frame road)

-- The limits: their names, as messages write them, and their numbers.
use Rattle.std.specs.Prelude.{ℕ, List, codes}
use Rattle.rtx_tree.specs.declared.limit.Limit.{Limit}
use Rattle.rtx_tree.specs.declared.limit.Limit.TheVariants.{Text, Depth, Include, Forms, Instructions, Pseudos, SplitDepth, TermSize, Frame, Output, Image}

-- the name of a limit
abbrev pub limit_name : Limit → List ℕ
limit_name Text = codes "Text"
limit_name Depth = codes "Depth"
limit_name Include = codes "Include"
limit_name Forms = codes "Forms"
limit_name Instructions = codes "Instructions"
limit_name Pseudos = codes "Pseudos"
limit_name SplitDepth = codes "SplitDepth"
limit_name TermSize = codes "TermSize"
limit_name Frame = codes "Frame"
limit_name Output = codes "Output"
limit_name Image = codes "Image"

-- ---- what is read

-- Text: the bytes of an input, and of the texts of a description together; 16 MiB
abbrev pub most_bytes : ℕ
most_bytes = 16777216

-- Depth: lists and vectors within each other
abbrev pub most_open : ℕ
most_open = 200

-- Include: files within each other, the description itself among them
abbrev pub most_within : ℕ
most_within = 16

-- Forms: the forms of a description, once its iterators are expanded
abbrev pub most_forms : ℕ
most_forms = 20000

-- Instructions: those of a function that is read
abbrev pub most_instructions : ℕ
most_instructions = 10000

-- Pseudos: the pseudo registers of a function that is read, with those below the greatest
abbrev pub most_pseudos : ℕ
most_pseudos = 10000

-- ---- what passes make

-- Instructions: those of a function that a pass makes
abbrev pub most_made : ℕ
most_made = 1000000

-- SplitDepth: splits that follow from one another
abbrev pub most_splits : ℕ
most_splits = 8

-- TermSize: the nodes of a term of a comparison, each counted as often as it stands there
abbrev pub most_nodes : ℕ
most_nodes = 1048576

-- TermSize: the levels of such a term; one with more counts as one with too many nodes
abbrev pub most_levels : ℕ
most_levels = 2000

-- Frame: the bytes of a frame; the greatest multiple of 16 below 2 ^ 20
abbrev pub most_frame : ℕ
most_frame = 1048560

-- ---- what is written

-- Output: the bytes of an assembly; 256 MiB
abbrev pub most_output : ℕ
most_output = 268435456

-- Image: the bytes of the words of an image; the greatest multiple of 4 below 2 ^ 20
abbrev pub most_image : ℕ
most_image = 1048572

-- ---- what is only tried, and refused by no name

-- the places from the first to the second of two instructions that are combined
abbrev pub most_apart : ℕ
most_apart = 16

-- the expressions of a combined pattern within each other: a text is read 200 levels deep, of which
-- the instruction around a pattern takes some
abbrev pub most_combined : ℕ
most_combined = 195

-- the places from the first to the second of two instructions of which the second has the first's value
abbrev pub most_reused : ℕ
most_reused = 64

-- the instructions that are put in order together
abbrev pub most_scheduled : ℕ
most_scheduled = 64

-- the instances of an alternative that are tried
abbrev pub most_tried : ℕ
most_tried = 64

-- ---- what a description of pipelines may say; what says more is passed over

-- the units that are told apart
abbrev pub most_units : ℕ
most_units = 64

-- the ways of an expression, and of each of its parts
abbrev pub most_ways : ℕ
most_ways = 64

-- the cycles of a way
abbrev pub most_cycles : ℕ
most_cycles = 64

-- the times that an expression stands behind itself
abbrev pub most_times : ℕ
most_times = 1000

-- the cycles that an instruction takes
abbrev pub most_latency : ℕ
most_latency = 1000

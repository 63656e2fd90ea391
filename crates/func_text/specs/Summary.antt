-- What was compiled, in numbers: GCC Internals, "Passes and Files of the Compiler". Which counts
-- there are is this project's own.
use Rattle.std.specs.Prelude.{ℕ, ◌+◌, filter, length, List, Bool, true, false}
use Rattle.rtx_tree.specs.declared.function.Function.{Function}
use Rattle.rv_text.specs.declared.line.CodeItem.{CodeItem}
use Rattle.rv_text.specs.declared.line.CodeItem.TheVariants.{Code}
use Rattle.rtl_chain.specs.Counts.{instruction_count}
use Rattle.func_after.specs.declared.compilation.Compilation.{Compilation}
use Rattle.func_text.specs.declared.summary.Summary.{Summary}

-- of no function
abbrev pub empty : Summary
empty = record { instructions = 0; combined = 0; slots = 0; frame = 0; lines = 0 }

abbrev pub is_code : CodeItem → Bool
is_code (Code line) = true
is_code _ = false

-- the lines of code; a label's line is none
abbrev pub line_count : List CodeItem → ℕ
line_count items = length (filter is_code items)

-- of a function that came in, what the passes made of it, and its lines and labels
abbrev pub summary_of : Function → Compilation → List CodeItem → Summary
summary_of f m items = record {
  instructions = instruction_count f.insns;
  combined = m.combined;
  slots = length m.layout.slots;
  frame = m.layout.size;
  lines = line_count items;
}

-- the summary of two summaries' functions together: each number is the sum
abbrev pub plus : Summary → Summary → Summary
plus a b = record {
  instructions = a.instructions + b.instructions;
  combined = a.combined + b.combined;
  slots = a.slots + b.slots;
  frame = a.frame + b.frame;
  lines = a.lines + b.lines;
}

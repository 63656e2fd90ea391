-- Regions of instructions that are put in order together: GCC Internals, "Passes and Files of the
-- Compiler" (instruction scheduling) and "Basic Blocks".
use Rattle.std.specs.Prelude.{ℕ, Bool, true, false, List, take}
use Rattle.std.specs.List.{prefix_len}
use Rattle.rtx_tree.specs.Limit.{most_scheduled}
use Rattle.rtx_tree.specs.declared.function.Kind.{Kind}
use Rattle.rtx_tree.specs.declared.function.Kind.TheVariants.{Plain}
use Rattle.rtx_tree.specs.declared.function.Insn.{Insn}

abbrev pub is_plain_kind : Kind → Bool
is_plain_kind Plain = true
is_plain_kind _ = false

-- none of jumps, calls, labels and barriers
abbrev pub is_plain : Insn → Bool
is_plain i = is_plain_kind i.kind

-- how many instructions the region has with which some instructions begin: those in front of the
-- first that is not plain, so many at most
abbrev pub region_length : List Insn → ℕ
region_length insns = prefix_len is_plain (take most_scheduled insns)

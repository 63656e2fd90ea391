-- What an instruction's effects use and define: GCC Internals, "Side Effect Expressions" and
-- "Registers and Memory".
use Rattle.std.specs.Prelude.{ℕ, Bool, false, ◌||◌, ◌&&◌, ◌==◌, not, List, [], ◌∷◌}
use Rattle.std.specs.List.{list_any}
use Rattle.rtx_tree.specs.declared.code.Code.{Code}
use Rattle.rtx_tree.specs.declared.code.Code.TheVariants.{Mem, Subreg, Set, Clobber, Parallel}
use Rattle.rtx_tree.specs.declared.tree.Rtx.{Rtx}
use Rattle.rtx_tree.specs.Tree.{head_of, kids_of, is_reg_numbered, mentions_reg}

-- ---- registers. Register zero keeps nothing and always reads as 0, so it counts as none (RISC-V unprivileged manual, "Programmers'
-- Model for Base Integer ISA")

-- the tree is the register, in any mode
abbrev pub is_register : ℕ → Rtx → Bool
is_register reg x = not (reg == 0) && is_reg_numbered (head_of x).code (head_of x).number reg

-- the register stands in the tree
abbrev pub reads : ℕ → Rtx → Bool
reads reg x = not (reg == 0) && mentions_reg reg x

-- ---- places

abbrev pub place_is_by : ℕ → Code → List Rtx → Rtx → Bool
place_is_by reg Subreg (whole ∷ parts) x = is_register reg whole
place_is_by reg _ parts x = is_register reg x

-- the place is the register, or a low part of it
abbrev pub place_is : ℕ → Rtx → Bool
place_is reg x = place_is_by reg (head_of x).code (kids_of x) x

abbrev pub place_reads_by : ℕ → Code → Rtx → Bool
place_reads_by reg Mem x = reads reg x
place_reads_by reg _ x = false

-- the place is memory, and the register stands in its address
abbrev pub place_reads : ℕ → Rtx → Bool
place_reads reg x = place_reads_by reg (head_of x).code x

-- ---- one effect

abbrev pub effect_uses_by : ℕ → Code → List Rtx → Rtx → Bool
effect_uses_by reg Set (place ∷ source ∷ []) x = place_reads reg place || reads reg source
effect_uses_by reg Clobber parts x = false
effect_uses_by reg _ parts x = reads reg x

-- a `set` uses what its source and the address of its place read; a `clobber` uses nothing; any
-- other uses what it reads
abbrev pub effect_uses : ℕ → Rtx → Bool
effect_uses reg x = effect_uses_by reg (head_of x).code (kids_of x) x

abbrev pub effect_defines_by : ℕ → Code → List Rtx → Bool
effect_defines_by reg Set (place ∷ parts) = place_is reg place
effect_defines_by reg Clobber (place ∷ parts) = place_is reg place
effect_defines_by reg _ parts = false

-- a `set` and a `clobber` define the register of their place
abbrev pub effect_defines : ℕ → Rtx → Bool
effect_defines reg x = effect_defines_by reg (head_of x).code (kids_of x)

abbrev pub effect_sets_by : ℕ → Code → List Rtx → Bool
effect_sets_by reg Set (place ∷ parts) = place_is reg place
effect_sets_by reg _ parts = false

-- a `set` of the register
abbrev pub effect_sets : ℕ → Rtx → Bool
effect_sets reg x = effect_sets_by reg (head_of x).code (kids_of x)

-- ---- all effects of a pattern, which are made at once

abbrev pub effects_by : Code → List Rtx → Rtx → List Rtx
effects_by Parallel parts x = parts
effects_by _ parts x = x ∷ []

-- the parts of a `parallel`, or the one effect
abbrev pub effects_of : Rtx → List Rtx
effects_of x = effects_by (head_of x).code (kids_of x) x

abbrev pub all_use : ℕ → List Rtx → Bool
all_use reg effects = list_any (effect_uses reg) effects

abbrev pub all_define : ℕ → List Rtx → Bool
all_define reg effects = list_any (effect_defines reg) effects

abbrev pub pattern_uses : ℕ → Rtx → Bool
pattern_uses reg x = all_use reg (effects_of x)

abbrev pub pattern_defines : ℕ → Rtx → Bool
pattern_defines reg x = all_define reg (effects_of x)

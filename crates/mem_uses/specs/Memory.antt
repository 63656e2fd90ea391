-- Whether instructions read and write memory: GCC Internals, "Registers and Memory" (mem) and "Side
-- Effect Expressions".
use Rattle.std.specs.Prelude.{Bool, true, false, ◌||◌, List, [], ◌∷◌}
use Rattle.std.specs.List.{list_any}
use Rattle.rtx_tree.specs.declared.code.Code.{Code}
use Rattle.rtx_tree.specs.declared.code.Code.TheVariants.{Mem, Set, Clobber}
use Rattle.rtx_tree.specs.declared.tree.Rtx.{Rtx}
use Rattle.rtx_tree.specs.declared.tree.Rtx.TheOpen.{Rtx-F}
use Rattle.rtx_tree.specs.declared.tree.Rtx.TheFolds.{fold-Rtx}
use Rattle.rtx_tree.specs.declared.function.Insn.{Insn}
use Rattle.rtx_tree.specs.Tree.{head_of, kids_of, is_memory_code}
use Rattle.reg_uses.specs.Effects.{effects_of}

-- ---- expressions

abbrev pub memory_step : Rtx-F Bool → Bool
memory_step x = is_memory_code x.code || list_any (λ here. here) x.kids

-- memory stands in an expression
abbrev pub has_memory : Rtx → Bool
has_memory = fold-Rtx Bool memory_step

-- ---- one effect

abbrev pub place_loads_by : Code → List Rtx → Bool
place_loads_by Mem parts = list_any has_memory parts
place_loads_by _ parts = false

-- the place is memory whose address is read of memory
abbrev pub place_loads : Rtx → Bool
place_loads place = place_loads_by (head_of place).code (kids_of place)

abbrev pub effect_loads_by : Code → List Rtx → Rtx → Bool
effect_loads_by Set (place ∷ source ∷ []) x = place_loads place || has_memory source
effect_loads_by Clobber parts x = false
effect_loads_by _ parts x = has_memory x

-- a `set` loads what its source and the address of its place read of memory; a `clobber` loads
-- nothing; any other loads what it reads
abbrev pub effect_loads : Rtx → Bool
effect_loads x = effect_loads_by (head_of x).code (kids_of x) x

abbrev pub effect_stores_by : Code → List Rtx → Bool
effect_stores_by Set (place ∷ parts) = is_memory_code (head_of place).code
effect_stores_by _ parts = false

-- a `set` of memory
abbrev pub effect_stores : Rtx → Bool
effect_stores x = effect_stores_by (head_of x).code (kids_of x)

-- ---- instructions

-- an effect of the instruction loads
abbrev pub loads : Insn → Bool
loads i = list_any effect_loads (effects_of i.pattern)

-- an effect of the instruction stores
abbrev pub stores : Insn → Bool
stores i = list_any effect_stores (effects_of i.pattern)

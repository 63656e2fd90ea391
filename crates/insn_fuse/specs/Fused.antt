-- Two instructions as one: GCC Internals, "Passes and Files of the Compiler" (instruction
-- combination) and "Side Effect Expressions".
use Rattle.std.specs.Prelude.{ℕ, ℤ, pos, ◌+◌, ◌^◌, ◌&&◌, Bool, nat_le, nat_lt, List, [], ◌∷◌, ◌++◌, map, Option, Some, None, if◌then◌else◌}
use Rattle.rtx_tree.specs.declared.code.Code.{Code}
use Rattle.rtx_tree.specs.declared.code.Code.TheVariants.{Reg, Mem, Set, Clobber, Parallel}
use Rattle.rtx_tree.specs.declared.function.Insn.{Insn}
use Rattle.rtx_tree.specs.declared.function.Kind.{Kind}
use Rattle.rtx_tree.specs.declared.function.Kind.TheVariants.{Plain}
use Rattle.rtx_tree.specs.declared.tree.Rtx.{Rtx}
use Rattle.rtx_tree.specs.declared.tree.Rtx.TheOpen.{Rtx-F}
use Rattle.rtx_tree.specs.declared.tree.Rtx.TheFolds.{fold-Rtx}
use Rattle.rtx_tree.specs.Registers.{pseudo}
use Rattle.rtx_tree.specs.Tree.{head_of, kids_of, is_reg_numbered, replaced_at}
use Rattle.rtx_simple.specs.Simple.{simplified}

-- ---- the first

abbrev pub pseudo_by : Code → ℤ → Option ℕ
pseudo_by Reg (pos number) = if nat_le (pseudo 0) number && nat_lt number (2 ^ 32) then Some number else None
pseudo_by _ number = None

-- the pseudo register that a tree is, of those whose numbers have 32 bits
abbrev pub pseudo_of : Rtx → Option ℕ
pseudo_of x = pseudo_by (head_of x).code (head_of x).number

abbrev pub set_by : Kind → Code → List Rtx → Option ℕ
set_by Plain Set (target ∷ source ∷ []) = pseudo_of target
set_by _ _ parts = None

-- the pseudo register of which an instruction is a plain set
abbrev pub set_of : Insn → Option ℕ
set_of i = set_by i.kind (head_of i.pattern).code (kids_of i.pattern)

-- ---- where the second reads it

-- the paths of the parts, each behind the index of its part
abbrev pub behind_indices : ℕ → List (List (List ℕ)) → List (List ℕ)
behind_indices k [] = []
behind_indices k (paths ∷ parts) = map (λ path. k ∷ path) paths ++ behind_indices (k + 1) parts

-- the tree is the register
abbrev pub is_numbered : Rtx → ℕ → Bool
is_numbered x reg = is_reg_numbered (head_of x).code (head_of x).number reg

abbrev pub here_too : Code → ℤ → ℕ → List (List ℕ)
here_too code number reg = if is_reg_numbered code number reg then [] ∷ [] else []

abbrev pub mentioned_step : ℕ → Rtx-F (List (List ℕ)) → List (List ℕ)
mentioned_step reg x = here_too x.code x.number reg ++ behind_indices 0 x.kids

-- the paths at which a register stands in a tree, in the order of the text
unfoldable pub mentioned_at : ℕ → Rtx → List (List ℕ)
mentioned_at reg = fold-Rtx (List (List ℕ)) (mentioned_step reg)

abbrev pub address_by : ℕ → Code → Rtx → List (List ℕ)
address_by reg Mem place = mentioned_at reg place
address_by reg _ place = []

-- those in the address of memory that is set
abbrev pub address_reads : ℕ → Rtx → List (List ℕ)
address_reads reg place = address_by reg (head_of place).code place

abbrev pub effect_reads_by : ℕ → Code → List Rtx → Rtx → List (List ℕ)
effect_reads_by reg Set (place ∷ source ∷ []) x = behind_indices 0 (address_reads reg place ∷ mentioned_at reg source ∷ [])
effect_reads_by reg Clobber parts x = []
effect_reads_by reg _ parts x = mentioned_at reg x

-- the paths at which an effect reads a register: not where a `set` sets it, and not what a
-- `clobber` names
abbrev pub effect_reads : ℕ → Rtx → List (List ℕ)
effect_reads reg x = effect_reads_by reg (head_of x).code (kids_of x) x

abbrev pub reads_by : ℕ → Code → List Rtx → Rtx → List (List ℕ)
reads_by reg Parallel parts x = behind_indices 0 (map (effect_reads reg) parts)
reads_by reg _ parts x = effect_reads reg x

-- the paths at which a pattern reads a register
abbrev pub reads_at : ℕ → Rtx → List (List ℕ)
reads_at reg x = reads_by reg (head_of x).code (kids_of x) x

-- ---- both

-- the second with the first's source put in at a path, and simplified
abbrev pub fused : Rtx → List ℕ → Rtx → Rtx
fused second path source = simplified (replaced_at path source second)

-- Basic blocks: GCC Internals, "Basic Blocks".
use Rattle.std.specs.Prelude.{◌≡◌, ◌<◌, ℕ, suc, zero, Bool, true, false, ◌||◌, List, [], ◌∷◌, Option, Some, None, length, filter, slice_get}
use Rattle.std.specs.List.{range_with_len}
use Rattle.rtx_tree.specs.declared.function.Kind.{Kind}
use Rattle.rtx_tree.specs.declared.function.Kind.TheVariants.{Jump}
use Rattle.rtx_tree.specs.declared.function.Insn.{Insn}
use Rattle.rtx_tree.specs.Patterns.{is_label_kind}
use Rattle.rtl_func.specs.declared.block_list.Block.{Block}

abbrev pub is_jump_kind : Kind → Bool
is_jump_kind Jump = true
is_jump_kind _ = false

-- what stands at a place, if it is within the chain
abbrev pub is_label_at : Option Insn → Bool
is_label_at None = false
is_label_at (Some i) = is_label_kind i.kind

abbrev pub is_jump_at : Option Insn → Bool
is_jump_at None = false
is_jump_at (Some i) = is_jump_kind i.kind

-- a block starts at the first place, at each label and after each jump
abbrev pub starts_block : List Insn → ℕ → Bool
starts_block insns zero = true
starts_block insns (suc p) = is_label_at (slice_get insns (suc p)) || is_jump_at (slice_get insns p)

-- the places at which a block starts, in order
abbrev pub starts : List Insn → List ℕ
starts insns = filter (starts_block insns) (range_with_len 0 (length insns))

abbrev pub block_of : ℕ → ℕ → Block
block_of first end = record { first = first; end = end }

-- each block runs to where the next starts, and the last to the end
abbrev pub blocks_between : List ℕ → ℕ → List Block
blocks_between [] end = []
blocks_between (first ∷ []) end = block_of first end ∷ []
blocks_between (first ∷ next ∷ rest) end = block_of first next ∷ blocks_between (next ∷ rest) end

-- the blocks of a chain, in order
abbrev pub blocks_of : List Insn → List Block
blocks_of insns = blocks_between (starts insns) (length insns)

-- blocks cover the places from one on to an end, in order and without a gap, and none is empty
abbrev pub Cover : ℕ → List Block → ℕ → Type 0
Cover place [] end = place ≡ end
Cover place (b ∷ blocks) end = (b.first ≡ place) × (b.first < b.end) × Cover b.end blocks end

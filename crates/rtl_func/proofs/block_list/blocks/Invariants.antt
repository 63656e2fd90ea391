use Rattle.std.proofs.Common.{◌≡◌, ◌+◌, ◌-◌, ◌<◌, ◌++◌, ◌∷◌, length, filter}
use Rattle.std.specs.List.{range_with_len}
use Rattle.rtl_func.specs.Blocks.{starts_block, blocks_between, blocks_of}
use Rattle.rtl_func.proofs.block_list.blocks.Given as goal

abbrev pub invariant-loop-place : goal.invariant-loop-place
invariant-loop-place l = record {
  made : l.blocks.items ++ blocks_between (l.first ∷ filter (starts_block l.insns) (range_with_len l.place (length l.insns - l.place))) (length l.insns) ≡ blocks_of l.insns;
  some : l.place < length l.insns + 1;
}

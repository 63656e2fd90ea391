use Rattle.std.proofs.Common.{rules, ltb}
use Rattle.std.proofs.lemmas.List.Sorted.{IsPartitionPoint-from_clause, IsPartitionedBy-ltb}
use Rattle.run_memory.proofs.Parts.{addresses_rise, ordered_behind, visible_behind}
use Rattle.run_memory.proofs.after_gap.Goals as goal

pub returns-clause-visible : goal.returns-clause-visible
returns-clause-visible c =
    let parted = IsPartitionedBy-ltb (λ b. b.address) _ c.next_start-next.result (addresses_rise c.args.hidden c.args.behind.now c.requires.ordered) in
    let point = IsPartitionPoint-from_clause (λ b. ltb b.address c.next_start-next.result) _ _ c.partition_point-gap.ensures.partitioned parted (λ a r q k. search rules) in
    visible_behind _ c.args.hidden _ c.next_start-next.result _ c.requires.ordered c.partition_point-gap.ensures.bound (c.next_start-next.ensures c.requires.is_hidden) point.0

pub returns-clause-ordered : goal.returns-clause-ordered
returns-clause-ordered c = ordered_behind c.args.hidden _ _ c.requires.ordered

use Rattle.std.proofs.Common.{List, sym, subst}
use Rattle.rtx_tree.specs.Memories.{IsAbove}
use Rattle.rtx_tree.specs.declared.memories.MemByte.{MemByte}
use Rattle.rtx_tree.proofs.MemoryLaws.{ordered-pushed}
use Rattle.rtx_tree.proofs.memories.Memories.push.Goals as goal

pub invariant_of-self : goal.invariant_of-self
invariant_of-self c =
    let above = subst (λ (bytes : List MemByte). IsAbove bytes c.args.byte.address) (sym c.self.view_is) c.requires in
    ordered-pushed c.push.result c.self.inside.bytes c.push.new.self c.args.byte c.push.ensures.ok c.push.ensures.err c.self.invariant above

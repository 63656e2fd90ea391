use Rattle.gen_emit.proofs.Nodes.{is_made}
use Rattle.gen_emit.proofs.layout.node_at.Goals as goal

pub returns : goal.returns
returns c =
    is_made c.args.heads.now c.args.end c.size_of.result c.index-heads-at.result c.last_parts-parts.result c.requires.end c.index-heads-at.is c.size_of.ensures.value c.last_parts-parts.ensures.trees c.last_parts-parts.ensures.ends

use Rattle.std.proofs.Common.{sym, ap, ◌∙◌}
use Rattle.c_cond.specs.Tree.{heads_of, tree_of}
use Rattle.plain_held.proofs.Wholes.{words_whole}
use Rattle.plain_held.proofs.heads.are_statements.Goals as goal

pub returns : goal.returns
returns c = (
  λ yes. sym c.heads.ensures.tree ∙ ap tree_of (c.are_heads.ensures.0 yes),
  λ is. c.are_heads.ensures.1 (c.heads.ensures.heads ∙ ap heads_of is ∙ words_whole c.args.words.now c.requires),
)

use Rattle.std.proofs.Common.{ap, ◌∙◌}
use Rattle.rtx_tree.specs.Tree.{head_of}
use Rattle.md_recog.specs.Match.{Accepts}
use Rattle.lower_insn.proofs.fit.accepts.Goals as goal

pub returns : goal.returns
returns c =
    c.holds.ensures ∙ ap (λ (a : Accepts). a (head_of c.args.placeholder.now).name c.args.x.now (head_of c.args.placeholder.now).mode) c.preds-preds.ensures

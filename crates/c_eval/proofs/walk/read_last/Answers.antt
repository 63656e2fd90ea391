use Rattle.std.proofs.Common.{sym, ◌∙◌, length}
use Rattle.std.proofs.lemmas.Bool.Decides.{Decides-eqb}
use Rattle.c_eval.proofs.Lists.{nothing_read}
use Rattle.c_eval.proofs.walk.read_last.Goals as goal

pub returns-then-is_empty : goal.returns-then-is_empty
returns-then-is_empty g c =
    c.read.ensures ∙ nothing_read (g.R.Reads.read_by c.args.reads.now) c.args.heads.now ((Decides-eqb (length c.args.heads.now) 0).0 (sym c.is_empty.ensures ∙ c.if-is_empty.true))

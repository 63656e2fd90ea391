use Rattle.md_emit.proofs.Tabled.{first_as, none_as}
use Rattle.md_emit.proofs.split.split_counted.Goals as goal

pub returns-clause-first : goal.returns-clause-first
returns-clause-first g c =
    first_as c.args.desc.now c.forms.result.now c.as_slice.result.now c.preds.result.now c.args.facts.now c.args.insn.now c.args.from
    c.recog.result c.as_slice.ensures.value c.forms.ensures.forms c.preds.ensures c.recog.ensures.first

pub returns-clause-none : goal.returns-clause-none
returns-clause-none g c =
    none_as c.args.desc.now c.forms.result.now c.as_slice.result.now c.preds.result.now c.args.facts.now c.args.insn.now c.args.from
    c.recog.result c.as_slice.ensures.value c.forms.ensures.forms c.preds.ensures c.recog.ensures.none

use Rattle.md_desc.proofs.Tabled.{first_as, none_as, small_as}
use Rattle.md_desc.proofs.description.Description.first_counted.Goals as goal

pub returns-clause-first : goal.returns-clause-first
returns-clause-first g c =
    first_as c.args.self.now c.self.inside.forms c.as_slice-forms.result.now c.self.inside.preds c.args.facts.now c.args.insn.now c.args.from c.recog.result c.as_slice-forms.ensures.value c.self.view_is c.self.invariant.accepts c.recog.ensures.first

pub returns-clause-none : goal.returns-clause-none
returns-clause-none g c =
    none_as c.args.self.now c.self.inside.forms c.as_slice-forms.result.now c.self.inside.preds c.args.facts.now c.args.insn.now c.args.from c.recog.result c.as_slice-forms.ensures.value c.self.view_is c.self.invariant.accepts c.recog.ensures.none

pub returns-clause-small : goal.returns-clause-small
returns-clause-small g c = small_as c.args.self.now c.self.inside.forms c.args.facts.now c.args.insn.now c.args.from c.recog.result c.self.view_is c.self.invariant.short (returns-clause-first g c)

use Rattle.std.proofs.Common.{◌∙◌, sym}
use Rattle.reload.proofs.Adding.{stays_added}
use Rattle.reload.proofs.insn.add_insn.Goals as goal

pub returns : goal.returns
returns c =
    let s = c.args.setting.now in
    stays_added s.desc.now s.homes.now s.layout.now c.args.uid c.args.insn.now
    c.in_ok-pattern.pattern c.args.insns.now
    c.add_with.new.insns (sym c.needs_form.ensures ∙ c.if-needs_form.false) c.in_ok-pattern.ensures
    c.in_ok-add_with.ensures

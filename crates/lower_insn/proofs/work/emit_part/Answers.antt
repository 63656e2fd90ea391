use Rattle.std.proofs.Common.{List, map, sym, ap, ◌∙◌}
use Rattle.lower_insn.specs.declared.part.Part.{Part}
use Rattle.lower_insn.proofs.Steps.{put_more, emits_so, fails_so}
use Rattle.lower_insn.proofs.work.emit_part.Goals as goal

pub returns-in_ok-put-in-Some : goal.returns-in_ok-put-in-Some
returns-in_ok-put-in-Some c =
    emits_so c.args.desc.now c.args.uids c.args.work c.in_ok-put-in-Some.field-0 c.args.emit.made c.args.emit.tree c.args.emit.form c.args.emit.operands c.in-Some.emission
    (sym c.in_ok-emission.ensures ∙ c.in-Some.is)
    (c.in_ok-put-in-Some.ensures ∙ ap (λ (ps : List Part). put_more c.args.work ps c.in-Some.emission.next) c.in_ok-parts-in-Some.ensures)

pub returns-in_ok-unmatched-in-None : goal.returns-in_ok-unmatched-in-None
returns-in_ok-unmatched-in-None c =
    fails_so c.args.desc.now c.args.uids c.args.work c.args.emit.made c.args.emit.tree c.args.emit.form c.args.emit.operands c.in_ok-unmatched-in-None.field-0
    (sym c.in_ok-emission.ensures ∙ c.in-None.is) c.in_ok-unmatched-in-None.ensures

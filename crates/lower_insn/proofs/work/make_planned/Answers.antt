use Rattle.std.proofs.Common.{List, false, ◌++◌, refl, ap, ◌∙◌}
use Rattle.std.specs.Prelude.{reverse}
use Rattle.lower_insn.specs.declared.part.Part.{Part}
use Rattle.lower_insn.specs.declared.work.Work.{Work}
use Rattle.lower_insn.specs.Lowered.{Lowers, parts_of}
use Rattle.lower_insn.specs.machine.Work.{Comes}
use Rattle.lower_insn.proofs.Refusing.{gives_map}
use Rattle.lower_insn.proofs.Steps.{whole}
use Rattle.lower_insn.proofs.work.make_planned.Goals as goal

pub returns : goal.returns
returns c =
    let parts = parts_of false c.args.tree c.args.plan in
    let work : Work = record { parts = c.in_ok-put_all.field-0; sequence = c.new-2.result; next = c.args.plan.next } in
    let stack = c.in_ok-put_all.ensures ∙ (ap (λ (s : List Part). s ++ reverse c.in_ok-parts.parts) c.new.ensures ∙ ap reverse c.in_ok-parts.ensures) in
    gives_map c.make_all.result (Comes c.args.desc.now c.args.uids work) (Lowers c.args.desc.now c.args.uids parts 0 c.args.plan.next)
    (whole c.args.desc.now c.args.uids parts c.args.plan.next work stack c.new-2.ensures refl) c.make_all.ensures

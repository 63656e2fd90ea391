use Rattle.std.proofs.Common.{◌≡◌, true, false, rules}
use Rattle.form_needs.specs.Needs.{needs_form}
use Rattle.lower_insn.specs.Lowered.{InsnLowers}
use Rattle.lower_insn.proofs.ByPlan.{stays_if}
use Rattle.lower_insn.proofs.insn.stays.Goals as goal

pub returns-then-not-needs_form : goal.returns-then-not-needs_form
returns-then-not-needs_form c =
    let free : needs_form c.args.insn.now ≡ false = search rules in
    λ greatest next. InsnLowers.free free

pub returns : goal.returns
returns c =
    let needs : needs_form c.args.insn.now ≡ true = search rules in
    stays_if c.args.desc.now c.args.insn.now c.in_ok-is_matched.field-0 needs c.in_ok-is_matched.ensures

use Rattle.std.specs.Prelude.{◌&&◌}
use Rattle.rtx_tree.specs.Tree.{mentions_reg}
use Rattle.md_constr.specs.Inputs.{effects_of}
use Rattle.reload_operands.specs.Bases.{lives_in_slot}
use Rattle.reload_operands.specs.Changes.{changed_register}
use Rattle.reload_operands.proofs.ChangeLaws.{kept_any_in}
use Rattle.reload_operands.proofs.changes.changes_slot_in.Goals as goal

pub returns : goal.returns
returns c =
    kept_any_in changed_register (λ reg. lives_in_slot c.args.homes.now reg && mentions_reg reg c.args.address.now) (effects_of c.args.insn.now) c.effects_of.result.now c.any_changes_slot.result c.effects_of.ensures c.any_changes_slot.ensures

-- The opposite branch, and the jump.
use Rattle.std.proofs.Common.{◌∙◌, ap}
use Rattle.std.specs.Prelude.{ℤ, pos, ◌-ℤ◌}
use Rattle.std.specs.Int.{w64}
use Rattle.std.proofs.lemmas.Int.{to_z-of_z}
use Rattle.rv_word.proofs.Behind.{two}
use Rattle.rv_word.specs.Spelling.{base_of, opposite}
use Rattle.rv_word.specs.declared.base.BaseOp.TheVariants as base
use Rattle.rv_word.proofs.sequence.push_long_branch.Goals as goal

pub returns : goal.returns
returns c =
    let further = c.args.further in
    let jump = c.jump_from_before.ensures ∙ ap (λ (z : ℤ). base_of base.Jal 0 0 0 (z -ℤ pos 4)) (to_z-of_z w64 further c.ranges.further) in
    two c.push-2.result c.args.words.now c.push.new.words c.push-2.new.words c.over_next.result c.jump_from_before.result (base_of (opposite c.args.op) 0 c.args.rs1 c.args.rs2 (pos 8)) (base_of base.Jal 0 0 0 (further -ℤ pos 4)) c.over_next.ensures jump c.in_ok-push.ensures c.push-2.ensures

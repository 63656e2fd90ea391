use Rattle.std.proofs.Common.{◌≡◌, ◌<◌, length, arith, sym, ap, ◌∙◌, true, false}
use Rattle.rtl_func.specs.Blocks.{starts_block}
use Rattle.rtl_func.proofs.BlockLaws.{more_yes, more_no}
use Rattle.rtl_func.proofs.block_list.blocks.Goals as goal
use Rattle.rtl_func.proofs.block_list.blocks.Goals.{then-starts_block+in_ok-push, else-starts_block}

pub loop-place-preserved : goal.loop-place-preserved
loop-place-preserved c =
    let insns = c.as_slice-insns.result.now in
    let place = c.loop-place.place in
    let end = length insns in
    let test = starts_block insns in
    let within : place < end = omega arith in
    let so_far = c.loop-place.invariant.made in
    elim c.if-starts_block.branch [
      | then-starts_block+in_ok-push w ↦
          let is : test place ≡ true = sym c.starts_block.ensures ∙ w.if-starts_block.true in
          record {
            made = more_yes test c.loop-place.first place end c.if-starts_block.first c.loop-place.blocks.items c.if-starts_block.blocks.items _ within is (ap (λ b. b.items) w.blocks-is ∙ w.in_ok-push.ensures.items) w.first-is so_far;
            some = omega arith;
          }
      | else-starts_block w ↦
          let is : test place ≡ false = sym c.starts_block.ensures ∙ w.if-starts_block.false in
          record {
            made = more_no test c.loop-place.first place end c.if-starts_block.first c.loop-place.blocks.items c.if-starts_block.blocks.items _ within is (ap (λ b. b.items) w.blocks-is) w.first-is so_far;
            some = omega arith;
          }
    ]

use Rattle.std.proofs.Common.{◌≡◌, ℕ, ◌<◌, length, get_or, sym, arith}
use Rattle.std.proofs.lemmas.Option.{slice_get-get_or, get_or_from_slice_get}
use Rattle.lint_choices.specs.Registers as spec
use Rattle.lint_choices.proofs.PushedLaws.{mapped_next}
use Rattle.lint_choices.proofs.registers.all_same.Goals as goal

pub loop-slot-preserved : goal.loop-slot-preserved
loop-slot-preserved c =
    let i : ℕ = c.loop-slot.slot-index in
    let within : i < length c.args.regs.now = omega arith in
    let x : ℕ = get_or c.args.regs.now i 0 in
    let is : x ≡ get_or c.args.regs.now i x = sym (get_or_from_slice_get c.args.regs.now i x x (slice_get-get_or c.args.regs.now i 0 within)) in
    mapped_next (λ (other : ℕ). c.args.reg) c.args.regs.now i x c.loop-slot.same c.push.new.self _ within is c.in_ok-push.ensures.ok c.loop-slot.invariant

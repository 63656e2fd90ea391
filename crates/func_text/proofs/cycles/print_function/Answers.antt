use Rattle.std.proofs.Common.{List, ◌≡◌, sym, subst}
use Rattle.std.proofs.lemmas.Result.{err_from_is_err_and}
use Rattle.func_text.proofs.CyclesTold.{after_refuses, form_refuses, cycles_come}
use Rattle.func_text.proofs.cycles.print_function.Goals as goal

pub returns-in_err-made : goal.returns-in_err-made
returns-in_err-made c =
    let p = err_from_is_err_and c.from_residual.result c.from_residual.ensures.1 in
    rw (p.1, p.2) (after_refuses c.args.desc.now c.args.f.now c.in_err-made.field-0.0 c.in_err-made.ensures.gives)

pub returns-in_err-check_insns : goal.returns-in_err-check_insns
returns-in_err-check_insns c =
    let p = err_from_is_err_and c.from_residual-in_err-check_insns.result c.from_residual-in_err-check_insns.ensures.1 in
    rw (p.1, p.2)
    (form_refuses c.args.desc.now c.args.f.now c.in_ok-made.made c.in_ok-ordered.ordered c.in_ok-ordered.cycles c.in_ok-made.ensures.gives
    (rw c.pipeline.ensures.is_of at c.in_ok-ordered.ensures.scheduled) c.in_err-check_insns.field-0.0
    (rw c.as_slice.ensures.value at c.in_err-check_insns.ensures))

pub returns : goal.returns
returns c =
    cycles_come c.args.desc.now c.args.f.now c.in_ok-made.made c.in_ok-ordered.ordered c.in_ok-ordered.cycles c.in_ok-made.ensures.gives
    (rw c.pipeline.ensures.is_of at c.in_ok-ordered.ensures.scheduled)
    c.args.out.now.items c.print_cycles.new.out.items (rw c.as_slice.ensures.value at c.in_ok-check_insns.ensures)
    (rw c.as_slice-2.ensures.value at c.in_ok-print_cycles.ensures)

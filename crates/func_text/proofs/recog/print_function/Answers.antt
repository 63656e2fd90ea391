use Rattle.std.proofs.lemmas.Result.{err_from_is_err_and}
use Rattle.func_text.proofs.Told.{after_refuses, function_comes}
use Rattle.func_text.proofs.recog.print_function.Goals as goal

pub returns-in_err-made : goal.returns-in_err-made
returns-in_err-made c =
    let p = err_from_is_err_and c.from_residual.result c.from_residual.ensures.1 in
    rw (p.1, p.2) (after_refuses c.args.desc.now c.args.f.now c.in_err-made.field-0.0 c.in_err-made.ensures.gives)

pub returns : goal.returns
returns c =
    function_comes c.args.desc.now c.args.f.now c.in_ok-made.made c.args.out.now.items c.print_insns.new.out.items
    c.print_insns.result c.in_ok-made.ensures.gives (rw c.as_slice-insns.ensures.value at c.print_insns.ensures)

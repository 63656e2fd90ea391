use Rattle.std.proofs.lemmas.Result.{err_from_is_err_and}
use Rattle.rtl_print.specs.Canonical.{printed_function}
use Rattle.func_text.specs.Dump.{FunctionComes}
use Rattle.func_text.proofs.DumpTold.{behind_refuses}
use Rattle.func_text.proofs.dump.dump_function.Goals as goal

pub returns-in_err-made : goal.returns-in_err-made
returns-in_err-made c =
    let p = err_from_is_err_and c.from_residual.result c.from_residual.ensures.1 in
    rw (p.1, p.2)
    (behind_refuses c.args.desc.now c.args.pass c.args.f.now c.in_err-made.field-0.0 c.in_err-made.ensures)

pub returns : goal.returns
returns c =
    let m = c.in_ok-made.made in
    (printed_function m.function, FunctionComes.printed m c.in_ok-made.ensures, c.in_ok-print_function.ensures.prints)

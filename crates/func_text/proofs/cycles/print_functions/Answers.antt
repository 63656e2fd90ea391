use Rattle.std.proofs.Common.{subst, arith}
use Rattle.std.proofs.lemmas.List.{drop_all}
use Rattle.std.proofs.lemmas.Result.{err_from_is_err_and}
use Rattle.func_text.specs.Cycles.{FunctionComes}
use Rattle.func_after.proofs.Each.{Makes, makes_wrong, makes_all}
use Rattle.func_text.proofs.cycles.print_functions.Goals as goal

pub returns-in_err-print_function : goal.returns-in_err-print_function
returns-in_err-print_function c =
    let p = err_from_is_err_and c.from_residual.result c.from_residual.ensures.1 in
    rw (p.1, p.2)
    (makes_wrong (FunctionComes c.args.desc.now) c.args.functions.now c.args.out.now.items c.loop-f.out.items c.loop-f.f-index c.f-item.result c.in_err-print_function.field-0.0 (omega arith) c.f-item.is c.in_err-print_function.ensures c.loop-f.invariant)

pub returns : goal.returns
returns c =
    let comes = FunctionComes c.args.desc.now in
    makes_all comes c.args.functions.now c.args.out.now.items c.loop-f.out.items (subst (Makes comes c.args.functions.now c.args.out.now.items c.loop-f.out.items) (drop_all c.loop-f.f-index c.args.functions.now (omega arith)) c.loop-f.invariant)

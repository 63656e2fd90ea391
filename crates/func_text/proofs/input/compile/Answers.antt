use Rattle.std.proofs.Common.{ℕ, List, ◌++◌, refl, ap, ◌∙◌}
use Rattle.std.proofs.lemmas.Result.{err_from_is_err_and}
use Rattle.func_text.proofs.input.compile.Goals as goal

pub returns-in_err-assembly-clause-gives : goal.returns-in_err-assembly-clause-gives
returns-in_err-assembly-clause-gives c =
    let p = err_from_is_err_and c.from_residual.result c.from_residual.ensures.1 in
    rw (p.1, p.2) c.in_err-assembly.ensures

pub returns-clause-gives : goal.returns-clause-gives
returns-clause-gives c =
    (c.in_ok-assembly.assembly, c.in_ok-assembly.ensures, c.in_ok-append_text.ensures.appended ∙ ap (λ (t : List ℕ). c.args.out.now.items ++ t) c.into_vec.ensures, refl)

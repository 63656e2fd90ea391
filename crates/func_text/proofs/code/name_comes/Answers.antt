use Rattle.std.proofs.Common.{ℕ, ◌<◌, ◌∙◌, sym, subst}
use Rattle.std.proofs.lemmas.Result.{err_from_is_err_and}
use Rattle.func_text.specs.Code.{NameComes}
use Rattle.func_text.proofs.CodeLaws.{name_refused, parts_of}
use Rattle.func_text.proofs.code.name_comes.Goals as goal

pub returns-in_default-clause-comes : goal.returns-in_default-clause-comes
returns-in_default-clause-comes c = NameComes.unnamed (rw c.as_slice.ensures.value at (sym c.place_named.ensures.place ∙ c.in_default.is))

pub returns-in_err-assembly-clause-comes : goal.returns-in_err-assembly-clause-comes
returns-in_err-assembly-clause-comes c =
    let p = err_from_is_err_and c.from_residual.result c.from_residual.ensures.1 in
    rw (p.1, p.2)
    (name_refused c.args.description.now c.args.functions c.args.name.now c.in-Some.place c.in_err-assembly.field-0.0 (rw c.as_slice.ensures.value at (sym c.place_named.ensures.place ∙ c.in-Some.is))
    (rw c.as_slice-2.ensures.value at c.in_err-assembly.ensures))

pub coded_at-requires-clause-part : goal.coded_at-requires-clause-part
coded_at-requires-clause-part c =
    subst (λ (n : ℕ). c.in-Some.place < n) (sym (parts_of c.args.description.now c.args.functions c.in_ok-assembly.assembly (rw c.as_slice-2.ensures.value at c.in_ok-assembly.ensures)))
    (rw c.as_slice.ensures.value at c.in-Some.ensures.within)

pub returns-clause-comes : goal.returns-clause-comes
returns-clause-comes c =
    NameComes.coded c.in-Some.place c.in_ok-assembly.assembly c.coded_at.result (rw c.as_slice.ensures.value at (sym c.place_named.ensures.place ∙ c.in-Some.is)) (rw c.as_slice-2.ensures.value at c.in_ok-assembly.ensures) c.coded_at.ensures

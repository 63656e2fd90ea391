use Rattle.std.proofs.Common.{◌≡◌, ◌+◌, ℕ, length, take, ap, arith}
use Rattle.md_iter.specs.Definition.{definitions_in}
use Rattle.md_iter.specs.Expansion.{forms_of, forms_with}
use Rattle.lint_source.proofs.ArrangedLaws.{forms_before}
use Rattle.lint_source.proofs.StandLaws.{ok_so}
use Rattle.lint_source.proofs.arranged.Arranged.forms_before.Goals as goal

pub returns : goal.returns
returns c = λ trees is within.
    let sum : c.in-Some.count ≡ c.args.self.now.definitions + c.set_in-forms.result = omega (arith, c.in-Some.ensures) in
    ok_so c.forms_in.result (λ (n : ℕ). n ≡ length (forms_of (take c.in-Some.count c.as_slice-2.result.now))) (λ (n : ℕ). n ≡ length (forms_with (definitions_in trees) (take c.args.end trees)))
    (λ n made. forms_before trees c.args.self.now c.args.end c.set_in-forms.result c.in-Some.count (take c.args.end c.as_slice.result.now) (take c.in-Some.count c.as_slice-2.result.now) n is
    (ap (take c.args.end) c.as_slice.ensures.value) c.set_in-forms.ensures sum (ap (take c.in-Some.count) c.as_slice-2.ensures.value) made) c.forms_in.ensures

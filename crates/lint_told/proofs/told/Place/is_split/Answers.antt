use Rattle.std.proofs.Common.{◌≡◌, None}
use Rattle.lint_told.proofs.ComesLaws.{is_split}
use Rattle.lint_told.proofs.told.Place.is_split.Goals as goal

pub returns-in_default-clause-kept : goal.returns-in_default-clause-kept
returns-in_default-clause-kept c =
    let none : c.in_ok-first_split.field-0 ≡ None = cc in
    λ same. c.in_ok-first_split.ensures.none none

pub returns-clause-splits : goal.returns-clause-splits
returns-clause-splits c =
    λ same kept. is_split c.args.self.now.description.now 0 c.args.insn.now c.in-Some.field-0.form c.in-Some.field-0.sequence
    (c.in_ok-first_split.ensures.some c.in-Some.field-0 c.in-Some.is) kept

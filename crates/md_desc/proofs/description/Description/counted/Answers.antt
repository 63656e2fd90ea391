use Rattle.std.proofs.Common.{◌≡◌, ◌↔◌, ℕ, true, Option, Some, rules, subst}
use Rattle.md_desc.specs.Recog.{is_printed, IsLowest}
use Rattle.md_desc.proofs.Lowest.{counts}
use Rattle.md_desc.proofs.description.Description.counted.Goals as goal

pub returns-in-Some : goal.returns-in-Some
returns-in-Some c =
    let m = c.args.found in
    let printed : is_printed c.args.self.now m.form ≡ true = search rules in
    counts c.args.self.now m c.in-Some.alternative printed
    (subst (λ (r : Option ℕ). (a : ℕ) → (r ≡ Some a) ↔ IsLowest c.args.self.now m.form m.operands a) c.in-Some.is c.in_ok-alternative.ensures)

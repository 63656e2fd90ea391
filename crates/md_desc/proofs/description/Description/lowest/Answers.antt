use Rattle.std.proofs.Common.{◌≡◌, ◌+◌, sym, subst, ◌∙◌, rules}
use Rattle.md_desc.proofs.Lowest.{NoneBelow, goes_on}
use Rattle.md_desc.proofs.description.Description.lowest.Goals as goal

pub loop-form-preserved : goal.loop-form-preserved
loop-form-preserved c =
    let next : c.loop-form.alternative + 1 ≡ c.in-Some.next = search rules in
    subst (NoneBelow c.args.self.now c.args.form c.args.operands.now) next
    (goes_on c.args.self.now c.args.form c.args.operands.now c.loop-form.alternative c.loop-form.invariant (sym c.is_usable.ensures ∙ c.if-is_usable.false))

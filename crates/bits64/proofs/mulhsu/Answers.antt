use Rattle.std.proofs.Common.{rules, ◌≡◌, ◌^◌, pos, ◌+ℤ◌, ◌*ℤ◌, ap, ◌∙◌}
use Rattle.bits64.specs.Words.{bits_of, signed, product_of, high_mixed}
use Rattle.bits64.proofs.Products.{halves-mixed}
use Rattle.bits64.proofs.mulhsu.Goals as goal

pub returns-clause-whole : goal.returns-clause-whole
returns-clause-whole c =
    let value : c.high_half.result ≡ high_mixed c.args.w c.args.a c.args.b = search rules in
    ap (λ k. signed c.args.w k *ℤ pos (2 ^ bits_of c.args.w) +ℤ pos (product_of c.args.w c.args.a c.args.b)) value ∙ halves-mixed c.args.w c.args.a c.args.b

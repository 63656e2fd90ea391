use Rattle.std.proofs.Common.{rules, ◌≡◌, ◌+◌, ◌*◌, ◌/◌, ◌^◌, ap, ◌∙◌}
use Rattle.bits64.specs.Words.{bits_of, product_of, high_unsigned}
use Rattle.bits64.proofs.Products.{halves-unsigned}
use Rattle.bits64.proofs.mulhu.Goals as goal

pub returns-clause-whole : goal.returns-clause-whole
returns-clause-whole c =
    let value : c.from.result * c.from-2.result / 2 ^ c.bits.result ≡ high_unsigned c.args.w c.args.a c.args.b = search rules in
    ap (λ k. k * 2 ^ bits_of c.args.w + product_of c.args.w c.args.a c.args.b) value ∙ halves-unsigned c.args.w c.args.a c.args.b

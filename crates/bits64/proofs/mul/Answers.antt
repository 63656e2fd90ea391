use Rattle.std.proofs.Common.{rules, ◌≡◌, sym, ◌∙◌}
use Rattle.bits64.specs.Words.{product_of}
use Rattle.bits64.proofs.Products.{wrapped-product}
use Rattle.bits64.proofs.mul.Goals as goal

pub returns-clause-signed : goal.returns-clause-signed
returns-clause-signed c =
    let value : c.trunc.result ≡ product_of c.args.w c.args.a c.args.b = search rules in
    value ∙ sym (wrapped-product c.args.w c.args.a c.args.b)

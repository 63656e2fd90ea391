use Rattle.std.proofs.Common.{ap, ◌∙◌}
use Rattle.std.specs.Prelude.{not}
use Rattle.md_dfa.specs.Test.{has_value}
use Rattle.md_dfa.proofs.TestLaws.{asks_equal, asks_and, asks_ior, asks_not}
use Rattle.md_dfa.proofs.test.+ask.Goals as goal

pub holds-returns-in-Equal : goal.holds-returns-in-Equal
holds-returns-in-Equal t c = λ forms are.
    c.has_value.ensures forms are
    ∙ ap (has_value forms c.args.form c.args.alternative c.in-Equal.name) c.as_slice.ensures.value
    ∙ asks_equal forms c.args.form c.args.alternative c.args.test.now c.in-Equal.name c.in-Equal.values c.in-Equal.is

pub holds-returns-in-And : goal.holds-returns-in-And
holds-returns-in-And t c = λ forms are.
    c.all_hold.ensures forms are ∙ asks_and forms c.args.form c.args.alternative c.args.test.now c.as_slice-parts.result.now c.in-And.is c.as_slice-parts.ensures.value

pub holds-returns-in-Ior : goal.holds-returns-in-Ior
holds-returns-in-Ior t c = λ forms are.
    c.any_holds.ensures forms are ∙ asks_ior forms c.args.form c.args.alternative c.args.test.now c.as_slice-parts.result.now c.in-Ior.is c.as_slice-parts.ensures.value

pub holds-returns-in-Not : goal.holds-returns-in-Not
holds-returns-in-Not t c = λ forms are.
    ap not (c.any_holds-in-Not.ensures forms are) ∙ asks_not forms c.args.form c.args.alternative c.args.test.now c.as_slice-parts.result.now c.in-Not.is c.as_slice-parts.ensures.value

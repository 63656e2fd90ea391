use Rattle.std.proofs.Common.{◌≡◌, ◌<◌, ◌^◌, sym, arith, rules}
use Rattle.std.specs.Fmt.{decimal}
use Rattle.rtlc_words.proofs.Numerals.{no_number-parse, number_printed, number_unprinted}
use Rattle.rtlc_words.proofs.numbers.number_in.Goals as goal

pub returns-in_default : goal.returns-in_default
returns-in_default c = sym (no_number-parse c.args.word.now c.in_default.field-0 c.parse.result c.in_default.is c.parse.ensures.value.0)

pub returns-then-eq : goal.returns-then-eq
returns-then-eq c =
    let small : c.in-Ok.number < 2 ^ 64 = omega arith in
    let is : c.format.result.now ≡ decimal c.in-Ok.number = search rules in
    let same : c.format.result.now ≡ c.args.word.now = search rules in
    sym (number_printed c.args.word.now c.format.result.now c.in-Ok.number small is same)

pub returns-else-eq : goal.returns-else-eq
returns-else-eq c =
    let is : c.format.result.now ≡ decimal c.in-Ok.number = search rules in
    sym (number_unprinted c.args.word.now c.format.result.now c.in-Ok.number c.parse.result c.in-Ok.is c.parse.ensures.value.0 is (λ same. search rules))

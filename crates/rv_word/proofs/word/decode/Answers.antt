-- What is decoded is the one instruction whose word it is.
use Rattle.std.proofs.Common.{rules, ◌≡◌, ◌<◌, ◌^◌, arith}
use Rattle.rv_word.specs.Word.{decode}
use Rattle.rv_word.proofs.Inverse.{decode_finds}
use Rattle.rv_word.proofs.word.decode.Goals as goal

pub returns-clause-inverse : goal.returns-clause-inverse
returns-clause-inverse c =
    let fits : c.args.word < 2 ^ 32 = omega arith in
    let is : c.decoded.result ≡ decode c.args.word = search rules in
    decode_finds c.args.word c.decoded.result fits is

use Rattle.std.proofs.Common.{◌≡◌, drop}
use Rattle.text_words.specs.Numbers.{read_digits}
use Rattle.text_words.proofs.number.read_digits.Given as goal

abbrev pub invariant-loop-byte : goal.invariant-loop-byte
invariant-loop-byte l = read_digits l.base l.value (drop l.byte-index l.digits) ≡ read_digits l.base 0 l.digits

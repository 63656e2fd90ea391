use Rattle.std.proofs.Common.{◌≡◌, drop}
use Rattle.std.specs.List.{list_all}
use Rattle.text_words.specs.Words.{is_symbol_byte}
use Rattle.text_words.proofs.words.all_in_symbol.Given as goal

abbrev pub invariant-loop-byte : goal.invariant-loop-byte
invariant-loop-byte l = list_all is_symbol_byte (drop l.byte-index l.bytes) ≡ list_all is_symbol_byte l.bytes

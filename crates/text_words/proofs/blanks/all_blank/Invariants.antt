use Rattle.std.proofs.Common.{◌≡◌, drop}
use Rattle.std.specs.List.{list_all}
use Rattle.text_words.specs.Blanks.{is_blank}
use Rattle.text_words.proofs.blanks.all_blank.Given as goal

abbrev pub invariant-loop-byte : goal.invariant-loop-byte
invariant-loop-byte l = list_all is_blank (drop l.byte-index l.text) ≡ list_all is_blank l.text

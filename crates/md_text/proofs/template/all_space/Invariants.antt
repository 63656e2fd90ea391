use Rattle.std.proofs.Common.{◌≡◌, drop}
use Rattle.std.specs.List.{list_all}
use Rattle.text_words.specs.Blanks.{is_space}
use Rattle.md_text.proofs.template.all_space.Given as goal

abbrev pub invariant-loop-byte : goal.invariant-loop-byte
invariant-loop-byte l = list_all is_space (drop l.byte-index l.text) ≡ list_all is_space l.text

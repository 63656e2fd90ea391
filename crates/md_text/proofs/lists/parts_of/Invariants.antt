use Rattle.std.proofs.Common.{◌≡◌, ◌++◌, drop}
use Rattle.md_text.specs.Lists.{prefixed, parts}
use Rattle.md_text.proofs.lists.parts_of.Given as goal

abbrev pub invariant-loop-byte : goal.invariant-loop-byte
invariant-loop-byte l = l.parts ++ prefixed l.part.items (parts l.mark (drop l.byte-index l.text)) ≡ parts l.mark l.text

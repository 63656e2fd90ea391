use Rattle.std.proofs.Common.{◌≡◌, map}
use Rattle.md_forms.specs.Shown.{shown_byte}
use Rattle.md_forms.proofs.ShownBytes.{shown_from}
use Rattle.md_forms.proofs.one_line.show_bytes.Given as goal

abbrev pub invariant-loop-byte : goal.invariant-loop-byte
invariant-loop-byte l = shown_from l.byte-index l.bytes ≡ map shown_byte l.initial.bytes

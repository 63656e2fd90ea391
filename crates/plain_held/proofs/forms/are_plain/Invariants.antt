-- All are the plain forms exactly where the rest are those of the parts that are left.
use Rattle.std.proofs.Common.{◌≡◌, ◌↔◌, drop}
use Rattle.std.specs.List.{flat_map}
use Rattle.plain_forms.specs.Forms.{plain_forms}
use Rattle.plain_held.specs.Parts.{forms_in, all_parts}
use Rattle.plain_held.proofs.forms.are_plain.Given as goal

abbrev pub invariant-loop-part : goal.invariant-loop-part
invariant-loop-part l =
    (l.entries ≡ plain_forms) ↔ (l.rest ≡ flat_map forms_in (drop l.part-index all_parts))

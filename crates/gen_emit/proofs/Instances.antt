-- Patterns with operands put in, one after the other.
use Rattle.std.proofs.Common.{◌≡◌, List, ◌++◌, map, Option, sym, ap, ◌∙◌}
use Rattle.std.specs.Prelude.{option_map}
use Rattle.rtx_tree.specs.declared.tree.Rtx.{Rtx}

-- instances put before those of other patterns, where these are there
abbrev pub with_front : List Rtx → Option (List Rtx) → Option (List Rtx)
with_front front rest = option_map (λ xs. front ++ xs) rest

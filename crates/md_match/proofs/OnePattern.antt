-- One pattern and one expression, as lists of one.
use Rattle.std.proofs.Common.{◌≡◌, [], ◌∷◌, Some, ap}
use Rattle.std.specs.Prelude.{option_map, option_and_then}
use Rattle.rtx_tree.specs.declared.tree.Rtx.{Rtx}
use Rattle.md_match.specs.Pattern.{Ops, instantiated}
use Rattle.md_match.specs.Match.{Suits, MatchesOne}

pub matches_one : (p x : Rtx) (o : Ops) → instantiated p o ≡ Some x → Suits (p ∷ []) o → MatchesOne p x o
matches_one p x o made suits = record { made = ap (λ a. option_and_then (λ x. option_map (λ xs. x ∷ xs) (Some [])) a) made; suits = suits }

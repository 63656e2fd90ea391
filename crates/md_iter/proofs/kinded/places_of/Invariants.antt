use Rattle.std.proofs.Common.{◌≡◌, ◌&&◌, List, ℕ, position, take}
use Rattle.std.specs.Str.{bytes_eq}
use Rattle.md_iter.specs.declared.definition.DefinitionKind.{DefinitionKind}
use Rattle.md_iter.specs.machine.Firsts.{agree, place_of_kind}
use Rattle.md_iter.proofs.kinded.places_of.Given as goal

abbrev pub invariant-loop-at : goal.invariant-loop-at
invariant-loop-at g l = (kind : DefinitionKind) (name : List ℕ) → place_of_kind l.places kind name ≡ position (λ d. agree (g.D.Kinded.kind d) kind && bytes_eq (g.D.Kinded.name d) name) (take l.at l.all)

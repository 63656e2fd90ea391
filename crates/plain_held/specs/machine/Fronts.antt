-- Entries in front of others.
use Rattle.std.specs.Prelude.{◌≡◌, List, ◌++◌, Option, Some, None}
use Rattle.std.specs.Borrow.{Bor}
use Rattle.md_forms.specs.declared.form.Entry.{Entry}

-- some entries stand in front of the rest, or in front of nothing
abbrev pub IsBehind : List Entry → List Entry → Option (Bor (List Entry)) → Type 0
IsBehind front all (Some rest) = all ≡ front ++ rest.now
IsBehind front all None = (rest : List Entry) → all ≡ front ++ rest → ⊥

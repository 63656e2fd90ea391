-- The names of some functions, in which a name is looked up at once.
use Rattle.std.specs.Prelude.{◌≡◌, ℕ, Bool, List}
use Rattle.std.specs.HashSet.{contains_by}
use Rattle.std.specs.List.{list_any}
use Rattle.std.specs.Str.{bytes_eq}
use Rattle.rtx_tree.specs.declared.function.Function.{Function}
use Rattle.rtl_func.specs.Rules.{has_name}
use Rattle.rtl_func.specs.declared.names.Names.{Names}

-- a name is among them
abbrev pub is_among : Names → List ℕ → Bool
is_among names name = contains_by (λ text. bytes_eq name text.items) names.texts

-- the names are those of some functions
abbrev pub AreNames : List Function → Names → Type 0
AreNames functions names =
    (name : List ℕ) → is_among names name ≡ list_any (has_name name) functions

-- The places behind labels.
use Rattle.std.specs.Prelude.{◌≡◌, ◌≤◌, ℕ, List, length, drop, Option, Some, None, MatchOption}
use Rattle.std.specs.HashMap.{get_by}
use Rattle.std.specs.Str.{bytes_eq}
use Rattle.rv_text.specs.declared.line.CodeItem.{CodeItem}
use Rattle.rv_line.specs.declared.label.Labels.{Labels}
use Rattle.rv_line.specs.Run.{behind_label}

-- the place behind a label
abbrev pub place_behind : Labels → List ℕ → Option ℕ
place_behind labels target = get_by (λ text. bytes_eq target text.items) labels.places

-- the labels are those of the items from a place on
abbrev pub AreLabels : List CodeItem → ℕ → Labels → Type 0
AreLabels items from labels = (target : List ℕ) → MatchOption (place_behind labels target) (behind_label target (drop from items) ≡ None) (λ place. (place ≤ length items) × (behind_label target (drop from items) ≡ Some (drop place items)))

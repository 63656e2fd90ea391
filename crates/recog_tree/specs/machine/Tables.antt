-- When tables are those of some forms, and what is looked up in them.
use Rattle.std.specs.Prelude.{◌≡◌, ℕ, ◌<◌, ◌≤◌, Bool, true, false, List, map, length, Option, slice_get}
use Rattle.std.specs.Option.{option_map_or}
use Rattle.md_forms.specs.declared.form.Entry.{Entry}
use Rattle.md_recog.specs.declared.half.Half.{Half}
use Rattle.recog_tree.specs.declared.key.Key.{Key}
use Rattle.recog_tree.specs.declared.tables.Tables.{Tables}
use Rattle.recog_tree.specs.Key.{entry_key, is_tried_by}

-- the tables of a half have the key of each form in it, in order
pub record AreTablesOf (asked : Half) (tables : Tables) (forms : List Entry) : Type 0 where
  pub keys_are : tables.keys ≡ map (entry_key asked) forms

-- whether what stands at a place is tried for an instruction with a key
abbrev pub is_tried_at : List (Option Key) → Key → ℕ → Bool
is_tried_at keys insn place = option_map_or (is_tried_by insn) (slice_get keys place) false

-- nothing from one place on and before another is tried
abbrev pub NoneTried : List (Option Key) → Key → ℕ → ℕ → Type 0
NoneTried keys insn from to =
    (place : ℕ) → from ≤ place → place < to → is_tried_at keys insn place ≡ false

-- the first place from another on of which what stands there is tried
pub record IsNext (keys : List (Option Key)) (insn : Key) (from place : ℕ) : Type 0 where
  pub behind : from ≤ place
  pub within : place < length keys
  pub tried : is_tried_at keys insn place ≡ true
  pub first : NoneTried keys insn from place

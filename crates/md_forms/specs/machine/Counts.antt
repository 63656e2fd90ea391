-- How many forms of each head were met, as a table.
use Rattle.std.specs.Prelude.{◌≡◌, ℕ, ◌+◌, false, List, unwrap_or}
use Rattle.std.specs.Str.{bytes_eq}
use Rattle.std.specs.HashMap.{get_by}
use Rattle.md_forms.specs.declared.form.Entry.{Entry}
use Rattle.md_forms.specs.declared.shown.HeadCounts.{HeadCounts}
use Rattle.md_forms.specs.Forms.{count_of}

-- the number of a head's forms, which is 0 where the table has none
abbrev pub count_in : HeadCounts → List ℕ → ℕ
count_in t head = unwrap_or (get_by (λ text. bytes_eq head text.items) t.by_head) 0

-- the table counts some forms
abbrev pub Counts : HeadCounts → List Entry → Type 0
Counts t es = (head : List ℕ) → count_in t head ≡ count_of head es

-- one more has the head
pub record CountsOneMore (old new : HeadCounts) (head : List ℕ) : Type 0 where
  pub same : (h : List ℕ) → bytes_eq head h ≡ false → count_in new h ≡ count_in old h
  pub more : count_in new head ≡ count_in old head + 1

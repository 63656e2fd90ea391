-- What the rows of a parse say after one more use.
use Rattle.std.proofs.Common.{◌≡◌, ◌∙◌, Bool, cond, true, false, List, [], ◌∷◌, ◌++◌, Option, Some, None, is_some, refl, sym, ap, codes, bytes_eq, option_map}
use Rattle.std.specs.Prelude.{find, unwrap_or, option_and_then, slice_get}
use Rattle.std.specs.Option.{option_map_or}
use Rattle.clap.specs.Walk.{Row, Rule, Text, all_of, at_row, first_of, has_row, reading_by, stronger, used, with_values, without}
use Rattle.clap.specs.declared.parser.matches.ValueSource.TheVariants.{CommandLine}
use Rattle.rtlc_words.proofs.Texts.{same_text}
use Rattle.rtlc_words.proofs.Shapes.{md, positional}

abbrev row_of : Text → List Row → Option Row
row_of id rows = find (λ (r : Row). bytes_eq r.id id) rows

module _ (id : Text) (f : Row → Row) (keeps : (r : Row) → (f r).id ≡ r.id) (m : Row) where
  abbrev after : List Row → List Row
  after = at_row id (λ r. f r ∷ []) (m ∷ [])

  row_same : (rows : List Row) → bytes_eq m.id id ≡ true → row_of id (after rows) ≡ Some (option_map_or f (row_of id rows) m)
  row_same [] own = rw own refl
  row_same (r ∷ rs) own = go (bytes_eq r.id id) refl (row_same rs own)
    where
      go : (b : Bool) → bytes_eq r.id id ≡ b → row_of id (after rs) ≡ Some (option_map_or f (row_of id rs) m)
          → row_of id (after (r ∷ rs)) ≡ Some (option_map_or f (row_of id (r ∷ rs)) m)
      go true e rest =
          let same : bytes_eq (f r).id id ≡ true = ap (λ (t : Text). bytes_eq t id) (keeps r) ∙ e in
          rw (e, same) refl
      go false e rest = rw e (rw e rest)

  row_other : (other : Text) (rows : List Row) → bytes_eq id other ≡ false → bytes_eq m.id other ≡ false → row_of other (after rows) ≡ row_of other rows
  row_other other [] differ new = rw new refl
  row_other other (r ∷ rs) differ new = go (bytes_eq r.id id) refl (row_other other rs differ new)
    where
      go : (b : Bool) → bytes_eq r.id id ≡ b → row_of other (after rs) ≡ row_of other rs → row_of other (after (r ∷ rs)) ≡ row_of other (r ∷ rs)
      go true e rest =
          let is : r.id ≡ id = same_text r.id id e in
          let old : bytes_eq r.id other ≡ false = ap (λ (t : Text). bytes_eq t other) is ∙ differ in
          let now : bytes_eq (f r).id other ≡ false = ap (λ (t : Text). bytes_eq t other) (keeps r) ∙ old in
          rw e (rw (now, old) refl)
      go false e rest = rw e (ap (λ o. cond (bytes_eq r.id other) (Some r) o) rest)

-- an id has a row where one is found
has_found : (id : Text) (rows : List Row) → has_row id rows ≡ is_some (row_of id rows)
has_found id [] = refl
has_found id (r ∷ rs) = go (bytes_eq r.id id) refl (has_found id rs)
  where
    go : (b : Bool) → bytes_eq r.id id ≡ b → has_row id rs ≡ is_some (row_of id rs) → has_row id (r ∷ rs) ≡ is_some (row_of id (r ∷ rs))
    go true e rest = rw e refl
    go false e rest = rw e rest

without_none : (id : Text) (rows : List Row) → has_row id rows ≡ false → without id rows ≡ rows
without_none id [] none = refl
without_none id (r ∷ rs) none = go (bytes_eq r.id id) refl (without_none id rs)
  where
    go : (b : Bool) → bytes_eq r.id id ≡ b → (has_row id rs ≡ false → without id rs ≡ rs) → without id (r ∷ rs) ≡ r ∷ rs
    go true e rest = let bad = rw e at none in cc
    go false e rest = let there = rw e at none in rw e (ap (λ xs. r ∷ xs) (rest there))

-- what the rows say: the description, and the positional words
pub record Reads (rows : List Row) (d : Option Text) (ps : List Text) : Type 0 where
  pub description : first_of (codes "md") rows ≡ d
  pub has : has_row (codes "md") rows ≡ is_some d
  pub words : unwrap_or (all_of (codes "words") rows) [] ≡ ps

pub reads_nothing : Reads [] None []
reads_nothing = record { description = refl; has = refl; words = refl }

-- the values of a use, behind those that are there
abbrev more : List Text → Row → Row
more values r = record r { values = r.values ++ values; source = Some (stronger r.source CommandLine) }

abbrev new : Rule → List Text → Row
new rule values = record { id = rule.id; values = values; count = None; source = Some CommandLine; reading = reading_by rule }

abbrev first : Option Row → Option Text
first = option_and_then (λ (r : Row). slice_get r.values 0)

abbrev all : Option Row → List Text
all o = unwrap_or (option_map (λ (r : Row). r.values) o) []

nothing_found : (o : Option Row) → is_some o ≡ false → o ≡ None
nothing_found None e = refl
nothing_found (Some r) e = cc

-- a description, where there was none
pub reads_description : (rows : List Row) (name : Text) (ps : List Text) → Reads rows None ps → Reads (used md (name ∷ []) rows) (Some name) ps
reads_description rows name ps reads = rw (without_none (codes "md") rows reads.has) (record {
  description = ap first same;
  has = has_found (codes "md") (with_values (codes "md") (reading_by md) CommandLine (name ∷ []) rows) ∙ ap is_some same;
  words = ap all (row_other (codes "md") (more (name ∷ [])) (λ r. refl) (new md (name ∷ [])) (codes "words") rows refl refl) ∙ reads.words;
})
  where
    same : row_of (codes "md") (with_values (codes "md") (reading_by md) CommandLine (name ∷ []) rows) ≡ Some (new md (name ∷ []))
    same = row_same (codes "md") (more (name ∷ [])) (λ r. refl) (new md (name ∷ [])) rows refl
        ∙ ap (λ o. Some (option_map_or (more (name ∷ [])) o (new md (name ∷ [])))) (nothing_found (row_of (codes "md") rows) (sym (has_found (codes "md") rows) ∙ reads.has))

more_words : (o : Option Row) (ws : List Text) → all (Some (option_map_or (more ws) o (new positional ws))) ≡ all o ++ ws
more_words None ws = refl
more_words (Some r) ws = refl

-- positional words, behind those that there were
pub reads_words : (rows : List Row) (d : Option Text) (ps : List Text) (word : Text) (ws : List Text) → Reads rows d ps
    → Reads (used positional (word ∷ ws) rows) d (ps ++ (word ∷ ws))
reads_words rows d ps word ws reads = record {
  description = ap first other ∙ reads.description;
  has = has_found (codes "md") (used positional (word ∷ ws) rows) ∙ ap is_some other ∙ sym (has_found (codes "md") rows) ∙ reads.has;
  words = ap all (row_same (codes "words") (more (word ∷ ws)) (λ r. refl) (new positional (word ∷ ws)) rows refl) ∙ more_words (row_of (codes "words") rows) (word ∷ ws) ∙ ap (λ xs. xs ++ (word ∷ ws)) reads.words;
}
  where
    other : row_of (codes "md") (with_values (codes "words") (reading_by positional) CommandLine (word ∷ ws) rows) ≡ row_of (codes "md") rows
    other = row_other (codes "words") (more (word ∷ ws)) (λ r. refl) (new positional (word ∷ ws)) (codes "md") rows refl refl

-- A file that is put at the end is found, and every other name finds what it found before.
use Rattle.std.proofs.Common.{◌≡◌, ◌≢◌, ℕ, Bool, true, false, cond, List, [], ◌∷◌, ◌++◌, find, Option, Some, None, refl, sym, eq-eqb}
use Rattle.std.specs.Str.{bytes_eq}
use Rattle.std.specs.Option.{option_map}
use Rattle.std.proofs.lemmas.Slice.Eq.{bytes_eq-Decides}
use Rattle.byte_edge.specs.declared.stored.Entry.{Entry}
use Rattle.byte_edge.specs.Stored.{entry, file_of, PutsFile}

abbrev contents : Option Entry → Option (List ℕ)
contents found = option_map (λ e. e.bytes) found

bytes_eq-refl : (bs : List ℕ) → bytes_eq bs bs ≡ true
bytes_eq-refl [] = refl
bytes_eq-refl (b ∷ bs) = rw (eq-eqb b b refl) (bytes_eq-refl bs)

found : (es : List Entry) (name bytes : List ℕ) → file_of es name ≡ None → file_of (es ++ entry name bytes ∷ []) name ≡ Some bytes
found [] name bytes h = rw (bytes_eq-refl name) refl
found (x ∷ es) name bytes h = by_test (bytes_eq x.name name) (find (λ e. bytes_eq e.name name) es) (find (λ e. bytes_eq e.name name) (es ++ entry name bytes ∷ [])) h (found es name bytes)
  where
    by_test : (b : Bool) (u v : Option Entry) → contents (cond b (Some x) u) ≡ None → (contents u ≡ None → contents v ≡ Some bytes) → contents (cond b (Some x) v) ≡ Some bytes
    by_test true u v k ih = cc
    by_test false u v k ih = ih k

differs : (b : Bool) (other name : List ℕ) → b ≡ bytes_eq name other → other ≢ name → b ≡ false
differs true other name e ne = absurd (ne (sym ((bytes_eq-Decides name other).0 (sym e))))
differs false other name e ne = refl

kept : (es : List Entry) (name bytes other : List ℕ) → other ≢ name → file_of (es ++ entry name bytes ∷ []) other ≡ file_of es other
kept [] name bytes other ne = rw (differs _ other name refl ne) refl
kept (x ∷ es) name bytes other ne = by_test (bytes_eq x.name other) (find (λ e. bytes_eq e.name other) (es ++ entry name bytes ∷ [])) (find (λ e. bytes_eq e.name other) es) (kept es name bytes other ne)
  where
    by_test : (b : Bool) (u v : Option Entry) → contents u ≡ contents v → contents (cond b (Some x) u) ≡ contents (cond b (Some x) v)
    by_test true u v ih = refl
    by_test false u v ih = ih

pub puts_file : (old new : List Entry) (name bytes : List ℕ) → file_of old name ≡ None → new ≡ old ++ entry name bytes ∷ [] → PutsFile old new name bytes
puts_file old new name bytes none e = rw e (record {
  there = found old name bytes none;
  others = λ other ne. kept old name bytes other ne;
})

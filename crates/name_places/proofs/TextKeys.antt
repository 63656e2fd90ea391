-- A map whose keys are texts, with one pair more.
use Rattle.std.proofs.Common.{◌≡◌, ℕ, Bool, true, false, cond, if◌then◌else◌, List, [], ◌∷◌, Option, Some, None, refl, sym, ap, ◌∙◌, true≢false}
use Rattle.std.specs.Str.{bytes_eq}
use Rattle.std.specs.Map.{lookup}
use Rattle.std.specs.Option.{option_or}
use Rattle.std.proofs.lemmas.Slice.Eq.{bytes_eq-Decides}
use Rattle.indexmap.specs.IndexMap.{insert_entry}

pub same_text : (a b : List ℕ) → bytes_eq a b ≡ true → a ≡ b
same_text a b e = (bytes_eq-Decides a b).0 e

pub itself : (a b : List ℕ) → a ≡ b → bytes_eq a b ≡ true
itself a b e = (bytes_eq-Decides a b).1 e

turned : (a b : List ℕ) → bytes_eq a b ≡ bytes_eq b a
turned a b = by_test (bytes_eq a b) refl (bytes_eq b a) refl
  where
    by_test : (x : Bool) → bytes_eq a b ≡ x → (y : Bool) → bytes_eq b a ≡ y → bytes_eq a b ≡ bytes_eq b a
    by_test true e true f = e ∙ sym f
    by_test true e false f = absurd (true≢false (sym (itself b a (sym (same_text a b e))) ∙ f))
    by_test false e true f = absurd (true≢false (sym (itself a b (sym (same_text b a f))) ∙ e))
    by_test false e false f = e ∙ sym f

or_none : {V : Type 0} (o : Option V) → option_or o None ≡ o
or_none None = refl
or_none (Some v) = refl

module _ {K V : Type 0} (text : K → List ℕ) (k : K) (v : V) where
  -- what is found then under a name
  pub found_then : (h : List ℕ) (es : List (K × V)) → lookup (λ x. bytes_eq h (text x)) (insert_entry (λ a b. bytes_eq (text a) (text b)) es k v) ≡ cond (bytes_eq h (text k)) (Some v) (lookup (λ x. bytes_eq h (text x)) es)
  found_then h [] = refl
  found_then h (e ∷ es) = by_test (found_then h es) (bytes_eq (text k) (text e.0)) refl (bytes_eq h (text e.0)) refl (bytes_eq h (text k)) refl
    where
      by_test : lookup (λ x. bytes_eq h (text x)) (insert_entry (λ a b. bytes_eq (text a) (text b)) es k v) ≡ cond (bytes_eq h (text k)) (Some v) (lookup (λ x. bytes_eq h (text x)) es)
          → (a : Bool) → bytes_eq (text k) (text e.0) ≡ a → (b : Bool) → bytes_eq h (text e.0) ≡ b → (c : Bool) → bytes_eq h (text k) ≡ c
          → lookup (λ x. bytes_eq h (text x)) (insert_entry (λ a b. bytes_eq (text a) (text b)) (e ∷ es) k v) ≡ cond (bytes_eq h (text k)) (Some v) (lookup (λ x. bytes_eq h (text x)) (e ∷ es))
      by_test ih true same b here c there =
          let equal : bytes_eq h (text k) ≡ bytes_eq h (text e.0) = ap (bytes_eq h) (same_text (text k) (text e.0) same) in
          by_both same b here (equal ∙ here)
        where
          by_both : bytes_eq (text k) (text e.0) ≡ true → (b : Bool) → bytes_eq h (text e.0) ≡ b → bytes_eq h (text k) ≡ b
              → lookup (λ x. bytes_eq h (text x)) (insert_entry (λ a b. bytes_eq (text a) (text b)) (e ∷ es) k v) ≡ cond (bytes_eq h (text k)) (Some v) (lookup (λ x. bytes_eq h (text x)) (e ∷ es))
          by_both same true here there = rw same (rw here (rw there refl))
          by_both same false here there = rw same (rw here (rw there refl))
      by_test ih false other true here true there =
          absurd (true≢false (sym (itself (text k) (text e.0) (sym (same_text h (text k) there) ∙ same_text h (text e.0) here)) ∙ other))
      by_test ih false other true here false there = rw other (rw here (rw there refl))
      by_test ih false other false here c there = rw other (rw here ih)

  -- another name finds what it found
  pub found_apart : (h : List ℕ) (es : List (K × V)) → bytes_eq (text k) h ≡ false → lookup (λ x. bytes_eq h (text x)) (insert_entry (λ a b. bytes_eq (text a) (text b)) es k v) ≡ lookup (λ x. bytes_eq h (text x)) es
  found_apart h es differ = found_then h es ∙ ap (λ b. cond b (Some v) (lookup (λ x. bytes_eq h (text x)) es)) (turned h (text k) ∙ differ)

  -- the new one finds the new value
  pub found_itself : (h : List ℕ) (es : List (K × V)) → text k ≡ h → lookup (λ x. bytes_eq h (text x)) (insert_entry (λ a b. bytes_eq (text a) (text b)) es k v) ≡ Some v
  found_itself h es same = found_then h es ∙ ap (λ b. cond b (Some v) (lookup (λ x. bytes_eq h (text x)) es)) (itself h (text k) (sym same))

  -- a new name, after those that were there
  pub found_last : (name h : List ℕ) (es : List (K × V)) → text k ≡ name → lookup (λ x. bytes_eq name (text x)) es ≡ None
      → lookup (λ x. bytes_eq h (text x)) (insert_entry (λ a b. bytes_eq (text a) (text b)) es k v) ≡ option_or (lookup (λ x. bytes_eq h (text x)) es) (if bytes_eq name h then Some v else None)
  found_last name h es key none = by_test (bytes_eq name h) refl
    where
      by_test : (b : Bool) → bytes_eq name h ≡ b → lookup (λ x. bytes_eq h (text x)) (insert_entry (λ a b. bytes_eq (text a) (text b)) es k v) ≡ option_or (lookup (λ x. bytes_eq h (text x)) es) (if bytes_eq name h then Some v else None)
      by_test true same =
          let is : name ≡ h = same_text name h same in
          let there : lookup (λ x. bytes_eq h (text x)) es ≡ None = ap (λ t. lookup (λ x. bytes_eq t (text x)) es) (sym is) ∙ none in
          found_itself h es (key ∙ is) ∙ rw there (rw same refl)
      by_test false differ =
          found_apart h es (ap (λ t. bytes_eq t h) key ∙ differ) ∙ rw differ (sym (or_none (lookup (λ x. bytes_eq h (text x)) es)))

-- a name that is there, once more
pub found_again : {V : Type 0} (find : List ℕ → Option V) (name h : List ℕ) (here v : V) → find name ≡ Some here → find h ≡ option_or (find h) (if bytes_eq name h then Some v else None)
found_again find name h here v there = by_test (bytes_eq name h) refl
  where
    by_test : (b : Bool) → bytes_eq name h ≡ b → find h ≡ option_or (find h) (if bytes_eq name h then Some v else None)
    by_test true same =
        let found : find h ≡ Some here = ap find (sym (same_text name h same)) ∙ there in
        rw found refl
    by_test false differ = rw differ (sym (or_none (find h)))

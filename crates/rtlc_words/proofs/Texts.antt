-- When a word is a text, and when it begins with `--md=`.
use Rattle.std.proofs.Common.{◌≡◌, ◌∙◌, ℕ, Bool, true, false, List, [], ◌∷◌, ◌++◌, Option, Some, None, refl, ap, codes, bytes_eq}
use Rattle.std.proofs.lemmas.Slice.Eq.{bytes_eq-Decides}
use Rattle.clap.specs.Walk.{Text}
use Rattle.rtlc_words.specs.Words.{behind_md}

pub same_text : (xs ys : List ℕ) → bytes_eq xs ys ≡ true → xs ≡ ys
same_text xs ys h = (bytes_eq-Decides xs ys).0 h

pub other_text : (xs ys : List ℕ) → (xs ≡ ys → ⊥) → bytes_eq xs ys ≡ false
other_text xs ys h = go (bytes_eq xs ys) refl
  where
    go : (b : Bool) → bytes_eq xs ys ≡ b → bytes_eq xs ys ≡ false
    go true e = absurd (h (same_text xs ys e))
    go false e = e

-- what stands behind `--md=` stands there
behind : (word name : Text) → behind_md word ≡ Some name → word ≡ codes "--md=" ++ name
behind [] name e = cc
behind (a ∷ []) name e = cc
behind (a ∷ b ∷ []) name e = cc
behind (a ∷ b ∷ c ∷ []) name e = cc
behind (a ∷ b ∷ c ∷ d ∷ []) name e = cc
behind (a ∷ b ∷ c ∷ d ∷ f ∷ rest) name e = go (bytes_eq (a ∷ b ∷ c ∷ d ∷ f ∷ []) (codes "--md=")) refl
  where
    go : (t : Bool) → bytes_eq (a ∷ b ∷ c ∷ d ∷ f ∷ []) (codes "--md=") ≡ t → (a ∷ b ∷ c ∷ d ∷ f ∷ rest) ≡ codes "--md=" ++ name
    go true t =
        let front = same_text (a ∷ b ∷ c ∷ d ∷ f ∷ []) (codes "--md=") t in
        let back = rw t at e in
        ap (λ xs. xs ++ rest) front ∙ cc
    go false t = let none = rw t at e in cc

pub nothing_behind : (word : Text) → ((name : Text) → word ≡ codes "--md=" ++ name → ⊥) → behind_md word ≡ None
nothing_behind word h = go (behind_md word) refl
  where
    go : (o : Option Text) → behind_md word ≡ o → behind_md word ≡ None
    go None e = e
    go (Some name) e = absurd (h name (behind word name e))

-- What is made of each of some things and of its index, one after the other.
use Rattle.std.proofs.Common.{◌≡◌, ℕ, ◌+◌, ◌<◌, ◌≤◌, List, [], ◌∷◌, ◌++◌, length, drop, get_or, sym, ap, ◌∙◌, append_assoc}
use Rattle.std.proofs.lemmas.List.{append-nil, at_drop_more, at_drop_all}
use Rattle.md_draft.specs.Compact.{each_from}

module _ {A B : Type 0} (make : ℕ → A → B) (xs : List A) (i : ℕ) (out whole : List B) where
  -- one more was made
  pub each_next : (x : A) (more : List B) → i < length xs → x ≡ get_or xs i x → more ≡ out ++ make i x ∷ [] → out ++ each_from make i (drop i xs) ≡ whole → more ++ each_from make (i + 1) (drop (i + 1) xs) ≡ whole
  each_next x more within is made h =
      let here : out ++ each_from make i (drop i xs) ≡ out ++ (make i x ∷ each_from make (i + 1) (drop (i + 1) xs)) =
      at_drop_more (λ ys. out ++ each_from make i ys) xs i x within ∙ ap (λ (u : A). out ++ each_from make i (u ∷ drop (i + 1) xs)) (sym is) in
      rw made (append_assoc out (make i x ∷ []) (each_from make (i + 1) (drop (i + 1) xs)) ∙ sym here ∙ h)

  -- all were made
  pub each_ends : length xs ≤ i → out ++ each_from make i (drop i xs) ≡ whole → out ≡ whole
  each_ends end h = sym (append-nil out) ∙ sym (at_drop_all (λ ys. out ++ each_from make i ys) xs i end) ∙ h

-- The names under which forms are shown, one after the other.
use Rattle.std.proofs.Common.{◌≡◌, ℕ, ◌+◌, ◌<◌, ◌≤◌, List, [], ◌∷◌, ◌++◌, length, take, drop, get_or, refl, sym, ap, ◌∙◌, append_assoc, suc}
use Rattle.std.proofs.lemmas.List.{append-nil, at_drop_more, at_drop_all, take_more}
use Rattle.md_forms.specs.declared.form.Entry.{Entry}
use Rattle.md_forms.specs.Forms.{name_behind, names_behind, names_of}

-- one form more was named
pub named_next : (es : List Entry) (i : ℕ) (e : Entry) (names more whole : List (List ℕ)) → i < length es → e ≡ get_or es i e → more ≡ names ++ name_behind (take i es) e ∷ [] →
    names ++ names_behind (take i es) (drop i es) ≡ whole → more ++ names_behind (take (i + 1) es) (drop (i + 1) es) ≡ whole
named_next es i e names more whole within is made h =
    let front : List Entry = take i es in
    let rest : List Entry = drop (i + 1) es in
    let longer : take (i + 1) es ≡ front ++ e ∷ [] = take_more es i e within ∙ ap (λ (x : Entry). front ++ x ∷ []) (sym is) in
    let here : names ++ names_behind front (drop i es) ≡ names ++ (name_behind front e ∷ names_behind (front ++ e ∷ []) rest) =
    at_drop_more (λ (l : List Entry). names ++ names_behind front l) es i e within ∙ ap (λ (x : Entry). names ++ names_behind front (x ∷ rest)) (sym is) in
    rw made (ap (λ (l : List Entry). (names ++ name_behind front e ∷ []) ++ names_behind l rest) longer
    ∙ append_assoc names (name_behind front e ∷ []) (names_behind (front ++ e ∷ []) rest) ∙ sym here ∙ h)

-- all were named
pub named_ends : (es : List Entry) (i : ℕ) (names whole : List (List ℕ)) → length es ≤ i → names ++ names_behind (take i es) (drop i es) ≡ whole → names ≡ whole
named_ends es i names whole end h = sym (append-nil names) ∙ sym (at_drop_all (λ (l : List Entry). names ++ names_behind (take i es) l) es i end) ∙ h

as_many_behind : (front es : List Entry) → length (names_behind front es) ≡ length es
as_many_behind front [] = refl
as_many_behind front (e ∷ es) = ap (λ (n : ℕ). suc n) (as_many_behind (front ++ e ∷ []) es)

-- a name for each
pub as_many : (es : List Entry) (names : List (List ℕ)) → names ≡ names_of es → length names ≡ length es
as_many es names is = ap length is ∙ as_many_behind [] es

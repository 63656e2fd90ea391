-- The lines of forms, one after the other.
use Rattle.std.proofs.Common.{◌≡◌, ℕ, ◌+◌, ◌<◌, ◌≤◌, List, [], ◌∷◌, ◌++◌, length, drop, get_or, Result, sym, ap, ◌∙◌, append_assoc}
use Rattle.std.proofs.lemmas.List.{append-nil, at_drop_more, at_drop_all}
use Rattle.std.specs.Fmt.{decimal}
use Rattle.md_pattern.specs.declared.reason.Reason.{Reason}
use Rattle.md_forms.specs.declared.form.Form.{Form}
use Rattle.md_forms.specs.declared.form.Entry.{Entry}
use Rattle.md_list.specs.Listing.{verdict, line_with, lines_from}

-- what is still to come of the first line on
rest_of : (es : List Entry) (names : List (List ℕ)) (i : ℕ) (e : Entry) (name : List ℕ) → i < length es → i < length names → e ≡ get_or es i e → name ≡ get_or names i name →
    lines_from i (drop i es) (drop i names) ≡ line_with i e.head name e.form ++ lines_from (i + 1) (drop (i + 1) es) (drop (i + 1) names)
rest_of es names i e name within named is called =
    at_drop_more (λ (l : List Entry). lines_from i l (drop i names)) es i e within
    ∙ at_drop_more (λ (l : List (List ℕ)). lines_from i (get_or es i e ∷ drop (i + 1) es) l) names i name named
    ∙ ap (λ (x : Entry). lines_from i (x ∷ drop (i + 1) es) (get_or names i name ∷ drop (i + 1) names)) (sym is)
    ∙ ap (λ (n : List ℕ). lines_from i (e ∷ drop (i + 1) es) (n ∷ drop (i + 1) names)) (sym called)

-- one line more was written
pub printed_next : (es : List Entry) (names : List (List ℕ)) (i : ℕ) (e : Entry) (name out more whole : List ℕ) → i < length es → i < length names → e ≡ get_or es i e → name ≡ get_or names i name →
    more ≡ out ++ line_with i e.head name e.form → out ++ lines_from i (drop i es) (drop i names) ≡ whole → more ++ lines_from (i + 1) (drop (i + 1) es) (drop (i + 1) names) ≡ whole
printed_next es names i e name out more whole within named is called made h =
    let rest : List ℕ = lines_from (i + 1) (drop (i + 1) es) (drop (i + 1) names) in
    let line : List ℕ = line_with i e.head name e.form in
    rw made (append_assoc out line rest ∙ ap (λ (t : List ℕ). out ++ t) (sym (rest_of es names i e name within named is called)) ∙ h)

-- all were written
pub printed_ends : (es : List Entry) (names : List (List ℕ)) (i : ℕ) (out whole : List ℕ) → length es ≤ i → out ++ lines_from i (drop i es) (drop i names) ≡ whole → out ≡ whole
printed_ends es names i out whole end h =
    sym (append-nil out) ∙ sym (at_drop_all (λ (l : List Entry). out ++ lines_from i l (drop i names)) es i end) ∙ h

-- a line, word by word
pub line_made : (index : ℕ) (head name : List ℕ) (form : Result Form Reason) (old o1 o2 o3 o4 o5 o6 o7 o8 : List ℕ) → o1 ≡ old ++ decimal index → o2 ≡ o1 ++ 32 ∷ [] → o3 ≡ o2 ++ head → o4 ≡ o3 ++ 32 ∷ [] → o5 ≡ o4 ++ name →
    o6 ≡ o5 ++ 32 ∷ [] → o7 ≡ o6 ++ verdict form → o8 ≡ o7 ++ 10 ∷ [] → o8 ≡ old ++ line_with index head name form
line_made index head name form old o1 o2 o3 o4 o5 o6 o7 o8 h1 h2 h3 h4 h5 h6 h7 h8 = rw h8 (rw h7 (rw h6 (rw h5 (rw h4 (rw h3 (rw h2 (rw h1 (simp append_assoc))))))))

-- One digit, one word and one function more.
use Rattle.std.proofs.Common.{◌≡◌, ◌≢◌, ℕ, zero, suc, ◌+◌, ◌-◌, ◌/◌, ◌%◌, ◌<◌, min, false, List, [], ◌∷◌, ◌++◌, length, get_or, take, drop, refl, sym, ◌∙◌, ap, arith, add-one, append_assoc}
use Rattle.std.specs.Fmt.{digit_glyph}
use Rattle.std.proofs.Math.Seq.{drop-cons}
use Rattle.std.proofs.lemmas.List.{take_min, drop_min}
use Rattle.rtx_tree.specs.declared.machine.SymbolAt.{SymbolAt}
use Rattle.image_text.specs.Text.{hex_digits, word_line, word_lines, name_line, words_between, lines_from}

-- the last digit comes last
pub digit_last : (count number digit : ℕ) (out mid new : List ℕ) → count ≢ 0 → mid ≡ out ++ hex_digits (count - 1) (number / 16) → digit ≡ digit_glyph false (number % 16) → new ≡ mid ++ digit ∷ [] → new ≡ out ++ hex_digits count number
digit_last zero number digit out mid new some mid_is digit_is new_is = absurd (some refl)
digit_last (suc count) number digit out mid new some mid_is digit_is new_is =
    let less : suc count - 1 ≡ count = omega arith in
    new_is ∙ (ap (λ (xs : List ℕ). xs ++ digit ∷ []) (mid_is ∙ ap (λ (n : ℕ). out ++ hex_digits n (number / 16)) less)
    ∙ (append_assoc out (hex_digits count (number / 16)) (digit ∷ []) ∙ ap (λ (d : ℕ). out ++ (hex_digits count (number / 16) ++ d ∷ [])) digit_is))

one_less : {X : Type 0} (xs : List X) (at : ℕ) (x : X) → at < length xs → x ≡ get_or xs at x → drop at xs ≡ x ∷ drop (at + 1) xs
one_less xs at x within is =
    drop-cons xs at x within ∙ (ap (λ y. y ∷ drop (suc at) xs) (sym is) ∙ ap (λ n. x ∷ drop n xs) (sym (add-one at)))

pub word_more : (words : List ℕ) (at next behind : ℕ) (out new whole : List ℕ) → at < length words → new ≡ out ++ word_line next (get_or words at 0) → behind ≡ next + 4 → out ++ word_lines next (drop at words) ≡ whole →
    new ++ word_lines behind (drop (at + 1) words) ≡ whole
word_more words at next behind out new whole within new_is behind_is so_far =
    let word : ℕ = get_or words at 0 in
    let less : drop at words ≡ word ∷ drop (at + 1) words = drop-cons words at 0 within ∙ ap (λ (n : ℕ). word ∷ drop n words) (sym (add-one at)) in
    ap (λ (xs : List ℕ). xs ++ word_lines behind (drop (at + 1) words)) new_is
    ∙ (append_assoc out (word_line next word) (word_lines behind (drop (at + 1) words))
    ∙ (ap (λ (n : ℕ). out ++ (word_line next word ++ word_lines n (drop (at + 1) words))) behind_is
    ∙ (sym (ap (λ (xs : List ℕ). out ++ word_lines next xs) less) ∙ so_far)))

pub entry_more : (entries : List SymbolAt) (at address count : ℕ) (entry : SymbolAt) (rest front back out mid new whole : List ℕ) → at < length entries → entry ≡ get_or entries at entry → count ≡ min (words_between address entry.address) (length rest) → front ≡ take count rest → back ≡ drop count rest →
    mid ≡ out ++ word_lines address front → new ≡ mid ++ name_line entry.name → out ++ lines_from address (drop at entries) rest ≡ whole →
    new ++ lines_from entry.address (drop (at + 1) entries) back ≡ whole
entry_more entries at address count entry rest front back out mid new whole within is count_is front_is back_is then_is new_is so_far =
    let most : ℕ = words_between address entry.address in
    let left : List SymbolAt = drop (at + 1) entries in
    let first : front ≡ take most rest = front_is ∙ (ap (λ (n : ℕ). take n rest) count_is ∙ take_min most rest) in
    let last : back ≡ drop most rest = back_is ∙ (ap (λ (n : ℕ). drop n rest) count_is ∙ drop_min most rest) in
    let behind : List ℕ = lines_from entry.address left back in
    let name : List ℕ = name_line entry.name in
    ap (λ (xs : List ℕ). xs ++ behind) (new_is ∙ ap (λ (xs : List ℕ). xs ++ name) (then_is ∙ ap (λ (ws : List ℕ). out ++ word_lines address ws) first))
    ∙ (append_assoc (out ++ word_lines address (take most rest)) name behind
    ∙ (append_assoc out (word_lines address (take most rest)) (name ++ behind)
    ∙ (ap (λ (ws : List ℕ). out ++ (word_lines address (take most rest) ++ (name ++ lines_from entry.address left ws))) last
    ∙ (sym (ap (λ (es : List SymbolAt). out ++ lines_from address es rest) (one_less entries at entry within is)) ∙ so_far))))

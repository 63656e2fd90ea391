-- The blanks at the end of a text.
use Rattle.std.proofs.Common.{◌≡◌, ℕ, ◌+◌, ◌-◌, ◌≤◌, true, false, List, [], ◌∷◌, ◌++◌, length, take, get_or, refl, sym, ap, ◌∙◌, arith}
use Rattle.std.proofs.lemmas.List.{take_more, take_all}
use Rattle.text_words.specs.Blanks.{is_blank}
use Rattle.md_text.specs.Lists.{ended, before_blanks}

-- a blank more at the end
pub one_blank : (text : List ℕ) (b : ℕ) → is_blank b ≡ true → before_blanks (text ++ b ∷ []) ≡ before_blanks text
one_blank [] b e = rw e refl
one_blank (a ∷ text) b e = ap (ended a) (one_blank text b e)

ended_some : (a b : ℕ) (text : List ℕ) → ended a (text ++ b ∷ []) ≡ a ∷ (text ++ b ∷ [])
ended_some a b [] = refl
ended_some a b (c ∷ text) = refl

-- no blank at the end
pub no_blank : (text : List ℕ) (b : ℕ) → is_blank b ≡ false → before_blanks (text ++ b ∷ []) ≡ text ++ b ∷ []
no_blank [] b e = rw e refl
no_blank (a ∷ text) b e = ap (ended a) (no_blank text b e) ∙ ended_some a b text

-- ---- the last byte of a text, by its place

by_last : (text : List ℕ) → 1 ≤ length text → take (length text - 1) text ++ get_or text (length text - 1) 0 ∷ [] ≡ text
by_last text some = sym (take_more text (length text - 1) 0 (omega (arith, some))) ∙ take_all (length text - 1 + 1) text (omega (arith, some))

pub last_blank : (text : List ℕ) → 1 ≤ length text → is_blank (get_or text (length text - 1) 0) ≡ true → before_blanks (take (length text - 1) text) ≡ before_blanks text
last_blank text some e = sym (one_blank (take (length text - 1) text) (get_or text (length text - 1) 0) e) ∙ ap before_blanks (by_last text some)

pub last_other : (text : List ℕ) → 1 ≤ length text → is_blank (get_or text (length text - 1) 0) ≡ false → before_blanks text ≡ text
last_other text some e = sym (ap before_blanks (by_last text some)) ∙ no_blank (take (length text - 1) text) (get_or text (length text - 1) 0) e ∙ by_last text some

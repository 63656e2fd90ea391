-- The members of a text with commas between them, as a define_attr, a set_attr or a match_code has
-- them: GCC Internals, "Defining Attributes and their Values" and "Defining Machine-Specific
-- Predicates".
use Rattle.std.specs.Prelude.{ℕ, ◌==◌, List, [], ◌∷◌, ◌++◌, Option, Some, if◌then◌else◌, map, option_map, option_and_then}
use Rattle.text_words.specs.Blanks.{is_blank, behind_blanks}

-- bytes in front of the first of some parts
abbrev pub prefixed : List ℕ → List (List ℕ) → List (List ℕ)
prefixed front [] = front ∷ []
prefixed front (part ∷ more) = (front ++ part) ∷ more

-- what stands between the marks of a text, before the first and behind the last of them: one part
-- more than there are marks
abbrev pub parts : ℕ → List ℕ → List (List ℕ)
parts mark [] = [] ∷ []
parts mark (b ∷ rest) =
    if b == mark then [] ∷ parts mark rest else prefixed (b ∷ []) (parts mark rest)

-- a byte before a text that has no blanks at its end
abbrev pub ended : ℕ → List ℕ → List ℕ
ended b [] = if is_blank b then [] else b ∷ []
ended b (c ∷ rest) = b ∷ c ∷ rest

-- without the blanks at the end
abbrev pub before_blanks : List ℕ → List ℕ
before_blanks [] = []
before_blanks (b ∷ rest) = ended b (before_blanks rest)

-- without the blanks at both ends
abbrev pub trimmed : List ℕ → List ℕ
trimmed text = before_blanks (behind_blanks text)

-- the members of a text with commas between them
abbrev pub members : List ℕ → List (List ℕ)
members text = map trimmed (parts 44 text)

-- what each of some stands for, where each stands for something
abbrev pub each : {A B : Type 0} → (A → Option B) → List A → Option (List B)
each read [] = Some []
each read (x ∷ xs) = option_and_then (λ y. option_map (λ ys. y ∷ ys) (each read xs)) (read x)

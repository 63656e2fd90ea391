-- How the reader cuts bytes. The grammar of `Text.antt` does not rest on this.
use Rattle.std.specs.Prelude.{ℕ, ℤ, Bool, ◌&&◌, not, nat_eq, if◌then◌else◌, List, [], ◌∷◌, length}
use Rattle.std.specs.Prelude.{Option, Some, None, option_map, option_and_then}
use Rattle.text_words.specs.Blanks.{is_space, behind_spaces}

abbrev pub is_word_byte : ℕ → Bool
is_word_byte byte = not (is_space byte) && not (nat_eq byte 44)

-- what stands before the first blank or comma, and from there on
abbrev pub word : List ℕ → List ℕ
word [] = []
word (byte ∷ bytes) = if is_word_byte byte then byte ∷ word bytes else []

abbrev pub behind_word : List ℕ → List ℕ
behind_word [] = []
behind_word (byte ∷ bytes) = if is_word_byte byte then behind_word bytes else byte ∷ bytes

abbrev comma_first : List ℕ → Option (List ℕ)
comma_first [] = None
comma_first (byte ∷ bytes) = if nat_eq byte 44 then Some (behind_spaces bytes) else None

-- what stands behind a comma and blanks round it
abbrev pub behind_comma : List ℕ → Option (List ℕ)
behind_comma bytes = comma_first (behind_spaces bytes)

-- what stands before and behind the first of a byte
abbrev pub parts_at : ℕ → List ℕ → Option (List ℕ × List ℕ)
parts_at mark [] = None
parts_at mark (byte ∷ bytes) = if nat_eq byte mark then Some ([], bytes) else option_map (λ parts. (byte ∷ parts.0, parts.1)) (parts_at mark bytes)

-- the texts of a number and of a register in parentheses behind it
abbrev pub place_parts : List ℕ → Option (List ℕ × List ℕ)
place_parts text =
    option_and_then (λ front. option_and_then (λ back. if nat_eq (length back.1) 0 then Some (front.0, back.0) else None) (parts_at 41 front.1)) (parts_at 40 text)

abbrev pub pair : Option ℤ → Option ℕ → Option (ℤ × ℕ)
pair number reg = option_and_then (λ n. option_map (λ r. (n, r)) reg) number

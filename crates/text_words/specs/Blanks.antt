-- Blanks: "White-space characters" of the C standard, without the vertical tab, which are also
-- those of the text of RTL.
use Rattle.std.specs.Prelude.{ℕ, ◌==◌, Bool, ◌||◌, List, [], ◌∷◌, if◌then◌else◌}

-- a space, a tab, a newline, a carriage return or a form feed
abbrev pub is_blank : ℕ → Bool
is_blank b = b == 32 || (b == 9 || (b == 10 || (b == 13 || b == 12)))

-- without the blanks at the front
abbrev pub behind_blanks : List ℕ → List ℕ
behind_blanks [] = []
behind_blanks (b ∷ rest) = if is_blank b then behind_blanks rest else b ∷ rest

-- a space or a tab: what stands between the words of a line
abbrev pub is_space : ℕ → Bool
is_space b = b == 32 || b == 9

-- without the spaces and tabs at the front
abbrev pub behind_spaces : List ℕ → List ℕ
behind_spaces [] = []
behind_spaces (b ∷ rest) = if is_space b then behind_spaces rest else b ∷ rest

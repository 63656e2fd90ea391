-- Which texts are lines: blanks, a mnemonic, blanks, and operands with commas, round which blanks
-- may stand.
use Rattle.std.specs.Prelude.{◌≡◌, ◌≢◌, ℕ, true, List, [], ◌∷◌, ◌++◌, Option, Some, None}
use Rattle.std.specs.List.{list_all}
use Rattle.text_words.specs.Blanks.{is_space}
use Rattle.rv_text.specs.Table.{Row, row_named}
use Rattle.rv_text.specs.Lines.{operand_text, bare, put}
use Rattle.rv_text.specs.declared.line.Line.{Line}
use Rattle.rv_text.specs.declared.operand.Operand.{Operand}

-- ---- the grammar

abbrev pub AreBlanks : List ℕ → Type 0
AreBlanks bytes = list_all is_space bytes ≡ true

-- a text of an operand gives the part that the operand names to a line
pub record Sets (operand : Operand) (text : List ℕ) (before after : Line) : Type 0 where
  pub text_is : operand_text operand after ≡ Some text
  pub rest_is : after ≡ put operand after before

-- bytes are a text, a comma with blanks before and behind it, and a rest
pub record IsParted (text rest bytes : List ℕ) : Type 0 where
  pub left : List ℕ
  pub left_blank : AreBlanks left
  pub right : List ℕ
  pub right_blank : AreBlanks right
  pub spelled : bytes ≡ text ++ (left ++ 44 ∷ (right ++ rest))

-- a first operand and others, with commas, give their parts to a line one after the other
abbrev pub IsListedFrom : Operand → List Operand → List ℕ → Line → Line → Type 0
IsListedFrom operand [] bytes before after = Sets operand bytes before after
IsListedFrom operand (next ∷ operands) bytes before after =
    (text : List ℕ) × (rest : List ℕ) × (between : Line) × Sets operand text before between × IsParted text rest bytes × IsListedFrom next operands rest between after

-- operands, or nothing where there are none
abbrev pub IsListed : List Operand → List ℕ → Line → Line → Type 0
IsListed [] bytes before after = (bytes ≡ []) × (after ≡ before)
IsListed (operand ∷ operands) bytes before after = IsListedFrom operand operands bytes before after

-- bytes are what stands behind the mnemonic of a line of a row: blanks, of which there is one at
-- least where operands follow, and the operands. What these do not name is 0 or empty in the line
pub record IsRestOf (row : Row) (name bytes : List ℕ) (line : Line) : Type 0 where
  pub gap : List ℕ
  pub gap_blank : AreBlanks gap
  pub apart : row.operands ≢ [] → gap ≢ []
  pub operands : List ℕ
  pub spelled : bytes ≡ gap ++ operands
  pub listed : IsListed row.operands operands (bare name) line

-- bytes are a text of a line: blanks, the mnemonic of a row, and the rest
pub record IsTextOf (bytes : List ℕ) (line : Line) : Type 0 where
  pub row : Row
  pub named : row_named line.name ≡ Some row
  pub front : List ℕ
  pub front_blank : AreBlanks front
  pub rest : List ℕ
  pub spelled : bytes ≡ front ++ (line.name ++ rest)
  pub rest_is : IsRestOf row line.name rest line

-- the one thing that has a property, or none where nothing has it
abbrev pub Finds : {X : Type 0} → (X → Type 0) → Option X → Type 0
Finds {X} P None = (x : X) → P x → ⊥
Finds {X} P (Some x) = P x × ((y : X) → P y → y ≡ x)

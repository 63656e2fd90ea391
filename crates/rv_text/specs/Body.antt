-- Which lines and labels a text spells, line by line. A label of an instruction is a local symbol
-- of the assembler ("Using as", "Symbol Names"), and it stands with a colon ("Labels").
use Rattle.std.specs.Prelude.{ℕ, ◌<◌, ◌^◌, List, [], ◌∷◌, ◌++◌, codes}
use Rattle.std.specs.Fmt.{decimal}
use Rattle.rv_text.specs.Text.{AreBlanks, IsTextOf}
use Rattle.rv_text.specs.declared.line.Line.{Line}
use Rattle.rv_text.specs.declared.line.CodeItem.{CodeItem}
use Rattle.rv_text.specs.declared.line.CodeItem.TheVariants.{Label, Code}

-- the text of a label: .L, the function's number, an underscore, the uid
abbrev pub label_text : ℕ → ℕ → List ℕ
label_text function uid = codes ".L" ++ (decimal function ++ (codes "_" ++ decimal uid))

-- Bytes spell lines and labels: each line of the bytes is a text of a line, a label with a colon,
-- or blanks, which are no item. The two numbers of a label have 32 bits.
pub data Spells : List ℕ → List CodeItem → Type 0 where
  end : Spells [] []
  line : (text : List ℕ) (line : Line) (rest : List ℕ) (items : List CodeItem) →
      IsTextOf text line → Spells rest items → Spells (text ++ 10 ∷ rest) (Code line ∷ items)
  label : (function uid : ℕ) (rest : List ℕ) (items : List CodeItem) → function < 2 ^ 32 →
      uid < 2 ^ 32 → Spells rest items →
      Spells (label_text function uid ++ 58 ∷ 10 ∷ rest) (Label function uid ∷ items)
  blank : (blanks rest : List ℕ) (items : List CodeItem) → AreBlanks blanks → Spells rest items →
      Spells (blanks ++ 10 ∷ rest) items

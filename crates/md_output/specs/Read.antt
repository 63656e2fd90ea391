-- The lines of a filled template, read: GCC Internals, "Output Templates and Operand Substitution".
use Rattle.std.specs.Prelude.{◌≡◌, ℕ, List, []}
use Rattle.std.specs.List.{AllZip}
use Rattle.rv_text.specs.Lines.{bare}
use Rattle.rv_text.specs.Text.{IsTextOf}
use Rattle.rv_text.specs.declared.line.Line.{Line}

-- what stands for a text that is no line
abbrev pub no_line : Line
no_line = bare []

-- a text is that of a line, or it is no line's
pub data IsReadAs (text : List ℕ) (line : Line) : Type 0 where
  spelled : IsTextOf text line → IsReadAs text line
  unread : ((other : Line) → IsTextOf text other → ⊥) → line ≡ no_line → IsReadAs text line

-- each text is read
abbrev pub AreReadAs : List (List ℕ) → List Line → Type 0
AreReadAs texts lines = AllZip IsReadAs texts lines

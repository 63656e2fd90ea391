-- A text spells one list of lines and labels alone: it is cut at its newlines, and each of its lines is one item, or none.
use Rattle.std.proofs.Common.{◌≡◌, ℕ, ◌<◌, ◌^◌, List, [], ◌∷◌, ◌++◌, refl, sym, ◌∙◌, ap, subst, append_assoc}
use Rattle.rv_text.specs.Text.{AreBlanks, IsTextOf}
use Rattle.rv_text.specs.Body.{Spells, label_text}
use Rattle.rv_text.specs.declared.line.Line.{Line}
use Rattle.rv_text.specs.declared.line.CodeItem.{CodeItem}
use Rattle.rv_text.specs.declared.line.CodeItem.TheVariants.{Label, Code}
use Rattle.rv_text.proofs.OneLine.{one_line}
use Rattle.rv_text.proofs.Marks.{Lacks, cut_at, has_mark}
use Rattle.rv_text.proofs.Inner.{line_lacks_newline, line_lacks_colon, blanks_lack_newline, blanks_lack_colon, blanks_are_no_line}
use Rattle.rv_text.proofs.LabelTexts.{one_label_line, label_lacks_newline}

-- what one line of the bytes spells
data IsRow : List ℕ → List CodeItem → Type 0 where
  as_line : (text : List ℕ) (line : Line) → IsTextOf text line → IsRow text (Code line ∷ [])
  as_label : (function uid : ℕ) → function < 2 ^ 32 → uid < 2 ^ 32 → IsRow (label_text function uid ++ 58 ∷ []) (Label function uid ∷ [])
  as_blank : (blanks : List ℕ) → AreBlanks blanks → IsRow blanks []

row_lacks : (text : List ℕ) (items : List CodeItem) → IsRow text items → Lacks 10 text
row_lacks text _ (IsRow.as_line _ line is) = line_lacks_newline text line is
row_lacks _ _ (IsRow.as_label f u f_fits u_fits) = label_lacks_newline f u f_fits u_fits
row_lacks text _ (IsRow.as_blank _ blank) = blanks_lack_newline text blank

-- ---- one line spells one thing

no_colon : (text : List ℕ) (f u : ℕ) → text ≡ label_text f u ++ 58 ∷ [] → Lacks 58 text → ⊥
no_colon text f u is lacks = has_mark 58 (label_text f u) [] (subst (Lacks 58) is lacks)

line_row : (text : List ℕ) (line : Line) (items : List CodeItem) → IsTextOf text line → IsRow text items → Code line ∷ [] ≡ items
line_row text line _ is (IsRow.as_line _ other also) = ap (λ l. Code l ∷ []) (one_line text line other is also)
line_row text line _ is (IsRow.as_label f u f_fits u_fits) = absurd (no_colon text f u refl (line_lacks_colon text line is))
line_row text line _ is (IsRow.as_blank _ blank) = absurd (blanks_are_no_line text line blank is)

label_row : (text : List ℕ) (f u : ℕ) (items : List CodeItem) → f < 2 ^ 32 → u < 2 ^ 32 → text ≡ label_text f u ++ 58 ∷ [] → IsRow text items → Label f u ∷ [] ≡ items
label_row text f u _ f_fits u_fits is (IsRow.as_line _ line also) = absurd (no_colon text f u is (line_lacks_colon text line also))
label_row _ f u _ f_fits u_fits is (IsRow.as_label g v g_fits v_fits) = let same = one_label_line f u g v f_fits u_fits g_fits v_fits (sym is) in λ i. Label (same.0 i) (same.1 i) ∷ []
label_row text f u _ f_fits u_fits is (IsRow.as_blank _ blank) = absurd (no_colon text f u is (blanks_lack_colon text blank))

blank_row : (text : List ℕ) (items : List CodeItem) → AreBlanks text → IsRow text items → [] ≡ items
blank_row text _ blank (IsRow.as_line _ line is) = absurd (blanks_are_no_line text line blank is)
blank_row text _ blank (IsRow.as_label f u f_fits u_fits) = absurd (no_colon text f u refl (blanks_lack_colon text blank))
blank_row text _ blank (IsRow.as_blank _ also) = refl

one_row : (text : List ℕ) (a b : List CodeItem) → IsRow text a → IsRow text b → a ≡ b
one_row text _ b (IsRow.as_line _ line is) other = line_row text line b is other
one_row _ _ b (IsRow.as_label f u f_fits u_fits) other = label_row (label_text f u ++ 58 ∷ []) f u b f_fits u_fits refl other
one_row text _ b (IsRow.as_blank _ blank) other = blank_row text b blank other

-- ---- the first line and the rest

record Cut (bytes : List ℕ) (items : List CodeItem) : Type 0 where
  row : List ℕ
  first : List CodeItem
  rest : List ℕ
  others : List CodeItem
  is_row : IsRow row first
  bytes_are : bytes ≡ row ++ 10 ∷ rest
  items_are : items ≡ first ++ others
  spelled : Spells rest others

-- a label's line ends at its colon
label_line : (f u : ℕ) (rest : List ℕ) → label_text f u ++ 58 ∷ 10 ∷ rest ≡ (label_text f u ++ 58 ∷ []) ++ 10 ∷ rest
label_line f u rest = sym (append_assoc (label_text f u) (58 ∷ []) (10 ∷ rest))

no_end : (row rest : List ℕ) → [] ≡ row ++ 10 ∷ rest → ⊥
no_end [] rest is = cc
no_end (byte ∷ row) rest is = cc

-- where there is a newline, there is a first line
cut : (row rest bytes : List ℕ) (items : List CodeItem) → bytes ≡ row ++ 10 ∷ rest → Spells bytes items → Cut bytes items
cut row rest _ _ is Spells.end = absurd (no_end row rest is)
cut row rest _ _ is (Spells.line text line behind others is_text more) =
    record { row = text; first = Code line ∷ []; rest = behind; others = others; is_row = IsRow.as_line text line is_text; bytes_are = refl; items_are = refl; spelled = more }
cut row rest _ _ is (Spells.label f u behind others f_fits u_fits more) =
    record { row = label_text f u ++ 58 ∷ []; first = Label f u ∷ []; rest = behind; others = others; is_row = IsRow.as_label f u f_fits u_fits; bytes_are = label_line f u behind; items_are = refl; spelled = more }
cut row rest _ _ is (Spells.blank blanks behind others blank more) =
    record { row = blanks; first = []; rest = behind; others = others; is_row = IsRow.as_blank blanks blank; bytes_are = refl; items_are = refl; spelled = more }

nothing : (bytes : List ℕ) (items : List CodeItem) → bytes ≡ [] → Spells bytes items → [] ≡ items
nothing _ _ is Spells.end = refl
nothing _ _ is (Spells.line text line behind others is_text more) = absurd (no_end text behind (sym is))
nothing _ _ is (Spells.label f u behind others f_fits u_fits more) = absurd (no_end (label_text f u ++ 58 ∷ []) behind (sym (sym (label_line f u behind) ∙ is)))
nothing _ _ is (Spells.blank blanks behind others blank more) = absurd (no_end blanks behind (sym is))

goes_on : (row rest bytes : List ℕ) (first others items : List CodeItem) → IsRow row first → bytes ≡ row ++ 10 ∷ rest → ((b : List CodeItem) → Spells rest b → others ≡ b) → Spells bytes items → first ++ others ≡ items
goes_on row rest bytes first others items is_row is further spelled =
    let c = cut row rest bytes items is spelled in
    let parts = cut_at 10 row rest c.row c.rest (row_lacks row first is_row) (row_lacks c.row c.first c.is_row) (sym is ∙ c.bytes_are) in
    let firsts = one_row c.row first c.first (subst (λ r. IsRow r first) parts.0 is_row) c.is_row in
    let behind = further c.others (subst (λ r. Spells r c.others) (sym parts.1) c.spelled) in
    ap (λ f. f ++ others) firsts ∙ (ap (λ o. c.first ++ o) behind ∙ sym c.items_are)

pub spells_one : (text : List ℕ) (a b : List CodeItem) → Spells text a → Spells text b → a ≡ b
spells_one _ _ b Spells.end other = nothing [] b refl other
spells_one _ _ b (Spells.line text line rest items is more) other =
    goes_on text rest (text ++ 10 ∷ rest) (Code line ∷ []) items b (IsRow.as_line text line is) refl (λ c also. spells_one rest items c more also) other
spells_one _ _ b (Spells.label f u rest items f_fits u_fits more) other =
    goes_on (label_text f u ++ 58 ∷ []) rest (label_text f u ++ 58 ∷ 10 ∷ rest) (Label f u ∷ []) items b (IsRow.as_label f u f_fits u_fits) (label_line f u rest) (λ c also. spells_one rest items c more also) other
spells_one _ _ b (Spells.blank blanks rest items blank more) other =
    goes_on blanks rest (blanks ++ 10 ∷ rest) [] items b (IsRow.as_blank blanks blank) refl (λ c also. spells_one rest items c more also) other

-- A text is cut into the parts of its functions in one way, and each part spells one list of items.
use Rattle.std.proofs.Common.{◌≡◌, ◌⊎◌, ⊎_elim, inl, inr, ℕ, Bool, true, false, ◌&&◌, not, List, [], ◌∷◌, ◌++◌, refl, sym, ap, subst, ◌∙◌, append_assoc}
use Rattle.std.specs.Prelude.{nat_eq}
use Rattle.std.specs.List.{list_all}
use Rattle.rtx_tree.specs.declared.function.Function.{Function}
use Rattle.rv_text.specs.Body.{Spells, label_text}
use Rattle.rv_text.specs.Table.{table}
use Rattle.rv_text.specs.text_words.Blanks.{is_space}
use Rattle.rv_text.specs.Text.{AreBlanks, IsTextOf}
use Rattle.rv_text.specs.declared.line.Line.{Line}
use Rattle.rv_text.specs.declared.line.CodeItem.{CodeItem}
use Rattle.rv_text.proofs.Inner.{line_lacks_newline, blanks_lack_newline}
use Rattle.rv_text.proofs.LabelTexts.{label_lacks_newline}
use Rattle.rv_text.proofs.Marks.{Lacks, cut_at}
use Rattle.rv_text.proofs.Numbers.{and_true}
use Rattle.rv_text.proofs.Reading.{found_name_has}
use Rattle.rv_text.proofs.SpelledOnce.{spells_one}
use Rattle.asm_out.specs.Frame.{opening_lines, closing_line, framed}
use Rattle.func_text.specs.Same.{AreParts}

-- ---- a line that begins with a tab and a dot is none of the table's

abbrev begins_well : List ℕ → Bool
begins_well [] = false
begins_well (b ∷ bytes) = not (nat_eq b 46) && not (is_space b)

all_begin_well : list_all (λ row. begins_well row.name) table ≡ true
unfolding table
all_begin_well = refl

-- the bytes behind which a function's `.size` line goes on
abbrev marked : List ℕ → List ℕ
marked tail = 9 ∷ 46 ∷ tail

no_name : (name rest x : List ℕ) (b : ℕ) → begins_well name ≡ true → name ++ rest ≡ b ∷ x → (nat_eq b 46 ≡ true → ⊥) × (is_space b ≡ true → ⊥)
no_name [] rest x b well is = cc
no_name (n ∷ name) rest x b well is =
    let same : n ≡ b = cc in
    let parts = and_true (not (nat_eq n 46)) (not (is_space n)) well in (
      λ dot. let here : nat_eq n 46 ≡ true = subst (λ m. nat_eq m 46 ≡ true) (sym same) dot in let none : ⊥ = cc in none,
      λ blank. let here : is_space n ≡ true = subst (λ m. is_space m ≡ true) (sym same) blank in let none : ⊥ = cc in none,
    )

no_front : (front name rest x : List ℕ) → AreBlanks front → begins_well name ≡ true → marked x ≡ front ++ (name ++ rest) → ⊥
no_front [] name rest x blank well is = (no_name name rest (46 ∷ x) 9 well (sym is)).1 refl
no_front (a ∷ []) name rest x blank well is = let more : 46 ∷ x ≡ name ++ rest = cc in (no_name name rest x 46 well (sym more)).0 refl
no_front (a ∷ b ∷ front) name rest x blank well is =
    let same : 46 ≡ b = cc in
    let here : is_space b ≡ true = (and_true (is_space b) (list_all is_space front) (and_true (is_space a) (list_all is_space (b ∷ front)) blank).1).0 in
    let dot : is_space 46 ≡ true = subst (λ m. is_space m ≡ true) (sym same) here in
    let none : ⊥ = cc in none

line_unmarked : (text : List ℕ) (line : Line) → IsTextOf text line → (x : List ℕ) → text ≡ marked x → ⊥
line_unmarked text line is x at = no_front is.front line.name is.rest x is.front_blank (found_name_has begins_well table line.name is.row all_begin_well is.named) (sym at ∙ is.spelled)

blanks_unmarked : (blanks : List ℕ) → AreBlanks blanks → (x : List ℕ) → blanks ≡ marked x → ⊥
blanks_unmarked [] blank x at = cc
blanks_unmarked (a ∷ []) blank x at = cc
blanks_unmarked (a ∷ b ∷ blanks) blank x at =
    let same : b ≡ 46 = cc in
    let here : is_space b ≡ true = (and_true (is_space b) (list_all is_space blanks) (and_true (is_space a) (list_all is_space (b ∷ blanks)) blank).1).0 in
    let dot : is_space 46 ≡ true = subst (λ m. is_space m ≡ true) same here in
    let none : ⊥ = cc in none

-- ---- the first line of what is spelled

record FirstRow (bytes : List ℕ) : Type 0 where
  pub row : List ℕ
  pub rest : List ℕ
  pub lacks : Lacks 10 row
  pub unmarked : (x : List ℕ) → row ≡ marked x → ⊥
  pub bytes_are : bytes ≡ row ++ 10 ∷ rest
  pub others : List CodeItem
  pub spelled : Spells rest others

label_row : (f u : ℕ) (rest : List ℕ) → label_text f u ++ 58 ∷ 10 ∷ rest ≡ (label_text f u ++ 58 ∷ []) ++ 10 ∷ rest
label_row f u rest = sym (append_assoc (label_text f u) (58 ∷ []) (10 ∷ rest))

first_row : (bytes : List ℕ) (items : List CodeItem) → Spells bytes items → (bytes ≡ []) ⊎ FirstRow bytes
first_row _ _ Spells.end = inl refl
first_row _ _ (Spells.line text line rest items is more) =
    inr (record { row = text; rest = rest; lacks = line_lacks_newline text line is; unmarked = line_unmarked text line is; bytes_are = refl; others = items; spelled = more })
first_row _ _ (Spells.label f u rest items f_fits u_fits more) =
    inr (record { row = label_text f u ++ 58 ∷ []; rest = rest; lacks = label_lacks_newline f u f_fits u_fits; unmarked = λ x at. let no : ⊥ = cc in no; bytes_are = label_row f u rest; others = items; spelled = more })
first_row _ _ (Spells.blank blanks rest items blank more) =
    inr (record { row = blanks; rest = rest; lacks = blanks_lack_newline blanks blank; unmarked = blanks_unmarked blanks blank; bytes_are = refl; others = items; spelled = more })

-- a line behind the mark is no first line
no_row : (row rest tail : List ℕ) → ((x : List ℕ) → row ≡ marked x → ⊥) → marked tail ≡ row ++ 10 ∷ rest → ⊥
no_row [] rest tail unmarked is = cc
no_row (a ∷ []) rest tail unmarked is = cc
no_row (a ∷ b ∷ row) rest tail unmarked is = unmarked row (let first : 9 ≡ a = cc in let second : 46 ≡ b = cc in λ i. sym first i ∷ sym second i ∷ row)

-- ---- where a part ends

abbrev Ended : List ℕ → List ℕ → List ℕ → List ℕ → Type 0
Ended b b' tail tail' = (b ≡ b') × (tail ≡ tail')

-- both begin with a line
both_rows : (row rest row' rest' tail tail' : List ℕ) → Lacks 10 row → Lacks 10 row' → (row ++ 10 ∷ rest) ++ marked tail ≡ (row' ++ 10 ∷ rest') ++ marked tail' → (rest ++ marked tail ≡ rest' ++ marked tail' → Ended rest rest' tail tail') →
    Ended (row ++ 10 ∷ rest) (row' ++ 10 ∷ rest') tail tail'
both_rows row rest row' rest' tail tail' lacks lacks' is further =
    let parts = cut_at 10 row (rest ++ marked tail) row' (rest' ++ marked tail') lacks lacks' (sym (append_assoc row (10 ∷ rest) (marked tail)) ∙ is ∙ append_assoc row' (10 ∷ rest') (marked tail')) in
    let more = further parts.1 in
    (λ i. parts.0 i ++ 10 ∷ more.0 i, more.1)

-- one that begins with a line, and another
row_and : (row rest b' tail tail' : List ℕ) → Lacks 10 row → ((x : List ℕ) → row ≡ marked x → ⊥) → (b' ≡ []) ⊎ FirstRow b' → (row ++ 10 ∷ rest) ++ marked tail ≡ b' ++ marked tail' →
    ((rest' : List ℕ) (others : List CodeItem) → Spells rest' others → rest ++ marked tail ≡ rest' ++ marked tail' → Ended rest rest' tail tail') → Ended (row ++ 10 ∷ rest) b' tail tail'
row_and row rest b' tail tail' lacks unmarked other is further = ⊎_elim
    (λ (none : b' ≡ []). absurd (no_row row (rest ++ marked tail) tail' unmarked (sym (sym (append_assoc row (10 ∷ rest) (marked tail)) ∙ is ∙ ap (λ b. b ++ marked tail') none))))
    (λ (first : FirstRow b').
    let ended = both_rows row rest first.row first.rest tail tail' lacks first.lacks (is ∙ ap (λ b. b ++ marked tail') first.bytes_are) (further first.rest first.others first.spelled) in
    (ended.0 ∙ sym first.bytes_are, ended.1))
    other

pub cut_once : (b : List ℕ) (items : List CodeItem) → Spells b items → (b' : List ℕ) (items' : List CodeItem) → Spells b' items' → (tail tail' : List ℕ) → b ++ marked tail ≡ b' ++ marked tail' → Ended b b' tail tail'
cut_once _ _ Spells.end b' items' other tail tail' is = ⊎_elim
    (λ (none : b' ≡ []). (sym none, let same : marked tail ≡ marked tail' = is ∙ ap (λ b. b ++ marked tail') none in let tails : tail ≡ tail' = cc in tails))
    (λ (first : FirstRow b'). absurd (no_row first.row (first.rest ++ marked tail') tail first.unmarked (is ∙ ap (λ b. b ++ marked tail') first.bytes_are ∙ append_assoc first.row (10 ∷ first.rest) (marked tail'))))
    (first_row b' items' other)
cut_once _ _ (Spells.line text line rest items is_text more) b' items' other tail tail' is =
    row_and text rest b' tail tail' (line_lacks_newline text line is_text) (line_unmarked text line is_text) (first_row b' items' other) is
    (λ rest' others spelled at. cut_once rest items more rest' others spelled tail tail' at)
cut_once _ _ (Spells.label f u rest items f_fits u_fits more) b' items' other tail tail' is =
    let ended = row_and (label_text f u ++ 58 ∷ []) rest b' tail tail' (label_lacks_newline f u f_fits u_fits) (λ x at. let no : ⊥ = cc in no) (first_row b' items' other) (ap (λ b. b ++ marked tail) (sym (label_row f u rest)) ∙ is)
    (λ rest' others spelled at. cut_once rest items more rest' others spelled tail tail' at) in
    (label_row f u rest ∙ ended.0, ended.1)
cut_once _ _ (Spells.blank blanks rest items blank more) b' items' other tail tail' is =
    row_and blanks rest b' tail tail' (blanks_lack_newline blanks blank) (blanks_unmarked blanks blank) (first_row b' items' other) is
    (λ rest' others spelled at. cut_once rest items more rest' others spelled tail tail' at)

-- ---- all parts

same_behind : (front xs ys : List ℕ) → front ++ xs ≡ front ++ ys → xs ≡ ys
same_behind [] xs ys is = is
same_behind (b ∷ front) xs ys is = same_behind front xs ys (let same : front ++ xs ≡ front ++ ys = cc in same)

-- a part with its frame, before a rest
unframed : (name body rest : List ℕ) → framed name body ++ rest ≡ opening_lines name ++ (body ++ (closing_line name ++ rest))
unframed name body rest = append_assoc (opening_lines name) (body ++ closing_line name) rest ∙ ap (λ t. opening_lines name ++ t) (append_assoc body (closing_line name) rest)

parts_of : (functions : List Function) (text text' : List ℕ) (a b : List (List CodeItem)) → text ≡ text' → AreParts functions text a → AreParts functions text' b → a ≡ b
parts_of _ _ _ _ _ is AreParts.none AreParts.none = refl
parts_of _ _ _ _ _ is (AreParts.part f functions body rest items others spelled more) (AreParts.part _ _ body' rest' items' others' spelled' more') =
    let inside = same_behind (opening_lines f.name) (body ++ (closing_line f.name ++ rest)) (body' ++ (closing_line f.name ++ rest')) (sym (unframed f.name body rest) ∙ is ∙ unframed f.name body' rest') in
    let ended = cut_once body items spelled body' items' spelled' _ _ inside in
    let rests = same_behind (closing_line f.name) rest rest' (let closing : closing_line f.name ++ rest ≡ closing_line f.name ++ rest' = ap marked ended.1 in closing) in
    let first : items ≡ items' = spells_one body items items' spelled (subst (λ b. Spells b items') (sym ended.0) spelled') in
    let later : others ≡ others' = parts_of functions rest rest' others others' rests more more' in
    λ i. first i ∷ later i

pub one_cut : (functions : List Function) (text : List ℕ) (a b : List (List CodeItem)) → AreParts functions text a → AreParts functions text b → a ≡ b
one_cut functions text a b p q = parts_of functions text text a b refl p q

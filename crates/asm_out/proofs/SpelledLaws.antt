-- The text that is written spells its items.
use Rattle.std.proofs.Common.{◌≡◌, ◌≢◌, ℕ, ◌+◌, ◌<◌, ◌^◌, Bool, true, false, eqb, eq-eqb, arith, List, [], ◌∷◌, ◌++◌, map, refl, sym, ap, subst, ◌∙◌, append_assoc}
use Rattle.std.specs.List.{AllZip}
use Rattle.std.proofs.lemmas.List.{append-nil}
use Rattle.std.proofs.lemmas.Bool.{eqb-true, false≢true}
use Rattle.rtx_tree.specs.declared.function.Insn.{Insn}
use Rattle.rtx_tree.specs.declared.function.Function.{Function}
use Rattle.rv_text.specs.Body.{label_text, Spells}
use Rattle.rv_text.specs.Text.{IsTextOf}
use Rattle.rv_text.specs.declared.line.Line.{Line}
use Rattle.rv_text.specs.declared.line.CodeItem.{CodeItem}
use Rattle.rv_text.specs.declared.line.CodeItem.TheVariants as item
use Rattle.md_text.specs.Lists.{parts, prefixed}
use Rattle.md_text.proofs.Parts.{parts_begin, parts_cut, parts_grow}
use Rattle.md_forms.specs.declared.form.Entry.{Entry}
use Rattle.md_output.specs.Filled.{lines_of}
use Rattle.asm_out.specs.Filled.{text_of, written}
use Rattle.asm_out.specs.Written.{AreWritten}

-- a tab before a line
tab_first : (text : List ℕ) (line : Line) → IsTextOf text line → IsTextOf (9 ∷ text) line
tab_first text line t = record {
  row = t.row;
  named = t.named;
  front = 9 ∷ t.front;
  front_blank = t.front_blank;
  rest = t.rest;
  spelled = ap (λ (bytes : List ℕ). 9 ∷ bytes) t.spelled;
  rest_is = t.rest_is;
}

tabbed : (texts : List (List ℕ)) (ls : List Line) → AllZip IsTextOf texts ls → texts ≢ [] → AllZip IsTextOf (prefixed (9 ∷ []) texts) ls
tabbed [] ls zipped some = absurd (some refl)
tabbed (t ∷ texts) [] zipped some = absurd zipped
tabbed (t ∷ texts) (line ∷ ls) zipped some = (tab_first t line zipped.0, zipped.1)

-- what the rest of a text spells behind a front that is begun
abbrev Rest : List ℕ → List ℕ → List CodeItem → Type 0
Rest text rest items = (front : List ℕ) (ls : List Line) → AllZip IsTextOf (prefixed front (parts 10 text)) ls → Spells (front ++ (text ++ 10 ∷ rest)) (map item.Code ls ++ items)

-- a line ends
line_ends : (front : List ℕ) (b : ℕ) (text rest : List ℕ) (items : List CodeItem) (ls : List Line) → Rest text rest items → b ≡ 10 →
    AllZip IsTextOf ((front ∷ []) ++ prefixed [] (parts 10 text)) ls → Spells (front ++ (b ∷ (text ++ 10 ∷ rest))) (map item.Code ls ++ items)
line_ends front b text rest items [] behind is zipped = absurd zipped
line_ends front b text rest items (line ∷ ls) behind is zipped =
    subst (λ c. Spells (front ++ (c ∷ (text ++ 10 ∷ rest))) (item.Code line ∷ (map item.Code ls ++ items))) (sym is)
    (Spells.line front line (text ++ 10 ∷ rest) (map item.Code ls ++ items) zipped.0 (behind [] ls zipped.1))

-- one byte more
byte_on : (front : List ℕ) (b : ℕ) (text rest : List ℕ) (items : List CodeItem) (ls : List Line) → Rest text rest items → AllZip IsTextOf (prefixed front (parts 10 (b ∷ text))) ls →
    Spells (front ++ ((b ∷ text) ++ 10 ∷ rest)) (map item.Code ls ++ items)
byte_on front b text rest items ls behind zipped = go (eqb b 10) refl
  where
    go : (here : Bool) → eqb b 10 ≡ here → Spells (front ++ ((b ∷ text) ++ 10 ∷ rest)) (map item.Code ls ++ items)
    go true is =
        line_ends front b text rest items ls behind (eqb-true b 10 is)
        (subst (λ (ps : List (List ℕ)). AllZip IsTextOf ps ls) (sym (parts_cut 10 [] front (b ∷ text) 0 (prefixed front (parts 10 (b ∷ text))) (omega arith) (eqb-true b 10 is) refl)) zipped)
    go false is =
        subst (λ (bytes : List ℕ). Spells bytes (map item.Code ls ++ items)) (append_assoc front (b ∷ []) (text ++ 10 ∷ rest))
        (behind (front ++ b ∷ []) ls
        (subst (λ (ps : List (List ℕ)). AllZip IsTextOf ps ls)
        (sym (parts_grow 10 [] front (b ∷ text) 0 (prefixed front (parts 10 (b ∷ text))) (omega arith) (λ same. false≢true (sym is ∙ eq-eqb b 10 same)) refl)) zipped))

-- the lines of a text behind a front that is begun
spells_parts : (front text rest : List ℕ) (ls : List Line) (items : List CodeItem) → AllZip IsTextOf (prefixed front (parts 10 text)) ls → Spells rest items → Spells (front ++ (text ++ 10 ∷ rest)) (map item.Code ls ++ items)
spells_parts front [] rest [] items zipped more = absurd zipped
spells_parts front [] rest (line ∷ []) items zipped more = Spells.line front line rest items (subst (λ t. IsTextOf t line) (append-nil front) zipped.0) more
spells_parts front [] rest (line ∷ next ∷ ls) items zipped more = absurd zipped.1
spells_parts front (b ∷ text) rest ls items zipped more = byte_on front b text rest items ls (λ front ls zipped. spells_parts front text rest ls items zipped more) zipped

-- there is a first part
some_parts : (text : List ℕ) → parts 10 text ≢ []
some_parts text none = let e : prefixed [] [] ≡ [] = subst (λ (ps : List (List ℕ)). prefixed [] ps ≡ ps) none (parts_begin 10 text) in let never : ⊥ = cc in never

-- the lines of an instruction
insn_spelled : (text rest : List ℕ) (ls : List Line) (items : List CodeItem) → AllZip IsTextOf (lines_of text) ls → Spells rest items → Spells (written text ++ rest) (map item.Code ls ++ items)
insn_spelled [] rest [] items zipped more = Spells.blank (9 ∷ []) rest items refl more
insn_spelled [] rest (line ∷ ls) items zipped more = absurd zipped
insn_spelled (b ∷ text) rest ls items zipped more =
    subst (λ bytes. Spells (9 ∷ bytes) (map item.Code ls ++ items)) (sym (append_assoc (b ∷ text) (10 ∷ []) rest))
    (spells_parts (9 ∷ []) (b ∷ text) rest ls items (tabbed (parts 10 (b ∷ text)) ls zipped (some_parts (b ∷ text))) more)

-- and those of a chain
pub chain_spelled : (forms : List Entry) (number : ℕ) (f : Function) (place : ℕ) (insns : List Insn) (text : List ℕ) (items : List CodeItem) → number < 2 ^ 32 → AreWritten forms number f place insns text items → Spells text items
chain_spelled forms number f _ _ _ _ small (AreWritten.none place) = Spells.end
chain_spelled forms number f _ _ _ _ small (AreWritten.label place i insns text items is uid more) =
    subst (λ bytes. Spells bytes (item.Label number i.uid ∷ items)) (sym (append_assoc (label_text number i.uid) (58 ∷ 10 ∷ []) text))
    (Spells.label number i.uid text items small uid (chain_spelled forms number f (place + 1) insns text items small more))
chain_spelled forms number f _ _ _ _ small (AreWritten.silent place i insns text items is more) = chain_spelled forms number f (place + 1) insns text items small more
chain_spelled forms number f _ _ _ _ small (AreWritten.lines place i insns c ls text items are more) =
    insn_spelled (text_of forms number i c) text ls items are.spelled (chain_spelled forms number f (place + 1) insns text items small more)

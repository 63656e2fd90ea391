-- The lines of a text: which they are, and that each is a line of the table where they are equated with an instruction.
use Rattle.std.proofs.Common.{◌≡◌, ◌≢◌, ℕ, ◌+◌, Bool, true, false, ◌&&◌, List, [], ◌∷◌, Option, Some, None, refl, sym, ap, ◌∙◌}
use Rattle.std.specs.Prelude.{if◌then◌else◌, option_and_then}
use Rattle.std.specs.List.{AllZip}
use Rattle.rtx_tree.specs.declared.function.Insn.{Insn}
use Rattle.rv_text.specs.Table.{row_named, table}
use Rattle.rv_text.specs.Lines.{is_of_row, action_of}
use Rattle.rv_text.specs.Text.{IsTextOf}
use Rattle.rv_text.specs.declared.action.Action.{Action}
use Rattle.rv_text.specs.declared.line.Line.{Line}
use Rattle.rv_text.proofs.OneLine.{one_line}
use Rattle.pass_refusal.specs.equate.sym_state.State.{State, Ran, Runs, ran}
use Rattle.pass_refusal.specs.equate.sym_state.State as state
use Rattle.pass_refusal.specs.equate.sym_lines.Run.{fits_action, bad_from, bad_line, run_from}
use Rattle.pass_refusal.specs.equate.sym_lines.Run as lines
use Rattle.pass_refusal.specs.equate.sym_state.State.{start}
use Rattle.pass_refusal.specs.equate.sym_insns.Run as insns
use Rattle.pass_refusal.specs.equate.Verdict.{Same}
use Rattle.pass_refusal.specs.equate.Side.{Lines, returns_by, is_one_return, is_one_return_line, both_return}
use Rattle.pass_refusal.specs.equate.Equated.{judged, Equated}
use Rattle.asm_out.specs.Filled.{IsReadAs, no_line}

-- ---- one list of lines

one_read : (text : List ℕ) (a b : Line) → IsReadAs text a → IsReadAs text b → a ≡ b
one_read text a b (IsReadAs.spelled x) (IsReadAs.spelled y) = one_line text a b x y
one_read text a b (IsReadAs.spelled x) (IsReadAs.unread none is) = absurd (none a x)
one_read text a b (IsReadAs.unread none is) (IsReadAs.spelled y) = absurd (none b y)
one_read text a b (IsReadAs.unread none is) (IsReadAs.unread none' is') = is ∙ sym is'

pub lines_one : (texts : List (List ℕ)) (xs ys : List Line) → AllZip IsReadAs texts xs → AllZip IsReadAs texts ys → xs ≡ ys
lines_one [] [] [] a b = refl
lines_one [] [] (y ∷ ys) a b = absurd b
lines_one [] (x ∷ xs) ys a b = absurd a
lines_one (t ∷ texts) [] ys a b = absurd a
lines_one (t ∷ texts) (x ∷ xs) [] a b = absurd b
lines_one (t ∷ texts) (x ∷ xs) (y ∷ ys) a b =
    ap (λ (l : Line). l ∷ xs) (one_read t x y a.0 b.0) ∙ ap (λ (ls : List Line). y ∷ ls) (lines_one texts xs ys a.1 b.1)

-- ---- lines of the table

-- each is one
abbrev pub AreActing : List Line → Type 0
AreActing [] = Unit {0}
AreActing (line ∷ lines) = (action_of line ≢ None) × AreActing lines

fits_acting : (a : Option Action) (rest : List Line) → fits_action a rest ≡ true → a ≢ None
fits_acting None rest h = λ is. let none : false ≡ true = h in let never : ⊥ = cc in never
fits_acting (Some a) rest h = λ is. let never : ⊥ = cc in never

good_acting : (index : ℕ) (ls : List Line) → bad_from index ls ≡ None → AreActing ls
good_acting index [] h = tt
good_acting index (line ∷ ls) h = go (λ h. good_acting (index + 1) ls h) (fits_action (action_of line) ls) refl h
  where
    go : (bad_from (index + 1) ls ≡ None → AreActing ls) → (b : Bool) → fits_action (action_of line) ls ≡ b → (if b then bad_from (index + 1) ls else Some index) ≡ None → (action_of line ≢ None) × AreActing ls
    go rest true is h = (fits_acting (action_of line) ls is, rest h)
    go rest false is h = cc

runs_good : (bad : Option ℕ) (after : Option State) (s : State) → ran bad after ≡ Runs s → bad ≡ None
runs_good (Some index) after s h = cc
runs_good None after s h = refl

judged_runs : (of_lines : Bool) (live : List ℕ) (a b : Ran) → judged of_lines live a b ≡ Same → (s : State) × (b ≡ Runs s)
judged_runs of_lines live (state.BadShape index) b h = cc
judged_runs of_lines live state.TooLarge (state.BadShape index) h = cc
judged_runs of_lines live state.TooLarge state.TooLarge h = cc
judged_runs of_lines live state.TooLarge (Runs b) h = cc
judged_runs of_lines live (Runs a) (state.BadShape index) h = cc
judged_runs of_lines live (Runs a) state.TooLarge h = cc
judged_runs of_lines live (Runs a) (Runs b) h = (b, refl)

returns_acting : (a : Option Action) (line : Line) → returns_by a line ≡ true → a ≢ None
returns_acting None line h = λ is. let none : false ≡ true = h in let never : ⊥ = cc in never
returns_acting (Some a) line h = λ is. let never : ⊥ = cc in never

one_return_acting : (number : ℕ) (ls : List Line) → is_one_return_line (Lines number ls) ≡ true → AreActing ls
one_return_acting number [] h = tt
one_return_acting number (line ∷ []) h = (returns_acting (action_of line) line h, tt)
one_return_acting number (line ∷ next ∷ ls) h = absurd (let none : false ≡ true = h in let never : ⊥ = cc in never)

second : (a b : Bool) → (a && b) ≡ true → b ≡ true
second true b h = h
second false b h = absurd (let none : false ≡ true = h in let never : ⊥ = cc in never)

pub equated_acting : (before : List Insn) (number : ℕ) (ls : List Line) (live : List ℕ) → Equated before (Lines number ls) live → AreActing ls
equated_acting before number ls live h = go (both_return before (Lines number ls)) refl h
  where
    go : (b : Bool) → both_return before (Lines number ls) ≡ b → (if b then Same else judged true live (insns.run before) (lines.run number ls)) ≡ Same → AreActing ls
    go true is h = one_return_acting number ls (second (is_one_return before) (is_one_return_line (Lines number ls)) is)
    go false is h =
        let runs = judged_runs true live (insns.run before) (lines.run number ls) h in
        good_acting 0 ls (runs_good (bad_line ls) (run_from number 0 ls start) runs.0 runs.1)

none_named : row_named [] ≡ None
unfolding table
none_named = refl

no_action : action_of no_line ≡ None
no_action = ap (option_and_then (λ row. if is_of_row row no_line then Some row.action else None)) none_named

-- so they are the texts' own
read_acting : (text : List ℕ) (line : Line) → IsReadAs text line → action_of line ≢ None → IsTextOf text line
read_acting text line (IsReadAs.spelled x) acts = x
read_acting text line (IsReadAs.unread none is) acts = absurd (acts (ap action_of is ∙ no_action))

pub read_all : (texts : List (List ℕ)) (ls : List Line) → AllZip IsReadAs texts ls → AreActing ls → AllZip IsTextOf texts ls
read_all [] [] zipped acts = tt
read_all [] (line ∷ ls) zipped acts = absurd zipped
read_all (t ∷ texts) [] zipped acts = absurd zipped
read_all (t ∷ texts) (line ∷ ls) zipped acts = (read_acting t line zipped.0 acts.0, read_all texts ls zipped.1 acts.1)

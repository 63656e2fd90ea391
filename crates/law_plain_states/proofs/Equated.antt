-- An instruction and lines come to states, and where these agree the two are equated.
use Rattle.std.proofs.Common.{◌≡◌, ℕ, true, false, if◌then◌else◌, ◌&&◌, List, [], ◌∷◌, Some, None, ◌∙◌, ap}
use Rattle.rtx_tree.specs.declared.function.Insn.{Insn}
use Rattle.rv_text.specs.Lines.{action_of}
use Rattle.rv_text.specs.declared.line.Line.{Line}
use Rattle.sym_state.specs.State.{State, Runs, start, is_within, ran}
use Rattle.sym_insns.specs.Run as insns
use Rattle.sym_insns.specs.Shape.{fits_kind}
use Rattle.sym_lines.specs.Run as lines
use Rattle.sym_diff.specs.States.{difference}
use Rattle.equate.specs.Side.{Lines, is_one_return, is_one_return_line}
use Rattle.equate.specs.Verdict.{Same}
use Rattle.equate.specs.Equated.{Equated, judged, told}

-- ---- what one instruction comes to

pub insn_runs : (i : Insn) → fits_kind i.kind i true ≡ true → is_within (insns.after 0 i start) ≡ true → insns.run (i ∷ []) ≡ Runs (insns.after 0 i start)
insn_runs i fits small =
    let next = insns.after 0 i start in
    ap (λ b. ran (if b then None else Some 0) (if is_within next then Some next else None)) fits ∙ ap (λ b. ran None (if b then Some next else None)) small

-- ---- what one line comes to, and two

pub line_runs : (number : ℕ) (l : Line) → lines.fits_action (action_of l) [] ≡ true → is_within (lines.after number 0 l start) ≡ true →
    lines.run number (l ∷ []) ≡ Runs (lines.after number 0 l start)
line_runs number l fits small =
    let next = lines.after number 0 l start in
    ap (λ b. ran (if b then None else Some 0) (if is_within next then Some next else None)) fits ∙ ap (λ b. ran None (if b then Some next else None)) small

-- ---- and the comparison

pub equated : (i : Insn) (number : ℕ) (ls : List Line) (live : List ℕ) (a b : State) → is_one_return (i ∷ []) ≡ false → insns.run (i ∷ []) ≡ Runs a → lines.run number ls ≡ Runs b →
    difference true live a b ≡ None → Equated (i ∷ []) (Lines number ls) live
equated i number ls live a b stays comes goes same =
    ap (λ r. if r && is_one_return_line (Lines number ls) then Same else judged true live (insns.run (i ∷ [])) (lines.run number ls)) stays ∙
    (ap (λ r. judged true live r (lines.run number ls)) comes ∙ (ap (λ r. judged true live (Runs a) r) goes ∙ ap told same))

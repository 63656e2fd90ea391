-- A return, and ret.
use Rattle.std.proofs.Common.{◌≡◌, ℕ, true, ◌&&◌, if◌then◌else◌, List, [], ◌∷◌, Some, pos, ◌∙◌, ap}
use Rattle.rtx_tree.specs.declared.code.Code.TheVariants.{Return}
use Rattle.rtx_tree.specs.declared.code.Mode.TheVariants.{Void}
use Rattle.rtx_tree.specs.declared.function.Insn.{Insn}
use Rattle.rtx_tree.specs.declared.function.Kind.TheVariants.{Jump}
use Rattle.rtx_tree.specs.Tree.{head_of}
use Rattle.rtl_func.specs.Modes.{shapes_agree}
use Rattle.reg_uses.specs.Uses.{is_return, is_return_code}
use Rattle.rv_text.specs.Lines.{action_of}
use Rattle.rv_text.specs.declared.line.Line.{Line}
use Rattle.rv_text.specs.declared.action.Action.TheVariants as action
use Rattle.rv_text.specs.declared.action.Source.TheVariants.{ReturnAddress}
use Rattle.sym_insns.specs.Run as insns
use Rattle.sym_lines.specs.Run as lines
use Rattle.equate.specs.Side.{Lines, is_jump, is_one_return, returns_by}
use Rattle.equate.specs.Verdict.{Same}
use Rattle.equate.specs.Equated.{Equated, judged}
use Rattle.rtx_open.proofs.Expressions.{Written, node, none, rtx, outside_is}
use Rattle.law_plain_states.proofs.Rows.{both}

-- (return)
abbrev pub return : Written
return = node Return Void (pos 0) [] none

is_one : (i : Insn) → i.kind ≡ Jump → i.pattern ≡ rtx return → shapes_agree i.pattern ≡ true → is_one_return (i ∷ []) ≡ true
is_one i jump pattern shaped =
    ap (λ k. is_jump k && (is_return i && shapes_agree i.pattern)) jump ∙
    both (is_return i) _ (ap (λ p. is_return_code (head_of p).code) pattern ∙ ap (λ o. is_return_code o.code) (outside_is return)) shaped

pub return_equated : (i : Insn) (number : ℕ) (live : List ℕ) (l : Line) → i.kind ≡ Jump → i.pattern ≡ rtx return → shapes_agree i.pattern ≡ true → action_of l ≡ Some (action.Return ReturnAddress) →
    Equated (i ∷ []) (Lines number (l ∷ [])) live
return_equated i number live l jump pattern shaped does =
    let rest = judged true live (insns.run (i ∷ [])) (lines.run number (l ∷ [])) in
    ap (λ b. if b && returns_by (action_of l) l then Same else rest) (is_one i jump pattern shaped) ∙ ap (λ o. if returns_by o l then Same else rest) does

-- The registers that scratches are given.
use Rattle.std.proofs.Common.{◌≡◌, ℕ, ◌||◌, List, [], ◌∷◌, map, Option, Result, Ok, Err, refl, ap, ◌∙◌}
use Rattle.std.specs.Prelude.{IfOk}
use Rattle.std.specs.List.{list_any}
use Rattle.rtx_tree.specs.declared.tree.Rtx.{Rtx}
use Rattle.rtx_tree.specs.declared.function.Insn.{Insn}
use Rattle.rtx_tree.specs.Tree.{mentions_reg}
use Rattle.c_eval.specs.declared.facts.Facts.{Facts}
use Rattle.md_match.specs.Pattern.{Ops}
use Rattle.md_forms.specs.declared.form.Form.{Form}
use Rattle.peep2.specs.Scratch.{scratches_of, free_registers, with_scratches}
use Rattle.peep2.specs.Rewrite.{given_to}

-- what those of a form are given
pub given_ok : {E : Type 0} (says : Form) (facts : Facts) (insns : List Rtx) (o : Ops) (dead : List (List ℕ)) (ps : List Rtx) (rs regs : List ℕ) (r : Result (Option Ops) E) →
    dead ≡ facts.dead → ps ≡ says.patterns → rs ≡ regs → regs ≡ free_registers dead insns →
    IfOk r (λ given. given ≡ with_scratches (scratches_of ps) rs o) → IfOk r (λ given. given ≡ given_to says facts insns o)
given_ok says facts insns o dead ps rs regs (Ok given) known listed shown are gives =
    gives ∙
    (ap (λ (l : List Rtx). with_scratches (scratches_of l) rs o) listed ∙
    ap (λ (l : List ℕ). with_scratches (scratches_of says.patterns) l o) (shown ∙ (are ∙ ap (λ (d : List (List ℕ)). free_registers d insns) known)))
given_ok says facts insns o dead ps rs regs (Err e) known listed shown are gives = tt

-- what stands in one of some instructions
pub mentioned : (reg : ℕ) (insns : List Insn) → list_any (λ (i : Insn). mentions_reg reg i.pattern) insns ≡ list_any (mentions_reg reg) (map (λ (i : Insn). i.pattern) insns)
mentioned reg [] = refl
mentioned reg (i ∷ insns) = ap (λ b. mentions_reg reg i.pattern || b) (mentioned reg insns)

-- An instruction that is made in the place of a placed one is placed.
use Rattle.std.proofs.Common.{◌≡◌, ℕ, true, false, List, refl, sym, ◌∙◌}
use Rattle.std.proofs.lemmas.Bool.{false≢true, true≢false, and_parts}
use Rattle.rtx_tree.specs.declared.function.ArgUse.{ArgUse}
use Rattle.rtx_tree.specs.declared.function.Insn.{Insn}
use Rattle.rtx_tree.specs.declared.function.Kind.{Kind}
use Rattle.rtx_tree.specs.declared.function.Kind.TheVariants as kind
use Rattle.rtx_tree.specs.declared.tree.Rtx.{Rtx}
use Rattle.rtl_func.specs.Calls.{is_argument}
use Rattle.rtl_func.specs.Kinds.{kinds_agree}
use Rattle.rtl_func.specs.Modes.{shapes_agree}
use Rattle.rtl_step.specs.Step.{is_mark}
use Rattle.reg_uses.specs.Uses.{has_argument}
use Rattle.sym_insns.specs.Shape.{is_shaped, all_natural}
use Rattle.new_insns.specs.Made.{kind_of, uses_between, insn_for}
use Rattle.law_lines_ready.specs.Placed.{IsInsnPlaced}
use Rattle.law_lines_ready.proofs.Notes.{note_plain, no_label}

abbrev ArePassed : List ArgUse → Type 0
ArePassed uses = (reg : ℕ) → has_argument reg uses ≡ true → is_argument reg ≡ true

-- a call in the place of a call is handed what it was, and nothing else is handed anything
handed : (old new : Kind) (uses : List ArgUse) → (is_mark old ≡ false → ArePassed uses) → ArePassed (uses_between old new uses)
handed kind.Call kind.Call uses passed = passed refl
handed _ _ uses passed = λ reg has. absurd (false≢true has)

pub new_placed : (old : Insn) (uid : ℕ) (x : Rtx) → IsInsnPlaced old → is_mark (kind_of x) ≡ false →
    is_shaped (insn_for old uid x) ≡ true → IsInsnPlaced (insn_for old uid x)
new_placed old uid x is none shaped =
    let kinds = and_parts (kinds_agree (kind_of x) x) _ shaped in
    let shapes = and_parts (shapes_agree x) _ kinds.1 in record {
      marks = λ mark reg. absurd (true≢false (sym mark ∙ none));
      label = λ label. absurd (no_label (kind_of x) none label);
      plain = λ free note. note_plain (kind_of x) x kinds.0 free note;
      natural = (and_parts (all_natural x) _ shapes.1).0;
      passed = λ free. handed old.kind (kind_of x) old.uses is.passed;
    }

-- What an instruction and the lines of a template come to, compared by themselves.
use Rattle.std.specs.Prelude.{◌≡◌, ℕ, ◌&&◌, Bool, true, false, nat_le, nat_lt, List, [], ◌∷◌, Option, Some, None}
use Rattle.rtx_tree.specs.RegSet.{has_reg}
use Rattle.rtx_tree.specs.declared.function.Insn.{Insn}
use Rattle.rtx_tree.specs.declared.tree.Rtx.{Rtx}
use Rattle.rv_text.specs.declared.line.Line.{Line}
use Rattle.term_tree.specs.View.{tree_of}
use Rattle.md_text.specs.declared.template.Template.{Template}
use Rattle.md_output.specs.Filled.{filled, lines_of}
use Rattle.sym_diff.specs.Difference.{Differ, Lacks}
use Rattle.equate.specs.Side.{Lines}
use Rattle.equate.specs.Verdict.{Verdict, Same, Different, BadShape, TooLarge}
use Rattle.equate.specs.Equated.{verdict}
use Rattle.lint_judge.specs.Lines.{is_unread, is_quoted}
use Rattle.md_output.specs.Read.{AreReadAs}
use Rattle.lint_judge.specs.declared.judged.Fault.{Fault}
use Rattle.lint_judge.specs.declared.judged.Fault.TheVariants as fault
use Rattle.lint_judge.specs.declared.judged.Judged.{Judged}

-- ---- what is live behind

-- the registers of the machine but `zero`
abbrev pub is_named : ℕ → Bool
is_named reg = nat_le 1 reg && nat_lt reg 32

abbrev pub AreAllLive : List ℕ → Type 0
AreAllLive live = (reg : ℕ) → has_reg live reg ≡ is_named reg

-- ---- faults

-- A fault is what a verdict tells, and there is none where the sides are equated. A line can't be
-- compared where an operand wasn't printed, its text is no line, or it leads elsewhere and is not
-- the last.
abbrev pub Tells : List (List ℕ) → List Line → Option Fault → Verdict → Type 0
Tells texts lines None v = v ≡ Same
Tells texts lines (Some fault.Large) v = v ≡ TooLarge
Tells texts lines (Some (fault.Differs item left right)) v =
    v ≡ Different (Differ item (tree_of left) (tree_of right))
Tells texts lines (Some (fault.Needs term)) v = v ≡ Different (Lacks (tree_of term))
Tells texts lines (Some (fault.Unprinted place)) v =
    (v ≡ BadShape place) × (is_unread lines place ≡ true) × (is_quoted texts place ≡ true)
Tells texts lines (Some (fault.Unknown place)) v =
    (v ≡ BadShape place) × (is_unread lines place ≡ true) × (is_quoted texts place ≡ false)
Tells texts lines (Some (fault.Early place)) v =
    (v ≡ BadShape place) × (is_unread lines place ≡ false)

-- What comes of the lines with some texts, in a function with number 0, for an instruction: the
-- fault that the verdict on them tells, all registers live behind.
pub record IsCompared (texts : List (List ℕ)) (insn : Insn) (found : Option Fault) : Type 0 where
  pub lines : List Line
  pub read : AreReadAs texts lines
  pub live : List ℕ
  pub all_live : AreAllLive live
  pub tells : Tells texts lines found (verdict (insn ∷ []) (Lines 0 lines) live)

-- What comes of a template in an alternative for an instruction and its operands: the texts of its
-- lines, and what comes of these.
pub record IsJudged (template : Template) (alternative : ℕ) (operands : List (Option Rtx)) (insn : Insn) (judged : Judged) : Type 0 where
  pub texts_are : judged.texts ≡ lines_of (filled template alternative 0 insn.uid operands)
  pub compared : IsCompared judged.texts insn judged.fault

-- Conditions of the plain forms that are met before registers have homes.
use Rattle.std.proofs.Common.{◌≡◌, ℕ, pos, Bool, true, false, not, ◌||◌, List, [], ◌∷◌, codes, Some, refl, ap, ◌∙◌}
use Rattle.std.specs.Prelude.{unwrap_or}
use Rattle.rtx_tree.specs.declared.code.Mode.{Mode}
use Rattle.rtx_tree.specs.declared.tree.Rtx.{Rtx}
use Rattle.c_cond.specs.c_words.declared.head.Binary.TheVariants as op
use Rattle.c_cond.specs.c_words.declared.head.CondHead.TheVariants as head
use Rattle.c_eval.specs.Numbers.{is_zero, truth, joined}
use Rattle.c_eval.specs.Value.{number_of, read_by, setting, as_reading}
use Rattle.c_eval.specs.declared.facts.Facts.{Facts}
use Rattle.c_eval.specs.declared.reading.Reading.{Reading}
use Rattle.pred_expr.specs.Texts.{always}
use Rattle.md_match.specs.Pattern.{Ops}
use Rattle.md_recog.specs.Match.{Accepts, is_met}
use Rattle.rtx_open.proofs.Conditions as conditions
use Rattle.plain_forms.specs.Conditions as condition

-- what a reading is worth
abbrev worth_of : Reading → Bool
worth_of r = not (is_zero (unwrap_or (number_of r) (pos 0)))

abbrev written_always : conditions.Written
written_always = conditions.node (head.Number (pos 1)) conditions.none

pub always_met : (accepts : Accepts) (facts : Facts) (operands : Ops) → is_met accepts facts always operands ≡ true
always_met accepts facts operands = ap worth_of (conditions.reads (read_by (setting facts operands accepts)) written_always)

-- ---- a move: a register is set, or a register or 0 is stored

abbrev holds : List ℕ → ℕ → Mode → conditions.Written
holds name k m = conditions.node (head.Predicate name) (conditions.with (conditions.node (head.Operand k) conditions.none) (conditions.with (conditions.node (head.Mode m) conditions.none) conditions.none))

abbrev written_moves : Mode → conditions.Written
written_moves m = conditions.node (head.Binary op.Or) (conditions.with (holds (codes "register_operand") 0 m) (conditions.with (holds (codes "reg_or_0_operand") 1 m) conditions.none))

either : (p q : Bool) → (p || q) ≡ true → worth_of (as_reading (joined op.Or (number_of (as_reading (Some (truth p)))) (number_of (as_reading (Some (truth q)))))) ≡ true
either true q is = refl
either false true is = refl
either false false is = absurd (let no : ⊥ = cc in no)

pub moves_met : (accepts : Accepts) (facts : Facts) (a b : Rtx) (m : Mode) → (accepts (codes "register_operand") a m || accepts (codes "reg_or_0_operand") b m) ≡ true →
    is_met accepts facts (condition.moves m) (Some a ∷ Some b ∷ []) ≡ true
moves_met accepts facts a b m is =
    ap worth_of (conditions.reads (read_by (setting facts (Some a ∷ Some b ∷ []) accepts)) (written_moves m)) ∙ either (accepts (codes "register_operand") a m) (accepts (codes "reg_or_0_operand") b m) is

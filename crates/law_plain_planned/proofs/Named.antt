-- The first plain form of a standard name whose condition holds, and what it is.
use Rattle.std.proofs.Common.{◌≡◌, ℕ, Bool, true, List, [], ◌∷◌, codes, Option, Some, None, Ok, refl, sym, ap, ◌∙◌}
use Rattle.std.specs.Prelude.{if◌then◌else◌, slice_get}
use Rattle.std.specs.List.{position_from}
use Rattle.rtx_tree.specs.declared.tree.Rtx.{Rtx}
use Rattle.c_cond.specs.declared.tree.Tree.{Tree}
use Rattle.pred_expr.specs.Texts.{always}
use Rattle.md_match.specs.Pattern.{Ops}
use Rattle.md_recog.specs.Match.{Accepts, is_met}
use Rattle.md_forms.specs.declared.form.Entry.{Entry}
use Rattle.md_forms.specs.declared.form.Form.{Form}
use Rattle.md_pred.specs.Holds.{holds}
use Rattle.md_emit.specs.Emitted.{says_at}
use Rattle.form_needs.specs.Needs.{lower_facts}
use Rattle.lower_insn.specs.Plan.{is_form, first_form, patterns_at}
use Rattle.plain_forms.specs.Forms.{plain_forms}
use Rattle.law_plain_matched.proofs.Found.{listed, are_listed}
use Rattle.law_plain_taken.proofs.Conditions.{always_met}

-- the one with an index alone has the name, and its condition is empty
abbrev pub IsNamed : List ℕ → ℕ → Type 0
IsNamed name k = (accepts : Accepts) (operands : Ops) → position_from (is_form accepts name operands) 0 listed ≡ (if is_met accepts lower_facts always operands then Some k else None)

pub named_first : (name : List ℕ) (k : ℕ) → IsNamed name k → (operands : Ops) → first_form plain_forms name operands ≡ Some k
named_first name k named operands =
    ap (λ forms. position_from (is_form (holds plain_forms) name operands) 0 forms) are_listed ∙
    (named (holds plain_forms) operands ∙ ap (λ b. if b then Some k else None) (always_met (holds plain_forms) lower_facts operands))

-- what the form with an index says
pub says : (k : ℕ) (f : Form) → says_at listed k ≡ Some f → says_at plain_forms k ≡ Some f
says k f is = ap (λ forms. says_at forms k) are_listed ∙ is

pub patterns : (k : ℕ) (xs : List Rtx) → patterns_at listed k ≡ xs → patterns_at plain_forms k ≡ xs
patterns k xs is = ap (λ forms. patterns_at forms k) are_listed ∙ is

-- ---- the names

pub subtracts_si : IsNamed (codes "subsi3") 19
subtracts_si accepts operands = refl

pub subtracts_di : IsNamed (codes "subdi3") 20
subtracts_di accepts operands = refl

pub multiplies_si : IsNamed (codes "mulsi3") 22
multiplies_si accepts operands = refl

pub multiplies_di : IsNamed (codes "muldi3") 23
multiplies_di accepts operands = refl

pub divides_si : IsNamed (codes "divsi3") 24
divides_si accepts operands = refl

pub udivides_si : IsNamed (codes "udivsi3") 25
udivides_si accepts operands = refl

pub mods_si : IsNamed (codes "modsi3") 26
mods_si accepts operands = refl

pub umods_si : IsNamed (codes "umodsi3") 27
umods_si accepts operands = refl

pub divides_di : IsNamed (codes "divdi3") 28
divides_di accepts operands = refl

pub udivides_di : IsNamed (codes "udivdi3") 29
udivides_di accepts operands = refl

pub mods_di : IsNamed (codes "moddi3") 30
mods_di accepts operands = refl

pub umods_di : IsNamed (codes "umoddi3") 31
umods_di accepts operands = refl

pub moves_qi : IsNamed (codes "movqi") 7
moves_qi accepts operands = refl

pub moves_hi : IsNamed (codes "movhi") 8
moves_hi accepts operands = refl

pub moves_si : IsNamed (codes "movsi") 9
moves_si accepts operands = refl

pub moves_di : IsNamed (codes "movdi") 10
moves_di accepts operands = refl

pub stores_si : IsNamed (codes "cstoresi4") 92
stores_si accepts operands = refl

pub branches_di : IsNamed (codes "cbranchdi4") 93
branches_di accepts operands = refl

pub branches_si : IsNamed (codes "cbranchsi4") 94
branches_si accepts operands = refl

-- Branches on a comparison of a register with a register, and with 0.
use Rattle.std.proofs.Common.{◌≡◌, ℕ, suc, ◌<◌, ◌^◌, Bool, true, false, if◌then◌else◌, List, [], ◌∷◌, ◌++◌, Option, Some, refl, ◌∙◌, ap}
use Rattle.std.specs.Prelude.{ℤ}
use Rattle.std.specs.List.{list_all}
use Rattle.bits64.specs.declared.Width.TheVariants.{W8, W64}
use Rattle.bits64.specs.declared.operator.Relation.{Relation}
use Rattle.bits64.specs.declared.operator.Relation.TheVariants as relation
use Rattle.rtx_tree.specs.declared.code.Code.{Code}
use Rattle.rtx_tree.specs.declared.code.Code.TheVariants as code
use Rattle.rtx_tree.specs.declared.code.Mode.{Mode}
use Rattle.rtx_tree.specs.declared.code.Mode.TheVariants.{DI}
use Rattle.rtx_tree.specs.declared.function.Insn.{Insn}
use Rattle.rv_text.specs.Body.{label_text}
use Rattle.rv_text.specs.Lines.{action_of}
use Rattle.rv_text.specs.declared.line.Line.{Line}
use Rattle.rv_text.specs.declared.action.Action.{Action}
use Rattle.rv_text.specs.declared.action.Action.TheVariants.{Branch}
use Rattle.rv_text.specs.declared.action.Source.TheVariants.{First, Second}
use Rattle.term_tree.specs.Tree.{Tree}
use Rattle.term_mean.specs.Sums.{constant}
use Rattle.term_mean.specs.Compared.{compared}
use Rattle.sym_state.specs.State.{State, Need, Register, is_small_need, needs_at, start}
use Rattle.sym_state.specs.Registers.{read, read_needs}
use Rattle.sym_insns.specs.Value.{Made}
use Rattle.sym_lines.specs.Run as lines
use Rattle.equate.specs.Side.{Lines}
use Rattle.equate.specs.Equated.{Equated}
use Rattle.rtx_open.proofs.Expressions.{Written, node, none, with}
use Rattle.law_plain_terms.specs.Rows.{whole, IsSmall}
use Rattle.law_plain_states.specs.Frames.{AreCovered, jumps}
use Rattle.law_plain_states.proofs.Effects.{register, made}
use Rattle.law_plain_states.proofs.Rows.{two_covered, turned_covered, one_covered, line_sets}
use Rattle.law_plain_jumps.proofs.Jumped.{Leads, chosen, number, target_is, line_target, leads_equated, branch_state, branch_target}
use Rattle.law_plain_jumps.proofs.Conditions.{small_condition, small_with_zero}

-- ---- the ten comparisons, and what their lines do

abbrev pub code_of : Relation → Code
code_of relation.Eq = code.Eq
code_of relation.Ne = code.Ne
code_of relation.Lt = code.Lt
code_of relation.Gt = code.Gt
code_of relation.Le = code.Le
code_of relation.Ge = code.Ge
code_of relation.Ltu = code.Ltu
code_of relation.Gtu = code.Gtu
code_of relation.Leu = code.Leu
code_of relation.Geu = code.Geu

-- a line compares for less and not less alone, of its registers in one order or the other
abbrev pub branch_of : Relation → Action
branch_of relation.Eq = Branch relation.Eq First Second
branch_of relation.Ne = Branch relation.Ne First Second
branch_of relation.Lt = Branch relation.Lt First Second
branch_of relation.Gt = Branch relation.Lt Second First
branch_of relation.Le = Branch relation.Ge Second First
branch_of relation.Ge = Branch relation.Ge First Second
branch_of relation.Ltu = Branch relation.Ltu First Second
branch_of relation.Gtu = Branch relation.Ltu Second First
branch_of relation.Leu = Branch relation.Geu Second First
branch_of relation.Geu = Branch relation.Geu First Second

-- ---- the instruction

-- (CODE:MODE (reg:DI A) OPERAND), whose number no one looks at
abbrev pub compares : Relation → Mode → ℤ → ℕ → Written → Written
compares r m z a operand = node (code_of r) m z [] (with (register DI a) (with operand none))

abbrev asked_of : Tree → List Need → Made
asked_of t needs = record { term = t; needs = needs }

made_with : (r : Relation) (m : Mode) (z : ℤ) (a : ℕ) (operand : Written) (t : Tree) (needs : List Need) → made operand W64 ≡ asked_of t needs →
    made (compares r m z a operand) W8 ≡ asked_of (compared r W64 (whole a) t) (Register (suc a) W64 ∷ needs)
made_with relation.Eq m z a operand t needs is = ap (λ v. asked_of (compared relation.Eq W64 (whole a) v.term) (Register (suc a) W64 ∷ v.needs)) is
made_with relation.Ne m z a operand t needs is = ap (λ v. asked_of (compared relation.Ne W64 (whole a) v.term) (Register (suc a) W64 ∷ v.needs)) is
made_with relation.Lt m z a operand t needs is = ap (λ v. asked_of (compared relation.Lt W64 (whole a) v.term) (Register (suc a) W64 ∷ v.needs)) is
made_with relation.Gt m z a operand t needs is = ap (λ v. asked_of (compared relation.Gt W64 (whole a) v.term) (Register (suc a) W64 ∷ v.needs)) is
made_with relation.Le m z a operand t needs is = ap (λ v. asked_of (compared relation.Le W64 (whole a) v.term) (Register (suc a) W64 ∷ v.needs)) is
made_with relation.Ge m z a operand t needs is = ap (λ v. asked_of (compared relation.Ge W64 (whole a) v.term) (Register (suc a) W64 ∷ v.needs)) is
made_with relation.Ltu m z a operand t needs is = ap (λ v. asked_of (compared relation.Ltu W64 (whole a) v.term) (Register (suc a) W64 ∷ v.needs)) is
made_with relation.Gtu m z a operand t needs is = ap (λ v. asked_of (compared relation.Gtu W64 (whole a) v.term) (Register (suc a) W64 ∷ v.needs)) is
made_with relation.Leu m z a operand t needs is = ap (λ v. asked_of (compared relation.Leu W64 (whole a) v.term) (Register (suc a) W64 ∷ v.needs)) is
made_with relation.Geu m z a operand t needs is = ap (λ v. asked_of (compared relation.Geu W64 (whole a) v.term) (Register (suc a) W64 ∷ v.needs)) is

-- ---- the line, which reads its registers in one order or the other

abbrev is_turned : Relation → Bool
is_turned relation.Gt = true
is_turned relation.Le = true
is_turned relation.Gtu = true
is_turned relation.Leu = true
is_turned _ = false

abbrev both_needs : Bool → ℕ → ℕ → List Need
both_needs turned s q = if turned then read_needs [] q W8 ++ read_needs [] s W8 else read_needs [] s W8 ++ read_needs [] q W8

-- it leads to a label under a condition
abbrev leading : Relation → Option ℕ → Tree → Tree → List Need → State
leading r target t u needs = jumps (record { condition = compared r W64 t u; target = target }) (needs_at 0 needs)

abbrev led : Relation → Option ℕ → ℕ → ℕ → State
led r target s q = leading r target (read [] s W64) (read [] q W64) (both_needs (is_turned r) s q)

behind : (r : Relation) (number : ℕ) (l : Line) → action_of l ≡ Some (branch_of r) → lines.after number 0 l start ≡ led r (lines.label_uid number l.target) l.rs l.rt
behind relation.Eq number l does = line_sets number l (branch_of relation.Eq) does
behind relation.Ne number l does = line_sets number l (branch_of relation.Ne) does
behind relation.Lt number l does = line_sets number l (branch_of relation.Lt) does
behind relation.Gt number l does = line_sets number l (branch_of relation.Gt) does
behind relation.Le number l does = line_sets number l (branch_of relation.Le) does
behind relation.Ge number l does = line_sets number l (branch_of relation.Ge) does
behind relation.Ltu number l does = line_sets number l (branch_of relation.Ltu) does
behind relation.Gtu number l does = line_sets number l (branch_of relation.Gtu) does
behind relation.Leu number l does = line_sets number l (branch_of relation.Leu) does
behind relation.Geu number l does = line_sets number l (branch_of relation.Geu) does

ends : (r : Relation) → lines.fits_action (Some (branch_of r)) [] ≡ true
ends relation.Eq = refl
ends relation.Ne = refl
ends relation.Lt = refl
ends relation.Gt = refl
ends relation.Le = refl
ends relation.Ge = refl
ends relation.Ltu = refl
ends relation.Gtu = refl
ends relation.Leu = refl
ends relation.Geu = refl

-- a line that leads to a label by a comparison of two registers
pub record Branches (number : ℕ) (l : Line) (r : Relation) (s q uid : ℕ) : Type 0 where
  pub does : action_of l ≡ Some (branch_of r)
  pub rs : l.rs ≡ s
  pub rt : l.rt ≡ q
  pub target : l.target ≡ label_text number uid

line_leads : (number : ℕ) (l : Line) (r : Relation) (s q uid : ℕ) → uid < 2 ^ 32 → Branches number l r s q uid → lines.after number 0 l start ≡ led r (Some uid) s q
line_leads number l r s q uid small b =
    behind r number l b.does ∙ (ap (λ t. led r t l.rs l.rt) (line_target number uid l small b.target) ∙ (ap (λ x. led r (Some uid) x l.rt) b.rs ∙ ap (λ x. led r (Some uid) s x) b.rt))

-- ---- an instruction and its line

abbrev AreSmallNeeds : List Need → Type 0
AreSmallNeeds needs = list_all (λ n. is_small_need n.what) (needs_at 0 needs) ≡ true

branch_by : (i : Insn) (number : ℕ) (live : List ℕ) (l : Line) (r : Relation) (m : Mode) (z : ℤ) (a q uid : ℕ) (operand : Written) (t : Tree) (needs : List Need) →
    Leads i (chosen (compares r m z a operand) uid) → uid < 2 ^ 32 → Branches number l r (suc a) q uid → made operand W64 ≡ asked_of t needs → read [] q W64 ≡ t →
    IsSmall (compared r W64 (whole a) t) → AreSmallNeeds needs → AreSmallNeeds (both_needs (is_turned r) (suc a) q) →
    AreCovered (needs_at 0 (Register (suc a) W64 ∷ needs)) (needs_at 0 (both_needs (is_turned r) (suc a) q)) → Equated (i ∷ []) (Lines number (l ∷ [])) live
branch_by i number live l r m z a q uid operand t needs s small b is reads small_test small_needs small_asked covered =
    let test = compares r m z a operand in
    leads_equated i (chosen test uid) number live l (record { condition = compared r W64 (whole a) t; target = Some uid }) (needs_at 0 (Register (suc a) W64 ∷ needs)) (needs_at 0 (both_needs (is_turned r) (suc a) q))
    s (branch_target test uid small)
    (branch_state test uid ∙ (ap (λ to. jumps (record { condition = (made test W8).term; target = to }) (needs_at 0 (made test W8).needs)) (target_is uid small) ∙
    ap (λ v. jumps (record { condition = v.term; target = Some uid }) (needs_at 0 v.needs)) (made_with r m z a operand t needs is)))
    (ap (λ o. lines.fits_action o []) b.does ∙ ends r)
    (line_leads number l r (suc a) q uid small b ∙ ap (λ u. leading r (Some uid) (whole a) u (both_needs (is_turned r) (suc a) q)) reads)
    small_test small_needs small_asked covered

-- ---- two registers

small_both : (turned : Bool) (a b : ℕ) → AreSmallNeeds (both_needs turned (suc a) (suc b))
small_both true a b = refl
small_both false a b = refl

both_covered : (turned : Bool) (a b : ℕ) → AreCovered (needs_at 0 (Register (suc a) W64 ∷ Register (suc b) W64 ∷ [])) (needs_at 0 (both_needs turned (suc a) (suc b)))
both_covered true a b = turned_covered (suc b) (suc a) W64 W64 []
both_covered false a b = two_covered (suc a) (suc b) W64 W64 []

pub branch_equated : (i : Insn) (number : ℕ) (live : List ℕ) (l : Line) (r : Relation) (m : Mode) (z : ℤ) (a b uid : ℕ) →
    Leads i (chosen (compares r m z a (register DI b)) uid) → uid < 2 ^ 32 → Branches number l r (suc a) (suc b) uid → Equated (i ∷ []) (Lines number (l ∷ [])) live
branch_equated i number live l r m z a b uid s small goes =
    branch_by i number live l r m z a (suc b) uid (register DI b) (whole b) (Register (suc b) W64 ∷ []) s small goes refl refl
    (small_condition r a b) refl (small_both (is_turned r) a b) (both_covered (is_turned r) a b)

-- ---- a register and 0, which is register zero in the line

small_one : (turned : Bool) (a : ℕ) → AreSmallNeeds (both_needs turned (suc a) 0)
small_one true a = refl
small_one false a = refl

one_is_covered : (turned : Bool) (a : ℕ) → AreCovered (needs_at 0 (Register (suc a) W64 ∷ [])) (needs_at 0 (both_needs turned (suc a) 0))
one_is_covered true a = one_covered (suc a) W64 []
one_is_covered false a = one_covered (suc a) W64 []

pub zero_equated : (i : Insn) (number_of : ℕ) (live : List ℕ) (l : Line) (r : Relation) (m : Mode) (z : ℤ) (a uid : ℕ) →
    Leads i (chosen (compares r m z a (number 0)) uid) → uid < 2 ^ 32 → Branches number_of l r (suc a) 0 uid → Equated (i ∷ []) (Lines number_of (l ∷ [])) live
zero_equated i number_of live l r m z a uid s small goes =
    branch_by i number_of live l r m z a 0 uid (number 0) (constant W64 0) [] s small goes refl refl
    (small_with_zero r a) refl (small_one (is_turned r) a) (one_is_covered (is_turned r) a)

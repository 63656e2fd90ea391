-- A constant that is stored, that is compared for a branch, or by which an operation on registers computes, is set
-- into a new register before.
use Rattle.std.proofs.Common.{◌≡◌, ◌<◌, ◌^◌, ℕ, pos, Bool, true, List, [], ◌∷◌, codes, refl, sym, ap, subst, ◌∙◌}
use Rattle.std.specs.Int.{cast_unsigned, w64}
use Rattle.rtx_tree.specs.Code.{class_of_code}
use Rattle.rtx_tree.specs.declared.class.Class.TheVariants as class
use Rattle.rtx_tree.specs.declared.code.Code.{Code}
use Rattle.rtx_tree.specs.declared.code.Code.TheVariants as code
use Rattle.rtx_tree.specs.declared.code.Mode.{Mode}
use Rattle.rtx_tree.specs.declared.code.Mode.TheVariants.{Void, QI, HI, SI, DI}
use Rattle.rtx_tree.specs.declared.tree.Rtx.{Rtx, out-roll-Rtx}
use Rattle.rtx_tree.specs.Patterns.{set_rtx}
use Rattle.rtx_tree.specs.Tree.{RtxHead, leaf_of, node_of, tree_of, head_of, kids_of}
use Rattle.rtx_tree.proofs.Trees.{head_of-tree, kids_of-tree}
use Rattle.rtl_func.specs.Calls.{has_argument, is_hard_argument}
use Rattle.rtl_func.specs.Modes.{register_by}
use Rattle.lower_insn.specs.Lowered.{IsUnmatched}
use Rattle.plain_forms.specs.Forms.{plain_forms}
use Rattle.law_plain_leaves.specs.Machine.{Throughout, ArePrintable, is_printable}
use Rattle.law_plain_leaves.proofs.Shaped.{Each, parts, itself}
use Rattle.law_plain_leaves.proofs.Apart.{number_fits}
use Rattle.law_plain_matched.specs.Matched.{IsNonzero, Memory, is_some_mode, takes_registers, choice, of_operands}
use Rattle.law_plain_planned.specs.Planned.{new, branch_on, IsPlanned, PlainExpands}
use Rattle.law_plain_planned.proofs.Steps.{HasPlan, expands}
use Rattle.law_plain_planned.proofs.Registers.{Lawful, stands_by, lawful_tree, new_lawful}
use Rattle.law_plain_planned.proofs.Named as named
use Rattle.law_plain_planned.proofs.Stores.{store_planned}
use Rattle.law_plain_planned.proofs.Computed.{computed}
use Rattle.law_plain_planned.proofs.Branches.{branch_planned}

-- ---- trees whose hard registers are a0 to a7

pub set_parts : (p : Rtx → Bool) (a b : Rtx) → Throughout p (set_rtx a b) → Throughout p a × Throughout p b
set_parts p a b all =
    let kids : kids_of (set_rtx a b) ≡ a ∷ b ∷ [] = ap (λ o. o.kids) (out-roll-Rtx _) in
    let each = subst (Each p) kids (parts p (set_rtx a b) all) in
    (each.0, each.1.0)

node_parts : (p : Rtx → Bool) (c : Code) (m : Mode) (a b : Rtx) → Throughout p (node_of c m (a ∷ b ∷ [])) → Throughout p a × Throughout p b
node_parts p c m a b all =
    let kids : kids_of (node_of c m (a ∷ b ∷ [])) ≡ a ∷ b ∷ [] = ap (λ o. o.kids) (out-roll-Rtx _) in
    let each = subst (Each p) kids (parts p (node_of c m (a ∷ b ∷ [])) all) in
    (each.0, each.1.0)

pub set_lawful : (a b : Rtx) → Lawful a → Lawful b → Lawful (set_rtx a b)
set_lawful a b one other = lawful_tree (record { code = code.Set; mode = Void; number = pos 0; name = [] }) (a ∷ b ∷ []) refl (one, (other, tt))

binary_class : (c : Code) → takes_registers c ≡ true → class_of_code c ≡ class.Binary
binary_class code.Minus is = refl
binary_class code.Mult is = refl
binary_class code.Div is = refl
binary_class code.Udiv is = refl
binary_class code.Mod is = refl
binary_class code.Umod is = refl
binary_class _ is = absurd (let no : ⊥ = cc in no)

node_lawful : (c : Code) (m : Mode) (a b : Rtx) → takes_registers c ≡ true → Lawful a → Lawful b → Lawful (node_of c m (a ∷ b ∷ []))
node_lawful c m a b takes one other =
    lawful_tree (record { code = c; mode = m; number = pos 0; name = [] }) (a ∷ b ∷ []) (ap (λ r. is_hard_argument (register_by r (cast_unsigned w64 (pos 0)))) (binary_class c takes)) (one, (other, tt))

-- another second operand of a comparison
pub compared_lawful : (h : RtxHead) (a b c : Rtx) → Throughout has_argument (tree_of h (a ∷ b ∷ [])) → Lawful c → Lawful (tree_of h (a ∷ c ∷ []))
compared_lawful h a b c all other =
    let whole = tree_of h (a ∷ b ∷ []) in
    let each = subst (Each has_argument) (kids_of-tree h (a ∷ b ∷ [])) (parts has_argument whole all) in
    let stands : stands_by h.code h.number ≡ true = sym (ap (λ (g : RtxHead). stands_by g.code g.number) (head_of-tree h (a ∷ b ∷ []))) ∙ itself has_argument whole all in
    lawful_tree h (a ∷ c ∷ []) stands (each.0, (other, tt))

-- another test of a branch
abbrev pc : Rtx
pc = leaf_of code.Pc Void (pos 0)

abbrev label_of : Rtx → Rtx
label_of uid = node_of code.LabelRef Void (uid ∷ [])

pub choice_parts : (test uid : Rtx) → Throughout has_argument (choice test uid) → Each has_argument (test ∷ label_of uid ∷ pc ∷ [])
choice_parts test uid all =
    let kids : kids_of (choice test uid) ≡ test ∷ label_of uid ∷ pc ∷ [] = ap (λ o. o.kids) (out-roll-Rtx _) in
    subst (Each has_argument) kids (parts has_argument (choice test uid) all)

pub branch_lawful : (test other uid : Rtx) → Throughout has_argument (branch_on test uid) → (Throughout has_argument test → Lawful other) → Lawful (branch_on other uid)
branch_lawful test other uid all lawful =
    let two = set_parts has_argument pc (choice test uid) all in
    let each = choice_parts test uid two.1 in
    set_lawful pc (choice other uid) two.0
    (lawful_tree (record { code = code.IfThenElse; mode = Void; number = pos 0; name = [] }) (other ∷ label_of uid ∷ pc ∷ []) refl (lawful each.0, (each.1.0, (each.1.1.0, tt))))

-- ---- stores, by their modes

store : (m : Mode) → is_some_mode m ≡ true → (place c : Rtx) (next : ℕ) → Memory m place → IsNonzero m c → Lawful (set_rtx (new m next) c) → Lawful (set_rtx place (new m next)) →
    IsUnmatched plain_forms (set_rtx place c) → HasPlan (set_rtx place c) next (set_rtx (new m next) c ∷ set_rtx place (new m next) ∷ [])
store Void is place c next memory nonzero one other unmatched = absurd (let no : ⊥ = cc in no)
store QI is place c next memory nonzero one other unmatched = store_planned QI tt 7 named.moves_qi refl place c next memory nonzero one other unmatched
store HI is place c next memory nonzero one other unmatched = store_planned HI tt 8 named.moves_hi refl place c next memory nonzero one other unmatched
store SI is place c next memory nonzero one other unmatched = store_planned SI tt 9 named.moves_si refl place c next memory nonzero one other unmatched
store DI is place c next memory nonzero one other unmatched = store_planned DI tt 10 named.moves_di refl place c next memory nonzero one other unmatched

-- ---- the law

plan_of : (next : ℕ) (x : Rtx) (sequence : List Rtx) → next < 2 ^ 62 → IsPlanned next x sequence → ArePrintable x → Throughout has_argument x → IsUnmatched plain_forms x → HasPlan x next sequence
plan_of next _ _ small (IsPlanned.stored m place c moded memory nonzero) printable lawful unmatched =
    let two = set_parts has_argument place c lawful in
    let fresh = new_lawful m next small in
    store m moded place c next memory nonzero (set_lawful (new m next) c fresh two.1) (set_lawful place (new m next) two.0 fresh) unmatched
plan_of next _ _ small (IsPlanned.computed c m target a k takes word place left constant) printable lawful unmatched =
    let two = set_parts has_argument target (node_of c m (a ∷ k ∷ [])) lawful in
    let inner = node_parts has_argument c m a k two.1 in
    let fresh = new_lawful m next small in
    let print = (set_parts is_printable target (node_of c m (a ∷ k ∷ [])) printable).0 in
    computed target a k next (number_fits target (itself is_printable target print)) c m takes word place left constant
    (set_lawful target (node_of c m (a ∷ new m next ∷ [])) two.0 (node_lawful c m a (new m next) takes inner.0 fresh))
plan_of next _ _ small (IsPlanned.branched test a k uid uid_constant compares left nonzero) printable lawful unmatched =
    let fresh = new_lawful DI next small in
    branch_planned test a k uid next compares left nonzero uid_constant
    (branch_lawful (of_operands test a k) (of_operands test a (new DI next)) uid lawful (λ all. compared_lawful (head_of test) a k (new DI next) all fresh)) unmatched

pub plain_expands : PlainExpands
plain_expands i greatest next sequence answer planned small printable lawful lowers =
    expands i greatest next sequence answer (plan_of next i.pattern sequence small planned printable lawful) lowers

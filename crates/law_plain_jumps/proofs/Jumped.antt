-- What an instruction that leads to a label comes to, and the line that is equated with it; jumps.
use Rattle.std.proofs.Common.{◌≡◌, ℕ, ◌<◌, ◌^◌, nat_lt, true, false, if◌then◌else◌, not, ◌&&◌, List, [], ◌∷◌, Option, Some, None, is_some, pos, refl, sym, subst, ◌∙◌, ap, arith}
use Rattle.std.proofs.lemmas.Bool.Decides.{nat_tests}
use Rattle.std.specs.Prelude.{option_and_then}
use Rattle.std.specs.List.{list_all}
use Rattle.std.specs.Int.{cast_unsigned, w64}
use Rattle.bits64.specs.declared.Width.TheVariants.{W8}
use Rattle.rtx_tree.specs.declared.code.Code.TheVariants as code
use Rattle.rtx_tree.specs.declared.code.Mode.TheVariants.{Void}
use Rattle.rtx_tree.specs.declared.function.Insn.{Insn}
use Rattle.rtx_tree.specs.declared.function.Kind.TheVariants.{Jump}
use Rattle.rtx_tree.specs.declared.tree.Rtx.{out-Rtx}
use Rattle.rtx_tree.specs.Patterns.{label_uid}
use Rattle.rtx_tree.specs.Tree.{head_of}
use Rattle.rtl_func.specs.Modes.{shapes_agree}
use Rattle.reg_uses.specs.Uses.{is_return, is_return_code}
use Rattle.rv_text.specs.Body.{label_text}
use Rattle.rv_text.specs.Lines.{action_of}
use Rattle.rv_text.specs.declared.line.Line.{Line}
use Rattle.rv_text.specs.declared.action.Action.TheVariants as action
use Rattle.term_mean.specs.Sums.{constant}
use Rattle.term_tree.specs.Small.{is_small}
use Rattle.sym_state.specs.State.{NeedAt, Runs, start, is_within, is_small_need}
use Rattle.sym_state.specs.State as state
use Rattle.sym_insns.specs.Run as insns
use Rattle.sym_insns.specs.Effects as effects
use Rattle.sym_insns.specs.Effects.{uid_in, target_uid, after_jump, jump_by, jump_source, jump_label, label_by, has_target, always}
use Rattle.sym_insns.specs.Shape.{is_shaped, fits_kind}
use Rattle.sym_lines.specs.Run as lines
use Rattle.sym_lines.proofs.Labels.{label_uid-law}
use Rattle.sym_diff.specs.States.{difference}
use Rattle.equate.specs.Side.{Lines, is_jump, is_one_return}
use Rattle.equate.specs.Equated.{Equated}
use Rattle.rtx_open.proofs.Expressions.{Written, node, none, with, rtx, outside_is}
use Rattle.law_plain_terms.specs.Rows.{IsSmall}
use Rattle.law_plain_states.specs.Frames.{AreCovered, jumps}
use Rattle.law_plain_states.proofs.Agreed.{jump_agrees}
use Rattle.law_plain_states.proofs.Effects.{set_of, made, made_is}
use Rattle.law_plain_states.proofs.Equated.{insn_runs, line_runs, equated}
use Rattle.law_plain_states.proofs.Rows.{both, line_sets}

-- ---- patterns

abbrev pub pc : Written
pc = node code.Pc Void (pos 0) [] none

-- (set (pc) SOURCE)
abbrev pub leads : Written → Written
leads source = set_of pc source

abbrev pub number : ℕ → Written
number n = node code.ConstInt Void (pos n) [] none

-- (label_ref UID)
abbrev pub label : ℕ → Written
label uid = node code.LabelRef Void (pos 0) [] (with (number uid) none)

-- (if_then_else TEST (label_ref UID) (pc))
abbrev pub chosen : Written → ℕ → Written
chosen test uid = node code.IfThenElse Void (pos 0) [] (with test (with (label uid) (with pc none)))

-- ---- labels

small_uid : (uid : ℕ) → uid < 2 ^ 32 → uid_in uid ≡ Some uid
small_uid uid small = let fits : nat_lt uid (2 ^ 32) ≡ true = grind (arith, nat_tests, small) in ap (λ b. if b then Some uid else None) fits

pub target_is : (uid : ℕ) → uid < 2 ^ 32 → target_uid (rtx (label uid)) ≡ Some uid
target_is uid small =
    ap (λ o. option_and_then uid_in (label_uid o.code o.kids)) (outside_is (label uid)) ∙
    (ap (λ o. option_and_then uid_in (Some (cast_unsigned w64 o.number))) (outside_is (number uid)) ∙ small_uid uid small)

-- the label's text in a line
pub line_target : (number uid : ℕ) (l : Line) → uid < 2 ^ 32 → l.target ≡ label_text number uid → lines.label_uid number l.target ≡ Some uid
line_target number uid l small is = (label_uid-law number l.target uid).1 (is, small)

-- ---- instructions

-- an instruction that sets the pc
pub record Leads (i : Insn) (source : Written) : Type 0 where
  pub jump : i.kind ≡ Jump
  pub shaped : is_shaped i ≡ true
  pub pattern : i.pattern ≡ rtx (leads source)

stays : (i : Insn) (source : Written) → Leads i source → is_return i ≡ false
stays i source s = ap (λ p. is_return_code (head_of p).code) s.pattern ∙ ap (λ o. is_return_code o.code) (outside_is (leads source))

never_returns : (i : Insn) (source : Written) → Leads i source → is_one_return (i ∷ []) ≡ false
never_returns i source s =
    ap (λ k. is_jump k && (is_return i && shapes_agree i.pattern)) s.jump ∙ ap (λ b. b && shapes_agree i.pattern) (stays i source s)

fits : (i : Insn) (source : Written) → Leads i source → has_target (rtx (leads source)) ≡ true → fits_kind i.kind i true ≡ true
fits i source s target =
    ap (λ k. fits_kind k i true) s.jump ∙
    both (is_shaped i) _ s.shaped (both (not (is_return i)) _ (ap not (stays i source s)) (both (has_target i.pattern) true (ap has_target s.pattern ∙ target) refl))

small_jump : (j : state.Jump) (needs : List NeedAt) → IsSmall j.condition → list_all (λ n. is_small_need n.what) needs ≡ true → is_within (jumps j needs) ≡ true
small_jump j needs small rest = both (is_small j.condition) _ small rest

-- what leads there under the same condition is equated
pub leads_equated : (i : Insn) (source : Written) (number : ℕ) (live : List ℕ) (l : Line) (j : state.Jump) (had asked : List NeedAt) → Leads i source → has_target (rtx (leads source)) ≡ true →
    after_jump 0 (rtx (leads source)) start ≡ jumps j had → lines.fits_action (action_of l) [] ≡ true → lines.after number 0 l start ≡ jumps j asked →
    IsSmall j.condition → list_all (λ n. is_small_need n.what) had ≡ true → list_all (λ n. is_small_need n.what) asked ≡ true → AreCovered had asked →
    Equated (i ∷ []) (Lines number (l ∷ [])) live
leads_equated i source number live l j had asked s target before line_fits behind small small_had small_asked covered =
    let here : insns.after 0 i start ≡ jumps j had = ap (λ k. insns.after_kind k 0 i start) s.jump ∙ (ap (λ p. after_jump 0 p start) s.pattern ∙ before) in
    let comes = insn_runs i (fits i source s target) (ap is_within here ∙ small_jump j had small small_had) in
    let goes = line_runs number l line_fits (ap is_within behind ∙ small_jump j asked small small_asked) ∙ ap Runs behind in
    equated i number (l ∷ []) live (insns.after 0 i start) (jumps j asked) (never_returns i source s) comes goes
    (subst (λ a. difference true live a (jumps j asked) ≡ None) (sym here) (jump_agrees live j had asked covered))

-- ---- what is led to

-- an instruction that leads to a label where a test holds
pub branch_state : (test : Written) (uid : ℕ) → after_jump 0 (rtx (leads (chosen test uid))) start ≡
    jumps (record { condition = (made test W8).term; target = target_uid (rtx (label uid)) }) (state.needs_at 0 (made test W8).needs)
branch_state test uid =
    let whole = leads (chosen test uid) in
    ap (λ o. let x = jump_source o.kids (rtx whole) in jump_by (out-Rtx x).code (out-Rtx x).kids x 0 start) (outside_is whole) ∙
    (ap (λ o. jump_by o.code o.kids (rtx (chosen test uid)) 0 start) (outside_is (chosen test uid)) ∙ ap (λ m. effects.jumps 0 m (rtx (label uid)) start) (made_is test W8))

pub branch_target : (test : Written) (uid : ℕ) → uid < 2 ^ 32 → has_target (rtx (leads (chosen test uid))) ≡ true
branch_target test uid small =
    let whole = leads (chosen test uid) in
    ap (λ o. is_some (target_uid (jump_label (jump_source o.kids (rtx whole))))) (outside_is whole) ∙
    (ap (λ o. is_some (target_uid (label_by o.code o.kids (rtx (chosen test uid))))) (outside_is (chosen test uid)) ∙ ap is_some (target_is uid small))

-- and always
jump_state : (uid : ℕ) → after_jump 0 (rtx (leads (label uid))) start ≡ jumps (record { condition = constant W8 1; target = target_uid (rtx (label uid)) }) []
jump_state uid =
    let whole = leads (label uid) in
    ap (λ o. let x = jump_source o.kids (rtx whole) in jump_by (out-Rtx x).code (out-Rtx x).kids x 0 start) (outside_is whole) ∙
    ap (λ o. jump_by o.code o.kids (rtx (label uid)) 0 start) (outside_is (label uid))

jump_target : (uid : ℕ) → uid < 2 ^ 32 → has_target (rtx (leads (label uid))) ≡ true
jump_target uid small =
    let whole = leads (label uid) in
    ap (λ o. is_some (target_uid (jump_label (jump_source o.kids (rtx whole))))) (outside_is whole) ∙
    (ap (λ o. is_some (target_uid (label_by o.code o.kids (rtx (label uid))))) (outside_is (label uid)) ∙ ap is_some (target_is uid small))

abbrev always_to : Option ℕ → state.Jump
always_to target = record { condition = constant W8 1; target = target }

-- ---- (set (pc) (label_ref UID)), and j

pub jump_equated : (i : Insn) (number : ℕ) (live : List ℕ) (l : Line) (uid : ℕ) → Leads i (label uid) → uid < 2 ^ 32 → action_of l ≡ Some action.Jump → l.target ≡ label_text number uid →
    Equated (i ∷ []) (Lines number (l ∷ [])) live
jump_equated i number live l uid s small does target =
    leads_equated i (label uid) number live l (always_to (Some uid)) [] [] s (jump_target uid small)
    (jump_state uid ∙ ap (λ t. jumps (always_to t) []) (target_is uid small))
    (ap (λ o. lines.fits_action o []) does)
    (line_sets number l action.Jump does ∙ ap (λ t. jumps (always_to t) []) (line_target number uid l small target))
    refl refl refl refl

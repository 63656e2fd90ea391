-- Instructions of well-formed parts can be compared.
use Rattle.std.proofs.Common.{◌≡◌, ℕ, Bool, true, false, not, ◌&&◌, ◌||◌, if◌then◌else◌, List, [], ◌∷◌, refl, sym, ap, subst, ◌∙◌}
use Rattle.std.proofs.lemmas.Bool.{and_from, and_parts}
use Rattle.std.specs.List.{list_all}
use Rattle.rtx_tree.specs.Code.{class_of_code, is_effect_class}
use Rattle.rtx_tree.specs.declared.code.Code.TheVariants.{Set}
use Rattle.rtx_tree.specs.declared.function.Insn.{Insn}
use Rattle.rtx_tree.specs.declared.function.Kind.{Kind}
use Rattle.rtx_tree.specs.declared.function.Kind.TheVariants.{Plain, Jump, Call}
use Rattle.rtx_tree.specs.declared.tree.Rtx.{Rtx, out-Rtx, out-roll-Rtx}
use Rattle.rtx_tree.specs.Patterns.{set_rtx}
use Rattle.rtl_func.specs.Calls.{call_result_agrees}
use Rattle.rtl_func.specs.Effects.{parallels_hold_simple}
use Rattle.rtl_func.specs.Kinds.{kinds_agree, is_plain_tree, is_jump_tree, is_call_tree, is_call_by}
use Rattle.rtl_func.specs.Modes.{shapes_agree}
use Rattle.rtl_func.specs.Shapes.{is_shaped, is_effect, is_call_class, class_at}
use Rattle.rtl_func.proofs.AllPass.{all_pass, itself}
use Rattle.new_insns.specs.Made.{kind_of, insn_for}
use Rattle.sym_insns.specs.Shape.{all_natural, fits_kind}
use Rattle.sym_insns.specs.Shape as shape
use Rattle.law_plain_equated.proofs.Wells.{IsWell}

-- ---- an instruction with a well-formed pattern, and back

pub well_insn : (i : Insn) → i.kind ≡ Plain → shape.is_shaped i ≡ true → IsWell i.pattern
well_insn i plain fits =
    let p = i.pattern in
    let rest = all_natural p && (call_result_agrees i.kind p i.uses && parallels_hold_simple p) in
    let first = and_parts (kinds_agree i.kind p) (shapes_agree p && rest) fits in
    let second = and_parts (shapes_agree p) rest first.1 in
    let third = and_parts (all_natural p) (call_result_agrees i.kind p i.uses && parallels_hold_simple p) second.1 in
    record {
      plain = ap (λ (k : Kind). kinds_agree k p) (sym plain) ∙ first.0;
      shaped = (and_parts (is_effect p) (all_pass is_shaped p) second.0).1;
      natural = third.0;
      simple = (and_parts (call_result_agrees i.kind p i.uses) (parallels_hold_simple p) third.1).1;
    }

pub insn_fits : (i : Insn) (last : Bool) → i.kind ≡ Plain → is_effect i.pattern ≡ true → IsWell i.pattern → fits_kind i.kind i last ≡ true
insn_fits i last plain effect w =
    let p = i.pattern in
    ap (λ (k : Kind). fits_kind k i last) plain ∙
    and_from (kinds_agree i.kind p) _ (ap (λ (k : Kind). kinds_agree k p) plain ∙ w.plain)
    (and_from (shapes_agree p) _ (and_from (is_effect p) (all_pass is_shaped p) effect w.shaped)
    (and_from (all_natural p) _ w.natural (and_from (call_result_agrees i.kind p i.uses) (parallels_hold_simple p) (ap (λ (k : Kind). call_result_agrees k p i.uses) plain) w.simple)))

-- ---- a set is a plain instruction

first_none : (p q : Bool) → not (p || q) ≡ true → p ≡ false
first_none true q is = cc
first_none false q is = refl

later_none : (p q : Bool) → not (p || q) ≡ true → q ≡ false
later_none true q is = cc
later_none false true is = cc
later_none false false is = refl

pub set_effect : (a b : Rtx) → is_effect (set_rtx a b) ≡ true
set_effect a b = ap (λ o. is_effect_class (class_of_code o.code)) (out-roll-Rtx _)

pub set_kind : (a b : Rtx) → IsWell (set_rtx a b) → IsWell b → kind_of (set_rtx a b) ≡ Plain
set_kind a b whole source =
    let x = set_rtx a b in
    let jump : is_jump_tree x ≡ false = first_none (is_jump_tree x) (is_call_class (class_at x)) (itself is_plain_tree x whole.plain) in
    let called : is_call_class (class_at b) ≡ false = later_none (is_jump_tree b) (is_call_class (class_at b)) (itself is_plain_tree b source.plain) in
    let call : is_call_tree x ≡ false = ap (λ o. is_call_by (class_of_code o.code) o.kids) (out-roll-Rtx _) ∙ called in
    ap (λ j. if j then Jump else (if is_call_tree x then Call else Plain)) jump ∙ ap (λ c. if c then Call else Plain) call

-- in the place of an instruction
pub made_fits : (old : Insn) (uid : ℕ) (a b : Rtx) (last : Bool) → IsWell (set_rtx a b) → IsWell b → fits_kind (kind_of (set_rtx a b)) (insn_for old uid (set_rtx a b)) last ≡ true
made_fits old uid a b last whole source = insn_fits (insn_for old uid (set_rtx a b)) last (set_kind a b whole source) (set_effect a b) whole

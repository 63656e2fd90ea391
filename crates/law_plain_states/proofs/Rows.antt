-- One line that computes on two registers, and the instruction that sets the same.
use Rattle.std.proofs.Common.{◌≡◌, ℕ, suc, ◌==◌, nat_le, Bool, true, false, ◌&&◌, List, [], ◌∷◌, Some, refl, sym, ◌∙◌, ap, subst}
use Rattle.std.specs.List.{list_all}
use Rattle.bits64.specs.declared.Width.{Width}
use Rattle.bits64.specs.declared.Width.TheVariants.{W8, W16, W32, W64}
use Rattle.bits64.specs.Words.{bits_of}
use Rattle.rtx_tree.specs.declared.code.Mode.{Mode}
use Rattle.rtx_tree.specs.declared.function.Insn.{Insn}
use Rattle.rtx_tree.specs.declared.function.Kind.TheVariants.{Plain}
use Rattle.rtl_step.specs.Value.{width_of}
use Rattle.rv_text.specs.Lines.{action_of}
use Rattle.rv_text.specs.declared.line.Line.{Line}
use Rattle.rv_text.specs.declared.action.Action.{Action}
use Rattle.term_tree.specs.Tree as trees
use Rattle.term_tree.specs.Tree.{Tree}
use Rattle.term_tree.specs.Form.{narrower}
use Rattle.term_tree.specs.Small.{is_small}
use Rattle.term_mean.specs.Compared.{low_bits}
use Rattle.rtl_func.specs.Modes.{shapes_agree}
use Rattle.reg_uses.specs.Uses.{is_return}
use Rattle.sym_state.specs.State.{Need, NeedAt, Register, Access, start, is_within, is_small_need, needs_at}
use Rattle.sym_insns.specs.Shape.{is_shaped, fits_kind}
use Rattle.equate.specs.Side.{is_jump, is_one_return}
use Rattle.sym_insns.specs.Effects.{effects_of, make_all}
use Rattle.sym_insns.specs.Run as insns
use Rattle.sym_lines.specs.Run as lines
use Rattle.sym_lines.specs.Step as step
use Rattle.sym_diff.specs.Compared.{covers, is_covered}
use Rattle.sym_diff.proofs.sym_term.Steps.{same-is}
use Rattle.sym_diff.proofs.NumberLaws.{itself, or_left, or_right}
use Rattle.law_plain_states.specs.Frames.{IsKnown, AreCovered, sets}
use Rattle.rtx_open.proofs.Expressions.{Written, rtx}
use Rattle.law_plain_states.proofs.Effects.{register, set_of, made, sets_register}

-- ---- needs: a line needs that a register is set, an instruction so many bits of it

pub both : (p q : Bool) → p ≡ true → q ≡ true → (p && q) ≡ true
both true true h g = refl
both true false h g = g
both false q h g = h

reaches : (w : Width) → nat_le 8 (bits_of w) ≡ true
reaches W8 = refl
reaches W16 = refl
reaches W32 = refl
reaches W64 = refl

pub has_bits : (reg : ℕ) (w : Width) → covers (Register reg w) (Register reg W8) ≡ true
has_bits reg w = both (reg == reg) (nat_le 8 (bits_of w)) (itself reg) (reaches w)

pub two_covered : (a b : ℕ) (v w : Width) (more : List Need) → AreCovered (needs_at 0 (Register a v ∷ Register b w ∷ more)) (needs_at 0 (Register a W8 ∷ Register b W8 ∷ []))
two_covered a b v w more =
    let had = needs_at 0 (Register a v ∷ Register b w ∷ more) in
    both (is_covered had (Register a W8)) _ (or_left _ _ (has_bits a v)) (both (is_covered had (Register b W8)) true (or_right _ _ (or_left _ _ (has_bits b w))) refl)

-- the needs of the line in the other order
pub turned_covered : (a b : ℕ) (v w : Width) (more : List Need) → AreCovered (needs_at 0 (Register b w ∷ Register a v ∷ more)) (needs_at 0 (Register a W8 ∷ Register b W8 ∷ []))
turned_covered a b v w more =
    let had = needs_at 0 (Register b w ∷ Register a v ∷ more) in
    both (is_covered had (Register a W8)) _ (or_right _ _ (or_left _ _ (has_bits a v))) (both (is_covered had (Register b W8)) true (or_left _ _ (has_bits b w)) refl)

pub one_covered : (a : ℕ) (w : Width) (more : List Need) → AreCovered (needs_at 0 (Register a w ∷ more)) (needs_at 0 (Register a W8 ∷ []))
one_covered a w more = both (is_covered (needs_at 0 (Register a w ∷ more)) (Register a W8)) true (or_left _ _ (has_bits a w)) refl

pub access_has : (at : Tree) (w : Width) → covers (Access at w) (Access at w) ≡ true
access_has at w = both _ _ (itself (bits_of w)) ((same-is at at).1 refl)

-- and that so many bits stand at an address
pub access_covered : (a : ℕ) (at : Tree) (v w : Width) → AreCovered (needs_at 0 (Register a v ∷ Access at w ∷ [])) (needs_at 0 (Register a W8 ∷ Access at w ∷ []))
access_covered a at v w =
    let had = needs_at 0 (Register a v ∷ Access at w ∷ []) in
    both (is_covered had (Register a W8)) _ (or_left _ _ (has_bits a v)) (both (is_covered had (Access at w)) true (or_left (covers (Access at w) (Access at w)) false (both _ _ (itself (bits_of w)) ((same-is at at).1 refl))) refl)

-- ---- what is known

never_narrower : (w : Width) → narrower W64 w ≡ false
never_narrower W8 = refl
never_narrower W16 = refl
never_narrower W32 = refl
never_narrower W64 = refl

pub known : (w : Width) (t u : Tree) → trees.width_of t ≡ w → trees.width_of u ≡ W64 → low_bits w u ≡ t → IsKnown t u
known w t u of_t of_u same = (
  subst (λ v. narrower v (trees.width_of t) ≡ false) (sym of_u) (never_narrower (trees.width_of t)),
  subst (λ v. low_bits v u ≡ t) (sym of_t) same,
)

-- ---- the states

pub insn_sets : (i : Insn) (m : Mode) (n : ℕ) (x : Written) (w : Width) → i.kind ≡ Plain → i.pattern ≡ rtx (set_of (register m n) x) → width_of m ≡ Some w →
    insns.after 0 i start ≡ sets (suc n) (made x w).term (needs_at 0 (made x w).needs)
insn_sets i m n x w plain is wide =
    ap (λ k. insns.after_kind k 0 i start) plain ∙ (ap (λ p. make_all 0 (effects_of [] [] p) start) is ∙ ap (λ es. make_all 0 es start) (sets_register m n x w wide))

pub line_sets : (number : ℕ) (l : Line) (a : Action) → action_of l ≡ Some a → lines.after number 0 l start ≡ step.act a 0 (lines.label_uid number l.target) l start
line_sets number l a is = ap (λ o. lines.act_as o number 0 l start) is

-- ---- the limit on terms, and which instruction is no return

pub small_state : (reg : ℕ) (t : Tree) (needs : List NeedAt) → is_small t ≡ true → list_all (λ n. is_small_need n.what) needs ≡ true → is_within (sets reg t needs) ≡ true
small_state reg t needs term rest = both (is_small t && true) _ (both (is_small t) true term refl) rest

pub fits_plain : (i : Insn) → i.kind ≡ Plain → is_shaped i ≡ true → fits_kind i.kind i true ≡ true
fits_plain i plain shaped = ap (λ k. fits_kind k i true) plain ∙ shaped

pub stays_plain : (i : Insn) → i.kind ≡ Plain → is_one_return (i ∷ []) ≡ false
stays_plain i plain = ap (λ k. is_jump k && (is_return i && shapes_agree i.pattern)) plain

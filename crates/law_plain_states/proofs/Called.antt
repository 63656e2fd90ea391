-- What is called with arguments agrees with what lines call, which hand over all of a0 to a7.
use Rattle.std.proofs.Common.{◌≡◌, ℕ, ◌==◌, Bool, true, false, cond, List, [], ◌∷◌, Option, Some, None, is_some, refl, sym, subst}
use Rattle.bits64.specs.declared.Width.{Width}
use Rattle.bits64.specs.declared.Width.TheVariants.{W8, W16, W32, W64}
use Rattle.rtx_tree.specs.declared.code.Mode.{Mode}
use Rattle.term_tree.specs.Tree.{Tree, width_of}
use Rattle.term_tree.specs.Form.{narrower}
use Rattle.term_mean.specs.Compared.{low_bits}
use Rattle.sym_state.specs.State.{Changed, Arg, NeedAt, own_register}
use Rattle.sym_state.specs.Registers.{held, left_by_call}
use Rattle.sym_diff.specs.Registers.{value_behind}
use Rattle.sym_diff.specs.States.{difference}
use Rattle.sym_diff.specs.Agree.{Knows}
use Rattle.law_plain_states.specs.Frames.{AreCovered, ArgumentsAgree, calls}
use Rattle.law_plain_states.proofs.Agreed.{agreed, same_inside}

-- as many bits are known of a term as it has
narrower_none : (w : Width) → narrower w w ≡ false
narrower_none W8 = refl
narrower_none W16 = refl
narrower_none W32 = refl
narrower_none W64 = refl

-- a term is known as it is
itself_known : (t : Tree) → low_bits (width_of t) t ≡ t → Knows (Some t) t
itself_known t e = (narrower_none (width_of t), e)

-- no register is held with a term where each is unset
abbrev HoldsNone : List Changed → Type 0
HoldsNone regs = (reg : ℕ) (u : Tree) → held regs reg ≡ Some (Some u) → ⊥

held_cons : (b : Bool) (x : Option Tree) (rest : Option (Option Tree)) (u : Tree) → x ≡ None → (rest ≡ Some (Some u) → ⊥) → cond b (Some x) rest ≡ Some (Some u) → ⊥
held_cons true None rest u none f e = cc
held_cons true (Some y) rest u none f e = cc
held_cons false x rest u none f e = f e

-- of a list of unset registers
abbrev AreUnset : List Changed → Type 0
AreUnset [] = Unit {0}
AreUnset (c ∷ regs) = (c.value ≡ None) × AreUnset regs

holds_none : (regs : List Changed) → AreUnset regs → HoldsNone regs
holds_none [] unset reg u e = cc
holds_none (c ∷ regs) unset reg u e = held_cons (c.reg == reg) c.value (held regs reg) u unset.0 (holds_none regs unset.1 reg u) e

left_are_unset : AreUnset (left_by_call [])
left_are_unset = (refl, (refl, (refl, (refl, (refl, (refl, (refl, (refl, (refl, (refl, (refl, (refl, (refl, (refl, (refl, (refl, tt))))))))))))))))

none_held : (reg : ℕ) (u : Tree) → held (left_by_call []) reg ≡ Some (Some u) → ⊥
none_held = holds_none (left_by_call []) left_are_unset

left_both : (x : Option (Option Tree)) → x ≡ None → is_some x ≡ true → ⊥
left_both None none some = cc
left_both (Some y) none some = cc

-- what a call leaves is no term
left_unset : (reg : ℕ) (t : Tree) → value_behind (held (left_by_call []) reg) reg ≡ Some t → low_bits (width_of t) t ≡ t
left_unset reg t e = go (held (left_by_call []) reg) refl e
  where
    go : (h : Option (Option Tree)) → held (left_by_call []) reg ≡ h → value_behind h reg ≡ Some t → low_bits (width_of t) t ≡ t
    go None is e = subst (λ t. low_bits (width_of t) t ≡ t) (same_inside (own_register reg) t e) refl
    go (Some None) is e = cc
    go (Some (Some u)) is e = absurd (none_held reg u is)

pub call_agrees : (live : List ℕ) (target : Tree) (result : Option Mode) (had args : List Arg) (needs more : List NeedAt) → ArgumentsAgree had args → AreCovered needs more →
    difference true live (calls target result had needs) (calls target None args more) ≡ None
call_agrees live target result had args needs more same covered =
    agreed true live (calls target result had needs) (calls target None args more) (record {
      registers = λ r asked. record {
        known = λ is_live t e. subst (λ o. Knows o t) (sym e) (itself_known t (left_unset r t e));
        kept = λ within none some. absurd (left_both (held (left_by_call []) r) none some);
      };
      stores = refl;
      jumps = (refl, refl);
      calls = record { target = refl; args = same; more = λ f. cc; result = λ f. cc };
      needs = covered;
    })

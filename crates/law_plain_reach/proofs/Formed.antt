-- An operation on two operands is within the table, with what stands there or registers in their
-- places.
use Rattle.std.proofs.Common.{◌≡◌, ℕ, pos, Bool, true, not, ◌&&◌, ◌||◌, nat_le, [], ◌∷◌, refl, ap, ◌∙◌, arith}
use Rattle.std.proofs.lemmas.Bool.Decides.{nat_tests}
use Rattle.std.specs.Int.{cast_unsigned, w64}
use Rattle.rtx_tree.specs.declared.code.Code.{Code}
use Rattle.rtx_tree.specs.declared.code.Mode.{Mode}
use Rattle.rtx_tree.specs.declared.code.Mode.TheVariants.{Void, DI}
use Rattle.rtx_tree.specs.declared.class.Class.TheVariants as class
use Rattle.rtx_tree.specs.declared.function.Kind.TheVariants.{Plain}
use Rattle.rtx_tree.specs.declared.tree.Rtx.{Rtx}
use Rattle.rtx_tree.specs.Code.{class_of_code, is_value_class, mode_bits}
use Rattle.rtl_func.specs.Shapes.{has_mode, same_mode, is_constant_class, is_register_number, is_operand, is_some_operand, is_moded, mode_at, are_compared}
use Rattle.reload_choice.specs.Movable.{is_formed_as}
use Rattle.law_plain_formed.proofs.Leaves.{IsValueOf, IsPlaceOf, register_good}
use Rattle.law_plain_formed.proofs.Sets.{calm_binary, calm_shift, calm_comparison, set_operation}
use Rattle.law_plain_reach.proofs.Tests.{both_true, first_true}
use Rattle.law_plain_reach.proofs.News.{StandsFor, IsSpare}
use Rattle.law_plain_reach.proofs.Binary.{insn}

own_mode : (m : Mode) → same_mode m m ≡ true
own_mode Void = refl
own_mode _ = refl

-- ---- one of t3 to t6, or what stood there

few : (reg : ℕ) → nat_le reg 31 ≡ true → nat_le reg 32 ≡ true
few reg is = grind (arith, nat_tests, is)

numbered : (reg : ℕ) → IsSpare reg → is_register_number (cast_unsigned w64 (pos reg)) ≡ true
numbered reg spare = first_true (nat_le reg 32) _ (few reg spare.1)

pub place_good : (m : Mode) → has_mode m ≡ true → (x : Rtx) (b : Bool) (a : Rtx) → IsPlaceOf m x → StandsFor m x b a → IsPlaceOf m a
place_good m moded x b a good (StandsFor.spare reg spare) = register_good m reg moded (numbered reg spare)
place_good m moded x b a good StandsFor.itself = good

pub value_good : (m : Mode) → has_mode m ≡ true → (x : Rtx) (b : Bool) (a : Rtx) → IsValueOf m x → StandsFor m x b a → IsValueOf m a
value_good m moded x b a good (StandsFor.spare reg spare) = (register_good m reg moded (numbered reg spare)).value
value_good m moded x b a good StandsFor.itself = good

-- ---- by the class of the operation

module _ (c : Code) (m : Mode) (moded : has_mode m ≡ true) (s t u : Rtx) (place : IsPlaceOf m s) (left : IsValueOf m t) where
  pub binary_formed : class_of_code c ≡ class.Binary → IsValueOf m u → (x y z : Bool) (a b d : Rtx) → StandsFor m s x a → StandsFor m t y b → StandsFor m u z d → is_formed_as Plain (insn c m a b d) ≡ true
  binary_formed is right x y z a b d one two three =
      let to = place_good m moded s x a place one in
      let first = value_good m moded t y b left two in
      let second = value_good m moded u z d right three in
      set_operation a m c class.Binary (b ∷ d ∷ []) to is calm_binary
      (both_true (has_mode m) (is_operand m b && is_operand m d) moded (both_true (is_operand m b) (is_operand m d) first.operand second.operand)) (first.good_is, (second.good_is, tt))
      (ap (λ k. is_value_class k && (is_constant_class k || same_mode m m)) is ∙ own_mode m)

  -- the count of a shift is of another mode
  pub shift_formed : (o : Mode) → has_mode o ≡ true → class_of_code c ≡ class.Shift → IsValueOf o u → (x y z : Bool) (a b d : Rtx) → StandsFor m s x a → StandsFor m t y b → StandsFor o u z d → is_formed_as Plain (insn c m a b d) ≡ true
  shift_formed o counted is right x y z a b d one two three =
      let to = place_good m moded s x a place one in
      let first = value_good m moded t y b left two in
      let second = value_good o counted u z d right three in
      set_operation a m c class.Shift (b ∷ d ∷ []) to is calm_shift
      (both_true (has_mode m) (is_operand m b && is_some_operand d) moded (both_true (is_operand m b) (is_some_operand d) first.operand second.some)) (first.good_is, (second.good_is, tt))
      (ap (λ k. is_value_class k && (is_constant_class k || same_mode m m)) is ∙ own_mode m)

-- a comparison of operands in DI
module _ (c : Code) (m : Mode) (wide : (not (has_mode m) || nat_le 32 (mode_bits m)) ≡ true) (moded : has_mode m ≡ true) (s t u : Rtx) (place : IsPlaceOf m s) (left : IsPlaceOf DI t) (right : IsValueOf DI u) where
  pub comparison_formed : class_of_code c ≡ class.Comparison → (x y z : Bool) (a b d : Rtx) → StandsFor m s x a → StandsFor DI t y b → StandsFor DI u z d → is_formed_as Plain (insn c m a b d) ≡ true
  comparison_formed is x y z a b d one two three =
      let to = place_good m moded s x a place one in
      let first = place_good DI refl t y b left two in
      let second = value_good DI refl u z d right three in
      let compared = both_true (is_moded b) (is_operand (mode_at b) d) first.moded (ap (λ k. is_operand k d) first.mode ∙ second.operand) in
      set_operation a m c class.Comparison (b ∷ d ∷ []) to is calm_comparison
      (both_true (not (has_mode m) || nat_le 32 (mode_bits m)) (are_compared b d) wide (first_true (is_moded b && is_operand (mode_at b) d) _ compared)) (first.value.good_is, (second.good_is, tt))
      (ap (λ k. is_value_class k && (is_constant_class k || same_mode m m)) is ∙ own_mode m)

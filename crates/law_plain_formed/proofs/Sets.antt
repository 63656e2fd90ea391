-- Instructions that set a place to an operand or an operation are within the table, and plain.
use Rattle.std.proofs.Common.{◌≡◌, ℕ, Bool, true, false, not, ◌&&◌, ◌||◌, List, [], ◌∷◌, refl, sym, ap, ◌∙◌}
use Rattle.std.specs.Prelude.{pos}
use Rattle.std.specs.List.{list_all}
use Rattle.rtx_tree.specs.declared.code.Code.{Code}
use Rattle.rtx_tree.specs.declared.code.Code.TheVariants as code
use Rattle.rtx_tree.specs.declared.code.Mode.{Mode}
use Rattle.rtx_tree.specs.declared.code.Mode.TheVariants.{Void}
use Rattle.rtx_tree.specs.declared.class.Class.{Class}
use Rattle.rtx_tree.specs.declared.class.Class.TheVariants as class
use Rattle.rtx_tree.specs.declared.function.Kind.TheVariants.{Plain}
use Rattle.rtx_tree.specs.declared.tree.Rtx.{Rtx, out-roll-Rtx}
use Rattle.rtx_tree.specs.Code.{class_of_code, is_effect_class}
use Rattle.rtx_tree.specs.Patterns.{set_rtx, is_pc}
use Rattle.rtx_tree.specs.Tree.{RtxHead, tree_of, node_of}
use Rattle.rtl_func.specs.Kinds.{kinds_agree, is_jump_by, is_plain_tree}
use Rattle.rtl_func.specs.Modes.{modes_agree}
use Rattle.rtl_func.specs.Nodes.{nodes_of}
use Rattle.rtl_func.specs.Shapes.{has_mode, mode_at, is_bare, fits_row, has_call_mode_by, is_call_class, is_operand, is_place, is_effect, is_set_to, is_shaped, has_call_mode, class_at, is_counter_class, is_jump_source_class}
use Rattle.law_plain_formed.proofs.Nodes.{is_formed_as, IsGood, AreGood, good, both_true, through, shaped_head, called_head, plain_head, shaped_each, called_each, plain_each, fits_head}
use Rattle.law_plain_formed.proofs.Leaves.{IsValueOf, IsPlaceOf, operand_is, operand_head, mode_is}

-- ---- an operation

-- a class whose trees have neither numbers nor names, and lead nowhere
pub record IsCalm (k : Class) : Type 0 where
  pub bare : is_bare k 0 [] ≡ true
  pub uncalled : (kids : List Rtx) → has_call_mode_by k kids ≡ true
  pub plain : (kids : List Rtx) → not (is_jump_by k kids || is_call_class k) ≡ true

pub calm_unary : IsCalm class.Unary
calm_unary = record { bare = refl; uncalled = λ kids. refl; plain = λ kids. refl }

pub calm_binary : IsCalm class.Binary
calm_binary = record { bare = refl; uncalled = λ kids. refl; plain = λ kids. refl }

pub calm_shift : IsCalm class.Shift
calm_shift = record { bare = refl; uncalled = λ kids. refl; plain = λ kids. refl }

pub calm_extension : IsCalm class.Extension
calm_extension = record { bare = refl; uncalled = λ kids. refl; plain = λ kids. refl }

pub calm_truncation : IsCalm class.Truncation
calm_truncation = record { bare = refl; uncalled = λ kids. refl; plain = λ kids. refl }

pub calm_comparison : IsCalm class.Comparison
calm_comparison = record { bare = refl; uncalled = λ kids. refl; plain = λ kids. refl }

pub operation_good : (c : Code) (k : Class) (m : Mode) (kids : List Rtx) → class_of_code c ≡ k → IsCalm k → fits_row k m 0 kids ≡ true → AreGood kids → IsGood (node_of c m kids)
operation_good c k m kids is calm fits all =
    let h : RtxHead = record { code = c; mode = m; number = pos 0; name = [] } in
    good h kids
    (ap (λ k. is_bare k 0 [] && fits_row k m 0 kids) is ∙ both_true (is_bare k 0 []) (fits_row k m 0 kids) calm.bare fits)
    (ap (λ k. has_call_mode_by k kids) is ∙ calm.uncalled kids)
    (ap (λ k. not (is_jump_by k kids || is_call_class k)) is ∙ calm.plain kids) all

-- ---- (set PLACE VALUE)

first_true : (p q : Bool) → p ≡ true → (p || q) ≡ true
first_true true q is = refl
first_true false q is = cc

not_false : (b : Bool) → b ≡ false → not (b || false) ≡ true
not_false true is = cc
not_false false is = refl

module _ (a b : Rtx) where
  abbrev head : RtxHead
  head = record { code = code.Set; mode = Void; number = pos 0; name = [] }

  abbrev kids : List Rtx
  kids = a ∷ b ∷ []

  effect : is_effect (set_rtx a b) ≡ true
  effect = ap (λ o. is_effect_class (class_of_code o.code)) (out-roll-Rtx (record { code = code.Set; mode = Void; number = pos 0; name = []; kids = kids }))

  set_to : is_place a ≡ true → is_operand (mode_at a) b ≡ true → is_set_to a b ≡ true
  set_to place value =
      first_true (is_place a && (is_operand (mode_at a) b || is_call_class (class_at b))) (is_counter_class (class_at a) && is_jump_source_class (class_at b))
      (both_true (is_place a) (is_operand (mode_at a) b || is_call_class (class_at b)) place (first_true (is_operand (mode_at a) b) (is_call_class (class_at b)) value))

  pub set_formed : (m : Mode) → IsPlaceOf m a → IsGood b → is_operand m b ≡ true → is_formed_as Plain (set_rtx a b) ≡ true
  set_formed m place value fits =
      let all : AreGood kids = (place.value.good_is, (value, tt)) in
      let here = set_to place.place (ap (λ m. is_operand m b) place.mode ∙ fits) in
      let shaped = through is_shaped head kids (shaped_head head kids ∙ here) (shaped_each kids all) in
      let called = through has_call_mode head kids (called_head head kids) (called_each kids all) in
      let plain = through is_plain_tree head kids (plain_head head kids ∙ not_false (is_pc a) place.no_pc) (plain_each kids all) in
      both_true (modes_agree (set_rtx a b)) (kinds_agree Plain (set_rtx a b))
      (both_true (is_effect (set_rtx a b) && list_all is_shaped (nodes_of (set_rtx a b))) (list_all has_call_mode (nodes_of (set_rtx a b)))
      (both_true (is_effect (set_rtx a b)) (list_all is_shaped (nodes_of (set_rtx a b))) effect shaped) called) plain

-- ---- an operation in a mode, which is its own

pub set_operation : (a : Rtx) (m : Mode) (c : Code) (k : Class) (kids : List Rtx) → IsPlaceOf m a → class_of_code c ≡ k → IsCalm k → fits_row k m 0 kids ≡ true → AreGood kids →
    operand_head m (record { code = c; mode = m; number = pos 0; name = [] }) ≡ true → is_formed_as Plain (set_rtx a (node_of c m kids)) ≡ true
set_operation a m c k kids place is calm fits all operand =
    set_formed a (node_of c m kids) m place (operation_good c k m kids is calm fits all) (operand_is (record { code = c; mode = m; number = pos 0; name = [] }) kids m ∙ operand)

-- Moves are matched, but where a constant other than 0 is stored.
use Rattle.std.proofs.Common.{◌≡◌, ◌⊎◌, inl, inr, ℕ, zero, suc, pos, negsuc, Bool, true, false, ◌&&◌, ◌||◌, List, [], ◌∷◌, codes, Some, Ok, refl, sym, ap, subst, ◌∙◌}
use Rattle.std.specs.Prelude.{ℤ}
use Rattle.rtx_tree.specs.declared.code.Mode.{Mode}
use Rattle.rtx_tree.specs.declared.code.Mode.TheVariants.{Void, QI, HI, SI, DI}
use Rattle.rtx_tree.specs.declared.tree.Rtx.{Rtx, out-Rtx}
use Rattle.rtx_tree.specs.Patterns.{set_rtx}
use Rattle.rtx_tree.specs.Tree.{const_of}
use Rattle.md_operand.specs.Operand.{accepts, register_operand, immediate_operand, memory_operand, const_int_operand, is_symbol, is_constant, is_extended, accepts_mode, symbol_operand}
use Rattle.md_operand.specs.declared.built_in.BuiltIn.TheVariants as own
use Rattle.md_pred.specs.Holds.{holds}
use Rattle.form_needs.specs.Needs.{lower_facts}
use Rattle.lower_insn.specs.Lowered.{IsMatched, is_note_tree}
use Rattle.pred_expr.specs.Texts.{always}
use Rattle.plain_forms.specs.Conditions as condition
use Rattle.plain_forms.specs.Forms as plain
use Rattle.plain_forms.specs.Forms.{plain_forms}
use Rattle.plain_shape.specs.declared.shape.Part.{Part}
use Rattle.plain_shape.specs.declared.shape.Part.TheVariants as part
use Rattle.plain_shape.specs.declared.shape.Source.TheVariants as source
use Rattle.law_plain_operands.proofs.Plain.{have_plain}
use Rattle.law_plain_matched.specs.Matched.{IsConstantOf, IsNonzero, IsExpanded, is_nought, is_some_mode}
use Rattle.law_plain_matched.proofs.Found.{matched, among_moves}
use Rattle.law_plain_taken.proofs.Conditions.{always_met, moves_met}
use Rattle.law_plain_taken.proofs.Sets.{copy}
use Rattle.law_plain_taken.proofs.Takes.{register_for_0, zero_for_0}
use Rattle.law_plain_matched.proofs.Shapes.{IsWell, IsSetOf, constant_of}

-- what comes of a pattern
abbrev pub Comes : Rtx → Type 0
Comes x = IsMatched plain_forms x ⊎ ((is_note_tree x ≡ true) ⊎ IsExpanded x)

abbrev accepted : List ℕ → Mode → Rtx → Bool
accepted name m x = holds plain_forms name x m

-- ---- the form of a mode

-- a mode that is moved in
abbrev pub IsMoved : Mode → Type 0
IsMoved Void = ⊥
IsMoved _ = Unit {0}

pub has_mode : (m : Mode) → IsMoved m → is_some_mode m ≡ true
has_mode Void never = absurd never
has_mode QI is = refl
has_mode HI is = refl
has_mode SI is = refl
has_mode DI is = refl

pub is_moved : (m : Mode) → is_some_mode m ≡ true → IsMoved m
is_moved Void is = let no : ⊥ = cc in no
is_moved QI is = tt
is_moved HI is = tt
is_moved SI is = tt
is_moved DI is = tt

pub moved : (m : Mode) → IsMoved m → (a b : Rtx) → accepts own.Nonimmediate m a ≡ true → accepts own.General m b ≡ true →
    (register_operand m a || accepted (codes "reg_or_0_operand") m b) ≡ true → IsMatched plain_forms (set_rtx a b)
moved Void never a b place source either = absurd never
moved QI is a b place source either =
    matched plain_forms (plain.moves_narrow QI) _ (set_rtx a b) _ (among_moves 6 (plain.moves_narrow QI) refl) refl refl
    (copy (holds plain_forms) lower_facts (condition.moves QI) (codes "nonimmediate_operand") QI a place (codes "general_operand") QI b source (moves_met (holds plain_forms) lower_facts a b QI either))
moved HI is a b place source either =
    matched plain_forms (plain.moves_narrow HI) _ (set_rtx a b) _ (among_moves 7 (plain.moves_narrow HI) refl) refl refl
    (copy (holds plain_forms) lower_facts (condition.moves HI) (codes "nonimmediate_operand") HI a place (codes "general_operand") HI b source (moves_met (holds plain_forms) lower_facts a b HI either))
moved SI is a b place source either =
    matched plain_forms (plain.moves_narrow SI) _ (set_rtx a b) _ (among_moves 8 (plain.moves_narrow SI) refl) refl refl
    (copy (holds plain_forms) lower_facts (condition.moves SI) (codes "nonimmediate_operand") SI a place (codes "general_operand") SI b source (moves_met (holds plain_forms) lower_facts a b SI either))
moved DI is a b place source either =
    matched plain_forms plain.moves_di _ (set_rtx a b) _ (among_moves 5 plain.moves_di refl) refl refl
    (copy (holds plain_forms) lower_facts (condition.moves DI) (codes "nonimmediate_operand") DI a place (codes "general_operand") DI b source (moves_met (holds plain_forms) lower_facts a b DI either))

-- ---- operands

pub first_true : (p q : Bool) → p ≡ true → (p || q) ≡ true
first_true true q is = refl
first_true false q is = cc

pub second_true : (p q : Bool) → q ≡ true → (p || q) ≡ true
second_true true q is = refl
second_true false q is = is

module _ (m : Mode) (x : Rtx) where
  pub register_set : accepts own.Register m x ≡ true → accepts own.Nonimmediate m x ≡ true
  register_set is = first_true (register_operand m x) (memory_operand m x) is

  pub memory_set : accepts own.Memory m x ≡ true → accepts own.Nonimmediate m x ≡ true
  memory_set is = second_true (register_operand m x) (memory_operand m x) is

  pub register_moved : accepts own.Register m x ≡ true → accepts own.General m x ≡ true
  register_moved is = first_true (register_operand m x) (immediate_operand m x || memory_operand m x) is

  pub memory_moved : accepts own.Memory m x ≡ true → accepts own.General m x ≡ true
  memory_moved is = second_true (register_operand m x) (immediate_operand m x || memory_operand m x) (second_true (immediate_operand m x) (memory_operand m x) is)

  pub constant_moved : accepts own.ConstInt m x ≡ true → accepts own.General m x ≡ true
  constant_moved is =
      second_true (register_operand m x) (immediate_operand m x || memory_operand m x) (first_true (immediate_operand m x) (memory_operand m x) (first_true (const_int_operand m x) (symbol_operand m x) is))

symbol_moved : (x : Rtx) → is_symbol x ≡ true → accepts own.General DI x ≡ true
symbol_moved x is =
    second_true (register_operand DI x) (immediate_operand DI x || memory_operand DI x) (first_true (immediate_operand DI x) (memory_operand DI x) (second_true (const_int_operand DI x) (symbol_operand DI x) (both is)))
  where
    both : is_symbol x ≡ true → (is_symbol x && true) ≡ true
    both is = ap (λ b. b && true) is

-- ---- the shapes

module _ (m : Mode) (of_mode : IsMoved m) (x : Rtx) where
  abbrev Set : Part → Part → Type 0
  Set target from = IsSetOf target (source.Only from) x

  in_place : (place value : Rtx) → x ≡ set_rtx place value → IsMatched plain_forms (set_rtx place value) → Comes x
  in_place place value is found = inl (subst (IsMatched plain_forms) (sym is) found)

  -- a register is set
  set_register : (from : Part) (s : Set (part.Register m) from) → accepts own.General m s.source ≡ true → Comes x
  set_register from s is =
      in_place s.place s.source s.is (moved m of_mode s.place s.source (register_set m s.place s.is_target) is (first_true (register_operand m s.place) (accepted (codes "reg_or_0_operand") m s.source) s.is_target))

  pub of_register : Set (part.Register m) (part.Register m) → Comes x
  of_register s = set_register (part.Register m) s (register_moved m s.source s.is_from)

  pub of_constant : Set (part.Register m) (part.Constant m) → Comes x
  of_constant s = set_register (part.Constant m) s (constant_moved m s.source s.is_from)

  pub of_memory : Set (part.Register m) (part.Memory m) → Comes x
  of_memory s = set_register (part.Memory m) s (memory_moved m s.source s.is_from)

  -- memory is
  stored : (from : Part) (s : Set (part.Memory m) from) → accepts own.General m s.source ≡ true → accepted (codes "reg_or_0_operand") m s.source ≡ true → Comes x
  stored from s is nought =
      in_place s.place s.source s.is (moved m of_mode s.place s.source (memory_set m s.place s.is_target) is (second_true (register_operand m s.place) (accepted (codes "reg_or_0_operand") m s.source) nought))

  pub register_stored : Set (part.Memory m) (part.Register m) → Comes x
  register_stored s = stored (part.Register m) s (register_moved m s.source s.is_from) (register_for_0 plain_forms have_plain m s.source s.is_from)

  pub constant_stored : Set (part.Memory m) (part.Constant m) → Comes x
  constant_stored s = go (constant_of m s.source s.is_from s.well_source)
    where
      by_value : (c : IsConstantOf m s.source) (z : ℤ) → c.value ≡ z → Comes x
      by_value c (pos zero) same =
          let nought : s.source ≡ const_of (pos 0) = c.is ∙ ap const_of same in
          stored (part.Constant m) s (constant_moved m s.source s.is_from) (ap (λ y. accepted (codes "reg_or_0_operand") m y) nought ∙ zero_for_0 plain_forms have_plain m)
      by_value c (pos (suc n)) same = inr (inr (IsExpanded.stores m s.place s.source (has_mode m of_mode) s.is_target (record { constant = c; other = ap is_nought same }) s.is))
      by_value c (negsuc n) same = inr (inr (IsExpanded.stores m s.place s.source (has_mode m of_mode) s.is_target (record { constant = c; other = ap is_nought same }) s.is))

      go : IsConstantOf m s.source → Comes x
      go c = by_value c c.value refl

-- ---- a symbol's address, and the frame's

module _ (x : Rtx) where
  pub of_symbol : IsSetOf (part.Register DI) (source.Only part.Symbol) x → Comes x
  of_symbol s = set_register DI tt x part.Symbol s (symbol_moved s.source s.is_from)

  pub of_frame : IsSetOf (part.Register DI) (source.Only part.Frame) x → Comes x
  of_frame s =
      in_place DI tt x s.place s.source s.is
      (matched plain_forms plain.framed _ (set_rtx s.place s.source) _ (among_moves 4 plain.framed refl) refl refl
      (copy (holds plain_forms) lower_facts always (codes "register_operand") DI s.place s.is_target (codes "frame_operand") DI s.source s.is_from (always_met (holds plain_forms) lower_facts (Some s.place ∷ Some s.source ∷ []))))

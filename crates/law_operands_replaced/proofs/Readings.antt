-- What an expression has of its parts, where other parts stand in their places, each read in its own mode.
use Rattle.std.proofs.Common.{◌≡◌, ◌⊎◌, ⊎_elim, inl, inr, ℕ, ◌*◌, ◌/◌, ◌%◌, ◌^◌, ◌&&◌, ◌||◌, not, Bool, true, false, List, [], ◌∷◌, Option, Some, None, refl, sym, ap, subst, ◌∙◌, arith}
use Rattle.std.proofs.lemmas.Bool.{and_parts}
use Rattle.std.specs.Prelude.{option_map, option_and_then}
use Rattle.bits64.specs.Words.{bits_of, low}
use Rattle.bits64.specs.Operators.{number, taking_of, asks_of}
use Rattle.bits64.specs.declared.operator.Operator.{Operator}
use Rattle.bits64.specs.declared.operator.Taking.{Taking}
use Rattle.bits64.specs.declared.operator.Taking.TheVariants.{Alone, Pair, Counted}
use Rattle.bits64.specs.declared.operator.Asks.{Asks}
use Rattle.bits64.specs.declared.operator.Asks.TheVariants.{Nothing, SecondNonzero}
use Rattle.bits64.proofs.Operators.{counted}
use Rattle.bits64.specs.declared.Width.{Width}
use Rattle.bits64.specs.declared.Width.TheVariants.{W8, W16, W32, W64}
use Rattle.rtx_tree.specs.declared.class.Class.{Class}
use Rattle.rtx_tree.specs.declared.class.Class.TheVariants as class
use Rattle.rtx_tree.specs.declared.code.Code.{Code}
use Rattle.rtx_tree.specs.declared.code.Code.TheVariants as code
use Rattle.rtx_tree.specs.declared.code.Mode.{Mode}
use Rattle.rtx_tree.specs.declared.code.Mode.TheVariants.{Void, QI, HI, SI, DI}
use Rattle.rtx_tree.specs.declared.memories.MemByte.{MemByte}
use Rattle.rtx_tree.specs.declared.tree.Rtx.{Rtx, out-Rtx}
use Rattle.run_memory.specs.RunMemory.{load}
use Rattle.rtl_func.specs.Shapes.{class_at, mode_at, number_at, has_mode, same_mode, is_constant_class, is_constant, is_value, is_operand, is_some_operand, is_moded, are_compared, is_bare, fits_row, fits_one, fits_two, is_shaped}
use Rattle.rtl_step.specs.Value.{Reading, width_of, operator_of, asking_nothing, if_counted, counting, unary, binary, shifted, compared, converted, of_one, of_two, of_converted, of_compared, first_width, count_width, value_of_one, value_of_two}
use Rattle.rtl_step.proofs.Too.{Too, too_then, too_two}
use Rattle.law_operands_replaced.proofs.NewTrees.{is_lowpart_class}

-- ---- readings

-- a width is the own one of an expression, or it has none
abbrev pub IsOwn : Option Width → Width → Type 0
IsOwn width w = (own : Width) → width ≡ Some own → own ≡ w

-- an expression without a mode of its own, which has in each width the low bits of what it has in 64
pub record IsFree (r : Reading) : Type 0 where
  pub modeless : r.width ≡ None
  pub lows : (w : Width) (n : ℕ) → r.value W64 ≡ Some n → r.value w ≡ Some (low w n)

-- The second has in its own mode what the first has. They have one mode, or the first has none.
pub record ReadsAs (r r' : Reading) : Type 0 where
  pub modes : (r'.width ≡ r.width) ⊎ IsFree r
  pub values : (w : Width) → IsOwn r'.width w → Too (r.value w) (r'.value w)

-- ---- modes

pub same_width : (a b : Mode) → same_mode a b ≡ true → width_of a ≡ width_of b
same_width Void Void is = refl
same_width QI QI is = refl
same_width HI HI is = refl
same_width SI SI is = refl
same_width DI DI is = refl
same_width Void QI is = absurd (let no : ⊥ = cc in no)
same_width Void HI is = absurd (let no : ⊥ = cc in no)
same_width Void SI is = absurd (let no : ⊥ = cc in no)
same_width Void DI is = absurd (let no : ⊥ = cc in no)
same_width QI Void is = absurd (let no : ⊥ = cc in no)
same_width QI HI is = absurd (let no : ⊥ = cc in no)
same_width QI SI is = absurd (let no : ⊥ = cc in no)
same_width QI DI is = absurd (let no : ⊥ = cc in no)
same_width HI Void is = absurd (let no : ⊥ = cc in no)
same_width HI QI is = absurd (let no : ⊥ = cc in no)
same_width HI SI is = absurd (let no : ⊥ = cc in no)
same_width HI DI is = absurd (let no : ⊥ = cc in no)
same_width SI Void is = absurd (let no : ⊥ = cc in no)
same_width SI QI is = absurd (let no : ⊥ = cc in no)
same_width SI HI is = absurd (let no : ⊥ = cc in no)
same_width SI DI is = absurd (let no : ⊥ = cc in no)
same_width DI Void is = absurd (let no : ⊥ = cc in no)
same_width DI QI is = absurd (let no : ⊥ = cc in no)
same_width DI HI is = absurd (let no : ⊥ = cc in no)
same_width DI SI is = absurd (let no : ⊥ = cc in no)

no_mode : (m : Mode) → not (has_mode m) ≡ true → width_of m ≡ None
no_mode Void is = refl
no_mode QI is = absurd (let no : ⊥ = cc in no)
no_mode HI is = absurd (let no : ⊥ = cc in no)
no_mode SI is = absurd (let no : ⊥ = cc in no)
no_mode DI is = absurd (let no : ⊥ = cc in no)

constant_row : (k : Class) (mode : Mode) (number : ℕ) (kids : List Rtx) → is_constant_class k ≡ true → fits_row k mode number kids ≡ true →
    width_of mode ≡ None
constant_row class.Constant mode number [] is fits = no_mode mode fits
constant_row class.Constant mode number (a ∷ []) is fits = absurd (let no : ⊥ = cc in no)
constant_row class.Constant mode number (a ∷ b ∷ []) is fits = absurd (let no : ⊥ = cc in no)
constant_row class.Constant mode number (a ∷ b ∷ c ∷ []) is fits = absurd (let no : ⊥ = cc in no)
constant_row class.Constant mode number (a ∷ b ∷ c ∷ d ∷ kids) is fits = absurd (let no : ⊥ = cc in no)
constant_row _ mode number kids is fits = absurd (let no : ⊥ = cc in no)

-- a constant has no mode
pub constant_modeless : (x : Rtx) → is_shaped x ≡ true → is_constant x ≡ true → width_of (mode_at x) ≡ None
constant_modeless x shaped is = constant_row (class_at x) (mode_at x) (number_at x) (out-Rtx x).kids is
    (and_parts (is_bare (class_at x) (number_at x) (out-Rtx x).name) _ shaped).1

own_none : (o : Option Width) (w : Width) → o ≡ None → IsOwn o w
own_none o w none own is = absurd (let no : ⊥ = cc in no)

own_by : (constant : Bool) (mode : Mode) (x : Rtx) (w : Width) → is_shaped x ≡ true → is_constant x ≡ constant →
    constant || same_mode mode (mode_at x) ≡ true → IsOwn (width_of mode) w → IsOwn (width_of (mode_at x)) w
own_by true mode x w shaped is fits own = own_none (width_of (mode_at x)) w (constant_modeless x shaped is)
own_by false mode x w shaped is fits own = λ o at. own o (same_width mode (mode_at x) fits ∙ at)

-- an operand of a mode is read in its own mode there
pub operand_own : (mode : Mode) (x : Rtx) (w : Width) → is_shaped x ≡ true → is_operand mode x ≡ true → IsOwn (width_of mode) w →
    IsOwn (width_of (mode_at x)) w
operand_own mode x w shaped fits own =
    own_by (is_constant x) mode x w shaped refl (and_parts (is_value x) _ fits).1 own

pub own_here : (w : Width) → IsOwn (Some w) w
own_here w own is = let same : w ≡ own = cc in sym same

-- ---- shifts by the low bits of a count

low_count : (w v : Width) (n : ℕ) → low v n % bits_of w ≡ n % bits_of w
low_count W8 W8 n = omega arith
low_count W8 W16 n = omega arith
low_count W8 W32 n = omega arith
low_count W8 W64 n = omega arith
low_count W16 W8 n = omega arith
low_count W16 W16 n = omega arith
low_count W16 W32 n = omega arith
low_count W16 W64 n = omega arith
low_count W32 W8 n = omega arith
low_count W32 W16 n = omega arith
low_count W32 W32 n = omega arith
low_count W32 W64 n = omega arith
low_count W64 W8 n = omega arith
low_count W64 W16 n = omega arith
low_count W64 W32 n = omega arith
low_count W64 W64 n = omega arith

-- an operator, if there is one, goes by the low bits of a count
abbrev GoesByLow : Width → Width → ℕ → ℕ → Option Operator → Type 0
GoesByLow w v a n o = option_map (λ o. number o w a (low v n)) o ≡ option_map (λ o. number o w a n) o

shifted_low : (c : Code) (w v : Width) (a n : ℕ) → shifted c w a (low v n) ≡ shifted c w a n
shifted_low c w v a n = by (operator_of c)
  where
    by_asks : (q : Asks) (o : Operator) → taking_of o ≡ Counted → GoesByLow w v a n (asking_nothing q o)
    by_asks Nothing o is = ap Some (counted o w a (low v n) n is (low_count w v n))
    by_asks SecondNonzero o is = refl

    by_taking : (t : Taking) (o : Operator) → taking_of o ≡ t → GoesByLow w v a n (if_counted t o)
    by_taking Alone o is = refl
    by_taking Pair o is = refl
    by_taking Counted o is = by_asks (asks_of o) o is

    by : (o : Option Operator) → GoesByLow w v a n (counting o)
    by None = refl
    by (Some o) = by_taking (taking_of o) o refl

own_count : (o : Option Width) → IsOwn o (count_width o)
own_count None = own_none None W64 refl
own_count (Some w) = own_here w

-- a count without a mode becomes one with a mode
free_count : (c : Code) (w v : Width) (a a' b b' : Option ℕ) → Too a a' → ((n : ℕ) → b ≡ Some n → b' ≡ Some (low v n)) →
    Too (of_two (shifted c w) a b) (of_two (shifted c w) a' b')
free_count c w v None a' b b' first second x is = absurd (let no : ⊥ = cc in no)
free_count c w v (Some a) a' None b' first second x is = absurd (let no : ⊥ = cc in no)
free_count c w v (Some a) a' (Some n) b' first second x is =
    ap (λ o. of_two (shifted c w) o b') (first a refl) ∙ ap (of_two (shifted c w) (Some a)) (second n refl) ∙ shifted_low c w v a n ∙ is

count_by : (c : Code) (w : Width) (a a' : Option ℕ) (r r' : Reading) → Too a a' → ReadsAs r r' →
    Too (of_two (shifted c w) a (r.value (count_width r.width))) (of_two (shifted c w) a' (r'.value (count_width r'.width)))
count_by c w a a' r r' first reads = ⊎_elim
    (λ (same : r'.width ≡ r.width). subst (λ v. Too (of_two (shifted c w) a (r.value v)) (of_two (shifted c w) a' (r'.value (count_width r'.width))))
    (ap count_width same)
    (too_two (shifted c w) a a' (r.value (count_width r'.width)) (r'.value (count_width r'.width)) first
    (reads.values (count_width r'.width) (own_count r'.width))))
    (λ (free : IsFree r). subst (λ v. Too (of_two (shifted c w) a (r.value v)) (of_two (shifted c w) a' (r'.value (count_width r'.width))))
    (sym (ap count_width free.modeless))
    (free_count c w (count_width r'.width) a a' (r.value W64) (r'.value (count_width r'.width)) first
    (λ n is. reads.values (count_width r'.width) (own_count r'.width) (low (count_width r'.width) n) (free.lows (count_width r'.width) n is))))
    reads.modes

-- ---- comparisons

-- two operands of one mode, which the first may leave to the second
abbrev pub ArePair : Option Width → Option Width → Type 0
ArePair a b = ((w : Width) × (a ≡ Some w) × IsOwn b w) ⊎ ((a ≡ None) × ((w : Width) × (b ≡ Some w)))

record Widths (a b : Option Width) (w : Width) : Type 0 where
  first : first_width a b ≡ Some w
  left : IsOwn a w
  right : IsOwn b w

widths_first : (a b a' b' : Option Width) (own w : Width) → first_width a b ≡ Some own → (a' ≡ a) ⊎ (a ≡ None) → (b' ≡ b) ⊎ (b ≡ None) →
    a' ≡ Some w → IsOwn b' w → Widths a' b' own
widths_first (Some v) b a' b' own w is first second here right = ⊎_elim
    (λ (same : a' ≡ Some v). let e : w ≡ own = cc in subst (λ x. Widths a' b' x) e (record {
      first = ap (λ o. first_width o b') here;
      left = λ o at. let same' : w ≡ o = cc in sym same';
      right = right;
    }))
    (λ (none : ◌≡◌ {A = Option Width} (Some v) None). absurd (let no : ⊥ = cc in no)) first
widths_first None (Some v) a' b' own w is first second here right = ⊎_elim
    (λ (same : b' ≡ Some v). let e : w ≡ own = sym (right v same) ∙ (let same' : v ≡ own = cc in same') in subst (λ x. Widths a' b' x) e (record {
      first = ap (λ o. first_width o b') here;
      left = λ o at. let same' : w ≡ o = cc in sym same';
      right = right;
    }))
    (λ (none : ◌≡◌ {A = Option Width} (Some v) None). absurd (let no : ⊥ = cc in no)) second
widths_first None None a' b' own w is first second here right = absurd (let no : ⊥ = cc in no)

widths_second : (a b a' b' : Option Width) (own w : Width) → first_width a b ≡ Some own → (a' ≡ a) ⊎ (a ≡ None) → (b' ≡ b) ⊎ (b ≡ None) →
    a' ≡ None → b' ≡ Some w → Widths a' b' own
widths_second (Some v) b a' b' own w is first second none here = ⊎_elim
    (λ (same : a' ≡ Some v). absurd (let no : ⊥ = cc in no))
    (λ (none' : ◌≡◌ {A = Option Width} (Some v) None). absurd (let no : ⊥ = cc in no)) first
widths_second None (Some v) a' b' own w is first second none here = ⊎_elim
    (λ (same : b' ≡ Some v). let e : w ≡ own = cc in subst (λ x. Widths a' b' x) e (record {
      first = ap (λ o. first_width o b') none ∙ here;
      left = own_none a' w none;
      right = λ o at. let same' : w ≡ o = cc in sym same';
    }))
    (λ (none' : ◌≡◌ {A = Option Width} (Some v) None). absurd (let no : ⊥ = cc in no)) second
widths_second None None a' b' own w is first second none here = absurd (let no : ⊥ = cc in no)

modes_of : (r r' : Reading) → ReadsAs r r' → (r'.width ≡ r.width) ⊎ (r.width ≡ None)
modes_of r r' reads = ⊎_elim (λ (same : r'.width ≡ r.width). inl same) (λ (free : IsFree r). inr free.modeless) reads.modes

widths_of : (a b a' b' : Reading) (own : Width) → first_width a.width b.width ≡ Some own → ReadsAs a a' → ReadsAs b b' →
    ArePair a'.width b'.width → Widths a'.width b'.width own
widths_of a b a' b' own is first second pair = ⊎_elim
    (λ (p : (w : Width) × (a'.width ≡ Some w) × IsOwn b'.width w).
    widths_first a.width b.width a'.width b'.width own p.0 is (modes_of a a' first) (modes_of b b' second) p.1 p.2)
    (λ (p : (a'.width ≡ None) × ((w : Width) × (b'.width ≡ Some w))).
    widths_second a.width b.width a'.width b'.width own p.1.0 is (modes_of a a' first) (modes_of b b' second) p.0 p.1.1) pair

compared_by : (c : Code) (a b a' b' : Reading) (o : Option Width) → first_width a.width b.width ≡ o → ReadsAs a a' → ReadsAs b b' →
    ArePair a'.width b'.width →
    Too (option_and_then (λ own. of_two (compared c own) (a.value own) (b.value own)) o) (of_compared c a' b')
compared_by c a b a' b' None is first second pair = λ v none. absurd (let no : ⊥ = cc in no)
compared_by c a b a' b' (Some own) is first second pair =
    let ws = widths_of a b a' b' own is first second pair in
    subst (λ o. Too (of_two (compared c own) (a.value own) (b.value own))
    (option_and_then (λ own. of_two (compared c own) (a'.value own) (b'.value own)) o)) (sym ws.first)
    (too_two (compared c own) (a.value own) (a'.value own) (b.value own) (b'.value own) (first.values own ws.left) (second.values own ws.right))

pub moded : (m : Mode) → has_mode m ≡ true → (w : Width) × (width_of m ≡ Some w)
moded Void is = absurd (let no : ⊥ = cc in no)
moded QI is = (W8, refl)
moded HI is = (W16, refl)
moded SI is = (W32, refl)
moded DI is = (W64, refl)

-- what the table asks of the operands of a comparison
pair_by : (ordered : Bool) (x y : Rtx) → is_moded x && is_operand (mode_at x) y ≡ ordered → is_shaped x ≡ true → is_shaped y ≡ true →
    ordered || (is_constant x && is_moded y) ≡ true → ArePair (width_of (mode_at x)) (width_of (mode_at y))
pair_by true x y is shaped shaped' fits =
    let both = and_parts (is_moded x) (is_operand (mode_at x) y) is in
    let m = moded (mode_at x) (and_parts (is_value x) (has_mode (mode_at x)) both.0).1 in
    inl (m.0, m.1, operand_own (mode_at x) y m.0 shaped' both.1 (λ o at. let same : m.0 ≡ o = cc (m.1) in sym same))
pair_by false x y is shaped shaped' fits =
    let both = and_parts (is_constant x) (is_moded y) fits in
    inr (constant_modeless x shaped both.0, moded (mode_at y) (and_parts (is_value y) (has_mode (mode_at y)) both.1).1)

-- ---- conversions

converted_by : (c : Code) (r r' : Reading) (w : Width) (o : Option Width) → r.width ≡ o → ReadsAs r r' →
    Too (option_and_then (λ own. of_one (converted c own w) (r.value own)) o) (of_converted c r' w)
converted_by c r r' w None is reads = λ v none. absurd (let no : ⊥ = cc in no)
converted_by c r r' w (Some own) is reads = ⊎_elim
    (λ (same : r'.width ≡ r.width). subst (λ o. Too (of_one (converted c own w) (r.value own))
    (option_and_then (λ own. of_one (converted c own w) (r'.value own)) o)) (sym (same ∙ is))
    (too_then (converted c own w) (r.value own) (r'.value own) (reads.values own (λ o at. let e : own ≡ o = cc in sym e))))
    (λ (free : IsFree r). absurd (let none : ◌≡◌ {A = Option Width} (Some own) None = sym is ∙ free.modeless in let no : ⊥ = cc in no))
    reads.modes

-- ---- an expression, by its parts

-- the reading of a tree is in the tree's mode
abbrev pub ReadsTree : Rtx → Reading → Type 0
ReadsTree y r = (r.width ≡ width_of (mode_at y)) × (is_shaped y ≡ true)

module _ (memory : List MemByte) where
  operand_reads : (mode : Mode) (y : Rtx) (r r' : Reading) (w : Width) → ReadsTree y r' → is_operand mode y ≡ true → IsOwn (width_of mode) w →
      ReadsAs r r' → Too (r.value w) (r'.value w)
  operand_reads mode y r r' w tree fits own reads =
      reads.values w (λ o at. operand_own mode y w tree.1 fits own o (sym tree.0 ∙ at))

  pub one_reads : (k : Class) (c : Code) (mode : Mode) (y : Rtx) (r r' : Reading) (w : Width) → is_lowpart_class k ≡ false →
      fits_one k mode y ≡ true → IsOwn (width_of mode) w → ReadsTree y r' → ReadsAs r r' →
      Too (value_of_one memory k c r w) (value_of_one memory k c r' w)
  one_reads class.Memory c mode y r r' w other fits own tree reads =
      too_then (load w memory) (r.value W64) (r'.value W64)
      (operand_reads DI y r r' W64 tree (and_parts (has_mode mode) (is_operand DI y) fits).1 (own_here W64) reads)
  one_reads class.Lowpart c mode y r r' w other fits own tree reads = absurd (let no : ⊥ = cc in no)
  one_reads class.Unary c mode y r r' w other fits own tree reads =
      too_then (unary c w) (r.value w) (r'.value w)
      (operand_reads mode y r r' w tree (and_parts (has_mode mode) (is_operand mode y) fits).1 own reads)
  one_reads class.Extension c mode y r r' w other fits own tree reads = converted_by c r r' w r.width refl reads
  one_reads class.Truncation c mode y r r' w other fits own tree reads = converted_by c r r' w r.width refl reads
  one_reads k c mode y r r' w other fits own tree reads = λ v none. absurd (let no : ⊥ = cc in no)

  pub two_reads : (k : Class) (c : Code) (mode : Mode) (x y : Rtx) (a b a' b' : Reading) (w : Width) → fits_two k mode x y ≡ true →
      IsOwn (width_of mode) w → ReadsTree x a' → ReadsTree y b' → ReadsAs a a' → ReadsAs b b' →
      Too (value_of_two k c a b w) (value_of_two k c a' b' w)
  two_reads class.Binary c mode x y a b a' b' w fits own tree tree' first second =
      let both = and_parts (is_operand mode x) (is_operand mode y) (and_parts (has_mode mode) _ fits).1 in
      too_two (binary c w) (a.value w) (a'.value w) (b.value w) (b'.value w)
      (operand_reads mode x a a' w tree both.0 own first) (operand_reads mode y b b' w tree' both.1 own second)
  two_reads class.Shift c mode x y a b a' b' w fits own tree tree' first second =
      let both = and_parts (is_operand mode x) (is_some_operand y) (and_parts (has_mode mode) _ fits).1 in
      count_by c w (a.value w) (a'.value w) b b' (operand_reads mode x a a' w tree both.0 own first) second
  two_reads class.Comparison c mode x y a b a' b' w fits own tree tree' first second =
      let pair = pair_by (is_moded x && is_operand (mode_at x) y) x y refl tree.1 tree'.1 (and_parts _ (are_compared x y) fits).1 in
      compared_by c a b a' b' (first_width a.width b.width) refl first second
      (subst (λ o. ArePair o b'.width) (sym tree.0) (subst (λ o. ArePair (width_of (mode_at x)) o) (sym tree'.0) pair))
  two_reads k c mode x y a b a' b' w fits own tree tree' first second = λ v none. absurd (let no : ⊥ = cc in no)

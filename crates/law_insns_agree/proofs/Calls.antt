-- What two calls hand over, where their symbolic states agree: the same arguments, and the same width of a result.
use Rattle.std.proofs.Common.{◌≡◌, ◌≢◌, ℕ, zero, suc, ◌%◌, ◌^◌, ◌==◌, ◌||◌, Bool, true, false, List, [], ◌∷◌, map, Option, Some, None, refl, sym, ◌∙◌, ap, subst, arith}
use Rattle.std.proofs.lemmas.Bool.Decides.{nat_tests}
use Rattle.std.specs.Prelude.{if◌then◌else◌, not, slice_get}
use Rattle.bits64.specs.declared.Width.{Width}
use Rattle.bits64.specs.declared.Width.TheVariants.{W8, W16, W32, W64}
use Rattle.rtx_tree.specs.declared.code.Mode.{Mode}
use Rattle.rtx_tree.specs.declared.code.Mode.TheVariants.{Void, QI, HI, SI, DI}
use Rattle.rtl_func.specs.Paths.{has_place}
use Rattle.rtl_func.specs.Calls.{are_distinct}
use Rattle.rtl_step.specs.Value as rtl
use Rattle.rtl_step.specs.declared.call.ArgValue.{ArgValue}
use Rattle.term_tree.specs.Tree.{Tree, width_of}
use Rattle.term_mean.specs.Meaning.{Valuation, mean}
use Rattle.term_mean.specs.Sums.{constant}
use Rattle.term_mean.proofs.SumLaws.{mean-constant}
use Rattle.law_window_kept.specs.law_function_kept.Outcomes.{HasEach}
use Rattle.law_states_agree.specs.sym_state.State.{Arg}
use Rattle.law_states_agree.specs.sym_diff.Compared.{arg_at, result_bits}
use Rattle.law_states_agree.specs.law_insn_terms.Means.{ArgsMean, result_width}
use Rattle.law_states_agree.proofs.law_insn_terms.Bools.{both_of}
use Rattle.law_states_agree.proofs.Calls.{same_reg, other_reg, not_false, or_right}

one_reg : (a b : ℕ) → (a == b) ≡ true → a ≡ b
one_reg a b is = grind (arith, nat_tests, is)

-- ---- a value that is handed over, by its term

-- a value in a register stands for a term
record IsOf (v : Valuation) (reg : ℕ) (t : Tree) (value : ArgValue) : Type 0 where
  reg_is : value.reg ≡ reg
  width_is : rtl.width_of value.mode ≡ Some (width_of t)
  value_is : value.value ≡ mean v t

-- a mode by its width
abbrev mode_in : Option Width → Mode
mode_in None = Void
mode_in (Some W8) = QI
mode_in (Some W16) = HI
mode_in (Some W32) = SI
mode_in (Some W64) = DI

mode_back : (m : Mode) → mode_in (rtl.width_of m) ≡ m
mode_back Void = refl
mode_back QI = refl
mode_back HI = refl
mode_back SI = refl
mode_back DI = refl

abbrev value_in : ℕ → Mode → ℕ → ArgValue
value_in reg mode value = record { reg = reg; mode = mode; value = value }

-- values in one register, of one term that has one number
one_value : (v u : Valuation) (reg : ℕ) (t : Tree) (x y : ArgValue) → IsOf v reg t x → IsOf u reg t y → mean v t ≡ mean u t → y ≡ x
one_value v u reg t x y first second same =
    let modes : y.mode ≡ x.mode = sym (mode_back y.mode) ∙ ap mode_in (second.width_is ∙ sym first.width_is) ∙ mode_back x.mode in
    ap (λ r. value_in r y.mode y.value) (second.reg_is ∙ sym first.reg_is)
    ∙ ap (λ m. value_in x.reg m y.value) modes
    ∙ ap (λ n. value_in x.reg x.mode n) (second.value_is ∙ sym same ∙ sym first.value_is)

-- ---- arguments and what is handed over

-- the term of a value at a place
record HasTerm (v : Valuation) (args : List Arg) (value : ArgValue) : Type 0 where
  term : Tree
  stands : has_place (map (λ (a : Arg). a.reg) args) value.reg ≡ true
  at : arg_at args value.reg ≡ Some term
  is_of : IsOf v value.reg term value

-- where each register is handed over once, a value is that of the argument of its register
term_of : (v : Valuation) (args : List Arg) (values : List ArgValue) (i : ℕ) (value : ArgValue) → are_distinct (map (λ (a : Arg). a.reg) args) ≡ true → ArgsMean v args values → slice_get values i ≡ Some value → HasTerm v args value
term_of v [] [] i value distinct means at = absurd (let no : ⊥ = cc in no)
term_of v [] (x ∷ values) i value distinct means at = absurd means
term_of v (arg ∷ args) [] i value distinct means at = absurd means
term_of v (arg ∷ args) (x ∷ values) zero value distinct means at =
    let same : x ≡ value = cc in
    let here : (arg.reg == x.reg) ≡ true = ap (λ r. arg.reg == r) means.0.reg_is ∙ same_reg arg.reg in
    subst (λ y. HasTerm v (arg ∷ args) y) same (record {
      term = arg.value;
      stands = ap (λ b. b || has_place (map (λ (a : Arg). a.reg) args) x.reg) here;
      at = ap (λ b. if b then Some arg.value else arg_at args x.reg) here;
      is_of = record { reg_is = refl; width_is = means.0.width_is; value_is = means.0.value_is };
    })
term_of v (arg ∷ args) (x ∷ values) (suc i) value distinct means at =
    let both = both_of (not (has_place (map (λ (a : Arg). a.reg) args) arg.reg)) (are_distinct (map (λ (a : Arg). a.reg) args)) distinct in
    let rest = term_of v args values i value both.1 means.1 at in
    let differ : arg.reg ≢ value.reg = λ same.
    let no : true ≡ false = sym rest.stands ∙ ap (has_place (map (λ (a : Arg). a.reg) args)) (sym same) ∙ not_false (has_place (map (λ (a : Arg). a.reg) args) arg.reg) both.0 in absurd (let no' : ⊥ = cc in no') in
    record {
      term = rest.term;
      stands = or_right (arg.reg == value.reg) (has_place (map (λ (a : Arg). a.reg) args) value.reg) rest.stands;
      at = ap (λ b. if b then Some arg.value else arg_at args value.reg) (other_reg arg.reg value.reg differ) ∙ rest.at;
      is_of = rest.is_of;
    }

-- what is handed over in a register
record IsPassed (v : Valuation) (values : List ArgValue) (reg : ℕ) (t : Tree) : Type 0 where
  place : ℕ
  value : ArgValue
  at : slice_get values place ≡ Some value
  is_of : IsOf v reg t value

passed : (v : Valuation) (args : List Arg) (values : List ArgValue) (reg : ℕ) (t : Tree) → ArgsMean v args values → arg_at args reg ≡ Some t → IsPassed v values reg t
passed v [] values reg t means at = absurd (let no : ⊥ = cc in no)
passed v (arg ∷ args) [] reg t means at = absurd means
passed v (arg ∷ args) (x ∷ values) reg t means at = by (arg.reg == reg) refl at (passed v args values reg t means.1)
  where
    by : (b : Bool) → (arg.reg == reg) ≡ b → (if b then Some arg.value else arg_at args reg) ≡ Some t → (arg_at args reg ≡ Some t → IsPassed v values reg t) → IsPassed v (x ∷ values) reg t
    by true here is rest =
        let same : arg.value ≡ t = cc in
        record {
          place = 0;
          value = x;
          at = refl;
          is_of = record { reg_is = means.0.reg_is ∙ one_reg arg.reg reg here; width_is = means.0.width_is ∙ ap (λ t. Some (width_of t)) same; value_is = means.0.value_is ∙ ap (mean v) same };
        }
    by false there is rest = let later = rest is in record { place = suc later.place; value = later.value; at = later.at; is_of = later.is_of }

-- terms of arguments that mean the same values have the same numbers
pub numbers_at : (v u : Valuation) (args : List Arg) (values : List ArgValue) (reg : ℕ) (t : Tree) → ArgsMean v args values → ArgsMean u args values → arg_at args reg ≡ Some t → mean v t ≡ mean u t
numbers_at v u [] values reg t first second at = absurd (let no : ⊥ = cc in no)
numbers_at v u (arg ∷ args) [] reg t first second at = absurd first
numbers_at v u (arg ∷ args) (x ∷ values) reg t first second at = by (arg.reg == reg) at (numbers_at v u args values reg t first.1 second.1)
  where
    by : (b : Bool) → (if b then Some arg.value else arg_at args reg) ≡ Some t → (arg_at args reg ≡ Some t → mean v t ≡ mean u t) → mean v t ≡ mean u t
    by true is rest = let same : arg.value ≡ t = cc in subst (λ t. mean v t ≡ mean u t) same (sym first.0.value_is ∙ second.0.value_is)
    by false is rest = rest is

-- each argument of the one call is one of the other
pub each_passed : (v u : Valuation) (args others : List Arg) (values later : List ArgValue) → are_distinct (map (λ (a : Arg). a.reg) args) ≡ true → ArgsMean v args values → ArgsMean u others later →
    ((reg : ℕ) (t : Tree) → arg_at args reg ≡ Some t → arg_at others reg ≡ Some t) → ((reg : ℕ) (t : Tree) → arg_at args reg ≡ Some t → mean v t ≡ mean u t) → HasEach values later
each_passed v u args others values later distinct first second there same i value at =
    let found = term_of v args values i value distinct first at in
    let passed_on = passed u others later value.reg found.term second (there value.reg found.term found.at) in
    (passed_on.place, passed_on.at ∙ ap Some (one_value v u value.reg found.term value passed_on.value found.is_of passed_on.is_of (same value.reg found.term found.at)))

-- ---- the width of a result

-- a result's width by its bits, of which a call alone has none
abbrev width_in : ℕ → Width
width_in bits = if bits == 8 then W8 else (if bits == 16 then W16 else (if bits == 32 then W32 else W64))

width_back : (result : Option Mode) (w : Width) → result_width result ≡ Some w → width_in (result_bits result) ≡ w
width_back None w is = cc
width_back (Some Void) w is = absurd (let no : ⊥ = cc in no)
width_back (Some QI) w is = cc
width_back (Some HI) w is = cc
width_back (Some SI) w is = cc
width_back (Some DI) w is = cc

bits_cut : (result : Option Mode) → result_bits result % 2 ^ 64 ≡ result_bits result
bits_cut None = refl
bits_cut (Some Void) = refl
bits_cut (Some QI) = refl
bits_cut (Some HI) = refl
bits_cut (Some SI) = refl
bits_cut (Some DI) = refl

pub widths_same : (first second : Option Mode) (w u : Width) → result_width first ≡ Some w → result_width second ≡ Some u → constant W64 (result_bits first) ≡ constant W64 (result_bits second) → w ≡ u
widths_same first second w u is is' same =
    let cut : result_bits first % 2 ^ 64 ≡ result_bits second % 2 ^ 64 =
    sym (mean-constant nowhere W64 (result_bits first)) ∙ ap (mean nowhere) same ∙ mean-constant nowhere W64 (result_bits second) in
    let bits : result_bits first ≡ result_bits second = sym (bits_cut first) ∙ cut ∙ bits_cut second in
    sym (width_back first w is) ∙ ap width_in bits ∙ width_back second u is'
  where
    nowhere : Valuation
    nowhere = record { reg = λ reg. 0; sym = λ name. 0; memory = λ number address. 0 }

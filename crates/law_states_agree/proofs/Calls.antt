-- A call of instructions and one of lines whose symbolic states agree: they call the same function, hand over the same, and the caller
-- sees the same memory.
use Rattle.std.proofs.Common.{◌≡◌, ◌≢◌, ◌≤◌, ℕ, zero, suc, ◌+◌, ◌-◌, ◌<◌, ◌^◌, ◌==◌, ◌&&◌, ◌||◌, Bool, true, false, List, [], ◌∷◌, map, Option, Some, None, refl, sym, ◌∙◌, ap, subst, arith, tests}
use Rattle.std.proofs.lemmas.Bool.Decides.{nat_tests}
use Rattle.std.specs.Prelude.{if◌then◌else◌, not, nat_le, option_map, slice_get}
use Rattle.bits64.specs.declared.Width.TheVariants.{W64}
use Rattle.bits64.specs.Words.{low}
use Rattle.rtx_tree.specs.declared.machine.RangeAt.{RangeAt}
use Rattle.rtl_func.specs.Paths.{has_place}
use Rattle.rtl_func.specs.Calls.{are_distinct}
use Rattle.rtl_step.specs.declared.call.ArgValue.{ArgValue}
use Rattle.rv_line.specs.Step.{register}
use Rattle.rv_line.specs.Run.{args_of, call_of}
use Rattle.rv_line.specs.declared.state.RvState.{RvState}
use Rattle.term_tree.specs.Tree.{Tree, width_of}
use Rattle.term_tree.specs.Form.{narrower}
use Rattle.term_mean.specs.Meaning.{Valuation, mean}
use Rattle.term_mean.specs.Compared.{low_bits}
use Rattle.term_mean.proofs.CutLaws.{low-low}
use Rattle.term_mean.proofs.ComparedLaws.{mean-low_bits}
use Rattle.sym_diff.specs.sym_state.State.{Arg, Changed, own_register}
use Rattle.sym_diff.specs.sym_state.Registers.{held, term_held}
use Rattle.law_line_terms.specs.sym_lines.Step as lines
use Rattle.sym_diff.specs.Compared.{arg_at, arg_beside}
use Rattle.same_behaviour.specs.Same.{SameArgs}
use Rattle.law_line_terms.specs.law_insn_terms.Means.{ArgMeans, ArgsMean}
use Rattle.law_line_terms.specs.ShowsLine.{ShowsNumber}
use Rattle.law_states_agree.proofs.Behind.{cut, own_mean, zero_one, within_64}

pub both_true : (a b : Bool) → (a && b) ≡ true → (a ≡ true) × (b ≡ true)
both_true true b is = (refl, is)
both_true false b is = absurd (let no : ⊥ = cc in no)

pub same_reg : (n : ℕ) → (n == n) ≡ true
same_reg n = grind (arith, nat_tests)

pub other_reg : (a b : ℕ) → a ≢ b → (a == b) ≡ false
other_reg a b differ = grind (arith, nat_tests, differ)

pub not_false : (b : Bool) → not b ≡ true → b ≡ false
not_false true is = absurd (let no : ⊥ = cc in no)
not_false false is = refl

pub or_right : (a b : Bool) → b ≡ true → (a || b) ≡ true
or_right true b is = refl
or_right false b is = is

-- ---- the arguments of a call, by their places

-- an argument, and what is handed over
pub record IsArg (v : Valuation) (args : List Arg) (i : ℕ) (value : ArgValue) : Type 0 where
  pub arg : Arg
  pub at : slice_get args i ≡ Some arg
  pub means : ArgMeans v arg value

find : (v : Valuation) (args : List Arg) (values : List ArgValue) (i : ℕ) (value : ArgValue) → ArgsMean v args values → slice_get values i ≡ Some value → IsArg v args i value
find v [] [] i value means at = absurd (let no : ⊥ = cc in no)
find v [] (x ∷ values) i value means at = absurd means
find v (arg ∷ args) [] i value means at = absurd means
find v (arg ∷ args) (x ∷ values) zero value means at = let same : x ≡ value = cc in record { arg = arg; at = refl; means = subst (λ y. ArgMeans v arg y) same means.0 }
find v (arg ∷ args) (x ∷ values) (suc i) value means at = let rest = find v args values i value means.1 at in record { arg = rest.arg; at = rest.at; means = rest.means }

numbers_same : (v u : Valuation) (args : List Arg) (values : List ArgValue) (i : ℕ) (arg : Arg) → ArgsMean v args values → ArgsMean u args values → slice_get args i ≡ Some arg → mean v arg.value ≡ mean u arg.value
numbers_same v u [] values i arg first second at = absurd (let no : ⊥ = cc in no)
numbers_same v u (x ∷ args) [] i arg first second at = absurd first
numbers_same v u (x ∷ args) (y ∷ values) zero arg first second at = let same : x ≡ arg = cc in subst (λ (z : Arg). mean v z.value ≡ mean u z.value) same (sym first.0.value_is ∙ second.0.value_is)
numbers_same v u (x ∷ args) (y ∷ values) (suc i) arg first second at = numbers_same v u args values i arg first.1 second.1 at

stands : (args : List Arg) (i : ℕ) (arg : Arg) → slice_get args i ≡ Some arg → has_place (map (λ (a : Arg). a.reg) args) arg.reg ≡ true
stands [] i arg at = absurd (let no : ⊥ = cc in no)
stands (x ∷ args) zero arg at = let same : x ≡ arg = cc in subst (λ (z : Arg). has_place (x.reg ∷ map (λ (a : Arg). a.reg) args) z.reg ≡ true) same (ap (λ b. b || has_place (map (λ (a : Arg). a.reg) args) x.reg) (same_reg x.reg))
stands (x ∷ args) (suc i) arg at = or_right (x.reg == arg.reg) (has_place (map (λ (a : Arg). a.reg) args) arg.reg) (stands args i arg at)

-- where each register is handed over once, the argument of a register is the one at its place
at_place : (args : List Arg) (i : ℕ) (arg : Arg) → are_distinct (map (λ (a : Arg). a.reg) args) ≡ true → slice_get args i ≡ Some arg → arg_at args arg.reg ≡ Some arg.value
at_place [] i arg distinct at = absurd (let no : ⊥ = cc in no)
at_place (x ∷ args) zero arg distinct at = let same : x ≡ arg = cc in subst (λ (z : Arg). (if x.reg == z.reg then Some x.value else arg_at args z.reg) ≡ Some z.value) same (ap (λ b. if b then Some x.value else arg_at args x.reg) (same_reg x.reg))
at_place (x ∷ args) (suc i) arg distinct at =
    let both = both_true (not (has_place (map (λ (a : Arg). a.reg) args) x.reg)) (are_distinct (map (λ (a : Arg). a.reg) args)) distinct in
    let differ : x.reg ≢ arg.reg = λ same. let no : true ≡ false = sym (stands args i arg at) ∙ ap (has_place (map (λ (a : Arg). a.reg) args)) (sym same) ∙ not_false (has_place (map (λ (a : Arg). a.reg) args) x.reg) both.0 in absurd (let no' : ⊥ = cc in no') in
    ap (λ b. if b then Some x.value else arg_at args arg.reg) (other_reg x.reg arg.reg differ) ∙ at_place args i arg both.1 at

-- ---- what lines hand over: a0 to a7

from_below : (count start reg : ℕ) (regs : List Changed) → reg < start → arg_at (lines.args_from count start regs) reg ≡ None
from_below zero start reg regs less = refl
from_below (suc count) start reg regs less =
    ap (λ b. if b then Some (lines.register regs start) else arg_at (lines.args_from count (suc start) regs) reg) (other_reg start reg (λ same. absurd (omega (arith, same, less))))
    ∙ from_below count (suc start) reg regs (omega (arith, less))

from_above : (count start reg : ℕ) (regs : List Changed) → start + count ≤ reg → arg_at (lines.args_from count start regs) reg ≡ None
from_above zero start reg regs past = refl
from_above (suc count) start reg regs past =
    ap (λ b. if b then Some (lines.register regs start) else arg_at (lines.args_from count (suc start) regs) reg) (other_reg start reg (λ same. absurd (omega (arith, same, past))))
    ∙ from_above count (suc start) reg regs (omega (arith, past))

from_within : (count start reg : ℕ) (regs : List Changed) → start ≤ reg → reg < start + count → arg_at (lines.args_from count start regs) reg ≡ Some (lines.register regs reg)
from_within zero start reg regs least most = absurd (omega (arith, least, most))
from_within (suc count) start reg regs least most = by (start == reg) refl
    (λ differ. from_within count (suc start) reg regs (omega (arith, least, differ)) (omega (arith, most)))
  where
    by : (b : Bool) → (start == reg) ≡ b → (start ≢ reg → arg_at (lines.args_from count (suc start) regs) reg ≡ Some (lines.register regs reg)) →
        (if b then Some (lines.register regs start) else arg_at (lines.args_from count (suc start) regs) reg) ≡ Some (lines.register regs reg)
    by true here rest = let same : start ≡ reg = grind (arith, nat_tests, here) in ap (λ r. Some (lines.register regs r)) same
    by false here rest = rest (λ same. let no : true ≡ false = sym (ap (λ r. start == r) (sym same) ∙ same_reg start) ∙ here in absurd (let no' : ⊥ = cc in no'))

held_place : (regs : List (Option ℕ)) (k : ℕ) → k < 8 → slice_get (args_of regs) k ≡ Some (register regs (k + 10))
held_place regs zero less = refl
held_place regs (suc zero) less = refl
held_place regs (suc (suc zero)) less = refl
held_place regs (suc (suc (suc zero))) less = refl
held_place regs (suc (suc (suc (suc zero)))) less = refl
held_place regs (suc (suc (suc (suc (suc zero))))) less = refl
held_place regs (suc (suc (suc (suc (suc (suc zero)))))) less = refl
held_place regs (suc (suc (suc (suc (suc (suc (suc zero))))))) less = refl
held_place regs (suc (suc (suc (suc (suc (suc (suc (suc k)))))))) less = absurd (omega (arith, less))

held_in : (regs : List (Option ℕ)) (reg : ℕ) → 10 ≤ reg → reg ≤ 17 → slice_get (args_of regs) (reg - 10) ≡ Some (register regs reg)
held_in regs reg least most =
    let back : reg - 10 + 10 ≡ reg = omega (arith, least) in
    held_place regs (reg - 10) (omega (arith, least, most)) ∙ ap (λ r. Some (register regs r)) back

-- ---- one argument

cut_mean : (v : Valuation) (t ut : Tree) (b : Bool) → narrower (width_of t) (width_of ut) ≡ b → Some (if b then low_bits (width_of t) ut else ut) ≡ Some t → mean v t ≡ low (width_of t) (mean v ut)
cut_mean v t ut true is cuts = let same : low_bits (width_of t) ut ≡ t = cc in ap (mean v) (sym same) ∙ mean-low_bits v (width_of t) ut
cut_mean v t ut false is cuts = let same : ut ≡ t = cc in sym (cut v t) ∙ ap (λ x. low (width_of t) (mean v x)) (sym same)

module _ (u w : Valuation) (first code : List (Option ℕ)) (reg : ℕ) (t : Tree) (value : ℕ) (same : mean u t ≡ mean w t) (is : value ≡ mean u t)
    (number : (n : ℕ) → register first (suc reg) ≡ Some n → n ≡ u.reg (suc reg)) (none : register first (suc reg) ≡ None → (u.reg (suc reg) ≡ 0) × (w.reg (suc reg) ≡ 1)) where
  -- a number in the register that has the argument's low bits
  pub record IsHeld : Type 0 where
    pub holds : ℕ
    pub at : register code (suc reg) ≡ Some holds
    pub low_is : low (width_of t) holds ≡ value

  own_by : (o : Option ℕ) → register first (suc reg) ≡ o → register code (suc reg) ≡ register first (suc reg) → ((v : Valuation) → mean v t ≡ low (width_of t) (mean v (low_bits W64 (own_register (suc reg))))) → IsHeld
  own_by (Some n) at kept means = record {
    holds = n;
    at = kept ∙ at;
    low_is = ap (low (width_of t)) (number n at) ∙ sym (low-low (width_of t) W64 (u.reg (suc reg)) (within_64 (width_of t))) ∙ ap (low (width_of t)) (sym (own_mean u W64 (suc reg))) ∙ sym (means u) ∙ sym is;
  }
  own_by None at kept means =
      let both = none at in
      let first_low : mean u t ≡ low (width_of t) 0 = means u ∙ ap (low (width_of t)) (own_mean u W64 (suc reg)) ∙ low-low (width_of t) W64 (u.reg (suc reg)) (within_64 (width_of t)) ∙ ap (low (width_of t)) both.0 in
      let second_low : mean w t ≡ low (width_of t) 1 = means w ∙ ap (low (width_of t)) (own_mean w W64 (suc reg)) ∙ low-low (width_of t) W64 (w.reg (suc reg)) (within_64 (width_of t)) ∙ ap (low (width_of t)) both.1 in
      absurd (zero_one (width_of t) (sym first_low ∙ same ∙ second_low))

  pub held_by : (left : Option (Option Tree)) → ShowsNumber u first code left (suc reg) → ((v : Valuation) → mean v t ≡ low (width_of t) (mean v (term_held left (suc reg) W64))) → IsHeld
  held_by None shows means = own_by (register first (suc reg)) refl shows means
  held_by (Some None) shows means = absurd shows
  held_by (Some (Some x)) shows means =
      let whole : mean u (term_held (Some (Some x)) (suc reg) W64) ≡ low W64 (mean u x) = ap (λ y. mean u (if narrower y W64 then low_bits W64 (own_register (suc reg)) else low_bits W64 x)) shows.1 ∙ mean-low_bits u W64 x in
      record {
        holds = mean u x;
        at = shows.0;
        low_is = sym (low-low (width_of t) W64 (mean u x) (within_64 (width_of t))) ∙ ap (low (width_of t)) (sym whole) ∙ sym (means u) ∙ sym is;
      }

-- ---- all arguments

module _ (v u w : Valuation) (args : List Arg) (values again : List ArgValue) (changed : List Changed) (ranges : List RangeAt) (target : ℕ) (first : List (Option ℕ)) (machine : RvState)
    (means : ArgsMean v args values) (own : ArgsMean v args again) (by_u : ArgsMean u args again) (by_w : ArgsMean w args again) (distinct : are_distinct (map (λ (a : Arg). a.reg) args) ≡ true)
    (agree : (reg : ℕ) (t : Tree) → arg_at args reg ≡ Some t → arg_beside true (Some t) (arg_at (lines.args_from 8 10 changed) reg) ≡ Some t)
    (shows : (reg : ℕ) → ShowsNumber u first machine.regs (held changed (suc reg)) (suc reg))
    (number : (reg n : ℕ) → register first reg ≡ Some n → n ≡ u.reg reg) (none : (reg : ℕ) → register first reg ≡ None → (u.reg reg ≡ 0) × (w.reg reg ≡ 1)) where
  -- what is handed over is one of a0 to a7
  outside : (reg : ℕ) (t : Tree) → arg_at args reg ≡ Some t → arg_at (lines.args_from 8 10 changed) reg ≡ None → ⊥
  outside reg t at missing = absurd (let none : ◌≡◌ {A = Option Tree} None (Some t) = sym (ap (arg_beside true (Some t)) missing) ∙ agree reg t at in let wrong : ⊥ = cc in wrong)

  least : (reg : ℕ) (t : Tree) (b : Bool) → nat_le 10 reg ≡ b → arg_at args reg ≡ Some t → 10 ≤ reg
  least reg t true is at = grind (arith, tests, is)
  least reg t false is at = let less : reg < 10 = grind (arith, tests, is) in absurd (outside reg t at (from_below 8 10 reg changed less))

  most : (reg : ℕ) (t : Tree) (b : Bool) → nat_le reg 17 ≡ b → arg_at args reg ≡ Some t → reg ≤ 17
  most reg t true is at = grind (arith, tests, is)
  most reg t false is at = let more : 10 + 8 ≤ reg = grind (arith, tests, is) in absurd (outside reg t at (from_above 8 10 reg changed more))

  held_at : (reg : ℕ) (t : Tree) (value : ℕ) → 10 ≤ reg → reg ≤ 17 → arg_at args reg ≡ Some t → mean u t ≡ mean w t → value ≡ mean u t →
      (n : ℕ) × (register machine.regs reg ≡ Some n) × (low (width_of t) n ≡ value)
  held_at zero t value least most at same is = absurd (omega (arith, least))
  held_at (suc reg) t value least most at same is =
      let there : arg_at (lines.args_from 8 10 changed) (suc reg) ≡ Some (lines.register changed (suc reg)) = from_within 8 10 (suc reg) changed least (omega (arith, most)) in
      let cuts : arg_beside true (Some t) (Some (lines.register changed (suc reg))) ≡ Some t = sym (ap (arg_beside true (Some t)) there) ∙ agree (suc reg) t at in
      let found = held_by u w first machine.regs reg t value same is (number (suc reg)) (none (suc reg)) (held changed (suc reg)) (shows reg)
      (λ x. cut_mean x t (lines.register changed (suc reg)) (narrower (width_of t) (width_of (lines.register changed (suc reg)))) refl cuts) in
      (found.holds, found.at, found.low_is)

  pub same_args : SameArgs (call_of ranges target machine) values
  same_args i value at =
      let found = find v args values i value means at in
      let arg : Arg = found.arg in
      let here : arg_at args arg.reg ≡ Some arg.value = at_place args i arg distinct found.at in
      let below : 10 ≤ arg.reg = least arg.reg arg.value (nat_le 10 arg.reg) refl here in
      let above : arg.reg ≤ 17 = most arg.reg arg.value (nat_le arg.reg 17) refl here in
      let own_number : mean v arg.value ≡ mean u arg.value = numbers_same v u args again i arg own by_u found.at in
      let other_number : mean u arg.value ≡ mean w arg.value = numbers_same u w args again i arg by_u by_w found.at in
      let held = held_at arg.reg arg.value value.value below above here other_number (found.means.value_is ∙ own_number) in
      record {
        least = subst (λ r. 10 ≤ r) (sym found.means.reg_is) below;
        most = subst (λ r. r ≤ 17) (sym found.means.reg_is) above;
        number = held.0;
        held = ap (λ r. slice_get (args_of machine.regs) (r - 10)) found.means.reg_is ∙ held_in machine.regs arg.reg below above ∙ ap Some held.1;
        value_is = ap (option_map (λ x. low x held.0)) found.means.width_is ∙ ap Some held.2;
      }

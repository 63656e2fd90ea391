-- A register behind instructions and behind lines whose symbolic states agree: what is known of it in the one is what the other holds.
use Rattle.std.proofs.Common.{◌≡◌, ◌≤◌, ℕ, zero, suc, ◌+◌, ◌%◌, ◌^◌, ◌<◌, nat_le, Bool, true, false, List, Option, Some, None, refl, sym, ◌∙◌, ap, subst, arith, tests}
use Rattle.std.specs.Prelude.{if◌then◌else◌, option_map, option_and_then}
use Rattle.bits64.specs.declared.Width.{Width}
use Rattle.bits64.specs.declared.Width.TheVariants.{W8, W16, W32, W64}
use Rattle.bits64.specs.Words.{bits_of, low}
use Rattle.rtl_step.specs.Regs.{known_of, known_in}
use Rattle.rv_line.specs.Step.{register}
use Rattle.term_tree.specs.Tree.{Tree, width_of}
use Rattle.term_mean.specs.Meaning.{Valuation, mean}
use Rattle.term_mean.specs.Compared.{low_bits}
use Rattle.term_mean.proofs.CutLaws.{low-low}
use Rattle.term_mean.proofs.SumLaws.{mean-cut}
use Rattle.term_mean.proofs.ComparedLaws.{mean-low_bits}
use Rattle.law_window_runs.specs.Beside.{reads}
use Rattle.sym_diff.specs.sym_state.State.{own_register}
use Rattle.sym_diff.specs.Registers.{value_behind}
use Rattle.sym_diff.specs.Agree.{Knows}
use Rattle.law_line_terms.specs.ShowsLine.{ShowsNumber}

pub within_64 : (w : Width) → bits_of w ≤ bits_of W64
within_64 W8 = omega arith
within_64 W16 = omega arith
within_64 W32 = omega arith
within_64 W64 = omega arith

-- a term's number is cut to its width
pub cut : (v : Valuation) (t : Tree) → low (width_of t) (mean v t) ≡ mean v t
cut v t = mean-cut v t

-- the low bits of a register's own bits
pub own_mean : (v : Valuation) (w : Width) (reg : ℕ) → mean v (low_bits w (own_register reg)) ≡ low w (v.reg reg)
own_mean v w reg = mean-low_bits v w (own_register reg) ∙ low-low w W64 (v.reg reg) (within_64 w)

one_zero : ◌≡◌ {A = ℕ} 0 1 → ⊥
one_zero same = let no : ⊥ = cc in no

pub zero_one : (w : Width) → low w 0 ≡ low w 1 → ⊥
zero_one W8 same = one_zero same
zero_one W16 same = one_zero same
zero_one W32 same = one_zero same
zero_one W64 same = one_zero same

-- a number that is known, in a width
pub record IsKnown (w : Width) (t : Tree) (number value : ℕ) : Type 0 where
  pub narrow : bits_of w ≤ bits_of (width_of t)
  pub value_is : value ≡ low w number

pub known_value : (w : Width) (t : Tree) (number value : ℕ) → known_in w (known_of (width_of t) number) ≡ Some value → low (width_of t) number ≡ number → IsKnown w t number value
known_value w t number value is cut = by (nat_le (bits_of w) (bits_of (width_of t))) refl is
  where
    by : (b : Bool) → nat_le (bits_of w) (bits_of (width_of t)) ≡ b → (if b then Some (low w (low (width_of t) number)) else None) ≡ Some value → IsKnown w t number value
    by true less is = record { narrow = grind (arith, tests, less); value_is = let same : low w (low (width_of t) number) ≡ value = cc in sym same ∙ ap (low w) cut }
    by false less is = absurd (let no : ⊥ = cc in no)

module _ (u : Valuation) (first code : List (Option ℕ)) (reg : ℕ) where
  -- a register of lines, where it goes by what it held at first
  held_reads : (w : Width) (number value : ℕ) → register code (suc reg) ≡ Some number → value ≡ low w number → reads code (suc reg) w ≡ Some value
  held_reads w number value there is = ap (option_map (low w)) there ∙ ap Some (sym is)

  -- ---- the instructions leave it alone

  kept_by : (w : Width) (value : ℕ) (o : Option ℕ) → register first (suc reg) ≡ o → ((number : ℕ) → register first (suc reg) ≡ Some number → number ≡ u.reg (suc reg)) →
      option_map (low w) o ≡ Some value → value ≡ low w (u.reg (suc reg))
  kept_by w value None at number is = absurd (let no : ⊥ = cc in no)
  kept_by w value (Some n) at number is = let same : low w n ≡ value = cc in sym same ∙ ap (low w) (number n at)

  pub kept_behind : (right : Option (Option Tree)) (w : Width) (value : ℕ) → Knows (value_behind right (suc reg)) (own_register (suc reg)) →
      ((number : ℕ) → register first (suc reg) ≡ Some number → number ≡ u.reg (suc reg)) → reads first (suc reg) w ≡ Some value →
      ShowsNumber u first code right (suc reg) → reads code (suc reg) w ≡ Some value
  kept_behind None w value knows number at shows = ap (option_map (low w)) shows ∙ at
  kept_behind (Some None) w value knows number at shows = absurd knows
  kept_behind (Some (Some x)) w value knows number at shows =
      let whole : low W64 (mean u x) ≡ low W64 (u.reg (suc reg)) = sym (mean-low_bits u W64 x) ∙ ap (mean u) knows.1 in
      held_reads w (mean u x) value shows.0
      (kept_by w value (register first (suc reg)) refl number at ∙ sym (low-low w W64 (u.reg (suc reg)) (within_64 w)) ∙ ap (low w) (sym whole) ∙ low-low w W64 (mean u x) (within_64 w))

  -- ---- the instructions change it

  own_behind : (t : Tree) (w : Width) (value : ℕ) (o : Option ℕ) → register first (suc reg) ≡ o → low_bits (width_of t) (own_register (suc reg)) ≡ t → IsKnown w t (mean u t) value →
      ((number : ℕ) → register first (suc reg) ≡ Some number → number ≡ u.reg (suc reg)) → (register first (suc reg) ≡ None → ⊥) → register code (suc reg) ≡ register first (suc reg) → reads code (suc reg) w ≡ Some value
  own_behind t w value None at is known number missing same = absurd (missing at)
  own_behind t w value (Some n) at is known number missing same =
      held_reads w n value (same ∙ at)
      (known.value_is ∙ ap (λ x. low w (mean u x)) (sym is) ∙ ap (low w) (own_mean u (width_of t) (suc reg)) ∙ low-low w (width_of t) (u.reg (suc reg)) known.narrow ∙ ap (low w) (sym (number n at)))

  pub changed_behind : (right : Option (Option Tree)) (t : Tree) (w : Width) (value : ℕ) → Knows (value_behind right (suc reg)) t → IsKnown w t (mean u t) value →
      ((number : ℕ) → register first (suc reg) ≡ Some number → number ≡ u.reg (suc reg)) → (low_bits (width_of t) (own_register (suc reg)) ≡ t → register first (suc reg) ≡ None → ⊥) →
      ShowsNumber u first code right (suc reg) → reads code (suc reg) w ≡ Some value
  changed_behind None t w value knows known number missing shows = own_behind t w value (register first (suc reg)) refl knows.1 known number (missing knows.1) shows
  changed_behind (Some None) t w value knows known number missing shows = absurd knows
  changed_behind (Some (Some x)) t w value knows known number missing shows =
      held_reads w (mean u x) value shows.0
      (known.value_is ∙ ap (λ y. low w (mean u y)) (sym knows.1) ∙ ap (low w) (mean-low_bits u (width_of t) x) ∙ low-low w (width_of t) (mean u x) known.narrow)

-- a term that is a register's own low bits tells two valuations apart that differ there
pub not_missing : (v u : Valuation) (reg : ℕ) (t : Tree) → low_bits (width_of t) (own_register reg) ≡ t → v.reg reg ≡ 0 → u.reg reg ≡ 1 → mean v t ≡ mean u t → ⊥
not_missing v u reg t is zero_is one_is same =
    zero_one (width_of t)
    (ap (low (width_of t)) (sym zero_is) ∙ sym (own_mean v (width_of t) reg) ∙ ap (mean v) is ∙ same ∙ ap (mean u) (sym is) ∙ own_mean u (width_of t) reg ∙ ap (low (width_of t)) one_is)

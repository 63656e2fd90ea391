-- The registers that a call leaves: in a symbolic state and in the state of a run the same ones are unset.
use Rattle.std.proofs.lemmas.Bool.Decides.{nat_tests}
use Rattle.std.proofs.Common.{◌≡◌, ◌≢◌, ℕ, zero, suc, ◌+◌, ◌<◌, ◌≤◌, ◌==◌, not, Bool, true, false, cond, List, Some, None, refl, sym, ◌∙◌, ap, subst, arith}
use Rattle.std.specs.Prelude.{if◌then◌else◌, option_and_then}
use Rattle.std.specs.FinMap.{get}
use Rattle.bits64.specs.declared.Width.{Width}
use Rattle.rtx_tree.specs.Registers.{is_call_used}
use Rattle.rtl_step.specs.Regs.{Regs, known_in, reg_value, preserved}
use Rattle.rtl_step.proofs.Registers.{get_kept}
use Rattle.term_mean.specs.Meaning.{Valuation}
use Rattle.law_window_runs.specs.Insns.{InsnsEnd, Falls, Goes, Calls, Returns}
use Rattle.sym_insns.specs.sym_state.State.{Changed}
use Rattle.sym_insns.specs.sym_state.Registers.{held, put, left_from, left_by_call}
use Rattle.law_insn_terms.specs.Needs.{First}
use Rattle.law_insn_terms.specs.Shows.{ShowsRegister}
use Rattle.law_insn_terms.specs.Means.{left_at}
use Rattle.law_insn_terms.proofs.Changes.{same_number, held_placed, held_kept}
use Rattle.law_insn_terms.proofs.States.{shows_get}

-- ---- a symbolic state

abbrev one_left : ℕ → List Changed → List Changed
one_left reg regs = if is_call_used reg then put regs reg None else regs

put_none : (regs : List Changed) (reg q : ℕ) → reg ≡ suc q → held (put regs reg None) (suc q) ≡ Some None
put_none regs zero q same = absurd (omega (arith, same))
put_none regs (suc reg) q same = ap (λ n. held (put regs (suc reg) None) n) (sym same) ∙ held_placed regs (suc reg) None

put_other : (regs : List Changed) (reg q : ℕ) → reg ≢ suc q → held (put regs reg None) (suc q) ≡ held regs (suc q)
put_other regs zero q other = refl
put_other regs (suc reg) q other = held_kept regs (suc reg) (suc q) None other

-- one register that is another, or need be preserved, leaves it
one_other : (regs : List Changed) (reg q : ℕ) → reg ≢ suc q → held (one_left reg regs) (suc q) ≡ held regs (suc q)
one_other regs reg q other = by (is_call_used reg)
  where
    by : (b : Bool) → held (if b then put regs reg None else regs) (suc q) ≡ held regs (suc q)
    by true = put_other regs reg q other
    by false = refl

one_here : (regs : List Changed) (q : ℕ) (b : Bool) → is_call_used (suc q) ≡ b → held (one_left (suc q) regs) (suc q) ≡ (if b then Some None else held regs (suc q))
one_here regs q true is = ap (λ b. held (if b then put regs (suc q) None else regs) (suc q)) is ∙ put_none regs (suc q) q refl
one_here regs q false is = ap (λ b. held (if b then put regs (suc q) None else regs) (suc q)) is

-- what need be preserved stays as it is
one_kept : (regs : List Changed) (reg q : ℕ) → is_call_used (suc q) ≡ false → held (one_left reg regs) (suc q) ≡ held regs (suc q)
one_kept regs reg q is = by (reg == suc q) refl
  where
    by : (b : Bool) → (reg == suc q) ≡ b → held (one_left reg regs) (suc q) ≡ held regs (suc q)
    by true same = ap (λ n. held (one_left n regs) (suc q)) (same_number reg (suc q) same) ∙ one_here regs q false is
    by false other = one_other regs reg q (λ same. let yes : (reg == suc q) ≡ true = grind (arith, nat_tests, same) in absurd (let no : ⊥ = cc in no))

left_kept : (count reg : ℕ) (regs : List Changed) (q : ℕ) → is_call_used (suc q) ≡ false → held (left_from count reg regs) (suc q) ≡ held regs (suc q)
left_kept zero reg regs q is = refl
left_kept (suc count) reg regs q is = left_kept count (reg + 1) (one_left reg regs) q is ∙ one_kept regs reg q is

-- what is unset stays unset
one_unset : (regs : List Changed) (reg q : ℕ) → held regs (suc q) ≡ Some None → held (one_left reg regs) (suc q) ≡ Some None
one_unset regs reg q unset = by (reg == suc q) refl (is_call_used reg)
  where
    by : (same : Bool) → (reg == suc q) ≡ same → (b : Bool) → held (if b then put regs reg None else regs) (suc q) ≡ Some None
    by same is false = unset
    by true is true = put_none regs reg q (same_number reg (suc q) is)
    by false is true = put_other regs reg q (λ same. let yes : (reg == suc q) ≡ true = grind (arith, nat_tests, same) in absurd (let no : ⊥ = cc in no)) ∙ unset

left_unset : (count reg : ℕ) (regs : List Changed) (q : ℕ) → held regs (suc q) ≡ Some None → held (left_from count reg regs) (suc q) ≡ Some None
left_unset zero reg regs q unset = unset
left_unset (suc count) reg regs q unset = left_unset count (reg + 1) (one_left reg regs) q (one_unset regs reg q unset)

-- what need not be preserved is unset
left_used : (count reg : ℕ) (regs : List Changed) (q : ℕ) → is_call_used (suc q) ≡ true → reg ≤ suc q → suc q < reg + count → held (left_from count reg regs) (suc q) ≡ Some None
left_used zero reg regs q is least most = absurd (omega (arith, least, most))
left_used (suc count) reg regs q is least most =
    by (reg == suc q) refl (λ above. left_used count (reg + 1) (one_left reg regs) q is above (omega (arith, most)))
  where
    by : (b : Bool) → (reg == suc q) ≡ b → (reg + 1 ≤ suc q → held (left_from count (reg + 1) (one_left reg regs)) (suc q) ≡ Some None) → held (left_from count (reg + 1) (one_left reg regs)) (suc q) ≡ Some None
    by true same later =
        let e : reg ≡ suc q = same_number reg (suc q) same in
        left_unset count (reg + 1) (one_left reg regs) q (ap (λ n. held (one_left n regs) (suc q)) e ∙ one_here regs q true is)
    by false other later = later (grind (arith, nat_tests, other, least))

used_below : (reg : ℕ) → is_call_used reg ≡ true → reg < 32
used_below reg is = grind (arith, nat_tests, is)

-- what a register holds behind a call
pub held_left : (regs : List Changed) (q : ℕ) (b : Bool) → is_call_used (suc q) ≡ b → held (left_by_call regs) (suc q) ≡ (if b then Some None else held regs (suc q))
held_left regs q true is = left_used 32 0 regs q is (omega arith) (used_below (suc q) is)
held_left regs q false is = left_kept 32 0 regs q is

-- ---- the state of a run

pub get_left : (regs : Regs) (q : ℕ) (b : Bool) → is_call_used q ≡ b → get (preserved regs) q ≡ (if b then None else get regs q)
get_left regs q true is = get_kept regs (λ reg. not (is_call_used reg)) q ∙ ap (λ b. cond (not b) (get regs q) None) is
get_left regs q false is = get_kept regs (λ reg. not (is_call_used reg)) q ∙ ap (λ b. cond (not b) (get regs q) None) is

-- the registers that a call preserves are shown as before, and the others as unset
pub left_shows : (v : Valuation) (f : First) (changes : List Changed) (regs : Regs) → ((q : ℕ) → ShowsRegister v f regs (held changes (suc q)) (suc q)) →
    (q : ℕ) → ShowsRegister v f (preserved regs) (held (left_by_call changes) (suc q)) (suc q)
left_shows v f changes regs shows q = by (is_call_used (suc q)) refl
  where
    by : (b : Bool) → is_call_used (suc q) ≡ b → ShowsRegister v f (preserved regs) (held (left_by_call changes) (suc q)) (suc q)
    by true is = subst (λ left. ShowsRegister v f (preserved regs) left (suc q)) (sym (held_left changes q true is)) (get_left regs (suc q) true is)
    by false is =
        subst (λ left. ShowsRegister v f (preserved regs) left (suc q)) (sym (held_left changes q false is))
        (shows_get v f regs (preserved regs) q (held changes (suc q)) (get_left regs (suc q) false is) (shows q))

-- a register that a call preserves has the value that it had
pub left_value : (ending : InsnsEnd) (regs : Regs) (reg : ℕ) (w : Width) → is_call_used reg ≡ false → reg_value (left_at ending regs) reg w ≡ reg_value regs reg w
left_value Falls regs reg w is = refl
left_value (Goes uid) regs reg w is = refl
left_value Returns regs reg w is = refl
left_value (Calls event width) regs zero w is = refl
left_value (Calls event width) regs (suc reg) w is = ap (λ o. option_and_then (known_in w) o) (get_left regs (suc reg) false is)

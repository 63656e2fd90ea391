-- The pseudos of a row, one number after another, and those that stand in instructions.
use Rattle.std.proofs.Common.{◌≡◌, ℕ, ◌+◌, ◌-◌, ◌*◌, ◌<◌, ◌≤◌, Bool, true, false, ◌||◌, ◌&&◌, not, eqb, ltb, cond, List, [], ◌∷◌, ◌++◌, length, get_or, refl, sym, ap, subst, ◌∙◌, inl, inr, arith}
use Rattle.std.specs.Prelude.{All}
use Rattle.std.specs.List.{list_any}
use Rattle.std.specs.List.Sorted.{IsStrictlyIncreasing}
use Rattle.std.proofs.lemmas.Bool.{cases_lt, lt-ltb, le-ltb, eqb-true, ne_eqb}
use Rattle.std.proofs.lemmas.Bool.Decides.{nat_tests}
use Rattle.std.proofs.lemmas.List.Folds.{list_any-append}
use Rattle.std.proofs.lemmas.List.Elements.{All-push}
use Rattle.rtx_tree.specs.declared.function.Insn.{Insn}
use Rattle.rtx_tree.specs.RegSet.{has_reg}
use Rattle.rtx_tree.specs.Registers.{pseudo}
use Rattle.rtx_tree.specs.Tree.{mentions_reg}
use Rattle.rtx_tree.proofs.Increasing.{increasing-append}
use Rattle.reg_rows.specs.Row.{has}
use Rattle.reg_rows.proofs.WordLaws.{has_past}
use Rattle.assign.specs.machine.Named.{stands_in}

-- the list has the pseudos of the row below k, in increasing order
pub record IsListed (named : List ℕ) (k : ℕ) (pseudos : List ℕ) : Type 0 where
  pub ordered : IsStrictlyIncreasing pseudos
  pub below : All (λ n. n < k) pseudos
  pub each : (n : ℕ) → has_reg pseudos n ≡ (ltb n k && has named (pseudo n))

one_more : (n k : ℕ) → ltb n (k + 1) ≡ (ltb n k || eqb k n)
one_more n k = grind (arith, nat_tests)

with_true : (a e h : Bool) → (e ≡ true → h ≡ true) → ((a && h) || (e || false)) ≡ ((a || e) && h)
with_true true true true f = refl
with_true true true false f = sym (f refl)
with_true false true h f = sym (f refl)
with_true true false true f = refl
with_true true false false f = refl
with_true false false h f = refl

with_false : (a e h : Bool) → (e ≡ true → h ≡ false) → (a && h) ≡ ((a || e) && h)
with_false true e h f = refl
with_false false true h f = sym (f refl)
with_false false false h f = refl

weaker : (ks : List ℕ) (k : ℕ) → All (λ n. n < k) ks → All (λ n. n < k + 1) ks
weaker ks k all j d l = let b : get_or ks j d < k = all j d l in omega arith

at_pseudo : (named : List ℕ) (n k : ℕ) (b : Bool) → has named (pseudo k) ≡ b → eqb k n ≡ true → has named (pseudo n) ≡ b
at_pseudo named n k b is e = ap (λ m. has named (pseudo m)) (sym (eqb-true k n e)) ∙ is

pub IsListed-step : (named old new : List ℕ) (k : ℕ) (b : Bool) → has named (pseudo k) ≡ b → new ≡ cond b (old ++ k ∷ []) old → IsListed named k old → IsListed named (k + 1) new
IsListed-step named old new k true is e listed =
    subst (IsListed named (k + 1)) (sym e) (record {
      ordered = increasing-append old k listed.ordered (λ j end. listed.below j 0 (omega arith));
      below = All-push (λ n. n < k + 1) old k (weaker old k listed.below) (omega arith);
      each = λ n.
          list_any-append (λ x. eqb x n) old (k ∷ []) ∙ (ap (λ x. x || (eqb k n || false)) (listed.each n) ∙ (with_true (ltb n k) (eqb k n) (has named (pseudo n)) (at_pseudo named n k true is) ∙ ap (λ x. x && has named (pseudo n)) (sym (one_more n k))));
    })
IsListed-step named old new k false is e listed =
    subst (IsListed named (k + 1)) (sym e) (record {
      ordered = listed.ordered;
      below = weaker old k listed.below;
      each = λ n. listed.each n ∙ (with_false (ltb n k) (eqb k n) (has named (pseudo n)) (at_pseudo named n k false is) ∙ ap (λ x. x && has named (pseudo n)) (sym (one_more n k)));
    })

pub IsListed-none : (named : List ℕ) → IsListed named 0 []
IsListed-none named = record {
  ordered = λ k l. absurd (omega arith);
  below = λ k d l. absurd (omega arith);
  each = λ n. sym (ap (λ b. b && has named (pseudo n)) (le-ltb n 0 (omega arith)));
}

pub listed_all : (named pseudos : List ℕ) (k : ℕ) → 64 * length named - 64 ≤ k → IsListed named k pseudos → (n : ℕ) → has_reg pseudos n ≡ has named (pseudo n)
listed_all named pseudos k le listed n =
    elim (cases_lt n k) [
      | inl l ↦ listed.each n ∙ ap (λ b. b && has named (pseudo n)) (lt-ltb n k l)
      | inr ge ↦ listed.each n ∙ (ap (λ b. b && has named (pseudo n)) (le-ltb n k ge) ∙ sym (has_past named (pseudo n) (omega arith)))
    ]

pub listed_small : (named pseudos : List ℕ) (k : ℕ) → k ≤ 64 * length named - 64 → IsListed named k pseudos → All (λ n. pseudo n < 64 * length named) pseudos
listed_small named pseudos k le listed j d l = let b : get_or pseudos j d < k = listed.below j d l in omega arith

-- a pseudo, which is not register zero, is read where it is mentioned
pub stands_in-pseudo : (insns : List Insn) (k : ℕ) → stands_in insns (pseudo k) ≡ list_any (λ i. mentions_reg (pseudo k) i.pattern) insns
stands_in-pseudo insns k =
    ap (λ (zero : Bool). list_any (λ (i : Insn). not zero && mentions_reg (pseudo k) i.pattern) insns) (ne_eqb (pseudo k) 0 (λ e. omega arith))

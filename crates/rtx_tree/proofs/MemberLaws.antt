-- The list of a set of row has what the row have, in increasing order.
use Rattle.std.proofs.Common.{◌≡◌, ℕ, zero, suc, ◌*◌, ◌≢◌, Bool, true, false, ◌||◌, ◌&&◌, eqb, ltb, cond, List, [], ◌∷◌, length, refl, sym, ap, subst, ◌∙◌, inl, inr, arith}
use Rattle.std.proofs.lemmas.Bool.{cases_eq, cases_lt, eq-eqb, ne_eqb, lt-ltb, le-ltb}
use Rattle.std.proofs.lemmas.List.Folds.{list_any-append}
use Rattle.reg_rows.specs.Row.{has}
use Rattle.reg_rows.proofs.WordLaws.{has_past}
use Rattle.rtx_tree.specs.RegSet.{has_reg, members_below, members}

or_nil : (b : Bool) → (b || false) ≡ b
or_nil true = refl
or_nil false = refl

one_listed : (n q : ℕ) (b : Bool) → has_reg (cond b (n ∷ []) []) q ≡ (b && eqb n q)
one_listed n q true = or_nil (eqb n q)
one_listed n q false = refl

at_same : (a h e l : Bool) → a ≡ false → e ≡ true → l ≡ true → ((a && h) || (h && e)) ≡ (l && h)
at_same true h e l p q r = cc
at_same false h false l p q r = cc
at_same false h true false p q r = cc
at_same false true true true p q r = refl
at_same false false true true p q r = refl

at_other : (a h e l k : Bool) → e ≡ false → a ≡ l → ((a && h) || (k && e)) ≡ (l && h)
at_other a h true l k p q = cc
at_other true true false l k p q = ap (λ x. x && true) q
at_other true false false l true p q = ap (λ x. x && false) q
at_other true false false l false p q = ap (λ x. x && false) q
at_other false h false l true p q = ap (λ x. x && h) q
at_other false h false l false p q = ap (λ x. x && h) q

ltb_suc : (q n : ℕ) → q ≢ n → ltb q n ≡ ltb q (suc n)
ltb_suc q n ne =
    elim (cases_lt q n) [
      | inl l ↦ lt-ltb q n l ∙ sym (lt-ltb q (suc n) (omega arith))
      | inr g ↦ le-ltb q n g ∙ sym (le-ltb q (suc n) (omega arith))
    ]

one_more : (row : List ℕ) (n q : ℕ) → ((ltb q n && has row q) || (has row n && eqb n q)) ≡ (ltb q (suc n) && has row q)
one_more row n q =
    elim (cases_eq q n) [
      | inl e ↦ subst (λ (x : ℕ). ((ltb x n && has row x) || (has row n && eqb n x)) ≡ (ltb x (suc n) && has row x)) (sym e) (at_same (ltb n n) (has row n) (eqb n n) (ltb n (suc n)) (le-ltb n n (omega arith)) (eq-eqb n n refl) (lt-ltb n (suc n) (omega arith)))
      | inr ne ↦ at_other (ltb q n) (has row q) (eqb n q) (ltb q (suc n)) (has row n) (ne_eqb n q (λ s. ne (sym s))) (ltb_suc q n ne)
    ]

below : (row : List ℕ) (n q : ℕ) → has_reg (members_below row n) q ≡ (ltb q n && has row q)
unfolding members_below
below row zero q = sym (ap (λ b. b && has row q) (le-ltb q 0 (omega arith)))
below row (suc n) q =
    list_any-append (λ x. eqb x q) (members_below row n) (cond (has row n) (n ∷ []) []) ∙ (ap (λ b. b || has_reg (cond (has row n) (n ∷ []) []) q) (below row n q) ∙ (ap (λ b. (ltb q n && has row q) || b) (one_listed n q (has row n)) ∙ one_more row n q))

-- the list has what the row have
pub has_reg-members : (row : List ℕ) (q : ℕ) → has_reg (members row) q ≡ has row q
unfolding members
has_reg-members row q =
    below row (64 * length row) q ∙ elim (cases_lt q (64 * length row)) [
      | inl l ↦ ap (λ b. b && has row q) (lt-ltb q (64 * length row) l)
      | inr g ↦ ap (λ b. b && has row q) (le-ltb q (64 * length row) g) ∙ sym (has_past row q (omega arith))
    ]

-- a set that is seen as a list has what its row have
pub has_reg-view : (row regs : List ℕ) (q : ℕ) → members row ≡ regs → has row q ≡ has_reg regs q
has_reg-view row regs q view = sym (has_reg-members row q) ∙ ap (λ rs. has_reg rs q) view

-- Lists of the places that lead to others, filled one by one.
use Rattle.std.proofs.Common.{◌≡◌, ◌≢◌, ℕ, zero, suc, ◌+◌, ◌<◌, ◌≤◌, true, false, ◌||◌, eqb, List, [], ◌∷◌, ◌++◌, length, set, Option, Some, None, inl, inr, refl, sym, ap, subst, ◌∙◌, arith}
use Rattle.std.specs.Prelude.{slice_get, All}
use Rattle.std.proofs.lemmas.Bool.{cases_eq, or_cases, or_left, or_right, eq-eqb, eqb-true, false≢true}
use Rattle.std.proofs.lemmas.List.Folds.{list_any-append}
use Rattle.std.proofs.lemmas.Option.{same_Some}
use Rattle.reg_rows.specs.Row.{lists}
use Rattle.live_rows.specs.declared.node.Node.{Node}
use Rattle.live_rows.specs.Paths.{is_place, leads_to}
use Rattle.live_rows.specs.machine.Waiting.{lists_in, listed_at, IsBelow}
use Rattle.live_rows.proofs.SetLaws.{slice_get-set_same, slice_get-set_other}

pub lists-push : (list : List ℕ) (from q : ℕ) → lists (list ++ from ∷ []) q ≡ (lists list q || (eqb from q || false))
lists-push list from q = list_any-append (λ r. eqb r q) list (from ∷ [])

module _ (back : List (List ℕ)) (i from : ℕ) (list : List ℕ) (within : i < length back) (here : slice_get back i ≡ Some list) where
  abbrev new : List (List ℕ)
  new = set back i (list ++ from ∷ [])

  at_same : (p q : ℕ) → p ≡ i → listed_at new p q ≡ (lists list q || (eqb from q || false))
  at_same p q e =
      ap (λ k. listed_at new k q) e ∙ (ap (λ o. lists_in o q) (slice_get-set_same back i (list ++ from ∷ []) within) ∙ lists-push list from q)

  at_other : (p q : ℕ) → p ≢ i → listed_at new p q ≡ listed_at back p q
  at_other p q ne = ap (λ o. lists_in o q) (slice_get-set_other back i p (list ++ from ∷ []) ne)

  was : (p q : ℕ) → p ≡ i → listed_at back p q ≡ lists list q
  was p q e = ap (λ o. lists_in o q) (ap (slice_get back) e ∙ here)

  pub listed-kept : (p q : ℕ) → listed_at back p q ≡ true → listed_at new p q ≡ true
  listed-kept p q h =
      elim (cases_eq p i) [
        | inl e ↦ at_same p q e ∙ or_left (lists list q) (eqb from q || false) (sym (was p q e) ∙ h)
        | inr ne ↦ at_other p q ne ∙ h
      ]

  pub listed-added : (p : ℕ) → eqb i p ≡ true → listed_at new p from ≡ true
  listed-added p is = at_same p from (sym (eqb-true i p is)) ∙ or_right (lists list from) (eqb from from || false) (or_left (eqb from from) false (eq-eqb from from refl))

  pub listed-below : (bound : ℕ) → from < bound → IsBelow bound back → (p q : ℕ) → listed_at new p q ≡ true → q < bound
  listed-below bound less below p q h =
      elim (cases_eq p i) [
        | inl e ↦ elim (or_cases (lists list q) (eqb from q || false) (sym (at_same p q e) ∙ h)) [
          | inl old ↦ below p q (was p q e ∙ old)
          | inr one ↦ elim (or_cases (eqb from q) false one) [
            | inl is ↦ subst (λ (k : ℕ). k < bound) (eqb-true from q is) less
            | inr never ↦ absurd (false≢true never)
          ]
        ]
        | inr ne ↦ below p q (sym (at_other p q ne) ∙ h)
      ]

all_listed : (bound : ℕ) (list : List ℕ) → ((q : ℕ) → lists list q ≡ true → q < bound) → All (λ q. q < bound) list
all_listed bound [] each k d l = absurd (omega arith)
all_listed bound (r ∷ list) each zero d l = each r (or_left (eqb r r) (lists list r) (eq-eqb r r refl))
all_listed bound (r ∷ list) each (suc k) d l = all_listed bound list (λ q h. each q (or_right (eqb r q) (lists list q) h)) k d (omega arith)

-- a list of numbers below n has room below a greater bound
pub all_below : (back : List (List ℕ)) (n bound p : ℕ) (list : List ℕ) → n ≤ bound → IsBelow n back → slice_get back p ≡ Some list → All (λ q. q < bound) list
all_below back n bound p list le below here =
    all_listed bound list (λ q h. (let less = below p q (ap (λ o. lists_in o q) here ∙ h) in omega (arith, le, less)))

-- an empty list more has nothing
pub listed-empty : (back : List (List ℕ)) → ((p q : ℕ) → listed_at back p q ≡ false) → (p q : ℕ) → listed_at (back ++ [] ∷ []) p q ≡ false
listed-empty [] none zero q = refl
listed-empty [] none (suc p) q = refl
listed-empty (l ∷ back) none zero q = none 0 q
listed-empty (l ∷ back) none (suc p) q = listed-empty back (λ p q. none (suc p) q) p q

-- the lists have the first n nodes where they lead
abbrev pub AreListed : List Node → ℕ → List (List ℕ) → Type 0
AreListed nodes n back = (p q : ℕ) (node : Node) → q < n → p < length nodes → slice_get nodes q ≡ Some node → leads_to node p ≡ true → listed_at back p q ≡ true

pub AreListed-more : (nodes : List Node) (n : ℕ) (node : Node) (old half new : List (List ℕ)) → slice_get nodes n ≡ Some node → length old ≡ length nodes → length half ≡ length nodes →
    ((p q : ℕ) → listed_at old p q ≡ true → listed_at half p q ≡ true) → ((p : ℕ) → p < length old → is_place node.first p ≡ true → listed_at half p n ≡ true) →
    ((p q : ℕ) → listed_at half p q ≡ true → listed_at new p q ≡ true) → ((p : ℕ) → p < length half → is_place node.second p ≡ true → listed_at new p n ≡ true) → AreListed nodes n old → AreListed nodes (n + 1) new
AreListed-more nodes n node old half new at long longer keep one keep_too two listed p q j less within there leads =
    elim (cases_eq q n) [
      | inl e ↦
          let same : j ≡ node = same_Some j node (sym there ∙ (ap (slice_get nodes) e ∙ at)) in
          let leads' : leads_to node p ≡ true = subst (λ (i : Node). leads_to i p ≡ true) same leads in
          subst (λ (k : ℕ). listed_at new p k ≡ true) (sym e) (elim (or_cases (is_place node.first p) (is_place node.second p) leads') [
            | inl a ↦ keep_too p n (one p (omega (arith, within, long)) a)
            | inr b ↦ two p (omega (arith, within, longer)) b
          ])
      | inr ne ↦ keep_too p q (keep p q (listed p q j (omega (arith, less, ne)) within there leads))
    ]

-- The stores are the same where nothing is found in them; what is found is at the first place where they differ.
use Rattle.std.proofs.Common.{◌≡◌, ◌≢◌, ℕ, suc, ◌+◌, List, [], ◌∷◌, take, slice_get, Option, Some, None, refl, ◌∙◌, ap, arith}
use Rattle.term_mean.specs.Stores.{Store}
use Rattle.term_text.specs.declared.item.Item.TheVariants as item
use Rattle.sym_state.specs.State.{nothing}
use Rattle.sym_diff.specs.Difference.{Difference, or_else}
use Rattle.sym_diff.specs.Compared.{compared_terms, compared_store, compared_stores}
use Rattle.sym_diff.proofs.AgreeLaws.{or_none, none_or, terms_none, none_terms}
use Rattle.sym_diff.proofs.Items.{IsOf, InItem, some_item, or_item, terms_item}

same_store : (x y : Store) → x.0 ≡ y.0 → x.1 ≡ y.1 → x ≡ y
same_store x y h k = ap (λ p. (p, x.1)) h ∙ ap (λ q. (y.0, q)) k

store_none : (index : ℕ) (x y : Store) → compared_store index x y ≡ None → x ≡ y
store_none index x y h =
    let two = or_none (compared_terms (item.Store index) x.0 y.0) (compared_terms (item.Store index) x.1 y.1) h in
    same_store x y (terms_none (item.Store index) x.0 y.0 two.0) (terms_none (item.Store index) x.1 y.1 two.1)

none_store : (index : ℕ) (x y : Store) → x ≡ y → compared_store index x y ≡ None
none_store index x y h =
    none_or (compared_terms (item.Store index) x.0 y.0) (compared_terms (item.Store index) x.1 y.1)
    (none_terms (item.Store index) x.0 y.0 (ap (λ s. s.0) h)) (none_terms (item.Store index) x.1 y.1 (ap (λ s. s.1) h))

store_item : (index : ℕ) (x y : Store) → InItem (item.Store index) (compared_store index x y)
store_item index x y = or_item (item.Store index) _ _ (terms_item (item.Store index) x.0 y.0) (terms_item (item.Store index) x.1 y.1)

pub stores_none : (index : ℕ) (a b : List Store) → compared_stores index a b ≡ None → a ≡ b
stores_none index [] [] h = refl
stores_none index (x ∷ a) [] h = cc
stores_none index [] (y ∷ b) h = cc
stores_none index (x ∷ a) (y ∷ b) h =
    let two = or_none (compared_store index x y) (compared_stores (index + 1) a b) h in
    let first = store_none index x y two.0 in
    let rest = stores_none (index + 1) a b two.1 in
    cc

-- what is found stands at a place, before which the stores are the same
pub record StoreAt (index : ℕ) (a b : List Store) (d : Difference) : Type 0 where
  pub at : ℕ
  pub place : ℕ
  pub at_is : at ≡ index + place
  pub of_store : IsOf (item.Store at) d
  pub before : take place a ≡ take place b
  pub differ : slice_get a place ≢ slice_get b place

pub stores_first : (index : ℕ) (a b : List Store) (d : Difference) → compared_stores index a b ≡ Some d → StoreAt index a b d
stores_first index [] [] d h = cc
stores_first index (x ∷ a) [] d h = record { at = index; place = 0; at_is = omega arith; of_store = some_item (item.Store index) x.0 nothing d h; before = refl; differ = λ e. cc }
stores_first index [] (y ∷ b) d h = record { at = index; place = 0; at_is = omega arith; of_store = some_item (item.Store index) nothing y.0 d h; before = refl; differ = λ e. cc }
stores_first index (x ∷ a) (y ∷ b) d h = go (compared_store index x y) refl h (stores_first (index + 1) a b d)
  where
    not_same : compared_store index x y ≡ Some d → Some x ≡ Some y → ⊥
    not_same found e = let same : x ≡ y = cc in let none = none_store index x y same in cc

    joined : (p q : List Store) → x ≡ y → p ≡ q → x ∷ p ≡ y ∷ q
    joined p q h k = cc

    go : (o : Option Difference) → compared_store index x y ≡ o → or_else o (compared_stores (index + 1) a b) ≡ Some d → (compared_stores (index + 1) a b ≡ Some d → StoreAt (index + 1) a b d) →
        StoreAt index (x ∷ a) (y ∷ b) d
    go (Some e) is h ih = record { at = index; place = 0; at_is = omega arith; of_store = store_item index x y d (is ∙ h); before = refl; differ = not_same (is ∙ h) }
    go None is h ih = let f = ih h in
        record { at = f.at; place = suc f.place; at_is = (let e : f.at ≡ index + 1 + f.place = f.at_is in omega arith); of_store = f.of_store; before = joined (take f.place a) (take f.place b) (store_none index x y is) f.before; differ = f.differ }

-- The state with one register more is within the limit on terms.
use Rattle.std.proofs.Common.{◌≡◌, ℕ, zero, suc, ◌==◌, nat_lt, Bool, true, false, ◌&&◌, if◌then◌else◌, List, [], ◌∷◌, ◌++◌, Option, Some, None, refl, ap, ◌∙◌}
use Rattle.std.specs.List.{list_all}
use Rattle.term_tree.specs.Tree.{Tree}
use Rattle.term_tree.specs.Small.{is_small}
use Rattle.sym_state.specs.State.{Changed, Need, State, is_small_value, is_small_store, is_small_call, is_small_need, needs_at, is_within}
use Rattle.sym_state.specs.Registers.{changed, put, placed}
use Rattle.sym_insns.specs.Effects.{Effect, Nothing, Sets, Unsets, Stores, reg_after}

pub two_of : (p q : Bool) → (p && q) ≡ true → (p ≡ true) × (q ≡ true)
two_of true q is = (refl, is)
two_of false q is = cc

pub both : (p q : Bool) → p ≡ true → q ≡ true → (p && q) ≡ true
both true q one other = other
both false q one other = cc

abbrev pub AreSmall : List Changed → Type 0
AreSmall regs = list_all (λ (c : Changed). is_small_value c.value) regs ≡ true

module _ (k : ℕ) (t : Tree) (small : is_small t ≡ true) where
  abbrev one : Changed
  one = changed (suc k) (Some t)

  alone : AreSmall (one ∷ [])
  alone = both (is_small t) true small refl

  -- in its place among the others
  by_order : (r : ℕ) (v : Option Tree) (below same : Bool) → is_small_value v ≡ true →
      AreSmall (if below then one ∷ changed r v ∷ [] else (if same then changed r v ∷ [] else changed r v ∷ one ∷ []))
  by_order r v true same is = both (is_small t) (is_small_value v && true) small (both (is_small_value v) true is refl)
  by_order r v false true is = both (is_small_value v) true is refl
  by_order r v false false is = both (is_small_value v) (is_small t && true) is alone

  put_small : (r : ℕ) (v : Option Tree) → AreSmall (put [] r v) → AreSmall (put (one ∷ []) r v)
  put_small zero v is = alone
  put_small (suc r) v is = by_order (suc r) v (nat_lt (suc k) (suc r)) (suc k == suc r) (two_of (is_small_value v) true is).0

  pub after_small : (e : Effect) → AreSmall (reg_after e []) → AreSmall (reg_after e (one ∷ []))
  after_small Nothing is = alone
  after_small (Sets r u) is = put_small r (Some u) is
  after_small (Unsets r) is = put_small r None is
  after_small (Stores address value) is = alone

pub needs_small : (i j : ℕ) (needs : List Need) → list_all (λ n. is_small_need n.what) (needs_at i needs) ≡ true → list_all (λ n. is_small_need n.what) (needs_at j needs) ≡ true
needs_small i j [] is = refl
needs_small i j (n ∷ needs) is =
    let two = two_of (is_small_need n) (list_all (λ n. is_small_need n.what) (needs_at i needs)) is in
    both (is_small_need n) (list_all (λ n. is_small_need n.what) (needs_at j needs)) two.0 (needs_small i j needs two.1)

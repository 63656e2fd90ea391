-- States that agree are told as the same.
use Rattle.std.proofs.Common.{◌≡◌, ℕ, ◌==◌, Bool, true, false, cond, List, [], slice_get, Option, Some, None, is_some, unwrap_or, refl, ap, subst}
use Rattle.term_tree.specs.Tree.{Tree}
use Rattle.term_mean.specs.Stores.{Store}
use Rattle.term_text.specs.declared.item.Item.TheVariants as item
use Rattle.sym_state.specs.State.{State, Jump, NeedAt, own_register}
use Rattle.sym_state.specs.Registers.{held}
use Rattle.sym_diff.specs.Difference.{Difference, Differ, Lacks}
use Rattle.sym_diff.specs.Registers.{value_behind}
use Rattle.sym_diff.specs.States.{difference}
use Rattle.sym_diff.specs.Agree.{Knows, Agree, FirstFails}
use Rattle.sym_diff.proofs.FirstLaws.{first_found}
use Rattle.law_plain_states.specs.Frames.{IsKnown, AreCovered, sets, stores, jumps}

-- ---- no item fails

none_fails : (of_lines : Bool) (live : List ℕ) (a b : State) → Agree of_lines live a b → (d : Difference) → FirstFails of_lines live a b d → ⊥
none_fails of_lines live a b agree (Differ (item.Register reg) left right) f = f.1 (agree.registers reg)
none_fails of_lines live a b agree (Differ (item.Store index) left right) f = f.2 (ap (λ s. slice_get s index) agree.stores)
none_fails of_lines live a b agree (Differ item.Jump left right) f = f.2 agree.jumps
none_fails of_lines live a b agree (Differ item.Call left right) f = f.3 agree.calls
none_fails of_lines live a b agree (Differ item.Need left right) f = f
none_fails of_lines live a b agree (Differ (item.Shape index) left right) f = f
none_fails of_lines live a b agree (Lacks term) f = f.4 agree.needs

pub agreed : (of_lines : Bool) (live : List ℕ) (a b : State) → Agree of_lines live a b → difference of_lines live a b ≡ None
agreed of_lines live a b agree = go (difference of_lines live a b) refl
  where
    go : (x : Option Difference) → difference of_lines live a b ≡ x → x ≡ None
    go None h = refl
    go (Some d) h = absurd (none_fails of_lines live a b agree d (first_found of_lines live a b d h))

-- ---- one register

pub same_inside : (t u : Tree) → Some t ≡ Some u → t ≡ u
same_inside t u e = ap (λ o. unwrap_or o t) e

-- a register that holds what it held is known
own_known : (reg : ℕ) (t : Tree) → Some (own_register reg) ≡ Some t → Knows (Some (own_register reg)) t
own_known reg t e = subst (λ t. Knows (Some (own_register reg)) t) (same_inside (own_register reg) t e) (refl, refl)

set_known : (t u t' : Tree) → IsKnown t u → Some t ≡ Some t' → Knows (Some u) t'
set_known t u t' known e = subst (λ t. Knows (Some u) t) (same_inside t t' e) known

-- what is set in both is known, and what is not is as it was
held_known : (b : Bool) (reg : ℕ) (t u t' : Tree) → IsKnown t u →
    value_behind (cond b (Some (Some t)) None) reg ≡ Some t' → Knows (value_behind (cond b (Some (Some u)) None) reg) t'
held_known true reg t u t' known e = set_known t u t' known e
held_known false reg t u t' known e = own_known reg t' e

-- both change it, or neither
changed_both : (b : Bool) (t u : Tree) → cond b (Some (Some t)) None ≡ None → is_some (cond b (Some (Some u)) None) ≡ true → ⊥
changed_both true t u none some = cc
changed_both false t u none some = cc

none_changed : (x : Option (Option Tree)) → x ≡ None → is_some x ≡ true → ⊥
none_changed None none some = cc
none_changed (Some y) none some = cc

-- ---- the frames

-- what is set in one register agrees where as much is known of it
pub set_agrees : (live : List ℕ) (reg : ℕ) (t u : Tree) (had needs : List NeedAt) → IsKnown t u → AreCovered had needs →
    difference true live (sets reg t had) (sets reg u needs) ≡ None
set_agrees live reg t u had needs known covered = agreed true live (sets reg t had) (sets reg u needs) (record {
  registers = λ r asked. record {
    known = λ is_live t' e. held_known (reg == r) r t u t' known e;
    kept = λ within none some. absurd (changed_both (reg == r) t u none some);
  };
  stores = refl;
  jumps = (refl, refl);
  calls = tt;
  needs = covered;
})

-- nothing is changed in no register
pub store_agrees : (live : List ℕ) (s : Store) (had needs : List NeedAt) → AreCovered had needs →
    difference true live (stores s had) (stores s needs) ≡ None
store_agrees live s had needs covered = agreed true live (stores s had) (stores s needs) (record {
  registers = λ r asked. record { known = λ is_live t e. own_known r t e; kept = λ within none some. absurd (none_changed (held [] r) refl some) };
  stores = refl;
  jumps = (refl, refl);
  calls = tt;
  needs = covered;
})

pub jump_agrees : (live : List ℕ) (j : Jump) (had needs : List NeedAt) → AreCovered had needs →
    difference true live (jumps j had) (jumps j needs) ≡ None
jump_agrees live j had needs covered = agreed true live (jumps j had) (jumps j needs) (record {
  registers = λ r asked. record { known = λ is_live t e. own_known r t e; kept = λ within none some. absurd (none_changed (held [] r) refl some) };
  stores = refl;
  jumps = (refl, refl);
  calls = tt;
  needs = covered;
})

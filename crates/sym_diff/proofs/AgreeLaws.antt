-- A comparison that finds nothing says that an item agrees, and an item that agrees is found to: terms, registers, the jump, the call
-- and the needs.
use Rattle.std.proofs.Common.{◌≡◌, ℕ, ◌&&◌, ◌||◌, not, nat_le, Bool, true, false, cond, List, [], ◌∷◌, Option, Some, None, refl, ap, subst, arith}
use Rattle.std.specs.Prelude.{is_some}
use Rattle.std.specs.List.{list_all}
use Rattle.std.proofs.lemmas.Bool.Decides.{nat_tests}
use Rattle.rtx_tree.specs.Registers.{virtual_stack_vars}
use Rattle.term_tree.specs.Tree.{Tree, width_of}
use Rattle.term_tree.specs.Form.{narrower}
use Rattle.term_mean.specs.Compared.{low_bits}
use Rattle.term_text.specs.declared.item.Item.{Item}
use Rattle.sym_term.proofs.Steps.{same-is}
use Rattle.sym_state.specs.State.{State, NeedAt}
use Rattle.sym_state.specs.Registers.{held}
use Rattle.sym_diff.specs.Difference.{Difference, Differ, Lacks, or_else}
use Rattle.sym_diff.specs.Registers.{same_tree, value_behind, agrees, is_live, is_free, changes_alone, fails, is_passed_over, compared_register, register_difference}
use Rattle.sym_diff.specs.Compared.{compared_terms, is_covered, compared_needs, need_term}
use Rattle.sym_diff.specs.Agree.{Knows, AgreesIn, RegisterAgrees, NeedsAgree}

-- ---- flags

pub both : (p q : Bool) → (p && q) ≡ true → (p ≡ true) × (q ≡ true)
both true q h = (refl, h)
both false q h = cc

pub not_true : (p : Bool) → not p ≡ true → p ≡ false
not_true true h = cc
not_true false h = refl

not_false : (p : Bool) → not p ≡ false → p ≡ true
not_false true h = refl
not_false false h = cc

neither : (p q : Bool) → (p || q) ≡ false → (p ≡ false) × (q ≡ false)
neither true q h = cc
neither false q h = (refl, h)

-- ---- the first of two, and terms

pub or_none : (x y : Option Difference) → or_else x y ≡ None → (x ≡ None) × (y ≡ None)
or_none None y h = (refl, h)
or_none (Some d) y h = cc

pub none_or : (x y : Option Difference) → x ≡ None → y ≡ None → or_else x y ≡ None
none_or None y hx hy = hy
none_or (Some d) y hx hy = cc

pub terms_none : (i : Item) (t u : Tree) → compared_terms i t u ≡ None → t ≡ u
terms_none i t u h = go (same_tree t u) refl h
  where
    go : (s : Bool) → same_tree t u ≡ s → cond s None (Some (Differ i t u)) ≡ None → t ≡ u
    go true is h = (same-is t u).0 is
    go false is h = cc

pub none_terms : (i : Item) (t u : Tree) → t ≡ u → compared_terms i t u ≡ None
none_terms i t u h = ap (λ s. cond s None (Some (Differ i t u))) ((same-is t u).1 h)

-- ---- what is known

knows : (x y : Option Tree) → agrees x y ≡ true → (t : Tree) → x ≡ Some t → Knows y t
knows None y h t is = cc
knows (Some a) None h t is = cc
knows (Some a) (Some b) h t is = subst (λ t. Knows (Some b) t) (some is) (let two = both (not (narrower (width_of b) (width_of a))) (same_tree (low_bits (width_of a) b) a) h in (not_true (narrower (width_of b) (width_of a)) two.0, (same-is (low_bits (width_of a) b) a).0 two.1))
  where
    some : Some a ≡ Some t → a ≡ t
    some is = cc

known : (x y : Option Tree) → ((t : Tree) → x ≡ Some t → Knows y t) → agrees x y ≡ true
known None y h = refl
known (Some a) None h = absurd (h a refl)
known (Some a) (Some b) h = let two = h a refl in go (narrower (width_of b) (width_of a)) (same_tree (low_bits (width_of a) b) a) two.0 ((same-is (low_bits (width_of a) b) a).1 two.1)
  where
    go : (p q : Bool) → p ≡ false → q ≡ true → (not p && q) ≡ true
    go true q hp hq = cc
    go false q hp hq = hq

-- ---- what is left alone

alone : (p q r f l : Bool) → (p && (not q && (r && not (f && not l)))) ≡ false → p ≡ true → q ≡ false → r ≡ true → (f ≡ true) × (l ≡ false)
alone false q r f l h hp hq hr = cc
alone true true r f l h hp hq hr = cc
alone true false false f l h hp hq hr = cc
alone true false true false l h hp hq hr = cc
alone true false true true true h hp hq hr = cc
alone true false true true false h hp hq hr = (refl, refl)

not_alone : (p q r f l : Bool) → (p ≡ true → q ≡ false → r ≡ true → (f ≡ true) × (l ≡ false)) → (p && (not q && (r && not (f && not l)))) ≡ false
not_alone false q r f l h = refl
not_alone true true r f l h = refl
not_alone true false false f l h = refl
not_alone true false true false l h = let two = h refl refl refl in cc
not_alone true false true true true h = let two = h refl refl refl in cc
not_alone true false true true false h = refl

is_none : (x : Option (Option Tree)) → is_some x ≡ false → x ≡ None
is_none None h = refl
is_none (Some v) h = cc

-- ---- a register

live_known : (l g : Bool) → (l && not g) ≡ false → l ≡ true → g ≡ true
live_known true true h is = refl
live_known true false h is = cc
live_known false g h is = cc

known_live : (l g : Bool) → (l ≡ true → g ≡ true) → (l && not g) ≡ false
known_live true true h = refl
known_live true false h = let is = h refl in cc
known_live false g h = refl

agrees_in : (live : List ℕ) (a b : State) (reg : ℕ) → fails live (held a.regs reg) (held b.regs reg) reg ≡ false → AgreesIn live a b reg
agrees_in live a b reg h =
    let two = neither (changes_alone live (held a.regs reg) (held b.regs reg) reg) (is_live live reg && not (agrees (value_behind (held a.regs reg) reg) (value_behind (held b.regs reg) reg))) h in
    record {
      known = λ is. knows (value_behind (held a.regs reg) reg) (value_behind (held b.regs reg) reg) (live_known (is_live live reg) _ two.1 is);
      kept = λ low left changed. alone (nat_le reg virtual_stack_vars) (is_some (held a.regs reg)) (is_some (held b.regs reg)) (is_free reg) (is_live live reg) two.0 (grind (arith, nat_tests, low)) (ap is_some left) changed;
    }

in_agrees : (live : List ℕ) (a b : State) (reg : ℕ) → AgreesIn live a b reg → fails live (held a.regs reg) (held b.regs reg) reg ≡ false
in_agrees live a b reg h =
    or_false (changes_alone live (held a.regs reg) (held b.regs reg) reg) _
    (not_alone (nat_le reg virtual_stack_vars) (is_some (held a.regs reg)) (is_some (held b.regs reg)) (is_free reg) (is_live live reg)
    (λ low left changed. h.kept (grind (arith, nat_tests, low)) (is_none (held a.regs reg) left) changed))
    (known_live (is_live live reg) _ (λ is. known (value_behind (held a.regs reg) reg) (value_behind (held b.regs reg) reg) (h.known is)))
  where
    or_false : (p q : Bool) → p ≡ false → q ≡ false → (p || q) ≡ false
    or_false true q hp hq = cc
    or_false false q hp hq = hq

-- a register in which nothing is found agrees
pub register_none : (live : List ℕ) (a b : State) (reg : ℕ) →
    compared_register (is_some a.call || is_some b.call) live (held a.regs reg) (held b.regs reg) reg ≡ None → RegisterAgrees live a b reg
register_none live a b reg h = λ asked. go (is_passed_over (is_some a.call || is_some b.call) reg) (fails live (held a.regs reg) (held b.regs reg) reg) refl asked h
  where
    go : (p f : Bool) → fails live (held a.regs reg) (held b.regs reg) reg ≡ f → p ≡ false →
        cond (not p && f) (Some (register_difference (held a.regs reg) (held b.regs reg) reg)) None ≡ None → AgreesIn live a b reg
    go true f is asked h = cc
    go false true is asked h = cc
    go false false is asked h = agrees_in live a b reg is

pub none_register : (live : List ℕ) (a b : State) (reg : ℕ) → RegisterAgrees live a b reg →
    compared_register (is_some a.call || is_some b.call) live (held a.regs reg) (held b.regs reg) reg ≡ None
none_register live a b reg h = go (is_passed_over (is_some a.call || is_some b.call) reg) (fails live (held a.regs reg) (held b.regs reg) reg) (λ asked. in_agrees live a b reg (h asked))
  where
    go : (p f : Bool) → (p ≡ false → f ≡ false) → cond (not p && f) (Some (register_difference (held a.regs reg) (held b.regs reg) reg)) None ≡ None
    go true f h = refl
    go false true h = let is = h refl in cc
    go false false h = refl

-- ---- needs

pub needs_none : (had needs : List NeedAt) → compared_needs had needs ≡ None → NeedsAgree had needs
needs_none had [] h = refl
needs_none had (n ∷ needs) h = go (is_covered had n.what) (needs_none had needs) h
  where
    go : (c : Bool) → (compared_needs had needs ≡ None → NeedsAgree had needs) → cond c (compared_needs had needs) (Some (Lacks (need_term n.what))) ≡ None →
        (c && list_all (λ n. is_covered had n.what) needs) ≡ true
    go true ih h = ih h
    go false ih h = cc

pub none_needs : (had needs : List NeedAt) → NeedsAgree had needs → compared_needs had needs ≡ None
none_needs had [] h = refl
none_needs had (n ∷ needs) h = go (is_covered had n.what) (none_needs had needs) h
  where
    go : (c : Bool) → (NeedsAgree had needs → compared_needs had needs ≡ None) → (c && list_all (λ n. is_covered had n.what) needs) ≡ true →
        cond c (compared_needs had needs) (Some (Lacks (need_term n.what))) ≡ None
    go true ih h = ih h
    go false ih h = cc

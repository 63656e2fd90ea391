-- States agree of which the second has changed one register more, that is not live.
use Rattle.std.proofs.Common.{◌≡◌, ◌≢◌, ℕ, zero, suc, ◌<◌, ◌≤◌, ◌==◌, Bool, true, false, ◌&&◌, ◌||◌, if◌then◌else◌, List, [], ◌∷◌, Option, Some, None, is_some, refl, sym, ap, subst, ◌∙◌, arith}
use Rattle.std.proofs.lemmas.Bool.Decides.{nat_tests}
use Rattle.std.specs.List.{list_all, list_any, AllByRecursion}
use Rattle.bits64.specs.declared.Width.{Width}
use Rattle.bits64.specs.declared.Width.TheVariants.{W8, W16, W32, W64}
use Rattle.rtx_tree.specs.RegSet.{has_reg}
use Rattle.rtx_tree.specs.Registers.{virtual_stack_vars}
use Rattle.term_tree.specs.Tree.{Tree, width_of}
use Rattle.term_tree.specs.Form.{narrower}
use Rattle.sym_state.specs.State.{Changed, Need, NeedAt, State, needs_at}
use Rattle.sym_state.specs.Registers.{held, changed, put, placed}
use Rattle.sym_insns.specs.Effects.{Effect, Nothing, Sets, Unsets, Stores, reg_after}
use Rattle.sym_diff.specs.Registers.{value_behind}
use Rattle.sym_diff.specs.Compared.{covers, is_covered}
use Rattle.sym_diff.specs.Agree.{Knows, AgreesIn, RegistersAgree, NeedsAgree}
use Rattle.law_insn_terms.proofs.Changes.{held_placed, held_kept}
use Rattle.law_plain_terms.proofs.Back.{low_same}
use Rattle.law_set_before.specs.Before.{CanBeHad}
use Rattle.law_set_before.proofs.Within.{two_of, both}

-- ---- a term is known where it stands

not_narrower : (w : Width) → narrower w w ≡ false
not_narrower W8 = refl
not_narrower W16 = refl
not_narrower W32 = refl
not_narrower W64 = refl

known_itself : (t : Tree) → Knows (Some t) t
known_itself t = (not_narrower (width_of t), low_same (width_of t) t refl)

same_inside : (t u : Tree) → Some t ≡ Some u → t ≡ u
same_inside t u is = cc

known_too : (o : Option (Option Tree)) (reg : ℕ) (t : Tree) → value_behind o reg ≡ Some t → Knows (value_behind o reg) t
known_too o reg t is = subst (λ v. Knows v t) (sym is) (known_itself t)

-- ---- one register more

clash : (c : Bool) → c ≡ true → c ≡ false → ⊥
clash c one other = cc

not_same : (a b : ℕ) → (a == b) ≡ false → a ≢ b
not_same a b is = λ same. (let yes : (a == b) ≡ true = grind (arith, nat_tests, same) in clash (a == b) yes is)

module _ (k : ℕ) (t : Tree) where
  abbrev more : List Changed
  more = changed (suc k) (Some t) ∷ []

  bare : (q : ℕ) → (suc k == q) ≡ false → held more q ≡ None
  bare q other = ap (λ b. if b then Some (Some t) else None) other

  -- a register is changed in both
  changed_too : (r : ℕ) (v : Option Tree) (q : ℕ) → (suc k == q) ≡ false → held (placed more r v) q ≡ held (placed [] r v) q
  changed_too r v q other = go (r == q) refl
    where
      go : (b : Bool) → (r == q) ≡ b → held (placed more r v) q ≡ held (placed [] r v) q
      go true is = let same : r ≡ q = grind (arith, nat_tests, is) in subst (λ q. held (placed more r v) q ≡ held (placed [] r v) q) same (held_placed more r v ∙ sym (held_placed [] r v))
      go false is = let apart : r ≢ q = not_same r q is in held_kept more r q v apart ∙ (bare q other ∙ sym (held_kept [] r q v apart))

  put_too : (r : ℕ) (v : Option Tree) (q : ℕ) → (suc k == q) ≡ false → held (put more r v) q ≡ held (put [] r v) q
  put_too zero v q other = bare q other
  put_too (suc r) v q other = changed_too (suc r) v q other

  -- what an effect leaves of all other registers
  pub others : (e : Effect) (q : ℕ) → (suc k == q) ≡ false → held (reg_after e more) q ≡ held (reg_after e []) q
  others Nothing q other = bare q other
  others (Sets r u) q other = put_too r (Some u) q other
  others (Unsets r) q other = put_too r None q other
  others (Stores address value) q other = bare q other

-- ---- all registers, where the one that is changed alone is not live

module _ (k : ℕ) (live : List ℕ) (a b : State) (high : virtual_stack_vars < suc k) (dead : has_reg live (suc k) ≡ false) (same : (q : ℕ) → (suc k == q) ≡ false → held b.regs q ≡ held a.regs q) where
  lives_never : (q : ℕ) → suc k ≡ q → has_reg live q ≡ true → ⊥
  lives_never q here lives = clash (has_reg live q) lives (ap (has_reg live) (sym here) ∙ dead)

  none_some : (o : Option (Option Tree)) → o ≡ None → is_some o ≡ true → ⊥
  none_some None none some = cc
  none_some (Some v) none some = cc

  agrees_in : (q : ℕ) (c : Bool) → (suc k == q) ≡ c → AgreesIn live a b q
  agrees_in q true is =
      let here : suc k ≡ q = grind (arith, nat_tests, is) in
      record {
        known = λ lives u value. absurd (lives_never q here lives);
        kept = λ within none some. absurd (omega (arith, here, within, high));
      }
  agrees_in q false is =
      let here : held b.regs q ≡ held a.regs q = same q is in
      record {
        known = λ lives u value. subst (λ o. Knows (value_behind o q) u) (sym here) (known_too (held a.regs q) q u value);
        kept = λ within none some. absurd (none_some (held b.regs q) (here ∙ none) some);
      }

  pub registers_agree : RegistersAgree live a b
  registers_agree q asked = agrees_in q (suc k == q) refl

-- ---- needs

or_later : (p q : Bool) → q ≡ true → (p || q) ≡ true
or_later true q is = refl
or_later false q is = is

or_first : (p q : Bool) → p ≡ true → (p || q) ≡ true
or_first true q is = refl
or_first false q is = cc

covered_more : (h : NeedAt) (had needs : List NeedAt) → NeedsAgree had needs → NeedsAgree (h ∷ had) needs
covered_more h had [] agree = refl
covered_more h had (n ∷ needs) agree =
    let two = two_of (is_covered had n.what) (list_all (λ n. is_covered had n.what) needs) agree in
    both (is_covered (h ∷ had) n.what) (list_all (λ n. is_covered (h ∷ had) n.what) needs) (or_later (covers h.what n.what) (is_covered had n.what) two.0) (covered_more h had needs two.1)

-- the same needs, of instructions at other places
pub needs_too : (i j : ℕ) (needs : List Need) → AllByRecursion CanBeHad needs → NeedsAgree (needs_at i needs) (needs_at j needs)
needs_too i j [] all = refl
needs_too i j (n ∷ needs) all =
    let h : NeedAt = record { index = i; what = n } in
    both (is_covered (h ∷ needs_at i needs) n) (list_all (λ n. is_covered (h ∷ needs_at i needs) n.what) (needs_at j needs)) (or_first (covers n n) (is_covered (needs_at i needs) n) all.0)
    (covered_more h (needs_at i needs) (needs_at j needs) (needs_too i j needs all.1))

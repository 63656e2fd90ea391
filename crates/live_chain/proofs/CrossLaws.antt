-- Where one window is in the place of another, what is live outside stays live, and what is live inside is asked for there or is live
-- behind.
use Rattle.std.proofs.Common.{◌≡◌, ℕ, zero, suc, ◌+◌, true, false, ◌||◌, ◌&&◌, not, List, [], ◌∷◌, ◌++◌, length, drop, Option, Some, None, inl, inr, ◌⊎◌, refl, sym, ap, subst, ◌∙◌, arith, eqb, length-append}
use Rattle.std.specs.Prelude.{slice_get}
use Rattle.std.proofs.lemmas.Bool.{cases_lt, or_cases, or_left, or_right, false≢true, or_from, and_from, eqb-true}
use Rattle.std.proofs.lemmas.Option.{same_Some, slice_get_within}
use Rattle.rtx_tree.specs.declared.function.Insn.{Insn}
use Rattle.rtx_tree.specs.declared.function.Function.{Function}
use Rattle.rtl_func.specs.declared.flow.Flow.TheVariants.{Falls}
use Rattle.rtl_func.specs.Successors.{flow_of, successors_by}
use Rattle.rtl_func.specs.Paths.{has_place, leads}
use Rattle.reg_uses.specs.Uses.{insn_uses, insn_defines, is_return, return_uses}
use Rattle.live.specs.Live.{IsLive, IsLiveAfter, AtEnd, AtUse, Passing, uses_in}
use Rattle.live_chain.specs.machine.Window.{asks_for, defines_in, flow_behind, leads_last}
use Rattle.live_chain.proofs.MoveLaws.{IsMoved, ahead, behind, get_moved, get_inside}
use Rattle.live_chain.proofs.FlowLaws.{flows_to, flows_at, flow_moved, falls_first, leads_rest, inner_first, returns_not, has_first}
use Rattle.live_chain.proofs.PassLaws.{IsAt, live_asked, live_passing, leads_end}

-- ---- what stands in a window from a place on

pub drop_parts : {X : Type 0} (xs : List X) (k : ℕ) (x : X) (rest : List X) → drop k xs ≡ x ∷ rest → (slice_get xs k ≡ Some x) × (drop (k + 1) xs ≡ rest) × (length xs ≡ k + suc (length rest))
drop_parts [] zero x rest e = absurd (omega (arith, ap length e))
drop_parts [] (suc k) x rest e = absurd (omega (arith, ap length e))
drop_parts (y ∷ xs) zero x rest e = (ap (λ l. slice_get l 0) e, ap (drop 1) e, ap length e ∙ omega arith)
drop_parts (y ∷ xs) (suc k) x rest e =
    let parts = drop_parts xs k x rest e in
    (parts.0, ap (λ n. drop n (y ∷ xs)) {x = suc k + 1} {y = suc (k + 1)} (omega arith) ∙ parts.1, omega (arith, parts.2))

pub leads_drop : (window : List Insn) (k : ℕ) → leads_last window ≡ true → leads_last (drop k window) ≡ true
leads_drop [] zero e = refl
leads_drop [] (suc k) e = refl
leads_drop (i ∷ window) zero e = e
leads_drop (i ∷ []) (suc k) e = leads_drop [] k refl
leads_drop (i ∷ j ∷ window) (suc k) e = leads_drop (j ∷ window) k (leads_rest i j window e)

flow_drop : (window : List Insn) (k : ℕ) (i : Insn) → drop k window ≡ i ∷ [] → flow_behind window ≡ flow_of i
flow_drop [] zero i e = absurd (omega (arith, ap length e))
flow_drop [] (suc k) i e = absurd (omega (arith, ap length e))
flow_drop (j ∷ window) zero i e = ap flow_behind e
flow_drop (j ∷ []) (suc k) i e = absurd (omega (arith, (drop_parts (j ∷ []) (suc k) i [] e).2))
flow_drop (j ∷ h ∷ window) (suc k) i e = flow_drop (h ∷ window) k i e

-- ---- windows

-- the register is live at one of some places
pub record IsBehind (f : Function) (reg : ℕ) (places : List ℕ) : Type 0 where
  pub place : ℕ
  pub has : has_place places place ≡ true
  pub live : IsLive f reg place

-- the window doesn't define the register, which is live behind it in both functions
pub record ArePassed (f g : Function) (reg : ℕ) (here there : List ℕ) (window : List Insn) : Type 0 where
  pub free : defines_in window reg ≡ false
  pub one : IsBehind f reg here
  pub two : IsBehind g reg there

-- the window asks for the register, or passes it
abbrev pub Carries : Function → Function → ℕ → List ℕ → List ℕ → List Insn → Type 0
Carries f g reg here there window = (asks_for window reg ≡ true) ⊎ ArePassed f g reg here there window

-- the places behind a window that begins at a place
abbrev pub places_behind : Function → ℕ → List Insn → List ℕ
places_behind f first window = flows_to f.insns (first + length window) (flow_behind window)

-- what is live at a place is so where the place moved, and within the window it is carried
pub record IsCarried (f g : Function) (front old new : List Insn) (reg p : ℕ) : Type 0 where
  pub live : IsLive f reg p
  pub out : (q : ℕ) → IsMoved (length front) (length old) (length new) p q → IsLive g reg q
  pub within : (k : ℕ) (i : Insn) (rest : List Insn) → p ≡ length front + k → drop k old ≡ i ∷ rest →
      Carries f g reg (places_behind f (length front) old) (places_behind g (length front) new) (i ∷ rest)

-- what stands in a window stands in the chain
pub stands : (insns front window back : List Insn) → insns ≡ front ++ (window ++ back) → IsAt insns (length front) window
stands insns front window back is k i e =
    ap (λ l. slice_get l (length front + k)) is ∙ (get_inside front window back k (slice_get_within window k i e) ∙ e)

uses_alike : (f g : Function) (reg : ℕ) (i : Insn) → return_uses f reg ≡ return_uses g reg → uses_in f i reg ≡ true → uses_in g i reg ≡ true
uses_alike f g reg i same u = subst (λ r. (insn_uses i reg || (is_return i && r)) ≡ true) same u

pub uses_inner : (f : Function) (reg : ℕ) (i : Insn) → is_return i ≡ false → uses_in f i reg ≡ true → insn_uses i reg ≡ true
uses_inner f reg i none u =
    elim (or_cases (insn_uses i reg) (is_return i && return_uses f reg) u) [
      | inl h ↦ h
      | inr h ↦ absurd (false≢true (sym (ap (λ b. b && return_uses f reg) none) ∙ h))
    ]

pub place_one : (p q : ℕ) → has_place (p ∷ []) q ≡ true → q ≡ p
place_one p q h =
    elim (or_cases (eqb p q) false h) [
      | inl is ↦ sym (eqb-true p q is)
      | inr never ↦ absurd (false≢true never)
    ]

module _ (f g : Function) (front old new back : List Insn) (reg : ℕ)
    (f_is : f.insns ≡ front ++ (old ++ back)) (g_is : g.insns ≡ front ++ (new ++ back))
    (old_leads : leads_last old ≡ true) (new_leads : leads_last new ≡ true) (flow : flow_behind old ≡ flow_behind new)
    (returns : return_uses f reg ≡ return_uses g reg) where
  abbrev here : List ℕ
  here = places_behind f (length front) old

  abbrev there : List ℕ
  there = places_behind g (length front) new

  abbrev Moved : ℕ → ℕ → Type 0
  Moved = IsMoved (length front) (length old) (length new)

  abbrev Carried : ℕ → Type 0
  Carried = IsCarried f g front old new reg

  stays : (p q : ℕ) (i : Insn) → Moved p q → slice_get f.insns p ≡ Some i → slice_get g.insns q ≡ Some i
  stays p q i moved at = ap (λ l. slice_get l q) g_is ∙ (sym (get_moved front old new back p q moved) ∙ (sym (ap (λ l. slice_get l p) f_is) ∙ at))

  at_end : return_uses f reg ≡ true → Carried (length f.insns)
  at_end u = record {
    live = AtEnd u;
    out = λ q moved. subst (IsLive g reg) (end q moved) (AtEnd (sym returns ∙ u));
    within = λ k i rest e d.
        let parts = drop_parts old k i rest d in
        absurd (omega (arith, e, long, parts.2));
  }
    where
      long : length f.insns ≡ length front + (length old + length back)
      long = ap length f_is ∙ (length-append front (old ++ back) ∙ ap (λ n. length front + n) (length-append old back))

      long_new : length g.insns ≡ length front + (length new + length back)
      long_new = ap length g_is ∙ (length-append front (new ++ back) ∙ ap (λ n. length front + n) (length-append new back))

      end : (q : ℕ) → Moved (length f.insns) q → length g.insns ≡ q
      end q moved = by (length f.insns) q moved refl
        where
          by : (p q : ℕ) → Moved p q → p ≡ length f.insns → length g.insns ≡ q
          by _ _ (ahead p l) e = absurd (omega (arith, l, e, long))
          by _ _ (behind k) e = omega (arith, e, long, long_new)

  at_use : (p : ℕ) (i : Insn) → slice_get f.insns p ≡ Some i → uses_in f i reg ≡ true → Carried p
  at_use p i at u = record {
    live = AtUse p i at u;
    out = λ q moved. AtUse q i (stays p q i moved at) (uses_alike f g reg i returns u);
    within = λ k j rest e d.
        let parts = drop_parts old k j rest d in
        let same : i ≡ j = same_Some i j (sym at ∙ (ap (slice_get f.insns) e ∙ stands f.insns front old back f_is k j parts.0)) in
        let inner = inner_first j rest (subst (λ l. leads_last l ≡ true) d (leads_drop old k old_leads)) in
        inl (or_left (insn_uses j reg) (not (insn_defines j reg) && asks_for rest reg) (uses_inner f reg j (returns_not j inner) (subst (λ i. uses_in f i reg ≡ true) same u)));
  }

  -- the place behind a window is one to which it leads, where the window is empty
  has_end : (h : Function) (window : List Insn) (n : ℕ) → flow_behind window ≡ Falls → n ≡ length front + length window → has_place (places_behind h (length front) window) n ≡ true
  has_end h window n falls is = subst (λ flow. has_place (flows_to h.insns (length front + length window) flow) n ≡ true) (sym falls)
      (subst (λ m. has_place (m ∷ []) n ≡ true) is (has_first n []))

  -- the window itself, from what is live at its first place
  entry : Carried (length front) → Carries f g reg here there old
  entry c = by old refl
    where
      by : (window : List Insn) → old ≡ window → Carries f g reg here there window
      by [] e =
          let none : length old ≡ 0 = ap length e in
          let at : length front ≡ length front + (length old + 0) = omega (arith, none) in
          let falls : flow_behind old ≡ Falls = ap flow_behind e in
          inr (record {
            free = refl;
            one = record { place = length front; has = has_end f old (length front) falls (omega (arith, none)); live = c.live };
            two = record {
              place = length front + (length new + 0);
              has = has_end g new (length front + (length new + 0)) (sym flow ∙ falls) (omega arith);
              live = c.out (length front + (length new + 0)) (subst (λ p. Moved p (length front + (length new + 0))) (sym at) (behind 0));
            };
          })
      by (i ∷ window) e = c.within 0 i window (omega arith) e

  module _ (cross : Carries f g reg here there old → (asks_for new reg ≡ true) ⊎ ((defines_in new reg ≡ false) × IsBehind g reg there)) where
    at_window : Carried (length front) → IsLive g reg (length front)
    at_window c =
        elim (cross (entry c)) [
          | inl asks ↦ live_asked g reg new (length front) (stands g.insns front new back g_is) new_leads asks
          | inr w ↦ live_passing g reg new (length front) w.1.place (stands g.insns front new back g_is) new_leads w.0 w.1.has w.1.live
        ]

    -- the next place is in front of the window, its first, or behind it
    next : (p q : ℕ) → Moved p q → Carried (p + 1) → IsLive g reg (q + 1)
    next _ _ (ahead p l) c =
        elim (cases_lt (p + 1) (length front)) [
          | inl l ↦ c.out (p + 1) (ahead (p + 1) l)
          | inr ge ↦
              let first : p + 1 ≡ length front = omega arith in
              subst (IsLive g reg) (sym first) (at_window (subst Carried first c))
        ]
    next _ _ (behind k) c =
        c.out (length front + (length new + k) + 1)
        (subst (λ p. Moved p (length front + (length new + k) + 1)) {x = length front + (length old + (k + 1))} {y = length front + (length old + k) + 1} (omega arith)
        (subst (λ q. Moved (length front + (length old + (k + 1))) q) {x = length front + (length new + (k + 1))} {y = length front + (length new + k) + 1} (omega arith) (behind (k + 1))))

    leads_of : (p q : ℕ) (i : Insn) → slice_get f.insns p ≡ Some i → leads f.insns p q ≡ true → has_place (flows_to (front ++ (old ++ back)) (p + 1) (flow_of i)) q ≡ true
    leads_of p q i at h = subst (λ l. has_place (flows_to l (p + 1) (flow_of i)) q ≡ true) f_is (subst (λ places. has_place places q ≡ true) (flows_at f.insns p i at) h)

    -- what is live where a place leads is so where it leads from where it moved
    after : (p r q : ℕ) (i : Insn) → Moved p r → slice_get f.insns p ≡ Some i → leads f.insns p q ≡ true → Carried q → IsLiveAfter g reg r
    after p r q i moved at h c =
        elim (flow_moved front old new back old_leads new_leads (flow_of i) (p + 1) (r + 1) q (leads_of p q i at h)) [
          | inl w ↦ (r + 1, in_g (r + 1) w.1, next p r moved (subst Carried w.0 c))
          | inr w ↦ (w.0, in_g w.0 w.2, c.out w.0 w.1)
        ]
      where
        in_g : (n : ℕ) → has_place (flows_to (front ++ (new ++ back)) (r + 1) (flow_of i)) n ≡ true → leads g.insns r n ≡ true
        in_g n has = leads_end g.insns r n i (stays p r i moved at) (subst (λ l. has_place (flows_to l (r + 1) (flow_of i)) n ≡ true) (sym g_is) has)

    passing : (p q : ℕ) (i : Insn) → slice_get f.insns p ≡ Some i → insn_defines i reg ≡ false → leads f.insns p q ≡ true → Carried q → Carried p
    passing p q i at free h c = record {
      live = Passing p q i at free h c.live;
      out = out;
      within = within;
    }
      where
        out : (r : ℕ) → Moved p r → IsLive g reg r
        out r moved =
            let live = after p r q i moved at h c in
            Passing r live.0 i (stays p r i moved at) free live.1 live.2

        -- the last of the window leads out of it
        last : (k : ℕ) (j : Insn) → p ≡ length front + k → drop k old ≡ j ∷ [] → i ≡ j → ArePassed f g reg here there (j ∷ [])
        last k j e d same = record {
          free = or_from (insn_defines j reg) false (subst (λ i. insn_defines i reg ≡ false) same free) refl;
          one = record { place = q; has = subst (λ n. has_place (flows_to f.insns n (flow_behind old)) q ≡ true) end (subst (λ flow. has_place (flows_to f.insns (p + 1) flow) q ≡ true) flows (subst (λ places. has_place places q ≡ true) (flows_at f.insns p i at) h)); live = c.live };
          two = elim (flow_moved front old new back old_leads new_leads (flow_of i) (p + 1) (length front + length new) q (leads_of p q i at h)) [
            | inl w ↦ record { place = length front + length new; has = in_g (length front + length new) w.1; live = c.out (length front + length new) (behind_last w.0) }
            | inr w ↦ record { place = w.0; has = in_g w.0 w.2; live = c.out w.0 w.1 }
          ];
        }
          where
            end : p + 1 ≡ length front + length old
            end = omega (arith, e, (drop_parts old k j [] d).2)

            flows : flow_of i ≡ flow_behind old
            flows = ap flow_of same ∙ sym (flow_drop old k j d)

            in_g : (n : ℕ) → has_place (flows_to (front ++ (new ++ back)) (length front + length new) (flow_of i)) n ≡ true → has_place there n ≡ true
            in_g n h = subst (λ flow. has_place (flows_to g.insns (length front + length new) flow) n ≡ true) (flows ∙ flow) (subst (λ l. has_place (flows_to l (length front + length new) (flow_of i)) n ≡ true) (sym g_is) h)

            behind_last : q ≡ p + 1 → Moved q (length front + length new)
            behind_last is =
                subst (λ q. Moved q (length front + length new)) {x = length front + (length old + 0)} {y = q} (omega (arith, is, end))
                (subst (λ r. Moved (length front + (length old + 0)) r) {x = length front + (length new + 0)} {y = length front + length new} (omega arith) (behind 0))

        within : (k : ℕ) (j : Insn) (rest : List Insn) → p ≡ length front + k → drop k old ≡ j ∷ rest → Carries f g reg here there (j ∷ rest)
        within k j rest e d =
            let parts = drop_parts old k j rest d in
            let same : i ≡ j = same_Some i j (sym at ∙ (ap (slice_get f.insns) e ∙ stands f.insns front old back f_is k j parts.0)) in
            by rest refl parts.1 same
          where
            by : (after : List Insn) → rest ≡ after → drop (k + 1) old ≡ rest → i ≡ j → Carries f g reg here there (j ∷ after)
            by [] none d_rest same = inr (last k j e (d ∙ ap (λ l. j ∷ l) none) same)
            by (m ∷ after) some d_rest same =
                let leading : leads_last (j ∷ m ∷ after) ≡ true = subst (λ l. leads_last l ≡ true) (d ∙ ap (λ l. j ∷ l) some) (leads_drop old k old_leads) in
                let falls : flow_of i ≡ Falls = ap flow_of same ∙ falls_first j m after leading in
                let on : has_place ((p + 1) ∷ []) q ≡ true = subst (λ flow. has_place (flows_to (front ++ (old ++ back)) (p + 1) flow) q ≡ true) falls (leads_of p q i at h) in
                let is : q ≡ p + 1 = place_one (p + 1) q on in
                let free_j : insn_defines j reg ≡ false = subst (λ i. insn_defines i reg ≡ false) same free in
                elim (c.within (k + 1) m after (omega (arith, is, e)) (d_rest ∙ some)) [
                  | inl asks ↦ inl (or_right (insn_uses j reg) (not (insn_defines j reg) && asks_for (m ∷ after) reg) (and_from (not (insn_defines j reg)) (asks_for (m ∷ after) reg) (ap not free_j) asks))
                  | inr w ↦ inr (record { free = or_from (insn_defines j reg) (defines_in (m ∷ after) reg) free_j w.free; one = w.one; two = w.two })
                ]

    -- what is live in the one function is carried to the other
    pub carried : (p : ℕ) → IsLive f reg p → IsCarried f g front old new reg p
    carried p (AtEnd u) = at_end u
    carried p (AtUse _ i at u) = at_use p i at u
    carried p (Passing _ q i at free h rest) = passing p q i at free h (carried q rest)

    -- what is live after a place is so after where it moved
    pub after_moved : (p r : ℕ) → Moved p r → IsLiveAfter f reg p → IsLiveAfter g reg r
    after_moved p r moved live = by (slice_get f.insns p) refl
      where
        by : (o : Option Insn) → slice_get f.insns p ≡ o → IsLiveAfter g reg r
        by (Some i) at = after p r live.0 i moved at live.1 (carried live.0 live.2)
        by None none = absurd (false≢true (subst (λ o. has_place (successors_by f.insns p o) live.0 ≡ true) none live.1))

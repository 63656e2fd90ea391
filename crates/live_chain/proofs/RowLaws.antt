-- The rows of a function with others in the place of a window, where the windows are the same from outside: those outside are as they
-- were, and those inside follow from what is live behind.
use Rattle.std.proofs.Common.{◌≡◌, ◌↔◌, ℕ, zero, suc, ◌+◌, ◌-◌, ◌<◌, ◌≤◌, ◌^◌, Bool, true, false, ◌||◌, ◌&&◌, not, List, [], ◌∷◌, ◌++◌, length, take, drop, Some, inl, inr, ◌⊎◌, refl, sym, ap, subst, ◌∙◌, arith, length-append, length-drop, eqb}
use Rattle.std.specs.Prelude.{slice_get, slice_range, is_some}
use Rattle.std.specs.List.{list_any}
use Rattle.std.proofs.lemmas.Bool.{or_cases, or_left, or_right, and_from, and_parts}
use Rattle.std.proofs.lemmas.List.{length-take-le}
use Rattle.std.proofs.lemmas.List.Folds.{list_any-append}
use Rattle.rtx_tree.specs.declared.function.Insn.{Insn}
use Rattle.rtx_tree.specs.declared.function.Function.{Function}
use Rattle.rtx_tree.specs.RegSet.{has_reg}
use Rattle.rv_regs.specs.Registers.{kept_registers}
use Rattle.reg_rows.specs.Table.{has_at, at_row}
use Rattle.reg_uses.specs.Uses.{insn_sets, return_uses, function_sets, is_result}
use Rattle.rtl_func.specs.Successors.{flow_of}
use Rattle.rtl_func.specs.Paths.{has_place, leads}
use Rattle.live.specs.Live.{IsLive, IsLiveAfter, AreLiveRows}
use Rattle.new_insns.specs.Replaced.{window, replaced}
use Rattle.std.proofs.lemmas.List.Elements.{All-append, All-take, All-drop}
use Rattle.live_chain.specs.Narrow.{AreNarrow}
use Rattle.live_chain.specs.Stays.{StaysBefore}
use Rattle.live_chain.specs.machine.Window.{asks_for, defines_in, sets_in, flow_behind, AreSameOutside, is_live_before, AreRowsOf}
use Rattle.live_chain.proofs.NumberLaws.{window_parts}
use Rattle.live_chain.proofs.MoveLaws.{IsMoved, IsMoved-back, ahead, behind, get_moved, get_inside, place_cases}
use Rattle.live_chain.proofs.FlowLaws.{flows_to, flows_at, flow_moved}
use Rattle.live_chain.proofs.PassLaws.{IsAt, live_asked, live_passing, not_true}
use Rattle.live_chain.proofs.CrossLaws.{IsBehind, Carries, IsCarried, carried, after_moved, places_behind, stands, leads_drop}

-- ---- what a return uses

any_parts : {X : Type 0} (p : X → Bool) (front window back : List X) → list_any p (front ++ (window ++ back)) ≡ (list_any p front || (list_any p window || list_any p back))
any_parts p front window back = list_any-append p front (window ++ back) ∙ ap (λ b. list_any p front || b) (list_any-append p window back)

returns_alike : (f g : Function) (front old new back : List Insn) (reg : ℕ) → f.insns ≡ front ++ (old ++ back) → g.insns ≡ front ++ (new ++ back) → f.result ≡ g.result →
    (has_reg kept_registers reg ≡ true → sets_in old reg ≡ sets_in new reg) → return_uses f reg ≡ return_uses g reg
returns_alike f g front old new back reg f_is g_is result sets =
    ap (λ r. (is_some r && eqb reg 10) || (has_reg kept_registers reg && function_sets f reg)) result ∙ by (has_reg kept_registers reg) refl
  where
    same_sets : has_reg kept_registers reg ≡ true → function_sets f reg ≡ function_sets g reg
    same_sets kept =
        (ap (list_any (insn_sets reg)) f_is ∙ any_parts (insn_sets reg) front old back) ∙
        (ap (λ b. list_any (insn_sets reg) front || (b || list_any (insn_sets reg) back)) (sets kept) ∙
        sym (ap (list_any (insn_sets reg)) g_is ∙ any_parts (insn_sets reg) front new back))

    by : (kept : Bool) → has_reg kept_registers reg ≡ kept → (is_result g reg || (has_reg kept_registers reg && function_sets f reg)) ≡ return_uses g reg
    by true is = ap (λ b. is_result g reg || (has_reg kept_registers reg && b)) (same_sets is)
    by false is = ap (λ b. is_result g reg || (b && function_sets f reg)) is ∙ sym (ap (λ b. is_result g reg || (b && function_sets g reg)) is)

-- ---- the last of a window

pub drop_at : {X : Type 0} (xs : List X) (k : ℕ) → k < length xs → (x : X) × (rest : List X) × (drop k xs ≡ x ∷ rest)
drop_at [] k l = absurd (omega arith)
drop_at (x ∷ xs) zero l = (x, xs, refl)
drop_at (x ∷ xs) (suc k) l = drop_at xs k (omega arith)

pub get_dropped : {X : Type 0} (xs : List X) (k n : ℕ) → slice_get (drop k xs) n ≡ slice_get xs (k + n)
get_dropped xs zero n = ap (slice_get xs) (omega arith)
get_dropped [] (suc k) n = refl
get_dropped (x ∷ xs) (suc k) n = get_dropped xs k n ∙ ap (slice_get (x ∷ xs)) {x = suc (k + n)} {y = suc k + n} (omega arith)

moved_same : {a b c d e h p q : ℕ} → a ≡ d → b ≡ e → c ≡ h → IsMoved a b c p q → IsMoved d e h p q
moved_same {a} {b} {c} {d} {e} {h} {p} {q} i j k moved = subst (λ n. IsMoved d e n p q) k (subst (λ n. IsMoved d n c p q) j (subst (λ n. IsMoved n b c p q) i moved))

pub last_of : (window : List Insn) → 0 < length window → (i : Insn) × (slice_get window (length window - 1) ≡ Some i) × (flow_behind window ≡ flow_of i)
last_of [] l = absurd (omega arith)
last_of (i ∷ []) l = (i, refl, refl)
last_of (i ∷ j ∷ window) l =
    let rest = last_of (j ∷ window) (omega arith) in
    (rest.0, ap (slice_get (i ∷ j ∷ window)) {x = length (i ∷ j ∷ window) - 1} {y = suc (length (j ∷ window) - 1)} (omega arith) ∙ rest.1, rest.2)

pub flow_from : (window : List Insn) (k : ℕ) → k < length window → flow_behind (drop k window) ≡ flow_behind window
flow_from [] k l = absurd (omega arith)
flow_from (i ∷ window) zero l = refl
flow_from (i ∷ []) (suc k) l = absurd (omega arith)
flow_from (i ∷ j ∷ window) (suc k) l = flow_from (j ∷ window) k (omega arith)

module _ (f : Function) (first end : ℕ) (new : List Insn) (rows within : List (List ℕ)) (live_behind : ℕ → Bool)
    (order : first < end) (fits : end ≤ length f.insns) (exact : AreLiveRows f rows)
    (is_behind : (reg : ℕ) → (live_behind reg ≡ true) ↔ IsLiveAfter f reg (end - 1))
    (alike : AreSameOutside (window f first end) new live_behind) (rows_of : AreRowsOf new live_behind within) (narrow : AreNarrow within) where
  abbrev g : Function
  g = replaced f first end new

  abbrev front : List Insn
  front = take first f.insns

  abbrev old : List Insn
  old = window f first end

  abbrev back : List Insn
  back = drop end f.insns

  abbrev new_rows : List (List ℕ)
  new_rows = take first rows ++ (within ++ drop end rows)

  abbrev Moved : ℕ → ℕ → Type 0
  Moved = IsMoved (length front) (length old) (length new)

  -- the places behind the windows
  abbrev here : List ℕ
  here = places_behind f (length front) old

  abbrev there : List ℕ
  there = places_behind g (length front) new

  f_is : f.insns ≡ front ++ (old ++ back)
  f_is = window_parts f.insns first end (omega (arith, order))

  long_front : length front ≡ first
  long_front = length-take-le first f.insns (omega (arith, order, fits))

  long_old : length old ≡ end - first
  long_old = length-take-le (end - first) (drop first f.insns) (omega (arith, order, fits, length-drop first f.insns))

  returns : (reg : ℕ) → return_uses f reg ≡ return_uses g reg
  returns reg = returns_alike f g front old new back reg f_is refl refl (alike.ends.sets reg)

  -- what is live behind the window
  leads_behind : (q : ℕ) → leads f.insns (end - 1) q ≡ has_place here q
  leads_behind q =
      let last = last_of old (omega (arith, order, long_old)) in
      let stands_there = stands f.insns front old back f_is (length old - 1) last.0 last.1 in
      let at : slice_get f.insns (end - 1) ≡ Some last.0 = subst (λ n. slice_get f.insns n ≡ Some last.0) {x = length front + (length old - 1)} {y = end - 1} (omega (arith, order, long_front, long_old)) stands_there in
      ap (λ places. has_place places q) (flows_at f.insns (end - 1) last.0 at ∙
      (ap (flows_to f.insns (end - 1 + 1)) (sym last.2) ∙
      ap (λ n. flows_to f.insns n (flow_behind old)) {x = end - 1 + 1} {y = length front + length old} (omega (arith, order, long_front, long_old))))

  to_behind : (reg : ℕ) → live_behind reg ≡ true → IsBehind f reg here
  to_behind reg h = let live = (is_behind reg).0 h in record { place = live.0; has = sym (leads_behind live.0) ∙ live.1; live = live.2 }

  from_behind : (reg : ℕ) → IsBehind f reg here → live_behind reg ≡ true
  from_behind reg b = (is_behind reg).1 (b.place, leads_behind b.place ∙ b.has, b.live)

  -- a register that one window asks for the other does too; one that it passes, the other passes
  forth : (reg : ℕ) →
      Carries f g reg here there old →
      (asks_for new reg ≡ true) ⊎ ((defines_in new reg ≡ false) × IsBehind g reg there)
  forth reg (inl asks) = inl (sym ((alike.demands reg).asks) ∙ asks)
  forth reg (inr w) = by (asks_for old reg) refl
    where
      by : (asks : Bool) → asks_for old reg ≡ asks → (asks_for new reg ≡ true) ⊎ ((defines_in new reg ≡ false) × IsBehind g reg there)
      by true is = inl (sym ((alike.demands reg).asks) ∙ is)
      by false is = inr (sym ((alike.demands reg).defines is (from_behind reg w.one)) ∙ w.free, w.two)

  forth_live : (reg p : ℕ) → IsLive f reg p → IsCarried f g front old new reg p
  forth_live reg = carried f g front old new back reg f_is refl alike.ends.old_leads alike.ends.new_leads alike.ends.flow (returns reg) (forth reg)

  back_again : (reg : ℕ) →
      Carries g f reg there here new →
      (asks_for old reg ≡ true) ⊎ ((defines_in old reg ≡ false) × IsBehind f reg here)
  back_again reg (inl asks) = inl ((alike.demands reg).asks ∙ asks)
  back_again reg (inr w) = by (asks_for old reg) refl
    where
      by : (asks : Bool) → asks_for old reg ≡ asks → (asks_for old reg ≡ true) ⊎ ((defines_in old reg ≡ false) × IsBehind f reg here)
      by true is = inl is
      by false is = inr ((alike.demands reg).defines is (from_behind reg w.two) ∙ w.free, w.two)

  back_live : (reg p : ℕ) → IsLive g reg p → IsCarried g f front new old reg p
  back_live reg = carried g f front new old back reg refl f_is alike.ends.new_leads alike.ends.old_leads (sym alike.ends.flow) (sym (returns reg)) (back_again reg)

  -- what is live after the places in front of the window stays
  pub stays_before : StaysBefore f (replaced f first end new) first
  stays_before p reg l = (
    after_moved f g front old new back reg f_is refl alike.ends.old_leads alike.ends.new_leads alike.ends.flow (returns reg) (forth reg) p p (ahead p (omega (arith, l, long_front))),
    after_moved g f front new old back reg refl f_is alike.ends.new_leads alike.ends.old_leads (sym alike.ends.flow) (sym (returns reg)) (back_again reg) p p (ahead p (omega (arith, l, long_front))),
  )

  -- ---- rows

  long_rows : length (take first rows) ≡ length front
  long_rows = length-take-le first rows (omega (arith, order, fits, exact.long)) ∙ sym long_front

  long_between : length (slice_range rows first end) ≡ length old
  long_between = length-take-le (end - first) (drop first rows) (omega (arith, order, fits, exact.long, length-drop first rows)) ∙ sym long_old

  -- outside the window the rows are as they were
  row_moved : (p q reg : ℕ) → Moved p q → has_at rows p reg ≡ has_at new_rows q reg
  row_moved p q reg moved =
      ap (λ o. at_row o reg)
      (ap (λ l. slice_get l p) (window_parts rows first end (omega (arith, order))) ∙
      get_moved (take first rows) (slice_range rows first end) within (drop end rows) p q (moved_same (sym long_rows) (sym long_between) (sym rows_of.long) moved))

  row_inside : (k reg : ℕ) → k < length new → has_at new_rows (length front + k) reg ≡ is_live_before (drop k new) live_behind reg
  row_inside k reg l =
      ap (λ o. at_row o reg)
      (ap (λ n. slice_get new_rows (n + k)) (sym long_rows) ∙
      get_inside (take first rows) within (drop end rows) k (omega (arith, l, rows_of.long))) ∙
      rows_of.each k reg l

  -- what is live behind the window is so behind the other
  across : (reg : ℕ) → IsBehind f reg here → IsBehind g reg there
  across reg b =
      elim (flow_moved front old new back alike.ends.old_leads alike.ends.new_leads (flow_behind old)
      (length front + length old) (length front + length new) b.place
      (subst (λ l. has_place (flows_to l (length front + length old) (flow_behind old)) b.place ≡ true) f_is b.has)) [
        | inl w ↦ record {
          place = length front + length new;
          has = in_g (length front + length new) w.1;
          live = (forth_live reg b.place b.live).out (length front + length new) (end_moved b.place w.0);
        }
        | inr w ↦ record { place = w.0; has = in_g w.0 w.2; live = (forth_live reg b.place b.live).out w.0 w.1 }
      ]
    where
      in_g : (n : ℕ) → has_place (flows_to (front ++ (new ++ back)) (length front + length new) (flow_behind old)) n ≡ true →
          has_place there n ≡ true
      in_g n h = subst (λ flow. has_place (flows_to (front ++ (new ++ back)) (length front + length new) flow) n ≡ true) alike.ends.flow h

      end_moved : (q : ℕ) → q ≡ length front + length old → Moved q (length front + length new)
      end_moved q is =
          subst (λ q. Moved q (length front + length new)) {x = length front + (length old + 0)} {y = q} (omega (arith, is))
          (subst (λ r. Moved (length front + (length old + 0)) r) {x = length front + (length new + 0)} {y = length front + length new} (omega arith) (behind 0))

  -- the new window from a place on stands there
  stands_from : (k : ℕ) → k < length new → IsAt g.insns (length front + k) (drop k new)
  stands_from k l n i e =
      subst (λ m. slice_get (front ++ (new ++ back)) m ≡ Some i) {x = length front + (k + n)} {y = length front + k + n} (omega arith)
      (stands g.insns front new back refl (k + n) i (sym (get_dropped new k n) ∙ e))

  sound_inside : (k reg : ℕ) → k < length new → is_live_before (drop k new) live_behind reg ≡ true → IsLive g reg (length front + k)
  sound_inside k reg l h =
      elim (or_cases (asks_for (drop k new) reg) (not (defines_in (drop k new) reg) && live_behind reg) h) [
        | inl asks ↦ live_asked g reg (drop k new) (length front + k) (stands_from k l) (leads_drop new k alike.ends.new_leads) asks
        | inr w ↦
            let both = and_parts (not (defines_in (drop k new) reg)) (live_behind reg) w in
            let b = across reg (to_behind reg both.1) in
            live_passing g reg (drop k new) (length front + k) b.place (stands_from k l) (leads_drop new k alike.ends.new_leads) (not_true (defines_in (drop k new) reg) both.0)
            (subst (λ flow. has_place (flows_to g.insns (length front + k + length (drop k new)) flow) b.place ≡ true) (sym (flow_from new k l))
            (subst (λ n. has_place (flows_to g.insns n (flow_behind new)) b.place ≡ true) {x = length front + length new} {y = length front + k + length (drop k new)} (omega (arith, l, length-drop k new)) b.has))
            b.live
      ]

  complete_inside : (k reg : ℕ) → k < length new → IsCarried g f front new old reg (length front + k) → is_live_before (drop k new) live_behind reg ≡ true
  complete_inside k reg l c =
      let at = drop_at new k l in
      subst (λ w. is_live_before w live_behind reg ≡ true) (sym at.2)
      (elim (c.within k at.0 at.1 refl at.2) [
        | inl asks ↦ or_left (asks_for (at.0 ∷ at.1) reg) (not (defines_in (at.0 ∷ at.1) reg) && live_behind reg) asks
        | inr w ↦ or_right (asks_for (at.0 ∷ at.1) reg) (not (defines_in (at.0 ∷ at.1) reg) && live_behind reg) (and_from (not (defines_in (at.0 ∷ at.1) reg)) (live_behind reg) (ap not w.free) (from_behind reg w.two))
      ])

  sound : (p reg : ℕ) → has_at new_rows p reg ≡ true → IsLive g reg p
  sound p reg h =
      elim (place_cases (length front) (length new) p) [
        | inl l ↦ let moved = ahead p l in (forth_live reg p (exact.sound p reg (row_moved p p reg moved ∙ h))).out p moved
        | inr (inl w) ↦
            subst (IsLive g reg) (sym w.2)
            (sound_inside w.0 reg w.1 (sym (row_inside w.0 reg w.1) ∙ subst (λ p. has_at new_rows p reg ≡ true) w.2 h))
        | inr (inr w) ↦
            let was = length front + (length old + w.0) in
            let moved = subst (λ q. Moved was q) (sym w.1) (behind w.0) in
            (forth_live reg was (exact.sound was reg (row_moved was p reg moved ∙ h))).out p moved
      ]

  complete : (p reg : ℕ) → IsLive g reg p → has_at new_rows p reg ≡ true
  complete p reg live =
      let c = back_live reg p live in
      elim (place_cases (length front) (length new) p) [
        | inl l ↦ sym (row_moved p p reg (ahead p l)) ∙ exact.complete p reg (c.out p (ahead p l))
        | inr (inl w) ↦
            subst (λ p. has_at new_rows p reg ≡ true) (sym w.2)
            (row_inside w.0 reg w.1 ∙ complete_inside w.0 reg w.1 (subst (IsCarried g f front new old reg) w.2 c))
        | inr (inr w) ↦
            let was = length front + (length old + w.0) in
            let moved = subst (λ q. Moved was q) (sym w.1) (behind w.0) in
            sym (row_moved was p reg moved) ∙ exact.complete was reg (c.out was (IsMoved-back (length front) (length old) (length new) was p moved))
      ]

  pub rows_exact : AreLiveRows (replaced f first end new) (take first rows ++ (within ++ drop end rows))
  rows_exact = record {
    long = omega (
      arith,
      order,
      fits,
      exact.long,
      rows_of.long,
      long_rows,
      long_front,
      length-append (take first rows) (within ++ drop end rows),
      length-append within (drop end rows),
      length-drop end rows,
      length-append front (new ++ back),
      length-append new back,
      length-drop end f.insns,
    );
    narrow = All-append (λ row. length row ≤ 2 ^ 26) (take first rows) (within ++ drop end rows) (All-take (λ row. length row ≤ 2 ^ 26) first rows exact.narrow)
        (All-append (λ row. length row ≤ 2 ^ 26) within (drop end rows) narrow (All-drop (λ row. length row ≤ 2 ^ 26) end rows exact.narrow));
    sound = sound;
    complete = complete;
  }

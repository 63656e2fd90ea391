-- Windows with what stands behind them: what it asks for is live in front of it, whichever of two windows stands there.
use Rattle.std.proofs.Common.{◌≡◌, ◌↔◌, ℕ, zero, suc, ◌+◌, ◌-◌, ◌<◌, ◌≤◌, ◌^◌, Bool, true, false, ◌||◌, ◌&&◌, not, List, [], ◌∷◌, ◌++◌, length, take, drop, drop-drop, append-nil, append_assoc, Some, inl, inr, ◌⊎◌, refl, sym, ap, subst, ◌∙◌, eqb, arith}
use Rattle.std.specs.Prelude.{slice_get, slice_range}
use Rattle.std.specs.List.{list_any, list_all}
use Rattle.std.proofs.lemmas.Bool.{or_cases, or_left, or_right, and_from, and_parts, eqb-true, false≢true, cases_lt}
use Rattle.std.proofs.lemmas.List.{length-append, length-drop, length-take-le, take-append-drop}
use Rattle.std.proofs.lemmas.List.Elements.{All-append, All-take, All-drop}
use Rattle.std.proofs.lemmas.List.Folds.{list_any-append, list_all-append}
use Rattle.std.proofs.lemmas.Option.{same_Some, slice_get_within}
use Rattle.rtx_tree.specs.declared.function.Insn.{Insn}
use Rattle.rtx_tree.specs.declared.function.Function.{Function}
use Rattle.rtx_tree.specs.RegSet.{has_reg}
use Rattle.reg_rows.specs.Table.{has_at, at_row}
use Rattle.reg_uses.specs.Uses.{insn_uses, insn_defines, insn_sets, is_return, return_uses}
use Rattle.rtl_func.specs.declared.flow.Flow.{Flow}
use Rattle.rtl_func.specs.Successors.{flow_of}
use Rattle.rtl_func.specs.Paths.{has_place, leads}
use Rattle.live.specs.Live.{IsLive, AtEnd, AtUse, Passing, IsLiveAfter, AreLiveRows, uses_in}
use Rattle.new_insns.specs.Replaced.{window, replaced}
use Rattle.live_chain.specs.declared.kept.WindowRows.{WindowRows}
use Rattle.live_chain.specs.Stays.{StaysBefore}
use Rattle.live_chain.specs.Rows.{AreRowsFor}
use Rattle.live_chain.specs.machine.Window.{asks_for, defines_in, names_in, flow_behind, is_inner, leads_last, passes, is_live_before, is_settled, IsAlike, AreLikeEnds, AreRowsOf, AreInside, AreFound}
use Rattle.live_chain.proofs.MoveLaws.{get_ahead, get_from}
use Rattle.live_chain.proofs.FlowLaws.{flows_to, flows_at, falls_first, leads_rest, inner_first, not_false, returns_not, has_first}
use Rattle.live_chain.proofs.PassLaws.{IsAt, at_first, at_rest, leads_end}
use Rattle.live_chain.proofs.CrossLaws.{uses_inner, place_one, leads_drop}
use Rattle.live_chain.proofs.RowLaws.{get_dropped, flow_from}
use Rattle.live_chain.proofs.WideLaws.{alike_behind, named_behind, leads_wide, flow_wide, range_parts, range_step, wide_rows, wide_stays}

-- ---- what two windows ask for and define, one behind the other

more_live : (u d a s b : Bool) → (u || (not d && (a || (not s && b)))) ≡ ((u || (not d && a)) || (not (d || s) && b))
more_live true d a s b = refl
more_live false true a s b = refl
more_live false false a s b = refl

asks-append : (w t : List Insn) (reg : ℕ) → asks_for (w ++ t) reg ≡ (asks_for w reg || (not (defines_in w reg) && asks_for t reg))
asks-append [] t reg = refl
asks-append (i ∷ w) t reg =
    ap (λ b. insn_uses i reg || (not (insn_defines i reg) && b)) (asks-append w t reg) ∙
    more_live (insn_uses i reg) (insn_defines i reg) (asks_for w reg) (defines_in w reg) (asks_for t reg)

defines-append : (w t : List Insn) (reg : ℕ) → defines_in (w ++ t) reg ≡ (defines_in w reg || defines_in t reg)
defines-append w t reg = list_any-append (λ i. insn_defines i reg) w t

live_first : (i : Insn) (w : List Insn) (behind : ℕ → Bool) (reg : ℕ) → is_live_before (i ∷ w) behind reg ≡ (insn_uses i reg || (not (insn_defines i reg) && is_live_before w behind reg))
live_first i w behind reg = sym (more_live (insn_uses i reg) (insn_defines i reg) (asks_for w reg) (defines_in w reg) (behind reg))

live-append : (w t : List Insn) (behind : ℕ → Bool) (reg : ℕ) → is_live_before (w ++ t) behind reg ≡ is_live_before w (is_live_before t behind) reg
live-append [] t behind reg = refl
live-append (i ∷ w) t behind reg =
    live_first i (w ++ t) behind reg ∙
    (ap (λ b. insn_uses i reg || (not (insn_defines i reg) && b)) (live-append w t behind reg) ∙ sym (live_first i w (is_live_before t behind) reg))

-- ---- windows that are alike stay so with what stands behind both

asked_alike : (a b d e t l : Bool) → a ≡ b → (a ≡ false → (t || l) ≡ true → d ≡ e) → (a || (not d && t)) ≡ (b || (not e && t))
asked_alike true true d e t l same defines = refl
asked_alike true false d e t l same defines = absurd (false≢true (sym same))
asked_alike false true d e t l same defines = absurd (false≢true same)
asked_alike false false d e true l same defines = ap (λ b. not b && true) (defines refl refl)
asked_alike false false true true false l same defines = refl
asked_alike false false true false false l same defines = refl
asked_alike false false false true false l same defines = refl
asked_alike false false false false false l same defines = refl

defined_alike : (a d e t u l : Bool) → (a ≡ false → (t || (not u && l)) ≡ true → d ≡ e) → (a || (not d && t)) ≡ false → l ≡ true → (d || u) ≡ (e || u)
defined_alike true d e t u l defines none live = absurd (false≢true (sym none))
defined_alike false d e true u l defines none live = ap (λ b. b || u) (defines refl refl)
defined_alike false d e false false l defines none live = ap (λ b. b || false) (defines refl live)
defined_alike false true true false true l defines none live = refl
defined_alike false true false false true l defines none live = refl
defined_alike false false true false true l defines none live = refl
defined_alike false false false false true l defines none live = refl

module _ (old new tail : List Insn) (beyond : ℕ → Bool) (reg : ℕ) where
  alike_ahead : (behind : ℕ → Bool) → behind reg ≡ is_live_before tail beyond reg → IsAlike old new behind reg → IsAlike (old ++ tail) (new ++ tail) beyond reg
  alike_ahead behind is alike = record {
    asks = asks-append old tail reg ∙ (asked_alike (asks_for old reg) (asks_for new reg) (defines_in old reg) (defines_in new reg) (asks_for tail reg) (not (defines_in tail reg) && beyond reg) alike.asks shown ∙ sym (asks-append new tail reg));
    defines = λ none live.
        defines-append old tail reg ∙
        (defined_alike (asks_for old reg) (defines_in old reg) (defines_in new reg) (asks_for tail reg) (defines_in tail reg) (beyond reg) shown (sym (asks-append old tail reg) ∙ none) live ∙
        sym (defines-append new tail reg));
  }
    where
      shown : asks_for old reg ≡ false → is_live_before tail beyond reg ≡ true → defines_in old reg ≡ defines_in new reg
      shown none live = alike.defines none (is ∙ live)

  settled_ahead : is_settled old new tail reg ≡ true → IsAlike (old ++ tail) (new ++ tail) beyond reg
  settled_ahead settled =
      let one = and_parts (not (defines_in old reg)) (not (defines_in new reg) && asks_for tail reg) settled in
      let two = and_parts (not (defines_in new reg)) (asks_for tail reg) one.1 in
      let was : asks_for (old ++ tail) reg ≡ true = asks-append old tail reg ∙ or_right (asks_for old reg) (not (defines_in old reg) && asks_for tail reg) (and_from (not (defines_in old reg)) (asks_for tail reg) one.0 two.1) in
      let is : asks_for (new ++ tail) reg ≡ true = asks-append new tail reg ∙ or_right (asks_for new reg) (not (defines_in new reg) && asks_for tail reg) (and_from (not (defines_in new reg)) (asks_for tail reg) two.0 two.1) in
      record {
        asks = was ∙ sym is;
        defines = λ none live. absurd (false≢true (sym none ∙ was));
      }

-- ---- rows of what leads on

same_bool : (a b : Bool) → (a ≡ true → b ≡ true) → (b ≡ true → a ≡ true) → a ≡ b
same_bool true true e f = refl
same_bool true false e f = absurd (false≢true (e refl))
same_bool false true e f = absurd (false≢true (f refl))
same_bool false false e f = refl

or_none : (b : Bool) → (b || false) ≡ b
or_none true = refl
or_none false = refl

any_found : (P : ℕ → Bool) (places : List ℕ) → list_any P places ≡ true → (q : ℕ) × (has_place places q ≡ true) × (P q ≡ true)
any_found P [] h = absurd (false≢true h)
any_found P (p ∷ places) h =
    elim (or_cases (P p) (list_any P places) h) [
      | inl here ↦ (p, has_first p places, here)
      | inr more ↦
          let found = any_found P places more in
          (found.0, or_right (eqb p found.0) (has_place places found.0) found.1, found.2)
    ]

any_has : (P : ℕ → Bool) (places : List ℕ) (q : ℕ) → has_place places q ≡ true → P q ≡ true → list_any P places ≡ true
any_has P [] q h e = absurd (false≢true h)
any_has P (p ∷ places) q h e =
    elim (or_cases (eqb p q) (has_place places q) h) [
      | inl is ↦ or_left (P p) (list_any P places) (subst (λ n. P n ≡ true) (sym (eqb-true p q is)) e)
      | inr more ↦ or_right (P p) (list_any P places) (any_has P places q more e)
    ]

-- where the last of several leads
last_leads : (insns : List Insn) (p last q : ℕ) (i : Insn) (w : List Insn) → IsAt insns p (i ∷ w) → last ≡ p + length w →
    leads insns last q ≡ has_place (flows_to insns (last + 1) (flow_behind (i ∷ w))) q
last_leads insns p last q i [] at is =
    ap (λ places. has_place places q) (flows_at insns last i (subst (λ n. slice_get insns n ≡ Some i) {x = p} {y = last} (omega (arith, is)) (at_first insns p i [] at)))
last_leads insns p last q i (j ∷ w) at is = last_leads insns (p + 1) last q j w (at_rest insns p i (j ∷ w) at) (omega (arith, is))

-- the row of a place to which a flow leads has the register, where the next place is this
abbrev beyond_at : Function → List (List ℕ) → ℕ → Flow → ℕ → Bool
beyond_at f rows next flow reg = list_any (λ q. has_at rows q reg) (flows_to f.insns next flow)

module _ (f : Function) (rows : List (List ℕ)) (exact : AreLiveRows f rows) where
  live_step : (p reg : ℕ) (i : Insn) → slice_get f.insns p ≡ Some i → is_inner i ≡ true → (q : ℕ) → IsLive f reg q → q ≡ p →
      (insn_uses i reg || (not (insn_defines i reg) && beyond_at f rows (p + 1) (flow_of i) reg)) ≡ true
  live_step p reg i at inner _ (AtEnd u) is = absurd (omega (arith, is, slice_get_within f.insns p i at))
  live_step p reg i at inner _ (AtUse q j there u) is =
      let same : j ≡ i = same_Some j i (sym there ∙ (ap (slice_get f.insns) is ∙ at)) in
      or_left (insn_uses i reg) (not (insn_defines i reg) && beyond_at f rows (p + 1) (flow_of i) reg)
      (uses_inner f reg i (returns_not i inner) (subst (λ j. uses_in f j reg ≡ true) same u))
  live_step p reg i at inner _ (Passing q r j there free to live) is =
      let same : j ≡ i = same_Some j i (sym there ∙ (ap (slice_get f.insns) is ∙ at)) in
      let here : has_place (flows_to f.insns (p + 1) (flow_of i)) r ≡ true =
      sym (ap (λ places. has_place places r) (flows_at f.insns p i at)) ∙ subst (λ n. leads f.insns n r ≡ true) is to in
      or_right (insn_uses i reg) (not (insn_defines i reg) && beyond_at f rows (p + 1) (flow_of i) reg)
      (and_from (not (insn_defines i reg)) (beyond_at f rows (p + 1) (flow_of i) reg) (ap not (subst (λ j. insn_defines j reg ≡ false) same free))
      (any_has (λ q. has_at rows q reg) (flows_to f.insns (p + 1) (flow_of i)) r here (exact.complete r reg live)))

  row_at : (p reg : ℕ) (i : Insn) → slice_get f.insns p ≡ Some i → is_inner i ≡ true →
      has_at rows p reg ≡ (insn_uses i reg || (not (insn_defines i reg) && beyond_at f rows (p + 1) (flow_of i) reg))
  row_at p reg i at inner = same_bool (has_at rows p reg) (insn_uses i reg || (not (insn_defines i reg) && beyond_at f rows (p + 1) (flow_of i) reg))
      (λ h. live_step p reg i at inner p (exact.sound p reg h) refl)
      (λ h. exact.complete p reg (back h))
    where
      back : (insn_uses i reg || (not (insn_defines i reg) && beyond_at f rows (p + 1) (flow_of i) reg)) ≡ true → IsLive f reg p
      back h =
          elim (or_cases (insn_uses i reg) (not (insn_defines i reg) && beyond_at f rows (p + 1) (flow_of i) reg) h) [
            | inl u ↦ AtUse p i at (or_left (insn_uses i reg) (is_return i && return_uses f reg) u)
            | inr w ↦
                let both = and_parts (not (insn_defines i reg)) (beyond_at f rows (p + 1) (flow_of i) reg) w in
                let found = any_found (λ q. has_at rows q reg) (flows_to f.insns (p + 1) (flow_of i)) both.1 in
                Passing p found.0 i at (not_false (insn_defines i reg) both.0) (leads_end f.insns p found.0 i at found.1) (exact.sound found.0 reg found.2)
          ]

  -- the row in front of what leads on, by the rows of the places to which its last leads
  rows_along : (t : List Insn) (p to reg : ℕ) → IsAt f.insns p t → leads_last t ≡ true → to ≡ p + length t → has_at rows p reg ≡ is_live_before t (beyond_at f rows to (flow_behind t)) reg
  rows_along [] p to reg at leading is = ap (λ n. has_at rows n reg) {x = p} {y = to} (omega (arith, is)) ∙ sym (or_none (has_at rows to reg))
  rows_along (i ∷ []) p to reg at leading is =
      row_at p reg i (at_first f.insns p i [] at) leading ∙
      (ap (λ n. insn_uses i reg || (not (insn_defines i reg) && beyond_at f rows n (flow_of i) reg)) {x = p + 1} {y = to} (omega (arith, is)) ∙
      sym (live_first i [] (beyond_at f rows to (flow_of i)) reg))
  rows_along (i ∷ j ∷ t) p to reg at leading is =
      row_at p reg i (at_first f.insns p i (j ∷ t) at) (inner_first i (j ∷ t) leading) ∙
      (ap (λ b. insn_uses i reg || (not (insn_defines i reg) && b))
      (ap (λ flow. beyond_at f rows (p + 1) flow reg) (falls_first i j t leading) ∙
      (or_none (has_at rows (p + 1) reg) ∙
      rows_along (j ∷ t) (p + 1) to reg (at_rest f.insns p i (j ∷ t) at) (leads_rest i j t leading) (omega (arith, is)))) ∙
      sym (live_first i (j ∷ t) (beyond_at f rows to (flow_behind (j ∷ t))) reg))

-- ---- parts of lists

get_taken : {X : Type 0} (xs : List X) (n k : ℕ) → k < n → slice_get (take n xs) k ≡ slice_get xs k
get_taken [] zero k l = absurd (omega (arith, l))
get_taken [] (suc n) k l = refl
get_taken (x ∷ xs) zero k l = absurd (omega (arith, l))
get_taken (x ∷ xs) (suc n) zero l = refl
get_taken (x ∷ xs) (suc n) (suc k) l = get_taken xs n k (omega (arith, l))

get_ranged : {X : Type 0} (xs : List X) (from to k : ℕ) → k < to - from → slice_get (slice_range xs from to) k ≡ slice_get xs (from + k)
get_ranged xs from to k l = get_taken (drop from xs) (to - from) k l ∙ get_dropped xs from k

long_range : {X : Type 0} (xs : List X) (from to : ℕ) → to ≤ length xs → length (slice_range xs from to) ≡ to - from
long_range xs from to l = length-take-le (to - from) (drop from xs) (omega (arith, l, length-drop from xs))

range_at : (insns : List Insn) (from to : ℕ) → to ≤ length insns → IsAt insns from (slice_range insns from to)
range_at insns from to l k i e =
    let within = slice_get_within (slice_range insns from to) k i e in
    sym (get_ranged insns from to k (omega (arith, within, long_range insns from to l))) ∙ e

at_drop : (insns : List Insn) (p : ℕ) (t : List Insn) (k : ℕ) → IsAt insns p t → IsAt insns (p + k) (drop k t)
at_drop insns p t k at n i e = subst (λ m. slice_get insns m ≡ Some i) {x = p + (k + n)} {y = p + k + n} (omega arith) (at (k + n) i (sym (get_dropped t k n) ∙ e))

range_rest : {X : Type 0} (xs : List X) (from to : ℕ) → from ≤ to → slice_range xs from to ++ drop to xs ≡ drop from xs
range_rest xs from to l =
    ap (λ ys. slice_range xs from to ++ ys) (sym (drop-drop (to - from) from xs ∙ ap (λ n. drop n xs) (omega (arith, l)))) ∙ take-append-drop (to - from) (drop from xs)

drop_ahead : {X : Type 0} (xs ys : List X) (k : ℕ) → k ≤ length xs → drop k (xs ++ ys) ≡ drop k xs ++ ys
drop_ahead xs ys zero l = refl
drop_ahead [] ys (suc k) l = absurd (omega (arith, l))
drop_ahead (x ∷ xs) ys (suc k) l = drop_ahead xs ys k (omega (arith, l))

drop_from : {X : Type 0} (xs ys : List X) (k : ℕ) → drop (length xs + k) (xs ++ ys) ≡ drop k ys
drop_from [] ys k = ap (λ n. drop n ys) (omega arith)
drop_from (x ∷ xs) ys k = ap (λ n. drop n (x ∷ (xs ++ ys))) {x = suc (length xs) + k} {y = suc (length xs + k)} (omega arith) ∙ drop_from xs ys k

-- ---- rows of two windows, one behind the other

AreRowsOf-append : (w t : List Insn) (behind beyond : ℕ → Bool) (rows more : List (List ℕ)) → ((reg : ℕ) → behind reg ≡ is_live_before t beyond reg) →
    AreRowsOf w behind rows → AreRowsOf t beyond more → AreRowsOf (w ++ t) beyond (rows ++ more)
AreRowsOf-append w t behind beyond rows more same one two = record {
  long = omega (arith, length-append rows more, length-append w t, one.long, two.long);
  each = each;
}
  where
    each : (k reg : ℕ) → k < length (w ++ t) → has_at (rows ++ more) k reg ≡ is_live_before (drop k (w ++ t)) beyond reg
    each k reg l =
        elim (cases_lt k (length w)) [
          | inl less ↦
              ap (λ o. at_row o reg) (get_ahead rows more k (omega (arith, less, one.long))) ∙
              (one.each k reg less ∙
              (ap (λ b. asks_for (drop k w) reg || (not (defines_in (drop k w) reg) && b)) (same reg) ∙
              (sym (live-append (drop k w) t beyond reg) ∙ ap (λ l. is_live_before l beyond reg) (sym (drop_ahead w t k (omega (arith, less)))))))
          | inr ge ↦
              let n = k - length w in
              let at : k ≡ length rows + n = omega (arith, ge, one.long) in
              let there : k ≡ length w + n = omega (arith, ge) in
              let fits : n < length t = omega (arith, l, there, length-append w t) in
              ap (λ m. has_at (rows ++ more) m reg) at ∙
              (ap (λ o. at_row o reg) (get_from rows more n) ∙
              (two.each n reg fits ∙
              (ap (λ l. is_live_before l beyond reg) (sym (drop_from w t n)) ∙ ap (λ m. is_live_before (drop m (w ++ t)) beyond reg) (sym there))))
        ]

-- ---- windows with their tail

module _ (f : Function) (first end : ℕ) (old new : List Insn) (behind : ℕ → Bool) (inside : WindowRows) (order : first < end) (fits : end ≤ length f.insns)
    (is_behind : (reg : ℕ) → (behind reg ≡ true) ↔ IsLiveAfter f reg (end - 1))
    (is : old ≡ window f first end) (ends : AreLikeEnds old new) (are : AreFound f.insns first end old new behind inside) where
  abbrev front : List Insn
  front = slice_range f.insns inside.from first

  abbrev tail : List Insn
  tail = slice_range f.insns end are.to

  -- where nothing is seen behind them
  none_behind : tail ≡ [] → AreInside f.insns first old new behind inside
  none_behind none = record {
    order = are.order;
    passing = are.passing;
    demands = demands;
    rows = are.rows;
    narrow = are.narrow;
  }
    where
      demands : (reg : ℕ) → IsAlike (front ++ old) (front ++ new) behind reg
      demands reg =
          elim (are.demands reg) [
            | inl alike ↦ alike_behind behind reg front old new alike
            | inr (inl settled) ↦
                let one = and_parts (not (defines_in old reg)) (not (defines_in new reg) && asks_for tail reg) settled in
                let two = and_parts (not (defines_in new reg)) (asks_for tail reg) one.1 in
                absurd (false≢true (sym (ap (λ (t : List Insn). asks_for t reg) none) ∙ two.1))
            | inr (inr named) ↦ named_behind behind reg front old new named
          ]

  long_new : inside.from + length inside.rows ≡ first + length new
  long_new =
      let before = long_range f.insns inside.from first (omega (arith, order, fits)) in
      omega (arith, are.rows.long, before, length-append front new, are.order)

  module _ (rows : List (List ℕ)) (exact : AreLiveRows f rows) (old_passes : list_all passes old ≡ true) (new_passes : list_all passes new ≡ true) where
    abbrev beyond : ℕ → Bool
    beyond = beyond_at f rows are.to (flow_behind tail)

    abbrev rest : List (List ℕ)
    rest = slice_range rows end are.to

    abbrev wider : WindowRows
    wider = record { from = inside.from; rows = inside.rows ++ rest }

    whole : old ++ tail ≡ window f first are.to
    whole = ap (λ w. w ++ tail) is ∙ sym (range_parts f.insns first end are.to (omega (arith, order)) are.beyond)

    long_whole : length (old ++ tail) ≡ are.to - first
    long_whole = ap length whole ∙ long_range f.insns first are.to are.fits

    -- the window leads to the place behind it alone
    end_leads : (q : ℕ) → leads f.insns (end - 1) q ≡ has_place (end ∷ []) q
    end_leads q = by old refl
      where
        by : (w : List Insn) → w ≡ old → leads f.insns (end - 1) q ≡ has_place (end ∷ []) q
        by [] e = absurd (omega (arith, (ap length (e ∙ is) ∙ long_range f.insns first end fits), order))
        by (i ∷ w) e =
            last_leads f.insns first (end - 1) q i w (subst (λ w. IsAt f.insns first w) (sym (e ∙ is)) (range_at f.insns first end fits))
            (omega (arith, (ap length (e ∙ is) ∙ long_range f.insns first end fits), order)) ∙
            (ap (λ n. has_place (flows_to f.insns n (flow_behind (i ∷ w))) q) {x = end - 1 + 1} {y = end} (omega (arith, order)) ∙
            ap (λ flow. has_place (flows_to f.insns end flow) q) (ap flow_behind (e ∙ sym (append-nil old)) ∙ flow_wide old [] old_passes))

    -- and with its tail to where that leads
    tail_leads : (q : ℕ) → leads f.insns (are.to - 1) q ≡ has_place (flows_to f.insns are.to (flow_behind tail)) q
    tail_leads q = by (old ++ tail) refl
      where
        by : (w : List Insn) → w ≡ old ++ tail → leads f.insns (are.to - 1) q ≡ has_place (flows_to f.insns are.to (flow_behind tail)) q
        by [] e = absurd (omega (arith, (ap length e ∙ long_whole), order, are.beyond))
        by (i ∷ w) e =
            last_leads f.insns first (are.to - 1) q i w (subst (λ w. IsAt f.insns first w) (sym (e ∙ whole)) (range_at f.insns first are.to are.fits))
            (omega (arith, (ap length e ∙ long_whole), order, are.beyond)) ∙
            (ap (λ n. has_place (flows_to f.insns n (flow_behind (i ∷ w))) q) {x = are.to - 1 + 1} {y = are.to} (omega (arith, order, are.beyond)) ∙
            ap (λ flow. has_place (flows_to f.insns are.to flow) q) (ap flow_behind e ∙ flow_wide old tail old_passes))

    is_beyond : (reg : ℕ) → (beyond reg ≡ true) ↔ IsLiveAfter f reg (are.to - 1)
    is_beyond reg = (there, back)
      where
        there : beyond reg ≡ true → IsLiveAfter f reg (are.to - 1)
        there h =
            let found = any_found (λ q. has_at rows q reg) (flows_to f.insns are.to (flow_behind tail)) h in
            (found.0, tail_leads found.0 ∙ found.1, exact.sound found.0 reg found.2)

        back : IsLiveAfter f reg (are.to - 1) → beyond reg ≡ true
        back live = any_has (λ q. has_at rows q reg) (flows_to f.insns are.to (flow_behind tail)) live.0 (sym (tail_leads live.0) ∙ live.1) (exact.complete live.0 reg live.2)

    tail_at : IsAt f.insns end tail
    tail_at = range_at f.insns end are.to are.fits

    long_tail : length tail ≡ are.to - end
    long_tail = long_range f.insns end are.to are.fits

    long_rest : length rest ≡ are.to - end
    long_rest = long_range rows end are.to (omega (arith, are.fits, exact.long))

    -- what is live behind the window is so in front of the tail
    behind_is : (reg : ℕ) → behind reg ≡ is_live_before tail beyond reg
    behind_is reg =
        same_bool (behind reg) (has_at rows end reg) one two ∙ rows_along f rows exact tail end are.to reg tail_at are.tail.leading (omega (arith, long_tail, are.beyond))
      where
        one : behind reg ≡ true → has_at rows end reg ≡ true
        one h =
            let live = (is_behind reg).0 h in
            let at : live.0 ≡ end = place_one end live.0 (sym (end_leads live.0) ∙ live.1) in
            exact.complete end reg (subst (IsLive f reg) at live.2)

        two : has_at rows end reg ≡ true → behind reg ≡ true
        two h = (is_behind reg).1 (end, end_leads end ∙ has_first end [], exact.sound end reg h)

    rows_tail : AreRowsOf tail beyond rest
    rows_tail = record {
      long = long_rest ∙ sym long_tail;
      each = λ k reg l.
          ap (λ o. at_row o reg) (get_ranged rows end are.to k (omega (arith, l, long_tail))) ∙
          (rows_along f rows exact (drop k tail) (end + k) are.to reg (at_drop f.insns end tail k tail_at) (leads_drop tail k are.tail.leading) (omega (arith, l, long_tail, length-drop k tail, are.beyond)) ∙
          ap (λ flow. is_live_before (drop k tail) (beyond_at f rows are.to flow) reg) (flow_from tail k (omega (arith, l))));
    }

    ends_tail : AreLikeEnds (old ++ tail) (new ++ tail)
    ends_tail = record {
      old_leads = leads_wide old tail old_passes are.tail.leading;
      new_leads = leads_wide new tail new_passes are.tail.leading;
      flow = flow_wide old tail old_passes ∙ sym (flow_wide new tail new_passes);
      sets = λ reg kept.
          list_any-append (insn_sets reg) old tail ∙
          (ap (λ b. b || list_any (insn_sets reg) tail) (ends.sets reg kept) ∙ sym (list_any-append (insn_sets reg) new tail));
    }

    inside_tail : AreInside f.insns first (old ++ tail) (new ++ tail) beyond wider
    inside_tail = record {
      order = are.order;
      passing = are.passing;
      demands = demands;
      rows = subst (λ (w : List Insn). AreRowsOf w beyond (inside.rows ++ rest)) (append_assoc front new tail) (AreRowsOf-append (front ++ new) tail behind beyond inside.rows rest behind_is are.rows rows_tail);
      narrow = All-append P inside.rows rest are.narrow (All-take P (are.to - end) (drop end rows) (All-drop P end rows exact.narrow));
    }
      where
        P : List ℕ → Type 0
        P row = length row ≤ 2 ^ 26

        demands : (reg : ℕ) → IsAlike (front ++ (old ++ tail)) (front ++ (new ++ tail)) beyond reg
        demands reg =
            elim (are.demands reg) [
              | inl alike ↦ alike_behind beyond reg front (old ++ tail) (new ++ tail) (alike_ahead old new tail beyond reg behind (behind_is reg) alike)
              | inr (inl settled) ↦ alike_behind beyond reg front (old ++ tail) (new ++ tail) (settled_ahead old new tail beyond reg settled)
              | inr (inr named) ↦ named_behind beyond reg front (old ++ tail) (new ++ tail) named
            ]

    same_function : replaced f first are.to (new ++ tail) ≡ replaced f first end new
    same_function =
        ap (λ (insns : List Insn). record f { insns = take first f.insns ++ insns })
        (append_assoc new tail (drop are.to f.insns) ∙ ap (λ w. new ++ w) (range_rest f.insns end are.to are.beyond))

    same_rows : (inside.rows ++ rest) ++ drop are.to rows ≡ inside.rows ++ drop end rows
    same_rows = append_assoc inside.rows rest (drop are.to rows) ∙ ap (λ w. inside.rows ++ w) (range_rest rows end are.to are.beyond)

    tail_rows : AreLiveRows (replaced f first end new) (take inside.from rows ++ (inside.rows ++ drop end rows))
    tail_rows =
        subst (λ g. AreLiveRows g (take inside.from rows ++ (inside.rows ++ drop end rows))) same_function
        (subst (λ w. AreLiveRows (replaced f first are.to (new ++ tail)) (take inside.from rows ++ w)) same_rows
        (wide_rows f first are.to (old ++ tail) (new ++ tail) rows beyond wider (omega (arith, order, are.beyond)) are.fits exact is_beyond whole ends_tail inside_tail))

    tail_stays : StaysBefore f (replaced f first end new) inside.from
    tail_stays =
        subst (λ g. StaysBefore f g inside.from) same_function
        (wide_stays f first are.to (old ++ tail) (new ++ tail) rows beyond wider (omega (arith, order, are.beyond)) are.fits exact is_beyond whole ends_tail inside_tail)

  found_rows : (rows : List (List ℕ)) → AreLiveRows f rows → AreLiveRows (replaced f first end new) (take inside.from rows ++ (inside.rows ++ drop end rows))
  found_rows rows exact =
      elim are.tail.led [
        | inl none ↦ wide_rows f first end old new rows behind inside order fits exact is_behind is ends (none_behind none)
        | inr all ↦ tail_rows rows exact all.0 all.1
      ]

  found_stays : (rows : List (List ℕ)) → AreLiveRows f rows → StaysBefore f (replaced f first end new) inside.from
  found_stays rows exact =
      elim are.tail.led [
        | inl none ↦ wide_stays f first end old new rows behind inside order fits exact is_behind is ends (none_behind none)
        | inr all ↦ tail_stays rows exact all.0 all.1
      ]

-- rows that are found are rows for the window
pub found_made : (f : Function) (first end : ℕ) (old new : List Insn) (rows : List (List ℕ)) (behind : ℕ → Bool) (inside : WindowRows) → first < end → end ≤ length f.insns →
    AreLiveRows f rows → ((reg : ℕ) → (behind reg ≡ true) ↔ IsLiveAfter f reg (end - 1)) →
    old ≡ window f first end → AreLikeEnds old new → AreFound f.insns first end old new behind inside → AreRowsFor f first end new inside
found_made f first end old new rows behind inside order fits exact is_behind is ends are = record {
  order = are.order;
  long = long_new f first end old new behind inside order fits is_behind is ends are;
  rows = λ others too. found_rows f first end old new behind inside order fits is_behind is ends are others too;
  stays = found_stays f first end old new behind inside order fits is_behind is ends are rows exact;
}

-- ---- one place more

one_range : {X : Type 0} (xs : List X) (p : ℕ) (x : X) → slice_get xs p ≡ Some x → slice_range xs p (p + 1) ≡ x ∷ []
one_range xs p x at =
    ap (λ n. slice_range xs n (p + 1)) {x = p} {y = p + 1 - 1} (omega arith) ∙
    (range_step xs (p + 1) (p + 1) x (omega arith) (omega arith) (ap (slice_get xs) {x = p + 1 - 1} {y = p} (omega arith) ∙ at) ∙
    ap (λ n. x ∷ take n (drop (p + 1) xs)) {x = p + 1 - (p + 1)} {y = 0} (omega arith))

pub none_ranged : {X : Type 0} (xs : List X) (p : ℕ) → slice_range xs p p ≡ []
none_ranged xs p = ap (λ n. take n (drop p xs)) {x = p - p} {y = 0} (omega arith)

-- what stands between two places, and one more
pub range_more : {X : Type 0} (xs : List X) (first at : ℕ) (x : X) → first ≤ at → slice_get xs at ≡ Some x → slice_range xs first (at + 1) ≡ slice_range xs first at ++ x ∷ []
range_more xs first at x l is = range_parts xs first at (at + 1) l (omega arith) ∙ ap (λ w. slice_range xs first at ++ w) (one_range xs at x is)

pub passing_more : (insns : List Insn) (end to : ℕ) (i : Insn) → end ≤ to → slice_get insns to ≡ Some i → passes i ≡ true →
    list_all passes (slice_range insns end to) ≡ true → list_all passes (slice_range insns end (to + 1)) ≡ true
passing_more insns end to i l at passing all =
    ap (list_all passes) (range_parts insns end to (to + 1) l (omega arith) ∙ ap (λ w. slice_range insns end to ++ w) (one_range insns to i at)) ∙
    (list_all-append passes (slice_range insns end to) (i ∷ []) ∙ and_from (list_all passes (slice_range insns end to)) (list_all passes (i ∷ [])) all (and_from (passes i) true passing refl))

-- what passes leads on
pub leads_passing : (w : List Insn) → list_all passes w ≡ true → leads_last w ≡ true
leads_passing w all = ap leads_last (sym (append-nil w)) ∙ leads_wide w [] all refl

-- and so it does with one more that is neither a label nor a return
pub leads_more : (insns : List Insn) (end to : ℕ) (i : Insn) → end ≤ to → slice_get insns to ≡ Some i → is_inner i ≡ true →
    list_all passes (slice_range insns end to) ≡ true → leads_last (slice_range insns end (to + 1)) ≡ true
leads_more insns end to i l at inner all =
    ap leads_last (range_parts insns end to (to + 1) l (omega arith) ∙ ap (λ w. slice_range insns end to ++ w) (one_range insns to i at)) ∙
    leads_wide (slice_range insns end to) (i ∷ []) all inner

-- what stands between two places, the first of it in front
pub range_first : {X : Type 0} (xs : List X) (p to : ℕ) (x : X) → p < to → slice_get xs p ≡ Some x → slice_range xs p to ≡ x ∷ slice_range xs (p + 1) to
range_first xs p to x l at =
    ap (λ n. slice_range xs n to) {x = p} {y = p + 1 - 1} (omega arith) ∙
    range_step xs (p + 1) to x (omega arith) (omega (arith, l)) (ap (slice_get xs) {x = p + 1 - 1} {y = p} (omega arith) ∙ at)

-- ---- whether it asks for a register

module _ (insns : List Insn) (p to : ℕ) (i : Insn) (reg : ℕ) (l : p < to) (at : slice_get insns p ≡ Some i) where
  asked_first : asks_for (slice_range insns p to) reg ≡ (insn_uses i reg || (not (insn_defines i reg) && asks_for (slice_range insns (p + 1) to) reg))
  asked_first = ap (λ w. asks_for w reg) (range_first insns p to i l at)

  pub asked_here : insn_uses i reg ≡ true → asks_for (slice_range insns p to) reg ≡ true
  asked_here u = asked_first ∙ or_left (insn_uses i reg) (not (insn_defines i reg) && asks_for (slice_range insns (p + 1) to) reg) u

  pub asked_never : insn_uses i reg ≡ false → insn_defines i reg ≡ true → asks_for (slice_range insns p to) reg ≡ false
  asked_never u d = asked_first ∙ (ap (λ b. b || (not (insn_defines i reg) && asks_for (slice_range insns (p + 1) to) reg)) u ∙ ap (λ b. not b && asks_for (slice_range insns (p + 1) to) reg) d)

  pub asked_on : insn_uses i reg ≡ false → insn_defines i reg ≡ false → asks_for (slice_range insns p to) reg ≡ asks_for (slice_range insns (p + 1) to) reg
  asked_on u d = asked_first ∙ (ap (λ b. b || (not (insn_defines i reg) && asks_for (slice_range insns (p + 1) to) reg)) u ∙ ap (λ b. not b && asks_for (slice_range insns (p + 1) to) reg) d)

pub none_left : (insns : List Insn) (p to reg : ℕ) → p ≡ to → asks_for (slice_range insns p to) reg ≡ false
none_left insns p to reg is = ap (λ w. asks_for w reg) (ap (λ n. slice_range insns n to) is ∙ none_ranged insns to)

-- ---- each register is alike, settled, or used or defined in front

pub found_in : (old new tail front : List Insn) (behind : ℕ → Bool) (differing left : List ℕ) → ((reg : ℕ) → has_reg differing reg ≡ false → IsAlike old new behind reg) →
    ((reg : ℕ) → has_reg left reg ≡ (has_reg differing reg && not (is_settled old new tail reg))) → ((reg : ℕ) → has_reg left reg ≡ true → names_in front reg ≡ true) →
    (reg : ℕ) → IsAlike old new behind reg ⊎ ((is_settled old new tail reg ≡ true) ⊎ (names_in front reg ≡ true))
found_in old new tail front behind differing left alike is named reg = by (has_reg differing reg) (is_settled old new tail reg) refl refl
  where
    by : (d s : Bool) → has_reg differing reg ≡ d → is_settled old new tail reg ≡ s → IsAlike old new behind reg ⊎ ((is_settled old new tail reg ≡ true) ⊎ (names_in front reg ≡ true))
    by false s differs settled = inl (alike reg differs)
    by true true differs settled = inr (inl settled)
    by true false differs settled = inr (inr (named reg (is reg ∙ (ap (λ b. b && not (is_settled old new tail reg)) differs ∙ ap not settled))))

-- Windows with what stands in front of them: from where each register in which they differ is used or defined, they are alike.
use Rattle.std.proofs.Common.{◌≡◌, ◌↔◌, ℕ, zero, suc, ◌+◌, ◌-◌, ◌<◌, ◌≤◌, Bool, true, false, ◌||◌, ◌&&◌, not, List, [], ◌∷◌, ◌++◌, length, take, drop, drop-drop, Some, inl, inr, ◌⊎◌, refl, sym, ap, subst, ◌∙◌, arith}
use Rattle.std.specs.Prelude.{slice_get, slice_range}
use Rattle.std.specs.List.{list_any, list_all}
use Rattle.std.proofs.lemmas.Bool.{or_cases, or_left, or_right, and_from, and_parts, false≢true}
use lib.Seq.{take-nil}
use Rattle.std.proofs.lemmas.List.Folds.{list_any-append}
use Rattle.std.proofs.lemmas.Option.{same_Some}
use Rattle.rtx_tree.specs.declared.function.Insn.{Insn}
use Rattle.rtx_tree.specs.declared.function.Function.{Function}
use Rattle.rtx_tree.specs.RegSet.{has_reg}
use Rattle.reg_uses.specs.Uses.{insn_uses, insn_defines, insn_sets}
use Rattle.rtl_func.specs.Blocks.{is_jump_kind}
use Rattle.live.specs.Live.{IsLiveAfter, AreLiveRows}
use Rattle.new_insns.specs.Replaced.{window, replaced}
use Rattle.live_chain.specs.declared.kept.WindowRows.{WindowRows}
use Rattle.live_chain.specs.Stays.{StaysBefore}
use Rattle.live_chain.specs.machine.Window.{asks_for, defines_in, names_in, flow_behind, is_inner, leads_last, passes, IsAlike, AreLikeEnds, AreSameOutside, AreInside}
use Rattle.live_chain.proofs.FlowLaws.{falls_by, not_false, both_left, both_right}
use Rattle.live_chain.proofs.RowLaws.{rows_exact, stays_before}

-- ---- one instruction in front of two windows

module _ (behind : ℕ → Bool) (reg : ℕ) (i : Insn) (old new : List Insn) where
  -- in a register that it uses or defines they are alike
  named_front : (insn_uses i reg || insn_defines i reg) ≡ true → IsAlike (i ∷ old) (i ∷ new) behind reg
  named_front named = by (insn_uses i reg) (insn_defines i reg) refl refl named
    where
      by : (u d : Bool) → insn_uses i reg ≡ u → insn_defines i reg ≡ d → (u || d) ≡ true → IsAlike (i ∷ old) (i ∷ new) behind reg
      by true d uses defines named = record {
        asks = ap (λ b. b || (not (insn_defines i reg) && asks_for old reg)) uses ∙ sym (ap (λ b. b || (not (insn_defines i reg) && asks_for new reg)) uses);
        defines = λ none live. absurd (false≢true (sym none ∙ ap (λ b. b || (not (insn_defines i reg) && asks_for old reg)) uses));
      }
      by false true uses defines named = record {
        asks = ap (λ b. insn_uses i reg || (not b && asks_for old reg)) defines ∙ sym (ap (λ b. insn_uses i reg || (not b && asks_for new reg)) defines);
        defines = λ none live. ap (λ b. b || defines_in old reg) defines ∙ sym (ap (λ b. b || defines_in new reg) defines);
      }
      by false false uses defines named = absurd (false≢true named)

  -- in one in which they were alike they stay so
  alike_front : IsAlike old new behind reg → IsAlike (i ∷ old) (i ∷ new) behind reg
  alike_front alike = record {
    asks = ap (λ b. insn_uses i reg || (not (insn_defines i reg) && b)) alike.asks;
    defines = λ none live. by (insn_defines i reg) refl none live;
  }
    where
      by : (d : Bool) → insn_defines i reg ≡ d → asks_for (i ∷ old) reg ≡ false → behind reg ≡ true → defines_in (i ∷ old) reg ≡ defines_in (i ∷ new) reg
      by true is none live = ap (λ b. b || defines_in old reg) is ∙ sym (ap (λ b. b || defines_in new reg) is)
      by false is none live = ap (λ b. insn_defines i reg || b) (alike.defines (neither (insn_uses i reg) (asks_for old reg) (sym (ap (λ b. insn_uses i reg || (not b && asks_for old reg)) is) ∙ none)) live)
        where
          neither : (u a : Bool) → (u || (true && a)) ≡ false → a ≡ false
          neither true a e = absurd (false≢true (sym e))
          neither false a e = e

  passing_leads : passes i ≡ true → leads_last old ≡ true → leads_last (i ∷ old) ≡ true
  passing_leads passing leads = by old leads
    where
      by : (w : List Insn) → leads_last w ≡ true → leads_last (i ∷ w) ≡ true
      by [] leads = both_left (is_inner i) (not (is_jump_kind i.kind)) passing
      by (j ∷ w) leads = and_from (passes i) (leads_last (j ∷ w)) passing leads

  passing_flow : passes i ≡ true → flow_behind (i ∷ old) ≡ flow_behind old
  passing_flow passing = by old
    where
      by : (w : List Insn) → flow_behind (i ∷ w) ≡ flow_behind w
      by [] = falls_by i.kind i.pattern (not_false (is_jump_kind i.kind) (both_right (is_inner i) (not (is_jump_kind i.kind)) passing))
      by (j ∷ w) = refl

-- ---- several

pub alike_behind : (behind : ℕ → Bool) (reg : ℕ) (front old new : List Insn) → IsAlike old new behind reg → IsAlike (front ++ old) (front ++ new) behind reg
alike_behind behind reg [] old new alike = alike
alike_behind behind reg (i ∷ front) old new alike = alike_front behind reg i (front ++ old) (front ++ new) (alike_behind behind reg front old new alike)

pub named_behind : (behind : ℕ → Bool) (reg : ℕ) (front old new : List Insn) → names_in front reg ≡ true → IsAlike (front ++ old) (front ++ new) behind reg
named_behind behind reg [] old new named = absurd (false≢true named)
named_behind behind reg (i ∷ front) old new named =
    elim (or_cases (insn_uses i reg || insn_defines i reg) (names_in front reg) named) [
      | inl here ↦ named_front behind reg i (front ++ old) (front ++ new) here
      | inr more ↦ alike_front behind reg i (front ++ old) (front ++ new) (named_behind behind reg front old new more)
    ]

-- where each register in which two windows differ is used or defined in front of them, they are alike with what stands there
pub alike_wide : (behind : ℕ → Bool) (differing : List ℕ) (front old new : List Insn) → ((reg : ℕ) → has_reg differing reg ≡ false → IsAlike old new behind reg) →
    ((reg : ℕ) → has_reg differing reg ≡ true → names_in front reg ≡ true) → (reg : ℕ) → IsAlike (front ++ old) (front ++ new) behind reg
alike_wide behind differing front old new alike named reg = by (has_reg differing reg) refl
  where
    by : (b : Bool) → has_reg differing reg ≡ b → IsAlike (front ++ old) (front ++ new) behind reg
    by true is = named_behind behind reg front old new (named reg is)
    by false is = alike_behind behind reg front old new (alike reg is)

pub leads_wide : (front w : List Insn) → list_all passes front ≡ true → leads_last w ≡ true → leads_last (front ++ w) ≡ true
leads_wide [] w passing leads = leads
leads_wide (i ∷ front) w passing leads =
    let both = and_parts (passes i) (list_all passes front) passing in
    passing_leads (λ reg. true) 0 i (front ++ w) [] both.0 (leads_wide front w both.1 leads)

pub flow_wide : (front w : List Insn) → list_all passes front ≡ true → flow_behind (front ++ w) ≡ flow_behind w
flow_wide [] w passing = refl
flow_wide (i ∷ front) w passing =
    let both = and_parts (passes i) (list_all passes front) passing in
    passing_flow (λ reg. true) 0 i (front ++ w) [] both.0 ∙ flow_wide front w both.1

ends_wide : (front old new : List Insn) → list_all passes front ≡ true → AreLikeEnds old new → AreLikeEnds (front ++ old) (front ++ new)
ends_wide front old new passing ends = record {
  old_leads = leads_wide front old passing ends.old_leads;
  new_leads = leads_wide front new passing ends.new_leads;
  flow = flow_wide front old passing ∙ (ends.flow ∙ sym (flow_wide front new passing));
  sets = λ reg kept.
      list_any-append (insn_sets reg) front old ∙
      (ap (λ b. list_any (insn_sets reg) front || b) (ends.sets reg kept) ∙ sym (list_any-append (insn_sets reg) front new));
}

-- ---- windows of a list

pub take_sum : {X : Type 0} (m n : ℕ) (xs : List X) → take (m + n) xs ≡ take m xs ++ take n (drop m xs)
take_sum zero n xs = ap (λ k. take k xs) {x = 0 + n} {y = n} (omega arith)
take_sum (suc m) n [] = take-nil (suc m + n) ∙ sym (take-nil n)
take_sum (suc m) n (x ∷ xs) = ap (λ k. take k (x ∷ xs)) {x = suc m + n} {y = suc (m + n)} (omega arith) ∙ ap (λ l. x ∷ l) (take_sum m n xs)

-- a window in two parts
pub range_parts : {X : Type 0} (xs : List X) (from first end : ℕ) → from ≤ first → first ≤ end → slice_range xs from end ≡ slice_range xs from first ++ slice_range xs first end
range_parts xs from first end l k =
    ap (λ n. take n (drop from xs)) {x = end - from} {y = first - from + (end - first)} (omega (arith, l, k)) ∙
    (take_sum (first - from) (end - first) (drop from xs) ∙
    ap (λ ys. slice_range xs from first ++ take (end - first) ys) (drop-drop (first - from) from xs ∙ ap (λ n. drop n xs) (omega (arith, l))))

-- what stands in front of a window, up to a place and from there on
front_parts : {X : Type 0} (xs : List X) (from first : ℕ) → from ≤ first → take first xs ≡ take from xs ++ slice_range xs from first
front_parts xs from first l = ap (λ n. take n xs) {x = first} {y = from + (first - from)} (omega (arith, l)) ∙ take_sum from (first - from) xs

drop_found : {X : Type 0} (xs : List X) (k : ℕ) (x : X) → slice_get xs k ≡ Some x → drop k xs ≡ x ∷ drop (suc k) xs
drop_found [] k x is = absurd (let none : ⊥ = cc in none)
drop_found (y ∷ xs) zero x is = ap (λ z. z ∷ xs) (same_Some y x is)
drop_found (y ∷ xs) (suc k) x is = drop_found xs k x is

-- a window with the one in front of it
pub range_step : {X : Type 0} (xs : List X) (from first : ℕ) (x : X) → 0 < from → from ≤ first → slice_get xs (from - 1) ≡ Some x → slice_range xs (from - 1) first ≡ x ∷ slice_range xs from first
range_step xs from first x l k is =
    ap (λ n. take n (drop (from - 1) xs)) {x = first - (from - 1)} {y = suc (first - from)} (omega (arith, l, k)) ∙
    ap (λ ys. take (suc (first - from)) ys) (drop_found xs (from - 1) x is ∙ ap (λ n. x ∷ drop n xs) {x = suc (from - 1)} {y = from} (omega (arith, l)))

pub passing_step : (insns : List Insn) (from first : ℕ) (i : Insn) → 0 < from → from ≤ first → slice_get insns (from - 1) ≡ Some i → passes i ≡ true →
    list_all passes (slice_range insns from first) ≡ true → list_all passes (slice_range insns (from - 1) first) ≡ true
passing_step insns from first i l k is passing all =
    ap (list_all passes) (range_step insns from first i l k is) ∙ and_from (passes i) (list_all passes (slice_range insns from first)) passing all

pub named_step : (insns : List Insn) (from first : ℕ) (i : Insn) (reg : ℕ) (was left : Bool) → 0 < from → from ≤ first → slice_get insns (from - 1) ≡ Some i →
    left ≡ (was && not (insn_uses i reg || insn_defines i reg)) → (was ≡ true) ⊎ (names_in (slice_range insns from first) reg ≡ true) →
    (left ≡ true) ⊎ (names_in (slice_range insns (from - 1) first) reg ≡ true)
named_step insns from first i reg was left l k at is (inr named) =
    inr (ap (λ w. names_in w reg) (range_step insns from first i l k at) ∙ or_right (insn_uses i reg || insn_defines i reg) (names_in (slice_range insns from first) reg) named)
named_step insns from first i reg was left l k at is (inl has) = by (insn_uses i reg || insn_defines i reg) refl
  where
    by : (b : Bool) → (insn_uses i reg || insn_defines i reg) ≡ b → (left ≡ true) ⊎ (names_in (slice_range insns (from - 1) first) reg ≡ true)
    by true e = inr (ap (λ w. names_in w reg) (range_step insns from first i l k at) ∙ or_left (insn_uses i reg || insn_defines i reg) (names_in (slice_range insns from first) reg) e)
    by false e = inl (is ∙ and_from was (not (insn_uses i reg || insn_defines i reg)) has (ap not e))

append_parts : {X : Type 0} (a b c d : List X) → (a ++ b) ++ (c ++ d) ≡ a ++ ((b ++ c) ++ d)
append_parts [] [] c d = refl
append_parts [] (x ∷ b) c d = ap (λ l. x ∷ l) (append_parts [] b c d)
append_parts (x ∷ a) b c d = ap (λ l. x ∷ l) (append_parts a b c d)

-- new instructions with what stands in front of them, in the place of a wider window
pub wide_replaced : (f : Function) (from first end : ℕ) (new : List Insn) → from ≤ first → replaced f from end (slice_range f.insns from first ++ new) ≡ replaced f first end new
wide_replaced f from first end new l =
    ap (λ (insns : List Insn). record f { insns = insns })
    (sym (ap (λ front. front ++ (new ++ drop end f.insns)) (front_parts f.insns from first l) ∙ append_parts (take from f.insns) (slice_range f.insns from first) new (drop end f.insns)))

module _ (f : Function) (first end : ℕ) (old new : List Insn) (rows : List (List ℕ)) (live_behind : ℕ → Bool) (inside : WindowRows) (order : first < end) (fits : end ≤ length f.insns)
    (exact : AreLiveRows f rows) (is_behind : (reg : ℕ) → (live_behind reg ≡ true) ↔ IsLiveAfter f reg (end - 1))
    (is : old ≡ window f first end) (ends : AreLikeEnds old new) (are : AreInside f.insns first old new live_behind inside) where
  abbrev front : List Insn
  front = slice_range f.insns inside.from first

  whole : window f inside.from end ≡ front ++ old
  whole = range_parts f.insns inside.from first end are.order (omega (arith, order)) ∙ ap (λ w. front ++ w) (sym is)

  outside : AreSameOutside (window f inside.from end) (front ++ new) live_behind
  outside = subst (λ w. AreSameOutside w (front ++ new) live_behind) (sym whole) (record { ends = ends_wide front old new are.passing ends; demands = are.demands })

  -- the rows of the function with the new window, by those of the new window and of what stands in front of it
  pub wide_rows : AreLiveRows (replaced f first end new) (take inside.from rows ++ (inside.rows ++ drop end rows))
  wide_rows = subst (λ g. AreLiveRows g (take inside.from rows ++ (inside.rows ++ drop end rows))) (wide_replaced f inside.from first end new are.order)
      (rows_exact f inside.from end (front ++ new) rows inside.rows live_behind (omega (arith, order, are.order)) fits exact is_behind outside are.rows are.narrow)

  -- what is live in front of the first of them stays
  pub wide_stays : StaysBefore f (replaced f first end new) inside.from
  wide_stays = subst (λ g. StaysBefore f g inside.from) (wide_replaced f inside.from first end new are.order)
      (stays_before f inside.from end (front ++ new) rows inside.rows live_behind (omega (arith, order, are.order)) fits exact is_behind outside are.rows are.narrow)

-- Windows, taken up from their ends.
use Rattle.std.proofs.Common.{◌≡◌, ℕ, zero, suc, ◌-◌, ◌<◌, ◌≤◌, ◌^◌, Bool, true, false, ◌||◌, ◌&&◌, not, List, [], ◌∷◌, ◌++◌, length, drop, reverse, get_or, drop-cons, Some, refl, sym, ap, subst, ◌∙◌, arith}
use Rattle.std.specs.Prelude.{slice_get}
use Rattle.std.specs.List.{list_all}
use Rattle.std.proofs.lemmas.Bool.{and_parts, and_from, false≢true}
use Rattle.std.proofs.lemmas.List.{reverse-append}
use Rattle.std.proofs.lemmas.List.Elements.{All-push, All-head, All-tail}
use Rattle.std.proofs.lemmas.List.Folds.{list_any-append}
use Rattle.std.proofs.lemmas.Option.{same_Some, slice_get_within}
use Rattle.std.proofs.Math.Bool.{or-false}
use Rattle.rtx_tree.specs.declared.function.Kind.{Kind}
use Rattle.rtx_tree.specs.declared.function.Kind.TheVariants as kind
use Rattle.rtx_tree.specs.declared.function.Insn.{Insn}
use Rattle.rtx_tree.specs.declared.tree.Rtx.{Rtx}
use Rattle.rtx_tree.specs.RegSet.{has_reg}
use Rattle.reg_rows.specs.Row.{has}
use Rattle.reg_rows.specs.Table.{has_at}
use Rattle.reg_uses.specs.Uses.{insn_uses, insn_defines}
use Rattle.rtl_func.specs.declared.flow.Flow.TheVariants.{Falls}
use Rattle.rtl_func.specs.Blocks.{is_jump_kind}
use Rattle.rtl_func.specs.Successors.{flow_by, flow_of, jump_flow}
use Rattle.live_chain.specs.declared.demand.Demand.{Demand}
use Rattle.live_chain.specs.Narrow.{AreNarrow}
use Rattle.live_chain.specs.machine.Demand.{IsDemandOf}
use Rattle.live_chain.specs.machine.Window.{asks_for, defines_in, flow_behind, is_inner, leads_last, is_live_before, AreRowsOf, first_has}
use Rattle.live_chain.proofs.FlowLaws.{falls_by}
use Rattle.live_chain.proofs.RowLaws.{last_of}

-- ---- the last

jump_by : (k : Kind) (x : Rtx) → is_jump_kind k ≡ true → flow_by k x ≡ jump_flow x
jump_by kind.Plain x e = absurd (false≢true e)
jump_by kind.Jump x e = refl
jump_by kind.Call x e = absurd (false≢true e)
jump_by kind.Label x e = absurd (false≢true e)
jump_by kind.Barrier x e = absurd (false≢true e)

flow_last : (window : List Insn) (i : Insn) → Some i ≡ slice_get window (length window - 1) → flow_behind window ≡ flow_of i
flow_last window i e =
    let within = slice_get_within window (length window - 1) i (sym e) in
    let last = last_of window (omega arith) in
    last.2 ∙ ap flow_of (sym (same_Some i last.0 (e ∙ last.1)))

pub flow_jump : (window : List Insn) (i : Insn) → Some i ≡ slice_get window (length window - 1) → is_jump_kind i.kind ≡ true → flow_behind window ≡ jump_flow i.pattern
flow_jump window i e jump = flow_last window i e ∙ jump_by i.kind i.pattern jump

pub flow_falls : (window : List Insn) (i : Insn) → Some i ≡ slice_get window (length window - 1) → is_jump_kind i.kind ≡ false → flow_behind window ≡ Falls
flow_falls window i e jump = flow_last window i e ∙ falls_by i.kind i.pattern jump

-- a window leads on from its last, where all before it pass
pub leads_from : (before : List Insn) (last : Insn) → is_inner last ≡ true → list_all (λ i. is_inner i && not (is_jump_kind i.kind)) before ≡ true → leads_last (before ++ last ∷ []) ≡ true
leads_from [] last inner all = inner
leads_from (i ∷ []) last inner all = and_from (is_inner i && not (is_jump_kind i.kind)) (is_inner last) (and_parts (is_inner i && not (is_jump_kind i.kind)) true all).0 inner
leads_from (i ∷ j ∷ before) last inner all =
    let both = and_parts (is_inner i && not (is_jump_kind i.kind)) (list_all (λ i. is_inner i && not (is_jump_kind i.kind)) (j ∷ before)) all in
    and_from (is_inner i && not (is_jump_kind i.kind)) (leads_last (j ∷ (before ++ last ∷ []))) both.0 (leads_from (j ∷ before) last inner both.1)

-- ---- one instruction more

more_asked : (u d a b s : Bool) → (u || (not d && (a || (b && not s)))) ≡ ((u || (not d && a)) || (b && not (d || s)))
more_asked true d a b s = refl
more_asked false true a true s = refl
more_asked false true a false s = refl
more_asked false false a b s = refl

first_asked : (u d : Bool) → (u || (not d && false)) ≡ (u && true)
first_asked true d = refl
first_asked false true = refl
first_asked false false = refl

asks-push : (window : List Insn) (i : Insn) (reg : ℕ) → asks_for (window ++ i ∷ []) reg ≡ (asks_for window reg || (insn_uses i reg && not (defines_in window reg)))
asks-push [] i reg = first_asked (insn_uses i reg) (insn_defines i reg)
asks-push (j ∷ window) i reg =
    ap (λ b. insn_uses j reg || (not (insn_defines j reg) && b)) (asks-push window i reg) ∙
    more_asked (insn_uses j reg) (insn_defines j reg) (asks_for window reg) (insn_uses i reg) (defines_in window reg)

defines-push : (window : List Insn) (i : Insn) (reg : ℕ) → defines_in (window ++ i ∷ []) reg ≡ (defines_in window reg || insn_defines i reg)
defines-push window i reg = list_any-append (λ i. insn_defines i reg) window (i ∷ []) ∙ ap (λ b. defines_in window reg || b) (or-false (insn_defines i reg))

pub IsDemandOf-push : (window whole : List Insn) (i : Insn) (old new : Demand) → whole ≡ window ++ i ∷ [] → IsDemandOf window old →
    ((reg : ℕ) → has_reg new.asks reg ≡ (has_reg old.asks reg || (insn_uses i reg && not (has_reg old.defines reg)))) →
    ((reg : ℕ) → has_reg new.defines reg ≡ (has_reg old.defines reg || insn_defines i reg)) → IsDemandOf whole new
IsDemandOf-push window whole i old new is before asks defines = record {
  asks = λ reg.
      asks reg ∙
      (ap (λ b. b || (insn_uses i reg && not (has_reg old.defines reg))) (before.asks reg) ∙
      (ap (λ b. asks_for window reg || (insn_uses i reg && not b)) (before.defines reg) ∙
      (sym (asks-push window i reg) ∙ ap (λ l. asks_for l reg) (sym is))));
  defines = λ reg.
      defines reg ∙
      (ap (λ b. b || insn_defines i reg) (before.defines reg) ∙
      (sym (defines-push window i reg) ∙ ap (λ l. defines_in l reg) (sym is)));
}

-- ---- one instruction in front

pub drop_step : {X : Type 0} (xs : List X) (n : ℕ) (x : X) → 0 < n → n ≤ length xs → x ≡ get_or xs (n - 1) x → drop (n - 1) xs ≡ x ∷ drop n xs
drop_step xs n x l within is =
    drop-cons xs (n - 1) x (omega (arith, l, within)) ∙
    (ap (λ k. get_or xs (n - 1) x ∷ drop k xs) {x = suc (n - 1)} {y = n} (omega (arith, l)) ∙ ap (λ y. y ∷ drop n xs) (sym is))

pub row_step : (u d h : Bool) → ((h && not d) || u) ≡ (u || (not d && h))
row_step true true true = refl
row_step true true false = refl
row_step true false true = refl
row_step true false false = refl
row_step false true true = refl
row_step false true false = refl
row_step false false true = refl
row_step false false false = refl

more_live : (u d a s b : Bool) → (u || (not d && (a || (not s && b)))) ≡ ((u || (not d && a)) || (not (d || s) && b))
more_live true d a s b = refl
more_live false true a s b = refl
more_live false false a s b = refl

-- of rows with the last first, that in front of the others
pub last_has : (rows before : List (List ℕ)) (row behind : List ℕ) (reg : ℕ) → rows ≡ before ++ row ∷ [] → first_has (reverse rows) behind reg ≡ has row reg
last_has rows before row behind reg is =
    ap (λ (l : List (List ℕ)). first_has (reverse l) behind reg) is ∙ ap (λ l. first_has l behind reg) (reverse-append before (row ∷ []))

pub none_has : (rows : List (List ℕ)) (behind : List ℕ) (reg : ℕ) → rows ≡ [] → first_has (reverse rows) behind reg ≡ has behind reg
none_has rows behind reg is = ap (λ (l : List (List ℕ)). first_has (reverse l) behind reg) is

pub narrow_turned : (rows : List (List ℕ)) → AreNarrow rows → AreNarrow (reverse rows)
narrow_turned [] narrow = narrow
narrow_turned (row ∷ rows) narrow =
    subst AreNarrow (sym (reverse-append (row ∷ []) rows))
    (All-push (λ row. length row ≤ 2 ^ 26) (reverse rows) row (narrow_turned rows (All-tail (λ row. length row ≤ 2 ^ 26) row rows narrow)) (All-head (λ row. length row ≤ 2 ^ 26) row rows narrow))

-- the first row of a window has what is live before the window
first_live : (window : List Insn) (behind : List ℕ) (rows : List (List ℕ)) → AreRowsOf window (has behind) rows → (reg : ℕ) → first_has rows behind reg ≡ is_live_before window (has behind) reg
first_live [] behind [] are reg = refl
first_live [] behind (row ∷ rows) are reg = absurd (omega (arith, are.long))
first_live (i ∷ window) behind [] are reg = absurd (omega (arith, are.long))
first_live (i ∷ window) behind (row ∷ rows) are reg = are.each 0 reg (omega arith)

pub AreRowsOf-cons : (window whole : List Insn) (i : Insn) (behind row : List ℕ) (rows : List (List ℕ)) → whole ≡ i ∷ window → AreRowsOf window (has behind) rows →
    ((reg : ℕ) → has row reg ≡ (insn_uses i reg || (not (insn_defines i reg) && first_has rows behind reg))) → AreRowsOf whole (has behind) (row ∷ rows)
AreRowsOf-cons window whole i behind row rows is are step = subst (λ w. AreRowsOf w (has behind) (row ∷ rows)) (sym is) (record {
  long = omega (arith, are.long);
  each = each;
})
  where
    each : (k reg : ℕ) → k < length (i ∷ window) → has_at (row ∷ rows) k reg ≡ is_live_before (drop k (i ∷ window)) (has behind) reg
    each zero reg l =
        step reg ∙
        (ap (λ b. insn_uses i reg || (not (insn_defines i reg) && b)) (first_live window behind rows are reg) ∙
        more_live (insn_uses i reg) (insn_defines i reg) (asks_for window reg) (defines_in window reg) (has behind reg))
    each (suc k) reg l = are.each k reg (omega arith)

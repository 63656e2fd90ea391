-- What is live before a window, by what it asks for and what is live behind it.
use Rattle.std.proofs.Common.{◌≡◌, ℕ, suc, ◌+◌, Bool, true, false, ◌||◌, ◌&&◌, not, List, [], ◌∷◌, length, Some, inl, inr, refl, sym, ap, subst, ◌∙◌, arith, eqb}
use Rattle.std.specs.Prelude.{slice_get}
use Rattle.std.proofs.lemmas.Bool.{or_cases, or_left, eqb-true, false≢true, true≢false, and_parts}
use Rattle.rtx_tree.specs.declared.function.Insn.{Insn}
use Rattle.rtx_tree.specs.declared.function.Function.{Function}
use Rattle.rtl_func.specs.Successors.{flow_of}
use Rattle.rtl_func.specs.Paths.{has_place, leads}
use Rattle.reg_uses.specs.Uses.{insn_uses, insn_defines, is_return, return_uses}
use Rattle.live.specs.Live.{IsLive, AtUse, Passing}
use Rattle.live_chain.specs.machine.Window.{asks_for, defines_in, flow_behind, leads_last}
use Rattle.live_chain.proofs.FlowLaws.{flows_to, flows_at, falls_first, leads_rest, has_first}

-- the window stands at a place of a chain
abbrev pub IsAt : List Insn → ℕ → List Insn → Type 0
IsAt insns p window = (k : ℕ) (i : Insn) → slice_get window k ≡ Some i → slice_get insns (p + k) ≡ Some i

pub at_first : (insns : List Insn) (p : ℕ) (i : Insn) (window : List Insn) → IsAt insns p (i ∷ window) → slice_get insns p ≡ Some i
at_first insns p i window at = subst (λ n. slice_get insns n ≡ Some i) {x = p + 0} {y = p} (omega arith) (at 0 i refl)

pub at_rest : (insns : List Insn) (p : ℕ) (i : Insn) (window : List Insn) → IsAt insns p (i ∷ window) → IsAt insns (p + 1) window
at_rest insns p i window at k j e = subst (λ n. slice_get insns n ≡ Some j) {x = p + suc k} {y = p + 1 + k} (omega arith) (at (suc k) j e)

pub not_true : (b : Bool) → not b ≡ true → b ≡ false
not_true true e = absurd (false≢true e)
not_true false e = refl

either_false : (a b : Bool) → (a || b) ≡ false → (a ≡ false) × (b ≡ false)
either_false true b e = absurd (true≢false e)
either_false false b e = (refl, e)

-- where the first of several leads
leads_next : (insns : List Insn) (p : ℕ) (i j : Insn) (window : List Insn) → slice_get insns p ≡ Some i → leads_last (i ∷ j ∷ window) ≡ true → leads insns p (p + 1) ≡ true
leads_next insns p i j window at e =
    subst (λ places. has_place places (p + 1) ≡ true) (sym (flows_at insns p i at ∙ ap (flows_to insns (p + 1)) (falls_first i j window e))) (has_first (p + 1) [])

-- where the last leads
pub leads_end : (insns : List Insn) (p q : ℕ) (i : Insn) → slice_get insns p ≡ Some i → has_place (flows_to insns (p + 1) (flow_of i)) q ≡ true → leads insns p q ≡ true
leads_end insns p q i at h = subst (λ places. has_place places q ≡ true) (sym (flows_at insns p i at)) h

module _ (f : Function) (reg : ℕ) where
  -- what the window asks for is live before it
  pub live_asked : (window : List Insn) (p : ℕ) → IsAt f.insns p window → leads_last window ≡ true → asks_for window reg ≡ true → IsLive f reg p
  live_asked [] p at last asks = absurd (false≢true asks)
  live_asked (i ∷ []) p at last asks =
      elim (or_cases (insn_uses i reg) (not (insn_defines i reg) && false) asks) [
        | inl uses ↦ AtUse p i (at_first f.insns p i [] at) (or_left (insn_uses i reg) (is_return i && return_uses f reg) uses)
        | inr never ↦ absurd (false≢true (and_parts (not (insn_defines i reg)) false never).1)
      ]
  live_asked (i ∷ j ∷ window) p at last asks =
      elim (or_cases (insn_uses i reg) (not (insn_defines i reg) && asks_for (j ∷ window) reg) asks) [
        | inl uses ↦ AtUse p i (at_first f.insns p i (j ∷ window) at) (or_left (insn_uses i reg) (is_return i && return_uses f reg) uses)
        | inr rest ↦
            let both = and_parts (not (insn_defines i reg)) (asks_for (j ∷ window) reg) rest in
            let here = at_first f.insns p i (j ∷ window) at in
            Passing p (p + 1) i here (not_true (insn_defines i reg) both.0) (leads_next f.insns p i j window here last)
            (live_asked (j ∷ window) (p + 1) (at_rest f.insns p i (j ∷ window) at) (leads_rest i j window last) both.1)
      ]

  -- and so is what it doesn't define, and is live where it leads
  pub live_passing : (window : List Insn) (p q : ℕ) → IsAt f.insns p window → leads_last window ≡ true → defines_in window reg ≡ false →
      has_place (flows_to f.insns (p + length window) (flow_behind window)) q ≡ true → IsLive f reg q → IsLive f reg p
  live_passing [] p q at last free h live =
      elim (or_cases (eqb (p + 0) q) false h) [
        | inl is ↦ let same : q ≡ p = omega (arith, eqb-true (p + 0) q is) in subst (IsLive f reg) same live
        | inr never ↦ absurd (false≢true never)
      ]
  live_passing (i ∷ []) p q at last free h live =
      let here = at_first f.insns p i [] at in
      Passing p q i here (either_false (insn_defines i reg) false free).0 (leads_end f.insns p q i here h) live
  live_passing (i ∷ j ∷ window) p q at last free h live =
      let here = at_first f.insns p i (j ∷ window) at in
      let each = either_false (insn_defines i reg) (defines_in (j ∷ window) reg) free in
      Passing p (p + 1) i here each.0 (leads_next f.insns p i j window here last)
      (live_passing (j ∷ window) (p + 1) q (at_rest f.insns p i (j ∷ window) at) (leads_rest i j window last) each.1
      (subst (λ n. has_place (flows_to f.insns n (flow_behind (j ∷ window))) q ≡ true) {x = p + suc (length (j ∷ window))} {y = p + 1 + length (j ∷ window)} (omega arith) h) live)

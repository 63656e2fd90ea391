-- Whether a window is equated with what may stand in its place.
use Rattle.std.proofs.Common.{◌≡◌, ℕ, ◌-◌, ◌<◌, ◌≤◌, Bool, true, false, List, length, sym, subst}
use Rattle.std.specs.Prelude.{IfOk, Result, Ok, Err}
use Rattle.rtx_tree.specs.declared.function.Insn.{Insn}
use Rattle.rtx_tree.specs.declared.function.Function.{Function}
use Rattle.live.specs.Live.{AreLiveAfter}
use Rattle.live.proofs.LiveLists.{live_one}
use Rattle.new_insns.specs.Replaced.{window}
use Rattle.equate.specs.Side.{Insns}
use Rattle.equate.specs.Equated.{Equated}
use Rattle.law_window_put.specs.Put.{IsPut}

module _ (f : Function) (first end : ℕ) (new : List Insn) (live : List ℕ) (order : first < end) (within : end ≤ length f.insns) (are : AreLiveAfter f (end - 1) live) (old : List Insn) (is : old ≡ window f first end) where
  put_by : Equated old (Insns new) live → IsPut f first end new
  put_by same = record { order = order; within = within; live = live; are = are; equated = subst (λ (w : List Insn). Equated w (Insns new) live) is same }

  not_put : (Equated old (Insns new) live → ⊥) → IsPut f first end new → ⊥
  not_put other put =
      let lives : put.live ≡ live = live_one f (end - 1) put.live live put.are are in
      other (subst (λ (w : List Insn). Equated w (Insns new) live) (sym is) (subst (λ (l : List ℕ). Equated (window f first end) (Insns new) l) lives put.equated))

  pub put_if : {E : Type 0} (r : Result Bool E) → IfOk r (λ same. same ≡ true → Equated old (Insns new) live) → IfOk r (λ same. same ≡ true → IsPut f first end new)
  put_if (Ok same) told = λ yes. put_by (told yes)
  put_if (Err wrong) told = tt

  pub not_put_if : {E : Type 0} (r : Result Bool E) → IfOk r (λ same. same ≡ false → Equated old (Insns new) live → ⊥) → IfOk r (λ same. same ≡ false → IsPut f first end new → ⊥)
  not_put_if (Ok same) told = λ no. not_put (told no)
  not_put_if (Err wrong) told = tt

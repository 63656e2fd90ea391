-- Two instructions of which the first sets a register that is not live are equated with one.
use Rattle.std.proofs.Common.{◌≡◌, ℕ, suc, ◌<◌, true, false, List, [], ◌∷◌, ◌++◌, Some, None, refl, ap, ◌∙◌}
use Rattle.std.specs.List.{list_all}
use Rattle.rtx_tree.specs.RegSet.{has_reg}
use Rattle.rtx_tree.specs.Registers.{virtual_stack_vars}
use Rattle.rtx_tree.specs.declared.function.Insn.{Insn}
use Rattle.rtx_tree.specs.declared.function.Kind.{Kind}
use Rattle.rtx_tree.specs.declared.function.Kind.TheVariants.{Plain}
use Rattle.term_tree.specs.Tree.{Tree}
use Rattle.sym_state.specs.State.{Changed, State, start, falls, needs_at, is_small_value, is_small_store, is_small_need, is_within}
use Rattle.sym_state.specs.Registers.{changed}
use Rattle.sym_insns.specs.Effects.{Effected, Sets, reg_after, store_after, make, make_all}
use Rattle.sym_insns.specs.Run as insns
use Rattle.sym_diff.specs.Agree.{Agree}
use Rattle.equate.specs.Side.{Insns}
use Rattle.equate.specs.Equated.{Equated}
use Rattle.law_plain_states.proofs.Agreed.{agreed}
use Rattle.law_set_before.specs.Before.{IsSetBefore, SetBefore}
use Rattle.law_set_before.proofs.Frames.{one_runs, two_run, equated_insns}
use Rattle.law_set_before.proofs.Agreed.{others, registers_agree, needs_too}
use Rattle.law_set_before.proofs.Within.{two_of, both, AreSmall, after_small, needs_small}

module _ (k : ℕ) (t : Tree) (e : Effected) (i a b : Insn) (live : List ℕ) (is : IsSetBefore k t e i a b) (high : virtual_stack_vars < suc k) (dead : has_reg live (suc k) ≡ false) where
  -- ---- the states

  abbrev alone : State
  alone = make 0 e start

  abbrev first : State
  first = record { regs = changed (suc k) (Some t) ∷ []; stores = []; jump = falls; call = None; needs = [] }

  abbrev behind : State
  behind = make 1 e first

  comes : insns.after 0 i start ≡ alone
  comes = ap (λ (c : Kind). insns.after_kind c 0 i start) is.plain ∙ ap (λ es. make_all 0 es start) is.alone

  comes_first : insns.after 0 a start ≡ first
  comes_first = ap (λ (c : Kind). insns.after_kind c 0 a start) is.first_plain ∙ ap (λ es. make_all 0 es start) is.sets

  comes_behind : insns.after 1 b first ≡ behind
  comes_behind = ap (λ (c : Kind). insns.after_kind c 1 b first) is.second_plain ∙ ap (λ es. make_all 1 es first) is.behind

  -- ---- they are within the limit

  first_within : is_within first ≡ true
  first_within = both (list_all (λ (c : Changed). is_small_value c.value) (changed (suc k) (Some t) ∷ [])) true (both _ true is.small_value refl) refl

  behind_within : is_within behind ≡ true
  behind_within =
      let regs = two_of (list_all (λ (c : Changed). is_small_value c.value) (reg_after e.effect [])) _ is.small in
      let stores = two_of (list_all is_small_store (store_after e.effect [])) _ regs.1 in
      both (list_all (λ (c : Changed). is_small_value c.value) (reg_after e.effect (changed (suc k) (Some t) ∷ []))) _ (after_small k t is.small_value e.effect regs.0)
      (both (list_all is_small_store (store_after e.effect [])) _ stores.0 (needs_small 0 1 e.needs stores.1))

  -- ---- they agree

  agrees : Agree false live alone behind
  agrees = record {
    registers = registers_agree k live alone behind high dead (others k t e.effect);
    stores = refl;
    jumps = (refl, refl);
    calls = tt;
    needs = needs_too 0 1 e.needs is.had;
  }

  equated_before : Equated (i ∷ []) (Insns (a ∷ b ∷ [])) live
  equated_before =
      equated_insns i (a ∷ b ∷ []) live alone behind (one_runs i alone is.fits comes is.small)
      (two_run a b first behind is.first_fits is.second_fits comes_first first_within comes_behind behind_within) (agreed false live alone behind agrees)

pub set_before : SetBefore
set_before k t e i a b live is high dead = equated_before k t e i a b live is high dead

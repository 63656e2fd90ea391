-- A register that is not live is set, and then a jump leads where it leads alone.
use Rattle.std.proofs.Common.{◌≡◌, ℕ, suc, ◌<◌, ◌==◌, Bool, true, false, ◌&&◌, if◌then◌else◌, List, [], ◌∷◌, ◌++◌, Some, None, refl, ap, ◌∙◌}
use Rattle.std.specs.List.{list_all}
use Rattle.rtx_tree.specs.RegSet.{has_reg}
use Rattle.rtx_tree.specs.Registers.{virtual_stack_vars}
use Rattle.rtx_tree.specs.declared.function.Insn.{Insn}
use Rattle.rtx_tree.specs.declared.function.Kind.{Kind}
use Rattle.term_tree.specs.Tree.{Tree}
use Rattle.term_tree.specs.Small.{is_small}
use Rattle.sym_state.specs.State.{Changed, Need, State, start, falls, needs_at, is_small_value, is_small_need, is_within}
use Rattle.sym_state.specs.State.{Jump as Leads}
use Rattle.sym_state.specs.Registers.{held, changed}
use Rattle.sym_insns.specs.Effects.{make_all}
use Rattle.sym_insns.specs.Run as insns
use Rattle.sym_diff.specs.Agree.{Agree}
use Rattle.equate.specs.Side.{Insns}
use Rattle.equate.specs.Equated.{Equated}
use Rattle.law_plain_states.proofs.Agreed.{agreed}
use Rattle.law_set_before.specs.Before.{goes, IsSetBeforeJump, SetBeforeJump}
use Rattle.law_set_before.proofs.Frames.{one_runs, two_run, equated_insns}
use Rattle.law_set_before.proofs.Agreed.{registers_agree, needs_too}
use Rattle.law_set_before.proofs.Within.{two_of, both, needs_small}

module _ (k : ℕ) (t : Tree) (j : Leads) (needs : List Need) (i a b : Insn) (live : List ℕ) (is : IsSetBeforeJump k t j needs i a b) (high : virtual_stack_vars < suc k) (dead : has_reg live (suc k) ≡ false) where
  abbrev alone : State
  alone = goes j needs 0 start

  abbrev first : State
  first = record { regs = changed (suc k) (Some t) ∷ []; stores = []; jump = falls; call = None; needs = [] }

  abbrev behind : State
  behind = goes j needs 1 first

  comes : insns.after 0 i start ≡ alone
  comes = ap (λ (c : Kind). insns.after_kind c 0 i start) is.jumps ∙ is.alone

  comes_first : insns.after 0 a start ≡ first
  comes_first = ap (λ (c : Kind). insns.after_kind c 0 a start) is.first_plain ∙ ap (λ es. make_all 0 es start) is.sets

  comes_behind : insns.after 1 b first ≡ behind
  comes_behind = ap (λ (c : Kind). insns.after_kind c 1 b first) is.second_jumps ∙ is.behind first refl refl

  first_within : is_within first ≡ true
  first_within = both (list_all (λ (c : Changed). is_small_value c.value) (changed (suc k) (Some t) ∷ [])) true (both _ true is.small_value refl) refl

  behind_within : is_within behind ≡ true
  behind_within =
      let parts = two_of (is_small j.condition) (list_all (λ n. is_small_need n.what) (needs_at 0 needs)) is.small in
      both (list_all (λ (c : Changed). is_small_value c.value) (changed (suc k) (Some t) ∷ [])) _ (both _ true is.small_value refl)
      (both (is_small j.condition) (list_all (λ n. is_small_need n.what) (needs_at 1 needs)) parts.0 (needs_small 0 1 needs parts.1))

  other_held : (q : ℕ) → (suc k == q) ≡ false → held behind.regs q ≡ held alone.regs q
  other_held q other = ap (λ b. if b then Some (Some t) else None) other

  agrees : Agree false live alone behind
  agrees = record {
    registers = registers_agree k live alone behind high dead other_held;
    stores = refl;
    jumps = (refl, refl);
    calls = tt;
    needs = needs_too 0 1 needs is.had;
  }

  equated_before : Equated (i ∷ []) (Insns (a ∷ b ∷ [])) live
  equated_before =
      equated_insns i (a ∷ b ∷ []) live alone behind (one_runs i alone is.fits comes is.small)
      (two_run a b first behind is.first_fits is.second_fits comes_first first_within comes_behind behind_within) (agreed false live alone behind agrees)

pub set_before_jump : SetBeforeJump
set_before_jump k t j needs i a b live is high dead = equated_before k t j needs i a b live is high dead

-- Instructions that can be compared hold no label, and each leads on from its last alone.
use Rattle.std.proofs.Common.{◌≡◌, ℕ, ◌+◌, ◌&&◌, not, Bool, true, false, List, [], ◌∷◌, None, refl, ◌∙◌, ap}
use Rattle.rtx_tree.specs.declared.function.Insn.{Insn}
use Rattle.rtx_tree.specs.declared.function.Kind.{Kind}
use Rattle.rtx_tree.specs.declared.function.Kind.TheVariants as kind
use Rattle.reg_uses.specs.Uses.{is_return}
use Rattle.rtx_tree.specs.Patterns.{is_label_kind}
use Rattle.law_window_kept.specs.Same.{is_plain, leads_last}
use Rattle.law_states_agree.specs.sym_state.State.{State, Runs, start}
use Rattle.law_states_agree.specs.sym_insns.Effects.{has_target}
use Rattle.law_states_agree.specs.sym_insns.Run.{run_from, run}
use Rattle.law_states_agree.specs.sym_insns.Shape.{is_shaped, fits_kind, bad_from, bad_insn}
use Rattle.law_states_agree.proofs.law_insn_terms.Bools.{both_of}
use Rattle.law_states_agree.proofs.law_insn_terms.Ways.{fits_all, does_run}

last_none : (k : Kind) (i : Insn) (last : Bool) → fits_kind k i last ≡ true → not (is_label_kind k) ≡ true
last_none kind.Plain i last fits = refl
last_none kind.Jump i last fits = refl
last_none kind.Call i last fits = refl
last_none kind.Barrier i last fits = refl
last_none kind.Label i last fits = absurd (let no : ⊥ = cc in no)

-- one behind which another stands
more_plain : (k : Kind) (i : Insn) → fits_kind k i false ≡ true → is_plain k ≡ true
more_plain kind.Plain i fits = refl
more_plain kind.Barrier i fits = refl
more_plain kind.Label i fits = absurd (let no : ⊥ = cc in no)
more_plain kind.Jump i fits =
    let last : false ≡ true = (both_of (has_target i.pattern) false (both_of (not (is_return i)) _ (both_of (is_shaped i) _ fits).1).1).1 in absurd (let no : ⊥ = cc in no)
more_plain kind.Call i fits = let last : false ≡ true = (both_of (is_shaped i) false fits).1 in absurd (let no : ⊥ = cc in no)

leads_from : (insns : List Insn) (index : ℕ) → bad_from index insns ≡ None → leads_last insns ≡ true
leads_from [] index bad = refl
leads_from (i ∷ []) index bad = last_none i.kind i true (fits_all index i [] bad).here
leads_from (i ∷ j ∷ insns) index bad =
    let fits = fits_all index i (j ∷ insns) bad in
    ap (λ b. b && leads_last (j ∷ insns)) (more_plain i.kind i fits.here) ∙ leads_from (j ∷ insns) (index + 1) fits.rest

pub runs_lead : (insns : List Insn) (s : State) → run insns ≡ Runs s → leads_last insns ≡ true
runs_lead insns s runs = leads_from insns 0 (does_run (bad_insn insns) (run_from 0 insns start) s runs).fits

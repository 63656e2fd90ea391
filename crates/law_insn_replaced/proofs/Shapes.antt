-- Instructions that can be compared have the shapes that the codes ask for, and registers of natural numbers.
use Rattle.std.proofs.Common.{◌≡◌, ℕ, ◌+◌, ◌&&◌, Bool, true, false, List, [], ◌∷◌, None, refl, ◌∙◌, ap, sym}
use Rattle.std.specs.List.{AllByRecursion}
use Rattle.rtx_tree.specs.declared.function.Insn.{Insn}
use Rattle.rtx_tree.specs.declared.function.Kind.{Kind}
use Rattle.rtx_tree.specs.declared.function.Kind.TheVariants as kind
use Rattle.law_pass_needs.specs.sym_state.State.{State, Runs, start}
use Rattle.law_pass_needs.specs.sym_insns.Run.{run_from, run}
use Rattle.law_pass_needs.specs.sym_insns.Shape.{is_shaped, fits_kind, is_end, bad_from, bad_insn}
use Rattle.insn_replace.proofs.law_insn_terms.Bools.{both_of}
use Rattle.insn_replace.proofs.law_insn_terms.Ways.{fits_all, does_run}

-- it is no barrier
abbrev pub IsNoBarrier : Insn → Type 0
IsNoBarrier i = i.kind ≡ kind.Barrier → ⊥

abbrev pub IsShaped : Insn → Type 0
IsShaped i = is_shaped i ≡ true

shaped : (k : Kind) (i : Insn) (last : Bool) → (k ≡ kind.Barrier → ⊥) → fits_kind k i last ≡ true → IsShaped i
shaped kind.Plain i last other fits = fits
shaped kind.Jump i last other fits = (both_of (is_shaped i) _ fits).0
shaped kind.Call i last other fits = (both_of (is_shaped i) last fits).0
shaped kind.Barrier i last other fits = absurd (other refl)
shaped kind.Label i last other fits = absurd (let no : ⊥ = cc in no)

shaped_from : (insns : List Insn) (index : ℕ) → AllByRecursion IsNoBarrier insns → bad_from index insns ≡ None → AllByRecursion IsShaped insns
shaped_from [] index other bad = tt
shaped_from (i ∷ insns) index other bad =
    let fits = fits_all index i insns bad in (shaped i.kind i (is_end insns) other.0 fits.here, shaped_from insns (index + 1) other.1 fits.rest)

pub runs_shaped : (insns : List Insn) (s : State) → AllByRecursion IsNoBarrier insns → run insns ≡ Runs s → AllByRecursion IsShaped insns
runs_shaped insns s other runs = shaped_from insns 0 other (does_run (bad_insn insns) (run_from 0 insns start) s runs).fits

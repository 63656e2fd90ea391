-- What two instructions come to, and when they are equated with one.
use Rattle.std.proofs.Common.{◌≡◌, ℕ, Bool, true, false, ◌&&◌, if◌then◌else◌, List, [], ◌∷◌, Some, None, refl, ap, ◌∙◌}
use Rattle.rtx_tree.specs.declared.function.Insn.{Insn}
use Rattle.sym_state.specs.State.{State, Runs, start, is_within, ran}
use Rattle.sym_insns.specs.Run as insns
use Rattle.sym_insns.specs.Shape.{fits_kind, bad_from}
use Rattle.sym_diff.specs.States.{difference}
use Rattle.equate.specs.Side.{Insns, is_one_return}
use Rattle.equate.specs.Verdict.{Same}
use Rattle.equate.specs.Equated.{Equated, judged, told}

and_none : (p : Bool) → (p && false) ≡ false
and_none true = refl
and_none false = refl

pub one_runs : (i : Insn) (s : State) → fits_kind i.kind i true ≡ true → insns.after 0 i start ≡ s → is_within s ≡ true → insns.run (i ∷ []) ≡ Runs s
one_runs i s fits comes small =
    ap (λ b. ran (if b then None else Some 0) (insns.run_from 0 (i ∷ []) start)) fits ∙
    (ap (λ (n : State). ran None (if is_within n then Some n else None)) comes ∙ ap (λ b. ran None (if b then Some s else None)) small)

pub two_run : (a b : Insn) (s t : State) → fits_kind a.kind a false ≡ true → fits_kind b.kind b true ≡ true → insns.after 0 a start ≡ s → is_within s ≡ true → insns.after 1 b s ≡ t → is_within t ≡ true →
    insns.run (a ∷ b ∷ []) ≡ Runs t
two_run a b s t one two first small second small_too =
    ap (λ c. ran (if c then bad_from 1 (b ∷ []) else Some 0) (insns.run_from 0 (a ∷ b ∷ []) start)) one ∙
    (ap (λ c. ran (if c then None else Some 1) (insns.run_from 0 (a ∷ b ∷ []) start)) two ∙
    (ap (λ (n : State). ran None (if is_within n then insns.run_from 1 (b ∷ []) n else None)) first ∙
    (ap (λ c. ran None (if c then insns.run_from 1 (b ∷ []) s else None)) small ∙
    (ap (λ (n : State). ran None (if is_within n then Some n else None)) second ∙ ap (λ c. ran None (if c then Some t else None)) small_too))))

pub equated_insns : (i : Insn) (made : List Insn) (live : List ℕ) (a b : State) → insns.run (i ∷ []) ≡ Runs a → insns.run made ≡ Runs b → difference false live a b ≡ None → Equated (i ∷ []) (Insns made) live
equated_insns i made live a b comes goes same =
    ap (λ r. if r then Same else judged false live (insns.run (i ∷ [])) (insns.run made)) (and_none (is_one_return (i ∷ []))) ∙
    (ap (λ r. judged false live r (insns.run made)) comes ∙ (ap (λ r. judged false live (Runs a) r) goes ∙ ap told same))

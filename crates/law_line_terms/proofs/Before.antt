-- What is met behind a line was met before it: stores and needs only grow, and those of the line are among the last.
use Rattle.std.proofs.Common.{◌≡◌, ℕ, suc, ◌+◌, ◌&&◌, Bool, true, false, List, [], ◌∷◌, ◌++◌, length, Option, Some, None, refl, sym, ◌∙◌, ap, subst, arith}
use Rattle.std.specs.Prelude.{if◌then◌else◌}
use Rattle.std.proofs.lemmas.List.Folds.{list_all-append}
use Rattle.rv_text.specs.Lines.{action_of}
use Rattle.rv_text.specs.declared.action.Action.{Action}
use Rattle.rv_text.specs.declared.action.Action.TheVariants as action
use Rattle.rv_text.specs.declared.line.Line.{Line}
use Rattle.rv_text.proofs.Numbers.{and_true}
use Rattle.term_mean.specs.Meaning.{Valuation}
use Rattle.term_mean.specs.Stores.{Store, Follow, Stored}
use Rattle.sym_lines.specs.sym_state.State.{State, Need, NeedAt, Symbol, is_within, needs_at}
use Rattle.sym_lines.specs.Step.{act}
use Rattle.sym_lines.specs.Run.{act_as, after, run_from}
use Rattle.law_insn_terms.specs.Needs.{First, is_met, are_met}
use Rattle.law_insn_terms.specs.Means.{all_met}
use Rattle.law_insn_terms.proofs.Memories.{IsNext}

-- ---- the last store

follow_front : (v : Valuation) (n : ℕ) (stores : List Store) (s : Store) → Follow v n (stores ++ s ∷ []) → Follow v n stores × IsNext v (n + length stores) s
follow_front v n [] s follows = let here : n ≡ n + 0 = omega arith in (tt, subst (λ k. IsNext v k s) here follows.0)
follow_front v n (t ∷ stores) s follows =
    let front = follow_front v (suc n) stores s follows.1 in
    let there : suc n + length stores ≡ n + suc (length stores) = omega arith in
    ((follows.0, front.0), subst (λ k. IsNext v k s) there front.1)

pub stored_front : (v : Valuation) (stores : List Store) (s : Store) → Stored v (stores ++ s ∷ []) → Stored v stores × IsNext v (length stores) s
stored_front v stores s stored =
    let front = follow_front v 0 stores s stored in
    let count : 0 + length stores ≡ length stores = omega arith in
    (front.0, subst (λ k. IsNext v k s) count front.1)

-- ---- the last needs

module _ (v : Valuation) (f : First) where
  met_at : (index : ℕ) (needs : List Need) → all_met v f (needs_at index needs) ≡ are_met v f needs
  met_at index [] = refl
  met_at index (n ∷ needs) = ap (λ b. is_met v f n && b) (met_at index needs)

  pub met_front : (index : ℕ) (before : List NeedAt) (needs : List Need) → all_met v f (before ++ needs_at index needs) ≡ true → (all_met v f before ≡ true) × (are_met v f needs ≡ true)
  met_front index before needs met =
      let parts = and_true (all_met v f before) (all_met v f (needs_at index needs)) (sym (list_all-append (λ n. is_met v f n.what) before (needs_at index needs)) ∙ met) in
      (parts.0, sym (met_at index needs) ∙ parts.1)

  -- ---- the state before a line

  -- the valuation has the stores of a state, and its needs are met
  pub record IsHad (s : State) : Type 0 where
    pub stored : Stored v s.stores
    pub met : all_met v f s.needs ≡ true

  pub had_before : (a : Action) (index : ℕ) (uid : Option ℕ) (l : Line) (s : State) → IsHad (act a index uid l s) → IsHad s
  had_before (action.Compute operation w left right) index uid l s had = record { stored = had.stored; met = (met_front index s.needs _ had.met).0 }
  had_before (action.Load w extension) index uid l s had = record { stored = had.stored; met = (met_front index s.needs _ had.met).0 }
  had_before (action.Store w) index uid l s had = record { stored = (stored_front v s.stores _ had.stored).0; met = (met_front index s.needs _ had.met).0 }
  had_before action.SymbolAddress index uid l s had = record { stored = had.stored; met = (met_front index s.needs (Symbol l.target ∷ []) had.met).0 }
  had_before (action.Branch comparison left right) index uid l s had = record { stored = had.stored; met = (met_front index s.needs _ had.met).0 }
  had_before action.Jump index uid l s had = record { stored = had.stored; met = (met_front index s.needs [] had.met).0 }
  had_before action.Call index uid l s had = record { stored = had.stored; met = (met_front index s.needs (Symbol l.target ∷ []) had.met).0 }
  had_before action.CallRegister index uid l s had = record { stored = had.stored; met = (met_front index s.needs _ had.met).0 }
  had_before (action.Return through) index uid l s had = had

  had_at : (o : Option Action) (function index : ℕ) (l : Line) (s : State) → IsHad (act_as o function index l s) → IsHad s
  had_at None function index l s had = had
  had_at (Some a) function index l s had = had_before a index _ l s had

  -- what is met behind lines was met before them
  pub had_at_first : (function : ℕ) (lines : List Line) (index : ℕ) (s end : State) → run_from function index lines s ≡ Some end → IsHad end → IsHad s
  had_at_first function [] index s end runs had = let same : s ≡ end = cc in subst (λ s. IsHad s) (sym same) had
  had_at_first function (l ∷ lines) index s end runs had =
      had_at (action_of l) function index l s (by (is_within next) runs (λ runs. had_at_first function lines (index + 1) next end runs had))
    where
      next : State
      next = after function index l s

      by : (b : Bool) → (if b then run_from function (index + 1) lines next else None) ≡ Some end → (run_from function (index + 1) lines next ≡ Some end → IsHad next) → IsHad next
      by true runs further = further runs
      by false runs further = absurd (let no : ⊥ = cc in no)

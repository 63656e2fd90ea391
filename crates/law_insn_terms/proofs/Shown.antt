-- Where the needs of the symbolic state of instructions are met, they come to what it means.
use Rattle.std.proofs.lemmas.List.{append_assoc}
use Rattle.std.proofs.lemmas.Bool.Decides.{nat_tests}
use Rattle.std.proofs.Common.{◌≡◌, ℕ, ◌+◌, ◌==◌, ◌%◌, ◌&&◌, not, true, false, List, [], ◌∷◌, ◌++◌, length, Some, None, refl, sym, ◌∙◌, ap, subst, arith}
use Rattle.std.specs.Prelude.{if◌then◌else◌, option_map, option_and_then}
use Rattle.rtx_tree.specs.declared.function.Insn.{Insn}
use Rattle.rtx_tree.specs.declared.function.Kind.{Kind}
use Rattle.rtx_tree.specs.declared.function.Kind.TheVariants as kind
use Rattle.rtx_tree.specs.declared.machine.RangeAt.{RangeAt}
use Rattle.rtx_tree.specs.declared.memories.MemByte.{MemByte}
use Rattle.rtl_step.specs.Regs.{Regs}
use Rattle.rtl_step.specs.Effect.{effects_of, regs_after, memory_after}
use Rattle.rtl_step.specs.declared.effect.Effect.{Effect}
use Rattle.reg_uses.specs.Uses.{is_return}
use Rattle.term_mean.specs.Meaning.{Valuation, mean}
use Rattle.term_mean.specs.Stores.{Follow, Stored}
use Rattle.law_window_runs.specs.Insns.{Falls, Calls, InsnsCome, come_to, come_after, insn_comes, insns_come}
use Rattle.sym_insns.specs.sym_state.State.{State}
use Rattle.sym_insns.specs.Effects as spec
use Rattle.sym_insns.specs.Run.{after_kind, run_from}
use Rattle.sym_insns.specs.Shape.{is_shaped, is_end, fits_kind, bad_from}
use Rattle.law_insn_terms.specs.Needs.{First, are_met}
use Rattle.law_insn_terms.specs.Shows.{IsOf}
use Rattle.law_insn_terms.specs.Means.{all_met, Means, IsAligned, Comes}
use Rattle.law_insn_terms.proofs.CallShapes.{call_width}
use Rattle.law_insn_terms.proofs.CallSteps.{target_made, event_made, is_made, called}
use Rattle.law_insn_terms.proofs.Ends.{Way, fallen, jump_means, call_means, last_on}
use Rattle.law_insn_terms.proofs.Growth.{new_stores, made_needs, made_stores, goes_from, run_grows, met_before, met_new}
use Rattle.law_insn_terms.proofs.JumpSteps.{leads_to, jumped}
use Rattle.law_insn_terms.proofs.Plain.{all_needs, all_meant, AllLeadOn}
use Rattle.law_insn_terms.proofs.Values.{both_met}
use Rattle.law_insn_terms.proofs.Writes.{leads_by}
use Rattle.law_insn_terms.proofs.Ways.{jump_of, call_of, fits_all, follow_behind, rest_of, plain_way, plain_is}
use Rattle.law_window_runs.specs.Insns.{InsnsEnd}
use Rattle.sym_insns.specs.Value.{Made}
use Rattle.law_insn_terms.proofs.Bools.{both_of, not_true}

module _ (v : Valuation) (f : First) (ranges : List RangeAt) (of : IsOf v f) where
  -- ---- where the run has to be shown

  abbrev ComesFrom : List Insn → Type 0
  ComesFrom insns =
      (index : ℕ) (s t : State) (regs : Regs) (memory : List MemByte) → bad_from index insns ≡ None → run_from index insns s ≡ Some t → Way v f s regs memory →
      Stored v t.stores → all_met v f t.needs ≡ true → IsAligned v t.call → Comes v f ranges t (insns_come f.symbols ranges insns regs memory)

  abbrev KindComes : Kind → Insn → List Insn → Type 0
  KindComes k i insns =
      (index : ℕ) (s t : State) (regs : Regs) (memory : List MemByte) → fits_kind k i (is_end insns) ≡ true → bad_from (index + 1) insns ≡ None →
      run_from (index + 1) insns (after_kind k index i s) ≡ Some t → Way v f s regs memory →
      Stored v t.stores → all_met v f t.needs ≡ true → IsAligned v t.call → Comes v f ranges t (option_and_then (rest_of f ranges insns) (insn_comes k f.symbols ranges i regs memory))

  plain_comes : (i : Insn) (insns : List Insn) → ComesFrom insns → KindComes kind.Plain i insns
  plain_comes i insns on index s t regs memory fits bad goes way stored met aligned =
      let es : List spec.Effected = spec.effects_of s.regs s.stores i.pattern in
      let done : List Effect = all_meant v es in
      let next : State = spec.after_plain index i.pattern s in
      let grows = run_grows insns (index + 1) next t goes in
      let then_met : all_met v f next.needs ≡ true = met_before v f next t grows met in
      let all : are_met v f (all_needs es) ≡ true = met_new v f s.needs index (all_needs es) (ap (all_met v f) (sym (made_needs index es s)) ∙ then_met) in
      let stores_are : t.stores ≡ s.stores ++ (new_stores es ++ grows.more_stores) =
      grows.stores_are ∙ (ap (λ ss. ss ++ grows.more_stores) (made_stores index es s) ∙ append_assoc s.stores (new_stores es) grows.more_stores) in
      let behind : Follow v (0 + length s.stores) (new_stores es ++ grows.more_stores) =
      follow_behind v s.stores (new_stores es ++ grows.more_stores) 0 (subst (λ ss. Follow v 0 ss) stores_are stored) in
      let leads : AllLeadOn v f s.stores es = leads_by v f es s.stores grows.more_stores (subst (λ n. Follow v n (new_stores es ++ grows.more_stores)) (plus (length s.stores)) behind) in
      let here : effects_of f.symbols regs memory i.pattern ≡ Some done = plain_is v f of i s regs memory way true all in
      let rest = on (index + 1) next t (regs_after done regs) (memory_after done memory) bad goes (plain_way v f of index i s regs memory way all leads) stored met aligned in record {
        come = rest.come;
        comes = ap (λ o. option_and_then (rest_of f ranges insns) (option_map (come_after regs memory) o)) here ∙ rest.comes;
        means = rest.means;
      }
    where
      plus : (k : ℕ) → 0 + k ≡ k
      plus k = omega arith

  jump_comes : (i : Insn) → i.kind ≡ kind.Jump → KindComes kind.Jump i []
  jump_comes i jumps index s t regs memory fits bad goes way stored met aligned =
      let first = both_of (is_shaped i) _ fits in
      let rest = both_of (not (is_return i)) _ first.1 in
      let j = jumped v f s ranges regs memory of way.shows i (jump_of i first.0 jumps (not_true (is_return i) rest.0)) in
      let ending : InsnsEnd = leads_to (mean v j.test.term) j.uid in
      let next : InsnsCome = come_to regs memory ending in
      let gone : spec.after_jump index i.pattern s ≡ t = cc in
      let t_is : spec.jumps index j.test j.label s ≡ t = sym (j.after_is index) ∙ gone in
      let all : are_met v f j.test.needs ≡ true = met_new v f s.needs index j.test.needs (subst (λ t. all_met v f t.needs ≡ true) (sym t_is) met) in
      let here : insn_comes kind.Jump f.symbols ranges i regs memory ≡ Some next = j.comes_is ∙ ap (λ b. if b then Some next else None) all in record {
        come = next;
        comes = ap (option_and_then (rest_of f ranges [])) here ∙ last_on f ranges regs memory ending;
        means = subst (λ t. Means v f ranges t next) t_is (jump_means v f ranges s regs memory way index j.test j.label j.uid j.label_is);
      }

  multiple : (number : ℕ) → number % 4 ≡ 0 → (number % 4 == 0) ≡ true
  multiple number is = grind (arith, nat_tests, is)

  call_comes : (i : Insn) → i.kind ≡ kind.Call → KindComes kind.Call i []
  call_comes i calls index s t regs memory fits bad goes way stored met aligned =
      let w = call_width i.pattern (call_of i (both_of (is_shaped i) _ fits).0 calls) in
      let target : Made = target_made v f s ranges regs memory of way.shows i in
      let next : InsnsCome = come_to regs memory (Calls (event_made v f s ranges regs memory of way.shows i) w.width) in
      let t_is : spec.after_call index i.pattern i.uses s ≡ t = cc in
      let all : are_met v f (target.needs ++ spec.args_needs s.regs i.uses) ≡ true =
      met_new v f s.needs index (target.needs ++ spec.args_needs s.regs i.uses) (subst (λ t. all_met v f t.needs ≡ true) (sym t_is) met) in
      let parts = both_of _ _ (sym (both_met v f target.needs (spec.args_needs s.regs i.uses)) ∙ all) in
      let fits_target : (mean v target.term % 4 == 0) ≡ true = multiple (mean v target.term) (subst (λ t. IsAligned v t.call) (sym t_is) aligned) in
      let made : is_made v f s ranges regs memory of way.shows i ≡ true =
      ap (λ b. b && ((mean v target.term % 4 == 0) && are_met v f (spec.args_needs s.regs i.uses))) parts.0
      ∙ (ap (λ b. b && are_met v f (spec.args_needs s.regs i.uses)) fits_target ∙ parts.1) in
      let here : insn_comes kind.Call f.symbols ranges i regs memory ≡ Some next =
      called v f s ranges regs memory of way.shows i w.width w.width_is ∙ ap (λ b. if b then Some next else None) made in record {
        come = next;
        comes = ap (option_and_then (rest_of f ranges [])) here;
        means = subst (λ t. Means v f ranges t next) t_is (call_means v f ranges s regs memory way of index i w.width w.width_is made);
      }

  jump_more : (i j : Insn) (insns : List Insn) → KindComes kind.Jump i (j ∷ insns)
  jump_more i j insns index s t regs memory fits bad goes way stored met aligned =
      let last : false ≡ true = (both_of (spec.has_target i.pattern) false (both_of (not (is_return i)) _ (both_of (is_shaped i) _ fits).1).1).1 in absurd (let no : ⊥ = cc in no)

  call_more : (i j : Insn) (insns : List Insn) → KindComes kind.Call i (j ∷ insns)
  call_more i j insns index s t regs memory fits bad goes way stored met aligned =
      let last : false ≡ true = (both_of (is_shaped i) false fits).1 in absurd (let no : ⊥ = cc in no)

  label_none : (i : Insn) (insns : List Insn) → KindComes kind.Label i insns
  label_none i insns index s t regs memory fits bad goes way stored met aligned = absurd (let no : ⊥ = cc in no)

  barrier_passed : (i : Insn) (insns : List Insn) → ComesFrom insns → KindComes kind.Barrier i insns
  barrier_passed i insns on index s t regs memory fits bad goes way stored met aligned = on (index + 1) s t regs memory bad goes way stored met aligned

  kind_comes : (k : Kind) (i : Insn) (insns : List Insn) → i.kind ≡ k → ComesFrom insns → KindComes k i insns
  kind_comes kind.Plain i insns is on = plain_comes i insns on
  kind_comes kind.Jump i [] is on = jump_comes i is
  kind_comes kind.Jump i (j ∷ insns) is on = jump_more i j insns
  kind_comes kind.Call i [] is on = call_comes i is
  kind_comes kind.Call i (j ∷ insns) is on = call_more i j insns
  kind_comes kind.Label i insns is on = label_none i insns
  kind_comes kind.Barrier i insns is on = barrier_passed i insns on

  pub comes_from : (insns : List Insn) → ComesFrom insns
  comes_from [] index s t regs memory bad goes way stored met aligned =
      let t_is : s ≡ t = cc in
      subst (λ t. Comes v f ranges t (Some (come_to regs memory Falls))) t_is (record { come = come_to regs memory Falls; comes = refl; means = fallen v f ranges s regs memory way })
  comes_from (i ∷ insns) index s t regs memory bad goes way stored met aligned =
      let fits = fits_all index i insns bad in
      kind_comes i.kind i insns refl (comes_from insns) index s t regs memory fits.here fits.rest (goes_from insns index i s t goes) way stored met aligned

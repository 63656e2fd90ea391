-- Where instructions come to something, the needs of their symbolic state were met, and it means what they come to.
use Rattle.std.proofs.lemmas.List.{append-nil, length-append}
use Rattle.std.proofs.Common.{◌≡◌, ℕ, ◌+◌, not, Bool, true, false, List, [], ◌∷◌, ◌++◌, length, Some, None, refl, sym, ◌∙◌, ap, subst}
use Rattle.std.specs.Prelude.{if◌then◌else◌, option_map, option_and_then}
use Rattle.rtx_tree.specs.declared.function.Insn.{Insn}
use Rattle.rtx_tree.specs.declared.function.Kind.{Kind}
use Rattle.rtx_tree.specs.declared.function.Kind.TheVariants as kind
use Rattle.rtx_tree.specs.declared.machine.RangeAt.{RangeAt}
use Rattle.rtx_tree.specs.declared.memories.MemByte.{MemByte}
use Rattle.rtl_step.specs.Regs.{Regs}
use Rattle.rtl_step.specs.Call as call
use Rattle.rtl_step.specs.Effect.{effects_of, regs_after, memory_after}
use Rattle.rtl_step.specs.declared.effect.Effect.{Effect}
use Rattle.reg_uses.specs.Uses.{is_return}
use Rattle.term_mean.specs.Meaning.{Valuation, mean}
use Rattle.term_mean.specs.Stores.{Follow}
use Rattle.law_window_runs.specs.Insns.{Falls, Calls, InsnsCome, come_to, come_after, insn_comes, insns_come}
use Rattle.sym_insns.specs.sym_state.State.{State}
use Rattle.sym_insns.specs.Effects as spec
use Rattle.sym_insns.specs.Run.{after_kind, run_from}
use Rattle.sym_insns.specs.Shape.{is_shaped, is_end, fits_kind, bad_from}
use Rattle.law_insn_terms.specs.Needs.{First, are_met}
use Rattle.law_insn_terms.specs.Shows.{IsOf}
use Rattle.law_insn_terms.specs.Means.{all_met, Means}
use Rattle.law_insn_terms.proofs.CallShapes.{HasWidth, call_width}
use Rattle.law_insn_terms.proofs.CallSteps.{target_made, event_made, is_made, called}
use Rattle.law_insn_terms.proofs.Ends.{Way, fallen, jump_means, call_means, call_needs, last_on}
use Rattle.law_insn_terms.proofs.Growth.{new_stores, made_needs, made_stores, goes_from, met_then}
use Rattle.law_insn_terms.proofs.JumpSteps.{Jumped, leads_to, jumped}
use Rattle.law_insn_terms.proofs.Plain.{all_needs, all_meant, AllLeadOn}
use Rattle.law_insn_terms.proofs.Writes.{writes_on, writes_by, run_writes, FollowWrites, leads_by, followed}
use Rattle.law_insn_terms.proofs.Ways.{jump_of, call_of, fits_all, rest_of, plain_way, plain_is}
use Rattle.law_insn_terms.proofs.Bools.{both_of, not_true}

module _ (v : Valuation) (f : First) (ranges : List RangeAt) (of : IsOf v f) where
  -- ---- where the run is known

  pub record MeansOn (t : State) (came : InsnsCome) : Type 0 where
    pub met : all_met v f t.needs ≡ true
    pub means : Means v f ranges t came

  abbrev MeansFrom : List Insn → Type 0
  MeansFrom insns =
      (index : ℕ) (s t : State) (regs : Regs) (memory : List MemByte) (came : InsnsCome) → bad_from index insns ≡ None → run_from index insns s ≡ Some t →
      insns_come f.symbols ranges insns regs memory ≡ Some came → Way v f s regs memory → all_met v f s.needs ≡ true → FollowWrites v.memory (length s.stores) (run_writes f.symbols insns regs memory) →
      MeansOn t came

  abbrev KindMeans : Kind → Insn → List Insn → Type 0
  KindMeans k i insns =
      (index : ℕ) (s t : State) (regs : Regs) (memory : List MemByte) (came : InsnsCome) → fits_kind k i (is_end insns) ≡ true → bad_from (index + 1) insns ≡ None →
      run_from (index + 1) insns (after_kind k index i s) ≡ Some t →
      option_and_then (rest_of f ranges insns) (insn_comes k f.symbols ranges i regs memory) ≡ Some came → Way v f s regs memory → all_met v f s.needs ≡ true →
      FollowWrites v.memory (length s.stores) (writes_by k f.symbols i regs memory (run_writes f.symbols insns)) → MeansOn t came

  plain_means : (i : Insn) (insns : List Insn) → MeansFrom insns → KindMeans kind.Plain i insns
  plain_means i insns on index s t regs memory came fits bad goes comes way met follows = by (are_met v f (all_needs es)) refl
    where
      es : List spec.Effected
      es = spec.effects_of s.regs s.stores i.pattern

      done : List Effect
      done = all_meant v es

      by : (b : Bool) → are_met v f (all_needs es) ≡ b → MeansOn t came
      by false none =
          let nothing : effects_of f.symbols regs memory i.pattern ≡ None = plain_is v f of i s regs memory way false none in
          let fails : None ≡ Some came = sym (ap (λ o. option_and_then (rest_of f ranges insns) (option_map (come_after regs memory) o)) nothing) ∙ comes in
          absurd (let no : ⊥ = cc in no)
      by true all =
          let here : effects_of f.symbols regs memory i.pattern ≡ Some done = plain_is v f of i s regs memory way true all in
          let rest : insns_come f.symbols ranges insns (regs_after done regs) (memory_after done memory) ≡ Some came =
          sym (ap (λ o. option_and_then (rest_of f ranges insns) (option_map (come_after regs memory) o)) here) ∙ comes in
          let written = followed v f es (length s.stores) (run_writes f.symbols insns (regs_after done regs) (memory_after done memory))
          (subst (λ o. FollowWrites v.memory (length s.stores) (writes_on o regs memory (run_writes f.symbols insns))) here follows) in
          let leads : AllLeadOn v f s.stores es = leads_by v f es s.stores [] (subst (λ ss. Follow v (length s.stores) ss) (sym (append-nil (new_stores es))) written.stores) in
          let long : length s.stores + length (new_stores es) ≡ length (spec.after_plain index i.pattern s).stores = sym (ap length (made_stores index es s) ∙ length-append s.stores (new_stores es)) in
          on (index + 1) (spec.after_plain index i.pattern s) t (regs_after done regs) (memory_after done memory) came bad goes rest
          (plain_way v f of index i s regs memory way all leads)
          (ap (all_met v f) (made_needs index es s) ∙ met_then v f s.needs index (all_needs es) met all)
          (subst (λ n. FollowWrites v.memory n (run_writes f.symbols insns (regs_after done regs) (memory_after done memory))) long written.rest)

  jump_meant : (i : Insn) → i.kind ≡ kind.Jump → KindMeans kind.Jump i []
  jump_meant i jumps index s t regs memory came fits bad goes comes way met follows = by (are_met v f j.test.needs) refl
    where
      j : Jumped v f s ranges regs memory i
      j =
          let first = both_of (is_shaped i) _ fits in
          let rest = both_of (not (is_return i)) _ first.1 in
          jumped v f s ranges regs memory of way.shows i (jump_of i first.0 jumps (not_true (is_return i) rest.0))

      next : InsnsCome
      next = come_to regs memory (leads_to (mean v j.test.term) j.uid)

      comes_by : (b : Bool) → are_met v f j.test.needs ≡ b → insn_comes kind.Jump f.symbols ranges i regs memory ≡ (if b then Some next else None)
      comes_by b is = j.comes_is ∙ ap (λ b. if b then Some next else None) is

      by : (b : Bool) → are_met v f j.test.needs ≡ b → MeansOn t came
      by false none =
          let fails : None ≡ Some came = sym (ap (option_and_then (rest_of f ranges [])) (comes_by false none)) ∙ comes in
          absurd (let no : ⊥ = cc in no)
      by true all =
          let ends : Some next ≡ Some came = sym (last_on f ranges regs memory (leads_to (mean v j.test.term) j.uid)) ∙ (sym (ap (option_and_then (rest_of f ranges [])) (comes_by true all)) ∙ comes) in
          let came_is : next ≡ came = cc in
          let gone : spec.after_jump index i.pattern s ≡ t = cc in
          let t_is : spec.jumps index j.test j.label s ≡ t = sym (j.after_is index) ∙ gone in
          subst (λ t. MeansOn t came) t_is (subst (λ c. MeansOn (spec.jumps index j.test j.label s) c) came_is (record {
            met = met_then v f s.needs index j.test.needs met all;
            means = jump_means v f ranges s regs memory way index j.test j.label j.uid j.label_is;
          }))

  call_meant : (i : Insn) → i.kind ≡ kind.Call → KindMeans kind.Call i []
  call_meant i calls index s t regs memory came fits bad goes comes way met follows = by (is_made v f s ranges regs memory of way.shows i) refl
    where
      w : HasWidth (call.result_width i.pattern)
      w = call_width i.pattern (call_of i (both_of (is_shaped i) _ fits).0 calls)

      next : InsnsCome
      next = come_to regs memory (Calls (event_made v f s ranges regs memory of way.shows i) w.width)

      comes_by : (b : Bool) → is_made v f s ranges regs memory of way.shows i ≡ b → insn_comes kind.Call f.symbols ranges i regs memory ≡ (if b then Some next else None)
      comes_by b is = called v f s ranges regs memory of way.shows i w.width w.width_is ∙ ap (λ b. if b then Some next else None) is

      by : (b : Bool) → is_made v f s ranges regs memory of way.shows i ≡ b → MeansOn t came
      by false none =
          let fails : None ≡ Some came = sym (ap (option_and_then (rest_of f ranges [])) (comes_by false none)) ∙ comes in
          absurd (let no : ⊥ = cc in no)
      by true all =
          let ends : Some next ≡ Some came = sym (ap (option_and_then (rest_of f ranges [])) (comes_by true all)) ∙ comes in
          let came_is : next ≡ came = cc in
          let t_is : spec.after_call index i.pattern i.uses s ≡ t = cc in
          subst (λ t. MeansOn t came) t_is (subst (λ c. MeansOn (spec.after_call index i.pattern i.uses s) c) came_is (record {
            met = met_then v f s.needs index ((target_made v f s ranges regs memory of way.shows i).needs ++ spec.args_needs s.regs i.uses) met (call_needs v f ranges s regs memory way of i all);
            means = call_means v f ranges s regs memory way of index i w.width w.width_is all;
          }))

  jump_more : (i j : Insn) (insns : List Insn) → KindMeans kind.Jump i (j ∷ insns)
  jump_more i j insns index s t regs memory came fits bad goes comes way met follows =
      let last : false ≡ true = (both_of (spec.has_target i.pattern) false (both_of (not (is_return i)) _ (both_of (is_shaped i) _ fits).1).1).1 in absurd (let no : ⊥ = cc in no)

  call_more : (i j : Insn) (insns : List Insn) → KindMeans kind.Call i (j ∷ insns)
  call_more i j insns index s t regs memory came fits bad goes comes way met follows =
      let last : false ≡ true = (both_of (is_shaped i) false fits).1 in absurd (let no : ⊥ = cc in no)

  label_none : (i : Insn) (insns : List Insn) → KindMeans kind.Label i insns
  label_none i insns index s t regs memory came fits bad goes comes way met follows = absurd (let no : ⊥ = cc in no)

  barrier_passed : (i : Insn) (insns : List Insn) → MeansFrom insns → KindMeans kind.Barrier i insns
  barrier_passed i insns on index s t regs memory came fits bad goes comes way met follows = on (index + 1) s t regs memory came bad goes comes way met follows

  kind_means : (k : Kind) (i : Insn) (insns : List Insn) → i.kind ≡ k → MeansFrom insns → KindMeans k i insns
  kind_means kind.Plain i insns is on = plain_means i insns on
  kind_means kind.Jump i [] is on = jump_meant i is
  kind_means kind.Jump i (j ∷ insns) is on = jump_more i j insns
  kind_means kind.Call i [] is on = call_meant i is
  kind_means kind.Call i (j ∷ insns) is on = call_more i j insns
  kind_means kind.Label i insns is on = label_none i insns
  kind_means kind.Barrier i insns is on = barrier_passed i insns on

  pub means_from : (insns : List Insn) → MeansFrom insns
  means_from [] index s t regs memory came bad goes comes way met follows =
      let t_is : s ≡ t = cc in
      let came_is : come_to regs memory Falls ≡ came = cc in
      subst (λ t. MeansOn t came) t_is (subst (λ c. MeansOn s c) came_is (record { met = met; means = fallen v f ranges s regs memory way }))
  means_from (i ∷ insns) index s t regs memory came bad goes comes way met follows =
      let fits = fits_all index i insns bad in
      kind_means i.kind i insns refl (means_from insns) index s t regs memory came fits.here fits.rest (goes_from insns index i s t goes) comes way met follows

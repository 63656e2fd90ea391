-- Instructions that agree with a window jump to no label but that of its jump.
use Rattle.std.proofs.Common.{◌≡◌, ◌⊎◌, ⊎_elim, inl, inr, ℕ, ◌+◌, ◌&&◌, not, Bool, true, false, if◌then◌else◌, List, [], ◌∷◌, Option, Some, None, is_some, refl, sym, ap, subst, ◌∙◌}
use Rattle.std.specs.Prelude.{option_and_then}
use Rattle.std.specs.List.{AllByRecursion}
use Rattle.std.proofs.lemmas.Bool.{false≢true, true≢false}
use Rattle.rtx_tree.specs.declared.code.Code.TheVariants.{Set, IfThenElse}
use Rattle.rtx_tree.specs.declared.function.Insn.{Insn}
use Rattle.rtx_tree.specs.declared.function.Kind.{Kind}
use Rattle.rtx_tree.specs.declared.function.Kind.TheVariants as kind
use Rattle.rtx_tree.specs.declared.tree.Rtx.{Rtx, out-Rtx}
use Rattle.rtx_tree.specs.Patterns.{label_of, place_of}
use Rattle.rtl_func.specs.declared.flow.Flow.{Flow}
use Rattle.rtl_func.specs.declared.flow.Flow.TheVariants.{Goes, Branches, Stops}
use Rattle.rtl_func.specs.Successors.{goes_to, branches_to, source_flow_by, source_flow, jump_flow_by, jump_flow}
use Rattle.reg_uses.specs.Uses.{is_return}
use Rattle.term_tree.specs.Tree.{width_of}
use Rattle.law_pass_needs.specs.sym_state.State.{State, Runs, start}
use Rattle.law_pass_needs.specs.sym_insns.Effects.{uid_in, target_uid, jump_source, label_by, jump_label, has_target, effects_of}
use Rattle.law_pass_needs.specs.sym_insns.Run.{after_kind, run_from, run}
use Rattle.law_pass_needs.specs.sym_insns.Shape.{is_shaped, is_end, fits_kind, bad_from, bad_insn}
use Rattle.insn_replace.specs.sym_diff.Agree.{Agree}
use Rattle.insn_replace.specs.sym_diff.Compared.{target_term}
use Rattle.insn_replace.proofs.law_insn_terms.Bools.{both_of}
use Rattle.insn_replace.proofs.law_insn_terms.Growth.{made_jump, jump_is, goes_from}
use Rattle.insn_replace.proofs.law_insn_terms.JumpShapes.{Leads, to_label, by_test, IsJump}
use Rattle.insn_replace.proofs.law_insn_terms.Ways.{jump_of, fits_all, does_run}
use Rattle.insn_replace.proofs.law_insns_agree.law_states_agree.Agreeing.{widths_differ}
use Rattle.insn_replace.proofs.law_insns_agree.Ends.{one_target}
use Rattle.law_pass_needs.specs.law_rules.Sorts as sorts
use Rattle.law_pass_needs.specs.Reloadable.{LeadsWithin}

-- ---- the label of a jump

abbrev label_in : Rtx → Rtx
label_in x = jump_label (jump_source (out-Rtx x).kids x)

-- it goes to the label, or branches to it
abbrev NamesLabel : Flow → ℕ → Type 0
NamesLabel flow uid = (flow ≡ Goes uid) ⊎ (flow ≡ Branches uid)

record Named (x : Rtx) : Type 0 where
  uid : ℕ
  label_is : label_of (label_in x) ≡ Some uid
  flow_is : NamesLabel (jump_flow x) uid

module _ (x : Rtx) (is : IsJump x) where
  source_is : jump_source (out-Rtx x).kids x ≡ is.source
  source_is = ap (λ parts. jump_source parts x) is.kids_are

  flow_here : jump_flow x ≡ source_flow is.source
  flow_here =
      ap (λ c. jump_flow_by c (out-Rtx x).kids) is.code_is
      ∙ ap (jump_flow_by Set) is.kids_are
      ∙ ap (λ b. if b then source_flow is.source else Stops) is.pc_is

  named_by : Leads is.source → Named x
  named_by (to_label code label) = record {
    uid = label.uid;
    label_is = ap (λ s. label_of (jump_label s)) source_is ∙ ap (λ c. label_of (label_by c (out-Rtx is.source).kids is.source)) code ∙ label.uid_is;
    flow_is = inl (flow_here ∙ ap (λ c. source_flow_by c (out-Rtx is.source).kids is.source) code ∙ ap goes_to label.uid_is);
  }
  named_by (by_test test label other code kids compares named pc) = record {
    uid = named.uid;
    label_is = ap (λ s. label_of (jump_label s)) source_is
        ∙ ap (λ c. label_of (label_by c (out-Rtx is.source).kids is.source)) code
        ∙ ap (λ parts. label_of (label_by IfThenElse parts is.source)) kids
        ∙ named.uid_is;
    flow_is = inr (flow_here
        ∙ ap (λ c. source_flow_by c (out-Rtx is.source).kids is.source) code
        ∙ ap (λ parts. source_flow_by IfThenElse parts is.source) kids
        ∙ ap (λ b. if b then branches_to (label_of label) else Stops) pc
        ∙ ap branches_to named.uid_is);
  }

  named : Named x
  named = named_by is.leads

-- ---- the jump of a symbolic state

-- what it tells of an instruction of the run
record Tells (t : State) (i : Insn) : Type 0 where
  last : Bool
  fits : fits_kind i.kind i last ≡ true
  target : i.kind ≡ kind.Jump → t.jump.target ≡ target_uid (label_in i.pattern)

target_behind : (i : Insn) (insns : List Insn) (index : ℕ) (s t : State) → i.kind ≡ kind.Jump → fits_kind i.kind i (is_end insns) ≡ true →
    run_from (index + 1) insns (after_kind i.kind index i s) ≡ Some t → t.jump.target ≡ target_uid (label_in i.pattern)
target_behind i [] index s t jump fits goes =
    let came : after_kind i.kind index i s ≡ t = cc in
    sym (ap (λ (t : State). t.jump.target) (sym (jump_is index i.pattern s) ∙ sym (ap (λ k. after_kind k index i s) jump) ∙ came))
target_behind i (j ∷ insns) index s t jump fits goes =
    let here = sym (ap (λ k. fits_kind k i false) jump) ∙ fits in
    absurd (let last : false ≡ true = (both_of (has_target i.pattern) false (both_of (not (is_return i)) _ (both_of (is_shaped i) _ here).1).1).1 in false≢true last)

tells_from : (insns : List Insn) (index : ℕ) (s t : State) → bad_from index insns ≡ None → run_from index insns s ≡ Some t → AllByRecursion (Tells t) insns
tells_from [] index s t bad goes = tt
tells_from (i ∷ insns) index s t bad goes =
    let all = fits_all index i insns bad in
    let more = goes_from insns index i s t goes in (
      record { last = is_end insns; fits = all.here; target = λ jump. target_behind i insns index s t jump all.here more },
      tells_from insns (index + 1) (after_kind i.kind index i s) t all.rest more,
    )

all_tell : (insns : List Insn) (t : State) → run insns ≡ Runs t → AllByRecursion (Tells t) insns
all_tell insns t runs = let does = does_run (bad_insn insns) (run_from 0 insns start) t runs in tells_from insns 0 start t does.fits does.goes

-- it is no jump
abbrev IsNoJump : Insn → Type 0
IsNoJump i = i.kind ≡ kind.Jump → ⊥

-- what is no jump leaves the jump as it was
kind_stays : (k : Kind) (index : ℕ) (i : Insn) (s : State) → (k ≡ kind.Jump → ⊥) → (after_kind k index i s).jump ≡ s.jump
kind_stays kind.Plain index i s other = made_jump index (effects_of s.regs s.stores i.pattern) s
kind_stays kind.Jump index i s other = absurd (other refl)
kind_stays kind.Call index i s other = refl
kind_stays kind.Label index i s other = refl
kind_stays kind.Barrier index i s other = refl

stays_from : (insns : List Insn) (index : ℕ) (s t : State) → AllByRecursion IsNoJump insns → run_from index insns s ≡ Some t → t.jump ≡ s.jump
stays_from [] index s t none goes = let same : s ≡ t = cc in ap (λ (s : State). s.jump) (sym same)
stays_from (i ∷ insns) index s t none goes =
    stays_from insns (index + 1) (after_kind i.kind index i s) t none.1 (goes_from insns index i s t goes) ∙ kind_stays i.kind index i s none.0

-- a window with no jump leads to no label
all_fall : (insns : List Insn) (t : State) → run insns ≡ Runs t → AllByRecursion IsNoJump insns → t.jump.target ≡ None
all_fall insns t runs none =
    let does = does_run (bad_insn insns) (run_from 0 insns start) t runs in
    ap (λ j. j.target) (stays_from insns 0 start t none does.goes)

-- ---- a jump that is told of

record Told (t : State) (i : Insn) : Type 0 where
  names : Named i.pattern
  target_is : t.jump.target ≡ uid_in names.uid
  some : t.jump.target ≡ None → ⊥
  none : is_return i ≡ false

turned : (b : Bool) → not b ≡ true → b ≡ false
turned true is = absurd (false≢true is)
turned false is = refl

has_one : (o : Option ℕ) → is_some o ≡ true → o ≡ None → ⊥
has_one None is none = false≢true is
has_one (Some uid) is none = let no : ⊥ = cc in no

told_jump : (t : State) (i : Insn) → Tells t i → i.kind ≡ kind.Jump → Told t i
told_jump t i tells jump =
    let here = both_of (is_shaped i) _ (sym (ap (λ k. fits_kind k i tells.last) jump) ∙ tells.fits) in
    let rest = both_of (not (is_return i)) _ here.1 in
    let has : has_target i.pattern ≡ true = (both_of (has_target i.pattern) tells.last rest.1).0 in
    let none = turned (is_return i) rest.0 in
    let name = named i.pattern (jump_of i here.0 jump none) in record {
      names = name;
      target_is = tells.target jump ∙ ap (option_and_then uid_in) name.label_is;
      some = λ is. has_one (target_uid (label_in i.pattern)) has (sym (tells.target jump) ∙ is);
      none = none;
    }

-- ---- both sides

flow_place : (insns : List Insn) (flow : Flow) (uid : ℕ) → NamesLabel flow uid → sorts.Leads insns flow → (place : ℕ) × (place_of uid insns ≡ Some place)
flow_place insns _ uid (inl is) (sorts.goes other place at) = let same : other ≡ uid = cc in (place, subst (λ u. place_of u insns ≡ Some place) same at)
flow_place insns _ uid (inr is) (sorts.goes other place at) = absurd (let none : ⊥ = cc in none)
flow_place insns _ uid (inl is) (sorts.branches other place at) = absurd (let none : ⊥ = cc in none)
flow_place insns _ uid (inr is) (sorts.branches other place at) = let same : other ≡ uid = cc in (place, subst (λ u. place_of u insns ≡ Some place) same at)

flow_leads : (insns : List Insn) (flow : Flow) (uid place : ℕ) → NamesLabel flow uid → place_of uid insns ≡ Some place → sorts.Leads insns flow
flow_leads insns flow uid place (inl is) at = subst (sorts.Leads insns) (sym is) (sorts.goes uid place at)
flow_leads insns flow uid place (inr is) at = subst (sorts.Leads insns) (sym is) (sorts.branches uid place at)

module _ (insns old new : List Insn) (live : List ℕ) (a b : State) (runs_first : run old ≡ Runs a) (runs_second : run new ≡ Runs b)
    (agree : Agree false live a b) (own : AllByRecursion (LeadsWithin insns) old) where
  -- a target that the one side lacks is none of the other
  no_target : (first second : Option ℕ) → first ≡ None → (second ≡ None → ⊥) → target_term first ≡ target_term second → ⊥
  no_target first None is some same = some refl
  no_target first (Some y) is some same = widths_differ (ap width_of (sym same ∙ ap target_term is))

  -- where a uid stands that is the target of the second side
  abbrev Stands : ℕ → Type 0
  Stands uid = (place : ℕ) × (place_of uid insns ≡ Some place)

  own_place : (i : Insn) → LeadsWithin insns i → Told a i → i.kind ≡ kind.Jump → (uid : ℕ) → (uid_in uid ≡ b.jump.target) → (b.jump.target ≡ None → ⊥) → Stands uid
  own_place i leads told jump uid target some =
      let same : uid ≡ told.names.uid = one_target uid told.names.uid b.jump.target a.jump.target target (sym told.target_is) (sym agree.jumps.1) some in
      subst (λ u. (place : ℕ) × (place_of u insns ≡ Some place)) (sym same)
      (⊎_elim
      (λ (back : is_return i ≡ true). absurd (true≢false (sym back ∙ told.none)))
      (λ (leads : sorts.Leads insns (jump_flow i.pattern)). flow_place insns (jump_flow i.pattern) told.names.uid told.names.flow_is leads)
      (leads jump))

  -- one of the window is the jump, or none
  jump_in : (js : List Insn) → AllByRecursion (Tells a) js → AllByRecursion (LeadsWithin insns) js → (uid : ℕ) → (uid_in uid ≡ b.jump.target) → (b.jump.target ≡ None → ⊥) →
      Stands uid ⊎ AllByRecursion IsNoJump js
  jump_in [] tell lead uid target some = inr tt
  jump_in (i ∷ js) tell lead uid target some = by_kind (jump_in js tell.1 lead.1 uid target some) i.kind refl
    where
      with_first : Stands uid ⊎ AllByRecursion IsNoJump js → IsNoJump i → Stands uid ⊎ (IsNoJump i × AllByRecursion IsNoJump js)
      with_first others other = ⊎_elim (λ (found : Stands uid). inl found) (λ (none : AllByRecursion IsNoJump js). inr (other, none)) others

      by_kind : Stands uid ⊎ AllByRecursion IsNoJump js → (k : Kind) → i.kind ≡ k → Stands uid ⊎ (IsNoJump i × AllByRecursion IsNoJump js)
      by_kind others kind.Jump is = inl (own_place i lead.0 (told_jump a i tell.0 is) is uid target some)
      by_kind others kind.Plain is = with_first others (λ jump. let both : kind.Plain ≡ kind.Jump = sym is ∙ jump in let none : ⊥ = cc in none)
      by_kind others kind.Call is = with_first others (λ jump. let both : kind.Call ≡ kind.Jump = sym is ∙ jump in let none : ⊥ = cc in none)
      by_kind others kind.Label is = with_first others (λ jump. let both : kind.Label ≡ kind.Jump = sym is ∙ jump in let none : ⊥ = cc in none)
      by_kind others kind.Barrier is = with_first others (λ jump. let both : kind.Barrier ≡ kind.Jump = sym is ∙ jump in let none : ⊥ = cc in none)

  found : (uid : ℕ) → (uid_in uid ≡ b.jump.target) → (b.jump.target ≡ None → ⊥) → Stands uid
  found uid target some = ⊎_elim (λ (stands : Stands uid). stands)
      (λ (none : AllByRecursion IsNoJump old). absurd (no_target a.jump.target b.jump.target (all_fall old a runs_first none) some agree.jumps.1))
      (jump_in old (all_tell old a runs_first) own uid target some)

  one_leads : (j : Insn) → Tells b j → LeadsWithin insns j
  one_leads j tells jump =
      let told = told_jump b j tells jump in
      let place = found told.names.uid (sym told.target_is) told.some in
      inr (flow_leads insns (jump_flow j.pattern) told.names.uid place.0 told.names.flow_is place.1)

  each_leads : (js : List Insn) → AllByRecursion (Tells b) js → AllByRecursion (LeadsWithin insns) js
  each_leads [] tell = tt
  each_leads (j ∷ js) tell = (one_leads j tell.0, each_leads js tell.1)

  pub new_lead : AllByRecursion (LeadsWithin insns) new
  new_lead = each_leads new (all_tell new b runs_second)

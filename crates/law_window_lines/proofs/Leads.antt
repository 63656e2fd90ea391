-- Where a step leads is a successor of its place.
use Rattle.std.proofs.Common.{◌≡◌, ◌≢◌, ℕ, ◌+◌, ◌==◌, ◌||◌, arith, if◌then◌else◌, Bool, true, false, List, [], ◌∷◌, Option, Some, None, refl, ap, subst, ◌∙◌}
use Rattle.std.proofs.lemmas.Bool.Decides.{nat_tests}
use Rattle.std.specs.Prelude.{slice_get, option_map}
use Rattle.std.specs.Option.{option_to_list}
use Rattle.bits64.specs.declared.Width.TheVariants.{W64}
use Rattle.rtx_tree.specs.Patterns.{is_pc, label_of, place_of}
use Rattle.rtx_tree.specs.declared.code.Code.{Code}
use Rattle.rtx_tree.specs.declared.code.Code.TheVariants.{Set, IfThenElse, Return}
use Rattle.rtx_tree.specs.declared.function.Insn.{Insn}
use Rattle.rtx_tree.specs.declared.function.Kind.{Kind}
use Rattle.rtx_tree.specs.declared.function.Kind.TheVariants as kind
use Rattle.rtx_tree.specs.declared.machine.SymbolAt.{SymbolAt}
use Rattle.rtx_tree.specs.declared.memories.MemByte.{MemByte}
use Rattle.rtx_tree.specs.declared.tree.Rtx.{Rtx, out-Rtx}
use Rattle.rtl_step.specs.Regs.{Regs}
use Rattle.rtl_step.specs.Value.{of_two, value_of}
use Rattle.rtl_step.specs.Jump as jump
use Rattle.rtl_step.specs.declared.jump.Way.{Way}
use Rattle.rtl_step.specs.declared.jump.Way.TheVariants as way
use Rattle.rtl_func.specs.Paths.{Path, Here, Along, leads, has_place}
use Rattle.rtl_func.specs.Successors as flows
use Rattle.rtl_func.specs.Successors.{successors_of, successors_by, flow_of, flow_by, flow_places, jump_flow}
use Rattle.rtl_func.specs.declared.flow.Flow.{Flow}
use Rattle.rtl_func.specs.declared.flow.Flow.TheVariants.{Falls, Goes, Branches, Stops}
use Rattle.law_window_lines.proofs.Small.{or_true}

-- ---- jumps

-- a way that a jump takes, and where its pattern leads
pub data IsWayOf : Way → Flow → Type 0 where
  falls : (uid : ℕ) → IsWayOf way.Falls (Branches uid)
  branches : (uid : ℕ) → IsWayOf (way.Goes uid) (Branches uid)
  goes : (uid : ℕ) → IsWayOf (way.Goes uid) (Goes uid)
  leaves : (flow : Flow) → IsWayOf way.Leaves flow

module _ (symbols : List SymbolAt) (regs : Regs) (memory : List MemByte) where
  label_way : (label : Option ℕ) (w : Way) → option_map way.Goes label ≡ Some w → IsWayOf w (flows.goes_to label)
  label_way None w is = absurd (let no : ⊥ = cc in no)
  label_way (Some uid) w is = let same : way.Goes uid ≡ w = cc in subst (λ w. IsWayOf w (Goes uid)) same (goes uid)

  chosen_way : (b : Bool) (uid : ℕ) → IsWayOf (if b then way.Falls else way.Goes uid) (Branches uid)
  chosen_way true uid = falls uid
  chosen_way false uid = branches uid

  test_way : (test label : Option ℕ) (w : Way) → of_two (λ holds uid. Some (jump.chosen holds uid)) test label ≡ Some w →
      IsWayOf w (flows.branches_to label)
  test_way None label w is = absurd (let no : ⊥ = cc in no)
  test_way (Some holds) None w is = absurd (let no : ⊥ = cc in no)
  test_way (Some holds) (Some uid) w is = let same : jump.chosen holds uid ≡ w = cc in
      subst (λ w. IsWayOf w (Branches uid)) same (chosen_way (holds == 0) uid)

  branch_way : (b : Bool) (test label : Rtx) (w : Way) → (if b then jump.branch symbols regs memory test label else None) ≡ Some w →
      IsWayOf w (if b then flows.branches_to (label_of label) else Stops)
  branch_way true test label w is = test_way (value_of symbols regs memory test W64) (label_of label) w is
  branch_way false test label w is = absurd (let no : ⊥ = cc in no)

  source_way : (code : Code) (parts : List Rtx) (source : Rtx) (w : Way) → jump.way_by code parts source symbols regs memory ≡ Some w →
      IsWayOf w (flows.source_flow_by code parts source)
  source_way IfThenElse (test ∷ label ∷ other ∷ []) source w is = branch_way (is_pc other) test label w is
  source_way _ parts source w is = label_way (label_of source) w is

  set_way : (b : Bool) (source : Rtx) (w : Way) → (if b then jump.way_of symbols regs memory source else None) ≡ Some w →
      IsWayOf w (if b then flows.source_flow source else Stops)
  set_way true source w is = source_way (out-Rtx source).code (out-Rtx source).kids source w is
  set_way false source w is = absurd (let no : ⊥ = cc in no)

  way_by : (code : Code) (parts : List Rtx) (w : Way) → jump.jump_by code parts symbols regs memory ≡ Some w →
      IsWayOf w (flows.jump_flow_by code parts)
  way_by Return parts w is = let same : way.Leaves ≡ w = cc in
      subst (λ w. IsWayOf w (flows.jump_flow_by Return parts)) same (leaves (flows.jump_flow_by Return parts))
  way_by Set (place ∷ source ∷ []) w is = set_way (is_pc place) source w is
  way_by _ parts w is = absurd (let no : ⊥ = cc in no)

  pub way_is : (x : Rtx) (w : Way) → jump.jump_of symbols regs memory x ≡ Some w → IsWayOf w (jump_flow x)
  way_is x w is = way_by (out-Rtx x).code (out-Rtx x).kids w is

-- ---- places

is_here : (n : ℕ) → (n == n) ≡ true
is_here n = grind (arith, nat_tests)

-- the places to which an instruction leads, by what its pattern says
places_are : (insns : List Insn) (p : ℕ) (i : Insn) (flow : Flow) → slice_get insns p ≡ Some i → flow_of i ≡ flow →
    successors_of insns p ≡ flow_places insns p flow
places_are insns p i flow there is = ap (successors_by insns p) there ∙ ap (flow_places insns p) is

leads_next : (insns : List Insn) (p : ℕ) (places : List ℕ) → successors_of insns p ≡ (p + 1) ∷ places → leads insns p (p + 1) ≡ true
leads_next insns p places are = ap (λ l. has_place l (p + 1)) are ∙ ap (λ b. b || has_place places (p + 1)) (is_here (p + 1))

-- whatever is no jump goes on to the next place
falls_by : (k : Kind) (i : Insn) → i.kind ≡ k → k ≢ kind.Jump → flow_of i ≡ Falls
falls_by kind.Plain i is other = ap (λ k. flow_by k i.pattern) is
falls_by kind.Jump i is other = absurd (other refl)
falls_by kind.Call i is other = ap (λ k. flow_by k i.pattern) is
falls_by kind.Label i is other = ap (λ k. flow_by k i.pattern) is
falls_by kind.Barrier i is other = ap (λ k. flow_by k i.pattern) is

pub leads_on : (insns : List Insn) (p : ℕ) (i : Insn) → slice_get insns p ≡ Some i → i.kind ≢ kind.Jump → leads insns p (p + 1) ≡ true
leads_on insns p i there other = leads_next insns p [] (places_are insns p i Falls there (falls_by i.kind i refl other))

-- where a jump that takes a way leads
pub data LeadsBy (insns : List Insn) (p : ℕ) : Way → Type 0 where
  falls_on : leads insns p (p + 1) ≡ true → LeadsBy insns p way.Falls
  goes_on : (uid : ℕ) → ((q : ℕ) → place_of uid insns ≡ Some q → leads insns p q ≡ true) → LeadsBy insns p (way.Goes uid)
  leaves_it : LeadsBy insns p way.Leaves

way_leads : (insns : List Insn) (p : ℕ) (w : Way) (flow : Flow) → IsWayOf w flow → successors_of insns p ≡ flow_places insns p flow →
    LeadsBy insns p w
way_leads insns p _ _ (falls uid) are = falls_on (leads_next insns p (flows.label_places insns uid) are)
way_leads insns p _ _ (branches uid) are = goes_on uid (λ q at.
    ap (λ l. has_place l q) (are ∙ ap (λ o. (p + 1) ∷ option_to_list o) at) ∙ ap (λ b. (p + 1 == q) || (b || false)) (is_here q) ∙
    or_true (p + 1 == q))
way_leads insns p _ _ (goes uid) are = goes_on uid (λ q at.
    ap (λ l. has_place l q) (are ∙ ap (λ o. option_to_list o) at) ∙ ap (λ b. b || false) (is_here q))
way_leads insns p _ _ (leaves flow) are = leaves_it

pub jump_leads : (symbols : List SymbolAt) (regs : Regs) (memory : List MemByte) (insns : List Insn) (p : ℕ) (i : Insn) (w : Way) →
    slice_get insns p ≡ Some i → i.kind ≡ kind.Jump → jump.jump_of symbols regs memory i.pattern ≡ Some w → LeadsBy insns p w
jump_leads symbols regs memory insns p i w there is_jump is =
    way_leads insns p w (jump_flow i.pattern) (way_is symbols regs memory i.pattern w is)
    (places_are insns p i (jump_flow i.pattern) there (ap (λ k. flow_by k i.pattern) is_jump))

-- a path goes on
pub further : (insns : List Insn) (p q r : ℕ) → Path insns p q → leads insns q r ≡ true → Path insns p r
further insns _ _ r (Here p) leads_on = Along p r r leads_on (Here r)
further insns _ _ r (Along p q s first rest) leads_on = Along p q r first (further insns q s r rest leads_on)

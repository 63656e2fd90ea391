-- Paths of control: how they are joined, and where an instruction leads by its flow.
use Rattle.std.proofs.Common.{◌≡◌, ℕ, ◌+◌, true, ◌==◌, List, Option, ap, ◌∙◌, arith}
use Rattle.std.specs.Prelude.{Some, slice_get}
use Rattle.std.specs.Option.{option_to_list}
use Rattle.std.proofs.lemmas.Bool.{or_left, or_right}
use Rattle.std.proofs.lemmas.Bool.Decides.{nat_tests}
use Rattle.rtx_tree.specs.declared.function.Insn.{Insn}
use Rattle.rtx_tree.specs.Patterns.{place_of}
use Rattle.rtl_func.specs.declared.flow.Flow.{Flow}
use Rattle.rtl_func.specs.declared.flow.Flow.TheVariants.{Falls, Goes, Branches}
use Rattle.rtl_func.specs.Successors.{flow_of, flow_places, successors_by}
use Rattle.rtl_func.specs.Paths.{Path, Here, Along, has_place, leads}

-- a path with one step more at its end
pub path_on : (insns : List Insn) (p q r : ℕ) → Path insns p q → leads insns q r ≡ true → Path insns p r
path_on insns p q r (Here _) last = Along _ _ _ last (Here _)
path_on insns p q r (Along _ m _ first rest) last = Along _ _ _ first (path_on insns m q r rest last)

-- a path behind another
pub path_join : (insns : List Insn) (p q r : ℕ) → Path insns p q → Path insns q r → Path insns p r
path_join insns p q r (Here _) behind = behind
path_join insns p q r (Along _ m _ first rest) behind = Along _ _ _ first (path_join insns m q r rest behind)

same : (p : ℕ) → (p == p) ≡ true
same p = grind (arith, nat_tests)

leads_by : (insns : List Insn) (p q : ℕ) (i : Insn) (flow : Flow) → slice_get insns p ≡ Some i → flow_of i ≡ flow → leads insns p q ≡ has_place (flow_places insns p flow) q
leads_by insns p q i flow at is = ap (λ (o : Option Insn). has_place (successors_by insns p o) q) at ∙ ap (λ flow. has_place (flow_places insns p flow) q) is

-- what falls through leads to the next place
pub falls_leads : (insns : List Insn) (p : ℕ) (i : Insn) → slice_get insns p ≡ Some i → flow_of i ≡ Falls → leads insns p (p + 1) ≡ true
falls_leads insns p i at is = leads_by insns p (p + 1) i Falls at is ∙ or_left ((p + 1) == (p + 1)) _ (same (p + 1))

-- a jump leads to the place of its label
pub goes_leads : (insns : List Insn) (p q uid : ℕ) (i : Insn) → slice_get insns p ≡ Some i → flow_of i ≡ Goes uid → place_of uid insns ≡ Some q → leads insns p q ≡ true
goes_leads insns p q uid i at is place =
    leads_by insns p q i (Goes uid) at is
    ∙ (ap (λ o. has_place (option_to_list o) q) place ∙ or_left (q == q) _ (same q))

-- a branch leads to the next place and to that of its label
pub branches_on : (insns : List Insn) (p uid : ℕ) (i : Insn) → slice_get insns p ≡ Some i → flow_of i ≡ Branches uid → leads insns p (p + 1) ≡ true
branches_on insns p uid i at is = leads_by insns p (p + 1) i (Branches uid) at is ∙ or_left ((p + 1) == (p + 1)) _ (same (p + 1))

pub branches_lead : (insns : List Insn) (p q uid : ℕ) (i : Insn) → slice_get insns p ≡ Some i → flow_of i ≡ Branches uid → place_of uid insns ≡ Some q → leads insns p q ≡ true
branches_lead insns p q uid i at is place =
    leads_by insns p q i (Branches uid) at is
    ∙ or_right ((p + 1) == q) _ (ap (λ o. has_place (option_to_list o) q) place ∙ or_left (q == q) _ (same q))

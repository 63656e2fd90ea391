-- The results that are moved behind an instruction: each effect of a pattern that has a key sets the operand of a result.
use Rattle.std.proofs.Common.{◌≡◌, ◌≢◌, ◌⊎◌, inl, inr, ℕ, zero, suc, ◌+◌, ◌<◌, ◌≤◌, ◌&&◌, if◌then◌else◌, Bool, true, false, List, [], ◌∷◌, map, Option, Some, None, refl, sym, ap, subst, ◌∙◌, arith}
use Rattle.std.proofs.lemmas.Bool.{and_parts, or_left}
use Rattle.std.specs.List.{list_any, flat_map}
use Rattle.std.specs.Prelude.{ℤ, pos, negsuc, slice_get}
use Rattle.law_operands_fetched.specs.rtx_tree.Tree.{head_of, kids_of}
use Rattle.law_operands_fetched.specs.rtx_tree.declared.code.Code.{Code}
use Rattle.law_operands_fetched.specs.rtx_tree.declared.code.Code.TheVariants as code
use Rattle.law_operands_fetched.specs.rtx_tree.declared.function.Kind.{Kind}
use Rattle.law_operands_fetched.specs.rtx_tree.declared.tree.Rtx.{Rtx}
use Rattle.law_operands_fetched.specs.md_constr.Inputs.{set_by_parts, set_by, effects_of, outputs_in}
use Rattle.law_operands_fetched.specs.md_match.Pattern.{Ops, role_of}
use Rattle.law_operands_fetched.specs.md_match.declared.role.Role.{Role}
use Rattle.law_operands_fetched.specs.md_match.declared.role.Role.TheVariants.{Operand}
use Rattle.law_operands_fetched.specs.assign.declared.home.HomeOf.{HomeOf}
use Rattle.law_operands_fetched.specs.assign.declared.places.Layout.{Layout}
use Rattle.law_operands_fetched.proofs.reload_operands.NumberLaws.{has_in_each}
use Rattle.law_operands_fetched.specs.reload_operands.Directions.{has_number, is_output}
use Rattle.law_operands_fetched.specs.reload_moves.Registers.{is_result}
use Rattle.law_operands_fetched.specs.reload_moves.declared.part.Part.{Part}
use Rattle.law_operands_fetched.specs.reload_choice.Sound.{IsPart, IsSoundPlan}
use Rattle.law_operands_fetched.specs.reload_choice.declared.given.Plan.{Plan}
use Rattle.law_reload_moves.proofs.Chosen.{given, asks, known_of}
use Rattle.law_operands_fetched.proofs.law_operands_replaced.ElementTurns.{target_key, key_by, key_of}
use Rattle.law_reload_moves.proofs.GivenBeside.{changed_has}
use Rattle.law_reload_moves.proofs.GivenNews.{IsResultAt, result_at}
use Rattle.law_operands_fetched.proofs.law_operands_replaced.Keyed.{IsIn, AreDistinct}
use Rattle.law_reload_moves.proofs.NewsLaws.{IsMovedAt, moved_for}
use Rattle.law_reload_moves.proofs.TakenPlaces.{IsEffectOf}

-- ---- the results of a plan, in the order of the operands

abbrev pub result_places : List Part → List ℕ
result_places [] = []
result_places (p ∷ ps) = if is_result p then p.place ∷ result_places ps else result_places ps

-- the places from a number on
abbrev AreFrom : ℕ → List Part → Type 0
AreFrom n [] = Unit {0}
AreFrom n (p ∷ ps) = (p.place ≡ n) × AreFrom (suc n) ps

from_order : (ps : List Part) (n : ℕ) → ((i : ℕ) (p : Part) → slice_get ps i ≡ Some p → p.place ≡ n + i) → AreFrom n ps
from_order [] n order = tt
from_order (p ∷ ps) n order = (
  (let e : p.place ≡ n + 0 = order 0 p refl in omega (arith, e)),
  from_order ps (suc n) (λ i q at. let e : q.place ≡ n + suc i = order (suc i) q at in omega (arith, e)),
)

none_below : (ps : List Part) (n j : ℕ) → AreFrom n ps → j < n → IsIn j (result_places ps) → ⊥
none_below [] n j from less inside = inside
none_below (p ∷ ps) n j from less inside = by (is_result p) (λ more. none_below ps (suc n) j from.1 (omega (arith, less)) more) inside
  where
    by : (b : Bool) → (IsIn j (result_places ps) → ⊥) → IsIn j (if b then p.place ∷ result_places ps else result_places ps) → ⊥
    by true rest (inl same) = let e = from.0 in omega (arith, same, e, less)
    by true rest (inr more) = rest more
    by false rest more = rest more

distinct_from : (ps : List Part) (n : ℕ) → AreFrom n ps → AreDistinct (result_places ps)
distinct_from [] n from = tt
distinct_from (p ∷ ps) n from = by (is_result p) (distinct_from ps (suc n) from.1)
  where
    by : (b : Bool) → AreDistinct (result_places ps) → AreDistinct (if b then p.place ∷ result_places ps else result_places ps)
    by true rest = ((λ inside. none_below ps (suc n) p.place from.1 (let e = from.0 in omega (arith, e)) inside), rest)
    by false rest = rest

-- each once
pub results_distinct : (parts : List Part) → ((i : ℕ) (p : Part) → slice_get parts i ≡ Some p → p.place ≡ i) → AreDistinct (result_places parts)
results_distinct parts order = distinct_from parts 0 (from_order parts 0 (λ i p at. let e = order i p at in omega (arith, e)))

in_results : (ps : List Part) (i : ℕ) (p : Part) → slice_get ps i ≡ Some p → is_result p ≡ true → IsIn p.place (result_places ps)
in_results [] i p at is = absurd (let no : ⊥ = cc in no)
in_results (q ∷ ps) zero p at is =
    let same : q ≡ p = cc in
    subst (λ b. IsIn p.place (if b then q.place ∷ result_places ps else result_places ps)) (sym (ap is_result same ∙ is)) (inl (ap (λ (q : Part). q.place) (sym same)))
in_results (q ∷ ps) (suc i) p at is = by (is_result q) (in_results ps i p at is)
  where
    by : (b : Bool) → IsIn p.place (result_places ps) → IsIn p.place (if b then q.place ∷ result_places ps else result_places ps)
    by true rest = inr rest
    by false rest = rest

none_from : (ps : List Part) → ((i : ℕ) (p : Part) → slice_get ps i ≡ Some p → is_result p ≡ true → ⊥) → result_places ps ≡ []
none_from [] none = refl
none_from (p ∷ ps) none = by (is_result p) refl (none_from ps (λ i. none (suc i)))
  where
    by : (b : Bool) → is_result p ≡ b → result_places ps ≡ [] → (if b then p.place ∷ result_places ps else result_places ps) ≡ []
    by true yes' rest = absurd (none zero p refl yes')
    by false no' rest = rest

-- where there are no results
pub none_places : (plan : Plan) → ((j : ℕ) → IsResultAt plan j → ⊥) → result_places plan.parts ≡ []
none_places plan none = none_from plan.parts (λ i p stands is. none i (record { p = p; stands = stands; is = is }))

module _ (homes : List HomeOf) (layout : Layout) (kind : Kind) (w pattern : Rtx) (found : Ops) (plan : Plan)
    (sound : IsSoundPlan (given homes layout kind w pattern found plan) plan) where
  -- the place of a result is among them
  pub result_in : (k : ℕ) → IsResultAt plan k → IsIn k (result_places plan.parts)
  result_in k r = subst (λ k. IsIn k (result_places plan.parts)) (sound.in_order k r.p r.stands) (in_results plan.parts k r.p r.stands r.is)

  -- an operand that an effect of the pattern sets, with its part
  pub record IsKeyed (q : Rtx) (j : ℕ) : Type 0 where
    pub a : Rtx
    pub b : Rtx
    pub is_set : (head_of q).code ≡ code.Set
    pub are : kids_of q ≡ a ∷ b ∷ []
    pub operand : role_of (head_of a).code ≡ Operand
    pub number : ℕ
    pub number_is : (head_of a).number ≡ pos number
    pub moved : IsMovedAt (asks homes layout kind w pattern found plan) (given homes layout kind w pattern found plan).operands plan.parts number j

  abbrev Result : ℤ → Option ℕ
  Result = result_at homes layout kind w pattern found plan

  keyed_by : (c : Code) (kids : List Rtx) (q : Rtx) (j : ℕ) → (head_of q).code ≡ c → kids_of q ≡ kids → key_by Result c kids ≡ Some j → IsKeyed q j
  keyed_by code.Set (a ∷ b ∷ []) q j is are key = by (role_of (head_of a).code) (head_of a).number refl refl key
    where
      by : (r : Role) (n : ℤ) → role_of (head_of a).code ≡ r → (head_of a).number ≡ n → target_key Result r n ≡ Some j → IsKeyed q j
      by Operand (pos k) role number key = record {
        a = a;
        b = b;
        is_set = is;
        are = are;
        operand = role;
        number = k;
        number_is = number;
        moved = moved_for (asks homes layout kind w pattern found plan) (given homes layout kind w pattern found plan).operands plan.parts k j key;
      }
      by Operand (negsuc k) role number key = absurd (let no : ⊥ = cc in no)
      by _ n role number key = absurd (let no : ⊥ = cc in no)
  keyed_by _ kids q j is are key = absurd (let no : ⊥ = cc in no)

  pub keyed_is : (q : Rtx) (j : ℕ) → key_of Result q ≡ Some j → IsKeyed q j
  keyed_is q j key = keyed_by (head_of q).code (kids_of q) q j refl refl key

  -- it is a result
  pub keyed_result : (q : Rtx) (j : ℕ) → IsEffectOf pattern q → key_of Result q ≡ Some j → IsResultAt plan j
  keyed_result q j effect key =
      let k = keyed_is q j key in
      let o = known_of homes layout kind w pattern found plan k.moved.p.place k.moved.x k.moved.of in
      let has : has_number k.number (outputs_in pattern) ≡ true =
      has_in_each k.number set_by (effects_of pattern) ∙ effect (λ q. has_number k.number (set_by q))
      (ap (λ c. has_number k.number (set_by_parts c (kids_of q))) k.is_set ∙ ap (λ kids. has_number k.number (set_by_parts code.Set kids)) k.are ∙
      changed_has k.a k.number k.operand k.number_is) in
      let output : k.moved.x.is_output ≡ true = o.output ∙ ap (is_output pattern) k.moved.number_is ∙ has in
      let part : IsPart (given homes layout kind w pattern found plan) plan k.moved.at k.moved.p k.moved.x = record { stands = k.moved.stands; of = k.moved.of } in
      let at_j : slice_get plan.parts j ≡ Some k.moved.p =
      ap (slice_get plan.parts) (sym k.moved.place_is ∙ sound.in_order k.moved.at k.moved.p k.moved.stands) ∙ k.moved.stands in record {
        p = k.moved.p;
        stands = at_j;
        is = ap (λ b. b && k.moved.p.needs.is_output) k.moved.moved ∙ (sound.says k.moved.at k.moved.p k.moved.x part).output ∙ output;
      }

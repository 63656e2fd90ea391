-- The register of a result that is moved, by the last effect that sets the result.
use Rattle.std.proofs.Common.{◌≡◌, ◌≢◌, ◌⊎◌, inl, inr, ℕ, zero, suc, ◌+◌, if◌then◌else◌, Bool, true, false, List, [], ◌∷◌, ◌++◌, map, Option, Some, None, refl, sym, ap, subst, ◌∙◌}
use Rattle.std.proofs.lemmas.Bool.{and_parts}
use Rattle.std.specs.FinMap.{get}
use Rattle.std.specs.Prelude.{ℤ, slice_get}
use Rattle.law_operands_fetched.specs.bits64.Words.{low}
use Rattle.law_operands_fetched.specs.bits64.declared.Width.{Width}
use Rattle.law_operands_fetched.specs.rtx_tree.declared.machine.SymbolAt.{SymbolAt}
use Rattle.law_operands_fetched.specs.rtx_tree.declared.memories.MemByte.{MemByte}
use Rattle.law_operands_fetched.specs.rtx_tree.declared.tree.Rtx.{Rtx}
use Rattle.law_operands_fetched.specs.rtl_step.Regs.{Regs, known_of}
use Rattle.law_operands_fetched.specs.rtl_step.declared.effect.Effect.{Effect}
use Rattle.law_operands_fetched.specs.rtl_step.declared.effect.Effect.TheVariants.{Nothing, Sets, Unsets, Stores}
use Rattle.law_operands_fetched.specs.reload_moves.Registers.{is_result}
use Rattle.law_operands_fetched.specs.reload_moves.declared.part.Part.{Part}
use Rattle.law_operands_fetched.specs.law_operands_replaced.Held.{Held, Holds}
use Rattle.law_operands_fetched.specs.law_operands_replaced.Spare.{is_spare, KeepsRest}
use Rattle.law_operands_fetched.proofs.law_operands_replaced.Elements.{IsSet}
use Rattle.law_operands_fetched.proofs.law_operands_replaced.Elements as elements
use Rattle.law_operands_fetched.proofs.law_operands_replaced.Ends.{AreSpare, Stays}
use Rattle.law_operands_fetched.proofs.law_operands_replaced.Fetches.{IsFresh}
use Rattle.law_operands_fetched.proofs.law_operands_replaced.Keyed.{last_by, last_of}
use Rattle.law_operands_fetched.proofs.law_operands_replaced.Keying.{with_keys}
use Rattle.law_reload_moves.proofs.OutEffects.{IsPlaceSet, in_register, in_memory}
use Rattle.law_operands_fetched.proofs.law_operands_replaced.Registers.{low_low}
use Rattle.law_reload_moves.proofs.ResultKeys.{result_places}
use Rattle.law_reload_moves.proofs.ResultsEnd.{Among, AllAmong}
use Rattle.law_operands_fetched.proofs.Window.{AllStay}
use Rattle.law_operands_fetched.proofs.law_operands_replaced.WholeTurns.{AllNone}

-- ---- where there are no results

pub no_places : (ps : List Part) → ((i : ℕ) (p : Part) → slice_get ps i ≡ Some p → is_result p ≡ true → ⊥) → result_places ps ≡ []
no_places [] none = refl
no_places (p ∷ ps) none = by (is_result p) refl (no_places ps (λ i q at is. none (suc i) q at is))
  where
    by : (b : Bool) → is_result p ≡ b → result_places ps ≡ [] → (if is_result p then p.place ∷ result_places ps else result_places ps) ≡ []
    by true is rest = absurd (none 0 p refl is)
    by false is rest = ap (λ b. if b then p.place ∷ result_places ps else result_places ps) is ∙ rest

pub none_last : (keys : List (Option ℕ)) (es : List Effect) (k : ℕ) (e : Effect) → AllNone keys → last_of (with_keys keys es) k ≡ Some e → ⊥
none_last [] es k e are is = let no : ⊥ = cc in no
none_last (key ∷ keys) [] k e are is = let no : ⊥ = cc in no
none_last (key ∷ keys) (o ∷ es) k e are is =
    by (last_of (with_keys keys es) k) refl (ap (λ key. last_by (last_of (with_keys keys es) k) key k o) (sym are.0) ∙ is) (λ later. none_last keys es k e are.1 later)
  where
    by : (l : Option Effect) → last_of (with_keys keys es) k ≡ l → last_by l None k o ≡ Some e → (last_of (with_keys keys es) k ≡ Some e → ⊥) → ⊥
    by None at is rest = let no : ⊥ = cc in no
    by (Some l) at is rest = rest (at ∙ is)

-- ---- what is told stays, behind each that is among them

module _ (symbols : List SymbolAt) (Told : Regs → List MemByte → Type 0)
    (spared : (r r' : Regs) (m : List MemByte) → KeepsRest r r' → Told r m → Told r' m) where
  pub one_stays : (e : Effect) (es : List Effect) → Among e es → AllStay symbols Told spared es → Stays symbols Told spared e
  one_stays e [] among stay = absurd among
  one_stays e (o ∷ es) (inl same) stay = subst (Stays symbols Told spared) (sym same) stay.0
  one_stays e (o ∷ es) (inr more) stay = one_stays e es more stay.1

  pub some_stay : (ds es : List Effect) → AllAmong ds es → AllStay symbols Told spared es → AllStay symbols Told spared ds
  some_stay [] es among stay = tt
  some_stay (d ∷ ds) es among stay = (one_stays d es among.0 stay, some_stay ds es among.1 stay)

-- ---- the register of a result, by its last effect

abbrev pub own_held : ℕ → Option Effect → List Held
own_held own (Some (Sets r known)) = record { reg = own; width = known.width; value = known.value } ∷ []
own_held own (Some (Stores w at v)) = record { reg = own; width = w; value = v } ∷ []
own_held own _ = []

known_low : (w : Width) (v : ℕ) → known_of w (low w v) ≡ known_of w v
known_low w v = ap (λ n. record { width = w; value = n }) (low_low w v)

pub own_spare : (own : ℕ) (o : Option Effect) → is_spare own ≡ true → AreSpare (own_held own o)
own_spare own (Some (Sets r known)) is = (is, tt)
own_spare own (Some (Stores w at v)) is = (is, tt)
own_spare own (Some (Unsets r)) is = tt
own_spare own (Some Nothing) is = tt
own_spare own None is = tt

pub own_fresh : (symbols : List SymbolAt) (far own : ℕ) (o : Option Effect) → own ≢ far → IsFresh symbols [] far (own_held own o)
own_fresh symbols far own (Some (Sets r known)) differ = (differ, tt)
own_fresh symbols far own (Some (Stores w at v)) differ = (differ, tt)
own_fresh symbols far own (Some (Unsets r)) differ = tt
own_fresh symbols far own (Some Nothing) differ = tt
own_fresh symbols far own None differ = tt

module _ (symbols : List SymbolAt) (regs other : Regs) (m : List MemByte) where
  pub own_holds : (own : ℕ) (w : Width) (v : ℕ) (e : Effect) (r : Regs) → IsSet symbols regs other m w v e → get r own ≡ Some (known_of w v) →
      Holds r (own_held own (Some e))
  own_holds own w v _ r (elements.register q) holds = (holds ∙ ap Some (sym (known_low w v)), tt)
  own_holds own w v _ r (elements.place at there) holds = (holds, tt)

  pub own_gives : (own : ℕ) (t : Rtx) (w : Width) (v : ℕ) (e : Effect) (r : Regs) → IsPlaceSet symbols regs m t w v e → Holds r (own_held own (Some e)) →
      get r own ≡ Some (known_of w v)
  own_gives own t w v _ r (in_register q none is) holds = holds.0 ∙ ap Some (known_low w v)
  own_gives own t w v _ r (in_memory a at is address there) holds = holds.0

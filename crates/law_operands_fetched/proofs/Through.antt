-- What registers hold through the moves behind an instruction: for each result its list.
use Rattle.std.proofs.Common.{◌≡◌, ◌≢◌, ◌⊎◌, inl, inr, ℕ, zero, suc, if◌then◌else◌, Bool, true, false, List, [], ◌∷◌, ◌++◌, Option, Some, None, refl, sym, ap, subst, ◌∙◌}
use Rattle.std.specs.Prelude.{slice_get}
use Rattle.law_operands_replaced.specs.rtx_tree.declared.machine.SymbolAt.{SymbolAt}
use Rattle.law_operands_replaced.specs.rtl_step.Regs.{Regs}
use Rattle.reload_moves.specs.Registers.{is_result}
use Rattle.reload_moves.specs.declared.part.Part.{Part}
use Rattle.law_operands_replaced.specs.Held.{Held, Holds}
use Rattle.law_operands_replaced.proofs.Ends.{AreSpare}
use Rattle.law_operands_replaced.proofs.Fetches.{IsFresh}

pub spare_both : (xs ys : List Held) → AreSpare xs → AreSpare ys → AreSpare (xs ++ ys)
spare_both [] ys are are' = are'
spare_both (x ∷ xs) ys are are' = (are.0, spare_both xs ys are.1 are')

pub holds_both : (r : Regs) (xs ys : List Held) → Holds r xs → Holds r ys → Holds r (xs ++ ys)
holds_both r [] ys holds holds' = holds'
holds_both r (x ∷ xs) ys holds holds' = (holds.0, holds_both r xs ys holds.1 holds')

pub holds_first : (r : Regs) (xs ys : List Held) → Holds r (xs ++ ys) → Holds r xs × Holds r ys
holds_first r [] ys holds = (tt, holds)
holds_first r (x ∷ xs) ys holds = let more = holds_first r xs ys holds.1 in ((holds.0, more.0), more.1)

pub fresh_both : (symbols : List SymbolAt) (far : ℕ) (xs ys : List Held) → IsFresh symbols [] far xs → IsFresh symbols [] far ys → IsFresh symbols [] far (xs ++ ys)
fresh_both symbols far [] ys fresh fresh' = fresh'
fresh_both symbols far (x ∷ xs) ys fresh fresh' = (fresh.0, fresh_both symbols far xs ys fresh.1 fresh')

module _ (symbols : List SymbolAt) (list : Part → List Held) where
  -- those of all results
  abbrev pub through : List Part → List Held
  through [] = []
  through (p ∷ ps) = if is_result p then list p ++ through ps else through ps

  pub through_spare : (ps : List Part) → ((i : ℕ) (p : Part) → slice_get ps i ≡ Some p → is_result p ≡ true → AreSpare (list p)) → AreSpare (through ps)
  through_spare [] each = tt
  through_spare (p ∷ ps) each = by (is_result p) refl (through_spare ps (λ i q at is. each (suc i) q at is))
    where
      by : (b : Bool) → is_result p ≡ b → AreSpare (through ps) → AreSpare (if is_result p then list p ++ through ps else through ps)
      by true is rest = subst (λ b. AreSpare (if b then list p ++ through ps else through ps)) (sym is) (spare_both (list p) (through ps) (each 0 p refl is) rest)
      by false is rest = subst (λ b. AreSpare (if b then list p ++ through ps else through ps)) (sym is) rest

  pub through_holds : (r : Regs) (ps : List Part) → ((i : ℕ) (p : Part) → slice_get ps i ≡ Some p → is_result p ≡ true → Holds r (list p)) → Holds r (through ps)
  through_holds r [] each = tt
  through_holds r (p ∷ ps) each = by (is_result p) refl (through_holds r ps (λ i q at is. each (suc i) q at is))
    where
      by : (b : Bool) → is_result p ≡ b → Holds r (through ps) → Holds r (if is_result p then list p ++ through ps else through ps)
      by true is rest = subst (λ b. Holds r (if b then list p ++ through ps else through ps)) (sym is) (holds_both r (list p) (through ps) (each 0 p refl is) rest)
      by false is rest = subst (λ b. Holds r (if b then list p ++ through ps else through ps)) (sym is) rest

  pub through_fresh : (far : ℕ) (ps : List Part) → ((i : ℕ) (p : Part) → slice_get ps i ≡ Some p → is_result p ≡ true → IsFresh symbols [] far (list p)) →
      IsFresh symbols [] far (through ps)
  through_fresh far [] each = tt
  through_fresh far (p ∷ ps) each = by (is_result p) refl (through_fresh far ps (λ i q at is. each (suc i) q at is))
    where
      by : (b : Bool) → is_result p ≡ b → IsFresh symbols [] far (through ps) → IsFresh symbols [] far (if is_result p then list p ++ through ps else through ps)
      by true is rest = subst (λ b. IsFresh symbols [] far (if b then list p ++ through ps else through ps)) (sym is)
          (fresh_both symbols far (list p) (through ps) (each 0 p refl is) rest)
      by false is rest = subst (λ b. IsFresh symbols [] far (if b then list p ++ through ps else through ps)) (sym is) rest

  -- what is held for one of them
  pub through_gives : (r : Regs) (ps : List Part) (i : ℕ) (p : Part) → slice_get ps i ≡ Some p → is_result p ≡ true → Holds r (through ps) → Holds r (list p)
  through_gives r [] i p at is holds = absurd (let no : ⊥ = cc in no)
  through_gives r (q ∷ ps) zero p at is holds =
      let same : q ≡ p = cc in
      let here : is_result q ≡ true = ap is_result same ∙ is in
      subst (λ p. Holds r (list p)) same (holds_first r (list q) (through ps) (subst (λ b. Holds r (if b then list q ++ through ps else through ps)) here holds)).0
  through_gives r (q ∷ ps) (suc i) p at is holds = through_gives r ps i p at is (by (is_result q) holds)
    where
      by : (b : Bool) → Holds r (if b then list q ++ through ps else through ps) → Holds r (through ps)
      by true holds = (holds_first r (list q) (through ps) holds).1
      by false holds = holds

-- What is kept of so many plans is the best of them.
use Rattle.std.proofs.Common.{◌≡◌, ◌↔◌, ◌⊎◌, ⊎_elim, inl, inr, ℕ, zero, suc, ◌+◌, ◌-◌, ◌<◌, ◌≤◌, Bool, true, false, nat_lt, Option, Some, None, refl, sym, ap, subst, ◌∙◌, arith}
use Rattle.std.specs.Prelude.{if◌then◌else◌}
use Rattle.std.proofs.lemmas.Bool.{cases_lt, eqb-true, le-ltb, ltb-true, ltb-false}
use Rattle.reload_choice.specs.declared.given.Plan.{Plan}
use Rattle.reload_choice.specs.Choice.{IsBest, IsUnreachable}
use Rattle.reload_choice.specs.machine.Least.{better, best_upto, is_free}

none_some : (p : Plan) (o : Option Plan) → o ≡ None → o ≡ Some p → ⊥
none_some p o none some = let never : None ≡ Some p = sym none ∙ some in let e : ⊥ = cc in e

one_plan : (p q : Plan) (o : Option Plan) → o ≡ Some p → o ≡ Some q → p ≡ q
one_plan p q o a b = let e : Some p ≡ Some q = sym a ∙ b in let same : p ≡ q = cc in same

before_or_at : (j n : ℕ) → j < suc n → (j < n) ⊎ (j ≡ n)
before_or_at j n h = ⊎_elim (λ below. inl below) (λ above. inr (omega (arith, h, above))) (cases_lt j n)

module _ (plans : ℕ → Option Plan) where
  -- none of those below a number, or the best of them
  abbrev pub IsKept : ℕ → Option Plan → Type 0
  IsKept n None = IsUnreachable plans n
  IsKept n (Some plan) = (k : ℕ) × IsBest plans n k plan

  first_one : (n : ℕ) (p : Plan) → plans n ≡ Some p → IsUnreachable plans n → IsBest plans (suc n) n p
  first_one n p here none = record {
    below = omega arith;
    here = here;
    least = λ j other below at. ⊎_elim
        (λ before. absurd (none_some other (plans j) (none j before) at))
        (λ same. let e = one_plan other p (plans n) (subst (λ (m : ℕ). plans m ≡ Some other) same at) here in omega (arith, ap (λ (q : Plan). q.cost) e))
        (before_or_at j n below);
    lowest = λ j other before at. absurd (none_some other (plans j) (none j before) at);
  }

  still_none : (n : ℕ) → plans n ≡ None → IsUnreachable plans n → IsUnreachable plans (suc n)
  still_none n here none = λ j below. ⊎_elim
      (λ before. none j before)
      (λ same. subst (λ (m : ℕ). plans m ≡ None) (sym same) here)
      (before_or_at j n below)

  still_best : (n k : ℕ) (plan : Plan) → IsBest plans n k plan → ((other : Plan) → plans n ≡ Some other → plan.cost ≤ other.cost) → IsBest plans (suc n) k plan
  still_best n k plan b here = record {
    below = omega (arith, b.below);
    here = b.here;
    least = λ j other below at. ⊎_elim
        (λ before. b.least j other before at)
        (λ same. here other (subst (λ (m : ℕ). plans m ≡ Some other) same at))
        (before_or_at j n below);
    lowest = b.lowest;
  }

  new_best : (n k : ℕ) (plan p : Plan) → IsBest plans n k plan → plans n ≡ Some p → p.cost < plan.cost → IsBest plans (suc n) n p
  new_best n k plan p b here less = record {
    below = omega arith;
    here = here;
    least = λ j other below at. ⊎_elim
        (λ before. omega (arith, less, b.least j other before at))
        (λ same. let e = one_plan other p (plans n) (subst (λ (m : ℕ). plans m ≡ Some other) same at) here in omega (arith, ap (λ (q : Plan). q.cost) e))
        (before_or_at j n below);
    lowest = λ j other before at. omega (arith, less, b.least j other before at);
  }

  cheaper : (n k : ℕ) (plan p : Plan) → IsBest plans n k plan → plans n ≡ Some p → (t : Bool) → nat_lt p.cost plan.cost ≡ t → IsKept (suc n) (if t then Some p else Some plan)
  cheaper n k plan p b here true e = (n, new_best n k plan p b here (ltb-true p.cost plan.cost e))
  cheaper n k plan p b here false e =
      (k, still_best n k plan b (λ other at. let same = one_plan other p (plans n) at here in omega (arith, ltb-false p.cost plan.cost e, ap (λ (q : Plan). q.cost) same)))

  grows : (n : ℕ) (o p : Option Plan) → plans n ≡ p → IsKept n o → IsKept (suc n) (better o p)
  grows n None None here kept = still_none n here kept
  grows n None (Some p) here kept = (n, first_one n p here kept)
  grows n (Some plan) None here kept = (kept.0, still_best n kept.0 plan kept.1 (λ other at. absurd (none_some other (plans n) here at)))
  grows n (Some plan) (Some p) here kept = cheaper n kept.0 plan p kept.1 here (nat_lt p.cost plan.cost) refl

  pub is_kept : (n : ℕ) → IsKept n (best_upto plans n)
  is_kept zero = λ j below. absurd (omega (arith, below))
  is_kept (suc n) = grows n (best_upto plans n) (plans n) refl (is_kept n)

  -- there is one best
  one_best : (n j k : ℕ) (a b : Plan) → IsBest plans n j a → IsBest plans n k b → j ≡ k
  one_best n j k a b x y = ⊎_elim
      (λ before. absurd (omega (arith, y.lowest j a before x.here, x.least k b y.below y.here)))
      (λ reached. ⊎_elim
      (λ before. absurd (omega (arith, x.lowest k b before y.here, y.least j a x.below x.here)))
      (λ back. omega (arith, reached, back))
      (cases_lt k j))
      (cases_lt j k)

  pub one_best_plan : (n j k : ℕ) (a b : Plan) → IsBest plans n j a → IsBest plans n k b → a ≡ b
  one_best_plan n j k a b x y = one_plan a b (plans k) (subst (λ (m : ℕ). plans m ≡ Some a) (one_best n j k a b x y) x.here) y.here

  found : (n : ℕ) (o : Option Plan) → IsKept n o → (plan : Plan) → (o ≡ Some plan) ↔ ((k : ℕ) × IsBest plans n k plan)
  found n None none plan = (
    λ same. absurd (let never : ⊥ = cc in never),
    λ best. absurd (none_some plan (plans best.0) (none best.0 best.1.below) best.1.here),
  )
  found n (Some p) kept plan = (
    λ same. (kept.0, subst (IsBest plans n kept.0) (let one : p ≡ plan = cc in one) kept.1),
    λ best. ap (λ (q : Plan). Some q) (one_best_plan n kept.0 best.0 p plan kept.1 best.1),
  )

  -- what is kept of the first n is the best of them
  pub best_is : (n : ℕ) (plan : Plan) → (best_upto plans n ≡ Some plan) ↔ ((k : ℕ) × IsBest plans n k plan)
  best_is n plan = found n (best_upto plans n) (is_kept n) plan

  none_kept : (n : ℕ) (o : Option Plan) → IsKept n o → o ≡ None → IsUnreachable plans n
  none_kept n None kept e = kept
  none_kept n (Some p) kept e = absurd (let never : ⊥ = cc in never)

  pub none_is : (n : ℕ) → best_upto plans n ≡ None → IsUnreachable plans n
  none_is n e = none_kept n (best_upto plans n) (is_kept n) e

  -- what a loop over alternatives keeps
  pub record Keeps (count n : ℕ) (best : Option Plan) : Type 0 where
    pub kept : best ≡ best_upto plans n
    pub within : n ≤ count

  pub keeps_next : (count n next : ℕ) (best p new : Option Plan) → Keeps count n best → n < count → next ≡ n + 1 → p ≡ plans n → new ≡ better best p → Keeps count next new
  keeps_next count n next best p new keeps below is here one =
      let e : next ≡ suc n = omega (arith, is) in
      record {
        kept = one ∙ (ap (λ (o : Option Plan). better o p) keeps.kept ∙ (ap (better (best_upto plans n)) here ∙ ap (best_upto plans) (sym e)));
        within = omega (arith, is, below);
      }

  -- Nothing costs less than what is free, and of several such the first is kept.
  free_wins : (best p : Option Plan) → is_free best ≡ true → better best p ≡ best
  free_wins None p free = absurd (let never : ⊥ = cc in never)
  free_wins (Some best) None free = refl
  free_wins (Some best) (Some p) free =
      let none : best.cost ≡ 0 = eqb-true best.cost 0 free in
      ap (λ (b : Bool). if b then Some p else Some best) (le-ltb p.cost best.cost (omega (arith, none)))

  free_stays : (n k count : ℕ) → count ≡ k + n → is_free (best_upto plans n) ≡ true → best_upto plans n ≡ best_upto plans count
  free_stays n zero count is free = ap (best_upto plans) (let e : n ≡ count = omega (arith, is) in e)
  free_stays n (suc k) count is free =
      let same : best_upto plans n ≡ best_upto plans (k + n) = free_stays n k (k + n) refl free in
      let e : suc (k + n) ≡ count = omega (arith, is) in
      same ∙ (sym (free_wins (best_upto plans (k + n)) (plans (k + n)) (ap is_free (sym same) ∙ free)) ∙ ap (best_upto plans) e)

  -- what is free is the best of all
  pub keeps_free : (count n : ℕ) (best p new : Option Plan) → Keeps count n best → n < count → p ≡ plans n → new ≡ better best p → is_free new ≡ true → new ≡ best_upto plans count
  keeps_free count n best p new keeps below here one free =
      let next = keeps_next count n (suc n) best p new keeps below (omega arith) here one in
      next.kept ∙ free_stays (suc n) (count - suc n) count (omega (arith, below)) (ap is_free (sym next.kept) ∙ free)

  pub keeps_first : (count : ℕ) → Keeps count 0 None
  keeps_first count = record { kept = refl; within = omega arith }

  pub keeps_whole : (count n : ℕ) (best : Option Plan) → Keeps count n best → (n < count → ⊥) → best ≡ best_upto plans count
  keeps_whole count n best keeps end =
      let e : n ≡ count = ⊎_elim (λ below. absurd (end below)) (λ reached. omega (arith, reached, keeps.within)) (cases_lt n count) in
      keeps.kept ∙ ap (best_upto plans) e

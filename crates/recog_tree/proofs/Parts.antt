-- The parts of what a pattern makes, place by place.
use Rattle.std.proofs.Common.{◌≡◌, ◌⊎◌, inl, inr, ℕ, zero, suc, List, [], ◌∷◌, Some, None, refl}
use Rattle.std.specs.Prelude.{slice_get}
use Rattle.rtx_tree.specs.declared.tree.Rtx.{Rtx}
use Rattle.md_match.specs.Pattern.{Ops, instantiated, all_instantiated}
use Rattle.md_match.proofs.Parts.{front, no_front}

-- what patterns and the expressions that they make have at a place: neither has anything, or each an expression
pub record BothAt (ps xs : List Rtx) (o : Ops) (k : ℕ) : Type 0 where
  pub pattern : Rtx
  pub expression : Rtx
  pub pattern_at : slice_get ps k ≡ Some pattern
  pub expression_at : slice_get xs k ≡ Some expression
  pub made : instantiated pattern o ≡ Some expression

abbrev pub NeitherAt : List Rtx → List Rtx → ℕ → Type 0
NeitherAt ps xs k = (slice_get ps k ≡ None) × (slice_get xs k ≡ None)

abbrev pub At : List Rtx → List Rtx → Ops → ℕ → Type 0
At ps xs o k = (NeitherAt ps xs k) ⊎ BothAt ps xs o k

behind : (p x : Rtx) (ps xs : List Rtx) (o : Ops) (k : ℕ) → At ps xs o k → At (p ∷ ps) (x ∷ xs) o (suc k)
behind p x ps xs o k (inl none) = inl none
behind p x ps xs o k (inr both) = inr (record { pattern = both.pattern; expression = both.expression; pattern_at = both.pattern_at; expression_at = both.expression_at; made = both.made })

pub parts_at : (ps xs : List Rtx) (o : Ops) (k : ℕ) → all_instantiated ps o ≡ Some xs → At ps xs o k
parts_at [] [] o k e = inl (refl, refl)
parts_at [] (x ∷ xs) o k e = absurd (let none : ⊥ = cc in none)
parts_at (p ∷ ps) [] o k e = absurd (no_front (instantiated p o) (all_instantiated ps o) e)
parts_at (p ∷ ps) (x ∷ xs) o zero e = inr (record { pattern = p; expression = x; pattern_at = refl; expression_at = refl; made = (front (instantiated p o) (all_instantiated ps o) x xs e).0 })
parts_at (p ∷ ps) (x ∷ xs) o (suc k) e = behind p x ps xs o k (parts_at ps xs o k (front (instantiated p o) (all_instantiated ps o) x xs e).1)

-- patterns that make one expression are one
pub record One (ps : List Rtx) (x : Rtx) (o : Ops) : Type 0 where
  pub pattern : Rtx
  pub is : ps ≡ pattern ∷ []
  pub made : instantiated pattern o ≡ Some x

pub one_of : (ps : List Rtx) (x : Rtx) (o : Ops) → all_instantiated ps o ≡ Some (x ∷ []) → One ps x o
one_of [] x o e = absurd (let none : ⊥ = cc in none)
one_of (p ∷ []) x o e = record { pattern = p; is = refl; made = (front (instantiated p o) (Some []) x [] e).0 }
one_of (p ∷ q ∷ ps) x o e = absurd (no_front (instantiated q o) (all_instantiated ps o) (front (instantiated p o) (all_instantiated (q ∷ ps) o) x [] e).1)

-- the first of patterns that make several expressions makes the first of these
pub record First (ps : List Rtx) (x : Rtx) (o : Ops) : Type 0 where
  pub pattern : Rtx
  pub more : List Rtx
  pub is : ps ≡ pattern ∷ more
  pub made : instantiated pattern o ≡ Some x

pub first_of : (ps : List Rtx) (x : Rtx) (xs : List Rtx) (o : Ops) → all_instantiated ps o ≡ Some (x ∷ xs) → First ps x o
first_of [] x xs o e = absurd (let none : ⊥ = cc in none)
first_of (p ∷ ps) x xs o e = record { pattern = p; more = ps; is = refl; made = (front (instantiated p o) (all_instantiated ps o) x xs e).0 }

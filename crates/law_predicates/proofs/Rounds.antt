-- More rounds accept no fewer predicates, and as many rounds as there are definitions accept all
-- that any number of rounds does.
use Rattle.std.proofs.Common.{◌≡◌, ◌⊎◌, inl, inr, ℕ, zero, suc, ◌<◌, ◌≤◌, Bool, true}
use Rattle.std.proofs.Common.{false, true≢false, cond, ◌||◌, List, [], ◌∷◌, Option, Some}
use Rattle.std.proofs.Common.{None, map, position, slice_get, option_map, option_and_then}
use Rattle.std.proofs.Common.{unwrap_or, length, refl, sym, ap, ◌∙◌, arith}
use Rattle.std.specs.List.{find, list_all}
use Rattle.std.proofs.lemmas.Bool.{and_parts}
use Rattle.std.proofs.lemmas.Option.{slice_get-map}
use Rattle.md_forms.specs.md_tables.declared.tables.PredicateDraft.{PredicateDraft}
use Rattle.md_forms.specs.md_tables.Predicates.{is_own, is_accepted, is_known, is_sound, accepted_within}
use Rattle.name_places.proofs.FirstNames.{find_at_place, find_nowhere}
use Rattle.md_pred.proofs.Firsts.{named, Passes, accepted_passes}

not_both : {A : Type 0} (b : Bool) → b ≡ false → b ≡ true → A
not_both b wrong right = absurd (true≢false (sym right ∙ wrong))

-- ---- what passes one test passes another

-- how many pass
pub passing : {X : Type 0} → (X → Bool) → List X → ℕ
passing p [] = 0
passing p (x ∷ xs) = cond (p x) (suc (passing p xs)) (passing p xs)

pub at_most_all : {X : Type 0} (p : X → Bool) (xs : List X) → passing p xs ≤ length xs
unfolding passing
at_most_all p [] = omega arith
at_most_all p (x ∷ xs) = by_test (p x) refl (at_most_all p xs)
  where
    by_test : (b : Bool) → p x ≡ b → passing p xs ≤ length xs → passing p (x ∷ xs) ≤ length (x ∷ xs)
    by_test true is rest = rw is (omega (arith, rest))
    by_test false is rest = rw is (omega (arith, rest))

module _ {X : Type 0} (f g : X → Bool) (more : (x : X) → f x ≡ true → g x ≡ true) where
  pub no_fewer : (xs : List X) → passing f xs ≤ passing g xs
  unfolding passing
  no_fewer [] = omega arith
  no_fewer (x ∷ xs) = by_both (f x) (g x) refl refl (no_fewer xs)
    where
      by_both : (a b : Bool) → f x ≡ a → g x ≡ b → passing f xs ≤ passing g xs →
          passing f (x ∷ xs) ≤ passing g (x ∷ xs)
      by_both true true e h rest = rw e (rw h (omega (arith, rest)))
      by_both true false e h rest = not_both (g x) h (more x e)
      by_both false true e h rest = rw e (rw h (omega (arith, rest)))
      by_both false false e h rest = rw e (rw h (omega (arith, rest)))

  pub same_or_more : (xs : List X) → (map f xs ≡ map g xs) ⊎ (passing f xs < passing g xs)
  unfolding passing
  same_or_more [] = inl refl
  same_or_more (x ∷ xs) = by_both (f x) (g x) refl refl (same_or_more xs)
    where
      by_both : (a b : Bool) → f x ≡ a → g x ≡ b →
          (map f xs ≡ map g xs) ⊎ (passing f xs < passing g xs)
          → (map f (x ∷ xs) ≡ map g (x ∷ xs)) ⊎ (passing f (x ∷ xs) < passing g (x ∷ xs))
      by_both true true e h (inl same) = inl (rw e (rw h (ap (λ (bs : List Bool). true ∷ bs) same)))
      by_both true true e h (inr less) = inr (rw e (rw h (omega (arith, less))))
      by_both true false e h rest = not_both (g x) h (more x e)
      by_both false true e h rest = let few = no_fewer xs in inr (rw e (rw h (omega (arith, few))))
      by_both false false e h (inl same) =
          inl (rw e (rw h (ap (λ (bs : List Bool). false ∷ bs) same)))
      by_both false false e h (inr less) = inr (rw e (rw h (omega (arith, less))))

pub all_more : (p q : List ℕ → Bool) → ((name : List ℕ) → p name ≡ true → q name ≡ true) →
    (names : List (List ℕ)) → list_all p names ≡ true → list_all q names ≡ true
all_more p q more [] all = refl
all_more p q more (n ∷ ns) all =
    let parts = and_parts (p n) (list_all p ns) all in
    rw (more n parts.0) (all_more p q more ns parts.1)

-- ---- the first definition of a name

pub passes_accepted : (f : PredicateDraft → Bool) (ps : List PredicateDraft) (name : List ℕ)
    (first : PredicateDraft) → find (named name) ps ≡ Some first → f first ≡ true →
    is_accepted ps (map f ps) name ≡ true
passes_accepted f ps name first found passes = by_place (position (named name) ps) refl
  where
    none_some : ◌≡◌ {A = Option PredicateDraft} None (Some first) → ⊥
    none_some e = cc

    by_place : (o : Option ℕ) → position (named name) ps ≡ o →
        unwrap_or (option_and_then (slice_get (map f ps)) o) false ≡ true
    by_place None is = absurd (none_some (sym (find_nowhere (named name) ps is) ∙ found))
    by_place (Some at) is =
        let there : slice_get ps at ≡ Some first = sym (find_at_place (named name) ps at is)
        ∙ found in
        ap (λ (o : Option Bool). unwrap_or o false)
        (slice_get-map f ps at ∙ ap (option_map f) there) ∙ passes

pub more_accepted : (f g : PredicateDraft → Bool) →
    ((d : PredicateDraft) → f d ≡ true → g d ≡ true) → (ps : List PredicateDraft) (name : List ℕ) →
    is_accepted ps (map f ps) name ≡ true → is_accepted ps (map g ps) name ≡ true
more_accepted f g more ps name e =
    let first : Passes f ps name = accepted_passes f ps name e in
    passes_accepted g ps name first.first first.found (more first.first first.passes)

or_more : (a b c : Bool) → (b ≡ true → c ≡ true) → (a || b) ≡ true → (a || c) ≡ true
or_more true b c more e = refl
or_more false b c more e = more e

-- ---- rounds

module _ (ps : List PredicateDraft) where
  -- what passes in so many rounds
  pub passes : ℕ → PredicateDraft → Bool
  passes zero d = false
  passes (suc k) d = is_sound ps (accepted_within k ps) d

  pub are_passes : (k : ℕ) → accepted_within k ps ≡ map (passes k) ps
  unfolding passes
  are_passes zero = refl
  are_passes (suc k) = refl

  -- what is known within so many rounds
  abbrev pub known : ℕ → List ℕ → Bool
  known k = is_known ps (accepted_within k ps)

  more_known : (j k : ℕ) → ((d : PredicateDraft) → passes j d ≡ true → passes k d ≡ true) →
      (name : List ℕ) → known j name ≡ true → known k name ≡ true
  more_known j k more name =
      rw (are_passes j)
      (rw (are_passes k) (or_more (is_own name) (is_accepted ps (map (passes j) ps) name)
      (is_accepted ps (map (passes k) ps) name)
      (more_accepted (passes j) (passes k) more ps name)))

  more_pass : (k : ℕ) (d : PredicateDraft) → passes k d ≡ true → passes (suc k) d ≡ true
  unfolding passes
  more_pass zero d e = absurd (true≢false (sym e))
  more_pass (suc k) d e =
      let parts = and_parts d.whole (list_all (known k) d.uses) e in
      rw parts.0 (all_more (known k) (known (suc k)) (more_known k (suc k) (more_pass k)) d.uses
      parts.1)

  settles : (k : ℕ) → (accepted_within k ps ≡ accepted_within (suc k) ps)
      ⊎ (k < passing (passes (suc k)) ps)
  settles zero = by_more (same_or_more (passes 0) (passes 1) (more_pass 0) ps)
    where
      by_more : (map (passes 0) ps ≡ map (passes 1) ps)
          ⊎ (passing (passes 0) ps < passing (passes 1) ps) →
          (accepted_within 0 ps ≡ accepted_within 1 ps) ⊎ (0 < passing (passes 1) ps)
      by_more (inl same) = inl (are_passes 0 ∙ same ∙ sym (are_passes 1))
      by_more (inr less) = inr (omega (arith, less))
  settles (suc k) =
      by_before (settles k) (same_or_more (passes (suc k)) (passes (suc (suc k)))
      (more_pass (suc k)) ps)
    where
      by_before : (accepted_within k ps ≡ accepted_within (suc k) ps)
          ⊎ (k < passing (passes (suc k)) ps)
          → (map (passes (suc k)) ps ≡ map (passes (suc (suc k))) ps)
          ⊎ (passing (passes (suc k)) ps < passing (passes (suc (suc k))) ps)
          → (accepted_within (suc k) ps ≡ accepted_within (suc (suc k)) ps)
          ⊎ (suc k < passing (passes (suc (suc k))) ps)
      by_before (inl same) next = inl (ap (λ (flags : List Bool). map (is_sound ps flags) ps) same)
      by_before (inr many) (inl same) = inl (are_passes (suc k) ∙ same
          ∙ sym (are_passes (suc (suc k))))
      by_before (inr many) (inr less) = inr (omega (arith, many, less))

  -- as many rounds as there are definitions are enough
  pub enough : (n : ℕ) → length ps ≤ n → accepted_within n ps ≡ accepted_within (suc n) ps
  enough n long = by_settled (settles n)
    where
      by_settled : (accepted_within n ps ≡ accepted_within (suc n) ps)
          ⊎ (n < passing (passes (suc n)) ps) → accepted_within n ps ≡ accepted_within (suc n) ps
      by_settled (inl same) = same
      by_settled (inr many) = absurd (omega (arith, many, long, at_most_all (passes (suc n)) ps))

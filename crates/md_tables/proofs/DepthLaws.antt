-- The depths of definitions, round by round.
use Rattle.std.proofs.Common.{◌≡◌, ℕ, zero, suc, ◌+◌, ◌<◌, ◌≤◌, Bool, true, false, ◌&&◌, List, [], ◌∷◌, ◌++◌, Option, Some, None, map, length, take, get_or, refl, sym, ap, ◌∙◌, arith, ltb, max, ◌==◌}
use Rattle.std.specs.List.{list_all}
use Rattle.std.proofs.lemmas.Bool.{lt-ltb, ltb-true, le-ltb, ltb-false}
use Rattle.std.specs.Bool.{Decides}
use Rattle.std.specs.Ordering.{ord_max, nat_cmp}
use Rattle.std.specs.Cmp.{unsigned_Decides}
use Rattle.std.specs.Option.{option_eq}
use Rattle.std.proofs.lemmas.List.Folds.{list_all_at, list_all_more}
use Rattle.std.proofs.lemmas.Slice.Eq.{slice_eq-Decides}
use Rattle.std.proofs.lemmas.List.{take_more, map-append}
use lib.Pointwise.{pointwise}
use Rattle.md_tables.specs.declared.tables.PredicateDraft.{PredicateDraft}
use Rattle.md_tables.specs.Predicates.{is_sound, accepted_within}
use Rattle.md_tables.specs.machine.Depths.{is_below, below, IsNext}

none_is_less : (o : Option ℕ) → is_below 0 o ≡ false
none_is_less None = refl
none_is_less (Some depth) = le-ltb depth 0 (omega arith)

-- ---- the depth below some names

ord_max_is : (a b : ℕ) → ord_max nat_cmp a b ≡ max a b
ord_max_is a b = grind arith

pub max_less : (a b n : ℕ) → ltb (ord_max nat_cmp a b) n ≡ (ltb a n && ltb b n)
max_less a b n = ap (λ (m : ℕ). ltb m n) (ord_max_is a b) ∙ by_test (ltb a n) refl (ltb b n) refl
  where
    by_test : (x : Bool) → ltb a n ≡ x → (y : Bool) → ltb b n ≡ y → ltb (max a b) n ≡ (ltb a n && ltb b n)
    by_test true e true f = let first = ltb-true a n e in let second = ltb-true b n f in rw e (rw f (lt-ltb (max a b) n (omega (arith, first, second))))
    by_test true e false f = let second = ltb-false b n f in rw e (rw f (le-ltb (max a b) n (omega (arith, second))))
    by_test false e y f = let first = ltb-false a n e in rw e (le-ltb (max a b) n (omega (arith, first)))

-- one name more
pub all_next : {X : Type 0} (p : X → Bool) (xs : List X) (i : ℕ) (x : X) (old here new : Bool) → i < length xs → x ≡ get_or xs i x → here ≡ p x → old ≡ list_all p (take i xs) → new ≡ (old && here) → new ≡ list_all p (take (i + 1) xs)
all_next p xs i x old here new inside is passes was made =
    made ∙ ap (λ (b : Bool). b && here) was ∙ ap (λ (b : Bool). list_all p (take i xs) && b) (passes ∙ ap p is) ∙ sym (list_all_more p xs i x inside)

-- where one fails, not all pass
pub one_fails : {X : Type 0} (p : X → Bool) (xs : List X) (i : ℕ) (x : X) → i < length xs → x ≡ get_or xs i x → false ≡ p x → false ≡ list_all p xs
one_fails p xs i x inside is fails = sym (list_all_at p xs i x inside (sym (ap p is) ∙ sym fails))

-- ---- rounds

same_depth : (a b : Option ℕ) → Decides (option_eq (λ (x y : ℕ). x == y) a b) (a ≡ b)
same_depth None None = (λ e. refl, λ e. refl)
same_depth None (Some b) = (λ e. cc, λ e. cc)
same_depth (Some a) None = (λ e. cc, λ e. cc)
same_depth (Some a) (Some b) = (λ e. ap (λ (n : ℕ). Some n) ((unsigned_Decides a b).0 e), λ e. (unsigned_Decides a b).1 (cc))

-- what `==` says of two rounds
pub rounds_decide : (next depths : List (Option ℕ)) (r : Bool) → r ≡ pointwise (option_eq (λ (x y : ℕ). x == y)) next depths → Decides r (next ≡ depths)
rounds_decide next depths r is = slice_eq-Decides same_depth next depths r is

-- one element more of each list
pub mapped_next : {A B C : Type 0} (f : A → C) (g : B → C) (xs new : List A) (bs : List B) (i : ℕ) (a : A) (b : B) → i < length bs → b ≡ get_or bs i b → new ≡ xs ++ a ∷ [] → f a ≡ g b
    → map f xs ≡ map g (take i bs) → map f new ≡ map g (take (i + 1) bs)
mapped_next f g xs new bs i a b inside is made same was =
    let longer : take (i + 1) bs ≡ take i bs ++ b ∷ [] = take_more bs i b inside ∙ ap (λ y. take i bs ++ y ∷ []) (sym is) in
    ap (map f) made ∙ map-append f xs (a ∷ []) ∙ ap (λ l. l ++ f a ∷ []) was ∙ ap (λ c. map g (take i bs) ++ c ∷ []) same
    ∙ sym (ap (map g) longer ∙ map-append g (take i bs) (b ∷ []))

none_below : (depths : List (Option ℕ)) (ds : List PredicateDraft) → length depths ≡ length ds → below 0 depths ≡ map (λ d. false) ds
none_below [] [] e = refl
none_below [] (d ∷ ds) e = absurd (omega (arith, e))
none_below (x ∷ xs) [] e = absurd (omega (arith, e))
none_below (x ∷ xs) (d ∷ ds) e = rw (none_is_less x) (ap (λ (l : List Bool). false ∷ l) (none_below xs ds (omega (arith, e))))

-- the depths below k + 1 are those of so many rounds
abbrev pub AreDepths : ℕ → List PredicateDraft → List (Option ℕ) → Type 0
AreDepths k ds depths = (n : ℕ) → n ≤ k → below n depths ≡ accepted_within n ds

pub first_round : (rounds : ℕ) (ds : List PredicateDraft) (found depths : List (Option ℕ)) → IsNext rounds ds found depths → AreDepths 0 ds depths
first_round rounds ds found depths is zero within = none_below depths ds is.count
first_round rounds ds found depths is (suc n) within = absurd (omega (arith, within))

one_more : (n : ℕ) (depths : List (Option ℕ)) → below (suc n) depths ≡ below (n + 1) depths
one_more n depths = let same : suc n ≡ n + 1 = omega arith in ap (λ (m : ℕ). below m depths) same

pub next_round : (rounds k : ℕ) (ds : List PredicateDraft) (depths next : List (Option ℕ)) → k < rounds → IsNext rounds ds depths next → AreDepths k ds depths → AreDepths (k + 1) ds next
next_round rounds k ds depths next inside is are zero within = none_below next ds is.count
next_round rounds k ds depths next inside is are (suc n) within =
    one_more n next ∙ is.sound n (omega (arith, inside, within)) ∙ ap (λ (flags : List Bool). map (is_sound ds flags) ds) (are n (omega (arith, within)))

-- a round that changes nothing is the last
pub settled : (rounds k : ℕ) (ds : List PredicateDraft) (depths next : List (Option ℕ)) → IsNext rounds ds depths next → AreDepths k ds depths → next ≡ depths → AreDepths rounds ds depths
settled rounds k ds depths next is are same zero within = are zero (omega arith)
settled rounds k ds depths next is are same (suc n) within =
    one_more n depths ∙ ap (λ (l : List (Option ℕ)). below (n + 1) l) (sym same) ∙ is.sound n (omega (arith, within))
    ∙ ap (λ (flags : List Bool). map (is_sound ds flags) ds) (settled rounds k ds depths next is are same n (omega (arith, within)))

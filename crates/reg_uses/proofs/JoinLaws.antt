-- Tests that are joined step by step.
use Rattle.std.proofs.Common.{◌≡◌, ℕ, zero, suc, ◌+◌, ◌<◌, Bool, true, false, ◌||◌, ◌&&◌, eqb, ltb, List, [], ◌∷◌, length, get_or, drop, drop-cons, refl, sym, ap, ◌∙◌, arith}
use Rattle.std.specs.List.{list_any}
use Rattle.std.proofs.lemmas.Bool.Decides.{nat_tests}

or_assoc : (a b c : Bool) → ((a || b) || c) ≡ (a || (b || c))
or_assoc true b c = refl
or_assoc false b c = refl

drop_at : {X : Type 0} (xs : List X) (k : ℕ) (d : X) → k < length xs → drop k xs ≡ get_or xs k d ∷ drop (k + 1) xs
drop_at xs k d l = let one : suc k ≡ k + 1 = omega arith in drop-cons xs k d l ∙ ap (λ n. get_or xs k d ∷ drop n xs) one

-- what the rest of a list has is what its first element and the others have
pub drop_step : {X : Type 0} (p : X → Bool) (xs : List X) (k : ℕ) (x : X) → k < length xs → x ≡ get_or xs k x → list_any p (drop k xs) ≡ (p x || list_any p (drop (k + 1) xs))
drop_step p xs k x l is = ap (list_any p) (drop_at xs k x l) ∙ ap (λ y. p y || list_any p (drop (k + 1) xs)) (sym is)

-- one more element was joined
pub any_joined : {X : Type 0} (p : X → Bool) (xs : List X) (k : ℕ) (x : X) (old new whole : Bool) → k < length xs → x ≡ get_or xs k x → (old || list_any p (drop k xs)) ≡ whole → new ≡ (old || p x) → (new || list_any p (drop (k + 1) xs)) ≡ whole
any_joined p xs k x old new whole l is before step =
    let rest = list_any p (drop (k + 1) xs) in
    ap (λ b. b || rest) step ∙ (or_assoc old (p x) rest ∙ (ap (λ b. old || b) (sym (drop_step p xs k x l is)) ∙ before))

three : (o a e u : Bool) → ((o || (a && u)) || (e && u)) ≡ (o || ((a || e) && u))
three true a e u = refl
three false true e true = refl
three false true true false = refl
three false true false false = refl
three false false e u = refl

below_more : (other reg : ℕ) → ltb other (reg + 1) ≡ (ltb other reg || eqb other reg)
below_more other reg = grind (arith, nat_tests)

-- the numbers below one more were joined
pub below_joined : (other reg : ℕ) (start u old new : Bool) → old ≡ (start || (ltb other reg && u)) → new ≡ (old || (eqb other reg && u)) → new ≡ (start || (ltb other (reg + 1) && u))
below_joined other reg start u old new before step =
    step ∙ (ap (λ b. b || (eqb other reg && u)) before ∙ (three start (ltb other reg) (eqb other reg) u ∙ ap (λ b. start || (b && u)) (sym (below_more other reg))))

-- the same for a list with a test beside it
pub some_joined : (xs : List ℕ) (k other : ℕ) (u old new whole : Bool) → k < length xs → (old || (list_any (λ x. eqb x other) (drop k xs) && u)) ≡ whole → new ≡ (old || (eqb (get_or xs k 0) other && u)) → (new || (list_any (λ x. eqb x other) (drop (k + 1) xs) && u)) ≡ whole
some_joined xs k other u old new whole l before step =
    let rest = list_any (λ x. eqb x other) (drop (k + 1) xs) in
    let x = get_or xs k 0 in
    ap (λ b. b || (rest && u)) step ∙ (three old (eqb x other) rest u ∙ (ap (λ b. old || (b && u)) (sym (ap (list_any (λ x. eqb x other)) (drop_at xs k 0 l))) ∙ before))

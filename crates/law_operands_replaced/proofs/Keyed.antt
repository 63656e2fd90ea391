-- Effects of which each that is delayed has the number of its operand: they are made behind the others in the order of the operands, the last
-- of each.
use Rattle.std.proofs.Common.{◌≡◌, ◌≢◌, ◌⊎◌, inl, inr, ℕ, eqb, if◌then◌else◌, Bool, true, false, List, [], ◌∷◌, map, Option, Some, None, refl, sym, ap, subst, ◌∙◌, arith}
use Rattle.std.proofs.lemmas.Bool.Decides.{nat_tests}
use Rattle.rtl_step.specs.declared.effect.Effect.{Effect}
use Rattle.law_operands_replaced.proofs.Delays as delays
use Rattle.law_operands_replaced.proofs.Delays.{AreApart, Overrides, ApartFrom, Inserted, Overridden, Delays}

-- an effect, and the number of the operand whose result it is, where it is delayed
pub record Keyed : Type 0 where
  pub key : Option ℕ
  pub effect : Effect

abbrev pub effects_in : List Keyed → List Effect
effects_in xs = map (λ (x : Keyed). x.effect) xs

abbrev pub with_kept : Option ℕ → Effect → List Effect → List Effect
with_kept None e kept = e ∷ kept
with_kept (Some k) e kept = kept

-- those that are not delayed
abbrev pub kept_of : List Keyed → List Effect
kept_of [] = []
kept_of (x ∷ xs) = with_kept x.key x.effect (kept_of xs)

abbrev pub last_by : Option Effect → Option ℕ → ℕ → Effect → Option Effect
last_by (Some o) key k e = Some o
last_by None None k e = None
last_by None (Some j) k e = if eqb j k then Some e else None

-- the last effect of an operand
abbrev pub last_of : List Keyed → ℕ → Option Effect
last_of [] k = None
last_of (x ∷ xs) k = last_by (last_of xs k) x.key k x.effect

abbrev pub with_last : Option Effect → List Effect → List Effect
with_last None out = out
with_last (Some e) out = e ∷ out

-- the last of each operand, in the operands' order
abbrev pub out_of : List Keyed → List ℕ → List Effect
out_of xs [] = []
out_of xs (k ∷ ks) = with_last (last_of xs k) (out_of xs ks)

abbrev pub IsIn : ℕ → List ℕ → Type 0
IsIn k [] = ⊥
IsIn k (j ∷ js) = (k ≡ j) ⊎ IsIn k js

abbrev pub AreDistinct : List ℕ → Type 0
AreDistinct [] = Unit {0}
AreDistinct (j ∷ js) = (IsIn j js → ⊥) × AreDistinct js

-- an effect of an operand that is delayed is apart from each later effect, but for those of the same operand, which override it
abbrev pub MayPass : ℕ → Effect → List Keyed → Type 0
MayPass k e [] = Unit {0}
MayPass k e (y ∷ ys) = ((y.key ≡ Some k → Overrides e y.effect) × (y.key ≢ Some k → AreApart e y.effect)) × MayPass k e ys

abbrev pub MayPassBy : List ℕ → Option ℕ → Effect → List Keyed → Type 0
MayPassBy ks None e ys = Unit {0}
MayPassBy ks (Some k) e ys = IsIn k ks × MayPass k e ys

abbrev pub AreOrderly : List ℕ → List Keyed → Type 0
AreOrderly ks [] = Unit {0}
AreOrderly ks (x ∷ xs) = MayPassBy ks x.key x.effect xs × AreOrderly ks xs

no_key : (k : ℕ) → ◌≢◌ {A = Option ℕ} None (Some k)
no_key k e = absurd (let never : ⊥ = cc in never)

other_key : (j k : ℕ) → j ≢ k → ◌≢◌ {A = Option ℕ} (Some j) (Some k)
other_key j k differ e = differ (let same : j ≡ k = cc in same)

same_number : (j k : ℕ) → eqb j k ≡ true → j ≡ k
same_number j k is = grind (arith, nat_tests, is)

other_number : (j k : ℕ) → eqb j k ≡ false → j ≢ k
other_number j k is same = grind (arith, nat_tests, is, same)

-- ---- what is passed

kept_by : (key : Option ℕ) (k : ℕ) (e o : Effect) (kept : List Effect) → (key ≢ Some k → AreApart e o) → ApartFrom e kept →
    ApartFrom e (with_kept key o kept)
kept_by None k e o kept may rest = (may (no_key k), rest)
kept_by (Some j) k e o kept may rest = rest

kept_apart : (k : ℕ) (e : Effect) (xs : List Keyed) → MayPass k e xs → ApartFrom e (kept_of xs)
kept_apart k e [] may = tt
kept_apart k e (x ∷ xs) may = kept_by x.key k e x.effect (kept_of xs) may.0.1 (kept_apart k e xs may.1)

-- the last effect of another operand
last_apart_by : (before : Option Effect) (key : Option ℕ) (j k : ℕ) (e x o : Effect) → j ≢ k → (key ≢ Some k → AreApart e x) →
    ((o : Effect) → before ≡ Some o → AreApart e o) → last_by before key j x ≡ Some o → AreApart e o
last_apart_by (Some b) key j k e x o differ here rest is = rest o is
last_apart_by None None j k e x o differ here rest is = absurd (let never : ⊥ = cc in never)
last_apart_by None (Some i) j k e x o differ here rest is = by (eqb i j) refl is
  where
    by : (b : Bool) → eqb i j ≡ b → (if b then Some x else None) ≡ Some o → AreApart e o
    by true same at = let found : x ≡ o = cc in
        subst (AreApart e) found (here (other_key i k (λ e. differ (sym (same_number i j same) ∙ e))))
    by false same at = absurd (let never : ⊥ = cc in never)

pub last_apart : (xs : List Keyed) (j k : ℕ) (e o : Effect) → j ≢ k → MayPass k e xs → last_of xs j ≡ Some o → AreApart e o
last_apart [] j k e o differ may is = absurd (let never : ⊥ = cc in never)
last_apart (x ∷ xs) j k e o differ may is =
    last_apart_by (last_of xs j) x.key j k e x.effect o differ may.0.1 (λ o at. last_apart xs j k e o differ may.1 at) is

-- and of the same
last_over_by : (before : Option Effect) (key : Option ℕ) (k : ℕ) (e x o : Effect) → (key ≡ Some k → Overrides e x) →
    ((o : Effect) → before ≡ Some o → Overrides e o) → last_by before key k x ≡ Some o → Overrides e o
last_over_by (Some b) key k e x o here rest is = rest o is
last_over_by None None k e x o here rest is = absurd (let never : ⊥ = cc in never)
last_over_by None (Some i) k e x o here rest is = by (eqb i k) refl is
  where
    by : (b : Bool) → eqb i k ≡ b → (if b then Some x else None) ≡ Some o → Overrides e o
    by true same at = let found : x ≡ o = cc in subst (Overrides e) found (here (ap Some (same_number i k same)))
    by false same at = absurd (let never : ⊥ = cc in never)

last_over : (xs : List Keyed) (k : ℕ) (e o : Effect) → MayPass k e xs → last_of xs k ≡ Some o → Overrides e o
last_over [] k e o may is = absurd (let never : ⊥ = cc in never)
last_over (x ∷ xs) k e o may is = last_over_by (last_of xs k) x.key k e x.effect o may.0.0 (λ o at. last_over xs k e o may.1 at) is

-- ---- where it is made

module _ (xs : List Keyed) (k : ℕ) (e : Effect) (may : MayPass k e xs) where
  abbrev more : List Keyed
  more = record { key = Some k; effect = e } ∷ xs

  last_by_other : (o : Option Effect) (j : ℕ) → eqb k j ≡ false → last_by o (Some k) j e ≡ o
  last_by_other (Some o) j is = refl
  last_by_other None j is = ap (λ b. if b then Some e else None) is

  last_other : (j : ℕ) → j ≢ k → last_of more j ≡ last_of xs j
  last_other j differ = last_by_other (last_of xs j) j (grind (arith, nat_tests, differ))

  out_other : (js : List ℕ) → (IsIn k js → ⊥) → out_of more js ≡ out_of xs js
  out_other [] out = refl
  out_other (j ∷ js) out = ap (λ o. with_last o (out_of more js)) (last_other j (λ same. out (inl (sym same)))) ∙
      ap (with_last (last_of xs j)) (out_other js (λ inside. out (inr inside)))

  last_here : last_of xs k ≡ None → last_of more k ≡ Some e
  last_here none = ap (λ o. last_by o (Some k) k e) none ∙ ap (λ b. if b then Some e else None) (let same : eqb k k ≡ true = grind (arith, nat_tests) in same)

  last_still : (o : Effect) → last_of xs k ≡ Some o → last_of more k ≡ Some o
  last_still o is = ap (λ o. last_by o (Some k) k e) is

  not_first : (j : ℕ) (js : List ℕ) → j ≢ k → IsIn k (j ∷ js) → IsIn k js
  not_first j js differ (inl same) = absurd (differ (sym same))
  not_first j js differ (inr inside) = inside

  behind_one : (j : ℕ) (o : Option Effect) (os os' : List Effect) → j ≢ k → last_of xs j ≡ o → Inserted e os os' →
      Inserted e (with_last o os) (with_last o os')
  behind_one j None os os' differ is at = at
  behind_one j (Some o) os os' differ is at = delays.behind o os os' (last_apart xs j k e o differ may is) at

  over_one : (j : ℕ) (o : Option Effect) (os : List Effect) → j ≢ k → last_of xs j ≡ o → Overridden e os → Overridden e (with_last o os)
  over_one j None os differ is at = at
  over_one j (Some o) os differ is at = delays.behind o os (last_apart xs j k e o differ may is) at

  -- the first of its operand that is met
  insert_by : (b : Bool) (j : ℕ) (js : List ℕ) → eqb j k ≡ b → last_of xs k ≡ None → (IsIn j js → ⊥) → IsIn k (j ∷ js) →
      (IsIn k js → Inserted e (out_of xs js) (out_of more js)) → Inserted e (out_of xs (j ∷ js)) (out_of more (j ∷ js))
  insert_by true j js is none out inside rest =
      let same : j ≡ k = same_number j k is in
      subst (λ os. Inserted e os (out_of more (j ∷ js))) (sym (ap (λ j. with_last (last_of xs j) (out_of xs js)) same ∙ ap (λ o. with_last o (out_of xs js)) none))
      (subst (Inserted e (out_of xs js)) (sym (ap (λ j. with_last (last_of more j) (out_of more js)) same ∙ ap (λ o. with_last o (out_of more js)) (last_here none) ∙
      ap (λ (os : List Effect). e ∷ os) (out_other js (λ at. out (subst (λ i. IsIn i js) (sym same) at))))) (delays.here (out_of xs js)))
  insert_by false j js is none out inside rest =
      let differ = other_number j k is in
      subst (λ o. Inserted e (with_last (last_of xs j) (out_of xs js)) (with_last o (out_of more js))) (sym (last_other j differ))
      (behind_one j (last_of xs j) (out_of xs js) (out_of more js) differ refl (rest (not_first j js differ inside)))

  inserted : (js : List ℕ) → AreDistinct js → IsIn k js → last_of xs k ≡ None → Inserted e (out_of xs js) (out_of more js)
  inserted [] distinct inside none = absurd inside
  inserted (j ∷ js) distinct inside none =
      insert_by (eqb j k) j js refl none distinct.0 inside (λ at. inserted js distinct.1 at none)

  -- one of its operand comes later
  over_by : (b : Bool) (j : ℕ) (js : List ℕ) (o : Effect) → eqb j k ≡ b → last_of xs k ≡ Some o → IsIn k (j ∷ js) →
      (IsIn k js → Overridden e (out_of xs js)) → Overridden e (out_of xs (j ∷ js))
  over_by true j js o is found inside rest =
      subst (Overridden e) (sym (ap (λ j. with_last (last_of xs j) (out_of xs js)) (same_number j k is) ∙ ap (λ o. with_last o (out_of xs js)) found))
      (delays.here o (out_of xs js) (last_over xs k e o may found))
  over_by false j js o is found inside rest =
      let differ = other_number j k is in over_one j (last_of xs j) (out_of xs js) differ refl (rest (not_first j js differ inside))

  overridden : (js : List ℕ) (o : Effect) → IsIn k js → last_of xs k ≡ Some o → Overridden e (out_of xs js)
  overridden [] o inside found = absurd inside
  overridden (j ∷ js) o inside found = over_by (eqb j k) j js o refl found inside (λ at. overridden js o at found)

  out_still : (js : List ℕ) (o : Effect) → last_of xs k ≡ Some o → out_of more js ≡ out_of xs js
  out_still [] o found = refl
  out_still (j ∷ js) o found = ap (λ o. with_last o (out_of more js)) (same_last (eqb j k) refl) ∙ ap (with_last (last_of xs j)) (out_still js o found)
    where
      same_last : (b : Bool) → eqb j k ≡ b → last_of more j ≡ last_of xs j
      same_last true is = subst (λ i. last_of more i ≡ last_of xs i) (sym (same_number j k is)) (last_still o found ∙ sym found)
      same_last false is = last_other j (other_number j k is)

  delays_by : (o : Option Effect) (es kept : List Effect) (js : List ℕ) → last_of xs k ≡ o → AreDistinct js → IsIn k js → ApartFrom e kept →
      Delays es kept (out_of xs js) → Delays (e ∷ es) kept (out_of more js)
  delays_by None es kept js is distinct inside apart d = delays.delays e es kept (out_of xs js) (out_of more js) d apart (inserted js distinct inside is)
  delays_by (Some o) es kept js is distinct inside apart d =
      subst (Delays (e ∷ es) kept) (sym (out_still js o is)) (delays.again e es kept (out_of xs js) d apart (overridden js o inside is))

kept_delays : (xs : List Keyed) (e : Effect) (js : List ℕ) → out_of (record { key = None; effect = e } ∷ xs) js ≡ out_of xs js
kept_delays xs e [] = refl
kept_delays xs e (j ∷ js) = ap (λ o. with_last o (out_of (record { key = None; effect = e } ∷ xs) js)) (same (last_of xs j)) ∙
    ap (with_last (last_of xs j)) (kept_delays xs e js)
  where
    same : (o : Option Effect) → last_by o None j e ≡ o
    same None = refl
    same (Some o) = refl

none_out : (js : List ℕ) → out_of [] js ≡ []
none_out [] = refl
none_out (j ∷ js) = none_out js

one_more : (key : Option ℕ) (e : Effect) (xs : List Keyed) (js : List ℕ) → AreDistinct js → MayPassBy js key e xs →
    Delays (effects_in xs) (kept_of xs) (out_of xs js) →
    Delays (e ∷ effects_in xs) (with_kept key e (kept_of xs)) (out_of (record { key = key; effect = e } ∷ xs) js)
one_more None e xs js distinct may d = subst (Delays (e ∷ effects_in xs) (e ∷ kept_of xs)) (sym (kept_delays xs e js))
    (delays.keeps e (effects_in xs) (kept_of xs) (out_of xs js) d)
one_more (Some k) e xs js distinct may d =
    delays_by xs k e may.1 (last_of xs k) (effects_in xs) (kept_of xs) js refl distinct may.0 (kept_apart k e xs may.1) d

-- orderly effects may be delayed so
pub keyed_delays : (js : List ℕ) (xs : List Keyed) → AreDistinct js → AreOrderly js xs → Delays (effects_in xs) (kept_of xs) (out_of xs js)
keyed_delays js [] distinct orderly = subst (Delays [] []) (sym (none_out js)) delays.none
keyed_delays js (x ∷ xs) distinct orderly = one_more x.key x.effect xs js distinct orderly.0 (keyed_delays js xs distinct orderly.1)

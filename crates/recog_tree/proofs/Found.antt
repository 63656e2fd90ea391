-- The first match, found by going from one form that is tried to the next.
use Rattle.std.proofs.lemmas.Bool.{cases_lt}
use Rattle.std.proofs.Common.{◌≡◌, ◌⊎◌, ⊎_elim, ℕ, ◌+◌, ◌≤◌, ◌<◌, Bool, true, false, List, [], ◌∷◌, map, length, take, get_or, cond, Option, Some, None, refl, sym, ap, subst, ◌∙◌, arith, count_by}
use Rattle.std.specs.Prelude.{slice_get, option_map, MatchOption}
use Rattle.std.specs.Option.{option_map_or}
use Rattle.std.proofs.lemmas.Option.{slice_get-map, get_or_from_slice_get}
use Rattle.std.proofs.lemmas.List.{length-map, take-take}
use Rattle.std.proofs.lemmas.List.Sums.{sum_by-take-le, count_by_more_yes}
use Rattle.rtx_tree.specs.declared.tree.Rtx.{Rtx}
use Rattle.c_eval.specs.declared.facts.Facts.{Facts}
use Rattle.md_match.specs.Pattern.{Ops}
use Rattle.md_forms.specs.declared.form.Entry.{Entry}
use Rattle.md_recog.specs.Match.{Accepts}
use Rattle.md_recog.specs.declared.half.Half.{Half}
use Rattle.md_recog.specs.Recog.{NoneBetween, MatchesAt}
use Rattle.recog_tree.specs.declared.key.Key.{Key}
use Rattle.recog_tree.specs.Key.{key_of, entry_key, is_tried_by, is_tried}
use Rattle.recog_tree.specs.machine.Tables.{is_tried_at, NoneTried, IsNext}
use Rattle.recog_tree.proofs.KeyLaw.{matching_is_tried}

pub true_false : (b : Bool) → b ≡ true → b ≡ false → ⊥
true_false b t f = let none : true ≡ false = sym t ∙ f in let never : ⊥ = cc in never

-- a place more that isn't tried
pub past : (t : List (Option Key)) (i : Key) (from k : ℕ) → NoneTried t i from k → is_tried_at t i k ≡ false → NoneTried t i from (k + 1)
past t i from k none here place behind before = ⊎_elim
    (λ (below : place < k). none place behind below)
    (λ (above : k ≤ place). let same : k ≡ place = omega (arith, above, before) in subst (λ n. is_tried_at t i n ≡ false) same here)
    (cases_lt place k)

-- ---- a place of the tables is one of the forms

over : (h : Half) (i : Rtx) (e : Option Entry) → option_map_or (is_tried_by (key_of i)) (option_map (entry_key h) e) false ≡ option_map_or (is_tried h i) e false
over h i (Some e) = refl
over h i None = refl

pub tried_at_form : (h : Half) (t : List (Option Key)) (es : List Entry) (i : Rtx) (k : ℕ) → t ≡ map (entry_key h) es → is_tried_at t (key_of i) k ≡ option_map_or (is_tried h i) (slice_get es k) false
tried_at_form h t es i k are =
    ap (λ ks. is_tried_at ks (key_of i) k) are ∙ (ap (λ o. option_map_or (is_tried_by (key_of i)) o false) (slice_get-map (entry_key h) es k) ∙ over h i (slice_get es k))

pub as_long : (h : Half) (t : List (Option Key)) (es : List Entry) → t ≡ map (entry_key h) es → length t ≡ length es
as_long h t es are = ap (λ (ks : List (Option Key)). length ks) are ∙ length-map es (entry_key h)

pub within_forms : (h : Half) (t : List (Option Key)) (es : List Entry) (i : Key) (from k : ℕ) → t ≡ map (entry_key h) es → IsNext t i from k → k < length es
within_forms h t es i from k are next = subst (λ n. k < n) (as_long h t es are) next.within

pub short_keys : (h : Half) (t : List (Option Key)) (es : List Entry) (n : ℕ) → t ≡ map (entry_key h) es → length es < n → length t < n
short_keys h t es n are short = subst (λ k. k < n) (sym (as_long h t es are)) short

-- ---- what isn't tried doesn't match

module _ (a : Accepts) (f : Facts) (h : Half) (i : Rtx) (t : List (Option Key)) (es : List Entry) (are : t ≡ map (entry_key h) es) where
  untried : (k : ℕ) (o : Ops) → is_tried_at t (key_of i) k ≡ false → MatchesAt a f h (i ∷ []) es k o → ⊥
  untried k o not m =
      let here : is_tried_at t (key_of i) k ≡ is_tried h i m.entry = tried_at_form h t es i k are ∙ ap (λ e. option_map_or (is_tried h i) e false) m.at in
      true_false (is_tried_at t (key_of i) k) (here ∙ matching_is_tried a f h i m.entry o m.matches) not

  pub skips : (from place to : ℕ) → NoneBetween a f h (i ∷ []) es from place → NoneTried t (key_of i) place to → NoneBetween a f h (i ∷ []) es from to
  skips from place to none not k behind before o m = ⊎_elim
      (λ (below : k < place). none k behind below o m)
      (λ (above : place ≤ k). untried k o (not k above before) m)
      (cases_lt k place)

  pub skips_all : (from place : ℕ) → NoneBetween a f h (i ∷ []) es from place → NoneTried t (key_of i) place (length t) → NoneBetween a f h (i ∷ []) es from (length es)
  skips_all from place none not = subst (λ n. NoneBetween a f h (i ∷ []) es from n) (as_long h t es are) (skips from place (length t) none not)

-- ---- what was looked up for an instruction with a key

abbrev pub Looked : List (Option Key) → Key → ℕ → Option ℕ → Type 0
Looked t i place r = MatchOption r (NoneTried t i place (length t)) (λ form. IsNext t i place form)

pub looked_for : (t : List (Option Key)) (k i : Key) (place : ℕ) (r s : Option ℕ) → k ≡ i → r ≡ s → Looked t k place r → Looked t i place s
looked_for t k i place r s same is h = subst (λ key. Looked t key place s) same (subst (λ o. Looked t k place o) is h)

pub next_is : (t : List (Option Key)) (k i : Key) (place form : ℕ) (r : Option ℕ) → k ≡ i → r ≡ Some form → Looked t k place r → IsNext t i place form
next_is t k i place form r same is h = looked_for t k i place r (Some form) same is h

pub none_is : (t : List (Option Key)) (k i : Key) (place : ℕ) (r : Option ℕ) → k ≡ i → r ≡ None → Looked t k place r → NoneTried t i place (length t)
none_is t k i place r same is h = looked_for t k i place r None same is h

-- ---- how many are tried

abbrev pub count : Half → Rtx → List Entry → ℕ
count h i es = count_by (is_tried h i) es

module _ (h : Half) (i : Rtx) (es : List Entry) where
  fewer : (m n : ℕ) → m ≤ n → count h i (take m es) ≤ count h i (take n es)
  fewer m n le = subst (λ fs. count h i fs ≤ count h i (take n es)) (take-take m n es le) (sum_by-take-le (λ e. cond (is_tried h i e) 1 0) (take n es) m)

  stands : (o : Option Entry) → option_map_or (is_tried h i) o false ≡ true → (e : Entry) × (o ≡ Some e) × (is_tried h i e ≡ true)
  stands (Some e) h = (e, refl, h)
  stands None h = absurd (let none : ⊥ = cc in none)

  pub one_more : (t : List (Option Key)) (place k : ℕ) → t ≡ map (entry_key h) es → IsNext t (key_of i) place k → count h i (take place es) + 1 ≤ count h i (take (k + 1) es)
  one_more t place k are next =
      let here = stands (slice_get es k) (sym (tried_at_form h t es i k are) ∙ next.tried) in
      let within : k < length es = within_forms h t es (key_of i) place k are next in
      let tried : is_tried h i (get_or es k here.0) ≡ true = ap (is_tried h i) (get_or_from_slice_get es k here.0 here.0 here.1) ∙ here.2 in
      let more : count h i (take (k + 1) es) ≡ count h i (take k es) + 1 = count_by_more_yes (is_tried h i) es k here.0 within tried in
      let less : count h i (take place es) ≤ count h i (take k es) = fewer place k next.behind in
      omega (arith, more, less)

  pub all_of_them : (n : ℕ) → count h i (take n es) ≤ count h i es
  all_of_them n = sum_by-take-le (λ e. cond (is_tried h i e) 1 0) es n

  -- with the steps of one try more there are at most as many as forms that are tried
  pub few : (t : List (Option Key)) (place k old before new : ℕ) → t ≡ map (entry_key h) es → IsNext t (key_of i) place k → before ≤ old + count h i (take place es) → new ≤ before + 1 → new ≤ old + count h i (take (k + 1) es)
  few t place k old before new are next tries step = let more = one_more t place k are next in omega (arith, more, tries, step)

  pub few_of_all : (old new n : ℕ) → new ≤ old + count h i (take n es) → new ≤ old + count h i es
  few_of_all old new n tries = let all = all_of_them n in omega (arith, all, tries)

-- Reading one byte more.
use Rattle.std.proofs.Common.{◌≡◌, ℕ, ◌+◌, ◌<◌, List, [], ◌∷◌, ◌++◌, length, take, get_or, Option, Some, None, refl, sym, ap, subst, ◌∙◌, ◌≤◌, ◌⊎◌, inl, inr, arith}
use Rattle.std.proofs.lemmas.List.{take_more}
use Rattle.std.proofs.lemmas.Bool.{cases_lt}
use Rattle.rtx_tree.specs.declared.place.Place.{Place}
use Rattle.lisp_read.specs.Places.{start, advance, place_after}
use Rattle.lisp_read.specs.machine.Steps.{State, next}
use Rattle.rtx_tree.specs.Limit.{most_open}
use Rattle.lisp_read.specs.machine.Runs.{empty, run, ◌>>=◌, Reaches, IsShallow, StopsDeep}

some_is : {A : Type 0} (x y : A) → Some x ≡ Some y → x ≡ y
some_is x y e = cc

pub bind_assoc : {A B C : Type 0} (o : Option A) (f : A → Option B) (g : B → Option C) → ((o >>= f) >>= g) ≡ (o >>= λ x. f x >>= g)
bind_assoc (Some x) f g = refl
bind_assoc None f g = refl

pub bind_same : {A B : Type 0} (o : Option A) (f g : A → Option B) → ((x : A) → f x ≡ g x) → (o >>= f) ≡ (o >>= g)
bind_same (Some x) f g h = h x
bind_same None f g h = refl

pub run-append : (here : Place) (s : State) (xs ys : List ℕ) → run here s (xs ++ ys) ≡ (run here s xs >>= λ t. run (place_after here xs) t ys)
unfolding run
run-append here s [] ys = refl
run-append here s (b ∷ xs) ys =
    bind_same (next here s b) (λ t. run (advance here b) t (xs ++ ys)) (λ t. run (advance here b) t xs >>= λ u. run (place_after (advance here b) xs) u ys) (λ t. run-append (advance here b) t xs ys)
    ∙ sym (bind_assoc (next here s b) (λ t. run (advance here b) t xs) (λ u. run (place_after (advance here b) xs) u ys))

pub run_one : (here : Place) (s : State) (b : ℕ) → run here s (b ∷ []) ≡ next here s b
unfolding run
run_one here s b = some_again (next here s b)
  where
    some_again : (o : Option State) → (o >>= λ t. Some t) ≡ o
    some_again (Some x) = refl
    some_again None = refl

pub place_after-append : (here : Place) (xs ys : List ℕ) → place_after here (xs ++ ys) ≡ place_after (place_after here xs) ys
place_after-append here [] ys = refl
place_after-append here (b ∷ xs) ys = place_after-append (advance here b) xs ys

pub place_more : (bytes : List ℕ) (k : ℕ) (here there : Place) → k < length bytes → here ≡ place_after start (take k bytes) → there ≡ advance here (get_or bytes k 0) → there ≡ place_after start (take (k + 1) bytes)
place_more bytes k here there lt e f =
    f ∙ ap (λ (p : Place). advance p (get_or bytes k 0)) e
    ∙ sym (ap (place_after start) (take_more bytes k 0 lt) ∙ place_after-append start (take k bytes) (get_or bytes k 0 ∷ []))

pub reaches_more : (bytes : List ℕ) (k : ℕ) (s t : State) (here : Place) → k < length bytes → Reaches bytes k s → here ≡ place_after start (take k bytes) → next here s (get_or bytes k 0) ≡ Some t → Reaches bytes (k + 1) t
reaches_more bytes k s t here lt reached e f =
    ap (run start empty) (take_more bytes k 0 lt)
    ∙ run-append start empty (take k bytes) (get_or bytes k 0 ∷ [])
    ∙ rw reached (run_one (place_after start (take k bytes)) s (get_or bytes k 0) ∙ rw (← e) f)

-- before the first byte nothing is open
pub shallow_start : (bytes : List ℕ) → IsShallow bytes 0
unfolding run
shallow_start bytes j s le e = subst (λ (t : State). length t.front.within ≤ most_open) (some_is empty s (sym (ap (λ (i : ℕ). run start empty (take i bytes)) none) ∙ e)) (omega arith)
  where
    none : j ≡ 0
    none = omega arith

-- one byte more, behind which as many are open as may be
pub shallow_more : (bytes : List ℕ) (k : ℕ) (t : State) → IsShallow bytes k → Reaches bytes (k + 1) t → length t.front.within ≤ most_open → IsShallow bytes (k + 1)
shallow_more bytes k t shallow reached few j s le e = by_order (cases_lt j (k + 1))
  where
    by_order : (j < k + 1) ⊎ (k + 1 ≤ j) → length s.front.within ≤ most_open
    by_order (inl lt) = shallow j s (omega arith) e
    by_order (inr ge) =
        let last : j ≡ k + 1 = omega arith in
        subst (λ (u : State). length u.front.within ≤ most_open) (some_is t s (sym reached ∙ ap (λ (i : ℕ). run start empty (take i bytes)) (sym last) ∙ e)) few

pub stops_deep : (bytes : List ℕ) (k : ℕ) (s t : State) (here : Place) → k < length bytes → Reaches bytes k s → IsShallow bytes k → here ≡ place_after start (take k bytes) →
    (next here s (get_or bytes k 0) ≡ Some t) × (most_open < length t.front.within) → StopsDeep bytes k
stops_deep bytes k s t here lt reached shallow e h = record {
  state = s;
  deeper = t;
  in_text = lt;
  reached = reached;
  shallow = shallow;
  step = subst (λ (p : Place). next p s (get_or bytes k 0) ≡ Some t) e h.0;
  deep = h.1;
}

-- The greatest of a chain's numbers, where a window is replaced.
use Rattle.std.proofs.Common.{◌≡◌, ℕ, ◌-◌, ◌≤◌, List, [], ◌∷◌, ◌++◌, map, reverse, take, drop, Option, refl, sym, ap, subst, ◌∙◌, arith}
use Rattle.std.specs.Prelude.{max, slice_range, IfSome}
use Rattle.std.proofs.lemmas.List.{map-append, drop-drop, take-append-drop, reverse-append}
use Rattle.rtl_chain.specs.Counts.{greatest}

max_assoc : (a b c : ℕ) → max (max a b) c ≡ max a (max b c)
max_assoc a b c = grind arith

max_swap : (a b c : ℕ) → max a (max b c) ≡ max (max a c) b
max_swap a b c = grind arith

greatest-append : (xs ys : List ℕ) → greatest (xs ++ ys) ≡ max (greatest xs) (greatest ys)
greatest-append [] ys = grind arith
greatest-append (x ∷ xs) ys = ap (max x) (greatest-append xs ys) ∙ sym (max_assoc x (greatest xs) (greatest ys))

greatest-reverse : {X : Type 0} (m : X → ℕ) (xs : List X) → greatest (map m (reverse xs)) ≡ greatest (map m xs)
greatest-reverse m [] = refl
greatest-reverse m (x ∷ xs) =
    ap (λ l. greatest (map m l)) (reverse-append (x ∷ []) xs) ∙
    (ap greatest (map-append m (reverse xs) (x ∷ [])) ∙
    (greatest-append (map m (reverse xs)) (m x ∷ []) ∙
    (ap (λ n. max n (max (m x) 0)) (greatest-reverse m xs) ∙ grind arith)))

-- the greatest of a measure, by those of two parts of which the second is in reverse
pub greatest_parts : {X : Type 0} (m : X → ℕ) (whole front back : List X) → whole ≡ front ++ reverse back →
    max (greatest (map m front)) (greatest (map m back)) ≡ greatest (map m whole)
greatest_parts m whole front back is =
    ap (max (greatest (map m front))) (sym (greatest-reverse m back)) ∙
    (sym (ap greatest (map-append m front (reverse back)) ∙ greatest-append (map m front) (map m (reverse back))) ∙
    ap (λ l. greatest (map m l)) (sym is))

-- the greatest of a measure, by that of what is outside a window and that of the window
pub greatest_round : {X : Type 0} (m : X → ℕ) (front window back : List X) → greatest (map m (front ++ (window ++ back))) ≡ max (max (greatest (map m front)) (greatest (map m back))) (greatest (map m window))
greatest_round m front window back =
    ap greatest (map-append m front (window ++ back) ∙ ap (λ l. map m front ++ l) (map-append m window back)) ∙
    (greatest-append (map m front) (map m window ++ map m back) ∙
    (ap (max (greatest (map m front))) (greatest-append (map m window) (map m back)) ∙
    max_swap (greatest (map m front)) (greatest (map m window)) (greatest (map m back))))

-- a list with a window, by what stands before, in and behind it
pub window_parts : {X : Type 0} (xs : List X) (first end : ℕ) → first ≤ end → xs ≡ take first xs ++ (slice_range xs first end ++ drop end xs)
window_parts xs first end l =
    let rest : take (end - first) (drop first xs) ++ drop end xs ≡ drop first xs =
    ap (λ l. take (end - first) (drop first xs) ++ l) (sym (drop-drop (end - first) first xs ∙ ap (λ n. drop n xs) (omega arith))) ∙
    take-append-drop (end - first) (drop first xs) in
    sym (ap (λ l. take first xs ++ l) rest ∙ take-append-drop first xs)

-- the same, where others stand in the window's place
pub greatest_before : {X : Type 0} (m : X → ℕ) (xs : List X) (first end : ℕ) → first ≤ end →
    greatest (map m xs) ≡ max (max (greatest (map m (take first xs))) (greatest (map m (drop end xs)))) (greatest (map m (slice_range xs first end)))
greatest_before m xs first end l =
    ap (λ l. greatest (map m l)) (window_parts xs first end l) ∙ greatest_round m (take first xs) (slice_range xs first end) (drop end xs)

-- what is known of the greatest, where that of a window becomes another
pub known_after : {X : Type 0} (m : X → ℕ) (xs shown window new shown_new all : List X) (first end old more : ℕ) (before after : Option ℕ) → first ≤ end →
    shown ≡ xs → window ≡ slice_range shown first end → shown_new ≡ new → all ≡ take first xs ++ (new ++ drop end xs) →
    old ≡ greatest (map m window) → more ≡ greatest (map m shown_new) →
    IfSome before (λ n. n ≡ greatest (map m xs)) →
    ((others : ℕ) → IfSome before (λ n. n ≡ max others old) → IfSome after (λ n. n ≡ max others more)) →
    IfSome after (λ n. n ≡ greatest (map m all))
known_after m xs shown window new shown_new all first end old more before after l seen is_window seen_new same is_old is_more known step =
    let others = max (greatest (map m (take first xs))) (greatest (map m (drop end xs))) in
    let there : window ≡ slice_range xs first end = is_window ∙ ap (λ l. slice_range l first end) seen in
    let was : greatest (map m xs) ≡ max others old = greatest_before m xs first end l ∙ ap (max others) (sym (is_old ∙ ap (λ l. greatest (map m l)) there)) in
    let now : greatest (map m all) ≡ max others more =
    ap (λ l. greatest (map m l)) same ∙ (greatest_round m (take first xs) new (drop end xs) ∙ ap (max others) (sym (is_more ∙ ap (λ l. greatest (map m l)) seen_new))) in
    subst (λ g. IfSome after (λ n. n ≡ g)) (sym now) (step others (subst (λ g. IfSome before (λ n. n ≡ g)) was known))

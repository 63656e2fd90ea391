-- How many elements of a list have a property, where a window is replaced.
use Rattle.std.proofs.Common.{◌≡◌, ℕ, suc, ◌+◌, ◌≤◌, Bool, true, false, cond, List, [], ◌∷◌, ◌++◌, length, reverse, take, drop, Option, Some, None, refl, sym, ap, subst, ◌∙◌, arith, slice_get, add-one, zero-add}
use Rattle.std.specs.Prelude.{filter, slice_range, IfSome, SomeIff}
use Rattle.std.proofs.Math.Seq.{drop-cons}
use Rattle.std.proofs.lemmas.List.{reverse-append, take-append-drop}
use Rattle.std.proofs.lemmas.Option.{slice_get_within, get_or_from_slice_get}
use Rattle.rtx_tree.specs.declared.function.Insn.{Insn}
use Rattle.rtl_chain.specs.Counts.{is_instruction}
use Rattle.live_chain.proofs.NumberLaws.{window_parts}

count-append : {X : Type 0} (p : X → Bool) (xs ys : List X) → length (filter p (xs ++ ys)) ≡ length (filter p xs) + length (filter p ys)
count-append p [] ys = sym (zero-add (length (filter p ys)))
count-append p (x ∷ xs) ys = go (p x) (count-append p xs ys)
  where
    go : (b : Bool) → length (filter p (xs ++ ys)) ≡ length (filter p xs) + length (filter p ys) →
        length (cond b (x ∷ filter p (xs ++ ys)) (filter p (xs ++ ys))) ≡ length (cond b (x ∷ filter p xs) (filter p xs)) + length (filter p ys)
    go true h = omega (arith, h)
    go false h = h

count-reverse : {X : Type 0} (p : X → Bool) (xs : List X) → length (filter p (reverse xs)) ≡ length (filter p xs)
count-reverse p [] = refl
count-reverse p (x ∷ xs) =
    let front = ap (λ l. length (filter p l)) (reverse-append (x ∷ []) xs) ∙ count-append p (reverse xs) (x ∷ []) in
    let back = count-append p (x ∷ []) xs in
    let same = count-reverse p xs in
    omega (arith, front, back, same)

-- of a whole, by those of two parts of which the second is in reverse
pub count_parts : {X : Type 0} (p : X → Bool) (whole front back : List X) → whole ≡ front ++ reverse back →
    length (filter p front) + length (filter p back) ≡ length (filter p whole)
count_parts p whole front back is =
    let all = ap (λ l. length (filter p l)) is ∙ count-append p front (reverse back) in
    let same = count-reverse p back in
    omega (arith, all, same)

-- what a sum tells, where it is known
pub sum_tells : (known : Option ℕ) (P : Type 0) (sum n : ℕ) → SomeIff known P sum → sum ≡ n → IfSome known (λ m. m ≡ n)
sum_tells None P sum n told same = tt
sum_tells (Some m) P sum n told same = told.1 ∙ same

-- by that of what is outside a window and that of the window
pub count_round : {X : Type 0} (p : X → Bool) (front window back : List X) →
    length (filter p (front ++ (window ++ back))) ≡ (length (filter p front) + length (filter p back)) + length (filter p window)
count_round p front window back =
    let one = count-append p front (window ++ back) in
    let two = count-append p window back in
    omega (arith, one, two)

-- a list with an element, by what stands before and behind it
parted : {X : Type 0} (xs : List X) (place : ℕ) (x : X) → slice_get xs place ≡ Some x → xs ≡ take place xs ++ (x ∷ drop (place + 1) xs)
parted xs place x at =
    let cons = drop-cons xs place x (slice_get_within xs place x at) in
    let here : drop place xs ≡ x ∷ drop (place + 1) xs = rw add-one (cons ∙ ap (λ u. u ∷ drop (suc place) xs) (get_or_from_slice_get xs place x x at)) in
    sym (take-append-drop place xs) ∙ ap (λ ys. take place xs ++ ys) here

-- the number with others in the place of one
pub count_in_place : (xs shown new : List Insn) (place all old more : ℕ) (i : Insn) (after : Option ℕ) → slice_get xs place ≡ Some i → shown ≡ i ∷ [] →
    all ≡ length (filter is_instruction xs) → old ≡ length (filter is_instruction shown) → more ≡ length (filter is_instruction new) →
    ((others : ℕ) → IfSome (Some all) (λ n. n ≡ others + old) → IfSome after (λ n. n ≡ others + more)) →
    IfSome after (λ n. n ≡ length (filter is_instruction (take place xs ++ (new ++ drop (place + 1) xs))))
count_in_place xs shown new place all old more i after at seen is_all is_old is_more step =
    let others = length (filter is_instruction (take place xs)) + length (filter is_instruction (drop (place + 1) xs)) in
    let was : all ≡ others + old =
    is_all ∙ (ap (λ l. length (filter is_instruction l)) (parted xs place i at) ∙ (count_round is_instruction (take place xs) (i ∷ []) (drop (place + 1) xs) ∙ ap (λ n. others + n) (sym (is_old ∙ ap (λ l. length (filter is_instruction l)) seen)))) in
    let now : length (filter is_instruction (take place xs ++ (new ++ drop (place + 1) xs))) ≡ others + more =
    count_round is_instruction (take place xs) new (drop (place + 1) xs) ∙ ap (λ n. others + n) (sym is_more) in
    subst (λ g. IfSome after (λ n. n ≡ g)) (sym now) (step others was)

-- the number with others in the place of a window
pub count_in_window : (xs old new : List Insn) (first end all few more : ℕ) (after : Option ℕ) → first ≤ end → old ≡ slice_range xs first end →
    all ≡ length (filter is_instruction xs) → few ≡ length (filter is_instruction old) → more ≡ length (filter is_instruction new) →
    ((others : ℕ) → IfSome (Some all) (λ n. n ≡ others + few) → IfSome after (λ n. n ≡ others + more)) →
    IfSome after (λ n. n ≡ length (filter is_instruction (take first xs ++ (new ++ drop end xs))))
count_in_window xs old new first end all few more after order is_window is_all is_few is_more step =
    let others = length (filter is_instruction (take first xs)) + length (filter is_instruction (drop end xs)) in
    let was : all ≡ others + few =
    is_all ∙ (ap (λ l. length (filter is_instruction l)) (window_parts xs first end order) ∙ (count_round is_instruction (take first xs) (slice_range xs first end) (drop end xs) ∙ ap (λ n. others + n) (sym (is_few ∙ ap (λ l. length (filter is_instruction l)) is_window)))) in
    let now : length (filter is_instruction (take first xs ++ (new ++ drop end xs))) ≡ others + more =
    count_round is_instruction (take first xs) new (drop end xs) ∙ ap (λ n. others + n) (sym is_more) in
    subst (λ g. IfSome after (λ n. n ≡ g)) (sym now) (step others was)

-- what is known of the number, where that of a window becomes another
pub count_known : {X : Type 0} (p : X → Bool) (xs shown window new shown_new all : List X) (first end old more : ℕ) (before after : Option ℕ) → first ≤ end →
    shown ≡ xs → window ≡ slice_range shown first end → shown_new ≡ new → all ≡ take first xs ++ (new ++ drop end xs) →
    old ≡ length (filter p window) → more ≡ length (filter p shown_new) →
    IfSome before (λ n. n ≡ length (filter p xs)) →
    ((others : ℕ) → IfSome before (λ n. n ≡ others + old) → IfSome after (λ n. n ≡ others + more)) →
    IfSome after (λ n. n ≡ length (filter p all))
count_known p xs shown window new shown_new all first end old more before after l seen is_window seen_new same is_old is_more known step =
    let others = length (filter p (take first xs)) + length (filter p (drop end xs)) in
    let there : window ≡ slice_range xs first end = is_window ∙ ap (λ l. slice_range l first end) seen in
    let was : length (filter p xs) ≡ others + old =
    ap (λ l. length (filter p l)) (window_parts xs first end l) ∙ (count_round p (take first xs) (slice_range xs first end) (drop end xs) ∙ ap (λ n. others + n) (sym (is_old ∙ ap (λ l. length (filter p l)) there))) in
    let now : length (filter p all) ≡ others + more =
    ap (λ l. length (filter p l)) same ∙ (count_round p (take first xs) new (drop end xs) ∙ ap (λ n. others + n) (sym (is_more ∙ ap (λ l. length (filter p l)) seen_new))) in
    subst (λ g. IfSome after (λ n. n ≡ g)) (sym now) (step others (subst (λ g. IfSome before (λ n. n ≡ g)) was known))

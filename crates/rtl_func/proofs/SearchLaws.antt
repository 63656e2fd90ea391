-- What the search finds is what paths lead to.
use Rattle.std.proofs.Common.{◌≡◌, ◌≢◌, ℕ, ◌+◌, ◌*◌, ◌<◌, ◌≤◌, ◌⊎◌, inl, inr, Bool, true, false, ◌||◌, ◌&&◌, ◌==◌, not, cond, List, [], ◌∷◌, ◌++◌, length, get_or, set, replicate, refl, sym, ap, subst, ◌∙◌, arith, get_or-set_other, length-set}
use Rattle.std.specs.Prelude.{slice_set, Option}
use Rattle.std.specs.List.{count_by}
use Rattle.std.proofs.lemmas.Bool.{cases_Bool, cases_eq, cases_lt, or_cases, or_left, or_right, and_parts, and_from, true≢false}
use Rattle.std.proofs.lemmas.Bool.Decides.{nat_tests}
use Rattle.std.proofs.lemmas.Grind.{common_steps}
use Rattle.std.proofs.lemmas.List.{get_or_past, length_push, get_or-replicate, length-replicate}
use Rattle.std.proofs.lemmas.List.Sums.{sum_by-set}
use Rattle.std.proofs.lemmas.Option.{slice_get_past}
use Rattle.rtx_tree.specs.declared.function.Insn.{Insn}
use Rattle.rtl_func.specs.Successors.{successors_by, successors_of}
use Rattle.rtl_func.specs.Paths.{Path, Here, Along, has_place, leads, ReachesExit}
use Rattle.rtl_func.proofs.PathLaws.{path_on}
use Rattle.rtl_func.specs.machine.Search.{is_found, with_place, with_places, IsSearch}
use Rattle.rtl_func.specs.declared.paths.Search.{Search}

has_append : (xs ys : List ℕ) (q : ℕ) → has_place (xs ++ ys) q ≡ (has_place xs q || has_place ys q)
has_append [] ys q = refl
has_append (x ∷ xs) ys q = let rest = has_append xs ys q in grind (arith, common_steps)

-- ---- one place

found_at : (found : List Bool) (place q : ℕ) → get_or found place true ≡ false → get_or (set found place true) q true ≡ (get_or found q true || q == place)
found_at found place q new = elim (cases_lt place (length found)) [
  | inl within ↦ elim (cases_eq q place) [
    | inl is ↦ grind (arith, nat_tests, common_steps)
    | inr other ↦ grind (arith, nat_tests, common_steps, get_or-set_other found place q true true other)
  ]
  | inr past ↦ absurd (true≢false (sym (get_or_past found place true past) ∙ new))
]

-- a search with a place as it is found
found_new : Search → ℕ → Search
found_new s place = record { found = slice_set s.found place true; left = s.left ++ place ∷ [] }

with_place-old : (s : Search) (place : ℕ) → is_found s place ≡ true → with_place s place ≡ s
with_place-old s place is = ap (λ (b : Bool). cond b s (record { found = slice_set s.found place true; left = s.left ++ place ∷ [] })) is

with_place-new : (s : Search) (place : ℕ) → is_found s place ≡ false → with_place s place ≡ found_new s place
unfolding found_new
with_place-new s place is = ap (λ (b : Bool). cond b s (record { found = slice_set s.found place true; left = s.left ++ place ∷ [] })) is

pub with_place-found : (s : Search) (place q : ℕ) → is_found (with_place s place) q ≡ (is_found s q || q == place)
unfolding found_new
with_place-found s place q = elim (cases_Bool (is_found s place)) [
  | inl old ↦ ap (λ s. is_found s q) (with_place-old s place old) ∙ same old
  | inr new ↦ ap (λ s. is_found s q) (with_place-new s place new) ∙ found_at s.found place q new
]
  where
    same : is_found s place ≡ true → is_found s q ≡ (is_found s q || q == place)
    same old = elim (cases_eq q place) [
      | inl is ↦ let there : is_found s q ≡ true = ap (is_found s) is ∙ old in grind (arith, nat_tests)
      | inr other ↦ grind (arith, nat_tests)
    ]

pub with_place-left : (s : Search) (place q : ℕ) → has_place (with_place s place).left q ≡ (has_place s.left q || (not (is_found s place) && place == q))
unfolding found_new
with_place-left s place q = elim (cases_Bool (is_found s place)) [
  | inl old ↦ let e = ap (λ s. has_place s.left q) (with_place-old s place old) in grind (arith, e, old)
  | inr new ↦ let e = ap (λ s. has_place s.left q) (with_place-new s place new) in let a = has_append s.left (place ∷ []) q in grind (arith, e, new, a)
]

pub with_place-long : (s : Search) (place : ℕ) → length (with_place s place).found ≡ length s.found
unfolding found_new
with_place-long s place = elim (cases_Bool (is_found s place)) [
  | inl old ↦ ap (λ s. length s.found) (with_place-old s place old)
  | inr new ↦ ap (λ s. length s.found) (with_place-new s place new) ∙ length-set s.found place true
]

within_new : (s : Search) (place : ℕ) → is_found s place ≡ false → place < length s.found
within_new s place new = elim (cases_lt place (length s.found)) [ inl within ↦ within | inr past ↦ absurd (true≢false (sym (get_or_past s.found place true past) ∙ new)) ]

-- how much is still to do
pub work : Search → ℕ
work s = 2 * count_by not s.found + length s.left

pub with_place-work : (s : Search) (place : ℕ) → work (with_place s place) ≤ work s
unfolding found_new work
with_place-work s place = elim (cases_Bool (is_found s place)) [
  | inl old ↦ let e = ap work (with_place-old s place old) in omega arith
  | inr new ↦
      let e = ap work (with_place-new s place new) in
      let within : place < length s.found = within_new s place new in
      let here : cond (not (is_found s place)) 1 0 ≡ 1 = ap (λ (b : Bool). cond {A = ℕ} (not b) 1 0) new in
      let c = sum_by-set (λ (b : Bool). cond (not b) 1 0) s.found place true true within in
      let l = length_push s.left place in
      omega (arith, e, c, here, l)
]

-- ---- several places

pub with_places-append : (s : Search) (ps qs : List ℕ) → with_places s (ps ++ qs) ≡ with_places (with_places s ps) qs
with_places-append s [] qs = refl
with_places-append s (p ∷ ps) qs = with_places-append (with_place s p) ps qs

pub with_places-work : (s : Search) (places : List ℕ) → work (with_places s places) ≤ work s
with_places-work s [] = omega arith
with_places-work s (p ∷ places) = let one = with_place-work s p in let rest = with_places-work (with_place s p) places in omega arith

-- a search in which the successors of one place are being found
record IsVisit (insns : List Insn) (p : ℕ) (todo : List ℕ) (s : Search) : Type 0 where
  long : length s.found ≡ length insns + 1
  start : is_found s 0 ≡ true
  sound : (q : ℕ) → q < length s.found → is_found s q ≡ true → Path insns 0 q
  waiting : (q : ℕ) → has_place s.left q ≡ true → Path insns 0 q
  closed : (o q : ℕ) → o ≢ p → o < length s.found → is_found s o ≡ true → has_place s.left o ≡ false → leads insns o q ≡ true → is_found s q ≡ true
  path : Path insns 0 p
  steps : (q : ℕ) → has_place todo q ≡ true → leads insns p q ≡ true
  here : (q : ℕ) → leads insns p q ≡ true → (is_found s q ≡ true) ⊎ (has_place todo q ≡ true)

same_place : (a b : ℕ) → (a == b) ≡ true → a ≡ b
same_place a b is = grind (arith, nat_tests)

place_same : (a b : ℕ) → a ≡ b → (a == b) ≡ true
place_same a b is = grind (arith, nat_tests)

visit_one : (insns : List Insn) (p q : ℕ) (todo : List ℕ) (s : Search) → IsVisit insns p (q ∷ todo) s → IsVisit insns p todo (with_place s q)
visit_one insns p q todo s v = record {
  long = with_place-long s q ∙ v.long;
  start = with_place-found s q 0 ∙ or_left (is_found s 0) _ v.start;
  sound = λ x lt is. elim (or_cases (is_found s x) (x == q) (sym (with_place-found s q x) ∙ is)) [
    | inl old ↦ v.sound x (subst (λ (n : ℕ). x < n) (with_place-long s q) lt) old
    | inr new ↦ subst (Path insns 0) (sym (same_place x q new)) to_q
  ];
  waiting = λ x is. elim (or_cases (has_place s.left x) _ (sym (with_place-left s q x) ∙ is)) [
    | inl old ↦ v.waiting x old
    | inr new ↦ subst (Path insns 0) (same_place q x (and_parts (not (is_found s q)) (q == x) new).1) to_q
  ];
  closed = λ o r apart lt is out step.
      let outside = sym (with_place-left s q o) ∙ out in
      let within = subst (λ (n : ℕ). o < n) (with_place-long s q) lt in
      let old : is_found s o ≡ true = was_old o (sym (with_place-found s q o) ∙ is) outside in
      let before : has_place s.left o ≡ false = grind (arith, outside) in
      with_place-found s q r ∙ or_left (is_found s r) _ (v.closed o r apart within old before step);
  path = v.path;
  steps = λ x is. v.steps x (or_right (q == x) (has_place todo x) is);
  here = λ x step. elim (v.here x step) [
    | inl old ↦ inl (with_place-found s q x ∙ or_left (is_found s x) _ old)
    | inr to_do ↦ elim (or_cases (q == x) (has_place todo x) to_do) [
      | inl is ↦ inl (with_place-found s q x ∙ or_right (is_found s x) (x == q) (place_same x q (sym (same_place q x is))))
      | inr rest ↦ inr rest
    ]
  ];
}
  where
    to_q : Path insns 0 q
    to_q = path_on insns 0 p q v.path (v.steps q (or_left (q == q) (has_place todo q) (place_same q q refl)))

    was_old : (o : ℕ) → (is_found s o || o == q) ≡ true → (has_place s.left o || (not (is_found s q) && q == o)) ≡ false → is_found s o ≡ true
    was_old o is out = elim (or_cases (is_found s o) (o == q) is) [
      | inl old ↦ old
      | inr new ↦
          let e = same_place o q new in
          let t = place_same q o (sym e) in
          let f : is_found s q ≡ true = elim (cases_Bool (is_found s q)) [ inl yes_found ↦ yes_found | inr not_found ↦ absurd (true≢false (sym (or_right (has_place s.left o) _ (and_from (not (is_found s q)) (q == o) (ap not not_found) t)) ∙ out)) ] in
          subst (λ (x : ℕ). is_found s x ≡ true) (sym e) f
    ]

visit_end : (insns : List Insn) (p : ℕ) (s : Search) → IsVisit insns p [] s → IsSearch insns s
visit_end insns p s v = record {
  long = v.long;
  start = v.start;
  sound = v.sound;
  waiting = v.waiting;
  closed = λ o q lt is out step. elim (cases_eq o p) [
    | inl e ↦ elim (v.here q (subst (λ (x : ℕ). leads insns x q ≡ true) e step)) [ inl there ↦ there | inr none ↦ absurd (true≢false (sym none)) ]
    | inr apart ↦ v.closed o q apart lt is out step
  ];
}

visit_all : (insns : List Insn) (p : ℕ) (todo : List ℕ) (s : Search) → IsVisit insns p todo s → IsSearch insns (with_places s todo)
visit_all insns p [] s v = visit_end insns p s v
visit_all insns p (q ∷ todo) s v = visit_all insns p todo (with_place s q) (visit_one insns p q todo s v)

visit_begin : (insns : List Insn) (p : ℕ) (s t : Search) → s.left ≡ t.left ++ p ∷ [] → t.found ≡ s.found → IsSearch insns s → IsVisit insns p (successors_of insns p) t
visit_begin insns p s t left found v = record {
  long = ap length found ∙ v.long;
  start = ap (λ found. get_or found 0 true) found ∙ v.start;
  sound = λ q lt is. v.sound q (subst (λ (xs : List Bool). q < length xs) found lt) (sym (ap (λ found. get_or found q true) found) ∙ is);
  waiting = λ q is. v.waiting q (in_left q ∙ or_left (has_place t.left q) _ is);
  closed = λ o q apart lt is out step.
      let before : has_place s.left o ≡ false = in_left o ∙ neither o apart out in
      ap (λ found. get_or found q true) found ∙ v.closed o q (subst (λ (xs : List Bool). o < length xs) found lt) (sym (ap (λ found. get_or found o true) found) ∙ is) before step;
  path = v.waiting p (in_left p ∙ or_right (has_place t.left p) _ (or_left (p == p) false (place_same p p refl)));
  steps = λ q is. is;
  here = λ q step. inr step;
}
  where
    in_left : (q : ℕ) → has_place s.left q ≡ (has_place t.left q || has_place (p ∷ []) q)
    in_left q = ap (λ places. has_place places q) left ∙ has_append t.left (p ∷ []) q

    neither : (o : ℕ) → o ≢ p → has_place t.left o ≡ false → (has_place t.left o || has_place (p ∷ []) o) ≡ false
    neither o apart out = grind (arith, nat_tests)

-- after one place was taken out and its successors were found
pub visited : (insns : List Insn) (p : ℕ) (s t : Search) → s.left ≡ t.left ++ p ∷ [] → t.found ≡ s.found → IsSearch insns s → IsSearch insns (with_places t (successors_of insns p))
visited insns p s t left found v = visit_all insns p (successors_of insns p) t (visit_begin insns p s t left found v)

pub visited-work : (p : ℕ) (places : List ℕ) (s t : Search) → s.left ≡ t.left ++ p ∷ [] → t.found ≡ s.found → work (with_places t places) < work s
unfolding work
visited-work p places s t left found =
    let all = with_places-work t places in
    let l = ap length left ∙ length_push t.left p in
    let f = ap (count_by not) found in
    omega (arith, all, l, f)

-- ---- the start and the end

-- no place is found
abbrev pub nothing_found : ℕ → Search
nothing_found n = record { found = replicate n false; left = [] }

pub search_start : (insns : List Insn) → IsSearch insns (with_place (nothing_found (length insns + 1)) 0)
search_start insns = record {
  long = with_place-long s 0 ∙ length-replicate (length insns + 1) false;
  start = with_place-found s 0 0 ∙ or_right (is_found s 0) _ refl;
  sound = λ q lt is. subst (Path insns 0) (sym (only q lt is)) (Here 0);
  waiting = λ q is. elim (or_cases false _ (sym (with_place-left s 0 q) ∙ is)) [
    | inl old ↦ absurd (true≢false (sym old))
    | inr new ↦ subst (Path insns 0) (same_place 0 q (and_parts (not (is_found s 0)) (0 == q) new).1) (Here 0)
  ];
  closed = λ p q lt is out step. absurd (true≢false (sym (ap (λ (x : ℕ). has_place (with_place s 0).left x) (only p lt is) ∙ in_left) ∙ out));
}
  where
    s : Search
    s = nothing_found (length insns + 1)

    only : (q : ℕ) → q < length (with_place s 0).found → is_found (with_place s 0) q ≡ true → q ≡ 0
    only q lt is =
        let within : q < length insns + 1 = subst (λ (n : ℕ). q < n) (with_place-long s 0 ∙ length-replicate (length insns + 1) false) lt in
        elim (or_cases (is_found s q) (q == 0) (sym (with_place-found s 0 q) ∙ is)) [
          | inl old ↦ absurd (true≢false (sym old ∙ get_or-replicate (length insns + 1) q false true within))
          | inr new ↦ same_place q 0 new
        ]

    in_left : has_place (with_place s 0).left 0 ≡ true
    in_left =
        let none : is_found s 0 ≡ false = get_or-replicate (length insns + 1) 0 false true (omega arith) in
        with_place-left s 0 0 ∙ and_from (not (is_found s 0)) (0 == 0) (ap not none) (place_same 0 0 refl)

search_step : (insns : List Insn) (s : Search) → s.left ≡ [] → IsSearch insns s → (p q : ℕ) → is_found s p ≡ true → leads insns p q ≡ true → is_found s q ≡ true
search_step insns s done v p q is step = elim (cases_lt p (length s.found)) [
  | inl within ↦ v.closed p q within is (ap (λ places. has_place places p) done) step
  | inr past ↦
      let long : length insns ≤ p = omega (arith, v.long) in
      absurd (true≢false (sym step ∙ ap (λ (i : Option Insn). has_place (successors_by insns p i) q) (slice_get_past insns p long)))
]

search_path : (insns : List Insn) (s : Search) → s.left ≡ [] → IsSearch insns s → (p q : ℕ) → is_found s p ≡ true → Path insns p q → is_found s q ≡ true
search_path insns s done v p q is (Here _) = is
search_path insns s done v p q is (Along _ m _ first rest) = search_path insns s done v m q (search_step insns s done v p m is first) rest

-- a search without a place left has found what paths lead to
pub search_end : (insns : List Insn) (s : Search) → s.left ≡ [] → IsSearch insns s → (is_found s (length insns) ≡ true → ReachesExit insns) × (ReachesExit insns → is_found s (length insns) ≡ true)
search_end insns s done v = (
  λ is. let within : length insns < length s.found = omega (arith, v.long) in v.sound (length insns) within is,
  λ path. search_path insns s done v 0 (length insns) v.start path,
)

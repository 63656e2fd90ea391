-- A register is read back from its text.
use Rattle.std.proofs.Common.{◌≡◌, ◌<◌, ◌≤◌, ◌+◌, ◌-◌, ◌⊎◌, inl, inr, ℕ, zero, suc, pos, Bool, true, false, ◌&&◌, List, [], ◌∷◌, ◌++◌, Option, Some, None, length, take, get_or, refl, sym, ap, subst, ◌∙◌, bytes_eq, codes, arith}
use Rattle.std.proofs.lemmas.Bool.Decides.{nat_tests}
use Rattle.std.specs.Prelude.{nat_lt, nat_eq, option_map, option_and_then}
use Rattle.std.specs.Option.{option_or}
use Rattle.std.specs.List.{position_or_len}
use Rattle.std.specs.Fmt.{decimal}
use Rattle.rtx_tree.specs.Registers.{reg_names, number_of_reg, pseudo, register_text}
use Rattle.text_words.specs.Words.{fits_i64, number_in}
use Rattle.lisp_read.specs.Leaf.{below, angled_in, pseudo_in, stack_vars_in, hard_in, register_in}
use Rattle.rtl_print.proofs.Numbers.{number_again, below_less, if_some, and_true, then_some, map_some}

-- a hard register or virtual-stack-vars, or a pseudo register that has a text
abbrev pub IsRegister : ℕ → Type 0
IsRegister r = (r < 33) ⊎ ((64 ≤ r) × (r < 2147483712))

-- ---- those below 33

abbrev all_below : ℕ → (ℕ → Bool) → Bool
all_below zero test = true
all_below (suc n) test = test n && all_below n test

pub one_below : (n : ℕ) (test : ℕ → Bool) (k : ℕ) → all_below n test ≡ true → k < n → test k ≡ true
one_below zero test k all less = absurd (omega (arith, less))
one_below (suc n) test k all less =
    let parts = and_true (test n) (all_below n test) all in
    by_order (nat_eq k n) refl parts.0 (λ (below : k < n). one_below n test k parts.1 below)
  where
    by_order : (b : Bool) → nat_eq k n ≡ b → test n ≡ true → (k < n → test k ≡ true) → test k ≡ true
    by_order true e here rest = let same : k ≡ n = grind (arith, nat_tests, e) in subst (λ (j : ℕ). test j ≡ true) (sym same) here
    by_order false e here rest = rest (grind (arith, nat_tests, e, less))

abbrev is_found : ℕ → Option ℕ → Bool
is_found r None = false
is_found r (Some k) = nat_eq k r

found : (r : ℕ) (o : Option ℕ) → is_found r o ≡ true → o ≡ Some r
found r None h = cc
found r (Some k) h = let same : k ≡ r = grind (arith, nat_tests, h) in ap (λ (j : ℕ). Some j) same

low_again : (r : ℕ) → r < 33 → register_in (register_text r) ≡ Some r
low_again r less = found r (register_in (register_text r)) (one_below 33 (λ (k : ℕ). is_found k (register_in (register_text k))) r refl less)

-- ---- pseudo registers

last_byte : (ds : List ℕ) → get_or (ds ++ 62 ∷ []) (length ds) 0 ≡ 62
last_byte [] = refl
last_byte (d ∷ ds) = last_byte ds

front_bytes : (ds : List ℕ) → take (length ds) (ds ++ 62 ∷ []) ≡ ds
front_bytes [] = refl
front_bytes (d ∷ ds) = ap (λ (x : List ℕ). d ∷ x) (front_bytes ds)

one_longer : (ds : List ℕ) → length (ds ++ 62 ∷ []) ≡ suc (length ds)
one_longer [] = refl
one_longer (d ∷ ds) = ap suc (one_longer ds)

angled : (ds : List ℕ) → angled_in (60 ∷ (ds ++ 62 ∷ [])) ≡ Some ds
angled ds =
    let long : nat_lt 1 (suc (suc (length ds))) ≡ true = grind (arith, nat_tests) in
    let last : suc (suc (length ds)) - 1 ≡ suc (length ds) = omega arith in
    let within : suc (length ds) - 1 ≡ length ds = omega arith in
    rw (one_longer ds) (rw (last, within, long) (rw (last_byte ds) (ap (λ (x : List ℕ). Some x) (front_bytes ds))))

pseudo_again : (k : ℕ) → k < 2147483648 → register_in (60 ∷ (decimal k ++ 62 ∷ [])) ≡ Some (pseudo k)
pseudo_again k less =
    let fits : fits_i64 (pos k) ≡ true = grind (arith, nat_tests) in
    let small : nat_lt k 2147483648 ≡ true = grind (arith, nat_tests) in
    ap (λ (o : Option (List ℕ)). option_map pseudo (option_and_then (below 2147483648) (option_and_then number_in o))) (angled (decimal k))
    ∙ (ap (λ (o : Option _). option_map pseudo (option_and_then (below 2147483648) o)) (number_again (pos k) fits) ∙ rw small refl)

high_again : (r : ℕ) → 64 ≤ r → r < 2147483712 → register_in (register_text r) ≡ Some r
high_again r low high =
    let hard : nat_lt r 32 ≡ false = grind (arith, nat_tests) in
    let stack : nat_lt r 64 ≡ false = grind (arith, nat_tests) in
    let is : 64 + (r - 64) ≡ r = omega arith in
    rw (hard, stack) (pseudo_again (r - 64) (omega arith) ∙ ap (λ (k : ℕ). Some k) is)

pub register_again : (r : ℕ) → IsRegister r → register_in (register_text r) ≡ Some r
register_again r (inl less) = low_again r less
register_again r (inr within) = high_again r within.0 within.1

-- ---- what a text that was read says

hard_is : (text : List ℕ) (r : ℕ) → hard_in text ≡ Some r → IsRegister r
hard_is text r is =
    let k = map_some (number_of_reg text) (λ (n : ℕ). n) r is in
    let at : ℕ = position_or_len (λ (name : List ℕ). bytes_eq name text) reg_names in
    let says = if_some (nat_lt at 32) at k.0 k.1 in
    let less : at < 32 = grind (arith, nat_tests, says.0) in
    let same : at ≡ r = says.1 ∙ k.2 in
    inl (subst (λ (j : ℕ). j < 33) same (omega (arith, less)))

stack_is : (text : List ℕ) (r : ℕ) → stack_vars_in text ≡ Some r → IsRegister r
stack_is text r is =
    let says = if_some (bytes_eq text (codes "virtual-stack-vars")) 32 r is in
    inl (subst (λ (j : ℕ). j < 33) says.1 (omega arith))

pseudo_is : (text : List ℕ) (r : ℕ) → pseudo_in text ≡ Some r → IsRegister r
pseudo_is text r is =
    let k = map_some (option_and_then (below 2147483648) (option_and_then number_in (angled_in text))) pseudo r is in
    let z = then_some (option_and_then number_in (angled_in text)) (below 2147483648) k.0 k.1 in
    let less : k.0 < 2147483648 = (below_less 2147483648 z.0 k.0 z.2).1 in
    let same : 64 + k.0 ≡ r = k.2 in
    inr (omega (arith, less, same), omega (arith, less, same))

pub register_is : (text : List ℕ) (r : ℕ) → register_in text ≡ Some r → IsRegister r
register_is text r is = by_hard (hard_in text) refl is
  where
    by_stack : (o : Option ℕ) → stack_vars_in text ≡ o → option_or o (pseudo_in text) ≡ Some r → IsRegister r
    by_stack None e h = pseudo_is text r h
    by_stack (Some k) e h = stack_is text r (e ∙ h)

    by_hard : (o : Option ℕ) → hard_in text ≡ o → option_or o (option_or (stack_vars_in text) (pseudo_in text)) ≡ Some r → IsRegister r
    by_hard None e h = by_stack (stack_vars_in text) refl h
    by_hard (Some k) e h = hard_is text r (e ∙ h)

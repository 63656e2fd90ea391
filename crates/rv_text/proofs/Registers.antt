-- The numbers of registers are those below 32, and each has a name of its own.
use Rattle.std.proofs.Common.{◌≡◌, ℕ, zero, suc, ◌≤◌, ◌<◌, ◌+◌, nat_lt, length, is_some, unwrap_or, Bool, true, false, not, cond, Option, None, Some, List, [], ◌∷◌, ◌++◌, sym, ap, subst, refl, arith}
use Rattle.std.proofs.lemmas.Option.{slice_get_past, slice_get_within, unwrap_or-slice_get}
use Rattle.std.proofs.lemmas.List.{append-nil}
use Rattle.std.proofs.lemmas.Bool.Decides.{nat_tests}
use Rattle.std.proofs.lemmas.Slice.Eq.{bytes_eq-Decides}
use Rattle.std.specs.Prelude.{slice_get}
use Rattle.std.specs.Str.{bytes_eq}
use Rattle.std.specs.List.{position_or_len}
use Rattle.rtx_tree.proofs.Distinct.{one_register}
use Rattle.rtx_tree.specs.Registers.{reg_names, reg_text, number_of_reg}
use Rattle.rv_text.specs.Lines.{register_text}
use Rattle.rv_text.specs.Text.{Finds}

is_some_below : {X : Type 0} (xs : List X) (i : ℕ) → nat_lt i (length xs) ≡ is_some (slice_get xs i)
is_some_below [] i = grind (arith, nat_tests)
is_some_below (x ∷ xs) zero = grind (arith, nat_tests)
is_some_below (x ∷ xs) (suc i) = rw (← is_some_below xs i) (grind (arith, nat_tests))

pub is_some_register : (reg : ℕ) → nat_lt reg 32 ≡ is_some (register_text reg)
is_some_register reg = is_some_below reg_names reg

pub no_register : (reg : ℕ) → 32 ≤ reg → register_text reg ≡ None
no_register reg past = slice_get_past reg_names reg past

pub nothing_shown : (out : List ℕ) (reg : ℕ) → 32 ≤ reg → out ≡ out ++ unwrap_or (register_text reg) []
nothing_shown out reg past = rw (no_register reg past) (sym (append-nil out))

pub name_shown : (reg : ℕ) → reg_text reg ≡ unwrap_or (register_text reg) []
name_shown reg = sym (unwrap_or-slice_get reg_names reg [])

-- ---- the first place of a text among names

abbrev first_place : List ℕ → List (List ℕ) → ℕ
first_place text names = position_or_len (λ name. bytes_eq name text) names

place_behind : (text name : List ℕ) (names : List (List ℕ)) (is_first : Bool) (n : ℕ) → (is_first ≡ true → name ≡ text) → (n < length names → slice_get names n ≡ Some text) →
    cond (not is_first) (1 + n) 0 < suc (length names) → slice_get (name ∷ names) (cond (not is_first) (1 + n) 0) ≡ Some text
place_behind text name names true n same behind within = ap Some (same refl)
place_behind text name names false n same behind within =
    let next : suc n ≡ 1 + n = omega arith in subst (λ k. slice_get (name ∷ names) k ≡ Some text) next (behind (omega (arith, within)))

stands_there : (text : List ℕ) (names : List (List ℕ)) → first_place text names < length names → slice_get names (first_place text names) ≡ Some text
stands_there text [] within = absurd (omega (arith, within))
stands_there text (name ∷ names) within =
    place_behind text name names (bytes_eq name text) (first_place text names) (λ is. (bytes_eq-Decides name text).0 is) (stands_there text names) within

not_behind : (text name : List ℕ) (names : List (List ℕ)) (is_first : Bool) (n i : ℕ) → (name ≡ text → is_first ≡ true) → (n ≤ i) → cond (not is_first) (1 + n) 0 ≤ suc i
not_behind text name names true n i same before = omega (arith, before)
not_behind text name names false n i same before = omega (arith, before)

at_once : (is_first : Bool) (n : ℕ) → is_first ≡ true → cond (not is_first) (1 + n) 0 ≤ 0
at_once true n is = omega arith
at_once false n is = cc

none_before : (text : List ℕ) (names : List (List ℕ)) (i : ℕ) → slice_get names i ≡ Some text → first_place text names ≤ i
none_before text [] i there = cc
none_before text (name ∷ names) zero there = let same : name ≡ text = cc in at_once (bytes_eq name text) (first_place text names) ((bytes_eq-Decides name text).1 same)
none_before text (name ∷ names) (suc i) there =
    not_behind text name names (bytes_eq name text) (first_place text names) i (bytes_eq-Decides name text).1 (none_before text names i there)

found_by : (text : List ℕ) (is_within : Bool) → nat_lt (first_place text reg_names) (length reg_names) ≡ is_within →
    Finds (λ reg. register_text reg ≡ Some text) (cond is_within (Some (first_place text reg_names)) None)
found_by text true is =
    let there = stands_there text reg_names (grind (arith, nat_tests, is)) in
    (there, λ other named. one_register other (first_place text reg_names) text named there)
found_by text false is = λ reg named. absurd (grind (arith, nat_tests, is, none_before text reg_names reg named, slice_get_within reg_names reg text named))

pub register_found : (text : List ℕ) (result : Option ℕ) → result ≡ number_of_reg text → Finds (λ reg. register_text reg ≡ Some text) result
register_found text result is = subst (Finds (λ reg. register_text reg ≡ Some text)) (sym is) (found_by text (nat_lt (first_place text reg_names) (length reg_names)) refl)

-- The registers that a call leaves, one after the other.
use Rattle.std.proofs.Common.{◌≡◌, ℕ, zero, suc, ◌+◌, ◌≤◌, Bool, true, false, take, drop, List, [], ◌∷◌, ◌++◌, Option, None, refl, sym, ap, ◌∙◌, arith}
use Rattle.std.proofs.lemmas.Bool.Decides.{nat_tests}
use Rattle.std.specs.Prelude.{slice_set, if◌then◌else◌}
use Rattle.rtx_tree.specs.Registers.{is_call_used}
use Rattle.rv_line.specs.Run.{left_from}
use Rattle.rv_line.specs.declared.state.RvState.{RvState}

-- registers of which the first so many are done, where the first has a number
abbrev at : ℕ → ℕ → List (Option ℕ) → List (Option ℕ)
at first count regs = take count regs ++ left_from (first + count) (drop count regs)

-- those below a number are done
abbrev pub done : ℕ → List (Option ℕ) → List (Option ℕ)
done reg regs = at 0 reg regs

at_none : (first count : ℕ) → at first count [] ≡ []
at_none first zero = refl
at_none first (suc count) = refl

set_none : (count : ℕ) → (let none : List (Option ℕ) = [] in slice_set none count None ≡ none)
set_none zero = refl
set_none (suc count) = refl

one : (first : ℕ) (value : Option ℕ) (regs : List (Option ℕ)) (b : Bool) → is_call_used (first + 0) ≡ b →
    (if b then None else value) ∷ left_from (first + 1) regs ≡ (if is_call_used (first + 0) then None else value) ∷ left_from (first + 0 + 1) regs
one first value regs b is =
    let next : first + 1 ≡ first + 0 + 1 = omega arith in
    ap (λ b. (if b then None else value) ∷ left_from (first + 1) regs) (sym is) ∙ ap (λ n. (if is_call_used (first + 0) then None else value) ∷ left_from n regs) next

used_at : (first count : ℕ) (regs : List (Option ℕ)) → is_call_used (first + count) ≡ true →
    at first (suc count) (slice_set regs count None) ≡ at first count regs
used_at first count [] is = ap (at first (suc count)) (set_none count) ∙ sym (at_none first count)
used_at first zero (value ∷ regs) is = one first value regs true is
used_at first (suc count) (value ∷ regs) is =
    let here : first + suc count ≡ suc first + count = omega arith in
    let next : first + suc (suc count) ≡ suc first + suc count = omega arith in
    ap (λ rest. value ∷ rest) (ap (λ n. take (suc count) (slice_set regs count None) ++ left_from n (drop (suc count) (slice_set regs count None))) next
    ∙ used_at (suc first) count regs (ap is_call_used (sym here) ∙ is)
    ∙ ap (λ n. take count regs ++ left_from n (drop count regs)) (sym here))

other_at : (first count : ℕ) (regs : List (Option ℕ)) → is_call_used (first + count) ≡ false → at first (suc count) regs ≡ at first count regs
other_at first count [] is = sym (at_none first count)
other_at first zero (value ∷ regs) is = one first value regs false is
other_at first (suc count) (value ∷ regs) is =
    let here : first + suc count ≡ suc first + count = omega arith in
    let next : first + suc (suc count) ≡ suc first + suc count = omega arith in
    ap (λ rest. value ∷ rest) (ap (λ n. take (suc count) regs ++ left_from n (drop (suc count) regs)) next
    ∙ other_at (suc first) count regs (ap is_call_used (sym here) ∙ is)
    ∙ ap (λ n. take count regs ++ left_from n (drop count regs)) (sym here))

-- one register more is done
pub used : (reg : ℕ) (regs : List (Option ℕ)) → is_call_used reg ≡ true → done (reg + 1) (slice_set regs reg None) ≡ done reg regs
used reg regs is =
    let whole : 0 + reg ≡ reg = omega arith in
    let next : reg + 1 ≡ suc reg = omega arith in
    ap (λ n. done n (slice_set regs reg None)) next ∙ used_at 0 reg regs (ap is_call_used whole ∙ is)

pub other : (reg : ℕ) (regs : List (Option ℕ)) → is_call_used reg ≡ false → done (reg + 1) regs ≡ done reg regs
other reg regs is =
    let whole : 0 + reg ≡ reg = omega arith in
    let next : reg + 1 ≡ suc reg = omega arith in
    ap (λ n. done n regs) next ∙ other_at 0 reg regs (ap is_call_used whole ∙ is)

-- no register from 32 on is one of those
past : (reg : ℕ) → 32 ≤ reg → is_call_used reg ≡ false
past reg above = grind (arith, nat_tests, above)

left_past : (reg : ℕ) (regs : List (Option ℕ)) → 32 ≤ reg → left_from reg regs ≡ regs
left_past reg [] above = refl
left_past reg (value ∷ regs) above =
    ap (λ b. (if b then None else value) ∷ left_from (reg + 1) regs) (past reg above) ∙ ap (λ rest. value ∷ rest) (left_past (reg + 1) regs (omega (arith, above)))

joined : (count : ℕ) (regs : List (Option ℕ)) → take count regs ++ drop count regs ≡ regs
joined zero regs = refl
joined (suc count) [] = refl
joined (suc count) (value ∷ regs) = ap (λ rest. value ∷ rest) (joined count regs)

-- all are done
pub all : (reg : ℕ) (regs : List (Option ℕ)) → 32 ≤ reg → done reg regs ≡ regs
all reg regs above = ap (λ rest. take reg regs ++ rest) (left_past (0 + reg) (drop reg regs) (omega (arith, above))) ∙ joined reg regs

pub whole : (now start : RvState) (reg : ℕ) → 32 ≤ reg → done reg now.regs ≡ left_from 0 start.regs → now.entry_ra ≡ start.entry_ra → now.memory ≡ start.memory →
    now ≡ record start { regs = left_from 0 start.regs }
whole now start reg above left entry memory =
    let regs : now.regs ≡ left_from 0 start.regs = sym (all reg now.regs above) ∙ left in
    λ i. record { regs = regs i; entry_ra = entry i; memory = memory i }

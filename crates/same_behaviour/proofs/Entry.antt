-- What the function sees of memory at entry.
use Rattle.std.proofs.Common.{◌≡◌, ℕ, zero, suc, ◌≢◌, ◌≤◌, ◌++◌, ◌⊎◌, inl, inr, ⊎_elim, arith, Bool, true, false, cond, not, ◌||◌, List, [], ◌∷◌, refl, sym, ap, ◌∙◌}
use Rattle.std.proofs.lemmas.Bool.Decides.{nat_tests}
use Rattle.std.proofs.lemmas.List.Folds.{list_any-append}
use Rattle.std.specs.List.{filter, list_any}
use Rattle.rv_line.specs.rtx_tree.declared.memories.MemByte.{MemByte}
use Rattle.rv_line.specs.run_memory.RunMemory.{is_in, is_visible, visible}
use Rattle.rv_line.specs.rtx_tree.declared.machine.Start.{Start}
use Rattle.same_behaviour.specs.Lawful.{IsLawful, is_below_sp, locals_range, seen_by_rtl}

pub same_or_not : (a b : ℕ) → (a ≡ b) ⊎ (a ≢ b)
same_or_not zero zero = inl refl
same_or_not zero (suc b) = inr (λ same. omega (arith, same))
same_or_not (suc a) zero = inr (λ same. omega (arith, same))
same_or_not (suc a) (suc b) = ⊎_elim (λ same. inl (ap suc same)) (λ other. inr (λ same. other (omega (arith, same)))) (same_or_not a b)

kept_step : {X : Type 0} (p q : X → Bool) (x : X) (xs : List X) (b : Bool) → q x ≡ b → (p x ≡ true → q x ≡ true) → filter p (filter q xs) ≡ filter p xs →
    filter p (cond b (x ∷ filter q xs) (filter q xs)) ≡ cond (p x) (x ∷ filter p xs) (filter p xs)
kept_step p q x xs true at implies same = ap (λ l. cond (p x) (x ∷ l) l) same
kept_step p q x xs false at implies same = dropped (p x) refl
  where
    dropped : (c : Bool) → p x ≡ c → filter p (filter q xs) ≡ cond c (x ∷ filter p xs) (filter p xs)
    dropped true passes = absurd (let both : true ≡ false = sym (implies passes) ∙ at in let none : ⊥ = cc in none)
    dropped false other = same

-- what passes a test is there also behind a filter that lets it through
kept : {X : Type 0} (p q : X → Bool) (xs : List X) → ((x : X) → p x ≡ true → q x ≡ true) → filter p (filter q xs) ≡ filter p xs
kept p q [] implies = refl
kept p q (x ∷ xs) implies = kept_step p q x xs (q x) refl (implies x) (kept p q xs implies)

any_of_both : {X : Type 0} (p : X → Bool) (xs ys : List X) → list_any p (xs ++ ys) ≡ true → list_any p xs ≡ false → list_any p ys ≡ true
any_of_both p xs ys any none = ap (λ b. b || list_any p ys) (sym none) ∙ sym (list_any-append p xs ys) ∙ any

in_locals : (start : Start) (locals address : ℕ) → locals ≤ start.sp → is_visible (locals_range start locals) address ≡ true → is_below_sp start locals address ≡ true
in_locals start zero address fits is = absurd (let none : ⊥ = cc in none)
in_locals start (suc n) address fits is = grind (arith, nat_tests, is, fits)

further : (start : Start) (locals size address : ℕ) → locals ≤ size → is_below_sp start locals address ≡ true →
    is_below_sp start size address ≡ true
further start locals size address holds is = grind (arith, nat_tests, holds, is)

stays : (frame locals size : ℕ) (start : Start) → locals ≤ size → (lawful : IsLawful frame locals start) (address : ℕ) (b : Bool) →
    is_below_sp start frame address ≡ b → is_visible (lawful.ranges ++ locals_range start locals) address ≡ true → (not b || is_below_sp start size address) ≡ true
stays frame locals size start holds lawful address false room is = refl
stays frame locals size start holds lawful address true room is =
    let small = lawful.holds in
    let room_is = lawful.above_zero in
    further start locals size address holds (in_locals start locals address (omega (arith, small, room_is))
    (any_of_both (is_in address) lawful.ranges (locals_range start locals) is (lawful.apart address room)))

-- of what is visible it sees all, where it sees its locals
pub visible_at_entry : (frame locals size : ℕ) (start : Start) → locals ≤ size → IsLawful frame locals start →
    visible start.visible start.memory ≡ visible start.visible (seen_by_rtl frame size start).memory
visible_at_entry frame locals size start holds lawful = sym (kept (λ (b : MemByte). is_visible start.visible b.address)
    (λ b. not (is_below_sp start frame b.address) || is_below_sp start size b.address) start.memory
    (λ b is. stays frame locals size start holds lawful b.address (is_below_sp start frame b.address) refl
    (sym (ap (λ ranges. is_visible ranges b.address) lawful.visible_is) ∙ is)))

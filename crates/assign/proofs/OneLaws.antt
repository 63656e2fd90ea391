-- A function has one list of homes.
use Rattle.std.proofs.Common.{◌≡◌, ℕ, zero, suc, ◌<◌, List, [], ◌∷◌, Some, refl, sym, ap, subst, ◌∙◌, inl, inr, arith}
use Rattle.std.specs.Prelude.{slice_get}
use Rattle.std.proofs.lemmas.Bool.{cases_lt}
use Rattle.std.proofs.lemmas.Option.{same_Some, none-some}
use Rattle.rtx_tree.specs.declared.function.Function.{Function}
use Rattle.rtx_tree.specs.Registers.{pseudo}
use Rattle.rv_regs.specs.Registers.{allocation_order}
use Rattle.reg_conflicts.specs.Conflicts.{Conflict}
use Rattle.assign.specs.declared.home.Home.{Home}
use Rattle.assign.specs.declared.home.Home.TheVariants.{Hard, Slot}
use Rattle.assign.specs.declared.home.HomeOf.{HomeOf}
use Rattle.assign.specs.Homes.{register, pseudos, IsTaken, AreHomes}
use Rattle.assign.proofs.RisingLaws.{same_increasing}

pub same_pseudos : (f : Function) (xs ys : List HomeOf) → AreHomes f xs → AreHomes f ys → pseudos xs ≡ pseudos ys
same_pseudos f xs ys one two = same_increasing (pseudos xs) (pseudos ys) one.ordered two.ordered (λ k. one.named k ∙ sym (two.named k))

first_pseudo : (x y : HomeOf) (xs ys : List HomeOf) → pseudos (x ∷ xs) ≡ pseudos (y ∷ ys) → x.pseudo ≡ y.pseudo
first_pseudo x y xs ys e = cc

other_pseudos : (x y : HomeOf) (xs ys : List HomeOf) → pseudos (x ∷ xs) ≡ pseudos (y ∷ ys) → pseudos xs ≡ pseudos ys
other_pseudos x y xs ys e = cc

-- what stands at the same place of a list of the same pseudos
opposite : (xs ys : List HomeOf) → pseudos xs ≡ pseudos ys → (k : ℕ) (x : HomeOf) → slice_get xs k ≡ Some x → (y : HomeOf) × (slice_get ys k ≡ Some y) × (x.pseudo ≡ y.pseudo)
opposite [] ys e k x at = absurd (none-some x at)
opposite (z ∷ xs) [] e k x at = cc
opposite (z ∷ xs) (y ∷ ys) e zero x at = (y, refl, ap (λ h. h.pseudo) (sym (same_Some z x at)) ∙ first_pseudo z y xs ys e)
opposite (z ∷ xs) (y ∷ ys) e (suc k) x at = opposite xs ys (other_pseudos z y xs ys e) k x at

-- the homes at a place are the same
abbrev pub IsSameAt : List HomeOf → List HomeOf → ℕ → Type 0
IsSameAt xs ys k = (x y : HomeOf) → slice_get xs k ≡ Some x → slice_get ys k ≡ Some y → x.home ≡ y.home

same_home_of : (x y : HomeOf) → x.pseudo ≡ y.pseudo → x.home ≡ y.home → x ≡ y
same_home_of x y p h = ap (λ (n : ℕ). (let z : HomeOf = record { pseudo = n; home = x.home } in z)) p ∙ ap (λ (o : Home). (let z : HomeOf = record { pseudo = y.pseudo; home = o } in z)) h

same_homes : (xs ys : List HomeOf) → pseudos xs ≡ pseudos ys → ((k : ℕ) → IsSameAt xs ys k) → xs ≡ ys
same_homes [] [] e same = refl
same_homes [] (y ∷ ys) e same = cc
same_homes (x ∷ xs) [] e same = cc
same_homes (x ∷ xs) (y ∷ ys) e same =
    let rest : xs ≡ ys = same_homes xs ys (other_pseudos x y xs ys e) (λ k. same (suc k)) in
    ap (λ z. z ∷ xs) (same_home_of x y (first_pseudo x y xs ys e) (same 0 x y refl refl)) ∙ ap (λ zs. y ∷ zs) rest

-- a pseudo's own register is not taken
not_taken : (f : Function) (homes : List HomeOf) → AreHomes f homes → (k : ℕ) (x : HomeOf) (hard : ℕ) → slice_get homes k ≡ Some x → x.home ≡ Hard hard → IsTaken f homes k x hard → ⊥
not_taken f homes are k x hard at is (inl c) = are.valid.own k x hard at is c
not_taken f homes are k x hard at is (inr (j, y, l, at_j, is_j, c)) = are.valid.shared j k y x hard l at_j at is_j is c

-- what is taken is taken by the other list's holders too, where the homes before are the same
taken_too : (f : Function) (xs ys : List HomeOf) → pseudos xs ≡ pseudos ys → (k : ℕ) → ((j : ℕ) → j < k → IsSameAt xs ys j) → (x y : HomeOf) (hard : ℕ) → x.pseudo ≡ y.pseudo → IsTaken f xs k x hard → IsTaken f ys k y hard
taken_too f xs ys e k before x y hard p (inl c) = inl (subst (λ n. Conflict f (pseudo n) hard) p c)
taken_too f xs ys e k before x y hard p (inr (j, v, l, at, is, c)) =
    let o = opposite xs ys e j v at in
    inr (j, o.0, l, o.1, sym (before j l v o.0 at o.1) ∙ is, subst (λ n. Conflict f (pseudo n) (pseudo o.0.pseudo)) p (subst (λ n. Conflict f (register x) (pseudo n)) o.2 c))

-- the pseudo at a place has a register in one list: it is not taken in the other, where the homes before are the same
not_refused : (f : Function) (xs ys : List HomeOf) → AreHomes f xs → pseudos ys ≡ pseudos xs → (k : ℕ) → ((j : ℕ) → j < k → IsSameAt ys xs j) → (x y : HomeOf) (hard : ℕ) → slice_get xs k ≡ Some x → y.pseudo ≡ x.pseudo → x.home ≡ Hard hard → IsTaken f ys k y hard → ⊥
not_refused f xs ys are e k before x y hard at p is taken = not_taken f xs are k x hard at is (taken_too f ys xs e k before y x hard p taken)

module _ (f : Function) (xs ys : List HomeOf) (one : AreHomes f xs) (two : AreHomes f ys) (e : pseudos xs ≡ pseudos ys) where
  module _ (k : ℕ) (before : (j : ℕ) → j < k → IsSameAt xs ys j) (x y : HomeOf) (at_x : slice_get xs k ≡ Some x) (at_y : slice_get ys k ≡ Some y) (p : x.pseudo ≡ y.pseudo) where
    not_in_x : (hard : ℕ) → x.home ≡ Hard hard → IsTaken f ys k y hard → ⊥
    not_in_x hard is taken = not_refused f xs ys one (sym e) k (λ j l v w at_v at_w. sym (before j l w v at_w at_v)) x y hard at_x (sym p) is taken

    not_in_y : (hard : ℕ) → y.home ≡ Hard hard → IsTaken f xs k x hard → ⊥
    not_in_y hard is taken = not_refused f ys xs two e k before y x hard at_y p is taken

    same_by : (a b : Home) → x.home ≡ a → y.home ≡ b → a ≡ b
    same_by Slot Slot is_x is_y = refl
    same_by Slot (Hard h) is_x is_y =
        let t = two.first k y h at_y is_y in
        absurd (not_in_y h is_y (one.maximal k t.0 x h at_x is_x t.1))
    same_by (Hard g) Slot is_x is_y =
        let s = one.first k x g at_x is_x in
        absurd (not_in_x g is_x (two.maximal k s.0 y g at_y is_y s.1))
    same_by (Hard g) (Hard h) is_x is_y =
        let s = one.first k x g at_x is_x in
        let t = two.first k y h at_y is_y in
        elim (cases_lt s.0 t.0) [
          | inl l ↦ absurd (not_in_x g is_x (t.2 s.0 g l s.1))
          | inr le ↦
              elim (cases_lt t.0 s.0) [
                | inl l ↦ absurd (not_in_y h is_y (s.2 t.0 h l t.1))
                | inr ge ↦ let i : s.0 ≡ t.0 = omega arith in ap Hard (same_Some g h (sym s.1 ∙ (ap (slice_get allocation_order) i ∙ t.1)))
              ]
        ]

  same_at : (k : ℕ) → ((j : ℕ) → j < k → IsSameAt xs ys j) → IsSameAt xs ys k
  same_at k before x y at_x at_y =
      let o = opposite xs ys e k x at_x in
      same_by k before x y at_x at_y (o.2 ∙ ap (λ h. h.pseudo) (same_Some o.0 y (sym o.1 ∙ at_y))) x.home y.home refl refl

  same_below : (n k : ℕ) → k < n → IsSameAt xs ys k
  same_below zero k l = absurd (omega arith)
  same_below (suc n) k l = same_at k (λ j m. same_below n j (omega arith))

pub only : (f : Function) (xs ys : List HomeOf) → AreHomes f xs → AreHomes f ys → xs ≡ ys
only f xs ys one two =
    let e = same_pseudos f xs ys one two in
    same_homes xs ys e (λ k. same_below f xs ys one two e (suc k) k (omega arith))

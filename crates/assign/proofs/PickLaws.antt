-- Homes that are picked by a test of conflict, one pseudo after another.
use Rattle.std.proofs.Common.{◌≡◌, ◌≢◌, ℕ, ◌+◌, ◌<◌, ◌≤◌, Bool, true, false, not, ◌||◌, ◌&&◌, eqb, ltb, List, [], ◌∷◌, ◌++◌, length, get_or, take, Option, Some, None, refl, sym, ap, subst, ◌∙◌, inl, inr, arith}
use Rattle.std.specs.Prelude.{slice_get, All}
use Rattle.std.specs.List.{list_any, find}
use Rattle.std.proofs.lemmas.Bool.{cases_eq, cases_lt, and_parts, and_cases, not-true, not-false, false≢true, true≢false, eqb-true, eq-eqb, ne_eqb, lt-ltb, le-ltb}
use Rattle.std.proofs.lemmas.List.Folds.{list_any-append}
use Rattle.std.proofs.lemmas.List.{take-append-le, take_all, take_at}
use Rattle.assign.specs.declared.home.Home.{Home}
use Rattle.assign.specs.declared.home.Home.TheVariants.{Hard, Slot}
use Rattle.assign.specs.declared.home.HomeOf.{HomeOf}
use Rattle.reg_rows.specs.Table.{has_at}
use Rattle.reg_conflicts.proofs.live.NodeLaws.{slice_get-push}
use Rattle.assign.specs.Homes.{register}
use Rattle.assign.specs.machine.Picked.{is_hard, clashes, is_free, home_from, beside, AreBlocked, IsPicked, IsRefused}
use Rattle.assign.proofs.FindLaws.{some_of, none_of, find_first, find_none, find_within}

is_hard-true : (home : Home) (h : ℕ) → is_hard home h ≡ true → home ≡ Hard h
is_hard-true (Hard r) h e = ap Hard (eqb-true r h e)
is_hard-true Slot h e = absurd (false≢true e)

is_hard-at : (home : Home) (h : ℕ) → home ≡ Hard h → is_hard home h ≡ true
is_hard-at home h e = ap (λ x. is_hard x h) e ∙ eq-eqb h h refl

-- a register that is not free is refused
refused : (c : ℕ → ℕ → Bool) (homes : List HomeOf) (k : ℕ) (x : HomeOf) (h : ℕ) → is_free c (take k homes) (register x) h ≡ false → IsRefused c homes k x h
refused c homes k x h e =
    let p = register x in
    elim (and_cases (not (c p h)) (not (list_any (clashes c p h) (take k homes))) e) [
      | inl a ↦ inl (not-false (c p h) a)
      | inr b ↦
          let s = some_of (clashes c p h) homes k (not-false _ b) in
          let both = and_parts (is_hard s.1.home h) (c p (register s.1)) s.4 in
          inr (s.0, s.1, s.2, s.3, is_hard-true s.1.home h both.0, both.1)
    ]

Hard-from : (o : Option ℕ) (h : ℕ) → home_from o ≡ Hard h → o ≡ Some h
Hard-from None h e = cc
Hard-from (Some g) h e = cc

Slot-from : (o : Option ℕ) → home_from o ≡ Slot → o ≡ None
Slot-from None e = refl
Slot-from (Some g) e = cc

pub slot_refused : (c : ℕ → ℕ → Bool) (order : List ℕ) (homes : List HomeOf) → IsPicked c order homes → (k i : ℕ) (x : HomeOf) (h : ℕ) → slice_get homes k ≡ Some x → x.home ≡ Slot → slice_get order i ≡ Some h → IsRefused c homes k x h
slot_refused c order homes picked k i x h at slot o =
    refused c homes k x h (find_none _ order i h (Slot-from _ (sym (picked k x at) ∙ slot)) o)

-- the register of a pseudo stands in the order, and those before it are refused
pub hard_first : (c : ℕ → ℕ → Bool) (order : List ℕ) (homes : List HomeOf) → IsPicked c order homes → (k : ℕ) (x : HomeOf) (g : ℕ) → slice_get homes k ≡ Some x → x.home ≡ Hard g → (i : ℕ) × (slice_get order i ≡ Some g) × ((j h : ℕ) → j < i → slice_get order j ≡ Some h → IsRefused c homes k x h)
hard_first c order homes picked k x g at hard =
    let f = find_first _ order g (Hard-from _ g (sym (picked k x at) ∙ hard)) in
    (f.1.0, f.1.1, λ j h l o. refused c homes k x h (f.1.2 j h l o))

pub hard_free : (c : ℕ → ℕ → Bool) (order : List ℕ) (homes : List HomeOf) → IsPicked c order homes → (k : ℕ) (x : HomeOf) (h : ℕ) → slice_get homes k ≡ Some x → x.home ≡ Hard h → is_free c (take k homes) (register x) h ≡ true
hard_free c order homes picked k x h at hard = (find_first _ order h (Hard-from _ h (sym (picked k x at) ∙ hard))).0

pub own_free : (c : ℕ → ℕ → Bool) (order : List ℕ) (homes : List HomeOf) → IsPicked c order homes → (k : ℕ) (x : HomeOf) (h : ℕ) → slice_get homes k ≡ Some x → x.home ≡ Hard h → c (register x) h ≡ false
own_free c order homes picked k x h at hard = not-true (c (register x) h) (and_parts (not (c (register x) h)) _ (hard_free c order homes picked k x h at hard)).0

pub shared_free : (c : ℕ → ℕ → Bool) (order : List ℕ) (homes : List HomeOf) → IsPicked c order homes → (j k : ℕ) (x y : HomeOf) (h : ℕ) → j < k → slice_get homes j ≡ Some x → slice_get homes k ≡ Some y → x.home ≡ Hard h → y.home ≡ Hard h → c (register y) (register x) ≡ false
shared_free c order homes picked j k x y h l at_j at_k x_hard y_hard =
    let none = not-true _ (and_parts (not (c (register y) h)) _ (hard_free c order homes picked k y h at_k y_hard)).1 in
    let out = none_of (clashes c (register y) h) homes k j x none l at_j in
    elim (and_cases (is_hard x.home h) (c (register y) (register x)) out) [
      | inl n ↦ absurd (true≢false (sym (is_hard-at x.home h x_hard) ∙ n))
      | inr n ↦ n
    ]

-- one more pseudo
pub IsPicked-push : (c : ℕ → ℕ → Bool) (order : List ℕ) (homes : List HomeOf) (y : HomeOf) → IsPicked c order homes → y.home ≡ home_from (find (is_free c homes (register y)) order) → IsPicked c order (homes ++ y ∷ [])
IsPicked-push c order homes y picked e k x at =
    elim (slice_get-push homes y k x at) [
      | inl (l, w) ↦ picked k x w ∙ ap (λ held. home_from (find (is_free c held (register x)) order)) (sym (take-append-le k homes (y ∷ []) (omega arith)))
      | inr (l, s) ↦ ap (λ z. z.home) (sym s) ∙ (e ∙ (ap (λ z. home_from (find (is_free c homes (register z)) order)) s ∙ ap (λ held. home_from (find (is_free c held (register x)) order)) (sym (take_at homes (y ∷ []) k (sym l)))))
    ]

-- ---- hard registers that are blocked

not_or : (a b : Bool) → not (a || b) ≡ (not a && not b)
not_or true b = refl
not_or false b = refl

or_nil : (b : Bool) → (b || false) ≡ b
or_nil true = refl
or_nil false = refl

or_out : (o a r : Bool) → (o || ((a && false) && r)) ≡ o
or_out true a r = refl
or_out false true r = refl
or_out false false r = refl

or_assoc : (a b c : Bool) → ((a || b) || c) ≡ (a || (b || c))
or_assoc true b c = refl
or_assoc false b c = refl

-- the rows below k are those of the conflicts, and the others have no register
abbrev pub AreOwn : List (List ℕ) → ℕ → List (List ℕ) → Type 0
AreOwn rows k blocked = (x y : ℕ) → has_at blocked x y ≡ (ltb x k && has_at rows x y)

own_here : (k : ℕ) (r : Bool) → k < 64 → ((ltb k k && r) || ((ltb k 64 && eqb k k) && r)) ≡ (ltb k (k + 1) && r)
own_here k r small =
    ap (λ b. (b && r) || ((ltb k 64 && eqb k k) && r)) (le-ltb k k (omega arith)) ∙
    (ap (λ b. (b && eqb k k) && r) (lt-ltb k 64 small) ∙ (ap (λ b. b && r) (eq-eqb k k refl) ∙ sym (ap (λ b. b && r) (lt-ltb k (k + 1) (omega arith)))))

pub AreOwn-more : (rows old new : List (List ℕ)) (k : ℕ) → k < 64 → AreOwn rows k old → ((x y : ℕ) → has_at new x y ≡ (has_at old x y || ((ltb x 64 && eqb k x) && has_at rows k y))) → AreOwn rows (k + 1) new
AreOwn-more rows old new k small own each x y =
    each x y ∙ (ap (λ b. b || ((ltb x 64 && eqb k x) && has_at rows k y)) (own x y) ∙ elim (cases_eq k x) [
      | inl e ↦ subst (λ (z : ℕ). ((ltb z k && has_at rows z y) || ((ltb z 64 && eqb k z) && has_at rows k y)) ≡ (ltb z (k + 1) && has_at rows z y)) e (own_here k (has_at rows k y) small)
      | inr ne ↦
          ap (λ b. (ltb x k && has_at rows x y) || ((ltb x 64 && b) && has_at rows k y)) (ne_eqb k x ne) ∙
          (or_out (ltb x k && has_at rows x y) (ltb x 64) (has_at rows k y) ∙ ap (λ b. b && has_at rows x y) (other x k ne))
    ])
  where
    other : (x k : ℕ) → k ≢ x → ltb x k ≡ ltb x (k + 1)
    other x k ne =
        elim (cases_lt x k) [
          | inl l ↦ lt-ltb x k l ∙ sym (lt-ltb x (k + 1) (omega arith))
          | inr ge ↦ le-ltb x k ge ∙ sym (le-ltb x (k + 1) (omega arith))
        ]

pub AreBlocked-own : (rows blocked : List (List ℕ)) (k : ℕ) → 64 ≤ k → AreOwn rows k blocked → AreBlocked rows [] blocked
AreBlocked-own rows blocked k le own hard reg l = own hard reg ∙ (ap (λ b. b && has_at rows hard reg) (lt-ltb hard k (omega arith)) ∙ sym (or_nil (has_at rows hard reg)))

-- one holder more
pub AreBlocked-push : (rows : List (List ℕ)) (homes : List HomeOf) (old new : List (List ℕ)) (x : HomeOf) → AreBlocked rows homes old → ((h r : ℕ) → has_at new h r ≡ (has_at old h r || ((ltb h 64 && is_hard x.home h) && has_at rows (register x) r))) → AreBlocked rows (homes ++ x ∷ []) new
AreBlocked-push rows homes old new x blocked each h r l =
    let own = beside rows r h in
    let held = list_any (clashes (beside rows) r h) homes in
    let here = clashes (beside rows) r h x in
    each h r ∙ (ap (λ b. b || ((ltb h 64 && is_hard x.home h) && has_at rows (register x) r)) (blocked h r l) ∙
    (ap (λ b. (own || held) || ((b && is_hard x.home h) && has_at rows (register x) r)) (lt-ltb h 64 l) ∙
    (or_assoc own held here ∙ ap (λ b. own || b) (ap (λ b. held || b) (sym (or_nil here)) ∙ sym (list_any-append (clashes (beside rows) r h) homes (x ∷ []))))))

-- a register is free where it is not blocked
pub first_unblocked : (rows : List (List ℕ)) (order : List ℕ) (held : List HomeOf) (blocked : List (List ℕ)) (p : ℕ) → All (λ h. h < 64) order → AreBlocked rows held blocked → find (λ h. not (has_at blocked h p)) order ≡ find (is_free (beside rows) held p) order
first_unblocked rows order held blocked p small are =
    find_within _ _ order (λ k d l. ap not (are (get_or order k d) p (small k d l)) ∙ not_or (beside rows p (get_or order k d)) (list_any (clashes (beside rows) p (get_or order k d)) held))

-- a list that is written back whole
pub whole : {X : Type 0} (n : ℕ) (xs ys : List X) → n ≡ length xs → take n (xs ++ ys) ≡ xs
whole n xs ys e = take-append-le n xs ys (omega arith) ∙ take_all n xs (omega arith)

-- a row without words blocks nothing
pub none_blocked : (o a r : Bool) → r ≡ false → o ≡ (o || (a && r))
none_blocked true a r e = refl
none_blocked false true r e = sym e
none_blocked false false r e = refl

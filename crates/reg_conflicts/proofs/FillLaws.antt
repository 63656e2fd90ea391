-- The rows of conflicts, instruction by instruction.
use Rattle.std.proofs.Common.{◌≡◌, ℕ, ◌+◌, ◌<◌, ◌≤◌, Bool, true, false, ◌||◌, eqb, List, [], ◌∷◌, ◌++◌, length, Option, Some, None, refl, sym, ap, subst, ◌∙◌, inl, inr, arith}
use Rattle.std.specs.Prelude.{slice_get}
use Rattle.std.specs.List.{list_any}
use Rattle.std.specs.Option.{option_to_list}
use Rattle.std.proofs.lemmas.Bool.{cases_eq, or_cases, or_left, or_right, and_parts, and_from, false≢true, eq-eqb, eqb-true}
use Rattle.std.proofs.lemmas.Option.{slice_get_within, same_Some}
use Rattle.rtx_tree.specs.declared.function.Insn.{Insn}
use Rattle.rtx_tree.specs.declared.function.Function.{Function}
use Rattle.rtl_func.specs.Successors.{successors_of}
use Rattle.reg_rows.specs.Table.{has_at}
use Rattle.reg_uses.specs.Uses.{insn_defines}
use Rattle.live_rows.specs.machine.Rows.{at_place}
use Rattle.live.specs.Live.{AreLiveRows, IsLiveAfter}
use Rattle.reg_conflicts.specs.Conflicts.{DefinesBeside, Conflict, AreConflicts}
use Rattle.reg_conflicts.specs.machine.Rows.{after_has, is_beside}

or_nil : (b : Bool) → (b || false) ≡ b
or_nil true = refl
or_nil false = refl

-- the two places of an answer
pub two_places : (live : List (List ℕ)) (reg : ℕ) (a b : Option ℕ) → (at_place a live reg || at_place b live reg) ≡ list_any (λ q. has_at live q reg) (option_to_list a ++ option_to_list b)
two_places live reg None None = refl
two_places live reg None (Some q) = sym (or_nil (has_at live q reg))
two_places live reg (Some p) None = refl
two_places live reg (Some p) (Some q) = ap (λ x. has_at live p reg || x) (sym (or_nil (has_at live q reg)))

any_place : (g : ℕ → Bool) (xs : List ℕ) → list_any g xs ≡ true → (q : ℕ) × (list_any (λ k. eqb k q) xs ≡ true) × (g q ≡ true)
any_place g [] h = absurd (false≢true h)
any_place g (x ∷ xs) h =
    elim (or_cases (g x) (list_any g xs) h) [
      | inl a ↦ (x, or_left (eqb x x) (list_any (λ k. eqb k x) xs) (eq-eqb x x refl), a)
      | inr b ↦ let r = any_place g xs b in (r.0, or_right (eqb x r.0) (list_any (λ k. eqb k r.0) xs) r.1, r.2)
    ]

place_any : (g : ℕ → Bool) (xs : List ℕ) (q : ℕ) → list_any (λ k. eqb k q) xs ≡ true → g q ≡ true → list_any g xs ≡ true
place_any g [] q h t = absurd (false≢true h)
place_any g (x ∷ xs) q h t =
    elim (or_cases (eqb x q) (list_any (λ k. eqb k q) xs) h) [
      | inl a ↦ or_left (g x) (list_any g xs) (ap g (eqb-true x q a) ∙ t)
      | inr b ↦ or_right (g x) (list_any g xs) (place_any g xs q b t)
    ]

after_sound : (f : Function) (live : List (List ℕ)) → AreLiveRows f live → (p reg : ℕ) → after_has f live p reg ≡ true → IsLiveAfter f reg p
after_sound f live exact p reg h =
    let r = any_place (λ q. has_at live q reg) (successors_of f.insns p) h in
    (r.0, r.1, exact.sound r.0 reg r.2)

after_complete : (f : Function) (live : List (List ℕ)) → AreLiveRows f live → (p reg : ℕ) → IsLiveAfter f reg p → after_has f live p reg ≡ true
after_complete f live exact p reg after = place_any (λ q. has_at live q reg) (successors_of f.insns p) after.0 after.1 (exact.complete after.0 reg after.2)

beside_sound : (f : Function) (live : List (List ℕ)) → AreLiveRows f live → (p : ℕ) (i : Insn) (x y : ℕ) → slice_get f.insns p ≡ Some i → is_beside f live p i x y ≡ true → DefinesBeside f x y
beside_sound f live exact p i x y at h =
    let parts = and_parts (after_has f live p y) (insn_defines i x) h in
    (p, i, at, parts.1, after_sound f live exact p y parts.0)

beside_complete : (f : Function) (live : List (List ℕ)) → AreLiveRows f live → (p : ℕ) (i : Insn) (x y : ℕ) → slice_get f.insns p ≡ Some i → (d : DefinesBeside f x y) → d.0 ≡ p → is_beside f live p i x y ≡ true
beside_complete f live exact p i x y at d e =
    let same : d.1 ≡ i = same_Some d.1 i (sym d.2 ∙ (ap (slice_get f.insns) e ∙ at)) in
    let defined : insn_defines i x ≡ true = subst (λ (j : Insn). insn_defines j x ≡ true) same d.3 in
    let after = after_complete f live exact p y (subst (λ (q : ℕ). IsLiveAfter f y q) e d.4) in
    and_from (after_has f live p y) (insn_defines i x) after defined

-- the rows after the first n instructions
pub record AreFound (f : Function) (n : ℕ) (rows : List (List ℕ)) : Type 0 where
  pub sound : (x y : ℕ) → has_at rows x y ≡ true → Conflict f x y
  pub complete : (x y : ℕ) (d : DefinesBeside f x y) → d.0 < n → (has_at rows x y ≡ true) × (has_at rows y x ≡ true)

pub AreFound-none : (f : Function) (rows : List (List ℕ)) → ((x y : ℕ) → has_at rows x y ≡ false) → AreFound f 0 rows
AreFound-none f rows none = record {
  sound = λ x y h. absurd (false≢true (sym (none x y) ∙ h));
  complete = λ x y d l. absurd (omega arith);
}

-- the rows have besides what one instruction gives
pub AreFound-insn : (f : Function) (live : List (List ℕ)) (n : ℕ) (i : Insn) (old new : List (List ℕ)) → AreLiveRows f live → slice_get f.insns n ≡ Some i → ((x y : ℕ) → has_at new x y ≡ (has_at old x y || (is_beside f live n i x y || is_beside f live n i y x))) → AreFound f n old → AreFound f (n + 1) new
AreFound-insn f live n i old new exact at each found =
    record { sound = sound; complete = complete }
  where
    here : ℕ → ℕ → Bool
    here x y = is_beside f live n i x y

    sound : (x y : ℕ) → has_at new x y ≡ true → Conflict f x y
    sound x y h =
        elim (or_cases (has_at old x y) (here x y || here y x) (sym (each x y) ∙ h)) [
          | inl o ↦ found.sound x y o
          | inr b ↦ elim (or_cases (here x y) (here y x) b) [
            | inl l ↦ inl (beside_sound f live exact n i x y at l)
            | inr r ↦ inr (beside_sound f live exact n i y x at r)
          ]
        ]

    kept : (x y : ℕ) → has_at old x y ≡ true → has_at new x y ≡ true
    kept x y h = each x y ∙ or_left (has_at old x y) (here x y || here y x) h

    complete : (x y : ℕ) (d : DefinesBeside f x y) → d.0 < n + 1 → (has_at new x y ≡ true) × (has_at new y x ≡ true)
    complete x y d l =
        elim (cases_eq d.0 n) [
          | inl e ↦
              let b = beside_complete f live exact n i x y at d e in
              (each x y ∙ or_right (has_at old x y) (here x y || here y x) (or_left (here x y) (here y x) b), each y x ∙ or_right (has_at old y x) (here y x || here x y) (or_right (here y x) (here x y) b))
          | inr ne ↦ let o = found.complete x y d (omega arith) in (kept x y o.0, kept y x o.1)
        ]

pub AreConflicts-found : (f : Function) (n : ℕ) (rows : List (List ℕ)) → length f.insns ≤ n → AreFound f n rows → AreConflicts f rows
AreConflicts-found f n rows le found =
    record { sound = found.sound; complete = complete }
  where
    each : (x y : ℕ) → DefinesBeside f x y → (has_at rows x y ≡ true) × (has_at rows y x ≡ true)
    each x y d = let within = slice_get_within f.insns d.0 d.1 d.2 in found.complete x y d (omega arith)

    complete : (x y : ℕ) → Conflict f x y → has_at rows x y ≡ true
    complete x y (inl d) = (each x y d).0
    complete x y (inr d) = (each y x d).1

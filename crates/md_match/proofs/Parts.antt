-- Patterns and expressions, one each.
use Rattle.std.proofs.Common.{◌≡◌, ◌↔◌, ◌≤◌, ◌<◌, ◌+◌, ℕ, suc, add-one, get_or, true, false, List, [], ◌∷◌, ◌++◌, length, drop, Option, Some, None, refl, sym, ap, subst, ◌∙◌, arith}
use Rattle.std.specs.Prelude.{option_map, option_and_then, flat_map, IsTrue}
use Rattle.std.specs.List.{AllByRecursion}
use Rattle.std.proofs.Math.Seq.{drop-cons}
use Rattle.std.proofs.lemmas.List.{drop_all}
use Rattle.rtx_tree.specs.declared.tree.Rtx.{Rtx}
use Rattle.md_match.specs.Pattern.{Ops, instantiated, placeholders}
use Rattle.md_match.specs.Match.{IsAsked}
use Rattle.md_match.specs.machine.Collected.{Makes, MakesAll}
use Rattle.md_match.proofs.Instantiated.{each_made}

-- ---- the first of them, and the others

all_both : {A : Type 0} (P : A → Type 0) (xs ys : List A) → AllByRecursion P xs → AllByRecursion P ys → AllByRecursion P (xs ++ ys)
all_both P [] ys a b = b
all_both P (x ∷ xs) ys a b = (a.0, all_both P xs ys a.1 b)

all_split : {A : Type 0} (P : A → Type 0) (xs ys : List A) → AllByRecursion P (xs ++ ys) → AllByRecursion P xs × AllByRecursion P ys
all_split P [] ys a = (tt, a)
all_split P (x ∷ xs) ys a = let rest = all_split P xs ys a.1 in ((a.0, rest.0), rest.1)

pub front : (a : Option Rtx) (more : Option (List Rtx)) (x : Rtx) (xs : List Rtx) → option_and_then (λ x. option_map (λ xs. x ∷ xs) more) a ≡ Some (x ∷ xs) → (a ≡ Some x) × (more ≡ Some xs)
front None more x xs e = absurd (let none : ⊥ = cc in none)
front (Some y) None x xs e = absurd (let none : ⊥ = cc in none)
front (Some y) (Some ys) x xs e = (cc, cc)

pub no_front : (a : Option Rtx) (more : Option (List Rtx)) → option_and_then (λ x. option_map (λ xs. x ∷ xs) more) a ≡ Some [] → ⊥
no_front None more e = cc
no_front (Some y) None e = cc
no_front (Some y) (Some ys) e = cc

pub makes_first : (p x : Rtx) (ps xs : List Rtx) (o : Ops) → MakesAll (p ∷ ps) (x ∷ xs) o → Makes p x o × MakesAll ps xs o
makes_first p x ps xs o m =
    let parts = front (instantiated p o) (each_made ps o) x xs m.made in
    let fit = all_split (IsAsked o) (placeholders p) (flat_map placeholders ps) m.fit in
    (record { made = parts.0; fit = fit.0 }, record { made = parts.1; fit = fit.1 })

pub makes_more : (p x : Rtx) (ps xs : List Rtx) (o : Ops) → Makes p x o → MakesAll ps xs o → MakesAll (p ∷ ps) (x ∷ xs) o
makes_more p x ps xs o m n = record {
  made = ap (λ a. option_and_then (λ x. option_map (λ xs. x ∷ xs) (each_made ps o)) a) m.made ∙ ap (option_map (λ xs. x ∷ xs)) n.made;
  fit = all_both (IsAsked o) (placeholders p) (flat_map placeholders ps) m.fit n.fit;
}

-- as many expressions as patterns
pub as_many : (ps xs : List Rtx) (o : Ops) → MakesAll ps xs o → length ps ≡ length xs
as_many [] [] o m = refl
as_many [] (x ∷ xs) o m = absurd (let e = m.made in let none : ⊥ = cc in none)
as_many (p ∷ ps) [] o m = absurd (no_front (instantiated p o) (each_made ps o) m.made)
as_many (p ∷ ps) (x ∷ xs) o m = let rest = as_many ps xs o (makes_first p x ps xs o m).1 in omega (arith, rest)

-- a list from a place on
pub opened : (ps : List Rtx) (i : ℕ) (p : Rtx) → i < length ps → p ≡ get_or ps i p → drop i ps ≡ p ∷ drop (i + 1) ps
opened ps i p h e = rw add-one (drop-cons ps i p h ∙ ap (λ y. y ∷ drop (suc i) ps) (sym e))

-- ---- the loop that looks at each

-- what is left of them from a place on decides of all
pub record Decides (ps xs : List Rtx) (o : Ops) (i : ℕ) : Type 0 where
  pub goes_on : MakesAll (drop i ps) (drop i xs) o ↔ MakesAll ps xs o

refuted : (A : Type 0) → (A → ⊥) → IsTrue false ↔ A
refuted A never = (λ e. absurd (let none : ⊥ = cc in none), λ a. absurd (never a))

pub other_length : (ps xs : List Rtx) (o : Ops) → (length ps ≡ length xs → ⊥) → IsTrue false ↔ MakesAll ps xs o
other_length ps xs o never = refuted (MakesAll ps xs o) (λ m. never (as_many ps xs o m))

pub decides_start : (ps xs : List Rtx) (o : Ops) → Decides ps xs o 0
decides_start ps xs o = record { goes_on = (λ m. m, λ m. m) }

opened_both : (ps xs : List Rtx) (o : Ops) (i : ℕ) (p x : Rtx) → i < length ps → i < length xs → p ≡ get_or ps i p → x ≡ get_or xs i x →
    MakesAll (drop i ps) (drop i xs) o ↔ MakesAll (p ∷ drop (i + 1) ps) (x ∷ drop (i + 1) xs) o
opened_both ps xs o i p x h k e f = (
  λ m. subst (λ qs. MakesAll qs (x ∷ drop (i + 1) xs) o) (opened ps i p h e) (subst (λ ys. MakesAll (drop i ps) ys o) (opened xs i x k f) m),
  λ m. subst (λ qs. MakesAll qs (drop i xs) o) (sym (opened ps i p h e)) (subst (λ ys. MakesAll (p ∷ drop (i + 1) ps) ys o) (sym (opened xs i x k f)) m),
)

pub decides_next : (ps xs : List Rtx) (o : Ops) (i : ℕ) (p x : Rtx) → i < length ps → i < length xs → p ≡ get_or ps i p → x ≡ get_or xs i x → Makes p x o → Decides ps xs o i → Decides ps xs o (i + 1)
decides_next ps xs o i p x h k e f m d =
    let both = opened_both ps xs o i p x h k e f in
    record {
      goes_on = (
        λ rest. d.goes_on.0 (both.1 (makes_more p x (drop (i + 1) ps) (drop (i + 1) xs) o m rest)),
        λ all. (makes_first p x (drop (i + 1) ps) (drop (i + 1) xs) o (both.0 (d.goes_on.1 all))).1,
      );
    }

pub decides_not : (ps xs : List Rtx) (o : Ops) (i : ℕ) (p x : Rtx) → i < length ps → i < length xs → p ≡ get_or ps i p → x ≡ get_or xs i x → (Makes p x o → ⊥) → Decides ps xs o i → IsTrue false ↔ MakesAll ps xs o
decides_not ps xs o i p x h k e f never d =
    refuted (MakesAll ps xs o) (λ all. never (makes_first p x (drop (i + 1) ps) (drop (i + 1) xs) o ((opened_both ps xs o i p x h k e f).0 (d.goes_on.1 all))).0)

pub nothing_made : (o : Ops) → MakesAll [] [] o
nothing_made o = record { made = refl; fit = tt }

pub decides_end : (ps xs : List Rtx) (o : Ops) (i : ℕ) → length ps ≤ i → length xs ≤ i → Decides ps xs o i → IsTrue true ↔ MakesAll ps xs o
decides_end ps xs o i h k d = (
  λ t. d.goes_on.0 (subst (λ qs. MakesAll qs (drop i xs) o) (sym (drop_all i ps h)) (subst (λ ys. MakesAll [] ys o) (sym (drop_all i xs k)) (nothing_made o))),
  λ m. refl,
)

-- What some things come to, made one behind the other.
use Rattle.std.proofs.Common.{◌≡◌, ℕ, ◌+◌, ◌<◌, List, [], ◌∷◌, ◌++◌, length, drop, get_or, Ok, Err, refl, sym, ap, subst, ◌∙◌, append_assoc}
use Rattle.std.proofs.lemmas.List.{append-nil}
use Rattle.run_refusal.specs.declared.refusal.Refusal.{Refusal}
use Rattle.func_input.specs.Input.{RefusesWith}
use Rattle.func_input.specs.Outcome.{Outcome, outcome_map, outcome_then}
use Rattle.func_input.proofs.Firsts.{drop_at}
use Rattle.func_input.proofs.Refusing.{refuses_map}
use Rattle.func_after.specs.Each.{EachComes}

-- what the rest comes to makes, with what is there now, what all come to, with what was there before
pub record Makes {A : Type 0} (comes : A → Outcome → Type 0) (xs : List A) (old now : List ℕ) (rest : List A) : Type 0 where
  pub makes : (more : Outcome) → EachComes comes rest more → (whole : Outcome) × EachComes comes xs whole × (outcome_map (λ more. now ++ more) more ≡ outcome_map (λ more. old ++ more) whole)

pub makes_start : {A : Type 0} (comes : A → Outcome → Type 0) (xs : List A) (old : List ℕ) → Makes comes xs old old xs
makes_start comes xs old = record { makes = λ more texts. (more, texts, refl) }

map_twice : (now piece : List ℕ) (more : Outcome) → outcome_map (λ more. (now ++ piece) ++ more) more ≡ outcome_map (λ more. now ++ more) (outcome_map (λ more. piece ++ more) more)
map_twice now piece (Ok more) = ap (λ (t : List ℕ). Ok t) (append_assoc now piece more)
map_twice now piece (Err e) = refl

-- one more was made
pub makes_on : {A : Type 0} (comes : A → Outcome → Type 0) (xs : List A) (old now new : List ℕ) (i : ℕ) (x : A) → i < length xs → x ≡ get_or xs i x →
    (text : List ℕ) × comes x (Ok text) × (new ≡ now ++ text) → Makes comes xs old now (drop i xs) → Makes comes xs old new (drop (i + 1) xs)
makes_on {A = A} comes xs old now new i x within is text so_far = record {
  makes = λ more texts.
      let whole = so_far.makes (outcome_map (λ more. text.0 ++ more) more) (subst (λ ys. EachComes comes ys (outcome_map (λ more. text.0 ++ more) more)) (sym (drop_at xs i x within is)) (EachComes.goes_on x (drop (i + 1) xs) text.0 more text.1 texts)) in
      (whole.0, whole.1, ap (λ (front : List ℕ). outcome_map (λ more. front ++ more) more) text.2 ∙ map_twice now text.0 more ∙ whole.2);
}

pub refused_map : (f : List ℕ → List ℕ) (o : Outcome) (e : Refusal) → outcome_map f o ≡ Err e → o ≡ Err e
refused_map f (Ok t) e h = cc
refused_map f (Err d) e h = h

-- one was refused
pub makes_wrong : {A : Type 0} (comes : A → Outcome → Type 0) (xs : List A) (old now : List ℕ) (i : ℕ) (x : A) (e : Refusal) → i < length xs → x ≡ get_or xs i x →
    RefusesWith e (comes x) → Makes comes xs old now (drop i xs) → RefusesWith e (EachComes comes xs)
makes_wrong comes xs old now i x e within is r so_far =
    refuses_map e (comes x) (EachComes comes xs)
    (λ e text. let whole = so_far.makes (Err e) (subst (λ ys. EachComes comes ys (Err e)) (sym (drop_at xs i x within is)) (EachComes.refused x (drop (i + 1) xs) e text)) in subst (EachComes comes xs) (refused_map (λ more. old ++ more) whole.0 e (sym whole.2)) whole.1) r

-- all were made
pub makes_all : {A : Type 0} (comes : A → Outcome → Type 0) (xs : List A) (old now : List ℕ) → Makes comes xs old now [] → (text : List ℕ) × EachComes comes xs (Ok text) × (now ≡ old ++ text)
makes_all comes xs old now so_far = let whole = so_far.makes (Ok []) EachComes.none in all_of whole.0 whole.1 whole.2
  where
    all_of : (whole : Outcome) → EachComes comes xs whole → Ok (now ++ []) ≡ outcome_map (λ more. old ++ more) whole → (text : List ℕ) × EachComes comes xs (Ok text) × (now ≡ old ++ text)
    all_of (Ok text) texts same = (text, texts, (let e : now ++ [] ≡ old ++ text = cc in sym (append-nil now) ∙ e))
    all_of (Err e) texts same = cc

-- ---- a last one

then_nothing : (o : Outcome) → outcome_then o (Ok []) ≡ o
then_nothing (Ok text) = ap (λ (t : List ℕ). Ok t) (append-nil text)
then_nothing (Err e) = refl

-- what all of some came to, and a last one
pub each_last : {A : Type 0} (comes : A → Outcome → Type 0) (xs : List A) (y : A) (first last : Outcome) → EachComes comes xs first → comes y last → EachComes comes (xs ++ y ∷ []) (outcome_then first last)
each_last comes _ y _ (Ok text) EachComes.none one = subst (EachComes comes (y ∷ [])) (ap (λ (t : List ℕ). Ok t) (append-nil text)) (EachComes.goes_on y [] text (Ok []) one EachComes.none)
each_last comes _ y _ (Err e) EachComes.none one = EachComes.refused y [] e one
each_last comes _ y _ last (EachComes.refused x xs e is) one = EachComes.refused x (xs ++ y ∷ []) e is
each_last comes _ y _ last (EachComes.goes_on x xs text rest is more) one = subst (EachComes comes (x ∷ (xs ++ y ∷ []))) (then_map text rest last) (EachComes.goes_on x (xs ++ y ∷ []) text (outcome_then rest last) is (each_last comes xs y rest last more one))
  where
    then_map : (text : List ℕ) (a b : Outcome) → outcome_map (λ more. text ++ more) (outcome_then a b) ≡ outcome_then (outcome_map (λ more. text ++ more) a) b
    then_map text (Ok x) (Ok y) = ap (λ (t : List ℕ). Ok t) (sym (append_assoc text x y))
    then_map text (Ok x) (Err e) = refl
    then_map text (Err e) b = refl

-- ---- one outcome

-- what all of some came to is one outcome, where each comes to one
pub one_each : {A : Type 0} (comes : A → Outcome → Type 0) → ((x : A) (a b : Outcome) → comes x a → comes x b → a ≡ b) → (xs : List A) (a b : Outcome) → EachComes comes xs a → EachComes comes xs b → a ≡ b
one_each comes one _ _ _ EachComes.none EachComes.none = refl
one_each comes one _ _ _ (EachComes.refused x xs e is) (EachComes.refused _ _ d is') = one x (Err e) (Err d) is is'
one_each comes one _ _ _ (EachComes.refused x xs e is) (EachComes.goes_on _ _ text rest is' more) = absurd (let same : Err e ≡ Ok text = one x (Err e) (Ok text) is is' in let none : ⊥ = cc in none)
one_each comes one _ _ _ (EachComes.goes_on x xs text rest is more) (EachComes.refused _ _ d is') = absurd (let same : Ok text ≡ Err d = one x (Ok text) (Err d) is is' in let none : ⊥ = cc in none)
one_each comes one _ _ _ (EachComes.goes_on x xs text rest is more) (EachComes.goes_on _ _ text' rest' is' more') =
    let same : Ok text ≡ Ok text' = one x (Ok text) (Ok text') is is' in
    let texts : text ≡ text' = cc in
    ap (λ (t : List ℕ). outcome_map (λ more. t ++ more) rest) texts ∙ ap (outcome_map (λ more. text' ++ more)) (one_each comes one xs rest rest' more more')

-- Where names of kinds stand, with one more.
use Rattle.std.proofs.Common.{◌≡◌, ℕ, Bool, ◌&&◌, if◌then◌else◌, List, [], ◌∷◌, Option, Some, None, refl, sym, ap, subst, ◌∙◌}
use Rattle.std.specs.List.{find}
use Rattle.std.specs.Option.{option_or}
use Rattle.std.specs.Str.{bytes_eq}
use Rattle.md_iter.specs.declared.definition.DefinitionKind.{DefinitionKind}
use Rattle.md_iter.specs.declared.definition.DefinitionKind.TheVariants.{Mode, Code, Int}
use Rattle.name_places.specs.declared.places.Places.{Places}
use Rattle.name_places.specs.Places.{place_in}
use Rattle.md_iter.specs.declared.firsts.KindPlaces.{KindPlaces}
use Rattle.md_iter.specs.Definition.{same_kind}
use Rattle.md_iter.specs.machine.Firsts.{agree, place_of_kind}

-- a name stands there now, if it stood nowhere
abbrev pub Puts : Places → Places → List ℕ → ℕ → Type 0
Puts old new name place =
    (other : List ℕ) → place_in new other ≡ option_or (place_in old other) (if bytes_eq name other then Some place else None)

abbrev pub PutsKind : KindPlaces → KindPlaces → DefinitionKind → List ℕ → ℕ → Type 0
PutsKind old new kind name place =
    (other_kind : DefinitionKind) (other : List ℕ) →
    place_of_kind new other_kind other ≡ option_or (place_of_kind old other_kind other) (if agree kind other_kind && bytes_eq name other then Some place else None)

or_none : {V : Type 0} (o : Option V) → option_or o None ≡ o
or_none None = refl
or_none (Some v) = refl

kept : (old new : Places) (other : List ℕ) → new ≡ old → place_in new other ≡ option_or (place_in old other) None
kept old new other same = ap (λ p. place_in p other) same ∙ sym (or_none (place_in old other))

pub puts_mode : (old : KindPlaces) (modes : Places) (kind : DefinitionKind) (name : List ℕ) (place : ℕ) → kind ≡ Mode → Puts old.modes modes name place → PutsKind old (record { modes = modes; codes = old.codes; ints = old.ints }) kind name place
puts_mode old modes kind name place is puts = subst (λ k. PutsKind old (record { modes = modes; codes = old.codes; ints = old.ints }) k name place) (sym is) by_kind
  where
    by_kind : PutsKind old (record { modes = modes; codes = old.codes; ints = old.ints }) Mode name place
    by_kind Mode other = puts other
    by_kind Code other = kept old.codes old.codes other refl
    by_kind Int other = kept old.ints old.ints other refl

pub puts_code : (old : KindPlaces) (codes : Places) (kind : DefinitionKind) (name : List ℕ) (place : ℕ) → kind ≡ Code → Puts old.codes codes name place → PutsKind old (record { modes = old.modes; codes = codes; ints = old.ints }) kind name place
puts_code old codes kind name place is puts = subst (λ k. PutsKind old (record { modes = old.modes; codes = codes; ints = old.ints }) k name place) (sym is) by_kind
  where
    by_kind : PutsKind old (record { modes = old.modes; codes = codes; ints = old.ints }) Code name place
    by_kind Mode other = kept old.modes old.modes other refl
    by_kind Code other = puts other
    by_kind Int other = kept old.ints old.ints other refl

pub puts_int : (old : KindPlaces) (ints : Places) (kind : DefinitionKind) (name : List ℕ) (place : ℕ) → kind ≡ Int → Puts old.ints ints name place → PutsKind old (record { modes = old.modes; codes = old.codes; ints = ints }) kind name place
puts_int old ints kind name place is puts = subst (λ k. PutsKind old (record { modes = old.modes; codes = old.codes; ints = ints }) k name place) (sym is) by_kind
  where
    by_kind : PutsKind old (record { modes = old.modes; codes = old.codes; ints = ints }) Int name place
    by_kind Mode other = kept old.modes old.modes other refl
    by_kind Code other = kept old.codes old.codes other refl
    by_kind Int other = puts other

-- ---- kinds

pub agrees : (a b : DefinitionKind) → agree a b ≡ same_kind a b
agrees Mode Mode = refl
agrees Mode Code = refl
agrees Mode Int = refl
agrees Code Mode = refl
agrees Code Code = refl
agrees Code Int = refl
agrees Int Mode = refl
agrees Int Code = refl
agrees Int Int = refl

-- tests that are the same find the same
pub find_same : {X : Type 0} (p q : X → Bool) (xs : List X) → ((x : X) → p x ≡ q x) → find p xs ≡ find q xs
find_same p q [] same = refl
find_same p q (x ∷ xs) same = ap (λ b. if b then Some x else find p xs) (same x) ∙ ap (λ o. if q x then Some x else o) (find_same p q xs same)

-- the first of a kind and a name
pub first_same : {X : Type 0} (kind_in : X → DefinitionKind) (name_in : X → List ℕ) (kind : DefinitionKind) (name : List ℕ) (xs : List X) →
    find (λ x. agree (kind_in x) kind && bytes_eq (name_in x) name) xs ≡ find (λ x. same_kind (kind_in x) kind && bytes_eq (name_in x) name) xs
first_same kind_in name_in kind name xs =
    find_same (λ x. agree (kind_in x) kind && bytes_eq (name_in x) name) (λ x. same_kind (kind_in x) kind && bytes_eq (name_in x) name) xs
    (λ x. ap (λ b. b && bytes_eq (name_in x) name) (agrees (kind_in x) kind))

-- What some passes made, one behind the other: parts of their list, and what holds along it.
use Rattle.std.proofs.Common.{◌≡◌, List, [], ◌∷◌, ◌++◌, Ok, refl, subst}
use Rattle.std.specs.List.{AllByRecursion}
use Rattle.pass_name.specs.declared.pass.Pass.{Pass}
use Rattle.md_forms.specs.declared.form.Entry.{Entry}
use Rattle.func_after.specs.declared.compilation.Compilation.{Compilation}
use Rattle.func_after.specs.After.{Answer, PassComes, PassesCome}
use Rattle.func_after.proofs.Changes.{ok_is, apart}

-- ---- the first of them

-- what some passes made, of which the first is one, was made by it and then by the others
pub record Next (forms : List Entry) (pass : Pass) (others : List Pass) (m last : Compilation) : Type 0 where
  pub next : Compilation
  pub comes : PassComes forms m pass (Ok next)
  pub rest : PassesCome forms others next (Ok last)

next_by : (forms : List Entry) (pass : Pass) (others passes : List Pass) (m last : Compilation) (a : Answer) → passes ≡ pass ∷ others → a ≡ Ok last →
    PassesCome forms passes m a → Next forms pass others m last
next_by forms pass others _ m last _ are is (PassesCome.done _) = absurd (let none : ⊥ = cc in none)
next_by forms pass others _ m last _ are is (PassesCome.refused own more _ e comes) = absurd (let none : ⊥ = cc in none)
next_by forms pass others _ m last _ are is (PassesCome.goes_on own more _ next a comes rest) =
    let own_is : own ≡ pass = cc in
    let more_are : more ≡ others = cc in record {
      next = next;
      comes = subst (λ p. PassComes forms m p (Ok next)) own_is comes;
      rest = subst (λ ps. PassesCome forms ps next (Ok last)) more_are (subst (λ (a : Answer). PassesCome forms more next a) is rest);
    }

pub next_of : (forms : List Entry) (pass : Pass) (others : List Pass) (m last : Compilation) → PassesCome forms (pass ∷ others) m (Ok last) →
    Next forms pass others m last
next_of forms pass others m last comes = next_by forms pass others (pass ∷ others) m last (Ok last) refl refl comes

-- ---- some and then others

pub record Middle (forms : List Entry) (passes others : List Pass) (m last : Compilation) : Type 0 where
  pub middle : Compilation
  pub first : PassesCome forms passes m (Ok middle)
  pub rest : PassesCome forms others middle (Ok last)

pub middle_of : (forms : List Entry) (passes others : List Pass) (m last : Compilation) → PassesCome forms (passes ++ others) m (Ok last) →
    Middle forms passes others m last
middle_of forms [] others m last comes = record { middle = m; first = PassesCome.done m; rest = comes }
middle_of forms (pass ∷ passes) others m last comes =
    let one = next_of forms pass (passes ++ others) m last comes in
    let more = middle_of forms passes others one.next last one.rest in record {
      middle = more.middle;
      first = PassesCome.goes_on pass passes m one.next (Ok more.middle) one.comes more.first;
      rest = more.rest;
    }

-- ---- along all of them

-- it holds of what there was and what a pass makes of it
abbrev pub PassHolds : List Entry → (Compilation → Compilation → Type 0) → Pass → Type 0
PassHolds forms Holds pass = (m n : Compilation) → PassComes forms m pass (Ok n) → Holds m n

-- what holds for each of some passes holds for all of them
module _ (forms : List Entry) (Holds : Compilation → Compilation → Type 0) (same : (m : Compilation) → Holds m m)
    (joined : (l m n : Compilation) → Holds l m → Holds m n → Holds l n) where
  pub all_hold : (passes : List Pass) (m last : Compilation) (a : Answer) → a ≡ Ok last → AllByRecursion (PassHolds forms Holds) passes →
      PassesCome forms passes m a → Holds m last
  all_hold _ m last _ is each (PassesCome.done _) = subst (Holds m) (ok_is m last is) (same m)
  all_hold _ m last _ is each (PassesCome.refused pass others _ e comes) = apart last e is
  all_hold _ m last a is each (PassesCome.goes_on pass others _ next _ comes rest) =
      joined m next last (each.0 m next comes) (all_hold others next last a is each.1 rest)

-- whatever the passes are
pub every : (P : Pass → Type 0) → ((pass : Pass) → P pass) → (passes : List Pass) → AllByRecursion P passes
every P holds [] = tt
every P holds (pass ∷ passes) = (holds pass, every P holds passes)

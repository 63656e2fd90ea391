-- The operands that were collected are the only ones that can match.
use Rattle.std.proofs.Common.{◌≡◌, ◌↔◌, ⊎_elim, ℕ, true, false, List, [], Option, Some, None, refl, sym, ap, subst, ◌∙◌}
use Rattle.std.specs.Prelude.{is_some, IsSome}
use Rattle.rtx_tree.specs.declared.tree.Rtx.{Rtx}
use Rattle.rtx_tree.specs.Operands.{operand_at}
use Rattle.md_match.specs.Pattern.{Ops, is_given}
use Rattle.md_match.specs.Match.{IsShort, Matches}
use Rattle.md_match.specs.machine.Collected.{MakesAll, Grows, Collected, is_given_by}
use Rattle.md_match.proofs.Short.{empty_short, same_short}

-- no operands at all
absent : (k : ℕ) → operand_at [] k ≡ None
absent k = refl

grows_from_none : (o : Ops) → Grows [] o
grows_from_none o = record { keeps = λ k x e. absurd (let none : ⊥ = cc in none) }

makes_it : (ps xs : List Rtx) (o : Ops) → Matches ps xs o → MakesAll ps xs o
makes_it ps xs o h = record { made = h.made; fit = h.suits.asked }

module _ (ps xs : List Rtx) (m : Ops) (c : Collected (is_given_by ps) (MakesAll ps xs) [] m) where
  short : IsShort m
  short = c.short empty_short

  given : (k : ℕ) → IsSome (operand_at m k) → is_given k ps ≡ true
  given k s = ⊎_elim (λ old. absurd (let e : false ≡ true = old in let none : ⊥ = cc in none)) (λ e. e) (c.only k s)

  agrees : (o : Ops) → Matches ps xs o → (k : ℕ) → operand_at o k ≡ operand_at m k
  agrees o h k = by_operand (operand_at o k) refl
    where
      grows : Grows m o
      grows = c.below o (grows_from_none o) (makes_it ps xs o h)

      there : IsSome (operand_at m k) → operand_at o k ≡ operand_at m k
      there s = go (operand_at m k) refl s
        where
          go : (y : Option Rtx) → operand_at m k ≡ y → IsSome y → operand_at o k ≡ operand_at m k
          go None e s = absurd (let none : ⊥ = cc in none)
          go (Some y) e s = grows.keeps k y e ∙ sym e

      absent_too : operand_at o k ≡ None → (y : Option Rtx) → operand_at m k ≡ y → operand_at o k ≡ operand_at m k
      absent_too e None f = e ∙ sym f
      absent_too e (Some y) f = grows.keeps k y f ∙ sym f

      by_operand : (y : Option Rtx) → operand_at o k ≡ y → operand_at o k ≡ operand_at m k
      by_operand None e = absent_too e (operand_at m k) refl
      by_operand (Some y) e = there (c.there k (h.suits.given k (ap is_some e)))

  pub one : (o : Ops) → Matches ps xs o → o ≡ m
  one o h = same_short o m h.suits.short short (agrees o h)

  pub matches : MakesAll ps xs m → Matches ps xs m
  matches m = record { made = m.made; suits = record { asked = m.fit; given = given; short = short } }

  -- the collected operands make the expressions
  pub matched : MakesAll ps xs m → (o : Ops) → (Some m ≡ Some o) ↔ Matches ps xs o
  matched made o = (
    λ e. let same : m ≡ o = cc in subst (Matches ps xs) same (matches made),
    λ h. ap Some (sym (one o h)),
  )

  -- they do not
  pub unmatched : (MakesAll ps xs m → ⊥) → (o : Ops) → (None ≡ Some o) ↔ Matches ps xs o
  unmatched never o = (
    λ e. absurd (let none : ⊥ = cc in none),
    λ h. absurd (never (subst (MakesAll ps xs) (one o h) (makes_it ps xs o h))),
  )

-- nothing makes the expressions
pub nowhere : (ps xs : List Rtx) → ((o : Ops) → MakesAll ps xs o → ⊥) → (o : Ops) → (None ≡ Some o) ↔ Matches ps xs o
nowhere ps xs never o = (λ e. absurd (let none : ⊥ = cc in none), λ h. absurd (never o (makes_it ps xs o h)))

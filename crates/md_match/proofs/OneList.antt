-- Patterns match expressions with one list of operands.
use Rattle.std.proofs.Common.{◌≡◌, ⊎_elim, ℕ, pos, Bool, true, false, ◌&&◌, List, [], ◌∷◌, length, Option, Some, None, refl, sym, ap, ◌∙◌}
use Rattle.std.specs.Prelude.{flat_map, is_some}
use Rattle.std.specs.List.{AllByRecursion}
use Rattle.std.specs.Ordering.{int_eq}
use Rattle.std.proofs.lemmas.Bool.Decides.{Decides-int_eq}
use Rattle.rtx_tree.specs.declared.tree.Rtx.{Rtx}
use Rattle.rtx_tree.specs.Tree.{head_of, kids_of}
use Rattle.rtx_tree.specs.Operands.{operand_at}
use Rattle.md_match.specs.declared.role.Role.{Role}
use Rattle.md_match.specs.declared.role.Role.TheVariants.{Operand, Operator, Itself}
use Rattle.md_match.specs.Pattern.{Ops, role_of, gives, gives_number, placeholders, operand_numbered}
use Rattle.md_match.specs.Match.{Matches}
use Rattle.md_match.specs.machine.Collected.{Makes, MakesAll, Names, is_given_by, is_given_in}
use Rattle.md_match.proofs.Anys.{any_of_both, or_false}
use Rattle.md_match.proofs.Collecting.{or_split, given_as, made_gives}
use Rattle.md_match.proofs.Nodes.{operand_named, operator_parts, itself_parts}
use Rattle.md_match.proofs.Parts.{makes_first, as_many}
use Rattle.md_match.proofs.RtxInduction.{induction}
use Rattle.md_match.proofs.Short.{same_short}

-- two lists with which a pattern makes an expression have the operands in common that the pattern gives
abbrev Agree : Rtx → Type 0
Agree p = (x : Rtx) (a b : Ops) (k : ℕ) → Makes p x a → Makes p x b → is_given_in k p ≡ true → operand_at a k ≡ operand_at b k

second : (a b : Bool) → (a && b) ≡ true → b ≡ true
second true b e = e
second false b e = absurd (let none : ⊥ = cc in none)

first : (a b : Bool) → (a && b) ≡ true → a ≡ true
first true b e = refl
first false b e = absurd (let none : ⊥ = cc in none)

-- the operand that a placeholder gives is the expression
operand_is : (p x : Rtx) (a : Ops) (k : ℕ) → gives_number k p ≡ true → Names p x a → operand_at a k ≡ Some x
operand_is p x a k e named =
    let number : (head_of p).number ≡ pos k = (Decides-int_eq (head_of p).number (pos k)).0 (second (gives (head_of p).code) (int_eq (head_of p).number (pos k)) e) in
    ap (operand_numbered a) (sym number) ∙ named

both_named : (p x : Rtx) (a b : Ops) (k : ℕ) → gives_number k p ≡ true → Names p x a → Names p x b → operand_at a k ≡ operand_at b k
both_named p x a b k e n m = operand_is p x a k e n ∙ sym (operand_is p x b k e m)

all_agree : (ps xs : List Rtx) (a b : Ops) (k : ℕ) → AllByRecursion Agree ps → MakesAll ps xs a → MakesAll ps xs b → is_given_by ps k ≡ true → operand_at a k ≡ operand_at b k
all_agree [] xs a b k all m n e = absurd (let none : ⊥ = cc in none)
all_agree (p ∷ ps) [] a b k all m n e = absurd (let long : length (p ∷ ps) ≡ length {A = Rtx} [] = as_many (p ∷ ps) [] a m in let none : ⊥ = cc in none)
all_agree (p ∷ ps) (x ∷ xs) a b k all m n e =
    let here = makes_first p x ps xs a m in
    let there = makes_first p x ps xs b n in
    ⊎_elim
    (λ given. all.0 x a b k here.0 there.0 given)
    (λ given. all_agree ps xs a b k all.1 here.1 there.1 given)
    (or_split (is_given_in k p) (is_given_by ps k) (sym (any_of_both (gives_number k) (placeholders p) (flat_map placeholders ps)) ∙ e))

agree_as : (p : Rtx) (r : Role) → role_of (head_of p).code ≡ r → AllByRecursion Agree (kids_of p) → Agree p
agree_as p Operand e all x a b k m n given =
    both_named p x a b k (or_false (gives_number k p) ∙ (sym (given_as p Operand k e) ∙ given)) (operand_named p x a e m) (operand_named p x b e n)
agree_as p Operator e all x a b k m n given = ⊎_elim
    (λ own. both_named p x a b k own (made_gives p x a e m (first (gives (head_of p).code) (int_eq (head_of p).number (pos k)) own)) (made_gives p x b e n (first (gives (head_of p).code) (int_eq (head_of p).number (pos k)) own)))
    (λ inside. all_agree (kids_of p) (kids_of x) a b k all (operator_parts p x a e m) (operator_parts p x b e n) inside)
    (or_split (gives_number k p) (is_given_by (kids_of p) k) (sym (given_as p Operator k e) ∙ given))
agree_as p Itself e all x a b k m n given = all_agree (kids_of p) (kids_of x) a b k all (itself_parts p x a e m) (itself_parts p x b e n) (sym (given_as p Itself k e) ∙ given)

agree : (p : Rtx) → Agree p
agree = induction Agree (λ p all. agree_as p (role_of (head_of p).code) refl all)

all_agreeing : (ps : List Rtx) → AllByRecursion Agree ps
all_agreeing [] = tt
all_agreeing (p ∷ ps) = (agree p, all_agreeing ps)

-- an operand that one of the lists has is in both
module _ (ps xs : List Rtx) (a b : Ops) (m : Matches ps xs a) (n : Matches ps xs b) where
  makes : (o : Ops) → Matches ps xs o → MakesAll ps xs o
  makes o h = record { made = h.made; fit = h.suits.asked }

  same_at : (k : ℕ) → operand_at a k ≡ operand_at b k
  same_at k = go (operand_at a k) (operand_at b k) refl refl
    where
      given : is_given_by ps k ≡ true → operand_at a k ≡ operand_at b k
      given e = all_agree ps xs a b k (all_agreeing ps) (makes a m) (makes b n) e

      go : (y z : Option Rtx) → operand_at a k ≡ y → operand_at b k ≡ z → operand_at a k ≡ operand_at b k
      go None None e f = e ∙ sym f
      go (Some y) z e f = given (m.suits.given k (ap is_some e))
      go None (Some z) e f = given (n.suits.given k (ap is_some f))

  pub one_list : a ≡ b
  one_list = same_short a b m.suits.short n.suits.short same_at

-- Operands as a match of a pattern gives them, by the placeholders of the pattern in their order.
use Rattle.std.proofs.Common.{◌≡◌, ℕ, zero, suc, pos, Bool, true, false, ◌&&◌, ◌||◌, length, List, [], ◌∷◌, ◌++◌, Option, Some, None, is_some, refl, sym, ap, subst, ◌∙◌, arith}
use Rattle.std.specs.Prelude.{IsSome}
use Rattle.std.specs.List.{AllByRecursion, list_all, list_any, flat_map}
use Rattle.std.specs.Ordering.{int_eq}
use Rattle.rtx_tree.specs.declared.code.Code.{Code}
use Rattle.rtx_tree.specs.declared.code.Code.TheVariants as code
use Rattle.rtx_tree.specs.declared.code.Mode.{Mode}
use Rattle.rtx_tree.specs.declared.tree.Rtx.{Rtx}
use Rattle.rtx_tree.specs.Operands.{operand_at}
use Rattle.rtx_tree.specs.Tree.{head_of}
use Rattle.c_cond.specs.declared.tree.Tree.{Tree}
use Rattle.c_eval.specs.declared.facts.Facts.{Facts}
use Rattle.md_match.specs.Pattern.{Ops, Noted, noted, noted_step, placeholders, gives, gives_number, all_some}
use Rattle.md_match.specs.Match.{IsAsked, IsAskedAs, IsShort}
use Rattle.md_recog.specs.Match.{Accepts, IsMatch, is_accepted, is_met}
use Rattle.rtx_open.proofs.Expressions.{Written, rtx, outside_is, gathers}
use Rattle.law_plain_matches.proofs.Patterns.{operand, filled, filled_is, asked}

-- ---- placeholders

-- those of a pattern
pub asked_is : (pattern : Written) → placeholders (rtx pattern) ≡ asked pattern
unfolding noted
asked_is pattern = ap (λ (n : Noted). n.placeholders) (gathers noted_step pattern)

-- an operand is asked for nothing but its predicate, and gives its number
pub operand_asked : (operands : Ops) (name : List ℕ) (k : ℕ) (m : Mode) → IsAsked operands (rtx (operand name k m))
operand_asked operands name k m =
    let x = rtx (operand name k m) in
    let is : code.MatchOperand ≡ (head_of x).code = sym (ap (λ o. o.code) (outside_is (operand name k m))) in
    subst (λ c. IsAskedAs c operands x) is tt

pub operand_gives : (name : List ℕ) (k : ℕ) (m : Mode) → gives_number k (rtx (operand name k m)) ≡ int_eq (pos k) (pos k)
operand_gives name k m = ap (λ o. gives o.code && int_eq o.number (pos k)) (outside_is (operand name k m))

-- ---- which numbers are given

first_gives : (p q : Bool) → p ≡ true → (p || q) ≡ true
first_gives true q is = refl
first_gives false q is = cc

later_gives : (p q : Bool) → q ≡ true → (p || q) ≡ true
later_gives true q is = refl
later_gives false q is = is

-- some trees, as operands
abbrev pub two : Rtx → Rtx → Ops
two a b = Some a ∷ Some b ∷ []

abbrev pub three : Rtx → Rtx → Rtx → Ops
three a b c = Some a ∷ Some b ∷ Some c ∷ []

abbrev pub four : Rtx → Rtx → Rtx → Rtx → Ops
four a b c d = Some a ∷ Some b ∷ Some c ∷ Some d ∷ []

abbrev pub one : Rtx → Ops
one a = Some a ∷ []

abbrev pub GivesEach : Ops → List Rtx → Type 0
GivesEach operands ps = (k : ℕ) → IsSome (operand_at operands k) → list_any (gives_number k) ps ≡ true

pub gives_one : (a p : Rtx) → gives_number 0 p ≡ true → GivesEach (one a) (p ∷ [])
gives_one a p g zero some = first_gives (gives_number 0 p) false g
gives_one a p g (suc k) some = absurd (let no : ⊥ = cc in no)

pub gives_two : (a b p q : Rtx) → gives_number 0 p ≡ true → gives_number 1 q ≡ true → GivesEach (two a b) (p ∷ q ∷ [])
gives_two a b p q g h zero some = first_gives (gives_number 0 p) (list_any (gives_number 0) (q ∷ [])) g
gives_two a b p q g h (suc zero) some = later_gives (gives_number 1 p) (list_any (gives_number 1) (q ∷ [])) (first_gives (gives_number 1 q) false h)
gives_two a b p q g h (suc (suc k)) some = absurd (let no : ⊥ = cc in no)

pub gives_three : (a b c p q r : Rtx) → gives_number 0 p ≡ true → gives_number 1 q ≡ true → gives_number 2 r ≡ true → GivesEach (three a b c) (p ∷ q ∷ r ∷ [])
gives_three a b c p q r f g h zero some = first_gives (gives_number 0 p) (list_any (gives_number 0) (q ∷ r ∷ [])) f
gives_three a b c p q r f g h (suc zero) some = later_gives (gives_number 1 p) (list_any (gives_number 1) (q ∷ r ∷ [])) (first_gives (gives_number 1 q) (list_any (gives_number 1) (r ∷ [])) g)
gives_three a b c p q r f g h (suc (suc zero)) some =
    later_gives (gives_number 2 p) (list_any (gives_number 2) (q ∷ r ∷ [])) (later_gives (gives_number 2 q) (list_any (gives_number 2) (r ∷ [])) (first_gives (gives_number 2 r) false h))
gives_three a b c p q r f g h (suc (suc (suc k))) some = absurd (let no : ⊥ = cc in no)

pub gives_four : (a b c d p q r s : Rtx) → gives_number 0 p ≡ true → gives_number 1 q ≡ true → gives_number 2 r ≡ true → gives_number 3 s ≡ true → GivesEach (four a b c d) (p ∷ q ∷ r ∷ s ∷ [])
gives_four a b c d p q r s e f g h zero some = first_gives (gives_number 0 p) (list_any (gives_number 0) (q ∷ r ∷ s ∷ [])) e
gives_four a b c d p q r s e f g h (suc zero) some =
    later_gives (gives_number 1 p) (list_any (gives_number 1) (q ∷ r ∷ s ∷ [])) (first_gives (gives_number 1 q) (list_any (gives_number 1) (r ∷ s ∷ [])) f)
gives_four a b c d p q r s e f g h (suc (suc zero)) some =
    later_gives (gives_number 2 p) (list_any (gives_number 2) (q ∷ r ∷ s ∷ []))
    (later_gives (gives_number 2 q) (list_any (gives_number 2) (r ∷ s ∷ [])) (first_gives (gives_number 2 r) (list_any (gives_number 2) (s ∷ [])) g))
gives_four a b c d p q r s e f g h (suc (suc (suc zero))) some =
    later_gives (gives_number 3 p) (list_any (gives_number 3) (q ∷ r ∷ s ∷ []))
    (later_gives (gives_number 3 q) (list_any (gives_number 3) (r ∷ s ∷ [])) (later_gives (gives_number 3 r) (list_any (gives_number 3) (s ∷ [])) (first_gives (gives_number 3 s) false h)))
gives_four a b c d p q r s e f g h (suc (suc (suc (suc k)))) some = absurd (let no : ⊥ = cc in no)

-- ---- no place is behind the last

pub short_one : (a : Rtx) → IsShort (one a)
short_one a zero is = refl
short_one a (suc k) is = absurd (omega (arith, is))

pub short_two : (a b : Rtx) → IsShort (two a b)
short_two a b zero is = refl
short_two a b (suc zero) is = refl
short_two a b (suc (suc k)) is = absurd (omega (arith, is))

pub short_three : (a b c : Rtx) → IsShort (three a b c)
short_three a b c zero is = refl
short_three a b c (suc zero) is = refl
short_three a b c (suc (suc zero)) is = refl
short_three a b c (suc (suc (suc k))) is = absurd (omega (arith, is))

pub short_four : (a b c d : Rtx) → IsShort (four a b c d)
short_four a b c d zero is = refl
short_four a b c d (suc zero) is = refl
short_four a b c d (suc (suc zero)) is = refl
short_four a b c d (suc (suc (suc zero))) is = refl
short_four a b c d (suc (suc (suc (suc k)))) is = absurd (omega (arith, is))

-- ---- a match

module _ (accepts : Accepts) (facts : Facts) (condition : Tree) (pattern : Written) (operands : Ops) (insn : Rtx) (ps : List Rtx) (are : asked pattern ≡ ps) where
  placeholders_are : flat_map placeholders (rtx pattern ∷ []) ≡ ps
  placeholders_are = ap (λ xs. xs ++ []) (asked_is pattern ∙ are) ∙ nothing_behind ps
    where
      nothing_behind : (xs : List Rtx) → xs ++ [] ≡ xs
      nothing_behind [] = refl
      nothing_behind (x ∷ xs) = ap (λ ys. x ∷ ys) (nothing_behind xs)

  pub is_match : filled operands pattern ≡ Some insn → AllByRecursion (IsAsked operands) ps → GivesEach operands ps → IsShort operands → list_all (is_accepted accepts operands) ps ≡ true → is_met accepts facts condition operands ≡ true →
      IsMatch accepts facts (rtx pattern ∷ []) condition (insn ∷ []) operands
  is_match made asks given short accepted met = record {
    shape = record {
      made = ap (λ o. all_some (o ∷ [])) (filled_is operands pattern ∙ made);
      suits = record {
        asked = subst (AllByRecursion (IsAsked operands)) (sym placeholders_are) asks;
        given = λ k some. ap (list_any (gives_number k)) placeholders_are ∙ given k some;
        short = short;
      };
    };
    accepted = ap (λ b. b && true) (ap (list_all (is_accepted accepts operands)) (asked_is pattern ∙ are) ∙ accepted);
    holds = met;
  }

-- How operands are collected, by what a pattern stands for.
use Rattle.std.proofs.Common.{◌≡◌, ◌⊎◌, ⊎_elim, inl, inr, ℕ, Bool, true, false, ◌||◌, List, Option, Some, None, refl, sym, ap, subst, ◌∙◌}
use Rattle.std.specs.Prelude.{flat_map, is_some, IsSome}
use Rattle.std.specs.List.{list_any}
use Rattle.rtx_tree.specs.declared.code.Code.{Code}
use Rattle.rtx_tree.specs.declared.code.Code.TheVariants.{MatchOperator, MatchOperand, MatchScratch}
use Rattle.rtx_tree.specs.declared.tree.Rtx.{Rtx}
use Rattle.rtx_tree.specs.Tree.{head_of, kids_of}
use Rattle.rtx_tree.specs.Operands.{operand_at}
use Rattle.md_match.specs.declared.role.Role.{Role}
use Rattle.md_match.specs.declared.role.Role.TheVariants.{Operand, Operator, Itself}
use Rattle.md_match.specs.Pattern.{Ops, role_of, gives, gives_number, placeholders, placeholders_as}
use Rattle.md_match.specs.machine.Collected.{Makes, MakesAll, Names, NamesOperator, NamesGiven, Grows, Collected, Collects, is_given_by, is_given_in}
use Rattle.md_match.proofs.Anys.{or_false}
use Rattle.md_match.proofs.Placeholders.{placeholders_out}
use Rattle.md_match.proofs.Nodes.{operand_named, operator_named, operator_parts, itself_head, itself_parts}

-- ---- any properties

-- another property that has the first one, and the same numbers
pub collects_by : (P Q : Ops → Type 0) (g h : ℕ → Bool) (old : Ops) (r : Option Ops) → ((o : Ops) → Q o → P o) → ((k : ℕ) → h k ≡ g k) → Collects g P old r → Collects h Q old r
collects_by P Q g h old None weaker same c = λ o q. c o (weaker o q)
collects_by P Q g h old (Some new) weaker same c = record {
  keeps = c.keeps;
  below = λ o grows q. c.below o grows (weaker o q);
  there = λ k e. c.there k (sym (same k) ∙ e);
  only = λ k s. ⊎_elim (λ was. inl was) (λ e. inr (same k ∙ e)) (c.only k s);
  short = c.short;
}

some_kept : (a b : Ops) (k : ℕ) → Grows a b → IsSome (operand_at a k) → IsSome (operand_at b k)
some_kept a b k grows s = go (operand_at a k) refl s
  where
    go : (x : Option Rtx) → operand_at a k ≡ x → IsSome x → IsSome (operand_at b k)
    go None e s = absurd (let none : ⊥ = cc in none)
    go (Some x) e s = ap is_some (grows.keeps k x e)

pub or_split : (a b : Bool) → (a || b) ≡ true → (a ≡ true) ⊎ (b ≡ true)
or_split true b e = inl refl
or_split false b e = inr e

or_left : (a b : Bool) → a ≡ true → (a || b) ≡ true
or_left a b e = ap (λ c. c || b) e

or_right : (a b : Bool) → b ≡ true → (a || b) ≡ true
or_right true b e = refl
or_right false b e = e

-- the numbers of two, one after the other
pub collects_both : (P Q R : Ops → Type 0) (f g h : ℕ → Bool) (old more : Ops) (r : Option Ops) → ((o : Ops) → R o → P o × Q o) → ((k : ℕ) → h k ≡ (f k || g k)) →
    Collected f P old more → Collects g Q more r → Collects h R old r
collects_both P Q R f g h old more None split joined c d = λ o both. d o (split o both).1
collects_both P Q R f g h old more (Some new) split joined c d = record {
  keeps = record { keeps = λ k x e. d.keeps.keeps k x (c.keeps.keeps k x e) };
  below = λ o grows both. d.below o (c.below o grows (split o both).0) (split o both).1;
  there = λ k e. ⊎_elim (λ first. some_kept more new k d.keeps (c.there k first)) (λ later. d.there k later) (or_split (f k) (g k) (sym (joined k) ∙ e));
  only = λ k s. ⊎_elim
      (λ was. ⊎_elim (λ before. inl before) (λ first. inr (joined k ∙ or_left (f k) (g k) first)) (c.only k was))
      (λ later. inr (joined k ∙ or_right (f k) (g k) later))
      (d.only k s);
  short = λ s. d.short (c.short s);
}

-- ---- patterns

pub given_as : (p : Rtx) (r : Role) (k : ℕ) → role_of (head_of p).code ≡ r → is_given_in k p ≡ list_any (gives_number k) (placeholders_as r p (flat_map placeholders (kids_of p)))
given_as p r k e = ap (list_any (gives_number k)) (placeholders_out p ∙ ap (λ (r : Role). placeholders_as r p (flat_map placeholders (kids_of p))) e)

parts_given : (p : Rtx) (ps : List Rtx) (i : ℕ) → ps ≡ kids_of p → is_given_by (kids_of p) i ≡ is_given_by ps i
parts_given p ps i k = ap (λ qs. is_given_by qs i) (sym k)

parts_of : (p x : Rtx) (ps xs : List Rtx) (o : Ops) → ps ≡ kids_of p → xs ≡ kids_of x → MakesAll (kids_of p) (kids_of x) o → MakesAll ps xs o
parts_of p x ps xs o k l m = subst (λ qs. MakesAll qs xs o) (sym k) (subst (λ ys. MakesAll (kids_of p) ys o) (sym l) m)

pub collects_operand : (p x : Rtx) (old : Ops) (r : Option Ops) → role_of (head_of p).code ≡ Operand → Collects (λ k. gives_number k p) (NamesGiven p x) old r → Collects (λ k. is_given_in k p) (Makes p x) old r
collects_operand p x old r e = collects_by (NamesGiven p x) (Makes p x) (λ k. gives_number k p) (λ k. is_given_in k p) old r
    (λ o m. λ given. operand_named p x o e m) (λ k. given_as p Operand k e ∙ sym (or_false (gives_number k p)))

operator_gives : (c : Code) (p x : Rtx) (o : Ops) → role_of c ≡ Operator → NamesOperator c p x o → gives c ≡ true → Names p x o
operator_gives MatchOperator p x o e n given = n
operator_gives MatchOperand p x o e n given = absurd (let none : ⊥ = cc in none)
operator_gives MatchScratch p x o e n given = absurd (let none : ⊥ = cc in none)
operator_gives _ p x o e n given = absurd (let none : ⊥ = cc in none)

pub made_gives : (p x : Rtx) (o : Ops) → role_of (head_of p).code ≡ Operator → Makes p x o → NamesGiven p x o
made_gives p x o e m = operator_gives (head_of p).code p x o e (operator_named p x o e m)

pub operator_nowhere : (p x : Rtx) → role_of (head_of p).code ≡ Operator → ((o : Ops) → NamesGiven p x o → ⊥) → (o : Ops) → Makes p x o → ⊥
operator_nowhere p x e never o m = never o (made_gives p x o e m)

pub collects_operator : (p x : Rtx) (ps xs : List Rtx) (old more : Ops) (r : Option Ops) → role_of (head_of p).code ≡ Operator → ps ≡ kids_of p → xs ≡ kids_of x →
    Collected (λ k. gives_number k p) (NamesGiven p x) old more → Collects (is_given_by ps) (MakesAll ps xs) more r → Collects (λ k. is_given_in k p) (Makes p x) old r
collects_operator p x ps xs old more r e k l = collects_both (NamesGiven p x) (MakesAll ps xs) (Makes p x) (λ i. gives_number i p) (is_given_by ps) (λ i. is_given_in i p) old more r
    (λ o m. (made_gives p x o e m, parts_of p x ps xs o k l (operator_parts p x o e m))) (λ i. given_as p Operator i e ∙ ap (λ b. gives_number i p || b) (parts_given p ps i k))

pub itself_nowhere : (p x : Rtx) → role_of (head_of p).code ≡ Itself → (head_of p ≡ head_of x → ⊥) → (o : Ops) → Makes p x o → ⊥
itself_nowhere p x e never o m = never (itself_head p x o e m)

pub collects_itself : (p x : Rtx) (ps xs : List Rtx) (old : Ops) (r : Option Ops) → role_of (head_of p).code ≡ Itself → ps ≡ kids_of p → xs ≡ kids_of x →
    Collects (is_given_by ps) (MakesAll ps xs) old r → Collects (λ k. is_given_in k p) (Makes p x) old r
collects_itself p x ps xs old r e k l = collects_by (MakesAll ps xs) (Makes p x) (is_given_by ps) (λ i. is_given_in i p) old r
    (λ o m. parts_of p x ps xs o k l (itself_parts p x o e m)) (λ i. given_as p Itself i e ∙ parts_given p ps i k)

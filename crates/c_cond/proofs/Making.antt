-- What is made of tokens, goal by goal.
use Rattle.std.proofs.Common.{◌≡◌, ℕ, ◌<◌, ◌≤◌, nat_le, Bool, true, false, cond, List, [], ◌∷◌, ◌++◌, Option, Some, None, refl, ap, ◌∙◌, arith, ◌==◌}
use Rattle.std.proofs.lemmas.List.{append-nil}
use Rattle.std.proofs.lemmas.Bool.{le-leb, leb-true}
use Rattle.rtx_tree.specs.declared.constants.Constant.{Constant}
use Rattle.c_words.specs.declared.head.Binary.{Binary}
use Rattle.c_words.specs.declared.head.CondHead.{CondHead}
use Rattle.c_words.specs.declared.atom.Dialect.{Dialect}
use Rattle.c_words.specs.declared.token.Token.{Token}
use Rattle.c_words.specs.declared.token.Token.TheVariants as token
use Rattle.c_cond.specs.declared.part.Part.{Part}
use Rattle.c_cond.specs.declared.part.Part.TheVariants as part
use Rattle.c_cond.specs.declared.goal.Goal.{Goal}
use Rattle.c_cond.specs.declared.goal.Goal.TheVariants as goal
use Rattle.c_cond.specs.Grammar.{close_round, question, level, unary_level, One, Parts, Statement, Statements, Condition, Sort}
use Rattle.c_cond.specs.machine.Steps.{takes, passed, at, run, result_of, takes_expression, takes_more, takes_question, takes_statement, parts_then}
use Rattle.c_cond.proofs.Meets.{is_else_token}

-- what is made of tokens, where so much was made before and these goals are left
abbrev pub R : Dialect → List Constant → List CondHead → List Goal → List Token → Option (List CondHead)
R d cs code gs ts = result_of d cs (at code gs) ts

-- the first token, where there is one
abbrev pub First : (Token → Type 0) → List Token → Type 0
First A [] = Unit {0}
First A (t ∷ ts) = A t

pub first_map : (A B : Token → Type 0) → ((t : Token) → A t → B t) → (ts : List Token) → First A ts → First B ts
first_map A B f [] h = tt
first_map A B f (t ∷ ts) h = f t h

pub first_all : (B : Token → Type 0) → ((t : Token) → B t) → (ts : List Token) → First B ts
first_all B f [] = tt
first_all B f (t ∷ ts) = f t

pub take : (d : Dialect) (cs : List Constant) (code : List CondHead) (g : Goal) (gs new : List Goal) (t : Token) (ts : List Token) → takes d cs g t gs ≡ Some new → R d cs code (g ∷ gs) (t ∷ ts) ≡ R d cs code new ts
unfolding run
take d cs code g gs new t ts e = rw e refl

pub pass_over : (d : Dialect) (cs : List Constant) (code : List CondHead) (g : Goal) (gs : List Goal) (heads : List CondHead) (ts : List Token) → passed g ≡ Some heads →
    First (λ t. takes d cs g t gs ≡ None) ts → R d cs code (g ∷ gs) ts ≡ R d cs (code ++ heads) gs ts
unfolding run
pass_over d cs code g gs heads [] e n = rw e refl
pass_over d cs code g gs heads (t ∷ ts) e n = rw (n, e) refl

pub same_more : (d : Dialect) (cs : List Constant) (code : List CondHead) (p q l : ℕ) (gs : List Goal) (ts : List Token) → First (λ t. takes_more p q t gs ≡ takes_more p l t gs) ts →
    R d cs code (goal.More p q ∷ gs) ts ≡ R d cs code (goal.More p l ∷ gs) ts
unfolding run
same_more d cs code p q l gs [] e = refl
same_more d cs code p q l gs (t ∷ ts) e = rw e refl

pub recode : (d : Dialect) (cs : List Constant) (a b : List CondHead) (gs : List Goal) (ts : List Token) → a ≡ b → R d cs a gs ts ≡ R d cs b gs ts
recode d cs a b gs ts e = ap (λ (x : List CondHead). R d cs x gs ts) e

pub retoken : (d : Dialect) (cs : List Constant) (code : List CondHead) (gs : List Goal) (ts us : List Token) → ts ≡ us → R d cs code gs ts ≡ R d cs code gs us
retoken d cs code gs ts us e = ap (R d cs code gs) e

pub yield : (d : Dialect) (cs : List Constant) (code : List CondHead) (h : CondHead) (gs : List Goal) (ts : List Token) → R d cs code (goal.Yield h ∷ gs) ts ≡ R d cs (code ++ h ∷ []) gs ts
yield d cs code h gs ts = pass_over d cs code (goal.Yield h) gs (h ∷ []) ts refl (first_all (λ t. takes d cs (goal.Yield h) t gs ≡ None) (λ t. refl) ts)

pub more_over : (d : Dialect) (cs : List Constant) (code : List CondHead) (p q : ℕ) (gs : List Goal) (ts : List Token) → First (λ t. takes_more p q t gs ≡ None) ts → R d cs code (goal.More p q ∷ gs) ts ≡ R d cs code gs ts
more_over d cs code p q gs ts n = pass_over d cs code (goal.More p q) gs [] ts refl n ∙ recode d cs (code ++ []) code gs ts (append-nil code)

-- ---- which tokens may stand behind an expression of level l that is not to go on by a tighter operator

abbrev pub Allowed : ℕ → Token → Type 0
Allowed l (token.Operator op) = level op ≤ l
Allowed l (token.Mark b) = (b == question) ≡ true → 1 ≤ l
Allowed l _ = Unit {0}

leb : (a b : ℕ) → a ≤ b → nat_le a b ≡ true
leb a b h = le-leb a b h

not_leb : (a b : ℕ) → b < a → nat_le a b ≡ false
not_leb a b h = by_test (nat_le a b) refl
  where
    by_test : (t : Bool) → nat_le a b ≡ t → nat_le a b ≡ false
    by_test false e = e
    by_test true e = absurd (omega (arith, leb-true a b e))

pub level_small : (op : Binary) → level op ≤ 10
level_small op = grind arith

-- the operators that may go on an expression do not depend on the bound from above, where it allows the token
pub allowed_same : (p q l : ℕ) (t : Token) (gs : List Goal) → Allowed q t → Allowed l t → takes_more p q t gs ≡ takes_more p l t gs
allowed_same p q l (token.Operator op) gs a b = rw (leb (level op) q a, leb (level op) l b) refl
allowed_same p q l (token.Mark b) gs a c = by_test (b == question) refl
  where
    by_test : (t : Bool) → (b == question) ≡ t → cond (b == question) (takes_question p q gs) None ≡ cond (b == question) (takes_question p l gs) None
    by_test false e = rw e refl
    by_test true e = rw (e, leb 1 q (a e), leb 1 l (c e)) refl
allowed_same p q l (token.Number n) gs a b = refl
allowed_same p q l (token.Word word) gs a b = refl
allowed_same p q l token.Bad gs a b = refl

-- no operator that is allowed binds as tightly as a greater level
pub allowed_none : (p q l : ℕ) (t : Token) (gs : List Goal) → l < p → Allowed l t → takes_more p q t gs ≡ None
allowed_none p q l (token.Operator op) gs lt a = rw (not_leb p (level op) (omega arith)) refl
allowed_none p q l (token.Mark b) gs lt a = by_test (b == question) refl
  where
    by_test : (t : Bool) → (b == question) ≡ t → cond (b == question) (takes_question p q gs) None ≡ None
    by_test false e = rw e refl
    by_test true e = rw (e, not_leb p 0 (omega arith)) refl
allowed_none p q l (token.Number n) gs lt a = refl
allowed_none p q l (token.Word word) gs lt a = refl
allowed_none p q l token.Bad gs lt a = refl

pub allowed_up : (l m : ℕ) (t : Token) → l ≤ m → Allowed l t → Allowed m t
allowed_up l m (token.Operator op) le a = omega arith
allowed_up l m (token.Mark b) le a = λ e. omega (arith, a e)
allowed_up l m (token.Number n) le a = tt
allowed_up l m (token.Word word) le a = tt
allowed_up l m token.Bad le a = tt

-- any operator is allowed below the unary ones
pub allowed_all : (t : Token) → Allowed unary_level t
allowed_all (token.Operator op) = omega (arith, level_small op)
allowed_all (token.Mark b) = λ e. omega arith
allowed_all (token.Number n) = tt
allowed_all (token.Word word) = tt
allowed_all token.Bad = tt

-- at the lowest level nothing goes on
pub allowed_zero : (p : ℕ) (t : Token) (gs : List Goal) → Allowed 0 t → takes_more p 0 t gs ≡ None
allowed_zero p (token.Operator op) gs a = absurd (never op a)
  where
    never : (op : Binary) → level op ≤ 0 → ⊥
    never op le = grind arith
allowed_zero p (token.Mark b) gs a = by_test (b == question) refl
  where
    by_test : (t : Bool) → (b == question) ≡ t → cond (b == question) (takes_question p 0 gs) None ≡ None
    by_test false e = rw e refl
    by_test true e = absurd (omega (arith, a e))
allowed_zero p (token.Number n) gs a = refl
allowed_zero p (token.Word word) gs a = refl
allowed_zero p token.Bad gs a = refl

-- ---- what it is to read a part of the grammar

abbrev pub place : Bool → Part
place true = part.Value
place false = part.Operand

abbrev pub NotElse : Bool → Token → Type 0
NotElse closed t = closed ≡ false → is_else_token t ≡ false

abbrev pub EndsStatements : Token → Type 0
EndsStatements t = t ≡ token.Mark 125

-- a goal whose answers are those of a part, with these goals behind it
abbrev pub Like : Dialect → List Constant → Goal → List Goal → (Token → Option (List Goal)) → Type 0
Like d cs g gs answer = (t : Token) → takes d cs g t gs ≡ answer t

abbrev pub PartReads : Dialect → List Constant → Part → List CondHead → List Token → Type 0
PartReads d cs (part.Expression l) c ts = (p : ℕ) → p ≤ l → (g : Goal) (from gs : List Goal) → Like d cs g from (λ t. takes_expression d cs p t gs) →
    (code : List CondHead) (us : List Token) → First (Allowed l) us → R d cs code (g ∷ from) (ts ++ us) ≡ R d cs (code ++ c) (goal.More p l ∷ gs) us
PartReads d cs part.Operand c ts = (v : Bool) (code : List CondHead) (gs : List Goal) (us : List Token) → R d cs code (goal.Part (place v) ∷ gs) (ts ++ us) ≡ R d cs (code ++ c) gs us
PartReads d cs x c ts = (code : List CondHead) (gs : List Goal) (us : List Token) → R d cs code (goal.Part x ∷ gs) (ts ++ us) ≡ R d cs (code ++ c) gs us

abbrev pub Reads : Dialect → List Constant → Sort → List CondHead → List Token → Type 0
Reads d cs (One x) c ts = PartReads d cs x c ts
Reads d cs (Parts parts) c ts = (code : List CondHead) (gs : List Goal) (us : List Token) →
    R d cs code (parts_then parts (goal.Mark close_round ∷ gs)) (ts ++ token.Mark close_round ∷ us) ≡ R d cs (code ++ c) gs us
Reads d cs (Statement closed) c ts = (g : Goal) (from gs : List Goal) → Like d cs g from (λ t. takes_statement t gs) →
    (code : List CondHead) (us : List Token) → First (NotElse closed) us → R d cs code (g ∷ from) (ts ++ us) ≡ R d cs (code ++ c) gs us
Reads d cs Statements c ts = (code : List CondHead) (gs : List Goal) (us : List Token) → First EndsStatements us → R d cs code (goal.Statements ∷ gs) (ts ++ us) ≡ R d cs (code ++ c) gs us
Reads d cs Condition c ts = R d cs [] (goal.Condition ∷ []) ts ≡ Some c

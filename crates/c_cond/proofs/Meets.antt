-- What some tokens and a tree are to what a text must still have.
use Rattle.std.proofs.Common.{◌≡◌, ℕ, ◌<◌, ◌≤◌, ◌^◌, Bool, true, false, List, [], ◌∷◌, ◌++◌, Option, Some, refl, sym, ap, subst, append_assoc, ◌⊎◌}
use Rattle.rtx_tree.specs.declared.constants.Constant.{Constant}
use Rattle.c_words.specs.declared.head.CondHead.{CondHead}
use Rattle.c_words.specs.declared.head.CondHead.TheVariants as head
use Rattle.c_words.specs.declared.keyword.Keyword.{Keyword}
use Rattle.c_words.specs.declared.keyword.Keyword.TheVariants as keyword
use Rattle.c_words.specs.declared.atom.Dialect.{Dialect}
use Rattle.c_words.specs.declared.atom.Property.{Property}
use Rattle.c_words.specs.declared.token.Token.{Token}
use Rattle.c_words.specs.declared.token.Token.TheVariants as token
use Rattle.c_cond.specs.declared.part.Part.TheVariants as part
use Rattle.c_cond.specs.declared.part.Signature.{Signature}
use Rattle.c_cond.specs.declared.part.Signature.TheVariants as signature
use Rattle.c_cond.specs.declared.goal.Goal.{Goal}
use Rattle.c_cond.specs.declared.goal.Goal.TheVariants as goal
use Rattle.c_words.specs.Words.{keyword_named}
use Rattle.c_cond.specs.Grammar.{open_round, close_round, comma, semicolon, becomes, close_square, comparison_of, comparison_with, One, Parts, Statement, Statements, Condition}
use Rattle.c_cond.specs.machine.Flat.{Is}
use Rattle.c_cond.specs.machine.Steps.{parts_then, call_then}

abbrev pub is_else : Option Keyword → Bool
is_else (Some keyword.Else) = true
is_else _ = false

abbrev pub is_else_token : Token → Bool
is_else_token (token.Word word) = is_else (keyword_named word)
is_else_token _ = false

abbrev pub begins_else : List Token → Bool
begins_else [] = false
begins_else (t ∷ ts) = is_else_token t

-- behind an expression of a level at least as great as both, these tokens make one of the level p
abbrev pub Continues : Dialect → List Constant → ℕ → ℕ → List CondHead → List Token → Type 0
Continues d cs p q c ts = (a : List CondHead) (xs : List Token) (m : ℕ) → p ≤ m → q ≤ m → Is d cs (One (part.Expression m)) a xs → Is d cs (One (part.Expression p)) (a ++ c) (xs ++ ts)

pub record IsCompared (property : Property) (equal : Bool) (c : List CondHead) (ts : List Token) : Type 0 where
  pub name : List ℕ
  pub head : CondHead
  pub named : comparison_with property equal name ≡ Some head
  pub tree : c ≡ head ∷ []
  pub tokens : ts ≡ token.Word name ∷ []

pub record IsComparison (property : Property) (c : List CondHead) (ts : List Token) : Type 0 where
  pub sign : Token
  pub equal : Bool
  pub compares : comparison_of sign ≡ Some equal
  pub rest : List Token
  pub compared : IsCompared property equal c rest
  pub tokens : ts ≡ sign ∷ rest

pub record IsIndex (c : List CondHead) (ts : List Token) : Type 0 where
  pub k : ℕ
  pub small : k < 2 ^ 32
  pub tree : c ≡ head.Operand k ∷ []
  pub tokens : ts ≡ token.Number k ∷ token.Mark close_square ∷ []

pub record IsTarget (d : Dialect) (cs : List Constant) (c : List CondHead) (ts : List Token) : Type 0 where
  pub k : ℕ
  pub small : k < 2 ^ 32
  pub value : List CondHead
  pub text : List Token
  pub is : Is d cs (One part.Value) value text
  pub tree : c ≡ value ++ head.Assign k ∷ []
  pub tokens : ts ≡ token.Number k ∷ token.Mark close_square ∷ token.Mark becomes ∷ (text ++ token.Mark semicolon ∷ [])

pub record IsElse (d : Dialect) (cs : List Constant) (closed : Bool) (c : List CondHead) (ts : List Token) : Type 0 where
  pub word : List ℕ
  pub named : keyword_named word ≡ Some keyword.Else
  pub statement : List CondHead
  pub text : List Token
  pub is : Is d cs (Statement closed) statement text
  pub tree : c ≡ statement ++ head.IfElse ∷ []
  pub tokens : ts ≡ token.Word word ∷ text

-- no else, and none follows
pub record IsNoElse (closed : Bool) (c : List CondHead) (ts : List Token) : Type 0 where
  pub unclosed : closed ≡ false
  pub tree : c ≡ head.If ∷ []
  pub tokens : ts ≡ []

-- the tokens, behind which the last ones stand, are what a goal wants
abbrev pub Fits : Dialect → List Constant → Goal → List CondHead → List Token → List Token → Type 0
Fits d cs (goal.Mark b) c ts us = (c ≡ []) × (ts ≡ token.Mark b ∷ [])
Fits d cs (goal.Yield h) c ts us = (c ≡ h ∷ []) × (ts ≡ [])
Fits d cs (goal.Part x) c ts us = Is d cs (One x) c ts
Fits d cs (goal.More p q) c ts us = Continues d cs p q c ts
Fits d cs (goal.Comparison property) c ts us = IsComparison property c ts
Fits d cs (goal.Compared property equal) c ts us = IsCompared property equal c ts
Fits d cs goal.Index c ts us = IsIndex c ts
Fits d cs goal.Target c ts us = IsTarget d cs c ts
Fits d cs goal.Statement c ts us = Is d cs (Statement (begins_else us)) c ts
Fits d cs goal.Else c ts us = IsNoElse (begins_else us) c ts ⊎ IsElse d cs (begins_else us) c ts
Fits d cs goal.Statements c ts us = Is d cs Statements c ts
Fits d cs goal.Condition c ts us = Is d cs Condition c ts

-- the tokens are what all goals want, one after the other
pub data Meets (d : Dialect) (cs : List Constant) : List Goal → List CondHead → List Token → Type 0 where
  end : Meets d cs [] [] []
  first : (g : Goal) (gs : List Goal) (c e : List CondHead) (ts us : List Token) → Fits d cs g c ts us → Meets d cs gs e us → Meets d cs (g ∷ gs) (c ++ e) (ts ++ us)

-- ---- what a tree and tokens are that meet goals

abbrev pub Told : Type 1
Told = List CondHead → List Token → Type 0

pub moved : (P : Told) (c e : List CondHead) (ts us : List Token) → c ≡ e → ts ≡ us → P c ts → P e us
moved P c e ts us p q h = subst (λ x. P e x) q (subst (λ x. P x ts) p h)

pub use_first : (d : Dialect) (cs : List Constant) (g : Goal) (gs : List Goal) (P : Told) →
    ((a e : List CondHead) (ts us : List Token) → Fits d cs g a ts us → Meets d cs gs e us → P (a ++ e) (ts ++ us)) →
    (c : List CondHead) (ts : List Token) → Meets d cs (g ∷ gs) c ts → P c ts
use_first d cs g gs P k _ _ (Meets.first _ _ a e ts us f m) = k a e ts us f m

pub use_yield : (d : Dialect) (cs : List Constant) (h : CondHead) (gs : List Goal) (P : Told) →
    ((e : List CondHead) (us : List Token) → Meets d cs gs e us → P (h ∷ e) us) →
    (c : List CondHead) (ts : List Token) → Meets d cs (goal.Yield h ∷ gs) c ts → P c ts
use_yield d cs h gs P k = use_first d cs (goal.Yield h) gs P
    (λ a e ts us f m. moved P (h ∷ e) (a ++ e) us (ts ++ us) (ap (λ (x : List CondHead). x ++ e) (sym f.0)) (ap (λ (x : List Token). x ++ us) (sym f.1)) (k e us m))

pub use_mark : (d : Dialect) (cs : List Constant) (b : ℕ) (gs : List Goal) (P : Told) →
    ((e : List CondHead) (us : List Token) → Meets d cs gs e us → P e (token.Mark b ∷ us)) →
    (c : List CondHead) (ts : List Token) → Meets d cs (goal.Mark b ∷ gs) c ts → P c ts
use_mark d cs b gs P k = use_first d cs (goal.Mark b) gs P
    (λ a e ts us f m. moved P e (a ++ e) (token.Mark b ∷ us) (ts ++ us) (ap (λ (x : List CondHead). x ++ e) (sym f.0)) (ap (λ (x : List Token). x ++ us) (sym f.1)) (k e us m))

-- the parts of a call
pub use_parts : (d : Dialect) (cs : List Constant) (parts : Signature) (gs : List Goal) (P : Told) →
    ((a e : List CondHead) (ts us : List Token) → Is d cs (Parts parts) a ts → Meets d cs gs e us → P (a ++ e) (ts ++ us)) →
    (c : List CondHead) (ts : List Token) → Meets d cs (parts_then parts gs) c ts → P c ts
use_parts d cs signature.None gs P k c ts m = k [] c [] ts Is.none m
use_parts d cs (signature.One x) gs P k c ts m = use_first d cs (goal.Part x) gs P (λ a e ts us i m. k a e ts us (Is.one x a ts i) m) c ts m
use_parts d cs (signature.Two x y) gs P k c ts m =
    use_first d cs (goal.Part x) (goal.Mark comma ∷ goal.Part y ∷ gs) P (λ a e ts us i m.
    use_mark d cs comma (goal.Part y ∷ gs) (λ e us. P (a ++ e) (ts ++ us)) (λ e us m.
    use_first d cs (goal.Part y) gs (λ e us. P (a ++ e) (ts ++ token.Mark comma ∷ us)) (λ b e vs us j m.
    moved P ((a ++ b) ++ e) (a ++ (b ++ e)) ((ts ++ token.Mark comma ∷ vs) ++ us) (ts ++ (token.Mark comma ∷ vs ++ us)) (append_assoc a b e) (append_assoc ts (token.Mark comma ∷ vs) us)
    (k (a ++ b) e (ts ++ token.Mark comma ∷ vs) us (Is.two x y a b ts vs i j) m)) e us m) e us m) c ts m
use_parts d cs (signature.Three x y z) gs P k c ts m =
    use_first d cs (goal.Part x) (goal.Mark comma ∷ goal.Part y ∷ goal.Mark comma ∷ goal.Part z ∷ gs) P (λ a e ts us i m.
    use_mark d cs comma (goal.Part y ∷ goal.Mark comma ∷ goal.Part z ∷ gs) (λ e us. P (a ++ e) (ts ++ us)) (λ e us m.
    use_first d cs (goal.Part y) (goal.Mark comma ∷ goal.Part z ∷ gs) (λ e us. P (a ++ e) (ts ++ token.Mark comma ∷ us)) (λ b e vs us j m.
    use_mark d cs comma (goal.Part z ∷ gs) (λ e us. P (a ++ (b ++ e)) (ts ++ (token.Mark comma ∷ vs ++ us))) (λ e us m.
    use_first d cs (goal.Part z) gs (λ e us. P (a ++ (b ++ e)) (ts ++ (token.Mark comma ∷ vs ++ token.Mark comma ∷ us))) (λ f e ws us l m.
    moved P ((a ++ (b ++ f)) ++ e) (a ++ (b ++ (f ++ e))) ((ts ++ (token.Mark comma ∷ vs ++ token.Mark comma ∷ ws)) ++ us) (ts ++ (token.Mark comma ∷ vs ++ (token.Mark comma ∷ ws ++ us)))
    (simp append_assoc refl) (simp append_assoc refl)
    (k (a ++ (b ++ f)) e (ts ++ (token.Mark comma ∷ vs ++ token.Mark comma ∷ ws)) us (Is.three x y z a b f ts vs ws i j l) m)) e us m) e us m) e us m) e us m) c ts m

-- the parts of a call in parentheses
pub use_call : (d : Dialect) (cs : List Constant) (parts : Signature) (h : CondHead) (gs : List Goal) (P : Told) →
    ((a e : List CondHead) (ts us : List Token) → Is d cs (Parts parts) a ts → Meets d cs gs e us → P (a ++ h ∷ e) (token.Mark open_round ∷ (ts ++ token.Mark close_round ∷ us))) →
    (c : List CondHead) (ts : List Token) → Meets d cs (call_then parts h gs) c ts → P c ts
use_call d cs parts h gs P k =
    use_mark d cs open_round (parts_then parts (goal.Mark close_round ∷ goal.Yield h ∷ gs)) P (λ e us m.
    use_parts d cs parts (goal.Mark close_round ∷ goal.Yield h ∷ gs) (λ e us. P e (token.Mark open_round ∷ us)) (λ a e ts us i m.
    use_mark d cs close_round (goal.Yield h ∷ gs) (λ e us. P (a ++ e) (token.Mark open_round ∷ (ts ++ us))) (λ e us m.
    use_yield d cs h gs (λ e us. P (a ++ e) (token.Mark open_round ∷ (ts ++ token.Mark close_round ∷ us))) (λ e us m. k a e ts us i m) e us m) e us m) e us m)

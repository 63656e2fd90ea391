-- What operators and the parts of calls take of a text is in the grammar.
use Rattle.std.proofs.Common.{◌≡◌, ℕ, ◌+◌, ◌≤◌, nat_le, Bool, true, false, cond, List, [], ◌∷◌, ◌++◌, Option, Some, None, refl, sym, ap, subst, ◌∙◌, append_assoc, arith, ◌&&◌, ◌==◌}
use Rattle.std.proofs.lemmas.Bool.{leb-true, eqb-true}
use Rattle.rtx_tree.specs.declared.constants.Constant.{Constant}
use Rattle.rtx_tree.specs.declared.code.Mode.{Mode}
use Rattle.c_words.specs.declared.head.Binary.{Binary}
use Rattle.c_words.specs.declared.head.Call.{Call}
use Rattle.c_words.specs.declared.head.CondHead.{CondHead}
use Rattle.c_words.specs.declared.head.CondHead.TheVariants as head
use Rattle.c_words.specs.declared.keyword.Keyword.{Keyword}
use Rattle.c_words.specs.declared.keyword.Keyword.TheVariants as keyword
use Rattle.c_words.specs.declared.atom.Dialect.{Dialect}
use Rattle.c_words.specs.declared.atom.Dialect.TheVariants as dialect
use Rattle.c_words.specs.declared.token.Token.{Token}
use Rattle.c_words.specs.declared.token.Token.TheVariants as token
use Rattle.c_cond.specs.declared.part.Part.{Part}
use Rattle.c_cond.specs.declared.part.Part.TheVariants as part
use Rattle.c_cond.specs.declared.goal.Goal.{Goal}
use Rattle.c_cond.specs.declared.goal.Goal.TheVariants as goal
use Rattle.c_words.specs.Words.{keyword_named, mode_named}
use Rattle.c_cond.specs.Grammar.{open_round, close_round, open_square, colon, question, level, expression, signature_of, is_maker, value_mode_named, One}
use Rattle.c_cond.specs.machine.Flat.{Is}
use Rattle.c_cond.specs.machine.Steps.{takes_question, takes_more, takes_mark, operand_by, takes_operand, value_by, takes_value, mode_then, takes_any_mode, takes_value_mode, takes_window, takes_part, call_then}
use Rattle.c_cond.proofs.Meets.{Continues, Meets, moved, use_first, use_yield, use_mark, use_call}
use Rattle.c_cond.proofs.Levels.{looser}
use Rattle.c_cond.proofs.SoundExpressions.{Sound, sound_expression}

-- ---- operators behind an operand

goes_on : (d : Dialect) (cs : List Constant) (p q : ℕ) (op : Binary) (b c : List CondHead) (xs ts : List Token) → p ≤ level op → level op ≤ q →
    Is d cs (One (part.Expression (level op + 1))) b xs → Continues d cs p (level op) c ts → Continues d cs p q (b ++ head.Binary op ∷ c) (token.Operator op ∷ (xs ++ ts))
goes_on d cs p q op b c xs ts le lq i f a ys m lm qm j =
    moved (Is d cs (One (part.Expression p))) ((a ++ (b ++ head.Binary op ∷ [])) ++ c) (a ++ (b ++ head.Binary op ∷ c)) ((ys ++ token.Operator op ∷ xs) ++ ts) (ys ++ token.Operator op ∷ (xs ++ ts))
    (append_assoc a (b ++ head.Binary op ∷ []) c ∙ ap (λ (x : List CondHead). a ++ x) (append_assoc b (head.Binary op ∷ []) c)) (append_assoc ys (token.Operator op ∷ xs) ts)
    (f (a ++ (b ++ head.Binary op ∷ [])) (ys ++ token.Operator op ∷ xs) (level op) le (omega arith) (Is.between (level op) op a b ys xs (omega arith) (looser d cs (level op) m a ys (omega arith) j) i))

sound_operator : (d : Dialect) (cs : List Constant) (p q : ℕ) (op : Binary) (gs : List Goal) (s t : Bool) → nat_le p (level op) ≡ s → nat_le (level op) q ≡ t →
    Sound d cs (goal.More p q) (token.Operator op) gs (cond (s && t) (Some (goal.Part (part.Expression (level op + 1)) ∷ goal.Yield (head.Binary op) ∷ goal.More p (level op) ∷ gs)) None)
sound_operator d cs p q op gs false t e f = tt
sound_operator d cs p q op gs true false e f = tt
sound_operator d cs p q op gs true true lp lq =
    use_first d cs (goal.Part (part.Expression (level op + 1))) (goal.Yield (head.Binary op) ∷ goal.More p (level op) ∷ gs) (λ c ts. Meets d cs (goal.More p q ∷ gs) c (token.Operator op ∷ ts)) (λ b c xs ts i m.
    use_yield d cs (head.Binary op) (goal.More p (level op) ∷ gs) (λ c ts. Meets d cs (goal.More p q ∷ gs) (b ++ c) (token.Operator op ∷ (xs ++ ts))) (λ c ts m.
    use_first d cs (goal.More p (level op)) gs (λ c ts. Meets d cs (goal.More p q ∷ gs) (b ++ head.Binary op ∷ c) (token.Operator op ∷ (xs ++ ts))) (λ c e ts us k m.
    moved (Meets d cs (goal.More p q ∷ gs)) ((b ++ head.Binary op ∷ c) ++ e) (b ++ head.Binary op ∷ (c ++ e)) (token.Operator op ∷ ((xs ++ ts) ++ us)) (token.Operator op ∷ (xs ++ (ts ++ us)))
    (append_assoc b (head.Binary op ∷ c) e) (ap (λ (x : List Token). token.Operator op ∷ x) (append_assoc xs ts us))
    (Meets.first (goal.More p q) gs (b ++ head.Binary op ∷ c) e (token.Operator op ∷ (xs ++ ts)) us (goes_on d cs p q op b c xs ts (leb-true p (level op) lp) (leb-true (level op) q lq) i k) m)) c ts m) c ts m)

chooses : (d : Dialect) (cs : List Constant) (p q : ℕ) (b c : List CondHead) (xs ts : List Token) → p ≤ 0 → 1 ≤ q → Is d cs (One expression) b xs → Is d cs (One expression) c ts →
    Continues d cs p q (b ++ (c ++ head.Choose ∷ [])) (token.Mark question ∷ (xs ++ token.Mark colon ∷ ts))
chooses d cs p q b c xs ts le lq i j a ys m lm qm k = looser d cs p 0 _ _ le (Is.choice a b c ys xs ts (looser d cs 1 m a ys (omega arith) k) i j)

sound_question : (d : Dialect) (cs : List Constant) (p q : ℕ) (gs : List Goal) (s t : Bool) → nat_le p 0 ≡ s → nat_le 1 q ≡ t →
    Sound d cs (goal.More p q) (token.Mark question) gs (cond (s && t) (Some (goal.Part expression ∷ goal.Mark colon ∷ goal.Part expression ∷ goal.Yield head.Choose ∷ gs)) None)
sound_question d cs p q gs false t e f = tt
sound_question d cs p q gs true false e f = tt
sound_question d cs p q gs true true lp lq =
    use_first d cs (goal.Part expression) (goal.Mark colon ∷ goal.Part expression ∷ goal.Yield head.Choose ∷ gs) (λ c ts. Meets d cs (goal.More p q ∷ gs) c (token.Mark question ∷ ts)) (λ b c xs ts i m.
    use_mark d cs colon (goal.Part expression ∷ goal.Yield head.Choose ∷ gs) (λ c ts. Meets d cs (goal.More p q ∷ gs) (b ++ c) (token.Mark question ∷ (xs ++ ts))) (λ c ts m.
    use_first d cs (goal.Part expression) (goal.Yield head.Choose ∷ gs) (λ c ts. Meets d cs (goal.More p q ∷ gs) (b ++ c) (token.Mark question ∷ (xs ++ token.Mark colon ∷ ts))) (λ c e ts us j m.
    use_yield d cs head.Choose gs (λ e us. Meets d cs (goal.More p q ∷ gs) (b ++ (c ++ e)) (token.Mark question ∷ (xs ++ token.Mark colon ∷ (ts ++ us)))) (λ e us m.
    moved (Meets d cs (goal.More p q ∷ gs)) ((b ++ (c ++ head.Choose ∷ [])) ++ e) (b ++ (c ++ head.Choose ∷ e)) (token.Mark question ∷ ((xs ++ token.Mark colon ∷ ts) ++ us)) (token.Mark question ∷ (xs ++ token.Mark colon ∷ (ts ++ us)))
    (append_assoc b (c ++ head.Choose ∷ []) e ∙ ap (λ (x : List CondHead). b ++ x) (append_assoc c (head.Choose ∷ []) e)) (ap (λ (x : List Token). token.Mark question ∷ x) (append_assoc xs (token.Mark colon ∷ ts) us))
    (Meets.first (goal.More p q) gs (b ++ (c ++ head.Choose ∷ [])) e (token.Mark question ∷ (xs ++ token.Mark colon ∷ ts)) us (chooses d cs p q b c xs ts (leb-true p 0 lp) (leb-true 1 q lq) i j) m)) e us m) c ts m) c ts m)

sound_mark_more : (d : Dialect) (cs : List Constant) (p q b : ℕ) (gs : List Goal) (t : Bool) → (b == question) ≡ t → Sound d cs (goal.More p q) (token.Mark b) gs (cond t (takes_question p q gs) None)
sound_mark_more d cs p q b gs false e = tt
sound_mark_more d cs p q b gs true e = subst (λ (k : ℕ). Sound d cs (goal.More p q) (token.Mark k) gs (takes_question p q gs)) (sym (eqb-true b question e)) (sound_question d cs p q gs (nat_le p 0) (nat_le 1 q) refl refl)

pub sound_more : (d : Dialect) (cs : List Constant) (p q : ℕ) (t : Token) (gs : List Goal) → Sound d cs (goal.More p q) t gs (takes_more p q t gs)
sound_more d cs p q (token.Operator op) gs = sound_operator d cs p q op gs (nat_le p (level op)) (nat_le (level op) q) refl refl
sound_more d cs p q (token.Mark b) gs = sound_mark_more d cs p q b gs (b == question) refl
sound_more d cs p q (token.Number n) gs = tt
sound_more d cs p q (token.Word word) gs = tt
sound_more d cs p q token.Bad gs = tt

-- ---- a mark

pub sound_mark : (d : Dialect) (cs : List Constant) (b : ℕ) (t : Token) (gs : List Goal) → Sound d cs (goal.Mark b) t gs (takes_mark b t gs)
sound_mark d cs b (token.Mark c) gs = by_test (b == c) refl
  where
    by_test : (t : Bool) → (b == c) ≡ t → Sound d cs (goal.Mark b) (token.Mark c) gs (cond t (Some gs) None)
    by_test false e = tt
    by_test true e = subst (λ (k : ℕ). Sound d cs (goal.Mark b) (token.Mark k) gs (Some gs)) (eqb-true b c e) (λ c ts m. Meets.first (goal.Mark b) gs [] c (token.Mark b ∷ []) ts (refl, refl) m)
sound_mark d cs b (token.Number n) gs = tt
sound_mark d cs b (token.Word word) gs = tt
sound_mark d cs b (token.Operator op) gs = tt
sound_mark d cs b token.Bad gs = tt

-- ---- what is one token

-- a part that one token is
one_token : (d : Dialect) (cs : List Constant) (x : Part) (h : CondHead) (t : Token) (gs : List Goal) → Is d cs (One x) (h ∷ []) (t ∷ []) → Sound d cs (goal.Part x) t gs (Some (goal.Yield h ∷ gs))
one_token d cs x h t gs i = use_yield d cs h gs (λ c ts. Meets d cs (goal.Part x ∷ gs) c (t ∷ ts)) (λ e us m. Meets.first (goal.Part x) gs (h ∷ []) e (t ∷ []) us i m)

sound_mode : (d : Dialect) (cs : List Constant) (x : Part) (word : List ℕ) (gs : List Goal) (m : Option Mode) →
    ((n : Mode) → m ≡ Some n → Is d cs (One x) (head.Mode n ∷ []) (token.Word word ∷ [])) → Sound d cs (goal.Part x) (token.Word word) gs (mode_then m gs)
sound_mode d cs x word gs None i = tt
sound_mode d cs x word gs (Some n) i = one_token d cs x (head.Mode n) (token.Word word) gs (i n refl)

sound_any_mode : (d : Dialect) (cs : List Constant) (t : Token) (gs : List Goal) → Sound d cs (goal.Part part.AnyMode) t gs (takes_any_mode t gs)
sound_any_mode d cs (token.Word word) gs = sound_mode d cs part.AnyMode word gs (mode_named word) (Is.any_mode word)
sound_any_mode d cs (token.Number n) gs = tt
sound_any_mode d cs (token.Operator op) gs = tt
sound_any_mode d cs (token.Mark b) gs = tt
sound_any_mode d cs token.Bad gs = tt

sound_value_mode : (d : Dialect) (cs : List Constant) (t : Token) (gs : List Goal) → Sound d cs (goal.Part part.ValueMode) t gs (takes_value_mode t gs)
sound_value_mode d cs (token.Word word) gs = sound_mode d cs part.ValueMode word gs (value_mode_named word) (Is.value_mode word)
sound_value_mode d cs (token.Number n) gs = tt
sound_value_mode d cs (token.Operator op) gs = tt
sound_value_mode d cs (token.Mark b) gs = tt
sound_value_mode d cs token.Bad gs = tt

sound_window : (d : Dialect) (cs : List Constant) (t : Token) (gs : List Goal) → Sound d cs (goal.Part part.Window) t gs (takes_window t gs)
sound_window d cs (token.Number n) gs = one_token d cs part.Window (head.Window n) (token.Number n) gs (Is.window n)
sound_window d cs (token.Word word) gs = tt
sound_window d cs (token.Operator op) gs = tt
sound_window d cs (token.Mark b) gs = tt
sound_window d cs token.Bad gs = tt

-- ---- operands

-- a part that an operand may be
abbrev MayBe : Dialect → List Constant → Part → Type 0
MayBe d cs x = (a : List CondHead) (ts : List Token) → Is d cs (One part.Operand) a ts → Is d cs (One x) a ts

indexed : (cs : List Constant) (x : Part) (word : List ℕ) (gs : List Goal) → MayBe dialect.Condition cs x → keyword_named word ≡ Some keyword.Operands →
    Sound dialect.Condition cs (goal.Part x) (token.Word word) gs (Some (goal.Mark open_square ∷ goal.Index ∷ gs))
indexed cs x word gs may e =
    use_mark dialect.Condition cs open_square (goal.Index ∷ gs) (λ c ts. Meets dialect.Condition cs (goal.Part x ∷ gs) c (token.Word word ∷ ts)) (λ c ts m.
    use_first dialect.Condition cs goal.Index gs (λ c ts. Meets dialect.Condition cs (goal.Part x ∷ gs) c (token.Word word ∷ token.Mark open_square ∷ ts)) (λ a c xs ts f m.
    Meets.first (goal.Part x) gs a c (token.Word word ∷ token.Mark open_square ∷ xs) ts
    (moved (λ c ts. Is dialect.Condition cs (One x) c (token.Word word ∷ token.Mark open_square ∷ ts)) _ _ _ _ (sym f.tree) (sym f.tokens) (may _ _ (Is.operand word f.k e refl f.small))) m) c ts m)

sound_operand_by : (d : Dialect) (cs : List Constant) (x : Part) (word : List ℕ) (gs : List Goal) → MayBe d cs x → (k : Option Keyword) → keyword_named word ≡ k →
    Sound d cs (goal.Part x) (token.Word word) gs (operand_by d k gs)
sound_operand_by dialect.Condition cs x word gs may (Some keyword.Operands) e = indexed cs x word gs may e
sound_operand_by dialect.Test cs x word gs may (Some keyword.Op) e = one_token dialect.Test cs x (head.Operand 0) (token.Word word) gs (may _ _ (Is.tested word e refl))
sound_operand_by _ cs x word gs may _ e = tt

sound_operand : (d : Dialect) (cs : List Constant) (t : Token) (gs : List Goal) → Sound d cs (goal.Part part.Operand) t gs (takes_operand d t gs)
sound_operand d cs (token.Word word) gs = sound_operand_by d cs part.Operand word gs (λ a ts i. i) (keyword_named word) refl
sound_operand d cs (token.Number n) gs = tt
sound_operand d cs (token.Operator op) gs = tt
sound_operand d cs (token.Mark b) gs = tt
sound_operand d cs token.Bad gs = tt

sound_maker : (d : Dialect) (cs : List Constant) (word : List ℕ) (c : Call) (gs : List Goal) (t : Bool) → keyword_named word ≡ Some (keyword.Call c) → is_maker c ≡ t →
    Sound d cs (goal.Part part.Value) (token.Word word) gs (cond t (Some (call_then (signature_of c) (head.Call c) gs)) None)
sound_maker d cs word c gs false e f = tt
sound_maker d cs word c gs true e f =
    use_call d cs (signature_of c) (head.Call c) gs (λ b ts. Meets d cs (goal.Part part.Value ∷ gs) b (token.Word word ∷ ts)) (λ a b xs ts i n.
    moved (Meets d cs (goal.Part part.Value ∷ gs)) ((a ++ head.Call c ∷ []) ++ b) (a ++ head.Call c ∷ b) ((token.Word word ∷ token.Mark open_round ∷ (xs ++ token.Mark close_round ∷ [])) ++ ts) (token.Word word ∷ token.Mark open_round ∷ (xs ++ token.Mark close_round ∷ ts))
    (append_assoc a (head.Call c ∷ []) b) (ap (λ (x : List Token). token.Word word ∷ token.Mark open_round ∷ x) (append_assoc xs (token.Mark close_round ∷ []) ts))
    (Meets.first (goal.Part part.Value) gs (a ++ head.Call c ∷ []) b _ ts (Is.made word c a xs e f i) n))

sound_value_by : (d : Dialect) (cs : List Constant) (word : List ℕ) (gs : List Goal) (k : Option Keyword) → keyword_named word ≡ k → Sound d cs (goal.Part part.Value) (token.Word word) gs (value_by d k gs)
sound_value_by d cs word gs (Some (keyword.Call c)) e = sound_maker d cs word c gs (is_maker c) e refl
sound_value_by d cs word gs k e = sound_operand_by d cs part.Value word gs Is.value_operand k e

sound_value : (d : Dialect) (cs : List Constant) (t : Token) (gs : List Goal) → Sound d cs (goal.Part part.Value) t gs (takes_value d t gs)
sound_value d cs (token.Word word) gs = sound_value_by d cs word gs (keyword_named word) refl
sound_value d cs (token.Number n) gs = tt
sound_value d cs (token.Operator op) gs = tt
sound_value d cs (token.Mark b) gs = tt
sound_value d cs token.Bad gs = tt

pub sound_part : (d : Dialect) (cs : List Constant) (x : Part) (t : Token) (gs : List Goal) → Sound d cs (goal.Part x) t gs (takes_part d cs x t gs)
sound_part d cs (part.Expression p) t gs = sound_expression d cs p t gs
sound_part d cs part.Operand t gs = sound_operand d cs t gs
sound_part d cs part.Window t gs = sound_window d cs t gs
sound_part d cs part.AnyMode t gs = sound_any_mode d cs t gs
sound_part d cs part.ValueMode t gs = sound_value_mode d cs t gs
sound_part d cs part.Value t gs = sound_value d cs t gs

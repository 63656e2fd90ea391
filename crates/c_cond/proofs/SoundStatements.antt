-- What statements and the inner parts of a text take of it is in the grammar.
use Rattle.std.proofs.Common.{◌≡◌, ℕ, ◌^◌, nat_lt, Bool, true, false, cond, List, [], ◌∷◌, ◌++◌, Option, Some, None, refl, sym, ap, subst, ◌∙◌, append_assoc, ◌==◌, ◌⊎◌, inl, inr}
use Rattle.std.specs.Prelude.{option_map}
use Rattle.std.proofs.lemmas.Bool.{ltb-true, eqb-true}
use Rattle.rtx_tree.specs.declared.constants.Constant.{Constant}
use Rattle.c_words.specs.declared.head.Call.TheVariants as call
use Rattle.c_words.specs.declared.head.CondHead.{CondHead}
use Rattle.c_words.specs.declared.head.CondHead.TheVariants as head
use Rattle.c_words.specs.declared.keyword.Keyword.{Keyword}
use Rattle.c_words.specs.declared.keyword.Keyword.TheVariants as keyword
use Rattle.c_words.specs.declared.atom.Dialect.{Dialect}
use Rattle.c_words.specs.declared.atom.Property.{Property}
use Rattle.c_words.specs.declared.token.Token.{Token}
use Rattle.c_words.specs.declared.token.Token.TheVariants as token
use Rattle.c_cond.specs.declared.part.Part.TheVariants as part
use Rattle.c_cond.specs.declared.goal.Goal.{Goal}
use Rattle.c_cond.specs.declared.goal.Goal.TheVariants as goal
use Rattle.c_words.specs.Words.{keyword_named}
use Rattle.c_cond.specs.Grammar.{open_round, close_round, open_square, close_square, open_brace, close_brace, semicolon, becomes, expression, signature_of, comparison_of, comparison_with, One, Statement}
use Rattle.c_cond.specs.machine.Flat.{Is}
use Rattle.c_cond.specs.machine.Steps.{takes_comparison, takes_compared, takes_index, takes_target, call_then, if_then, ended, statement_by, takes_statement, takes_statements, else_by, takes_else}
use Rattle.c_cond.proofs.Meets.{is_else, begins_else, IsElse, IsNoElse, Meets, moved, use_first, use_yield, use_mark, use_call}
use Rattle.c_cond.proofs.Levels.{any_statement}
use Rattle.c_cond.proofs.SoundExpressions.{Sound}

-- ---- comparisons of a code or mode

sound_compared_by : (d : Dialect) (cs : List Constant) (property : Property) (equal : Bool) (word : List ℕ) (gs : List Goal) (h : Option CondHead) → comparison_with property equal word ≡ h →
    Sound d cs (goal.Compared property equal) (token.Word word) gs (option_map (λ h. goal.Yield h ∷ gs) h)
sound_compared_by d cs property equal word gs None e = tt
sound_compared_by d cs property equal word gs (Some h) e =
    use_yield d cs h gs (λ c ts. Meets d cs (goal.Compared property equal ∷ gs) c (token.Word word ∷ ts)) (λ c us m.
    Meets.first (goal.Compared property equal) gs (h ∷ []) c (token.Word word ∷ []) us (record { name = word; head = h; named = e; tree = refl; tokens = refl }) m)

pub sound_compared : (d : Dialect) (cs : List Constant) (property : Property) (equal : Bool) (t : Token) (gs : List Goal) → Sound d cs (goal.Compared property equal) t gs (takes_compared property equal t gs)
sound_compared d cs property equal (token.Word word) gs = sound_compared_by d cs property equal word gs (comparison_with property equal word) refl
sound_compared d cs property equal (token.Number n) gs = tt
sound_compared d cs property equal (token.Operator op) gs = tt
sound_compared d cs property equal (token.Mark b) gs = tt
sound_compared d cs property equal token.Bad gs = tt

pub sound_comparison : (d : Dialect) (cs : List Constant) (property : Property) (t : Token) (gs : List Goal) → Sound d cs (goal.Comparison property) t gs (takes_comparison property t gs)
sound_comparison d cs property t gs = by_sign (comparison_of t) refl
  where
    by_sign : (b : Option Bool) → comparison_of t ≡ b → Sound d cs (goal.Comparison property) t gs (option_map (λ equal. goal.Compared property equal ∷ gs) b)
    by_sign None e = tt
    by_sign (Some equal) e =
        use_first d cs (goal.Compared property equal) gs (λ c ts. Meets d cs (goal.Comparison property ∷ gs) c (t ∷ ts)) (λ a c ts us f m.
        Meets.first (goal.Comparison property) gs a c (t ∷ ts) us (record { sign = t; equal = equal; compares = e; rest = ts; compared = f; tokens = refl }) m)

-- ---- the number of an operand

sound_index_at : (d : Dialect) (cs : List Constant) (k : ℕ) (gs : List Goal) (t : Bool) → nat_lt k (2 ^ 32) ≡ t →
    Sound d cs goal.Index (token.Number k) gs (cond t (Some (goal.Yield (head.Operand k) ∷ goal.Mark close_square ∷ gs)) None)
sound_index_at d cs k gs false e = tt
sound_index_at d cs k gs true e =
    use_yield d cs (head.Operand k) (goal.Mark close_square ∷ gs) (λ c ts. Meets d cs (goal.Index ∷ gs) c (token.Number k ∷ ts)) (λ c us m.
    use_mark d cs close_square gs (λ c us. Meets d cs (goal.Index ∷ gs) (head.Operand k ∷ c) (token.Number k ∷ us)) (λ c us m.
    Meets.first goal.Index gs (head.Operand k ∷ []) c (token.Number k ∷ token.Mark close_square ∷ []) us (record { k = k; small = ltb-true k (2 ^ 32) e; tree = refl; tokens = refl }) m) c us m)

pub sound_index : (d : Dialect) (cs : List Constant) (t : Token) (gs : List Goal) → Sound d cs goal.Index t gs (takes_index t gs)
sound_index d cs (token.Number k) gs = sound_index_at d cs k gs (nat_lt k (2 ^ 32)) refl
sound_index d cs (token.Word word) gs = tt
sound_index d cs (token.Operator op) gs = tt
sound_index d cs (token.Mark b) gs = tt
sound_index d cs token.Bad gs = tt

sound_target_at : (d : Dialect) (cs : List Constant) (k : ℕ) (gs : List Goal) (t : Bool) → nat_lt k (2 ^ 32) ≡ t →
    Sound d cs goal.Target (token.Number k) gs (cond t (Some (goal.Mark close_square ∷ goal.Mark becomes ∷ goal.Part part.Value ∷ goal.Mark semicolon ∷ goal.Yield (head.Assign k) ∷ gs)) None)
sound_target_at d cs k gs false e = tt
sound_target_at d cs k gs true e =
    use_mark d cs close_square (goal.Mark becomes ∷ goal.Part part.Value ∷ goal.Mark semicolon ∷ goal.Yield (head.Assign k) ∷ gs) (λ c ts. Meets d cs (goal.Target ∷ gs) c (token.Number k ∷ ts)) (λ c us m.
    use_mark d cs becomes (goal.Part part.Value ∷ goal.Mark semicolon ∷ goal.Yield (head.Assign k) ∷ gs) (λ c ts. Meets d cs (goal.Target ∷ gs) c (token.Number k ∷ token.Mark close_square ∷ ts)) (λ c us m.
    use_first d cs (goal.Part part.Value) (goal.Mark semicolon ∷ goal.Yield (head.Assign k) ∷ gs) (λ c ts. Meets d cs (goal.Target ∷ gs) c (token.Number k ∷ token.Mark close_square ∷ token.Mark becomes ∷ ts)) (λ a c xs us i m.
    use_mark d cs semicolon (goal.Yield (head.Assign k) ∷ gs) (λ c ts. Meets d cs (goal.Target ∷ gs) (a ++ c) (token.Number k ∷ token.Mark close_square ∷ token.Mark becomes ∷ (xs ++ ts))) (λ c us m.
    use_yield d cs (head.Assign k) gs (λ c ts. Meets d cs (goal.Target ∷ gs) (a ++ c) (token.Number k ∷ token.Mark close_square ∷ token.Mark becomes ∷ (xs ++ token.Mark semicolon ∷ ts))) (λ c us m.
    moved (Meets d cs (goal.Target ∷ gs)) ((a ++ head.Assign k ∷ []) ++ c) (a ++ head.Assign k ∷ c)
    ((token.Number k ∷ token.Mark close_square ∷ token.Mark becomes ∷ (xs ++ token.Mark semicolon ∷ [])) ++ us) (token.Number k ∷ token.Mark close_square ∷ token.Mark becomes ∷ (xs ++ token.Mark semicolon ∷ us))
    (append_assoc a (head.Assign k ∷ []) c) (ap (λ (x : List Token). token.Number k ∷ token.Mark close_square ∷ token.Mark becomes ∷ x) (append_assoc xs (token.Mark semicolon ∷ []) us))
    (Meets.first goal.Target gs (a ++ head.Assign k ∷ []) c _ us (record { k = k; small = ltb-true k (2 ^ 32) e; value = a; text = xs; is = i; tree = refl; tokens = refl }) m)) c us m) c us m) c us m) c us m)

pub sound_target : (d : Dialect) (cs : List Constant) (t : Token) (gs : List Goal) → Sound d cs goal.Target t gs (takes_target t gs)
sound_target d cs (token.Number k) gs = sound_target_at d cs k gs (nat_lt k (2 ^ 32)) refl
sound_target d cs (token.Word word) gs = tt
sound_target d cs (token.Operator op) gs = tt
sound_target d cs (token.Mark b) gs = tt
sound_target d cs token.Bad gs = tt

-- ---- statements

-- a statement that stands here, however it goes on
stands : (d : Dialect) (cs : List Constant) (gs : List Goal) (a c : List CondHead) (ts us : List Token) → ((z : Bool) → Is d cs (Statement z) a ts) → Meets d cs gs c us → Meets d cs (goal.Statement ∷ gs) (a ++ c) (ts ++ us)
stands d cs gs a c ts us i m = Meets.first goal.Statement gs a c ts us (i (begins_else us)) m

sound_ended : (d : Dialect) (cs : List Constant) (h : CondHead) (t : Token) (gs : List Goal) → ((z : Bool) → Is d cs (Statement z) (h ∷ []) (t ∷ token.Mark semicolon ∷ [])) → Sound d cs goal.Statement t gs (ended h gs)
sound_ended d cs h t gs i =
    use_mark d cs semicolon (goal.Yield h ∷ gs) (λ c ts. Meets d cs (goal.Statement ∷ gs) c (t ∷ ts)) (λ c us m.
    use_yield d cs h gs (λ c us. Meets d cs (goal.Statement ∷ gs) c (t ∷ token.Mark semicolon ∷ us)) (λ c us m. stands d cs gs (h ∷ []) c (t ∷ token.Mark semicolon ∷ []) us i m) c us m)

sound_assign : (d : Dialect) (cs : List Constant) (word : List ℕ) (gs : List Goal) → keyword_named word ≡ Some keyword.Operands → Sound d cs goal.Statement (token.Word word) gs (Some (goal.Mark open_square ∷ goal.Target ∷ gs))
sound_assign d cs word gs e =
    use_mark d cs open_square (goal.Target ∷ gs) (λ c ts. Meets d cs (goal.Statement ∷ gs) c (token.Word word ∷ ts)) (λ c us m.
    use_first d cs goal.Target gs (λ c ts. Meets d cs (goal.Statement ∷ gs) c (token.Word word ∷ token.Mark open_square ∷ ts)) (λ a c xs us f m.
    stands d cs gs a c (token.Word word ∷ token.Mark open_square ∷ xs) us
    (λ z. moved (λ c ts. Is d cs (Statement z) c (token.Word word ∷ token.Mark open_square ∷ ts)) _ _ _ _ (sym f.tree) (sym f.tokens) (Is.assign z word f.k f.value f.text e f.small f.is)) m) c us m)

sound_move : (d : Dialect) (cs : List Constant) (word : List ℕ) (gs : List Goal) → keyword_named word ≡ Some (keyword.Call call.EmitMove) →
    Sound d cs goal.Statement (token.Word word) gs (Some (call_then (signature_of call.EmitMove) (head.Call call.EmitMove) (goal.Mark semicolon ∷ gs)))
sound_move d cs word gs e =
    use_call d cs (signature_of call.EmitMove) (head.Call call.EmitMove) (goal.Mark semicolon ∷ gs) (λ c ts. Meets d cs (goal.Statement ∷ gs) c (token.Word word ∷ ts)) (λ a c xs us i m.
    use_mark d cs semicolon gs (λ c us. Meets d cs (goal.Statement ∷ gs) (a ++ head.Call call.EmitMove ∷ c) (token.Word word ∷ token.Mark open_round ∷ (xs ++ token.Mark close_round ∷ us))) (λ c us m.
    moved (Meets d cs (goal.Statement ∷ gs)) ((a ++ head.Call call.EmitMove ∷ []) ++ c) (a ++ head.Call call.EmitMove ∷ c)
    ((token.Word word ∷ token.Mark open_round ∷ (xs ++ token.Mark close_round ∷ token.Mark semicolon ∷ [])) ++ us) (token.Word word ∷ token.Mark open_round ∷ (xs ++ token.Mark close_round ∷ token.Mark semicolon ∷ us))
    (append_assoc a (head.Call call.EmitMove ∷ []) c) (ap (λ (x : List Token). token.Word word ∷ token.Mark open_round ∷ x) (append_assoc xs (token.Mark close_round ∷ token.Mark semicolon ∷ []) us))
    (stands d cs gs (a ++ head.Call call.EmitMove ∷ []) c _ us (λ z. Is.move z word a xs e i) m)) c us m)

sound_block : (d : Dialect) (cs : List Constant) (gs : List Goal) → Sound d cs goal.Statement (token.Mark open_brace) gs (Some (goal.Statements ∷ goal.Mark close_brace ∷ gs))
sound_block d cs gs =
    use_first d cs goal.Statements (goal.Mark close_brace ∷ gs) (λ c ts. Meets d cs (goal.Statement ∷ gs) c (token.Mark open_brace ∷ ts)) (λ a c xs us i m.
    use_mark d cs close_brace gs (λ c us. Meets d cs (goal.Statement ∷ gs) (a ++ c) (token.Mark open_brace ∷ (xs ++ us))) (λ c us m.
    moved (Meets d cs (goal.Statement ∷ gs)) (a ++ c) (a ++ c) ((token.Mark open_brace ∷ (xs ++ token.Mark close_brace ∷ [])) ++ us) (token.Mark open_brace ∷ (xs ++ token.Mark close_brace ∷ us))
    refl (ap (λ (x : List Token). token.Mark open_brace ∷ x) (append_assoc xs (token.Mark close_brace ∷ []) us))
    (stands d cs gs a c _ us (λ z. Is.block z a xs i) m)) c us m)

-- a condition and a statement, and what stands then
abbrev Within : Dialect → List Constant → List Goal → List ℕ → List CondHead → List CondHead → List Token → List Token → List CondHead → List Token → Type 0
Within d cs gs word a b xs ys c us = Is d cs (Statement (begins_else us)) b ys → Meets d cs (goal.Statement ∷ gs) (a ++ (b ++ c)) (token.Word word ∷ token.Mark open_round ∷ (xs ++ token.Mark close_round ∷ (ys ++ us)))

without_else : (d : Dialect) (cs : List Constant) (word : List ℕ) (gs : List Goal) (a b f c : List CondHead) (xs ys zs us : List Token) → keyword_named word ≡ Some keyword.If →
    Is d cs (One expression) a xs → IsNoElse (begins_else us) f zs → Meets d cs gs c us → Within d cs gs word a b xs ys (f ++ c) (zs ++ us)
without_else d cs word gs a b f c xs ys zs us e i n m j =
    let k = subst (λ (x : List Token). Is d cs (Statement (begins_else (x ++ us))) b ys) n.tokens j in
    let s = Is.when word a b xs ys e i (subst (λ (z : Bool). Is d cs (Statement z) b ys) n.unclosed k) in
    moved (Meets d cs (goal.Statement ∷ gs)) ((a ++ (b ++ head.If ∷ [])) ++ c) (a ++ (b ++ (f ++ c)))
    ((token.Word word ∷ token.Mark open_round ∷ (xs ++ token.Mark close_round ∷ ys)) ++ us) (token.Word word ∷ token.Mark open_round ∷ (xs ++ token.Mark close_round ∷ (ys ++ (zs ++ us))))
    (append_assoc a (b ++ head.If ∷ []) c ∙ ap (λ (x : List CondHead). a ++ x) (append_assoc b (head.If ∷ []) c) ∙ ap (λ (x : List CondHead). a ++ (b ++ (x ++ c))) (sym n.tree))
    (ap (λ (x : List Token). token.Word word ∷ token.Mark open_round ∷ x) (append_assoc xs (token.Mark close_round ∷ ys) us) ∙ ap (λ (x : List Token). token.Word word ∷ token.Mark open_round ∷ (xs ++ token.Mark close_round ∷ (ys ++ (x ++ us)))) (sym n.tokens))
    (Meets.first goal.Statement gs (a ++ (b ++ head.If ∷ [])) c _ us (subst (λ (z : Bool). Is d cs (Statement z) (a ++ (b ++ head.If ∷ [])) (token.Word word ∷ token.Mark open_round ∷ (xs ++ token.Mark close_round ∷ ys))) (sym n.unclosed) s) m)

with_else : (d : Dialect) (cs : List Constant) (word : List ℕ) (gs : List Goal) (a b f c : List CondHead) (xs ys zs us : List Token) → keyword_named word ≡ Some keyword.If →
    Is d cs (One expression) a xs → IsElse d cs (begins_else us) f zs → Meets d cs gs c us → Within d cs gs word a b xs ys (f ++ c) (zs ++ us)
with_else d cs word gs a b f c xs ys zs us e i n m j =
    let k = subst (λ (x : List Token). Is d cs (Statement (begins_else (x ++ us))) b ys) n.tokens j in
    let l = subst (λ (o : Option Keyword). Is d cs (Statement (is_else o)) b ys) n.named k in
    let s = Is.when_else (begins_else us) word n.word a b n.statement xs ys n.text e n.named i l n.is in
    moved (Meets d cs (goal.Statement ∷ gs)) ((a ++ (b ++ (n.statement ++ head.IfElse ∷ []))) ++ c) (a ++ (b ++ (f ++ c)))
    ((token.Word word ∷ token.Mark open_round ∷ (xs ++ token.Mark close_round ∷ (ys ++ token.Word n.word ∷ n.text))) ++ us) (token.Word word ∷ token.Mark open_round ∷ (xs ++ token.Mark close_round ∷ (ys ++ (zs ++ us))))
    (append_assoc a (b ++ (n.statement ++ head.IfElse ∷ [])) c ∙ ap (λ (x : List CondHead). a ++ x) (append_assoc b (n.statement ++ head.IfElse ∷ []) c) ∙ ap (λ (x : List CondHead). a ++ (b ++ (x ++ c))) (sym n.tree))
    (ap (λ (x : List Token). token.Word word ∷ token.Mark open_round ∷ x) (append_assoc xs (token.Mark close_round ∷ (ys ++ token.Word n.word ∷ n.text)) us ∙ ap (λ (x : List Token). xs ++ token.Mark close_round ∷ x) (append_assoc ys (token.Word n.word ∷ n.text) us))
    ∙ ap (λ (x : List Token). token.Word word ∷ token.Mark open_round ∷ (xs ++ token.Mark close_round ∷ (ys ++ (x ++ us)))) (sym n.tokens))
    (Meets.first goal.Statement gs (a ++ (b ++ (n.statement ++ head.IfElse ∷ []))) c _ us s m)

either_way : (d : Dialect) (cs : List Constant) (word : List ℕ) (gs : List Goal) (a b f c : List CondHead) (xs ys zs us : List Token) → keyword_named word ≡ Some keyword.If →
    Is d cs (One expression) a xs → IsNoElse (begins_else us) f zs ⊎ IsElse d cs (begins_else us) f zs → Meets d cs gs c us → Within d cs gs word a b xs ys (f ++ c) (zs ++ us)
either_way d cs word gs a b f c xs ys zs us e i (inl n) m = without_else d cs word gs a b f c xs ys zs us e i n m
either_way d cs word gs a b f c xs ys zs us e i (inr n) m = with_else d cs word gs a b f c xs ys zs us e i n m

sound_if : (d : Dialect) (cs : List Constant) (word : List ℕ) (gs : List Goal) → keyword_named word ≡ Some keyword.If → Sound d cs goal.Statement (token.Word word) gs (if_then gs)
sound_if d cs word gs e =
    use_mark d cs open_round (goal.Part expression ∷ goal.Mark close_round ∷ goal.Statement ∷ goal.Else ∷ gs) (λ c ts. Meets d cs (goal.Statement ∷ gs) c (token.Word word ∷ ts)) (λ c us m.
    use_first d cs (goal.Part expression) (goal.Mark close_round ∷ goal.Statement ∷ goal.Else ∷ gs) (λ c ts. Meets d cs (goal.Statement ∷ gs) c (token.Word word ∷ token.Mark open_round ∷ ts)) (λ a c xs us i m.
    use_mark d cs close_round (goal.Statement ∷ goal.Else ∷ gs) (λ c ts. Meets d cs (goal.Statement ∷ gs) (a ++ c) (token.Word word ∷ token.Mark open_round ∷ (xs ++ ts))) (λ c us m.
    use_first d cs goal.Statement (goal.Else ∷ gs) (λ c ts. Meets d cs (goal.Statement ∷ gs) (a ++ c) (token.Word word ∷ token.Mark open_round ∷ (xs ++ token.Mark close_round ∷ ts))) (λ b c ys us j m.
    use_first d cs goal.Else gs (Within d cs gs word a b xs ys) (λ f c zs us n m. either_way d cs word gs a b f c xs ys zs us e i n m) c us m j) c us m) c us m) c us m)

sound_statement_by : (d : Dialect) (cs : List Constant) (word : List ℕ) (gs : List Goal) (k : Option Keyword) → keyword_named word ≡ k → Sound d cs goal.Statement (token.Word word) gs (statement_by k gs)
sound_statement_by d cs word gs (Some keyword.Operands) e = sound_assign d cs word gs e
sound_statement_by d cs word gs (Some keyword.If) e = sound_if d cs word gs e
sound_statement_by d cs word gs (Some keyword.Done) e = sound_ended d cs head.Done (token.Word word) gs (λ z. Is.done z word e)
sound_statement_by d cs word gs (Some keyword.Fail) e = sound_ended d cs head.Fail (token.Word word) gs (λ z. Is.fail z word e)
sound_statement_by d cs word gs (Some (keyword.Call call.EmitMove)) e = sound_move d cs word gs e
sound_statement_by d cs word gs _ e = tt

sound_brace : (d : Dialect) (cs : List Constant) (b : ℕ) (gs : List Goal) (t : Bool) → (b == open_brace) ≡ t → Sound d cs goal.Statement (token.Mark b) gs (cond t (Some (goal.Statements ∷ goal.Mark close_brace ∷ gs)) None)
sound_brace d cs b gs false e = tt
sound_brace d cs b gs true e = subst (λ (k : ℕ). Sound d cs goal.Statement (token.Mark k) gs (Some (goal.Statements ∷ goal.Mark close_brace ∷ gs))) (sym (eqb-true b open_brace e)) (sound_block d cs gs)

pub sound_statement : (d : Dialect) (cs : List Constant) (t : Token) (gs : List Goal) → Sound d cs goal.Statement t gs (takes_statement t gs)
sound_statement d cs (token.Word word) gs = sound_statement_by d cs word gs (keyword_named word) refl
sound_statement d cs (token.Mark b) gs = sound_brace d cs b gs (b == open_brace) refl
sound_statement d cs (token.Number n) gs = tt
sound_statement d cs (token.Operator op) gs = tt
sound_statement d cs token.Bad gs = tt

-- one statement, and those behind it
more_statements : (d : Dialect) (cs : List Constant) (gs : List Goal) (c : List CondHead) (ts : List Token) → Meets d cs (goal.Statement ∷ goal.Statements ∷ goal.Yield head.Then ∷ gs) c ts → Meets d cs (goal.Statements ∷ gs) c ts
more_statements d cs gs =
    use_first d cs goal.Statement (goal.Statements ∷ goal.Yield head.Then ∷ gs) (Meets d cs (goal.Statements ∷ gs)) (λ a c xs us i m.
    use_first d cs goal.Statements (goal.Yield head.Then ∷ gs) (λ c us. Meets d cs (goal.Statements ∷ gs) (a ++ c) (xs ++ us)) (λ b c ys vs j m.
    use_yield d cs head.Then gs (λ c vs. Meets d cs (goal.Statements ∷ gs) (a ++ (b ++ c)) (xs ++ (ys ++ vs))) (λ c vs m.
    moved (Meets d cs (goal.Statements ∷ gs)) ((a ++ (b ++ head.Then ∷ [])) ++ c) (a ++ (b ++ head.Then ∷ c)) ((xs ++ ys) ++ vs) (xs ++ (ys ++ vs))
    (append_assoc a (b ++ head.Then ∷ []) c ∙ ap (λ (x : List CondHead). a ++ x) (append_assoc b (head.Then ∷ []) c)) (append_assoc xs ys vs)
    (Meets.first goal.Statements gs (a ++ (b ++ head.Then ∷ [])) c (xs ++ ys) vs (Is.then a b xs ys (any_statement d cs (begins_else us) a xs i) j) m)) c vs m) c us m)

sound_more_statements : (d : Dialect) (cs : List Constant) (t : Token) (gs : List Goal) (o : Option (List Goal)) → Sound d cs goal.Statement t (goal.Statements ∷ goal.Yield head.Then ∷ gs) o → Sound d cs goal.Statements t gs o
sound_more_statements d cs t gs None h = tt
sound_more_statements d cs t gs (Some new) h = λ c ts m. more_statements d cs gs c (t ∷ ts) (h c ts m)

pub sound_statements : (d : Dialect) (cs : List Constant) (t : Token) (gs : List Goal) → Sound d cs goal.Statements t gs (takes_statements t gs)
sound_statements d cs t gs = sound_more_statements d cs t gs (takes_statements t gs) (sound_statement d cs t (goal.Statements ∷ goal.Yield head.Then ∷ gs))

-- ---- else

sound_else_by : (d : Dialect) (cs : List Constant) (word : List ℕ) (gs : List Goal) (k : Option Keyword) → keyword_named word ≡ k → Sound d cs goal.Else (token.Word word) gs (else_by k gs)
sound_else_by d cs word gs (Some keyword.Else) e =
    use_first d cs goal.Statement (goal.Yield head.IfElse ∷ gs) (λ c ts. Meets d cs (goal.Else ∷ gs) c (token.Word word ∷ ts)) (λ a c xs us i m.
    use_yield d cs head.IfElse gs (λ c us. Is d cs (Statement (begins_else us)) a xs → Meets d cs (goal.Else ∷ gs) (a ++ c) (token.Word word ∷ (xs ++ us))) (λ c us m i.
    moved (Meets d cs (goal.Else ∷ gs)) ((a ++ head.IfElse ∷ []) ++ c) (a ++ head.IfElse ∷ c) ((token.Word word ∷ xs) ++ us) (token.Word word ∷ (xs ++ us)) (append_assoc a (head.IfElse ∷ []) c) refl
    (Meets.first goal.Else gs (a ++ head.IfElse ∷ []) c (token.Word word ∷ xs) us (inr (record { word = word; named = e; statement = a; text = xs; is = i; tree = refl; tokens = refl })) m)) c us m i)
sound_else_by d cs word gs _ e = tt

pub sound_else : (d : Dialect) (cs : List Constant) (t : Token) (gs : List Goal) → Sound d cs goal.Else t gs (takes_else t gs)
sound_else d cs (token.Word word) gs = sound_else_by d cs word gs (keyword_named word) refl
sound_else d cs (token.Number n) gs = tt
sound_else d cs (token.Operator op) gs = tt
sound_else d cs (token.Mark b) gs = tt
sound_else d cs token.Bad gs = tt

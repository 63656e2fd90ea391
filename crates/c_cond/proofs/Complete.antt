-- What is in the grammar is read, as the tree that the grammar gives it.
use Rattle.std.proofs.Common.{◌≡◌, ℕ, ◌+◌, ◌<◌, ◌≤◌, ◌^◌, nat_le, nat_lt, Bool, true, false, List, [], ◌∷◌, ◌++◌, Some, None, refl, sym, ap, ◌∙◌, append_assoc, arith, ◌==◌}
use Rattle.std.proofs.lemmas.List.{append-nil}
use Rattle.std.proofs.lemmas.Bool.{le-leb, lt-ltb}
use Rattle.rtx_tree.specs.declared.constants.Constant.{Constant}
use Rattle.c_words.specs.declared.head.Binary.{Binary}
use Rattle.c_words.specs.declared.head.CondHead.{CondHead}
use Rattle.c_words.specs.declared.head.CondHead.TheVariants as head
use Rattle.c_words.specs.declared.keyword.Keyword.TheVariants as keyword
use Rattle.c_words.specs.declared.atom.Dialect.{Dialect}
use Rattle.c_words.specs.declared.atom.Dialect.TheVariants as dialect
use Rattle.c_words.specs.declared.atom.Property.{Property}
use Rattle.c_words.specs.declared.token.Token.{Token}
use Rattle.c_words.specs.declared.token.Token.TheVariants as token
use Rattle.c_cond.specs.declared.part.Part.{Part}
use Rattle.c_cond.specs.declared.part.Part.TheVariants as part
use Rattle.c_cond.specs.declared.goal.Goal.{Goal}
use Rattle.c_cond.specs.declared.goal.Goal.TheVariants as goal
use Rattle.c_words.specs.Words.{keyword_named}
use Rattle.c_words.specs.declared.head.Unary.{Unary}
use Rattle.c_cond.specs.declared.part.Signature.{Signature}
use Rattle.c_cond.specs.declared.part.Signature.TheVariants as signature
use Rattle.c_words.specs.declared.atom.Atom.TheVariants as atom
use Rattle.c_words.specs.Atoms.{atom_of}
use Rattle.c_cond.specs.Grammar.{open_round, close_round, open_square, close_square, comma, colon, semicolon, becomes, question, level, equality, unary_level, unary_of, expression, comparison_of, comparison_with, Parts}
use Rattle.c_cond.specs.machine.Steps.{takes, takes_more, compare_then, parts_then, call_then, more}
use Rattle.c_cond.proofs.Making.{R, First, first_map, first_all, take, same_more, recode, retoken, yield, more_over, Allowed, level_small, allowed_same, allowed_none, allowed_up, allowed_all, allowed_zero, place, PartReads, Reads}

pub false_true : {A : Type 0} → false ≡ true → A
false_true e = absurd (apart e)
  where
    apart : false ≡ true → ⊥
    apart e = cc

mark_allowed : (b l : ℕ) → (b == question) ≡ false → Allowed l (token.Mark b)
mark_allowed b l n e = false_true (sym n ∙ e)

mark_none : (b p q : ℕ) (gs : List Goal) → (b == question) ≡ false → takes_more p q (token.Mark b) gs ≡ None
mark_none b p q gs n = rw n refl

-- ---- parts

-- a part before a mark that is no question mark
pub part_then : (d : Dialect) (cs : List Constant) (x : Part) (a : List CondHead) (ts : List Token) → PartReads d cs x a ts → (code : List CondHead) (gs : List Goal) (b : ℕ) (us : List Token) → (b == question) ≡ false →
    R d cs code (goal.Part x ∷ gs) (ts ++ token.Mark b ∷ us) ≡ R d cs (code ++ a) gs (token.Mark b ∷ us)
part_then d cs (part.Expression l) a ts h code gs b us n =
    h l (omega arith) (goal.Part (part.Expression l)) gs gs (λ t. refl) code (token.Mark b ∷ us) (mark_allowed b l n)
    ∙ more_over d cs (code ++ a) l l gs (token.Mark b ∷ us) (mark_none b l l gs n)
part_then d cs part.Operand a ts h code gs b us n = h false code gs (token.Mark b ∷ us)
part_then d cs part.Window a ts h code gs b us n = h code gs (token.Mark b ∷ us)
part_then d cs part.AnyMode a ts h code gs b us n = h code gs (token.Mark b ∷ us)
part_then d cs part.ValueMode a ts h code gs b us n = h code gs (token.Mark b ∷ us)
part_then d cs part.Value a ts h code gs b us n = h code gs (token.Mark b ∷ us)

pub no_parts : (d : Dialect) (cs : List Constant) → Reads d cs (Parts signature.None) [] []
no_parts d cs code gs us = take d cs code (goal.Mark close_round) gs gs (token.Mark close_round) us refl ∙ recode d cs code (code ++ []) gs us (sym (append-nil code))

pub one_part : (d : Dialect) (cs : List Constant) (x : Part) (a : List CondHead) (ts : List Token) → PartReads d cs x a ts → Reads d cs (Parts (signature.One x)) a ts
one_part d cs x a ts h code gs us =
    part_then d cs x a ts h code (goal.Mark close_round ∷ gs) close_round us refl ∙ take d cs (code ++ a) (goal.Mark close_round) gs gs (token.Mark close_round) us refl

-- a part, a comma, and parts
then_parts : (d : Dialect) (cs : List Constant) (x : Part) (a b : List CondHead) (ts us : List Token) (behind : List Goal → List Goal) → PartReads d cs x a ts →
    ((code : List CondHead) (gs : List Goal) (vs : List Token) → R d cs code (behind gs) (us ++ token.Mark close_round ∷ vs) ≡ R d cs (code ++ b) gs vs) →
    (code : List CondHead) (gs : List Goal) (vs : List Token) → R d cs code (goal.Part x ∷ goal.Mark comma ∷ behind gs) ((ts ++ token.Mark comma ∷ us) ++ token.Mark close_round ∷ vs) ≡ R d cs (code ++ (a ++ b)) gs vs
then_parts d cs x a b ts us behind h k code gs vs =
    retoken d cs code _ _ _ (append_assoc ts (token.Mark comma ∷ us) (token.Mark close_round ∷ vs))
    ∙ part_then d cs x a ts h code (goal.Mark comma ∷ behind gs) comma (us ++ token.Mark close_round ∷ vs) refl
    ∙ take d cs (code ++ a) (goal.Mark comma) (behind gs) (behind gs) (token.Mark comma) (us ++ token.Mark close_round ∷ vs) refl
    ∙ k (code ++ a) gs vs
    ∙ recode d cs ((code ++ a) ++ b) (code ++ (a ++ b)) gs vs (append_assoc code a b)

pub two_parts : (d : Dialect) (cs : List Constant) (x y : Part) (a b : List CondHead) (ts us : List Token) → PartReads d cs x a ts → PartReads d cs y b us → Reads d cs (Parts (signature.Two x y)) (a ++ b) (ts ++ token.Mark comma ∷ us)
two_parts d cs x y a b ts us h k = then_parts d cs x a b ts us (λ gs. parts_then (signature.One y) (goal.Mark close_round ∷ gs)) h (one_part d cs y b us k)

pub three_parts : (d : Dialect) (cs : List Constant) (x y z : Part) (a b c : List CondHead) (ts us vs : List Token) → PartReads d cs x a ts → PartReads d cs y b us → PartReads d cs z c vs →
    Reads d cs (Parts (signature.Three x y z)) (a ++ (b ++ c)) (ts ++ (token.Mark comma ∷ us ++ token.Mark comma ∷ vs))
three_parts d cs x y z a b c ts us vs h k l = then_parts d cs x a (b ++ c) ts (us ++ token.Mark comma ∷ vs) (λ gs. parts_then (signature.Two y z) (goal.Mark close_round ∷ gs)) h (two_parts d cs y z b c us vs k l)

-- parts in parentheses, and what they are parts of
pub call_reads : (d : Dialect) (cs : List Constant) (parts : Signature) (h : CondHead) (a : List CondHead) (ts : List Token) → Reads d cs (Parts parts) a ts → (code : List CondHead) (gs : List Goal) (us : List Token) →
    R d cs code (call_then parts h gs) (token.Mark open_round ∷ (ts ++ token.Mark close_round ∷ us)) ≡ R d cs (code ++ (a ++ h ∷ [])) gs us
call_reads d cs parts h a ts k code gs us =
    take d cs code (goal.Mark open_round) (parts_then parts (goal.Mark close_round ∷ goal.Yield h ∷ gs)) _ (token.Mark open_round) (ts ++ token.Mark close_round ∷ us) refl
    ∙ k code (goal.Yield h ∷ gs) us
    ∙ yield d cs (code ++ a) h gs us
    ∙ recode d cs ((code ++ a) ++ h ∷ []) (code ++ (a ++ h ∷ [])) gs us (append_assoc code a (h ∷ []))

-- a token that is a part by itself
pub token_reads : (d : Dialect) (cs : List Constant) (x : Part) (h : CondHead) (t : Token) (gs : List Goal) → takes d cs (goal.Part x) t gs ≡ Some (goal.Yield h ∷ gs) → (code : List CondHead) (us : List Token) →
    R d cs code (goal.Part x ∷ gs) (t ∷ us) ≡ R d cs (code ++ h ∷ []) gs us
token_reads d cs x h t gs e code us = take d cs code (goal.Part x) gs (goal.Yield h ∷ gs) t us e ∙ yield d cs code h gs us

-- ---- operands

takes_index_is : (k : ℕ) (d : Dialect) (cs : List Constant) (gs : List Goal) → k < 2 ^ 32 → takes d cs goal.Index (token.Number k) gs ≡ Some (goal.Yield (head.Operand k) ∷ goal.Mark close_square ∷ gs)
takes_index_is k d cs gs h = let e : nat_lt k (2 ^ 32) ≡ true = lt-ltb k (2 ^ 32) h in rw e refl

pub takes_target_is : (k : ℕ) (d : Dialect) (cs : List Constant) (gs : List Goal) → k < 2 ^ 32 →
    takes d cs goal.Target (token.Number k) gs ≡ Some (goal.Mark close_square ∷ goal.Mark becomes ∷ goal.Part part.Value ∷ goal.Mark semicolon ∷ goal.Yield (head.Assign k) ∷ gs)
takes_target_is k d cs gs h = let e : nat_lt k (2 ^ 32) ≡ true = lt-ltb k (2 ^ 32) h in rw e refl

pub takes_operands : (d : Dialect) (cs : List Constant) (v : Bool) (word : List ℕ) (gs : List Goal) → keyword_named word ≡ Some keyword.Operands → d ≡ dialect.Condition →
    takes d cs (goal.Part (place v)) (token.Word word) gs ≡ Some (goal.Mark open_square ∷ goal.Index ∷ gs)
takes_operands d cs true word gs e f = rw (e, f) refl
takes_operands d cs false word gs e f = rw (e, f) refl

pub takes_tested : (d : Dialect) (cs : List Constant) (v : Bool) (word : List ℕ) (gs : List Goal) → keyword_named word ≡ Some keyword.Op → d ≡ dialect.Test →
    takes d cs (goal.Part (place v)) (token.Word word) gs ≡ Some (goal.Yield (head.Operand 0) ∷ gs)
takes_tested d cs true word gs e f = rw (e, f) refl
takes_tested d cs false word gs e f = rw (e, f) refl

pub operand_reads : (d : Dialect) (cs : List Constant) (word : List ℕ) (k : ℕ) → keyword_named word ≡ Some keyword.Operands → d ≡ dialect.Condition → k < 2 ^ 32 →
    PartReads d cs part.Operand (head.Operand k ∷ []) (token.Word word ∷ token.Mark open_square ∷ token.Number k ∷ token.Mark close_square ∷ [])
operand_reads d cs word k e f small v code gs us =
    take d cs code (goal.Part (place v)) gs (goal.Mark open_square ∷ goal.Index ∷ gs) (token.Word word) (token.Mark open_square ∷ token.Number k ∷ token.Mark close_square ∷ us) (takes_operands d cs v word gs e f)
    ∙ take d cs code (goal.Mark open_square) (goal.Index ∷ gs) (goal.Index ∷ gs) (token.Mark open_square) (token.Number k ∷ token.Mark close_square ∷ us) refl
    ∙ take d cs code goal.Index gs (goal.Yield (head.Operand k) ∷ goal.Mark close_square ∷ gs) (token.Number k) (token.Mark close_square ∷ us) (takes_index_is k d cs gs small)
    ∙ yield d cs code (head.Operand k) (goal.Mark close_square ∷ gs) (token.Mark close_square ∷ us)
    ∙ take d cs (code ++ head.Operand k ∷ []) (goal.Mark close_square) gs gs (token.Mark close_square) us refl

-- ---- expressions

-- what may go on an expression of level p may go on one of level l, where the token is allowed
narrow : (d : Dialect) (cs : List Constant) (code : List CondHead) (p q l : ℕ) (gs : List Goal) (us : List Token) → l ≤ q → First (Allowed l) us → R d cs code (goal.More p q ∷ gs) us ≡ R d cs code (goal.More p l ∷ gs) us
narrow d cs code p q l gs us le ok = same_more d cs code p q l gs us (first_map (Allowed l) (λ t. takes_more p q t gs ≡ takes_more p l t gs) (λ t a. allowed_same p q l t gs (allowed_up l q t le a) a) us ok)

narrow_all : (d : Dialect) (cs : List Constant) (code : List CondHead) (p l : ℕ) (gs : List Goal) (us : List Token) → First (Allowed l) us → R d cs code (more p gs) us ≡ R d cs code (goal.More p l ∷ gs) us
narrow_all d cs code p l gs us ok = same_more d cs code p unary_level l gs us (first_map (Allowed l) (λ t. takes_more p unary_level t gs ≡ takes_more p l t gs) (λ t a. allowed_same p unary_level l t gs (allowed_all t) a) us ok)

pub leaf_reads : (d : Dialect) (cs : List Constant) (p l : ℕ) (h : CondHead) (t : Token) (g : Goal) (from gs : List Goal) → takes d cs g t from ≡ Some (goal.Yield h ∷ more p gs) →
    (code : List CondHead) (us : List Token) → First (Allowed l) us → R d cs code (g ∷ from) (t ∷ us) ≡ R d cs (code ++ h ∷ []) (goal.More p l ∷ gs) us
leaf_reads d cs p l h t g from gs e code us ok =
    take d cs code g from (goal.Yield h ∷ more p gs) t us e ∙ yield d cs code h (more p gs) us ∙ narrow_all d cs (code ++ h ∷ []) p l gs us ok

pub asked_reads : (d : Dialect) (cs : List Constant) (p l : ℕ) (word : List ℕ) (parts : Signature) (h : CondHead) (a : List CondHead) (ts : List Token) (g : Goal) (from gs : List Goal) →
    takes d cs g (token.Word word) from ≡ Some (call_then parts h (more p gs)) → Reads d cs (Parts parts) a ts →
    (code : List CondHead) (us : List Token) → First (Allowed l) us → R d cs code (g ∷ from) (token.Word word ∷ token.Mark open_round ∷ ((ts ++ token.Mark close_round ∷ []) ++ us)) ≡ R d cs (code ++ (a ++ h ∷ [])) (goal.More p l ∷ gs) us
asked_reads d cs p l word parts h a ts g from gs e k code us ok =
    take d cs code g from (call_then parts h (more p gs)) (token.Word word) _ e
    ∙ retoken d cs code _ _ _ (ap (λ (x : List Token). token.Mark open_round ∷ x) (append_assoc ts (token.Mark close_round ∷ []) us))
    ∙ call_reads d cs parts h a ts k code (more p gs) us
    ∙ narrow_all d cs (code ++ (a ++ h ∷ [])) p l gs us ok

pub compare_reads : (d : Dialect) (cs : List Constant) (l : ℕ) (word name : List ℕ) (property : Property) (sign : Token) (equal : Bool) (h : CondHead) (a : List CondHead) (ts : List Token) →
    l ≤ equality → atom_of d cs word ≡ atom.Compare property → PartReads d cs part.Operand a ts → comparison_of sign ≡ Some equal → comparison_with property equal name ≡ Some h →
    PartReads d cs (part.Expression l) (a ++ h ∷ []) (token.Word word ∷ token.Mark open_round ∷ (ts ++ token.Mark close_round ∷ sign ∷ token.Word name ∷ []))
compare_reads d cs l word name property sign equal h a ts small e k s n p le g from gs like code us ok =
    let low : nat_le p equality ≡ true = le-leb p equality (omega arith) in
    let first : takes d cs g (token.Word word) from ≡ Some (compare_then p property gs) = like (token.Word word) ∙ rw (e, low) refl in
    let rest : List Goal = goal.Comparison property ∷ goal.More p equality ∷ gs in
    let vs : List Token = sign ∷ token.Word name ∷ us in
    take d cs code g from (compare_then p property gs) (token.Word word) _ first
    ∙ take d cs code (goal.Mark open_round) (goal.Part part.Operand ∷ goal.Mark close_round ∷ rest) _ (token.Mark open_round) _ refl
    ∙ retoken d cs code _ _ _ (append_assoc ts (token.Mark close_round ∷ sign ∷ token.Word name ∷ []) us)
    ∙ k false code (goal.Mark close_round ∷ rest) (token.Mark close_round ∷ vs)
    ∙ take d cs (code ++ a) (goal.Mark close_round) rest rest (token.Mark close_round) vs refl
    ∙ take d cs (code ++ a) (goal.Comparison property) (goal.More p equality ∷ gs) (goal.Compared property equal ∷ goal.More p equality ∷ gs) sign (token.Word name ∷ us) (rw s refl)
    ∙ take d cs (code ++ a) (goal.Compared property equal) (goal.More p equality ∷ gs) (goal.Yield h ∷ goal.More p equality ∷ gs) (token.Word name) us (rw n refl)
    ∙ yield d cs (code ++ a) h (goal.More p equality ∷ gs) us
    ∙ recode d cs ((code ++ a) ++ h ∷ []) (code ++ (a ++ h ∷ [])) (goal.More p equality ∷ gs) us (append_assoc code a (h ∷ []))
    ∙ narrow d cs (code ++ (a ++ h ∷ [])) p equality l gs us small ok

pub parens_reads : (d : Dialect) (cs : List Constant) (l : ℕ) (a : List CondHead) (ts : List Token) → PartReads d cs expression a ts → PartReads d cs (part.Expression l) a (token.Mark open_round ∷ (ts ++ token.Mark close_round ∷ []))
parens_reads d cs l a ts k p le g from gs like code us ok =
    take d cs code g from (goal.Part expression ∷ goal.Mark close_round ∷ more p gs) (token.Mark open_round) _ (like (token.Mark open_round))
    ∙ retoken d cs code _ _ _ (append_assoc ts (token.Mark close_round ∷ []) us)
    ∙ part_then d cs expression a ts k code (goal.Mark close_round ∷ more p gs) close_round us refl
    ∙ take d cs (code ++ a) (goal.Mark close_round) (more p gs) (more p gs) (token.Mark close_round) us refl
    ∙ narrow_all d cs (code ++ a) p l gs us ok

pub before_reads : (d : Dialect) (cs : List Constant) (l : ℕ) (sign : Token) (u : Unary) (a : List CondHead) (ts : List Token) → unary_of sign ≡ Some u → PartReads d cs (part.Expression unary_level) a ts →
    PartReads d cs (part.Expression l) (a ++ head.Unary u ∷ []) (sign ∷ ts)
before_reads d cs l sign u a ts e k p le g from gs like code us ok =
    let next_goals : List Goal = goal.Yield (head.Unary u) ∷ more p gs in
    take d cs code g from (goal.Part (part.Expression unary_level) ∷ next_goals) sign (ts ++ us) (like sign ∙ rw e refl)
    ∙ k unary_level (omega arith) (goal.Part (part.Expression unary_level)) next_goals next_goals (λ t. refl) code us (first_all (Allowed unary_level) allowed_all us)
    ∙ more_over d cs (code ++ a) unary_level unary_level next_goals us (first_all (λ t. takes_more unary_level unary_level t next_goals ≡ None) (unary_none next_goals) us)
    ∙ yield d cs (code ++ a) (head.Unary u) (more p gs) us
    ∙ recode d cs ((code ++ a) ++ head.Unary u ∷ []) (code ++ (a ++ head.Unary u ∷ [])) (more p gs) us (append_assoc code a (head.Unary u ∷ []))
    ∙ narrow_all d cs (code ++ (a ++ head.Unary u ∷ [])) p l gs us ok
  where
    ten : (t : Token) → Allowed 10 t
    ten (token.Operator op) = level_small op
    ten (token.Mark b) = λ e. omega arith
    ten (token.Number n) = tt
    ten (token.Word word) = tt
    ten token.Bad = tt

    unary_none : (gs : List Goal) (t : Token) → takes_more unary_level unary_level t gs ≡ None
    unary_none gs t = allowed_none unary_level unary_level 10 t gs (omega arith) (ten t)

takes_operator_is : (p : ℕ) (op : Binary) (gs : List Goal) → p ≤ level op →
    takes_more p (level op) (token.Operator op) gs ≡ Some (goal.Part (part.Expression (level op + 1)) ∷ goal.Yield (head.Binary op) ∷ goal.More p (level op) ∷ gs)
takes_operator_is p op gs le =
    let e : nat_le p (level op) ≡ true = le-leb p (level op) le in
    let f : nat_le (level op) (level op) ≡ true = le-leb (level op) (level op) (omega arith) in
    rw (e, f) refl

pub between_reads : (d : Dialect) (cs : List Constant) (l : ℕ) (op : Binary) (a b : List CondHead) (ts us : List Token) → l ≤ level op → PartReads d cs (part.Expression (level op)) a ts → PartReads d cs (part.Expression (level op + 1)) b us →
    PartReads d cs (part.Expression l) (a ++ (b ++ head.Binary op ∷ [])) (ts ++ token.Operator op ∷ us)
between_reads d cs l op a b ts us lo h k p le g from gs like code vs ok =
    let low : p ≤ level op = omega arith in
    let last : List Goal = goal.Yield (head.Binary op) ∷ goal.More p (level op) ∷ gs in
    retoken d cs code _ _ _ (append_assoc ts (token.Operator op ∷ us) vs)
    ∙ h p low g from gs like code (token.Operator op ∷ (us ++ vs)) (omega arith)
    ∙ take d cs (code ++ a) (goal.More p (level op)) gs (goal.Part (part.Expression (level op + 1)) ∷ last) (token.Operator op) (us ++ vs) (takes_operator_is p op gs low)
    ∙ k (level op + 1) (omega arith) (goal.Part (part.Expression (level op + 1))) last last (λ t. refl) (code ++ a) vs (first_map (Allowed l) (Allowed (level op + 1)) (λ t x. allowed_up l (level op + 1) t (omega arith) x) vs ok)
    ∙ more_over d cs ((code ++ a) ++ b) (level op + 1) (level op + 1) last vs (first_map (Allowed l) (λ t. takes_more (level op + 1) (level op + 1) t last ≡ None) (λ t x. allowed_none (level op + 1) (level op + 1) l t last (omega arith) x) vs ok)
    ∙ yield d cs ((code ++ a) ++ b) (head.Binary op) (goal.More p (level op) ∷ gs) vs
    ∙ recode d cs (((code ++ a) ++ b) ++ head.Binary op ∷ []) (code ++ (a ++ (b ++ head.Binary op ∷ []))) (goal.More p (level op) ∷ gs) vs (append_assoc (code ++ a) b (head.Binary op ∷ []) ∙ append_assoc code a (b ++ head.Binary op ∷ []))
    ∙ narrow d cs (code ++ (a ++ (b ++ head.Binary op ∷ []))) p (level op) l gs vs lo ok

pub choice_reads : (d : Dialect) (cs : List Constant) (a b c : List CondHead) (ts us vs : List Token) → PartReads d cs (part.Expression 1) a ts → PartReads d cs expression b us → PartReads d cs expression c vs →
    PartReads d cs expression (a ++ (b ++ (c ++ head.Choose ∷ []))) (ts ++ (token.Mark question ∷ us ++ token.Mark colon ∷ vs))
choice_reads d cs a b c ts us vs h k m p le g from gs like code ws ok =
    let low : nat_le p 0 ≡ true = le-leb p 0 le in
    let last : List Goal = goal.Yield head.Choose ∷ gs in
    retoken d cs code _ _ _ (append_assoc ts (token.Mark question ∷ (us ++ token.Mark colon ∷ vs)) ws ∙ ap (λ (x : List Token). ts ++ token.Mark question ∷ x) (append_assoc us (token.Mark colon ∷ vs) ws))
    ∙ h p (omega arith) g from gs like code (token.Mark question ∷ (us ++ token.Mark colon ∷ (vs ++ ws))) (λ e. omega arith)
    ∙ take d cs (code ++ a) (goal.More p 1) gs (goal.Part expression ∷ goal.Mark colon ∷ goal.Part expression ∷ last) (token.Mark question) (us ++ token.Mark colon ∷ (vs ++ ws)) (rw low refl)
    ∙ part_then d cs expression b us k (code ++ a) (goal.Mark colon ∷ goal.Part expression ∷ last) colon (vs ++ ws) refl
    ∙ take d cs ((code ++ a) ++ b) (goal.Mark colon) (goal.Part expression ∷ last) (goal.Part expression ∷ last) (token.Mark colon) (vs ++ ws) refl
    ∙ m 0 (omega arith) (goal.Part expression) last last (λ t. refl) ((code ++ a) ++ b) ws ok
    ∙ more_over d cs (((code ++ a) ++ b) ++ c) 0 0 last ws (first_map (Allowed 0) (λ t. takes_more 0 0 t last ≡ None) (λ t x. allowed_zero 0 t last x) ws ok)
    ∙ yield d cs (((code ++ a) ++ b) ++ c) head.Choose gs ws
    ∙ recode d cs ((((code ++ a) ++ b) ++ c) ++ head.Choose ∷ []) (code ++ (a ++ (b ++ (c ++ head.Choose ∷ [])))) gs ws
    (append_assoc ((code ++ a) ++ b) c (head.Choose ∷ []) ∙ append_assoc (code ++ a) b (c ++ head.Choose ∷ []) ∙ append_assoc code a (b ++ (c ++ head.Choose ∷ [])))
    ∙ sym (more_over d cs (code ++ (a ++ (b ++ (c ++ head.Choose ∷ [])))) p 0 gs ws (first_map (Allowed 0) (λ t. takes_more p 0 t gs ≡ None) (λ t x. allowed_zero p t gs x) ws ok))

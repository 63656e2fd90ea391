-- Statements of the grammar are read, and so is whatever the grammar has.
use Rattle.std.proofs.Common.{◌≡◌, ℕ, ◌+◌, ◌<◌, ◌^◌, Bool, true, false, List, [], ◌∷◌, ◌++◌, Option, Some, None, refl, sym, ap, subst, ◌∙◌, append_assoc, arith}
use Rattle.std.specs.Prelude.{pos}
use Rattle.std.proofs.lemmas.List.{append-nil}
use Rattle.bits64.specs.Words.{signed}
use Rattle.bits64.specs.declared.Width.TheVariants.{W64}
use Rattle.rtx_tree.specs.declared.constants.Constant.{Constant}
use Rattle.c_words.specs.declared.head.Call.{Call}
use Rattle.c_words.specs.declared.head.Call.TheVariants as call
use Rattle.c_words.specs.declared.head.CondHead.{CondHead}
use Rattle.c_words.specs.declared.head.CondHead.TheVariants as head
use Rattle.c_words.specs.declared.keyword.Keyword.{Keyword}
use Rattle.c_words.specs.declared.keyword.Keyword.TheVariants as keyword
use Rattle.c_words.specs.declared.atom.Dialect.{Dialect}
use Rattle.c_words.specs.declared.token.Token.{Token}
use Rattle.c_words.specs.declared.token.Token.TheVariants as token
use Rattle.c_cond.specs.declared.part.Part.TheVariants as part
use Rattle.c_cond.specs.declared.goal.Goal.{Goal}
use Rattle.c_cond.specs.declared.goal.Goal.TheVariants as goal
use Rattle.c_words.specs.Words.{keyword_named}
use Rattle.c_cond.specs.Grammar.{open_round, close_round, open_square, close_square, open_brace, close_brace, semicolon, becomes, level, unary_level, expression, signature_of, predicate_parts, is_maker, One, Parts, Statement, Statements, Condition, Sort}
use Rattle.c_cond.specs.machine.Flat.{Is}
use Rattle.c_cond.specs.machine.Steps.{takes, takes_statement, takes_else, else_by, by_atom, call_then, mode_then, run}
use Rattle.c_cond.proofs.Meets.{is_else, is_else_token}
use Rattle.c_cond.proofs.Making.{R, First, first_map, take, pass_over, recode, retoken, yield, more_over, place, NotElse, EndsStatements, Like, PartReads, Reads}
use Rattle.c_cond.proofs.Complete.{false_true, part_then, no_parts, one_part, two_parts, three_parts, call_reads, token_reads, takes_target_is, takes_tested, operand_reads, leaf_reads, asked_reads, compare_reads, parens_reads, before_reads, between_reads, choice_reads}

made_reads : (d : Dialect) (cs : List Constant) (word : List ℕ) (c : Call) (a : List CondHead) (ts : List Token) → keyword_named word ≡ Some (keyword.Call c) → is_maker c ≡ true → Reads d cs (Parts (signature_of c)) a ts →
    PartReads d cs part.Value (a ++ head.Call c ∷ []) (token.Word word ∷ token.Mark open_round ∷ (ts ++ token.Mark close_round ∷ []))
made_reads d cs word c a ts e f k code gs us =
    take d cs code (goal.Part part.Value) gs (call_then (signature_of c) (head.Call c) gs) (token.Word word) _ (rw (e, f) refl)
    ∙ retoken d cs code _ _ _ (ap (λ (x : List Token). token.Mark open_round ∷ x) (append_assoc ts (token.Mark close_round ∷ []) us))
    ∙ call_reads d cs (signature_of c) (head.Call c) a ts k code gs us

-- ---- statements

assign_reads : (d : Dialect) (cs : List Constant) (closed : Bool) (word : List ℕ) (k : ℕ) (a : List CondHead) (ts : List Token) → keyword_named word ≡ Some keyword.Operands → k < 2 ^ 32 → PartReads d cs part.Value a ts →
    Reads d cs (Statement closed) (a ++ head.Assign k ∷ []) (token.Word word ∷ token.Mark open_square ∷ token.Number k ∷ token.Mark close_square ∷ token.Mark becomes ∷ (ts ++ token.Mark semicolon ∷ []))
assign_reads d cs closed word k a ts e small h g from gs like code us ok =
    let last : List Goal = goal.Mark semicolon ∷ goal.Yield (head.Assign k) ∷ gs in
    let whole : List Goal = goal.Mark close_square ∷ goal.Mark becomes ∷ goal.Part part.Value ∷ last in
    take d cs code g from (goal.Mark open_square ∷ goal.Target ∷ gs) (token.Word word) _ (like (token.Word word) ∙ rw e refl)
    ∙ take d cs code (goal.Mark open_square) (goal.Target ∷ gs) (goal.Target ∷ gs) (token.Mark open_square) _ refl
    ∙ take d cs code goal.Target gs whole (token.Number k) _ (takes_target_is k d cs gs small)
    ∙ take d cs code (goal.Mark close_square) (goal.Mark becomes ∷ goal.Part part.Value ∷ last) _ (token.Mark close_square) _ refl
    ∙ take d cs code (goal.Mark becomes) (goal.Part part.Value ∷ last) _ (token.Mark becomes) _ refl
    ∙ retoken d cs code _ _ _ (append_assoc ts (token.Mark semicolon ∷ []) us)
    ∙ h code last (token.Mark semicolon ∷ us)
    ∙ take d cs (code ++ a) (goal.Mark semicolon) (goal.Yield (head.Assign k) ∷ gs) _ (token.Mark semicolon) us refl
    ∙ yield d cs (code ++ a) (head.Assign k) gs us
    ∙ recode d cs ((code ++ a) ++ head.Assign k ∷ []) (code ++ (a ++ head.Assign k ∷ [])) gs us (append_assoc code a (head.Assign k ∷ []))

move_reads : (d : Dialect) (cs : List Constant) (closed : Bool) (word : List ℕ) (a : List CondHead) (ts : List Token) → keyword_named word ≡ Some (keyword.Call call.EmitMove) → Reads d cs (Parts (signature_of call.EmitMove)) a ts →
    Reads d cs (Statement closed) (a ++ head.Call call.EmitMove ∷ []) (token.Word word ∷ token.Mark open_round ∷ (ts ++ token.Mark close_round ∷ token.Mark semicolon ∷ []))
move_reads d cs closed word a ts e h g from gs like code us ok =
    take d cs code g from (call_then (signature_of call.EmitMove) (head.Call call.EmitMove) (goal.Mark semicolon ∷ gs)) (token.Word word) _ (like (token.Word word) ∙ rw e refl)
    ∙ retoken d cs code _ _ _ (ap (λ (x : List Token). token.Mark open_round ∷ x) (append_assoc ts (token.Mark close_round ∷ token.Mark semicolon ∷ []) us))
    ∙ call_reads d cs (signature_of call.EmitMove) (head.Call call.EmitMove) a ts h code (goal.Mark semicolon ∷ gs) (token.Mark semicolon ∷ us)
    ∙ take d cs (code ++ (a ++ head.Call call.EmitMove ∷ [])) (goal.Mark semicolon) gs gs (token.Mark semicolon) us refl

ended_reads : (d : Dialect) (cs : List Constant) (h : CondHead) (word : List ℕ) (g : Goal) (from gs : List Goal) → takes d cs g (token.Word word) from ≡ Some (goal.Mark semicolon ∷ goal.Yield h ∷ gs) → (code : List CondHead) (us : List Token) →
    R d cs code (g ∷ from) (token.Word word ∷ token.Mark semicolon ∷ us) ≡ R d cs (code ++ h ∷ []) gs us
ended_reads d cs h word g from gs e code us =
    take d cs code g from (goal.Mark semicolon ∷ goal.Yield h ∷ gs) (token.Word word) _ e
    ∙ take d cs code (goal.Mark semicolon) (goal.Yield h ∷ gs) _ (token.Mark semicolon) us refl
    ∙ yield d cs code h gs us

block_reads : (d : Dialect) (cs : List Constant) (closed : Bool) (a : List CondHead) (ts : List Token) → Reads d cs Statements a ts → Reads d cs (Statement closed) a (token.Mark open_brace ∷ (ts ++ token.Mark close_brace ∷ []))
block_reads d cs closed a ts h g from gs like code us ok =
    take d cs code g from (goal.Statements ∷ goal.Mark close_brace ∷ gs) (token.Mark open_brace) _ (like (token.Mark open_brace))
    ∙ retoken d cs code _ _ _ (append_assoc ts (token.Mark close_brace ∷ []) us)
    ∙ h code (goal.Mark close_brace ∷ gs) (token.Mark close_brace ∷ us) refl
    ∙ take d cs (code ++ a) (goal.Mark close_brace) gs gs (token.Mark close_brace) us refl

no_else_taken : (t : Token) (gs : List Goal) → is_else_token t ≡ false → takes_else t gs ≡ None
no_else_taken (token.Word word) gs h = by_keyword (keyword_named word) h
  where
    by_keyword : (k : Option Keyword) → is_else k ≡ false → else_by k gs ≡ None
    by_keyword (Some keyword.Else) h = false_true (sym h)
    by_keyword _ h = refl
no_else_taken (token.Number n) gs h = refl
no_else_taken (token.Operator op) gs h = refl
no_else_taken (token.Mark b) gs h = refl
no_else_taken token.Bad gs h = refl

-- an if, its condition in parentheses, and what follows
if_begins : (d : Dialect) (cs : List Constant) (word : List ℕ) (a : List CondHead) (ts us : List Token) → keyword_named word ≡ Some keyword.If → PartReads d cs expression a ts → (g : Goal) (from gs : List Goal) → Like d cs g from (λ t. takes_statement t gs) →
    (code : List CondHead) → R d cs code (g ∷ from) (token.Word word ∷ token.Mark open_round ∷ (ts ++ token.Mark close_round ∷ us)) ≡ R d cs (code ++ a) (goal.Statement ∷ goal.Else ∷ gs) us
if_begins d cs word a ts us e h g from gs like code =
    let last : List Goal = goal.Mark close_round ∷ goal.Statement ∷ goal.Else ∷ gs in
    take d cs code g from (goal.Mark open_round ∷ goal.Part expression ∷ last) (token.Word word) _ (like (token.Word word) ∙ rw e refl)
    ∙ take d cs code (goal.Mark open_round) (goal.Part expression ∷ last) _ (token.Mark open_round) _ refl
    ∙ part_then d cs expression a ts h code last close_round us refl
    ∙ take d cs (code ++ a) (goal.Mark close_round) (goal.Statement ∷ goal.Else ∷ gs) _ (token.Mark close_round) us refl

when_reads : (d : Dialect) (cs : List Constant) (word : List ℕ) (a b : List CondHead) (ts us : List Token) → keyword_named word ≡ Some keyword.If → PartReads d cs expression a ts → Reads d cs (Statement false) b us →
    Reads d cs (Statement false) (a ++ (b ++ head.If ∷ [])) (token.Word word ∷ token.Mark open_round ∷ (ts ++ token.Mark close_round ∷ us))
when_reads d cs word a b ts us e h k g from gs like code vs ok =
    retoken d cs code _ _ _ (ap (λ (x : List Token). token.Word word ∷ token.Mark open_round ∷ x) (append_assoc ts (token.Mark close_round ∷ us) vs))
    ∙ if_begins d cs word a ts (us ++ vs) e h g from gs like code
    ∙ k goal.Statement (goal.Else ∷ gs) (goal.Else ∷ gs) (λ t. refl) (code ++ a) vs ok
    ∙ pass_over d cs ((code ++ a) ++ b) goal.Else gs (head.If ∷ []) vs refl (first_map (NotElse false) (λ t. takes d cs goal.Else t gs ≡ None) (λ t n. no_else_taken t gs (n refl)) vs ok)
    ∙ recode d cs (((code ++ a) ++ b) ++ head.If ∷ []) (code ++ (a ++ (b ++ head.If ∷ []))) gs vs (append_assoc (code ++ a) b (head.If ∷ []) ∙ append_assoc code a (b ++ head.If ∷ []))

when_else_reads : (d : Dialect) (cs : List Constant) (closed : Bool) (word other : List ℕ) (a b c : List CondHead) (ts us vs : List Token) → keyword_named word ≡ Some keyword.If → keyword_named other ≡ Some keyword.Else →
    PartReads d cs expression a ts → Reads d cs (Statement true) b us → Reads d cs (Statement closed) c vs →
    Reads d cs (Statement closed) (a ++ (b ++ (c ++ head.IfElse ∷ []))) (token.Word word ∷ token.Mark open_round ∷ (ts ++ (token.Mark close_round ∷ us ++ token.Word other ∷ vs)))
when_else_reads d cs closed word other a b c ts us vs e f h k m g from gs like code ws ok =
    let last : List Goal = goal.Yield head.IfElse ∷ gs in
    retoken d cs code _ _ _ (ap (λ (x : List Token). token.Word word ∷ token.Mark open_round ∷ x) (append_assoc ts (token.Mark close_round ∷ (us ++ token.Word other ∷ vs)) ws ∙ ap (λ (x : List Token). ts ++ token.Mark close_round ∷ x) (append_assoc us (token.Word other ∷ vs) ws)))
    ∙ if_begins d cs word a ts (us ++ token.Word other ∷ (vs ++ ws)) e h g from gs like code
    ∙ k goal.Statement (goal.Else ∷ gs) (goal.Else ∷ gs) (λ t. refl) (code ++ a) (token.Word other ∷ (vs ++ ws)) (λ z. false_true (sym z))
    ∙ take d cs ((code ++ a) ++ b) goal.Else gs (goal.Statement ∷ last) (token.Word other) (vs ++ ws) (rw f refl)
    ∙ m goal.Statement last last (λ t. refl) ((code ++ a) ++ b) ws ok
    ∙ yield d cs (((code ++ a) ++ b) ++ c) head.IfElse gs ws
    ∙ recode d cs ((((code ++ a) ++ b) ++ c) ++ head.IfElse ∷ []) (code ++ (a ++ (b ++ (c ++ head.IfElse ∷ [])))) gs ws
    (append_assoc ((code ++ a) ++ b) c (head.IfElse ∷ []) ∙ append_assoc (code ++ a) b (c ++ head.IfElse ∷ []) ∙ append_assoc code a (b ++ (c ++ head.IfElse ∷ [])))

-- ---- statements one behind the other

-- no statement begins with else
not_else_first : (d : Dialect) (cs : List Constant) (z : Bool) (c : List CondHead) (ts us : List Token) → Is d cs (Statement z) c ts → First (NotElse false) (ts ++ us)
not_else_first d cs _ _ _ us (Is.assign z word k a ts e q i) = λ x. rw e refl
not_else_first d cs _ _ _ us (Is.move z word parts ts e i) = λ x. rw e refl
not_else_first d cs _ _ _ us (Is.done z word e) = λ x. rw e refl
not_else_first d cs _ _ _ us (Is.fail z word e) = λ x. rw e refl
not_else_first d cs _ _ _ us (Is.block z a ts i) = λ x. refl
not_else_first d cs _ _ _ us (Is.when word a b ts vs e i j) = λ x. rw e refl
not_else_first d cs _ _ _ us (Is.when_else z word other a b c ts vs ws e f i j k) = λ x. rw e refl

brace_first : (us : List Token) → First EndsStatements us → First (NotElse false) us
brace_first us ok = first_map EndsStatements (NotElse false) (λ t e x. rw e refl) us ok

not_else_all : (d : Dialect) (cs : List Constant) (c : List CondHead) (ts us : List Token) → Is d cs Statements c ts → First EndsStatements us → First (NotElse false) (ts ++ us)
not_else_all d cs _ _ us Is.nothing ok = brace_first us ok
not_else_all d cs _ _ us (Is.then a b ts vs i j) ok = subst (First (NotElse false)) (sym (append_assoc ts vs us)) (not_else_first d cs false a ts (vs ++ us) i)

nothing_reads : (d : Dialect) (cs : List Constant) → Reads d cs Statements (head.Nothing ∷ []) []
nothing_reads d cs code gs us ok = pass_over d cs code goal.Statements gs (head.Nothing ∷ []) us refl (first_map EndsStatements (λ t. takes d cs goal.Statements t gs ≡ None) (λ t e. rw e refl) us ok)

then_reads : (d : Dialect) (cs : List Constant) (a b : List CondHead) (ts us : List Token) → Reads d cs (Statement false) a ts → Reads d cs Statements b us → ((vs : List Token) → First EndsStatements vs → First (NotElse false) (us ++ vs)) →
    Reads d cs Statements (a ++ (b ++ head.Then ∷ [])) (ts ++ us)
then_reads d cs a b ts us h k first code gs vs ok =
    let last : List Goal = goal.Yield head.Then ∷ gs in
    retoken d cs code _ _ _ (append_assoc ts us vs)
    ∙ h goal.Statements gs (goal.Statements ∷ last) (λ t. refl) code (us ++ vs) (first vs ok)
    ∙ k (code ++ a) last vs ok
    ∙ yield d cs ((code ++ a) ++ b) head.Then gs vs
    ∙ recode d cs (((code ++ a) ++ b) ++ head.Then ∷ []) (code ++ (a ++ (b ++ head.Then ∷ []))) gs vs (append_assoc (code ++ a) b (head.Then ∷ []) ∙ append_assoc code a (b ++ head.Then ∷ []))

-- ---- conditions

ends_here : (d : Dialect) (cs : List Constant) (code : List CondHead) → R d cs code [] [] ≡ Some code
unfolding run
ends_here d cs code = refl

whole_reads : (d : Dialect) (cs : List Constant) (a : List CondHead) (ts : List Token) → PartReads d cs expression a ts → Reads d cs Condition a ts
whole_reads d cs a ts h =
    retoken d cs [] (goal.Condition ∷ []) ts (ts ++ []) (sym (append-nil ts))
    ∙ h 0 (omega arith) goal.Condition [] [] (λ t. refl) [] [] tt
    ∙ more_over d cs a 0 0 [] [] tt
    ∙ ends_here d cs a

empty_reads : (d : Dialect) (cs : List Constant) → Reads d cs Condition (head.Number (pos 1) ∷ []) []
empty_reads d cs = pass_over d cs [] goal.Condition [] (head.Number (pos 1) ∷ []) [] refl tt ∙ ends_here d cs (head.Number (pos 1) ∷ [])

-- ---- all of the grammar

pub complete : (d : Dialect) (cs : List Constant) (sort : Sort) (c : List CondHead) (ts : List Token) → Is d cs sort c ts → Reads d cs sort c ts
complete d cs _ _ _ (Is.number l n) = λ p le g from gs like. leaf_reads d cs p l (head.Number (signed W64 n)) (token.Number n) g from gs (like (token.Number n))
complete d cs _ _ _ (Is.leaf l word h e) = λ p le g from gs like. leaf_reads d cs p l h (token.Word word) g from gs (like (token.Word word) ∙ ap (λ x. by_atom p word x gs) e)
complete d cs _ _ _ (Is.asked l word c a ts e i) = λ p le g from gs like.
    asked_reads d cs p l word (signature_of c) (head.Call c) a ts g from gs (like (token.Word word) ∙ ap (λ x. by_atom p word x gs) e) (complete d cs (Parts (signature_of c)) a ts i)
complete d cs _ _ _ (Is.predicate l word a ts e i) = λ p le g from gs like.
    asked_reads d cs p l word predicate_parts (head.Predicate word) a ts g from gs (like (token.Word word) ∙ ap (λ x. by_atom p word x gs) e) (complete d cs (Parts predicate_parts) a ts i)
complete d cs _ _ _ (Is.compare l word name property sign equal h a ts q e i s n) = compare_reads d cs l word name property sign equal h a ts q e (complete d cs (One part.Operand) a ts i) s n
complete d cs _ _ _ (Is.parens l a ts i) = parens_reads d cs l a ts (complete d cs (One expression) a ts i)
complete d cs _ _ _ (Is.before l sign u a ts e i) = before_reads d cs l sign u a ts e (complete d cs (One (part.Expression unary_level)) a ts i)
complete d cs _ _ _ (Is.between l op a b ts us le i j) =
    between_reads d cs l op a b ts us le (complete d cs (One (part.Expression (level op))) a ts i) (complete d cs (One (part.Expression (level op + 1))) b us j)
complete d cs _ _ _ (Is.choice a b c ts us vs i j k) =
    choice_reads d cs a b c ts us vs (complete d cs (One (part.Expression 1)) a ts i) (complete d cs (One expression) b us j) (complete d cs (One expression) c vs k)
complete d cs _ _ _ (Is.operand word k e f small) = operand_reads d cs word k e f small
complete d cs _ _ _ (Is.tested word e f) = λ v code gs us. take d cs code (goal.Part (place v)) gs (goal.Yield (head.Operand 0) ∷ gs) (token.Word word) us (takes_tested d cs v word gs e f) ∙ yield d cs code (head.Operand 0) gs us
complete d cs _ _ _ (Is.window n) = λ code gs us. token_reads d cs part.Window (head.Window n) (token.Number n) gs refl code us
complete d cs _ _ _ (Is.any_mode word m e) = λ code gs us. token_reads d cs part.AnyMode (head.Mode m) (token.Word word) gs (ap (λ x. mode_then x gs) e) code us
complete d cs _ _ _ (Is.value_mode word m e) = λ code gs us. token_reads d cs part.ValueMode (head.Mode m) (token.Word word) gs (ap (λ x. mode_then x gs) e) code us
complete d cs _ _ _ (Is.value_operand a ts i) = complete d cs (One part.Operand) a ts i true
complete d cs _ _ _ (Is.made word c a ts e f i) = made_reads d cs word c a ts e f (complete d cs (Parts (signature_of c)) a ts i)
complete d cs _ _ _ Is.none = no_parts d cs
complete d cs _ _ _ (Is.one x a ts i) = one_part d cs x a ts (complete d cs (One x) a ts i)
complete d cs _ _ _ (Is.two x y a b ts us i j) = two_parts d cs x y a b ts us (complete d cs (One x) a ts i) (complete d cs (One y) b us j)
complete d cs _ _ _ (Is.three x y z a b c ts us vs i j k) = three_parts d cs x y z a b c ts us vs (complete d cs (One x) a ts i) (complete d cs (One y) b us j) (complete d cs (One z) c vs k)
complete d cs _ _ _ (Is.assign z word k a ts e small i) = assign_reads d cs z word k a ts e small (complete d cs (One part.Value) a ts i)
complete d cs _ _ _ (Is.move z word a ts e i) = move_reads d cs z word a ts e (complete d cs (Parts (signature_of call.EmitMove)) a ts i)
complete d cs _ _ _ (Is.done z word e) = λ g from gs like code us ok. ended_reads d cs head.Done word g from gs (like (token.Word word) ∙ rw e refl) code us
complete d cs _ _ _ (Is.fail z word e) = λ g from gs like code us ok. ended_reads d cs head.Fail word g from gs (like (token.Word word) ∙ rw e refl) code us
complete d cs _ _ _ (Is.block z a ts i) = block_reads d cs z a ts (complete d cs Statements a ts i)
complete d cs _ _ _ (Is.when word a b ts us e i j) = when_reads d cs word a b ts us e (complete d cs (One expression) a ts i) (complete d cs (Statement false) b us j)
complete d cs _ _ _ (Is.when_else z word other a b c ts us vs e f i j k) =
    when_else_reads d cs z word other a b c ts us vs e f (complete d cs (One expression) a ts i) (complete d cs (Statement true) b us j) (complete d cs (Statement z) c vs k)
complete d cs _ _ _ Is.nothing = nothing_reads d cs
complete d cs _ _ _ (Is.then a b ts us i j) = then_reads d cs a b ts us (complete d cs (Statement false) a ts i) (complete d cs Statements b us j) (λ vs ok. not_else_all d cs b us vs j ok)
complete d cs _ _ _ Is.empty = empty_reads d cs
complete d cs _ _ _ (Is.whole a ts i) = whole_reads d cs a ts (complete d cs (One expression) a ts i)

-- conditions and statements that fill a text
pub complete_condition : (d : Dialect) (cs : List Constant) (c : List CondHead) (ts : List Token) → Is d cs Condition c ts → R d cs [] (goal.Condition ∷ []) ts ≡ Some c
complete_condition d cs c ts i = complete d cs Condition c ts i

pub complete_statements : (d : Dialect) (cs : List Constant) (c : List CondHead) (ts : List Token) → Is d cs Statements c ts → R d cs [] (goal.Statements ∷ []) ts ≡ Some c
complete_statements d cs c ts i = retoken d cs [] (goal.Statements ∷ []) ts (ts ++ []) (sym (append-nil ts)) ∙ complete d cs Statements c ts i [] [] [] tt ∙ ends_here d cs c

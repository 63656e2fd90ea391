-- How what is pending goes on: as a token that is taken, with a few bytes more, where that is found; and else never.
use Rattle.std.proofs.Common.{◌≡◌, ℕ, ◌<◌, ◌==◌, nat_le, nat_lt, Bool, true, false, cond, List, [], ◌∷◌, ◌++◌, length, take, drop, Option, Some, None, refl, sym, ap, subst, ◌∙◌, ◌||◌, ◌&&◌, append_assoc, arith, eqb-true, ◌⊎◌, inl, inr}
use Rattle.std.specs.Str.{bytes_eq}
use Rattle.std.specs.List.{list_any, list_all}
use Rattle.std.proofs.lemmas.List.{append-nil, take-append-drop}
use Rattle.std.proofs.lemmas.List.Elements.{All-append}
use Rattle.std.proofs.lemmas.Bool.{leb-true}
use Rattle.rtx_tree.specs.declared.constants.Constant.{Constant}
use Rattle.c_words.specs.declared.head.Binary.{Binary}
use Rattle.c_words.specs.declared.head.CondHead.{CondHead}
use Rattle.c_words.specs.declared.atom.Dialect.{Dialect}
use Rattle.c_words.specs.declared.token.Token.{Token}
use Rattle.c_words.specs.declared.token.Token.TheVariants as token
use Rattle.c_cond.specs.declared.goal.Goal.{Goal}
use Rattle.c_cond.specs.declared.parser.Parser.{Parser}
use Rattle.c_words.specs.declared.lexer.Pending.{Pending}
use Rattle.c_words.specs.declared.lexer.Pending.TheVariants as pending
use Rattle.c_words.specs.text_words.Blanks.{is_blank}
use Rattle.c_words.specs.Tokens.{in_word, token_of_run, token_of_byte, operator_of_two}
use Rattle.c_words.specs.machine.Lexing.{begun, behind_run, behind_two, read_all}
use Rattle.c_words.specs.declared.lexer.Lexer.{Lexer}
use Rattle.c_words.specs.machine.Lexing as lexing
use Rattle.c_cond.specs.machine.Steps.{at, next, run, result_of}
use Rattle.c_cond.specs.machine.Front.{is_taken, run_taken, word_taken, run_goes_on, second_bytes, operator_taken, byte_goes_on, goes_on}
use Rattle.c_words.specs.machine.Known.{known_words}
use Rattle.c_words.proofs.Lexes.{all_read}
use Rattle.c_cond.proofs.Taken.{goes, stops}
use Rattle.c_words.proofs.Listed.{both, same_bytes}
use Rattle.c_cond.proofs.Endings.{AreBytes, no_bytes, byte_more, bytes_by}
use Rattle.c_cond.proofs.GoesOn.{run_goes, byte_goes}

false_true : {A : Type 0} → false ≡ true → A
false_true e = absurd (apart e)
  where
    apart : false ≡ true → ⊥
    apart e = cc

either : {a b : Bool} → (a || b) ≡ true → (a ≡ true) ⊎ (b ≡ true)
either {a = true} {b} e = inl refl
either {a = false} {b} e = inr e

-- what was read before stands before what is read
pub split_off : (before : List Token) (p : Pending) (bs : List ℕ) → read_all (lexing.at before p) bs ≡ before ++ read_all (lexing.at [] p) bs
split_off before p bs = all_read bs before p ∙ ap (λ (ts : List Token). before ++ ts) (sym (all_read bs [] p))

begun_split : (before : List Token) (b : ℕ) (bs : List ℕ) → read_all (begun before b) bs ≡ before ++ read_all (begun [] b) bs
begun_split before b bs = by_class (in_word b) (is_blank b)
  where
    by_class : (word blank : Bool) →
        read_all (cond word (lexing.at before (pending.Run (b ∷ []))) (cond blank (lexing.at before pending.Nothing) (lexing.at before (pending.Byte b)))) bs
        ≡ before ++ read_all (cond word (lexing.at [] (pending.Run (b ∷ []))) (cond blank (lexing.at [] pending.Nothing) (lexing.at [] (pending.Byte b)))) bs
    by_class true blank = split_off before (pending.Run (b ∷ [])) bs
    by_class false true = split_off before pending.Nothing bs
    by_class false false = split_off before (pending.Byte b) bs

-- ---- a few bytes more

word_byte : (b : ℕ) → in_word b ≡ true → b < 256
word_byte b e = by_class (either e)
  where
    by_rest : (b ≡ 95) → b < 256
    by_rest f = omega (arith, f)

    by_capital : ((nat_le 65 b && nat_le b 90) ≡ true) ⊎ ((b == 95) ≡ true) → b < 256
    by_capital (inl f) = omega (arith, leb-true b 90 (both f).1)
    by_capital (inr f) = by_rest (eqb-true b 95 f)

    by_small : ((nat_le 97 b && nat_le b 122) ≡ true) ⊎ (((nat_le 65 b && nat_le b 90) || b == 95) ≡ true) → b < 256
    by_small (inl f) = omega (arith, leb-true b 122 (both f).1)
    by_small (inr f) = by_capital (either f)

    by_class : ((nat_le 48 b && nat_le b 57) ≡ true) ⊎ (((nat_le 97 b && nat_le b 122) || ((nat_le 65 b && nat_le b 90) || b == 95)) ≡ true) → b < 256
    by_class (inl f) = omega (arith, leb-true b 57 (both f).1)
    by_class (inr f) = by_small (either f)

word_bytes : (bs : List ℕ) → list_all in_word bs ≡ true → AreBytes bs
word_bytes [] e = no_bytes
word_bytes (b ∷ bs) e = byte_more b bs (word_byte b (both e).0) (word_bytes bs (both e).1)

-- A few bytes that end what is pending as tokens that are taken.
pub record Settled (d : Dialect) (cs : List Constant) (gs : List Goal) (p : Pending) : Type 0 where
  pub bytes : List ℕ
  pub are_bytes : AreBytes bytes
  pub tokens : List Token
  pub reads : (rest : List ℕ) → read_all (lexing.at [] p) (bytes ++ rest) ≡ tokens ++ read_all (lexing.at [] pending.Nothing) rest
  pub taken : (code : List CondHead) → (q : Parser) × (run d cs (at code gs) tokens ≡ Some q)

one_taken : (d : Dialect) (cs : List Constant) (gs : List Goal) (t : Token) → is_taken d cs t gs ≡ true → (code : List CondHead) → (q : Parser) × (run d cs (at code gs) (t ∷ []) ≡ Some q)
unfolding run
one_taken d cs gs t e code = let x : (q : Parser) × (next d cs t code gs ≡ Some q) = goes d cs t code gs e in (x.0, rw x.1 refl)

run_on : (run : List ℕ) (b : ℕ) → in_word b ≡ true → behind_run [] run b ≡ lexing.at [] (pending.Run (run ++ b ∷ []))
run_on run b w = rw w refl

two_read : (a b : ℕ) (operator : Binary) → operator_of_two a b ≡ Some operator → behind_two [] a b (operator_of_two a b) ≡ lexing.at (token.Operator operator ∷ []) pending.Nothing
two_read a b operator e = rw e refl

run_reads : (more run rest : List ℕ) → list_all in_word more ≡ true → read_all (lexing.at [] (pending.Run run)) (more ++ 32 ∷ rest) ≡ token_of_run (run ++ more) ∷ read_all (lexing.at [] pending.Nothing) rest
run_reads [] run rest e =
    split_off (token_of_run run ∷ []) pending.Nothing rest ∙ ap (λ (r : List ℕ). token_of_run r ∷ read_all (lexing.at [] pending.Nothing) rest) (sym (append-nil run))
run_reads (x ∷ xs) run rest e =
    ap (λ (l : Lexer). read_all l (xs ++ 32 ∷ rest)) (run_on run x (both e).0)
    ∙ run_reads xs (run ++ x ∷ []) rest (both e).1
    ∙ ap (λ (r : List ℕ). token_of_run r ∷ read_all (lexing.at [] pending.Nothing) rest) (append_assoc run (x ∷ []) xs)

run_settles : (d : Dialect) (cs : List Constant) (gs : List Goal) (run more : List ℕ) → list_all in_word more ≡ true → run_taken d cs gs (run ++ more) ≡ true → Settled d cs gs (pending.Run run)
run_settles d cs gs run more w t = record {
  bytes = more ++ 32 ∷ [];
  are_bytes = All-append (λ b. b < 256) more (32 ∷ []) (word_bytes more w) (bytes_by (32 ∷ []) refl);
  tokens = token_of_run (run ++ more) ∷ [];
  reads = λ rest. ap (read_all (lexing.at [] (pending.Run run))) (append_assoc more (32 ∷ []) rest) ∙ run_reads more run rest w;
  taken = one_taken d cs gs (token_of_run (run ++ more)) t;
}

some_word : (q : List ℕ → Bool) (words : List (List ℕ)) → list_any q words ≡ true → (word : List ℕ) × (q word ≡ true)
some_word q [] e = false_true e
some_word q (w ∷ ws) e = by_either (either e) (λ f. some_word q ws f)
  where
    by_either : (q w ≡ true) ⊎ (list_any q ws ≡ true) → (list_any q ws ≡ true → (word : List ℕ) × (q word ≡ true)) → (word : List ℕ) × (q word ≡ true)
    by_either (inl f) ih = (w, f)
    by_either (inr f) ih = ih f

word_settles : (d : Dialect) (cs : List Constant) (gs : List Goal) (run word : List ℕ) → word_taken d cs gs run word ≡ true → Settled d cs gs (pending.Run run)
word_settles d cs gs run word e =
    let more : List ℕ = drop (length run) word in
    let begins : (bytes_eq (take (length run) word) run && list_all in_word more) ≡ true = (both e).0 in
    let whole : run ++ more ≡ word = ap (λ (r : List ℕ). r ++ more) (sym (same_bytes (take (length run) word) run (both begins).0)) ∙ take-append-drop (length run) word in
    run_settles d cs gs run more (both begins).1 (subst (λ (r : List ℕ). run_taken d cs gs r ≡ true) (sym whole) (both e).1)

run_settled : (d : Dialect) (cs : List Constant) (words : List (List ℕ)) (gs : List Goal) (run : List ℕ) → run_goes_on d cs words gs run ≡ true → Settled d cs gs (pending.Run run)
run_settled d cs words gs run e = by_first (either e)
  where
    by_word : (word : List ℕ) × (word_taken d cs gs run word ≡ true) → Settled d cs gs (pending.Run run)
    by_word x = word_settles d cs gs run x.0 x.1

    by_second : (run_taken d cs gs (run ++ 48 ∷ []) ≡ true) ⊎ (list_any (word_taken d cs gs run) words ≡ true) → Settled d cs gs (pending.Run run)
    by_second (inl f) = run_settles d cs gs run (48 ∷ []) refl f
    by_second (inr f) = by_word (some_word (word_taken d cs gs run) words f)

    by_first : (run_taken d cs gs run ≡ true) ⊎ ((run_taken d cs gs (run ++ 48 ∷ []) || list_any (word_taken d cs gs run) words) ≡ true) → Settled d cs gs (pending.Run run)
    by_first (inl f) = run_settles d cs gs run [] refl (subst (λ (r : List ℕ). run_taken d cs gs r ≡ true) (sym (append-nil run)) f)
    by_first (inr f) = by_second (either f)

byte_settles : (d : Dialect) (cs : List Constant) (gs : List Goal) (a : ℕ) → is_taken d cs (token_of_byte a) gs ≡ true → Settled d cs gs (pending.Byte a)
byte_settles d cs gs a t = record {
  bytes = 32 ∷ [];
  are_bytes = bytes_by (32 ∷ []) refl;
  tokens = token_of_byte a ∷ [];
  reads = λ rest. split_off (token_of_byte a ∷ []) pending.Nothing rest;
  taken = one_taken d cs gs (token_of_byte a) t;
}

two_settle : (d : Dialect) (cs : List Constant) (gs : List Goal) (a b : ℕ) (o : Option Binary) → operator_of_two a b ≡ o → nat_lt b 256 ≡ true → operator_taken d cs gs o ≡ true → Settled d cs gs (pending.Byte a)
two_settle d cs gs a b None e s t = false_true t
two_settle d cs gs a b (Some operator) e s t = record {
  bytes = b ∷ 32 ∷ [];
  are_bytes = bytes_by (b ∷ 32 ∷ []) (rw s refl);
  tokens = token.Operator operator ∷ [];
  reads = λ rest. ap (λ (l : Lexer). read_all l (32 ∷ rest)) (two_read a b operator e) ∙ split_off (token.Operator operator ∷ []) pending.Nothing rest;
  taken = one_taken d cs gs (token.Operator operator) t;
}

some_byte : (q : ℕ → Bool) (bs : List ℕ) → list_all (λ b. nat_lt b 256) bs ≡ true → list_any q bs ≡ true → (b : ℕ) × (q b ≡ true) × (nat_lt b 256 ≡ true)
some_byte q [] s e = false_true e
some_byte q (b ∷ bs) s e = by_either (either e) (λ f. some_byte q bs (both s).1 f)
  where
    by_either : (q b ≡ true) ⊎ (list_any q bs ≡ true) → (list_any q bs ≡ true → (b : ℕ) × (q b ≡ true) × (nat_lt b 256 ≡ true)) → (b : ℕ) × (q b ≡ true) × (nat_lt b 256 ≡ true)
    by_either (inl f) ih = (b, f, (both s).0)
    by_either (inr f) ih = ih f

byte_settled : (d : Dialect) (cs : List Constant) (gs : List Goal) (a : ℕ) → byte_goes_on d cs gs a ≡ true → Settled d cs gs (pending.Byte a)
byte_settled d cs gs a e = by_first (either e)
  where
    by_two : (b : ℕ) × (operator_taken d cs gs (operator_of_two a b) ≡ true) × (nat_lt b 256 ≡ true) → Settled d cs gs (pending.Byte a)
    by_two x = two_settle d cs gs a x.0 (operator_of_two a x.0) refl x.2 x.1

    by_first : (is_taken d cs (token_of_byte a) gs ≡ true) ⊎ (list_any (λ b. operator_taken d cs gs (operator_of_two a b)) second_bytes ≡ true) → Settled d cs gs (pending.Byte a)
    by_first (inl f) = byte_settles d cs gs a f
    by_first (inr f) = by_two (some_byte (λ b. operator_taken d cs gs (operator_of_two a b)) second_bytes refl f)

pub settles : (d : Dialect) (cs : List Constant) (words : List (List ℕ)) (gs : List Goal) (p : Pending) → goes_on d cs words gs p ≡ true → Settled d cs gs p
unfolding run
settles d cs words gs pending.Nothing e = record { bytes = []; are_bytes = no_bytes; tokens = []; reads = λ rest. refl; taken = λ code. (at code gs, refl) }
settles d cs words gs (pending.Run run) e = run_settled d cs words gs run e
settles d cs words gs (pending.Byte a) e = byte_settled d cs gs a e

-- ---- what goes on in no way

-- what a run is the beginning of
record Longer (run rest : List ℕ) : Type 0 where
  more : List ℕ
  in_words : list_all in_word more ≡ true
  behind : List Token
  reads : read_all (lexing.at [] (pending.Run run)) rest ≡ token_of_run (run ++ more) ∷ behind

begins_behind : (run : List ℕ) (b : ℕ) → in_word b ≡ false → behind_run [] run b ≡ begun (token_of_run run ∷ []) b
begins_behind run b w = rw w refl

longer : (rest run : List ℕ) → Longer run rest
longer [] run = record { more = []; in_words = refl; behind = []; reads = ap (λ (r : List ℕ). token_of_run r ∷ []) (sym (append-nil run)) }
longer (b ∷ bs) run = by_test (in_word b) refl (longer bs (run ++ b ∷ []))
  where
    by_test : (t : Bool) → in_word b ≡ t → Longer (run ++ b ∷ []) bs → Longer run (b ∷ bs)
    by_test true w l = record {
      more = b ∷ l.more;
      in_words = rw (w, l.in_words) refl;
      behind = l.behind;
      reads = ap (λ (x : Lexer). read_all x bs) (run_on run b w) ∙ l.reads ∙ ap (λ (r : List ℕ). token_of_run r ∷ l.behind) (append_assoc run (b ∷ []) l.more);
    }
    by_test false w l = record {
      more = [];
      in_words = refl;
      behind = read_all (begun [] b) bs;
      reads = ap (λ (x : Lexer). read_all x bs) (begins_behind run b w) ∙ begun_split (token_of_run run ∷ []) b bs
          ∙ ap (λ (r : List ℕ). token_of_run r ∷ read_all (begun [] b) bs) (sym (append-nil run));
    }

-- what is made of tokens of which the first is not taken
none_some : {A : Type 0} {x : A} → None ≡ Some x → ⊥
none_some e = cc

not_taken : (d : Dialect) (cs : List Constant) (q : Parser) (t : Token) (ts : List Token) (out : List CondHead) → is_taken d cs t q.goals ≡ false → result_of d cs q (t ∷ ts) ≡ Some out → ⊥
unfolding run
not_taken d cs q t ts out e f = none_some (sym (rw (stops d cs t q.code q.goals e) refl) ∙ f)

true_false : true ≡ false → ⊥
true_false e = cc

not_true : {b : Bool} → (b ≡ true → ⊥) → b ≡ false
not_true {b = true} h = absurd (h refl)
not_true {b = false} h = refl

run_never : (d : Dialect) (cs : List Constant) (q : Parser) (run rest : List ℕ) (out : List CondHead) → run_goes_on d cs (known_words cs) q.goals run ≡ false → result_of d cs q (read_all (lexing.at [] (pending.Run run)) rest) ≡ Some out → ⊥
run_never d cs q run rest out e f =
    let l : Longer run rest = longer rest run in
    not_taken d cs q (token_of_run (run ++ l.more)) l.behind out (not_true (λ t. true_false (sym (run_goes d cs q.goals run l.more l.in_words t) ∙ e))) (ap (result_of d cs q) (sym l.reads) ∙ f)

byte_never : (d : Dialect) (cs : List Constant) (q : Parser) (a : ℕ) (rest : List ℕ) (out : List CondHead) → byte_goes_on d cs q.goals a ≡ false → result_of d cs q (read_all (lexing.at [] (pending.Byte a)) rest) ≡ Some out → ⊥
byte_never d cs q a rest out e f = by_rest rest f
  where
    alone : is_taken d cs (token_of_byte a) q.goals ≡ false
    alone = not_true (λ t. true_false (sym (rw t refl) ∙ e))

    two : (b : ℕ) (operator : Binary) → operator_of_two a b ≡ Some operator → is_taken d cs (token.Operator operator) q.goals ≡ false
    two b operator o = not_true (λ t. true_false (sym (byte_goes d cs q.goals a b operator o t) ∙ e))

    by_operator : (b : ℕ) (bs : List ℕ) (o : Option Binary) → operator_of_two a b ≡ o → result_of d cs q (read_all (behind_two [] a b o) bs) ≡ Some out → ⊥
    by_operator b bs None o f = not_taken d cs q (token_of_byte a) (read_all (begun [] b) bs) out alone (ap (result_of d cs q) (sym (begun_split (token_of_byte a ∷ []) b bs)) ∙ f)
    by_operator b bs (Some operator) o f =
        not_taken d cs q (token.Operator operator) (read_all (lexing.at [] pending.Nothing) bs) out (two b operator o) (ap (result_of d cs q) (sym (split_off (token.Operator operator ∷ []) pending.Nothing bs)) ∙ f)

    by_rest : (rest : List ℕ) → result_of d cs q (read_all (lexing.at [] (pending.Byte a)) rest) ≡ Some out → ⊥
    by_rest [] f = not_taken d cs q (token_of_byte a) [] out alone f
    by_rest (b ∷ bs) f = by_operator b bs (operator_of_two a b) refl f

pub never : (d : Dialect) (cs : List Constant) (q : Parser) (p : Pending) (rest : List ℕ) (out : List CondHead) → goes_on d cs (known_words cs) q.goals p ≡ false → result_of d cs q (read_all (lexing.at [] p) rest) ≡ Some out → ⊥
never d cs q pending.Nothing rest out e f = true_false e
never d cs q (pending.Run run) rest out e f = run_never d cs q run rest out e f
never d cs q (pending.Byte a) rest out e f = byte_never d cs q a rest out e f

-- What the lexer's steps make of a text are its tokens.
use Rattle.std.proofs.Common.{◌≡◌, ℕ, Bool, true, false, cond, List, [], ◌∷◌, ◌++◌, Option, Some, None, refl, sym, ap, ◌∙◌, append_assoc, ◌==◌, eqb-true}
use Rattle.c_words.specs.declared.head.Binary.{Binary}
use Rattle.c_words.specs.declared.token.Token.{Token}
use Rattle.c_words.specs.declared.token.Token.TheVariants as token
use Rattle.c_words.specs.declared.lexer.Pending.{Pending}
use Rattle.c_words.specs.declared.lexer.Pending.TheVariants as pending
use Rattle.text_words.specs.Blanks.{is_blank}
use Rattle.c_words.specs.Tokens.{Piece, Blank, Run, Byte, run_before, pieces, tokens_of, tokens_in, in_word, token_of_run, token_of_byte, operator_of_two}
use Rattle.c_words.specs.machine.Lexing.{at, behind_two, read_all}

true≢false : true ≡ false → ⊥
true≢false e = cc

none≢some : {A : Type 0} {x : A} → None ≡ Some x → ⊥
none≢some e = cc

-- the pieces, where this is pending before them
abbrev pub ahead : Pending → List Piece → List Piece
ahead pending.Nothing ps = ps
ahead (pending.Run run) ps = run_before run ps
ahead (pending.Byte a) ps = Byte a ∷ ps

-- how the pieces begin with a byte, by the two tests
abbrev first_piece : Bool → Bool → ℕ → List Piece → List Piece
first_piece word blank b ps = cond word (run_before (b ∷ []) ps) (cond blank (Blank ∷ ps) (Byte b ∷ ps))

run_twice : (r s : List ℕ) (ps : List Piece) → run_before r (run_before s ps) ≡ run_before (r ++ s) ps
run_twice r s [] = refl
run_twice r s (Blank ∷ ps) = refl
run_twice r s (Byte a ∷ ps) = refl
run_twice r s (Run t ∷ ps) = ap (λ (x : List ℕ). Run x ∷ ps) (sym (append_assoc r s t))

abbrev pub AllRead : List ℕ → Type 0
AllRead bs = (tokens : List Token) (p : Pending) → read_all (at tokens p) bs ≡ tokens ++ tokens_of (ahead p (pieces bs))

-- a byte begins a piece
begins : (b : ℕ) (bs : List ℕ) → AllRead bs → (word blank : Bool) (tokens : List Token) →
    read_all (cond word (at tokens (pending.Run (b ∷ []))) (cond blank (at tokens pending.Nothing) (at tokens (pending.Byte b)))) bs
    ≡ tokens ++ tokens_of (first_piece word blank b (pieces bs))
begins b bs ih true blank tokens = ih tokens (pending.Run (b ∷ []))
begins b bs ih false true tokens = ih tokens pending.Nothing
begins b bs ih false false tokens = ih tokens (pending.Byte b)

-- behind a run
after_run : (b : ℕ) (bs : List ℕ) → AllRead bs → (word blank : Bool) (tokens : List Token) (run : List ℕ) →
    read_all (cond word (at tokens (pending.Run (run ++ b ∷ []))) (cond word (at (tokens ++ token_of_run run ∷ []) (pending.Run (b ∷ []))) (cond blank (at (tokens ++ token_of_run run ∷ []) pending.Nothing) (at (tokens ++ token_of_run run ∷ []) (pending.Byte b))))) bs
    ≡ tokens ++ tokens_of (run_before run (first_piece word blank b (pieces bs)))
after_run b bs ih true blank tokens run = ih tokens (pending.Run (run ++ b ∷ [])) ∙ ap (λ (ps : List Piece). tokens ++ tokens_of ps) (sym (run_twice run (b ∷ []) (pieces bs)))
after_run b bs ih false true tokens run = ih (tokens ++ token_of_run run ∷ []) pending.Nothing ∙ append_assoc tokens (token_of_run run ∷ []) (tokens_of (pieces bs))
after_run b bs ih false false tokens run = ih (tokens ++ token_of_run run ∷ []) (pending.Byte b) ∙ append_assoc tokens (token_of_run run ∷ []) (tokens_of (Byte b ∷ pieces bs))

-- a byte before a run is a token by itself
byte_run : (a : ℕ) (run : List ℕ) (ps : List Piece) → tokens_of (Byte a ∷ run_before run ps) ≡ token_of_byte a ∷ tokens_of (run_before run ps)
byte_run a run [] = refl
byte_run a run (Blank ∷ ps) = refl
byte_run a run (Byte b ∷ ps) = refl
byte_run a run (Run t ∷ ps) = refl

pub apart : (test : ℕ → Bool) (b k : ℕ) → test b ≡ true → test k ≡ false → (b == k) ≡ false
apart test b k h n = by_cases (b == k) refl
  where
    by_cases : (e : Bool) → (b == k) ≡ e → (b == k) ≡ false
    by_cases false e = e
    by_cases true e = absurd (true≢false (sym h ∙ ap test (eqb-true b k e) ∙ n))

-- no operator ends with a byte that passes a test which no sign passes
no_operator : (test : ℕ → Bool) (a b : ℕ) → test b ≡ true → test 124 ≡ false → test 38 ≡ false → test 61 ≡ false → test 60 ≡ false → test 62 ≡ false → operator_of_two a b ≡ None
no_operator test a b h p q r s t =
    let e1 : (b == 124) ≡ false = apart test b 124 h p in
    let e2 : (b == 38) ≡ false = apart test b 38 h q in
    let e3 : (b == 61) ≡ false = apart test b 61 h r in
    let e4 : (b == 60) ≡ false = apart test b 60 h s in
    let e5 : (b == 62) ≡ false = apart test b 62 h t in
    rw (e1, e2, e3, e4, e5) refl

-- behind a byte
after_byte : (a b : ℕ) (bs : List ℕ) → AllRead bs → (word blank : Bool) → in_word b ≡ word → is_blank b ≡ blank → (o : Option Binary) → operator_of_two a b ≡ o → (tokens : List Token) →
    read_all (behind_two tokens a b o) bs ≡ tokens ++ tokens_of (Byte a ∷ first_piece word blank b (pieces bs))
after_byte a b bs ih true blank w k (Some operator) e tokens = absurd (none≢some (sym (no_operator in_word a b w refl refl refl refl refl) ∙ e))
after_byte a b bs ih false true w k (Some operator) e tokens = absurd (none≢some (sym (no_operator is_blank a b k refl refl refl refl refl) ∙ e))
after_byte a b bs ih false false w k (Some operator) e tokens = rw e (ih (tokens ++ token.Operator operator ∷ []) pending.Nothing ∙ append_assoc tokens (token.Operator operator ∷ []) (tokens_of (pieces bs)))
after_byte a b bs ih true blank w k None e tokens =
    rw (w) (begins b bs ih true blank (tokens ++ token_of_byte a ∷ []) ∙ append_assoc tokens (token_of_byte a ∷ []) (tokens_of (run_before (b ∷ []) (pieces bs))) ∙ ap (λ (x : List Token). tokens ++ x) (sym (byte_run a (b ∷ []) (pieces bs))))
after_byte a b bs ih false true w k None e tokens =
    rw (w, k) (begins b bs ih false true (tokens ++ token_of_byte a ∷ []) ∙ append_assoc tokens (token_of_byte a ∷ []) (tokens_of (pieces bs)))
after_byte a b bs ih false false w k None e tokens =
    rw (w, k, e) (begins b bs ih false false (tokens ++ token_of_byte a ∷ []) ∙ append_assoc tokens (token_of_byte a ∷ []) (tokens_of (Byte b ∷ pieces bs)))

pub all_read : (bs : List ℕ) → AllRead bs
all_read [] tokens pending.Nothing = refl
all_read [] tokens (pending.Run run) = refl
all_read [] tokens (pending.Byte a) = refl
all_read (b ∷ bs) tokens pending.Nothing = begins b bs (all_read bs) (in_word b) (is_blank b) tokens
all_read (b ∷ bs) tokens (pending.Run run) = after_run b bs (all_read bs) (in_word b) (is_blank b) tokens run
all_read (b ∷ bs) tokens (pending.Byte a) = after_byte a b bs (all_read bs) (in_word b) (is_blank b) refl refl (operator_of_two a b) refl tokens

pub lexes : (text : List ℕ) → read_all (at [] pending.Nothing) text ≡ tokens_in text
lexes text = all_read text [] pending.Nothing

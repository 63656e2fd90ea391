-- Where what is pending becomes a token that is taken, however it goes on, that it goes on is found.
use Rattle.std.proofs.Common.{◌≡◌, ℕ, zero, suc, ◌+◌, ◌-◌, ℤ, ◌<◌, ◌≤◌, ◌^◌, ◌==◌, nat_lt, Bool, true, false, cond, List, [], ◌∷◌, ◌++◌, length, take, drop, Option, Some, None, refl, sym, ap, subst, ◌∙◌, ◌||◌, ◌&&◌, map, not, arith, eqb-true, ◌⊎◌, inl, inr}
use Rattle.std.specs.Prelude.{codes}
use Rattle.std.specs.Option.{is_some}
use Rattle.std.specs.Str.{bytes_eq}
use Rattle.std.specs.List.{list_any, list_all}
use Rattle.std.proofs.Math.Seq.{take-append_seam, drop-append_seam, take-append-add}
use Rattle.std.proofs.lemmas.List.{take-append-le, take-append-drop}
use Rattle.std.proofs.lemmas.Slice.Eq.{bytes_eq-Decides}
use Rattle.std.proofs.lemmas.Bool.{lt-ltb, ltb-true, cases_lt}
use Rattle.rtx_tree.specs.declared.code.Code.{Code}
use Rattle.rtx_tree.specs.declared.code.Code.TheVariants as code
use Rattle.rtx_tree.specs.declared.code.Mode.{Mode}
use Rattle.rtx_tree.specs.declared.constants.Constant.{Constant}
use Rattle.rtx_tree.specs.Code.{code_name, all_codes, code_named, code_in}
use Rattle.c_words.specs.declared.head.CondHead.{CondHead}
use Rattle.c_words.specs.declared.keyword.Keyword.{Keyword}
use Rattle.c_words.specs.declared.atom.Atom.TheVariants as atom
use Rattle.c_words.specs.declared.atom.Dialect.{Dialect}
use Rattle.c_words.specs.declared.atom.Dialect.TheVariants as dialect
use Rattle.c_words.specs.declared.atom.Property.TheVariants as property
use Rattle.c_words.specs.declared.token.Token.{Token}
use Rattle.c_words.specs.declared.token.Token.TheVariants as token
use Rattle.c_cond.specs.declared.part.Part.TheVariants as part
use Rattle.c_cond.specs.declared.goal.Goal.{Goal}
use Rattle.c_cond.specs.declared.goal.Goal.TheVariants as goal
use Rattle.c_words.specs.declared.head.Call.{Call}
use Rattle.c_words.specs.declared.head.Call.TheVariants as call
use Rattle.c_words.specs.declared.head.CondHead.TheVariants as head
use Rattle.c_words.specs.declared.keyword.Keyword.TheVariants as keyword
use Rattle.c_words.proofs.Codes.{none_that}
use Rattle.c_words.proofs.Listed.{Known, both, known_code, known_constant, known_keyword, known_mode, known_target, or_first, or_second, same_bytes}
use Rattle.c_words.specs.Words.{call_name, keyword_name, all_keywords, keyword_named, mode_named, small, is_small, code_in_capitals, is_target}
use Rattle.name_places.specs.Names.{constant_named}
use Rattle.c_words.specs.Atoms.{atom_of, atom_of_name, is_own_predicate, predicate_or_nothing, target_number}
use Rattle.c_words.specs.text_words.Numbers.{c_number_in}
use Rattle.c_words.specs.Tokens.{in_word, is_no_word, operator_with_equals, operator_of_two, token_of_byte, number_or_bad, token_of_run}
use Rattle.c_cond.specs.machine.Steps.{by_atom, operand_by, takes_expression, takes, passed}
use Rattle.c_cond.specs.machine.Front.{is_taken, run_taken, word_taken, run_goes_on, second_bytes, operator_taken, byte_goes_on}
use Rattle.c_words.specs.machine.Known.{known_words}
use Rattle.c_words.specs.declared.head.Binary.{Binary}
use Rattle.c_words.specs.declared.head.Binary.TheVariants as binary
use Rattle.c_cond.proofs.Shorter.{Shorter, shorter}

false_true : {A : Type 0} → false ≡ true → A
false_true e = absurd (apart e)
  where
    apart : false ≡ true → ⊥
    apart e = cc

-- ---- a token that is taken wherever another is

abbrev Wherever : Dialect → List Constant → Token → Token → Type 0
Wherever d cs t u = (g : Goal) → is_some (takes d cs g t []) ≡ true → is_some (takes d cs g u []) ≡ true

step : (x y p a b : Bool) → (x ≡ true → y ≡ true) → (a ≡ true → b ≡ true) → (x || (p && a)) ≡ true → (y || (p && b)) ≡ true
step true y p a b f g e = rw (f refl) refl
step false y true a b f g e = or_second y b (g e)
step false y false a b f g e = false_true e

pub taken_as : (d : Dialect) (cs : List Constant) (t u : Token) → Wherever d cs t u → (gs : List Goal) → is_taken d cs t gs ≡ true → is_taken d cs u gs ≡ true
taken_as d cs t u h [] e = e
taken_as d cs t u h (g ∷ gs) e =
    step (is_some (takes d cs g t [])) (is_some (takes d cs g u [])) (is_some (passed g)) (is_taken d cs t gs) (is_taken d cs u gs) (h g) (taken_as d cs t u h gs) e

-- ---- numbers

small_too : (n m k : ℕ) (x y : List Goal) → m ≤ n → is_some (cond (nat_lt n k) (Some x) None) ≡ true → is_some (cond (nat_lt m k) (Some y) None) ≡ true
small_too n m k x y le e = by_test (nat_lt n k) refl e
  where
    by_test : (t : Bool) → nat_lt n k ≡ t → is_some (cond t (Some x) None) ≡ true → is_some (cond (nat_lt m k) (Some y) None) ≡ true
    by_test true f e = let lt : nat_lt m k ≡ true = lt-ltb m k (omega (arith, ltb-true n k f)) in rw lt refl
    by_test false f e = false_true e

-- a number that is no greater is taken wherever a number is
number_less : (d : Dialect) (cs : List Constant) (n m : ℕ) → m ≤ n → Wherever d cs (token.Number n) (token.Number m)
number_less d cs n m le (goal.Part (part.Expression p)) e = refl
number_less d cs n m le (goal.Part part.Window) e = refl
number_less d cs n m le (goal.Part part.Operand) e = e
number_less d cs n m le (goal.Part part.AnyMode) e = e
number_less d cs n m le (goal.Part part.ValueMode) e = e
number_less d cs n m le (goal.Part part.Value) e = e
number_less d cs n m le goal.Index e = small_too n m (2 ^ 32) _ _ le e
number_less d cs n m le goal.Target e = small_too n m (2 ^ 32) _ _ le e
number_less d cs n m le goal.Condition e = refl
number_less d cs n m le (goal.Mark b) e = e
number_less d cs n m le (goal.Yield h) e = e
number_less d cs n m le (goal.More p q) e = e
number_less d cs n m le (goal.Comparison x) e = e
number_less d cs n m le (goal.Compared x y) e = e
number_less d cs n m le goal.Statement e = e
number_less d cs n m le goal.Else e = e
number_less d cs n m le goal.Statements e = e

bad_as : (d : Dialect) (cs : List Constant) (u : Token) → Wherever d cs token.Bad u
bad_as d cs u (goal.Part (part.Expression p)) e = false_true e
bad_as d cs u (goal.Part part.Window) e = false_true e
bad_as d cs u (goal.Part part.Operand) e = false_true e
bad_as d cs u (goal.Part part.AnyMode) e = false_true e
bad_as d cs u (goal.Part part.ValueMode) e = false_true e
bad_as d cs u (goal.Part part.Value) e = false_true e
bad_as d cs u goal.Index e = false_true e
bad_as d cs u goal.Target e = false_true e
bad_as d cs u goal.Condition e = false_true e
bad_as d cs u (goal.Mark b) e = false_true e
bad_as d cs u (goal.Yield h) e = false_true e
bad_as d cs u (goal.More p q) e = false_true e
bad_as d cs u (goal.Comparison x) e = false_true e
bad_as d cs u (goal.Compared x y) e = false_true e
bad_as d cs u goal.Statement e = false_true e
bad_as d cs u goal.Else e = false_true e
bad_as d cs u goal.Statements e = false_true e

-- ---- words that mean nothing by themselves

record Plain (word : List ℕ) : Type 0 where
  no_keyword : keyword_named word ≡ None
  no_mode : mode_named word ≡ None
  no_code : code_in_capitals word ≡ None

no_operand : {A : Type 0} (d : Dialect) (gs : List Goal) → is_some (operand_by d None gs) ≡ true → A
no_operand dialect.Condition gs e = false_true e
no_operand dialect.Test gs e = false_true e

-- such a word is taken only where an expression may begin
plain_as : (d : Dialect) (cs : List Constant) (word : List ℕ) (u : Token) → Plain word →
    ((p : ℕ) → is_some (by_atom p word (atom_of d cs word) []) ≡ true → is_some (takes_expression d cs p u []) ≡ true) → Wherever d cs (token.Word word) u
plain_as d cs word u w h (goal.Part (part.Expression p)) e = h p e
plain_as d cs word u w h (goal.Part part.Window) e = false_true e
plain_as d cs word u w h (goal.Part part.Operand) e = no_operand d [] (rw w.no_keyword at e)
plain_as d cs word u w h (goal.Part part.AnyMode) e = false_true (rw w.no_mode at e)
plain_as d cs word u w h (goal.Part part.ValueMode) e = false_true (rw w.no_mode at e)
plain_as d cs word u w h (goal.Part part.Value) e = no_operand d [] (rw w.no_keyword at e)
plain_as d cs word u w h goal.Index e = false_true e
plain_as d cs word u w h goal.Target e = false_true e
plain_as d cs word u w h goal.Condition e = h 0 e
plain_as d cs word u w h (goal.Mark b) e = false_true e
plain_as d cs word u w h (goal.Yield k) e = false_true e
plain_as d cs word u w h (goal.More p q) e = false_true e
plain_as d cs word u w h (goal.Comparison x) e = false_true e
plain_as d cs word u w h (goal.Compared property.Code y) e = false_true (rw w.no_code at e)
plain_as d cs word u w h (goal.Compared property.Mode y) e = false_true (rw w.no_mode at e)
plain_as d cs word u w h goal.Statement e = false_true (rw w.no_keyword at e)
plain_as d cs word u w h goal.Else e = false_true (rw w.no_keyword at e)
plain_as d cs word u w h goal.Statements e = false_true (rw w.no_keyword at e)

leaf_taken : (d : Dialect) (cs : List Constant) (p : ℕ) (word : List ℕ) (h : CondHead) → atom_of d cs word ≡ atom.Leaf h → is_some (takes_expression d cs p (token.Word word) []) ≡ true
leaf_taken d cs p word h e = rw e refl

predicate_taken : (d : Dialect) (cs : List Constant) (p : ℕ) (word : List ℕ) → atom_of d cs word ≡ atom.Predicate → is_some (takes_expression d cs p (token.Word word) []) ≡ true
predicate_taken d cs p word e = rw e refl

-- ---- a word with a zero behind it

last_of : List ℕ → ℕ
last_of [] = 0
last_of (b ∷ []) = b
last_of (b ∷ c ∷ bs) = last_of (c ∷ bs)

last_zero : (run : List ℕ) → last_of (run ++ 48 ∷ []) ≡ 48
unfolding last_of
last_zero [] = refl
last_zero (b ∷ []) = refl
last_zero (b ∷ c ∷ bs) = last_zero (c ∷ bs)

last_small : (run : List ℕ) → last_of (map small (run ++ 48 ∷ [])) ≡ 48
unfolding last_of
last_small [] = refl
last_small (b ∷ []) = refl
last_small (b ∷ c ∷ bs) = last_small (c ∷ bs)

-- words that end otherwise are not the same
other_end : (a b : List ℕ) → (last_of a == 48) ≡ false → last_of b ≡ 48 → bytes_eq a b ≡ false
other_end a b e f = by_test (bytes_eq a b) refl
  where
    by_test : (t : Bool) → bytes_eq a b ≡ t → bytes_eq a b ≡ false
    by_test false k = k
    by_test true k = false_true (sym e ∙ ap (λ (x : List ℕ). last_of x == 48) (same_bytes a b k) ∙ ap (λ (n : ℕ). n == 48) f)

other_end_back : (a b : List ℕ) → last_of a ≡ 48 → (last_of b == 48) ≡ false → bytes_eq a b ≡ false
other_end_back a b f e = by_test (bytes_eq a b) refl
  where
    by_test : (t : Bool) → bytes_eq a b ≡ t → bytes_eq a b ≡ false
    by_test false k = k
    by_test true k = false_true (sym e ∙ ap (λ (x : List ℕ). last_of x == 48) (sym (same_bytes a b k)) ∙ ap (λ (n : ℕ). n == 48) f)

call_end : (c : Call) → (last_of (call_name c) == 48) ≡ false
unfolding last_of
call_end call.CanCreatePseudo = refl
call_end _ = refl

keyword_end : (k : Keyword) → (last_of (keyword_name k) == 48) ≡ false
unfolding last_of
keyword_end (keyword.Call c) = call_end c
keyword_end _ = refl

code_end : (c : Code) → (last_of (code_name c) == 48) ≡ false
unfolding last_of
code_end code.Reg = refl
code_end _ = refl

zero_no_keyword : (run : List ℕ) → keyword_named (run ++ 48 ∷ []) ≡ None
zero_no_keyword run = none_that (λ k. bytes_eq (keyword_name k) (run ++ 48 ∷ [])) all_keywords (λ k. other_end (keyword_name k) (run ++ 48 ∷ []) (keyword_end k) (last_zero run))

zero_no_code : (run : List ℕ) → code_in_capitals (run ++ 48 ∷ []) ≡ None
unfolding last_of code_named
zero_no_code run = by_test (list_all (λ b. not (is_small b)) (run ++ 48 ∷ []))
  where
    no_return : bytes_eq (map small (run ++ 48 ∷ [])) (codes "simple_return") ≡ false
    no_return = other_end_back (map small (run ++ 48 ∷ [])) (codes "simple_return") (last_small run) refl

    none : code_in (map small (run ++ 48 ∷ [])) ≡ None
    none = rw no_return (none_that (λ c. bytes_eq (code_name c) (map small (run ++ 48 ∷ []))) all_codes (λ c. other_end (code_name c) (map small (run ++ 48 ∷ [])) (code_end c) (last_small run)))

    by_test : (t : Bool) → cond t (code_in (map small (run ++ 48 ∷ []))) None ≡ None
    by_test true = none
    by_test false = refl

zero_no_mode : (run : List ℕ) → mode_named (run ++ 48 ∷ []) ≡ None
unfolding last_of
zero_no_mode run =
    let v : bytes_eq (run ++ 48 ∷ []) (codes "VOIDmode") ≡ false = other_end_back (run ++ 48 ∷ []) (codes "VOIDmode") (last_zero run) refl in
    let q : bytes_eq (run ++ 48 ∷ []) (codes "QImode") ≡ false = other_end_back (run ++ 48 ∷ []) (codes "QImode") (last_zero run) refl in
    let h : bytes_eq (run ++ 48 ∷ []) (codes "HImode") ≡ false = other_end_back (run ++ 48 ∷ []) (codes "HImode") (last_zero run) refl in
    let s : bytes_eq (run ++ 48 ∷ []) (codes "SImode") ≡ false = other_end_back (run ++ 48 ∷ []) (codes "SImode") (last_zero run) refl in
    let d : bytes_eq (run ++ 48 ∷ []) (codes "DImode") ≡ false = other_end_back (run ++ 48 ∷ []) (codes "DImode") (last_zero run) refl in
    rw (v, q, h, s, d) refl

plain_zero : (run : List ℕ) → Plain (run ++ 48 ∷ [])
plain_zero run = record { no_keyword = zero_no_keyword run; no_mode = zero_no_mode run; no_code = zero_no_code run }

-- what a word means that means nothing by itself
plain_atom : (d : Dialect) (cs : List Constant) (word : List ℕ) → Plain word →
    atom_of d cs word ≡ cond (is_target word) (atom.Leaf (head.Number (target_number word))) (atom_of_name d word (constant_named cs word))
plain_atom d cs word w = rw w.no_keyword refl

plain_name : (d : Dialect) (word : List ℕ) → Plain word → atom_of_name d word None ≡ predicate_or_nothing d None None
plain_name d word w = rw (w.no_code, w.no_mode) refl

-- such a word begins an expression of a condition
plain_taken : (cs : List Constant) (p : ℕ) (word : List ℕ) → Plain word → is_some (takes_expression dialect.Condition cs p (token.Word word) []) ≡ true
plain_taken cs p word w = by_target (is_target word) refl
  where
    by_constant : (o : Option ℤ) → constant_named cs word ≡ o → is_target word ≡ false → is_some (takes_expression dialect.Condition cs p (token.Word word) []) ≡ true
    by_constant (Some n) e f = by_own (is_own_predicate dialect.Condition word) refl
      where
        by_own : (own : Bool) → is_own_predicate dialect.Condition word ≡ own → is_some (takes_expression dialect.Condition cs p (token.Word word) []) ≡ true
        by_own true o = predicate_taken dialect.Condition cs p word (plain_atom dialect.Condition cs word w ∙ rw (f, e, o) refl)
        by_own false o = leaf_taken dialect.Condition cs p word (head.Number n) (plain_atom dialect.Condition cs word w ∙ rw (f, e, o) refl)
    by_constant None e f =
        let is : atom_of_name dialect.Condition word (constant_named cs word) ≡ atom.Predicate = rw e (plain_name dialect.Condition word w) in
        predicate_taken dialect.Condition cs p word (plain_atom dialect.Condition cs word w ∙ rw f is)

    by_target : (t : Bool) → is_target word ≡ t → is_some (takes_expression dialect.Condition cs p (token.Word word) []) ≡ true
    by_target true f = leaf_taken dialect.Condition cs p word (head.Number (target_number word)) (plain_atom dialect.Condition cs word w ∙ rw f refl)
    by_target false f = by_constant (constant_named cs word) refl f

-- ---- runs

same_run : (run : List ℕ) → bytes_eq run run ≡ true
same_run run = (bytes_eq-Decides run run).1 refl

all_of_take : (p : ℕ → Bool) (n : ℕ) (xs : List ℕ) → list_all p xs ≡ true → list_all p (take n xs) ≡ true
all_of_take p zero xs e = refl
all_of_take p (suc n) [] e = refl
all_of_take p (suc n) (x ∷ xs) e = let f : (p x ≡ true) × (list_all p xs ≡ true) = both e in rw (f.0, all_of_take p n xs f.1) refl

abbrev Goes : Dialect → List Constant → List Goal → List ℕ → Type 0
Goes d cs gs run = run_goes_on d cs (known_words cs) gs run ≡ true

as_it_is : (d : Dialect) (cs : List Constant) (gs : List Goal) (run : List ℕ) → run_taken d cs gs run ≡ true → Goes d cs gs run
as_it_is d cs gs run e = or_first _ _ e

with_zero : (d : Dialect) (cs : List Constant) (gs : List Goal) (run : List ℕ) → run_taken d cs gs (run ++ 48 ∷ []) ≡ true → Goes d cs gs run
with_zero d cs gs run e = or_second _ _ (or_first _ _ e)

as_known : (d : Dialect) (cs : List Constant) (gs : List Goal) (run : List ℕ) → Known (word_taken d cs gs run) cs → Goes d cs gs run
unfolding Known
as_known d cs gs run e = or_second _ _ (or_second _ _ e)

-- a run goes on as itself with more behind it
itself : (d : Dialect) (cs : List Constant) (gs : List Goal) (run more : List ℕ) → list_all in_word more ≡ true → run_taken d cs gs (run ++ more) ≡ true → word_taken d cs gs run (run ++ more) ≡ true
itself d cs gs run more w e = rw (take-append_seam run more, drop-append_seam run more, same_run run, w, e) refl

no_word_too : (run more : List ℕ) → is_no_word (run ++ more) ≡ true → is_no_word run ≡ true
no_word_too [] more e = refl
no_word_too (b ∷ bs) more e = e

no_word_zero : (run more : List ℕ) → is_no_word (run ++ more) ≡ true → is_no_word (run ++ 48 ∷ []) ≡ true
no_word_zero [] more e = refl
no_word_zero (b ∷ bs) more e = e

number_token : (run : List ℕ) (n : ℕ) → is_no_word run ≡ true → c_number_in run ≡ Some n → token.Number n ≡ token_of_run run
number_token run n w e = rw (w, e) refl

number_goes : (d : Dialect) (cs : List Constant) (gs : List Goal) (run more : List ℕ) (o : Option ℕ) → c_number_in (run ++ more) ≡ o → is_no_word (run ++ more) ≡ true → is_taken d cs (number_or_bad o) gs ≡ true → Goes d cs gs run
number_goes d cs gs run more None e w t = as_it_is d cs gs run (taken_as d cs token.Bad (token_of_run run) (bad_as d cs (token_of_run run)) gs t)
number_goes d cs gs run more (Some n) e w t = by_run (shorter run more n e)
  where
    by_run : Shorter run n → Goes d cs gs run
    by_run (inl x) = as_it_is d cs gs run (subst (λ (u : Token). is_taken d cs u gs ≡ true) (number_token run x.0 (no_word_too run more w) x.1) (taken_as d cs (token.Number n) (token.Number x.0) (number_less d cs n x.0 x.2) gs t))
    by_run (inr f) = with_zero d cs gs run (subst (λ (u : Token). is_taken d cs u gs ≡ true) (number_token (run ++ 48 ∷ []) 0 (no_word_zero run more w) f) (taken_as d cs (token.Number n) (token.Number 0) (number_less d cs n 0 (omega arith)) gs t))

-- a name of a fact of the target
target_as : (d : Dialect) (cs : List Constant) (gs : List Goal) (word rest : List ℕ) → Plain word → is_taken d cs (token.Word word) gs ≡ true → run_taken d cs gs (codes "TARGET_" ++ rest) ≡ true
target_as d cs gs word rest w t =
    let named : List ℕ = codes "TARGET_" ++ rest in
    taken_as d cs (token.Word word) (token.Word named) (plain_as d cs word (token.Word named) w (λ p e. leaf_taken d cs p named (head.Number (target_number named)) refl)) gs t

target_goes : (d : Dialect) (cs : List Constant) (gs : List Goal) (run more : List ℕ) → list_all in_word more ≡ true → Plain (run ++ more) → is_target (run ++ more) ≡ true → is_taken d cs (token.Word (run ++ more)) gs ≡ true → Goes d cs gs run
target_goes d cs gs run more w plain f t = by_length (cases_lt (length run) 7)
  where
    begins : take 7 (run ++ more) ≡ codes "TARGET_"
    begins = same_bytes (take 7 (run ++ more)) (codes "TARGET_") f

    by_length : (length run < 7) ⊎ (7 ≤ length run) → Goes d cs gs run
    by_length (inl lt) =
        let n : ℕ = 7 - length run in
        let sum : length run + n ≡ 7 = omega arith in
        let whole : run ++ take n more ≡ codes "TARGET_" = sym (take-append-add run more n) ∙ ap (λ (k : ℕ). take k (run ++ more)) sum ∙ begins in
        let taken : run_taken d cs gs (run ++ take n more) ≡ true = subst (λ (x : List ℕ). run_taken d cs gs x ≡ true) (sym whole) (target_as d cs gs (run ++ more) [] plain t) in
        as_known d cs gs run (known_target cs (word_taken d cs gs run) (subst (λ (x : List ℕ). word_taken d cs gs run x ≡ true) whole (itself d cs gs run (take n more) (all_of_take in_word n more w) taken)))
    by_length (inr le) =
        let whole : codes "TARGET_" ++ drop 7 run ≡ run = ap (λ (x : List ℕ). x ++ drop 7 run) (sym (sym (take-append-le 7 run more le) ∙ begins)) ∙ take-append-drop 7 run in
        as_it_is d cs gs run (subst (λ (x : List ℕ). run_taken d cs gs x ≡ true) whole (target_as d cs gs (run ++ more) (drop 7 run) plain t))

-- a word that can only be a predicate
predicate_as : (cs : List Constant) (run more : List ℕ) → Plain (run ++ more) → is_no_word (run ++ more) ≡ false → Wherever dialect.Condition cs (token.Word (run ++ more)) (token_of_run (run ++ 48 ∷ []))
predicate_as cs [] more w e = plain_as dialect.Condition cs more (token.Number 0) w (λ p e. refl)
predicate_as cs (b ∷ bs) more w e =
    let word : List ℕ = b ∷ (bs ++ 48 ∷ []) in
    let is : token.Word word ≡ token_of_run word = rw e refl in
    subst (λ (u : Token). Wherever dialect.Condition cs (token.Word (b ∷ (bs ++ more))) u) is (plain_as dialect.Condition cs (b ∷ (bs ++ more)) (token.Word word) w (λ p e. plain_taken cs p word (plain_zero (b ∷ bs))))

-- no word that means nothing by itself is taken in a test
nothing_as : (cs : List Constant) (word : List ℕ) (u : Token) → Plain word → is_target word ≡ false → constant_named cs word ≡ None → Wherever dialect.Test cs (token.Word word) u
nothing_as cs word u w f c = plain_as dialect.Test cs word u w (λ p e. false_true (rw is at e))
  where
    is : atom_of dialect.Test cs word ≡ atom.Nothing
    is = plain_atom dialect.Test cs word w ∙ rw (f, c) (plain_name dialect.Test word w)

plain_goes : (d : Dialect) (cs : List Constant) (gs : List Goal) (run more : List ℕ) → Plain (run ++ more) → is_target (run ++ more) ≡ false → constant_named cs (run ++ more) ≡ None → is_no_word (run ++ more) ≡ false →
    is_taken d cs (token.Word (run ++ more)) gs ≡ true → Goes d cs gs run
plain_goes dialect.Condition cs gs run more w f c e t =
    with_zero dialect.Condition cs gs run (taken_as dialect.Condition cs (token.Word (run ++ more)) (token_of_run (run ++ 48 ∷ [])) (predicate_as cs run more w e) gs t)
plain_goes dialect.Test cs gs run more w f c e t =
    as_it_is dialect.Test cs gs run (taken_as dialect.Test cs (token.Word (run ++ more)) (token_of_run run) (nothing_as cs (run ++ more) (token_of_run run) w f c) gs t)

word_goes : (d : Dialect) (cs : List Constant) (gs : List Goal) (run more : List ℕ) → list_all in_word more ≡ true → is_no_word (run ++ more) ≡ false → is_taken d cs (token.Word (run ++ more)) gs ≡ true → run_taken d cs gs (run ++ more) ≡ true → Goes d cs gs run
word_goes d cs gs run more w n t whole = by_keyword (keyword_named (run ++ more)) refl
  where
    here : word_taken d cs gs run (run ++ more) ≡ true
    here = itself d cs gs run more w whole

    by_constant : Plain (run ++ more) → is_target (run ++ more) ≡ false → (o : Option ℤ) → constant_named cs (run ++ more) ≡ o → Goes d cs gs run
    by_constant p f (Some k) e = as_known d cs gs run (known_constant cs (word_taken d cs gs run) (run ++ more) k e here)
    by_constant p f None e = plain_goes d cs gs run more p f e n t

    by_target : Plain (run ++ more) → (b : Bool) → is_target (run ++ more) ≡ b → Goes d cs gs run
    by_target p true f = target_goes d cs gs run more w p f t
    by_target p false f = by_constant p f (constant_named cs (run ++ more)) refl

    by_code : keyword_named (run ++ more) ≡ None → mode_named (run ++ more) ≡ None → (o : Option Code) → code_in_capitals (run ++ more) ≡ o → Goes d cs gs run
    by_code k m (Some c) e = as_known d cs gs run (known_code cs (word_taken d cs gs run) (run ++ more) c e here)
    by_code k m None e = by_target (record { no_keyword = k; no_mode = m; no_code = e }) (is_target (run ++ more)) refl

    by_mode : keyword_named (run ++ more) ≡ None → (o : Option Mode) → mode_named (run ++ more) ≡ o → Goes d cs gs run
    by_mode k (Some m) e = as_known d cs gs run (known_mode cs (word_taken d cs gs run) (run ++ more) m e here)
    by_mode k None e = by_code k e (code_in_capitals (run ++ more)) refl

    by_keyword : (o : Option Keyword) → keyword_named (run ++ more) ≡ o → Goes d cs gs run
    by_keyword (Some k) e = as_known d cs gs run (known_keyword cs (word_taken d cs gs run) (run ++ more) k e here)
    by_keyword None e = by_mode e (mode_named (run ++ more)) refl

-- a run that becomes a token that is taken goes on
pub run_goes : (d : Dialect) (cs : List Constant) (gs : List Goal) (run more : List ℕ) → list_all in_word more ≡ true → is_taken d cs (token_of_run (run ++ more)) gs ≡ true → Goes d cs gs run
run_goes d cs gs run more w t = by_test (is_no_word (run ++ more)) refl t
  where
    by_test : (b : Bool) → is_no_word (run ++ more) ≡ b → is_taken d cs (cond b (number_or_bad (c_number_in (run ++ more))) (token.Word (run ++ more))) gs ≡ true → Goes d cs gs run
    by_test true e f = number_goes d cs gs run more (c_number_in (run ++ more)) refl e f
    by_test false e f = word_goes d cs gs run more w e f t

-- ---- operators

-- the second byte of an operator is one of five
operator_listed : (q : ℕ → Bool) (a b : ℕ) (operator : Binary) → operator_of_two a b ≡ Some operator → q b ≡ true → list_any q second_bytes ≡ true
operator_listed q a b operator e h = by_124 (b == 124) refl e
  where
    none_some : {A : Type 0} {x : A} → None ≡ Some x → ⊥
    none_some e = cc

    at : (k : ℕ) → (b == k) ≡ true → q k ≡ true
    at k f = ap q (sym (eqb-true b k f)) ∙ h

    by_62 : (t : Bool) → (b == 62) ≡ t → cond t (cond (a == 62) (Some binary.ShiftRight) None) None ≡ Some operator → list_any q (62 ∷ []) ≡ true
    by_62 true f e = or_first (q 62) false (at 62 f)
    by_62 false f e = absurd (none_some e)

    by_60 : (t : Bool) → (b == 60) ≡ t → cond t (cond (a == 60) (Some binary.ShiftLeft) None) (cond (b == 62) (cond (a == 62) (Some binary.ShiftRight) None) None) ≡ Some operator → list_any q (60 ∷ 62 ∷ []) ≡ true
    by_60 true f e = or_first (q 60) _ (at 60 f)
    by_60 false f e = or_second (q 60) (list_any q (62 ∷ [])) (by_62 (b == 62) refl e)

    by_61 : (t : Bool) → (b == 61) ≡ t →
        cond t (operator_with_equals a) (cond (b == 60) (cond (a == 60) (Some binary.ShiftLeft) None) (cond (b == 62) (cond (a == 62) (Some binary.ShiftRight) None) None)) ≡ Some operator → list_any q (61 ∷ 60 ∷ 62 ∷ []) ≡ true
    by_61 true f e = or_first (q 61) _ (at 61 f)
    by_61 false f e = or_second (q 61) (list_any q (60 ∷ 62 ∷ [])) (by_60 (b == 60) refl e)

    by_38 : (t : Bool) → (b == 38) ≡ t →
        cond t (cond (a == 38) (Some binary.And) None) (cond (b == 61) (operator_with_equals a) (cond (b == 60) (cond (a == 60) (Some binary.ShiftLeft) None) (cond (b == 62) (cond (a == 62) (Some binary.ShiftRight) None) None))) ≡ Some operator →
        list_any q (38 ∷ 61 ∷ 60 ∷ 62 ∷ []) ≡ true
    by_38 true f e = or_first (q 38) _ (at 38 f)
    by_38 false f e = or_second (q 38) (list_any q (61 ∷ 60 ∷ 62 ∷ [])) (by_61 (b == 61) refl e)

    by_124 : (t : Bool) → (b == 124) ≡ t →
        cond t (cond (a == 124) (Some binary.Or) None) (cond (b == 38) (cond (a == 38) (Some binary.And) None) (cond (b == 61) (operator_with_equals a) (cond (b == 60) (cond (a == 60) (Some binary.ShiftLeft) None) (cond (b == 62) (cond (a == 62) (Some binary.ShiftRight) None) None)))) ≡ Some operator →
        list_any q second_bytes ≡ true
    by_124 true f e = or_first (q 124) _ (at 124 f)
    by_124 false f e = or_second (q 124) (list_any q (38 ∷ 61 ∷ 60 ∷ 62 ∷ [])) (by_38 (b == 38) refl e)

-- a byte that becomes an operator that is taken goes on
pub byte_goes : (d : Dialect) (cs : List Constant) (gs : List Goal) (a b : ℕ) (operator : Binary) → operator_of_two a b ≡ Some operator → is_taken d cs (token.Operator operator) gs ≡ true → byte_goes_on d cs gs a ≡ true
byte_goes d cs gs a b operator e t = or_second (is_taken d cs (token_of_byte a) gs) _ (operator_listed (λ b. operator_taken d cs gs (operator_of_two a b)) a b operator e (rw e t))

-- How far a text goes on is how far some text begins with it, and no further.
use Rattle.std.proofs.Common.{◌≡◌, ℕ, zero, suc, ◌<◌, ◌≤◌, Bool, true, false, cond, List, [], ◌∷◌, ◌++◌, length, take, Option, Some, None, refl, sym, ap, subst, ◌∙◌, arith, ◌⊎◌, inl, inr, Err}
use Rattle.std.specs.Prelude.{option_and_then}
use Rattle.std.proofs.lemmas.List.Elements.{All-append}
use Rattle.std.proofs.lemmas.Bool.{cases_order}
use Rattle.rtx_tree.specs.declared.constants.Constant.{Constant}
use Rattle.c_words.specs.declared.head.CondHead.{CondHead}
use Rattle.c_words.specs.declared.atom.Dialect.{Dialect}
use Rattle.c_words.specs.declared.token.Token.{Token}
use Rattle.c_cond.specs.declared.goal.Goal.{Goal}
use Rattle.c_cond.specs.declared.goal.Goal.TheVariants as goal
use Rattle.c_cond.specs.declared.parser.Parser.{Parser}
use Rattle.c_words.specs.declared.lexer.Lexer.{Lexer}
use Rattle.c_words.specs.declared.lexer.Pending.{Pending}
use Rattle.c_words.specs.declared.lexer.Pending.TheVariants as pending
use Rattle.c_cond.specs.declared.tree.Tree.{Tree}
use Rattle.c_cond.specs.Tree.{tree_of}
use Rattle.c_words.specs.Tokens.{tokens_in}
use Rattle.c_cond.specs.Grammar.{Sort, Statements, Condition, Is, IsText}
use Rattle.c_cond.specs.declared.parse.CondRefusal.{CondRefusal}
use Rattle.c_cond.specs.declared.parse.CondRefusal.TheVariants as refusal
use Rattle.c_cond.specs.Answers.{Gives as GivesText}
use Rattle.c_cond.specs.machine.Refuses.{Refuses}
use Rattle.c_cond.specs.Beginning.{Begins, IsOutside}
use Rattle.c_words.specs.machine.Lexing.{read_in, read_all}
use Rattle.c_words.specs.machine.Lexing as lexing
use Rattle.c_cond.specs.machine.Steps.{at, next, finish, run, result_of}
use Rattle.c_cond.specs.machine.Front.{goes_on, if_goes_on, kept, one_more, reach}
use Rattle.c_words.specs.machine.Known.{known_words}
use Rattle.c_words.proofs.Lexes.{lexes}
use Rattle.c_cond.proofs.Fit.{fit, run_fits}
use Rattle.c_cond.proofs.Endings.{AreBytes, Ending, ending}
use Rattle.c_cond.proofs.Pendings.{split_off, Settled, settles, never}
use Rattle.c_cond.proofs.Growth.{heads_of_all}
use Rattle.c_cond.proofs.Answered.{is_condition, is_statements, read_condition, read_statements}

none_some : {A : Type 0} {x : A} → None ≡ Some x → ⊥
none_some e = cc

some_is : {A : Type 0} {x y : A} → Some x ≡ Some y → x ≡ y
some_is e = cc

-- what is made of tokens and others behind them
result_append : (d : Dialect) (cs : List Constant) (ts us : List Token) (p : Parser) → result_of d cs p (ts ++ us) ≡ option_and_then (λ q. result_of d cs q us) (run d cs p ts)
unfolding run
result_append d cs [] us p = refl
result_append d cs (t ∷ ts) us p = by_step (next d cs t p.code p.goals) (λ q. result_append d cs ts us q)
  where
    by_step : (o : Option Parser) → ((q : Parser) → result_of d cs q (ts ++ us) ≡ option_and_then (λ r. result_of d cs r us) (run d cs q ts)) →
        option_and_then (λ r. finish r.code r.goals) (option_and_then (λ q. run d cs q (ts ++ us)) o) ≡ option_and_then (λ r. result_of d cs r us) (option_and_then (λ q. run d cs q ts) o)
    by_step None ih = refl
    by_step (Some q) ih = ih q

result_behind : (d : Dialect) (cs : List Constant) (ts us : List Token) (p q : Parser) → run d cs p ts ≡ Some q → result_of d cs p (ts ++ us) ≡ result_of d cs q us
result_behind d cs ts us p q e = result_append d cs ts us p ∙ rw e refl

-- the tokens of a text, behind its first byte
behind_byte : (p : Pending) (b : ℕ) (bs : List ℕ) → read_all (lexing.at [] p) (b ∷ bs) ≡ (read_in [] p b).tokens ++ read_all (lexing.at [] (read_in [] p b).pending) bs
behind_byte p b bs = split_off (read_in [] p b).tokens (read_in [] p b).pending bs

-- what was kept goes on
pub record Kept (d : Dialect) (cs : List Constant) (words : List (List ℕ)) (p : Parser) (l : Lexer) (q : Parser) : Type 0 where
  pub ran : run d cs p l.tokens ≡ Some q
  pub on : goes_on d cs words q.goals l.pending ≡ true

kept_some : (d : Dialect) (cs : List Constant) (words : List (List ℕ)) (p q : Parser) (l : Lexer) → kept d cs words p l ≡ Some q → Kept d cs words p l q
kept_some d cs words p q l e = by_run (run d cs p l.tokens) refl e
  where
    by_test : (r : Parser) (t : Bool) → run d cs p l.tokens ≡ Some r → goes_on d cs words r.goals l.pending ≡ t → cond t (Some r) None ≡ Some q → Kept d cs words p l q
    by_test r false e f g = absurd (none_some g)
    by_test r true e f g = subst (λ (x : Parser). Kept d cs words p l x) (some_is g) (record { ran = e; on = f })

    by_run : (o : Option Parser) → run d cs p l.tokens ≡ o → option_and_then (if_goes_on d cs words l.pending) o ≡ Some q → Kept d cs words p l q
    by_run None e f = absurd (none_some f)
    by_run (Some r) e f = by_test r (goes_on d cs words r.goals l.pending) e refl f

-- what was not kept is no text, whatever stands behind it
kept_none : (d : Dialect) (cs : List Constant) (p : Parser) (l : Lexer) → kept d cs (known_words cs) p l ≡ None →
    (rest : List ℕ) (out : List CondHead) → result_of d cs p (l.tokens ++ read_all (lexing.at [] l.pending) rest) ≡ Some out → ⊥
kept_none d cs p l e rest out f = by_run (run d cs p l.tokens) refl e
  where
    some_none : {A : Type 0} {x : A} → Some x ≡ None → ⊥
    some_none e = cc

    by_test : (r : Parser) (t : Bool) → run d cs p l.tokens ≡ Some r → goes_on d cs (known_words cs) r.goals l.pending ≡ t → cond t (Some r) None ≡ None → ⊥
    by_test r true e g h = some_none h
    by_test r false e g h = never d cs r l.pending rest out g (sym (result_behind d cs l.tokens (read_all (lexing.at [] l.pending) rest) p r e) ∙ f)

    by_run : (o : Option Parser) → run d cs p l.tokens ≡ o → option_and_then (if_goes_on d cs (known_words cs) l.pending) o ≡ None → ⊥
    by_run None e g = none_some (sym (result_append d cs l.tokens (read_all (lexing.at [] l.pending) rest) p ∙ rw e refl) ∙ f)
    by_run (Some r) e g = by_test r (goes_on d cs (known_words cs) r.goals l.pending) e refl g

-- ---- how far a text goes on

-- bytes that make a text of these
pub record Front (d : Dialect) (cs : List Constant) (p : Parser) (w : Pending) (bytes : List ℕ) : Type 0 where
  pub more : List ℕ
  pub are_bytes : AreBytes more
  pub out : List CondHead
  pub made : result_of d cs p (read_all (lexing.at [] w) (bytes ++ more)) ≡ Some out

here : (d : Dialect) (cs : List Constant) (words : List (List ℕ)) (p : Parser) (w : Pending) → fit p.goals ≡ true → goes_on d cs words p.goals w ≡ true → Front d cs p w []
here d cs words p w f g =
    let s : Settled d cs p.goals w = settles d cs words p.goals w g in
    let x : (q : Parser) × (run d cs (at p.code p.goals) s.tokens ≡ Some q) = s.taken p.code in
    let e : Ending d cs (x.0).goals = ending d cs (x.0).goals (run_fits d cs s.tokens p x.0 f x.1) in
    let r : (out : List CondHead) × (result_of d cs x.0 e.tokens ≡ Some out) = e.reads (x.0).code in
    record {
      more = s.bytes ++ e.bytes;
      are_bytes = All-append (λ b. b < 256) s.bytes e.bytes s.are_bytes e.are_bytes;
      out = r.0;
      made = ap (result_of d cs p) (s.reads e.bytes ∙ ap (λ (ts : List Token). s.tokens ++ ts) (e.spelled [])) ∙ result_behind d cs s.tokens e.tokens p x.0 x.1 ∙ r.1;
    }

reach_begins : (d : Dialect) (cs : List Constant) (words : List (List ℕ)) (bs : List ℕ) (p : Parser) (w : Pending) → fit p.goals ≡ true → goes_on d cs words p.goals w ≡ true → Front d cs p w (take (reach d cs words p w bs) bs)
unfolding reach
reach_begins d cs words [] p w f g = here d cs words p w f g
reach_begins d cs words (b ∷ bs) p w f g = by_kept (kept d cs words p (read_in [] w b)) refl (λ q. reach_begins d cs words bs q (read_in [] w b).pending)
  where
    by_kept : (o : Option Parser) → kept d cs words p (read_in [] w b) ≡ o →
        ((q : Parser) → fit q.goals ≡ true → goes_on d cs words q.goals (read_in [] w b).pending ≡ true → Front d cs q (read_in [] w b).pending (take (reach d cs words q (read_in [] w b).pending bs) bs)) →
        Front d cs p w (take (one_more o (λ q. reach d cs words q (read_in [] w b).pending bs)) (b ∷ bs))
    by_kept None e ih = here d cs words p w f g
    by_kept (Some q) e ih =
        let l : Lexer = read_in [] w b in
        let k : Kept d cs words p l q = kept_some d cs words p q l e in
        let x : Front d cs q l.pending (take (reach d cs words q l.pending bs) bs) = ih q (run_fits d cs l.tokens p q f k.ran) k.on in
        record {
          more = x.more;
          are_bytes = x.are_bytes;
          out = x.out;
          made = ap (result_of d cs p) (behind_byte w b (take (reach d cs words q l.pending bs) bs ++ x.more))
              ∙ result_behind d cs l.tokens (read_all (lexing.at [] l.pending) (take (reach d cs words q l.pending bs) bs ++ x.more)) p q k.ran ∙ x.made;
        }

reach_longest : (d : Dialect) (cs : List Constant) (bs : List ℕ) (p : Parser) (w : Pending) (j : ℕ) → reach d cs (known_words cs) p w bs < j → j ≤ length bs →
    (more : List ℕ) (out : List CondHead) → result_of d cs p (read_all (lexing.at [] w) (take j bs ++ more)) ≡ Some out → ⊥
unfolding reach
reach_longest d cs [] p w j lt le more out e = absurd (omega (arith, lt, le))
reach_longest d cs (b ∷ bs) p w zero lt le more out e = absurd (omega (arith, lt))
reach_longest d cs (b ∷ bs) p w (suc j) lt le more out e = by_kept (kept d cs (known_words cs) p (read_in [] w b)) refl lt (λ q. reach_longest d cs bs q (read_in [] w b).pending j)
  where
    l : Lexer
    l = read_in [] w b

    behind : result_of d cs p ((read_in [] w b).tokens ++ read_all (lexing.at [] (read_in [] w b).pending) (take j bs ++ more)) ≡ Some out
    behind = ap (result_of d cs p) (sym (behind_byte w b (take j bs ++ more))) ∙ e

    by_kept : (o : Option Parser) → kept d cs (known_words cs) p (read_in [] w b) ≡ o → one_more o (λ q. reach d cs (known_words cs) q (read_in [] w b).pending bs) < suc j →
        ((q : Parser) → reach d cs (known_words cs) q (read_in [] w b).pending bs < j → j ≤ length bs →
        (more : List ℕ) (out : List CondHead) → result_of d cs q (read_all (lexing.at [] (read_in [] w b).pending) (take j bs ++ more)) ≡ Some out → ⊥) → ⊥
    by_kept None k lt ih = kept_none d cs p (read_in [] w b) k (take j bs ++ more) out behind
    by_kept (Some q) k lt ih =
        ih q (omega (arith, lt)) (omega (arith, le)) more out
        (sym (result_behind d cs (read_in [] w b).tokens (read_all (lexing.at [] (read_in [] w b).pending) (take j bs ++ more)) p q (kept_some d cs (known_words cs) p q (read_in [] w b) k).ran) ∙ behind)

reach_within : (d : Dialect) (cs : List Constant) (words : List (List ℕ)) (bs : List ℕ) (p : Parser) (w : Pending) → reach d cs words p w bs ≤ length bs
unfolding reach
reach_within d cs words [] p w = omega arith
reach_within d cs words (b ∷ bs) p w = by_kept (kept d cs words p (read_in [] w b)) (λ q. reach_within d cs words bs q (read_in [] w b).pending)
  where
    by_kept : (o : Option Parser) → ((q : Parser) → reach d cs words q (read_in [] w b).pending bs ≤ length bs) → one_more o (λ q. reach d cs words q (read_in [] w b).pending bs) ≤ length (b ∷ bs)
    by_kept None ih = omega arith
    by_kept (Some q) ih = omega (arith, ih q)

-- ---- the place of a refusal

-- where parsing begins
abbrev start : Goal → Parser
start g = at [] (g ∷ [])

-- The place where a text stops, for a sort of which the parser makes the trees.
place : (d : Dialect) (cs : List Constant) (sort : Sort) (g : Goal) → fit (g ∷ []) ≡ true →
    ((ts : List Token) (out : List CondHead) → result_of d cs (start g) ts ≡ Some out → (t : Tree) × Is d cs sort (t ∷ []) ts) →
    ((ts : List Token) (t : Tree) → Is d cs sort (t ∷ []) ts → (out : List CondHead) × (result_of d cs (start g) ts ≡ Some out)) →
    (text : List ℕ) (offset : ℕ) → offset ≡ reach d cs (known_words cs) (start g) pending.Nothing text → result_of d cs (start g) (tokens_in text) ≡ None → IsOutside (IsText d cs sort) text offset
place d cs sort g f sound complete text offset e none = subst (λ (k : ℕ). IsOutside (IsText d cs sort) text k) (sym e) (record {
  in_text = reach_within d cs (known_words cs) text (start g) pending.Nothing;
  begins = begun (reach_begins d cs (known_words cs) text (start g) pending.Nothing f refl);
  longest = λ j lt le b. let x : (out : List CondHead) × (result_of d cs (start g) (tokens_in (take j text ++ b.more)) ≡ Some out) = complete (tokens_in (take j text ++ b.more)) b.tree b.text in
      reach_longest d cs text (start g) pending.Nothing j lt le b.more x.0 (ap (result_of d cs (start g)) (lexes (take j text ++ b.more)) ∙ x.1);
  no_text = λ t i. let x : (out : List CondHead) × (result_of d cs (start g) (tokens_in text) ≡ Some out) = complete (tokens_in text) t i in none_some (sym none ∙ x.1);
})
  where
    begun : {bytes : List ℕ} → Front d cs (start g) pending.Nothing bytes → Begins (IsText d cs sort) bytes
    begun {bytes} x =
        let t : (t : Tree) × Is d cs sort (t ∷ []) (tokens_in (bytes ++ x.more)) = sound (tokens_in (bytes ++ x.more)) x.out (ap (result_of d cs (start g)) (sym (lexes (bytes ++ x.more))) ∙ x.made) in
        record { more = x.more; are_bytes = x.are_bytes; tree = t.0; text = t.1 }

outside_condition : (d : Dialect) (cs : List Constant) (text : List ℕ) (offset : ℕ) → offset ≡ reach d cs (known_words cs) (at [] (goal.Condition ∷ [])) pending.Nothing text →
    result_of d cs (at [] (goal.Condition ∷ [])) (tokens_in text) ≡ None → IsOutside (IsText d cs Condition) text offset
outside_condition d cs text offset e none =
    place d cs Condition goal.Condition refl (λ ts out f. (tree_of out, (is_condition d cs out ts f).is)) (λ ts t i. (heads_of_all (t ∷ []), read_condition d cs t ts i)) text offset e none

outside_statements : (d : Dialect) (cs : List Constant) (text : List ℕ) (offset : ℕ) → offset ≡ reach d cs (known_words cs) (at [] (goal.Statements ∷ [])) pending.Nothing text →
    result_of d cs (at [] (goal.Statements ∷ [])) (tokens_in text) ≡ None → IsOutside (IsText d cs Statements) text offset
outside_statements d cs text offset e none =
    place d cs Statements goal.Statements refl (λ ts out f. (tree_of out, (is_statements d cs out ts f).is)) (λ ts t i. (heads_of_all (t ∷ []), read_statements d cs t ts i)) text offset e none

pub refused_condition : (d : Dialect) (cs : List Constant) (text : List ℕ) (r : CondRefusal) → Refuses r (reach d cs (known_words cs) (at [] (goal.Condition ∷ [])) pending.Nothing text) →
    result_of d cs (at [] (goal.Condition ∷ [])) (tokens_in text) ≡ None → GivesText (IsText d cs Condition) text (Err r)
refused_condition d cs text (refusal.Outside offset) e none = outside_condition d cs text offset e none
refused_condition d cs text refusal.Memory e none = tt

pub refused_statements : (d : Dialect) (cs : List Constant) (text : List ℕ) (r : CondRefusal) → Refuses r (reach d cs (known_words cs) (at [] (goal.Statements ∷ [])) pending.Nothing text) →
    result_of d cs (at [] (goal.Statements ∷ [])) (tokens_in text) ≡ None → GivesText (IsText d cs Statements) text (Err r)
refused_statements d cs text (refusal.Outside offset) e none = outside_statements d cs text offset e none
refused_statements d cs text refusal.Memory e none = tt

-- a text stops at one place only
pub one_place : (A : List ℕ → Tree → Type 0) (text : List ℕ) (a b : ℕ) → IsOutside A text a → IsOutside A text b → a ≡ b
one_place A text a b x y = by_order (cases_order a b)
  where
    by_order : (a ≡ b) ⊎ ((a < b) ⊎ (b < a)) → a ≡ b
    by_order (inl e) = e
    by_order (inr (inl lt)) = absurd (x.longest b lt y.in_text y.begins)
    by_order (inr (inr lt)) = absurd (y.longest a lt x.in_text x.begins)

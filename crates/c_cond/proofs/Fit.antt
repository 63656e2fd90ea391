-- What a parser wants of a text can always come: each list of goals that it comes to fits.
use Rattle.std.proofs.Common.{◌≡◌, ℕ, Bool, true, false, cond, List, [], ◌∷◌, ◌++◌, Option, Some, None, refl, subst, ◌&&◌, nat_le, nat_lt, ◌==◌, ◌^◌}
use Rattle.std.specs.Prelude.{option_map, option_and_then}
use Rattle.std.specs.List.{list_any}
use Rattle.rtx_tree.specs.declared.constants.Constant.{Constant}
use Rattle.c_words.specs.declared.head.Unary.{Unary}
use Rattle.c_words.specs.declared.head.CondHead.{CondHead}
use Rattle.c_words.specs.declared.head.CondHead.TheVariants as head
use Rattle.c_words.specs.declared.head.Call.TheVariants as call
use Rattle.c_words.specs.declared.keyword.Keyword.{Keyword}
use Rattle.c_words.specs.declared.keyword.Keyword.TheVariants as keyword
use Rattle.c_words.specs.declared.atom.Atom.{Atom}
use Rattle.c_words.specs.declared.atom.Atom.TheVariants as atom
use Rattle.c_words.specs.declared.atom.Dialect.{Dialect}
use Rattle.c_words.specs.declared.atom.Dialect.TheVariants as dialect
use Rattle.c_words.specs.declared.atom.Property.{Property}
use Rattle.c_words.specs.declared.token.Token.{Token}
use Rattle.c_words.specs.declared.token.Token.TheVariants as token
use Rattle.c_cond.specs.declared.part.Part.{Part}
use Rattle.c_cond.specs.declared.part.Part.TheVariants as part
use Rattle.c_cond.specs.declared.part.Signature.{Signature}
use Rattle.c_cond.specs.declared.part.Signature.TheVariants as signature
use Rattle.c_cond.specs.declared.goal.Goal.{Goal}
use Rattle.c_cond.specs.declared.goal.Goal.TheVariants as goal
use Rattle.c_cond.specs.declared.parser.Parser.{Parser}
use Rattle.c_words.proofs.Listed.{both}
use Rattle.c_words.specs.Words.{keyword_named, mode_named}
use Rattle.c_words.specs.Atoms.{atom_of}
use Rattle.c_cond.specs.Grammar.{open_round, open_brace, question, level, equality, unary_of, signature_of, is_maker, comparison_of, comparison_with, value_mode_named}
use Rattle.c_cond.specs.machine.Steps.{call_then, by_atom, primary, by_unary, takes_question, takes_more, operand_by, takes_operand, value_by, takes_value, takes_any_mode, takes_value_mode, takes_window, takes_part, statement_by, takes_statement, else_by, takes_else, is_mark, takes_compared, takes_index, takes_target, takes, passed, taken_or, next, run}

-- the marks that end what stands before them
abbrev pub closing_marks : List ℕ
closing_marks = 41 ∷ 44 ∷ 58 ∷ 59 ∷ 61 ∷ 93 ∷ 125 ∷ []

-- the marks that a goal may want
abbrev pub marks : List ℕ
marks = 40 ∷ 91 ∷ closing_marks

abbrev pub is_closing : ℕ → Bool
is_closing b = list_any (λ m. b == m) closing_marks

abbrev pub is_wanted : ℕ → Bool
is_wanted b = list_any (λ m. b == m) marks

-- where goals are passed over that may be, the text ends, or a mark comes that ends what stands before it
abbrev pub calm : List Goal → Bool
calm [] = true
calm (goal.Mark b ∷ gs) = is_closing b
calm (goal.Yield h ∷ gs) = calm gs
calm (goal.More p q ∷ gs) = calm gs
calm (goal.Else ∷ gs) = calm gs
calm (goal.Statements ∷ gs) = calm gs
calm (goal.Condition ∷ gs) = calm gs
calm (_ ∷ gs) = false

-- goals that a text can meet: behind each but a mark, what comes is calm
abbrev pub fit : List Goal → Bool
fit [] = true
fit (goal.Mark b ∷ gs) = is_wanted b && fit gs
fit (_ ∷ gs) = calm gs && fit gs

-- the goals, where there are any, fit
abbrev Stays : Option (List Goal) → Type 0
Stays None = Unit {0}
Stays (Some gs) = fit gs ≡ true

if_stays : (b : Bool) (gs : List Goal) → fit gs ≡ true → Stays (cond b (Some gs) None)
if_stays true gs e = e
if_stays false gs e = tt

if_option : (b : Bool) (o : Option (List Goal)) → Stays o → Stays (cond b o None)
if_option true o e = e
if_option false o e = tt

map_stays : {A : Type 0} (f : A → List Goal) (o : Option A) → ((x : A) → fit (f x) ≡ true) → Stays (option_map f o)
map_stays f None h = tt
map_stays f (Some x) h = h x

call_fits : (parts : Signature) (h : CondHead) (gs : List Goal) → calm gs ≡ true → fit gs ≡ true → fit (call_then parts h gs) ≡ true
call_fits signature.None h gs c f = rw (c, f) refl
call_fits (signature.One x) h gs c f = rw (c, f) refl
call_fits (signature.Two x y) h gs c f = rw (c, f) refl
call_fits (signature.Three x y z) h gs c f = rw (c, f) refl

more_fits : (p q : ℕ) (gs : List Goal) → calm gs ≡ true → fit gs ≡ true → fit (goal.More p q ∷ gs) ≡ true
more_fits p q gs c f = rw (c, f) refl

atom_stays : (p : ℕ) (word : List ℕ) (a : Atom) (gs : List Goal) → calm gs ≡ true → fit gs ≡ true → Stays (by_atom p word a gs)
atom_stays p word (atom.Leaf h) gs c f = rw (c, f) refl
atom_stays p word (atom.Call k) gs c f = call_fits (signature_of k) (head.Call k) (goal.More p 11 ∷ gs) c (more_fits p 11 gs c f)
atom_stays p word (atom.Compare property) gs c f = if_stays (nat_le p equality) _ (rw (c, f) refl)
atom_stays p word atom.Predicate gs c f = rw (c, f) refl
atom_stays p word atom.Nothing gs c f = tt

primary_stays : (d : Dialect) (cs : List Constant) (p : ℕ) (t : Token) (gs : List Goal) → calm gs ≡ true → fit gs ≡ true → Stays (primary d cs p t gs)
primary_stays d cs p (token.Number n) gs c f = rw (c, f) refl
primary_stays d cs p (token.Word word) gs c f = atom_stays p word (atom_of d cs word) gs c f
primary_stays d cs p (token.Mark b) gs c f = if_stays (b == open_round) _ (rw (c, f) refl)
primary_stays d cs p (token.Operator op) gs c f = tt
primary_stays d cs p token.Bad gs c f = tt

unary_stays : (d : Dialect) (cs : List Constant) (p : ℕ) (t : Token) (gs : List Goal) (u : Option Unary) → calm gs ≡ true → fit gs ≡ true → Stays (by_unary d cs p t gs u)
unary_stays d cs p t gs (Some u) c f = rw (c, f) refl
unary_stays d cs p t gs None c f = primary_stays d cs p t gs c f

more_stays : (p q : ℕ) (t : Token) (gs : List Goal) → calm gs ≡ true → fit gs ≡ true → Stays (takes_more p q t gs)
more_stays p q (token.Operator op) gs c f = if_stays (nat_le p (level op) && nat_le (level op) q) _ (rw (c, f) refl)
more_stays p q (token.Mark b) gs c f = if_option (b == question) (takes_question p q gs) (if_stays (nat_le p 0 && nat_le 1 q) _ (rw (c, f) refl))
more_stays p q (token.Number n) gs c f = tt
more_stays p q (token.Word word) gs c f = tt
more_stays p q token.Bad gs c f = tt

operand_by_stays : (d : Dialect) (k : Option Keyword) (gs : List Goal) → calm gs ≡ true → fit gs ≡ true → Stays (operand_by d k gs)
operand_by_stays dialect.Condition (Some keyword.Operands) gs c f = rw (c, f) refl
operand_by_stays dialect.Test (Some keyword.Op) gs c f = rw (c, f) refl
operand_by_stays _ _ gs c f = tt

operand_stays : (d : Dialect) (t : Token) (gs : List Goal) → calm gs ≡ true → fit gs ≡ true → Stays (takes_operand d t gs)
operand_stays d (token.Word word) gs c f = operand_by_stays d (keyword_named word) gs c f
operand_stays d _ gs c f = tt

value_by_stays : (d : Dialect) (k : Option Keyword) (gs : List Goal) → calm gs ≡ true → fit gs ≡ true → Stays (value_by d k gs)
value_by_stays d (Some (keyword.Call k)) gs c f = if_stays (is_maker k) _ (call_fits (signature_of k) (head.Call k) gs c f)
value_by_stays d k gs c f = operand_by_stays d k gs c f

value_stays : (d : Dialect) (t : Token) (gs : List Goal) → calm gs ≡ true → fit gs ≡ true → Stays (takes_value d t gs)
value_stays d (token.Word word) gs c f = value_by_stays d (keyword_named word) gs c f
value_stays d _ gs c f = tt

yield_fits : (h : CondHead) (gs : List Goal) → calm gs ≡ true → fit gs ≡ true → fit (goal.Yield h ∷ gs) ≡ true
yield_fits h gs c f = rw (c, f) refl

any_mode_stays : (t : Token) (gs : List Goal) → calm gs ≡ true → fit gs ≡ true → Stays (takes_any_mode t gs)
any_mode_stays (token.Word word) gs c f = map_stays _ (mode_named word) (λ m. yield_fits (head.Mode m) gs c f)
any_mode_stays _ gs c f = tt

value_mode_stays : (t : Token) (gs : List Goal) → calm gs ≡ true → fit gs ≡ true → Stays (takes_value_mode t gs)
value_mode_stays (token.Word word) gs c f = map_stays _ (value_mode_named word) (λ m. yield_fits (head.Mode m) gs c f)
value_mode_stays _ gs c f = tt

window_stays : (t : Token) (gs : List Goal) → calm gs ≡ true → fit gs ≡ true → Stays (takes_window t gs)
window_stays (token.Number n) gs c f = yield_fits (head.Window n) gs c f
window_stays _ gs c f = tt

part_stays : (d : Dialect) (cs : List Constant) (x : Part) (t : Token) (gs : List Goal) → calm gs ≡ true → fit gs ≡ true → Stays (takes_part d cs x t gs)
part_stays d cs (part.Expression p) t gs c f = unary_stays d cs p t gs (unary_of t) c f
part_stays d cs part.Operand t gs c f = operand_stays d t gs c f
part_stays d cs part.Window t gs c f = window_stays t gs c f
part_stays d cs part.AnyMode t gs c f = any_mode_stays t gs c f
part_stays d cs part.ValueMode t gs c f = value_mode_stays t gs c f
part_stays d cs part.Value t gs c f = value_stays d t gs c f

statement_by_stays : (k : Option Keyword) (gs : List Goal) → calm gs ≡ true → fit gs ≡ true → Stays (statement_by k gs)
statement_by_stays (Some keyword.Operands) gs c f = rw (c, f) refl
statement_by_stays (Some keyword.If) gs c f = rw (c, f) refl
statement_by_stays (Some keyword.Done) gs c f = rw (c, f) refl
statement_by_stays (Some keyword.Fail) gs c f = rw (c, f) refl
statement_by_stays (Some (keyword.Call call.EmitMove)) gs c f = rw f refl
statement_by_stays _ gs c f = tt

statement_stays : (t : Token) (gs : List Goal) → calm gs ≡ true → fit gs ≡ true → Stays (takes_statement t gs)
statement_stays (token.Word word) gs c f = statement_by_stays (keyword_named word) gs c f
statement_stays (token.Mark b) gs c f = if_stays (b == open_brace) _ (rw f refl)
statement_stays (token.Number n) gs c f = tt
statement_stays (token.Operator op) gs c f = tt
statement_stays token.Bad gs c f = tt

else_by_stays : (k : Option Keyword) (gs : List Goal) → calm gs ≡ true → fit gs ≡ true → Stays (else_by k gs)
else_by_stays (Some keyword.Else) gs c f = rw (c, f) refl
else_by_stays _ gs c f = tt

else_stays : (t : Token) (gs : List Goal) → calm gs ≡ true → fit gs ≡ true → Stays (takes_else t gs)
else_stays (token.Word word) gs c f = else_by_stays (keyword_named word) gs c f
else_stays _ gs c f = tt

compared_fits : (property : Property) (equal : Bool) (gs : List Goal) → calm gs ≡ true → fit gs ≡ true → fit (goal.Compared property equal ∷ gs) ≡ true
compared_fits property equal gs c f = rw (c, f) refl

compared_stays : (property : Property) (equal : Bool) (t : Token) (gs : List Goal) → calm gs ≡ true → fit gs ≡ true → Stays (takes_compared property equal t gs)
compared_stays property equal (token.Word word) gs c f = map_stays _ (comparison_with property equal word) (λ h. yield_fits h gs c f)
compared_stays property equal _ gs c f = tt

index_stays : (t : Token) (gs : List Goal) → calm gs ≡ true → fit gs ≡ true → Stays (takes_index t gs)
index_stays (token.Number k) gs c f = if_stays (nat_lt k (2 ^ 32)) _ (rw f refl)
index_stays _ gs c f = tt

target_stays : (t : Token) (gs : List Goal) → calm gs ≡ true → fit gs ≡ true → Stays (takes_target t gs)
target_stays (token.Number k) gs c f = if_stays (nat_lt k (2 ^ 32)) _ (rw (c, f) refl)
target_stays _ gs c f = tt

behind_fits : (gs : List Goal) → calm gs ≡ true → fit gs ≡ true → fit (goal.Statements ∷ goal.Yield head.Then ∷ gs) ≡ true
behind_fits gs c f = rw (c, f) refl

takes_stays : (d : Dialect) (cs : List Constant) (g : Goal) (t : Token) (gs : List Goal) → fit (g ∷ gs) ≡ true → Stays (takes d cs g t gs)
takes_stays d cs (goal.Mark b) t gs e = if_stays (is_mark b t) gs (both e).1
takes_stays d cs (goal.Yield h) t gs e = tt
takes_stays d cs (goal.Part x) t gs e = part_stays d cs x t gs (both e).0 (both e).1
takes_stays d cs (goal.More p q) t gs e = more_stays p q t gs (both e).0 (both e).1
takes_stays d cs (goal.Comparison property) t gs e = map_stays _ (comparison_of t) (λ equal. compared_fits property equal gs (both e).0 (both e).1)
takes_stays d cs (goal.Compared property equal) t gs e = compared_stays property equal t gs (both e).0 (both e).1
takes_stays d cs goal.Index t gs e = index_stays t gs (both e).0 (both e).1
takes_stays d cs goal.Target t gs e = target_stays t gs (both e).0 (both e).1
takes_stays d cs goal.Statement t gs e = statement_stays t gs (both e).0 (both e).1
takes_stays d cs goal.Else t gs e = else_stays t gs (both e).0 (both e).1
takes_stays d cs goal.Statements t gs e = statement_stays t (goal.Statements ∷ goal.Yield head.Then ∷ gs) (both e).0 (behind_fits gs (both e).0 (both e).1)
takes_stays d cs goal.Condition t gs e = unary_stays d cs 0 t gs (unary_of t) (both e).0 (both e).1

pub rest_fits : (g : Goal) (gs : List Goal) → fit (g ∷ gs) ≡ true → fit gs ≡ true
rest_fits (goal.Mark b) gs e = (both e).1
rest_fits _ gs e = (both e).1

-- ---- tokens

some_is : {A : Type 0} {x y : A} → Some x ≡ Some y → x ≡ y
some_is e = cc

none_some : {A : Type 0} {x : A} → None ≡ Some x → ⊥
none_some e = cc

pub next_fits : (d : Dialect) (cs : List Constant) (t : Token) (code : List CondHead) (gs : List Goal) (p : Parser) → fit gs ≡ true → next d cs t code gs ≡ Some p → fit p.goals ≡ true
next_fits d cs t code [] p f e = absurd (none_some e)
next_fits d cs t code (g ∷ gs) p f e = by_answer (takes d cs g t gs) (takes_stays d cs g t gs f) (passed g) e (λ heads. next_fits d cs t (code ++ heads) gs p (rest_fits g gs f))
  where
    by_answer : (o : Option (List Goal)) → Stays o → (h : Option (List CondHead)) → taken_or code o (option_and_then (λ heads. next d cs t (code ++ heads) gs) h) ≡ Some p →
        ((heads : List CondHead) → next d cs t (code ++ heads) gs ≡ Some p → fit p.goals ≡ true) → fit p.goals ≡ true
    by_answer (Some new) s h e ih = subst (λ (x : Parser). fit x.goals ≡ true) (some_is e) s
    by_answer None s (Some heads) e ih = ih heads e
    by_answer None s None e ih = absurd (none_some e)

pub run_fits : (d : Dialect) (cs : List Constant) (ts : List Token) (p q : Parser) → fit p.goals ≡ true → run d cs p ts ≡ Some q → fit q.goals ≡ true
unfolding run
run_fits d cs [] p q f e = subst (λ (x : Parser). fit x.goals ≡ true) (some_is e) f
run_fits d cs (t ∷ ts) p q f e = by_step (next d cs t p.code p.goals) refl e (λ r. run_fits d cs ts r q)
  where
    by_step : (o : Option Parser) → next d cs t p.code p.goals ≡ o → option_and_then (λ r. run d cs r ts) o ≡ Some q → ((r : Parser) → fit r.goals ≡ true → run d cs r ts ≡ Some q → fit q.goals ≡ true) → fit q.goals ≡ true
    by_step None n e ih = absurd (none_some e)
    by_step (Some r) n e ih = ih r (next_fits d cs t p.code p.goals r f n) e

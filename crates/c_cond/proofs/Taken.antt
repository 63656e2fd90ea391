-- A token is taken where the parser goes on by it, whatever stands behind the goal that takes it.
use Rattle.std.proofs.Common.{◌≡◌, ℕ, Bool, true, false, cond, List, [], ◌∷◌, ◌++◌, Option, Some, None, refl, sym, ap, ◌∙◌, ◌||◌, ◌&&◌, nat_le, nat_lt, ◌==◌, ◌^◌}
use Rattle.std.specs.Prelude.{option_map, option_and_then}
use Rattle.std.specs.Option.{is_some}
use Rattle.rtx_tree.specs.declared.constants.Constant.{Constant}
use Rattle.c_words.specs.declared.head.Unary.{Unary}
use Rattle.c_words.specs.declared.head.CondHead.{CondHead}
use Rattle.c_words.specs.declared.head.CondHead.TheVariants as head
use Rattle.c_words.specs.declared.head.Call.TheVariants as call
use Rattle.c_words.specs.declared.keyword.Keyword.{Keyword}
use Rattle.c_words.specs.declared.keyword.Keyword.TheVariants as keyword
use Rattle.c_words.specs.declared.atom.Atom.{Atom}
use Rattle.c_words.specs.declared.atom.Atom.TheVariants as atom
use Rattle.c_words.specs.declared.atom.Dialect.{Dialect}
use Rattle.c_words.specs.declared.atom.Dialect.TheVariants as dialect
use Rattle.c_words.specs.declared.atom.Property.{Property}
use Rattle.c_words.specs.declared.token.Token.{Token}
use Rattle.c_words.specs.declared.token.Token.TheVariants as token
use Rattle.c_cond.specs.declared.part.Part.{Part}
use Rattle.c_cond.specs.declared.part.Part.TheVariants as part
use Rattle.c_cond.specs.declared.goal.Goal.{Goal}
use Rattle.c_cond.specs.declared.goal.Goal.TheVariants as goal
use Rattle.c_cond.specs.declared.parser.Parser.{Parser}
use Rattle.c_words.specs.Words.{keyword_named, mode_named}
use Rattle.c_words.specs.Atoms.{atom_of}
use Rattle.c_cond.specs.Grammar.{open_round, open_brace, question, level, equality, unary_of, is_maker, comparison_of, comparison_with, value_mode_named}
use Rattle.c_cond.specs.machine.Steps.{by_atom, primary, by_unary, takes_question, takes_more, operand_by, takes_operand, value_by, takes_value, takes_any_mode, takes_value_mode, takes_window, takes_part, statement_by, takes_statement, else_by, takes_else, is_mark, takes_compared, takes_index, takes_target, takes, passed, taken_or, next}
use Rattle.c_cond.specs.machine.Front.{is_taken}

-- whether a goal takes a token does not depend on what stands behind it
abbrev Same : Option (List Goal) → Option (List Goal) → Type 0
Same a b = is_some a ≡ is_some b

if_same : (b : Bool) (x y : List Goal) → Same (cond b (Some x) None) (cond b (Some y) None)
if_same true x y = refl
if_same false x y = refl

if_both : (b : Bool) (x y : Option (List Goal)) → Same x y → Same (cond b x None) (cond b y None)
if_both true x y e = e
if_both false x y e = refl

map_same : {A : Type 0} (f g : A → List Goal) (o : Option A) → Same (option_map f o) (option_map g o)
map_same f g None = refl
map_same f g (Some x) = refl

same_atom : (p : ℕ) (word : List ℕ) (a : Atom) (gs hs : List Goal) → Same (by_atom p word a gs) (by_atom p word a hs)
same_atom p word (atom.Leaf h) gs hs = refl
same_atom p word (atom.Call c) gs hs = refl
same_atom p word (atom.Compare property) gs hs = if_same (nat_le p equality) _ _
same_atom p word atom.Predicate gs hs = refl
same_atom p word atom.Nothing gs hs = refl

same_primary : (d : Dialect) (cs : List Constant) (p : ℕ) (t : Token) (gs hs : List Goal) → Same (primary d cs p t gs) (primary d cs p t hs)
same_primary d cs p (token.Number n) gs hs = refl
same_primary d cs p (token.Word word) gs hs = same_atom p word (atom_of d cs word) gs hs
same_primary d cs p (token.Mark b) gs hs = if_same (b == open_round) _ _
same_primary d cs p (token.Operator op) gs hs = refl
same_primary d cs p token.Bad gs hs = refl

same_unary : (d : Dialect) (cs : List Constant) (p : ℕ) (t : Token) (gs hs : List Goal) (u : Option Unary) → Same (by_unary d cs p t gs u) (by_unary d cs p t hs u)
same_unary d cs p t gs hs (Some u) = refl
same_unary d cs p t gs hs None = same_primary d cs p t gs hs

same_more : (p q : ℕ) (t : Token) (gs hs : List Goal) → Same (takes_more p q t gs) (takes_more p q t hs)
same_more p q (token.Operator op) gs hs = if_same (nat_le p (level op) && nat_le (level op) q) _ _
same_more p q (token.Mark b) gs hs = if_both (b == question) (takes_question p q gs) (takes_question p q hs) (if_same (nat_le p 0 && nat_le 1 q) _ _)
same_more p q (token.Number n) gs hs = refl
same_more p q (token.Word word) gs hs = refl
same_more p q token.Bad gs hs = refl

same_operand_by : (d : Dialect) (k : Option Keyword) (gs hs : List Goal) → Same (operand_by d k gs) (operand_by d k hs)
same_operand_by dialect.Condition (Some keyword.Operands) gs hs = refl
same_operand_by dialect.Test (Some keyword.Op) gs hs = refl
same_operand_by _ _ gs hs = refl

same_operand : (d : Dialect) (t : Token) (gs hs : List Goal) → Same (takes_operand d t gs) (takes_operand d t hs)
same_operand d (token.Word word) gs hs = same_operand_by d (keyword_named word) gs hs
same_operand d _ gs hs = refl

same_value_by : (d : Dialect) (k : Option Keyword) (gs hs : List Goal) → Same (value_by d k gs) (value_by d k hs)
same_value_by d (Some (keyword.Call c)) gs hs = if_same (is_maker c) _ _
same_value_by d k gs hs = same_operand_by d k gs hs

same_value : (d : Dialect) (t : Token) (gs hs : List Goal) → Same (takes_value d t gs) (takes_value d t hs)
same_value d (token.Word word) gs hs = same_value_by d (keyword_named word) gs hs
same_value d _ gs hs = refl

same_any_mode : (t : Token) (gs hs : List Goal) → Same (takes_any_mode t gs) (takes_any_mode t hs)
same_any_mode (token.Word word) gs hs = map_same _ _ (mode_named word)
same_any_mode _ gs hs = refl

same_value_mode : (t : Token) (gs hs : List Goal) → Same (takes_value_mode t gs) (takes_value_mode t hs)
same_value_mode (token.Word word) gs hs = map_same _ _ (value_mode_named word)
same_value_mode _ gs hs = refl

same_window : (t : Token) (gs hs : List Goal) → Same (takes_window t gs) (takes_window t hs)
same_window (token.Number n) gs hs = refl
same_window _ gs hs = refl

same_part : (d : Dialect) (cs : List Constant) (x : Part) (t : Token) (gs hs : List Goal) → Same (takes_part d cs x t gs) (takes_part d cs x t hs)
same_part d cs (part.Expression p) t gs hs = same_unary d cs p t gs hs (unary_of t)
same_part d cs part.Operand t gs hs = same_operand d t gs hs
same_part d cs part.Window t gs hs = same_window t gs hs
same_part d cs part.AnyMode t gs hs = same_any_mode t gs hs
same_part d cs part.ValueMode t gs hs = same_value_mode t gs hs
same_part d cs part.Value t gs hs = same_value d t gs hs

same_statement_by : (k : Option Keyword) (gs hs : List Goal) → Same (statement_by k gs) (statement_by k hs)
same_statement_by (Some keyword.Operands) gs hs = refl
same_statement_by (Some keyword.If) gs hs = refl
same_statement_by (Some keyword.Done) gs hs = refl
same_statement_by (Some keyword.Fail) gs hs = refl
same_statement_by (Some (keyword.Call call.EmitMove)) gs hs = refl
same_statement_by _ gs hs = refl

same_statement : (t : Token) (gs hs : List Goal) → Same (takes_statement t gs) (takes_statement t hs)
same_statement (token.Word word) gs hs = same_statement_by (keyword_named word) gs hs
same_statement (token.Mark b) gs hs = if_same (b == open_brace) _ _
same_statement (token.Number n) gs hs = refl
same_statement (token.Operator op) gs hs = refl
same_statement token.Bad gs hs = refl

same_else_by : (k : Option Keyword) (gs hs : List Goal) → Same (else_by k gs) (else_by k hs)
same_else_by (Some keyword.Else) gs hs = refl
same_else_by _ gs hs = refl

same_else : (t : Token) (gs hs : List Goal) → Same (takes_else t gs) (takes_else t hs)
same_else (token.Word word) gs hs = same_else_by (keyword_named word) gs hs
same_else _ gs hs = refl

same_compared : (property : Property) (equal : Bool) (t : Token) (gs hs : List Goal) → Same (takes_compared property equal t gs) (takes_compared property equal t hs)
same_compared property equal (token.Word word) gs hs = map_same _ _ (comparison_with property equal word)
same_compared property equal _ gs hs = refl

same_index : (t : Token) (gs hs : List Goal) → Same (takes_index t gs) (takes_index t hs)
same_index (token.Number k) gs hs = if_same (nat_lt k (2 ^ 32)) _ _
same_index _ gs hs = refl

same_target : (t : Token) (gs hs : List Goal) → Same (takes_target t gs) (takes_target t hs)
same_target (token.Number k) gs hs = if_same (nat_lt k (2 ^ 32)) _ _
same_target _ gs hs = refl

pub same_takes : (d : Dialect) (cs : List Constant) (g : Goal) (t : Token) (gs hs : List Goal) → Same (takes d cs g t gs) (takes d cs g t hs)
same_takes d cs (goal.Mark b) t gs hs = if_same (is_mark b t) gs hs
same_takes d cs (goal.Yield h) t gs hs = refl
same_takes d cs (goal.Part x) t gs hs = same_part d cs x t gs hs
same_takes d cs (goal.More p q) t gs hs = same_more p q t gs hs
same_takes d cs (goal.Comparison property) t gs hs = map_same _ _ (comparison_of t)
same_takes d cs (goal.Compared property equal) t gs hs = same_compared property equal t gs hs
same_takes d cs goal.Index t gs hs = same_index t gs hs
same_takes d cs goal.Target t gs hs = same_target t gs hs
same_takes d cs goal.Statement t gs hs = same_statement t gs hs
same_takes d cs goal.Else t gs hs = same_else t gs hs
same_takes d cs goal.Statements t gs hs = same_statement t (goal.Statements ∷ goal.Yield head.Then ∷ gs) (goal.Statements ∷ goal.Yield head.Then ∷ hs)
same_takes d cs goal.Condition t gs hs = same_unary d cs 0 t gs hs (unary_of t)

-- ---- the parser goes on

step_some : (code : List CondHead) (o : Option (List Goal)) (h : Option (List CondHead)) (rest : List CondHead → Option Parser) (b : Bool) → ((heads : List CondHead) → is_some (rest heads) ≡ b) →
    is_some (taken_or code o (option_and_then rest h)) ≡ (is_some o || (is_some h && b))
step_some code (Some new) h rest b e = refl
step_some code None (Some heads) rest b e = e heads
step_some code None None rest b e = refl

pub next_some : (d : Dialect) (cs : List Constant) (t : Token) (code : List CondHead) (gs : List Goal) → is_some (next d cs t code gs) ≡ is_taken d cs t gs
next_some d cs t code [] = refl
next_some d cs t code (g ∷ gs) =
    step_some code (takes d cs g t gs) (passed g) (λ heads. next d cs t (code ++ heads) gs) (is_taken d cs t gs) (λ heads. next_some d cs t (code ++ heads) gs)
    ∙ ap (λ (b : Bool). b || (is_some (passed g) && is_taken d cs t gs)) (same_takes d cs g t gs [])

pub goes : (d : Dialect) (cs : List Constant) (t : Token) (code : List CondHead) (gs : List Goal) → is_taken d cs t gs ≡ true → (p : Parser) × (next d cs t code gs ≡ Some p)
goes d cs t code gs e = by_answer (next d cs t code gs) refl
  where
    apart : false ≡ true → ⊥
    apart e = cc

    by_answer : (o : Option Parser) → next d cs t code gs ≡ o → (p : Parser) × (next d cs t code gs ≡ Some p)
    by_answer (Some p) f = (p, f)
    by_answer None f = absurd (apart (ap is_some (sym f) ∙ next_some d cs t code gs ∙ e))

pub stops : (d : Dialect) (cs : List Constant) (t : Token) (code : List CondHead) (gs : List Goal) → is_taken d cs t gs ≡ false → next d cs t code gs ≡ None
stops d cs t code gs e = by_answer (next d cs t code gs) refl
  where
    apart : true ≡ false → ⊥
    apart e = cc

    by_answer : (o : Option Parser) → next d cs t code gs ≡ o → next d cs t code gs ≡ None
    by_answer (Some p) f = absurd (apart (ap is_some (sym f) ∙ next_some d cs t code gs ∙ e))
    by_answer None f = f

-- The parser's own steps, one token after the other. Only private clauses and proofs speak of them:
-- what a text is, is said in Grammar.
use Rattle.std.specs.Prelude.{◌≡◌, ℕ, ◌+◌, ◌^◌, ◌==◌, nat_le, nat_lt, ◌&&◌, Bool, true, false, List, [], ◌∷◌, ◌++◌, Option, Some, None, Result, Ok, Err, if◌then◌else◌, pos, option_map, option_and_then}
use Rattle.rtx_tree.specs.declared.constants.Constant.{Constant}
use Rattle.rtx_tree.specs.declared.code.Mode.{Mode}
use Rattle.bits64.specs.Words.{signed}
use Rattle.bits64.specs.declared.Width.TheVariants.{W64}
use Rattle.plain_data.specs.declared.memory.Memory.{Memory}
use Rattle.c_words.specs.declared.head.Binary.{Binary}
use Rattle.c_words.specs.declared.head.Unary.{Unary}
use Rattle.c_words.specs.declared.head.Call.{Call}
use Rattle.c_words.specs.declared.head.Call.TheVariants as call
use Rattle.c_words.specs.declared.head.CondHead.{CondHead}
use Rattle.c_words.specs.declared.head.CondHead.TheVariants as head
use Rattle.c_words.specs.declared.keyword.Keyword.{Keyword}
use Rattle.c_words.specs.declared.keyword.Keyword.TheVariants as keyword
use Rattle.c_words.specs.declared.atom.Atom.{Atom}
use Rattle.c_words.specs.declared.atom.Atom.TheVariants as atom
use Rattle.c_words.specs.declared.atom.Dialect.{Dialect}
use Rattle.c_words.specs.declared.atom.Dialect.TheVariants as dialect
use Rattle.c_words.specs.declared.atom.Property.{Property}
use Rattle.c_words.specs.declared.token.Token.{Token}
use Rattle.c_words.specs.declared.token.Token.TheVariants as token
use Rattle.c_cond.specs.declared.part.Part.{Part}
use Rattle.c_cond.specs.declared.part.Part.TheVariants as part
use Rattle.c_cond.specs.declared.part.Signature.{Signature}
use Rattle.c_cond.specs.declared.part.Signature.TheVariants as signature
use Rattle.c_cond.specs.declared.goal.Goal.{Goal}
use Rattle.c_cond.specs.declared.goal.Goal.TheVariants as goal
use Rattle.c_cond.specs.declared.parser.Parser.{Parser}
use Rattle.c_cond.specs.declared.parser.StepError.{StepError}
use Rattle.c_cond.specs.declared.parser.StepError.TheVariants as error
use Rattle.c_words.specs.Words.{keyword_named, mode_named}
use Rattle.c_words.specs.Atoms.{atom_of}
use Rattle.c_cond.specs.Grammar.{open_round, close_round, comma, colon, semicolon, becomes, question, open_square, close_square, open_brace, close_brace, level, equality, unary_level, unary_of, expression, signature_of, predicate_parts, is_maker, comparison_of, comparison_with, value_mode_named}

-- the parts of a call, with commas between them, and what comes then
abbrev pub parts_then : Signature → List Goal → List Goal
parts_then signature.None gs = gs
parts_then (signature.One x) gs = goal.Part x ∷ gs
parts_then (signature.Two x y) gs = goal.Part x ∷ goal.Mark comma ∷ goal.Part y ∷ gs
parts_then (signature.Three x y z) gs =
    goal.Part x ∷ goal.Mark comma ∷ goal.Part y ∷ goal.Mark comma ∷ goal.Part z ∷ gs

-- the parts of a call in parentheses, and what comes then
abbrev pub call_then : Signature → CondHead → List Goal → List Goal
call_then parts h gs =
    goal.Mark open_round ∷ parts_then parts (goal.Mark close_round ∷ goal.Yield h ∷ gs)

-- behind an operand of an expression of level p may stand any operator that binds as tightly
abbrev pub more : ℕ → List Goal → List Goal
more p gs = goal.More p unary_level ∷ gs

-- an operand in parentheses, a comparison, and what an expression of level p may have behind it
abbrev pub compare_then : ℕ → Property → List Goal → List Goal
compare_then p property gs = goal.Mark open_round ∷ goal.Part part.Operand ∷ goal.Mark close_round ∷ goal.Comparison property ∷ goal.More p equality ∷ gs

-- a word where an expression of level p may begin
abbrev pub by_atom : ℕ → List ℕ → Atom → List Goal → Option (List Goal)
by_atom p word (atom.Leaf h) gs = Some (goal.Yield h ∷ more p gs)
by_atom p word (atom.Call c) gs = Some (call_then (signature_of c) (head.Call c) (more p gs))
by_atom p word (atom.Compare property) gs =
    if nat_le p equality then Some (compare_then p property gs) else None
by_atom p word atom.Predicate gs =
    Some (call_then predicate_parts (head.Predicate word) (more p gs))
by_atom p word atom.Nothing gs = None

abbrev pub primary : Dialect → List Constant → ℕ → Token → List Goal → Option (List Goal)
primary d cs p (token.Number n) gs = Some (goal.Yield (head.Number (signed W64 n)) ∷ more p gs)
primary d cs p (token.Word word) gs = by_atom p word (atom_of d cs word) gs
primary d cs p (token.Mark b) gs = if b == open_round then Some (goal.Part expression ∷ goal.Mark close_round ∷ more p gs) else None
primary d cs p _ gs = None

abbrev pub by_unary : Dialect → List Constant → ℕ → Token → List Goal → Option Unary →
    Option (List Goal)
by_unary d cs p t gs (Some u) =
    Some (goal.Part (part.Expression unary_level) ∷ goal.Yield (head.Unary u) ∷ more p gs)
by_unary d cs p t gs None = primary d cs p t gs

-- where an expression of level p must come
abbrev pub takes_expression : Dialect → List Constant → ℕ → Token → List Goal → Option (List Goal)
takes_expression d cs p t gs = by_unary d cs p t gs (unary_of t)

abbrev pub takes_operator : ℕ → ℕ → Binary → List Goal → Option (List Goal)
takes_operator p q op gs =
    if nat_le p (level op) && nat_le (level op) q then Some (goal.Part (part.Expression (level op + 1)) ∷ goal.Yield (head.Binary op) ∷ goal.More p (level op) ∷ gs) else None

abbrev pub takes_question : ℕ → ℕ → List Goal → Option (List Goal)
takes_question p q gs =
    if nat_le p 0 && nat_le 1 q then Some (goal.Part expression ∷ goal.Mark colon ∷ goal.Part expression ∷ goal.Yield head.Choose ∷ gs) else None

-- where an expression may go on by an operator of these levels
abbrev pub takes_more : ℕ → ℕ → Token → List Goal → Option (List Goal)
takes_more p q (token.Operator op) gs = takes_operator p q op gs
takes_more p q (token.Mark b) gs = if b == question then takes_question p q gs else None
takes_more p q _ gs = None

abbrev pub operand_by : Dialect → Option Keyword → List Goal → Option (List Goal)
operand_by dialect.Condition (Some keyword.Operands) gs =
    Some (goal.Mark open_square ∷ goal.Index ∷ gs)
operand_by dialect.Test (Some keyword.Op) gs = Some (goal.Yield (head.Operand 0) ∷ gs)
operand_by _ _ gs = None

abbrev pub takes_operand : Dialect → Token → List Goal → Option (List Goal)
takes_operand d (token.Word word) gs = operand_by d (keyword_named word) gs
takes_operand d _ gs = None

abbrev pub takes_maker : Call → List Goal → Option (List Goal)
takes_maker c gs = if is_maker c then Some (call_then (signature_of c) (head.Call c) gs) else None

abbrev pub value_by : Dialect → Option Keyword → List Goal → Option (List Goal)
value_by d (Some (keyword.Call c)) gs = takes_maker c gs
value_by d k gs = operand_by d k gs

abbrev pub takes_value : Dialect → Token → List Goal → Option (List Goal)
takes_value d (token.Word word) gs = value_by d (keyword_named word) gs
takes_value d _ gs = None

abbrev pub mode_then : Option Mode → List Goal → Option (List Goal)
mode_then m gs = option_map (λ m. goal.Yield (head.Mode m) ∷ gs) m

abbrev pub takes_any_mode : Token → List Goal → Option (List Goal)
takes_any_mode (token.Word word) gs = mode_then (mode_named word) gs
takes_any_mode _ gs = None

abbrev pub takes_value_mode : Token → List Goal → Option (List Goal)
takes_value_mode (token.Word word) gs = mode_then (value_mode_named word) gs
takes_value_mode _ gs = None

abbrev pub takes_window : Token → List Goal → Option (List Goal)
takes_window (token.Number n) gs = Some (goal.Yield (head.Window n) ∷ gs)
takes_window _ gs = None

abbrev pub takes_part : Dialect → List Constant → Part → Token → List Goal → Option (List Goal)
takes_part d cs (part.Expression p) t gs = takes_expression d cs p t gs
takes_part d cs part.Operand t gs = takes_operand d t gs
takes_part d cs part.Window t gs = takes_window t gs
takes_part d cs part.AnyMode t gs = takes_any_mode t gs
takes_part d cs part.ValueMode t gs = takes_value_mode t gs
takes_part d cs part.Value t gs = takes_value d t gs

abbrev pub if_then : List Goal → Option (List Goal)
if_then gs = Some (goal.Mark open_round ∷ goal.Part expression ∷ goal.Mark close_round ∷ goal.Statement ∷ goal.Else ∷ gs)

abbrev pub ended : CondHead → List Goal → Option (List Goal)
ended h gs = Some (goal.Mark semicolon ∷ goal.Yield h ∷ gs)

abbrev pub statement_by : Option Keyword → List Goal → Option (List Goal)
statement_by (Some keyword.Operands) gs = Some (goal.Mark open_square ∷ goal.Target ∷ gs)
statement_by (Some keyword.If) gs = if_then gs
statement_by (Some keyword.Done) gs = ended head.Done gs
statement_by (Some keyword.Fail) gs = ended head.Fail gs
statement_by (Some (keyword.Call call.EmitMove)) gs = Some (call_then (signature_of call.EmitMove) (head.Call call.EmitMove) (goal.Mark semicolon ∷ gs))
statement_by _ gs = None

abbrev pub takes_statement : Token → List Goal → Option (List Goal)
takes_statement (token.Word word) gs = statement_by (keyword_named word) gs
takes_statement (token.Mark b) gs =
    if b == open_brace then Some (goal.Statements ∷ goal.Mark close_brace ∷ gs) else None
takes_statement _ gs = None

abbrev pub else_by : Option Keyword → List Goal → Option (List Goal)
else_by (Some keyword.Else) gs = Some (goal.Statement ∷ goal.Yield head.IfElse ∷ gs)
else_by _ gs = None

abbrev pub takes_else : Token → List Goal → Option (List Goal)
takes_else (token.Word word) gs = else_by (keyword_named word) gs
takes_else _ gs = None

abbrev pub is_mark : ℕ → Token → Bool
is_mark b (token.Mark c) = b == c
is_mark b _ = false

abbrev pub takes_mark : ℕ → Token → List Goal → Option (List Goal)
takes_mark b t gs = if is_mark b t then Some gs else None

abbrev pub takes_statements : Token → List Goal → Option (List Goal)
takes_statements t gs = takes_statement t (goal.Statements ∷ goal.Yield head.Then ∷ gs)

abbrev pub takes_comparison : Property → Token → List Goal → Option (List Goal)
takes_comparison property t gs =
    option_map (λ equal. goal.Compared property equal ∷ gs) (comparison_of t)

abbrev pub takes_compared : Property → Bool → Token → List Goal → Option (List Goal)
takes_compared property equal (token.Word word) gs =
    option_map (λ h. goal.Yield h ∷ gs) (comparison_with property equal word)
takes_compared property equal _ gs = None

abbrev pub takes_index : Token → List Goal → Option (List Goal)
takes_index (token.Number k) gs = if nat_lt k (2 ^ 32) then Some (goal.Yield (head.Operand k) ∷ goal.Mark close_square ∷ gs) else None
takes_index _ gs = None

abbrev pub takes_target : Token → List Goal → Option (List Goal)
takes_target (token.Number k) gs =
    if nat_lt k (2 ^ 32) then Some (goal.Mark close_square ∷ goal.Mark becomes ∷ goal.Part part.Value ∷ goal.Mark semicolon ∷ goal.Yield (head.Assign k) ∷ gs) else None
takes_target _ gs = None

-- what must come when the goal takes the token; None where it doesn't
abbrev pub takes : Dialect → List Constant → Goal → Token → List Goal → Option (List Goal)
takes d cs (goal.Mark b) t gs = takes_mark b t gs
takes d cs (goal.Yield h) t gs = None
takes d cs (goal.Part x) t gs = takes_part d cs x t gs
takes d cs (goal.More p q) t gs = takes_more p q t gs
takes d cs (goal.Comparison property) t gs = takes_comparison property t gs
takes d cs (goal.Compared property equal) t gs = takes_compared property equal t gs
takes d cs goal.Index t gs = takes_index t gs
takes d cs goal.Target t gs = takes_target t gs
takes d cs goal.Statement t gs = takes_statement t gs
takes d cs goal.Else t gs = takes_else t gs
takes d cs goal.Statements t gs = takes_statements t gs
takes d cs goal.Condition t gs = takes_expression d cs 0 t gs

-- what a goal gives that may be passed over
abbrev pub passed : Goal → Option (List CondHead)
passed (goal.Yield h) = Some (h ∷ [])
passed (goal.More p q) = Some []
passed goal.Else = Some (head.If ∷ [])
passed goal.Statements = Some (head.Nothing ∷ [])
passed goal.Condition = Some (head.Number (pos 1) ∷ [])
passed _ = None

abbrev pub at : List CondHead → List Goal → Parser
at code goals = record { code = code; goals = goals }

abbrev pub taken_or : List CondHead → Option (List Goal) → Option Parser → Option Parser
taken_or code (Some goals) other = Some (at code goals)
taken_or code None other = other

-- Behind a token: the first goal that takes it, where those before may be passed over. None where
-- no text goes on so.
abbrev pub next : Dialect → List Constant → Token → List CondHead → List Goal → Option Parser
next d cs t code [] = None
next d cs t code (g ∷ gs) = taken_or code (takes d cs g t gs) (option_and_then (λ heads. next d cs t (code ++ heads) gs) (passed g))

-- where the text ends: all that is left may be passed over
abbrev pub finish : List CondHead → List Goal → Option (List CondHead)
finish code [] = Some code
finish code (g ∷ gs) = option_and_then (λ heads. finish (code ++ heads) gs) (passed g)

-- behind some tokens
unfoldable pub run : Dialect → List Constant → Parser → List Token → Option Parser
run d cs p [] = Some p
run d cs p (t ∷ ts) = option_and_then (λ q. run d cs q ts) (next d cs t p.code p.goals)

-- what is made of some tokens
abbrev pub result_of : Dialect → List Constant → Parser → List Token → Option (List CondHead)
result_of d cs p ts = option_and_then (λ q. finish q.code q.goals) (run d cs p ts)

-- a goal took a token, or did not and left the others as they were
abbrev pub Takes : Result Bool Memory → List Goal → List Goal → Option (List Goal) → Type 0
Takes (Ok true) old new answer = answer ≡ Some new
Takes (Ok false) old new answer = (answer ≡ None) × (new ≡ old)
Takes (Err e) old new answer = Unit {0}

abbrev pub Stops : {X : Type 0} → StepError → Option X → Type 0
Stops error.Outside answer = answer ≡ None
Stops error.Memory answer = Unit {0}

-- a step gave what the steps give
abbrev pub Gives : {X : Type 0} → Result X StepError → Option X → Type 0
Gives (Ok x) answer = answer ≡ Some x
Gives (Err e) answer = Stops e answer

abbrev pub Steps : Result (Unit {0}) StepError → Parser → Option Parser → Type 0
Steps (Ok x) new answer = answer ≡ Some new
Steps (Err e) new answer = Stops e answer

-- a goal was passed over, or may not be
abbrev pub Passes : Bool → List CondHead → List CondHead → Option (List CondHead) → Type 0
Passes true old new answer = (heads : List CondHead) × (answer ≡ Some heads) × (new ≡ old ++ heads)
Passes false old new answer = (answer ≡ None) × (new ≡ old)

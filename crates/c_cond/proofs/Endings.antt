-- Each list of goals that fits is met by a text.
use Rattle.std.proofs.Common.{◌≡◌, ℕ, ◌<◌, Bool, true, false, List, [], ◌∷◌, ◌++◌, Some, None, refl, sym, ◌∙◌, ◌||◌, ◌==◌, append_assoc, eqb-true, nat_lt, subst, pos}
use Rattle.std.specs.Prelude.{codes}
use Rattle.std.specs.List.{list_any, list_all, All}
use Rattle.std.proofs.lemmas.Bool.{ltb-true}
use Rattle.bits64.specs.Words.{signed}
use Rattle.bits64.specs.declared.Width.TheVariants.{W64}
use Rattle.rtx_tree.specs.Code.{code_named}
use Rattle.c_words.proofs.Lexes.{apart as different}
use Rattle.std.proofs.lemmas.List.Elements.{All-nil, All-cons, All-append}
use Rattle.rtx_tree.specs.declared.constants.Constant.{Constant}
use Rattle.rtx_tree.specs.declared.code.Code.TheVariants as code
use Rattle.rtx_tree.specs.declared.code.Mode.TheVariants as mode
use Rattle.c_words.specs.declared.head.Binary.TheVariants as binary
use Rattle.c_words.specs.declared.head.CondHead.{CondHead}
use Rattle.c_words.specs.declared.head.CondHead.TheVariants as head
use Rattle.c_words.specs.declared.head.Call.TheVariants as call
use Rattle.c_words.specs.declared.atom.Dialect.{Dialect}
use Rattle.c_words.specs.declared.atom.Dialect.TheVariants as dialect
use Rattle.c_words.specs.declared.atom.Property.{Property}
use Rattle.c_words.specs.declared.atom.Property.TheVariants as property
use Rattle.c_words.specs.declared.token.Token.{Token}
use Rattle.c_words.specs.declared.token.Token.TheVariants as token
use Rattle.c_cond.specs.declared.part.Part.{Part}
use Rattle.c_cond.specs.declared.part.Part.TheVariants as part
use Rattle.c_cond.specs.declared.goal.Goal.{Goal}
use Rattle.c_cond.specs.declared.goal.Goal.TheVariants as goal
use Rattle.c_words.specs.declared.lexer.Pending.TheVariants as pending
use Rattle.c_cond.specs.Grammar.{question, open_round, open_brace, close_square}
use Rattle.c_words.specs.machine.Lexing.{read_all}
use Rattle.c_words.specs.machine.Lexing as lexing
use Rattle.c_cond.specs.machine.Steps.{takes, passed, run}
use Rattle.c_cond.proofs.Making.{R, First, first_map, take, pass_over}
use Rattle.c_cond.proofs.Fit.{marks, is_closing, is_wanted, calm, fit}
use Rattle.c_words.proofs.Listed.{both}

abbrev pub AreBytes : List ℕ → Type 0
AreBytes = All (λ b. b < 256)

pub no_bytes : AreBytes []
no_bytes = All-nil (λ b. b < 256)

pub byte_more : (b : ℕ) (bs : List ℕ) → b < 256 → AreBytes bs → AreBytes (b ∷ bs)
byte_more b bs = All-cons (λ b. b < 256) b bs

pub bytes_by : (bs : List ℕ) → list_all (λ b. nat_lt b 256) bs ≡ true → AreBytes bs
bytes_by [] e = no_bytes
bytes_by (b ∷ bs) e = byte_more b bs (ltb-true b 256 (both e).0) (bytes_by bs (both e).1)

-- ---- marks

false_true : false ≡ true → ⊥
false_true e = cc

abbrev Each : (ℕ → Type 0) → List ℕ → Type 0
Each P [] = Unit {0}
Each P (m ∷ ms) = P m × Each P ms

-- what holds of each of some numbers holds of a number that is one of them
pub each : (P : ℕ → Type 0) (b : ℕ) (ms : List ℕ) → list_any (λ m. b == m) ms ≡ true → Each P ms → P b
each P b [] e h = absurd (false_true e)
each P b (m ∷ ms) e h = by_test (b == m) refl e (λ f. each P b ms f h.1)
  where
    by_test : (t : Bool) → (b == m) ≡ t → (t || list_any (λ m. b == m) ms) ≡ true → (list_any (λ m. b == m) ms ≡ true → P b) → P b
    by_test true f e ih = subst P (sym (eqb-true b m f)) h.0
    by_test false f e ih = ih e

-- a mark that ends what stands before it
pub record IsClosing (t : Token) : Type 0 where
  pub byte : ℕ
  pub is : t ≡ token.Mark byte
  pub closes : is_closing byte ≡ true

-- no goal that may be passed over takes such a mark
left : (d : Dialect) (cs : List Constant) (g : Goal) (heads : List CondHead) (gs : List Goal) (t : Token) → passed g ≡ Some heads → IsClosing t → takes d cs g t gs ≡ None
left d cs g heads gs t e m = subst (λ (x : Token). takes d cs g x gs ≡ None) (sym m.is) (by_goal g heads e)
  where
    none_some : {A : Type 0} {x : A} → None ≡ Some x → ⊥
    none_some e = cc

    not_mark : (k : ℕ) → is_closing k ≡ false → (m.byte == k) ≡ false
    not_mark k e = different is_closing m.byte k m.closes e

    by_goal : (g : Goal) (heads : List CondHead) → passed g ≡ Some heads → takes d cs g (token.Mark m.byte) gs ≡ None
    by_goal (goal.Yield h) heads e = refl
    by_goal (goal.More p q) heads e = rw (not_mark question refl) refl
    by_goal goal.Else heads e = refl
    by_goal goal.Statements heads e = rw (not_mark open_brace refl) refl
    by_goal goal.Condition heads e = rw (not_mark 33 refl, not_mark 126 refl, not_mark open_round refl) refl
    by_goal (goal.Mark b) heads e = absurd (none_some e)
    by_goal (goal.Part x) heads e = absurd (none_some e)
    by_goal (goal.Comparison x) heads e = absurd (none_some e)
    by_goal (goal.Compared x y) heads e = absurd (none_some e)
    by_goal goal.Index heads e = absurd (none_some e)
    by_goal goal.Target heads e = absurd (none_some e)
    by_goal goal.Statement heads e = absurd (none_some e)

-- ---- endings

-- a text that meets the goals, with its tokens
pub record Ending (d : Dialect) (cs : List Constant) (gs : List Goal) : Type 0 where
  pub bytes : List ℕ
  pub are_bytes : AreBytes bytes
  pub tokens : List Token
  pub spelled : (before : List Token) → read_all (lexing.at before pending.Nothing) bytes ≡ before ++ tokens
  pub closes : calm gs ≡ true → First IsClosing tokens
  pub reads : (code : List CondHead) → (out : List CondHead) × (R d cs code gs tokens ≡ Some out)

-- the bytes are a token, whatever stands behind them
abbrev Spells : List ℕ → Token → Type 0
Spells bs t = (before : List Token) (rest : List ℕ) → read_all (lexing.at before pending.Nothing) (bs ++ rest) ≡ read_all (lexing.at (before ++ t ∷ []) pending.Nothing) rest

nothing : (d : Dialect) (cs : List Constant) → Ending d cs []
unfolding run
nothing d cs = record { bytes = []; are_bytes = no_bytes; tokens = []; spelled = λ before. refl; closes = λ e. tt; reads = λ code. (code, refl) }

-- a goal that is passed over
over : (d : Dialect) (cs : List Constant) (g : Goal) (gs : List Goal) (heads : List CondHead) → passed g ≡ Some heads → calm (g ∷ gs) ≡ calm gs → calm gs ≡ true → Ending d cs gs → Ending d cs (g ∷ gs)
over d cs g gs heads p same c e = record {
  bytes = e.bytes;
  are_bytes = e.are_bytes;
  tokens = e.tokens;
  spelled = e.spelled;
  closes = λ _. e.closes c;
  reads = λ code. let x : (out : List CondHead) × (R d cs (code ++ heads) gs e.tokens ≡ Some out) = e.reads (code ++ heads) in
      (x.0, pass_over d cs code g gs heads e.tokens p (first_map IsClosing (λ t. takes d cs g t gs ≡ None) (λ t m. left d cs g heads gs t p m) e.tokens (e.closes c)) ∙ x.1);
}

-- a goal that takes a token
by : (d : Dialect) (cs : List Constant) (g : Goal) (gs new : List Goal) (bs : List ℕ) (t : Token) → Spells bs t → list_all (λ b. nat_lt b 256) bs ≡ true → (calm (g ∷ gs) ≡ true → IsClosing t) →
    takes d cs g t gs ≡ Some new → Ending d cs new → Ending d cs (g ∷ gs)
by d cs g gs new bs t s are c f e = record {
  bytes = bs ++ e.bytes;
  are_bytes = All-append (λ b. b < 256) bs e.bytes (bytes_by bs are) e.are_bytes;
  tokens = t ∷ e.tokens;
  spelled = λ before. s before e.bytes ∙ e.spelled (before ++ t ∷ []) ∙ append_assoc before (t ∷ []) e.tokens;
  closes = c;
  reads = λ code. let x : (out : List CondHead) × (R d cs code new e.tokens ≡ Some out) = e.reads code in (x.0, take d cs code g gs new t e.tokens f ∙ x.1);
}

not_calm : {t : Token} → false ≡ true → IsClosing t
not_calm e = absurd (false_true e)

spelled_mark : (b : ℕ) → is_wanted b ≡ true → Spells (b ∷ 32 ∷ []) (token.Mark b)
spelled_mark b w = each (λ b. Spells (b ∷ 32 ∷ []) (token.Mark b)) b marks w
    ((λ before rest. refl), ((λ before rest. refl), ((λ before rest. refl), ((λ before rest. refl), ((λ before rest. refl), ((λ before rest. refl), ((λ before rest. refl), ((λ before rest. refl), ((λ before rest. refl), tt)))))))))

mark : (d : Dialect) (cs : List Constant) (b : ℕ) (gs : List Goal) → is_wanted b ≡ true → Ending d cs gs → Ending d cs (goal.Mark b ∷ gs)
mark d cs b gs w e =
    let same : (b == b) ≡ true = each (λ b. (b == b) ≡ true) b marks w (refl, (refl, (refl, (refl, (refl, (refl, (refl, (refl, (refl, tt))))))))) in
    let are : list_all (λ b. nat_lt b 256) (b ∷ 32 ∷ []) ≡ true = each (λ b. list_all (λ b. nat_lt b 256) (b ∷ 32 ∷ []) ≡ true) b marks w (refl, (refl, (refl, (refl, (refl, (refl, (refl, (refl, (refl, tt))))))))) in
    by d cs (goal.Mark b) gs gs (b ∷ 32 ∷ []) (token.Mark b) (spelled_mark b w) are (λ c. record { byte = b; is = refl; closes = c }) (rw same refl) e

yield : (d : Dialect) (cs : List Constant) (h : CondHead) (gs : List Goal) → calm gs ≡ true → Ending d cs gs → Ending d cs (goal.Yield h ∷ gs)
yield d cs h gs c e = over d cs (goal.Yield h) gs (h ∷ []) refl refl c e

more : (d : Dialect) (cs : List Constant) (p q : ℕ) (gs : List Goal) → calm gs ≡ true → Ending d cs gs → Ending d cs (goal.More p q ∷ gs)
more d cs p q gs c e = over d cs (goal.More p q) gs [] refl refl c e

-- a word that is a goal by itself
word_then : (d : Dialect) (cs : List Constant) (g : Goal) (h : CondHead) (gs : List Goal) (bs : List ℕ) (t : Token) → Spells bs t → list_all (λ b. nat_lt b 256) bs ≡ true → (calm (g ∷ gs) ≡ true → IsClosing t) →
    takes d cs g t gs ≡ Some (goal.Yield h ∷ gs) → calm gs ≡ true → Ending d cs gs → Ending d cs (g ∷ gs)
word_then d cs g h gs bs t s are n f c e = by d cs g gs (goal.Yield h ∷ gs) bs t s are n f (yield d cs h gs c e)

expression : (d : Dialect) (cs : List Constant) (p : ℕ) (gs : List Goal) → calm gs ≡ true → Ending d cs gs → Ending d cs (goal.Part (part.Expression p) ∷ gs)
expression d cs p gs c e =
    let one : CondHead = head.Number (signed W64 1) in
    by d cs (goal.Part (part.Expression p)) gs (goal.Yield one ∷ goal.More p 11 ∷ gs) (codes "1 ") (token.Number 1) (λ before rest. refl) refl not_calm refl
    (yield d cs one (goal.More p 11 ∷ gs) c (more d cs p 11 gs c e))

index : (d : Dialect) (cs : List Constant) (gs : List Goal) → Ending d cs gs → Ending d cs (goal.Index ∷ gs)
index d cs gs e =
    by d cs goal.Index gs (goal.Yield (head.Operand 0) ∷ goal.Mark close_square ∷ gs) (codes "0 ") (token.Number 0) (λ before rest. refl) refl not_calm refl
    (yield d cs (head.Operand 0) (goal.Mark close_square ∷ gs) refl (mark d cs close_square gs refl e))

operand : (d : Dialect) (cs : List Constant) (gs : List Goal) → calm gs ≡ true → Ending d cs gs → Ending d cs (goal.Part part.Operand ∷ gs)
operand dialect.Condition cs gs c e =
    by dialect.Condition cs (goal.Part part.Operand) gs (goal.Mark 91 ∷ goal.Index ∷ gs) (codes "operands ") (token.Word (codes "operands")) (λ before rest. refl) refl not_calm refl
    (mark dialect.Condition cs 91 (goal.Index ∷ gs) refl (index dialect.Condition cs gs e))
operand dialect.Test cs gs c e = word_then dialect.Test cs (goal.Part part.Operand) (head.Operand 0) gs (codes "op ") (token.Word (codes "op")) (λ before rest. refl) refl not_calm refl c e

value_mode : (d : Dialect) (cs : List Constant) (gs : List Goal) → calm gs ≡ true → Ending d cs gs → Ending d cs (goal.Part part.ValueMode ∷ gs)
value_mode d cs gs c e = word_then d cs (goal.Part part.ValueMode) (head.Mode mode.DI) gs (codes "DImode ") (token.Word (codes "DImode")) (λ before rest. refl) refl not_calm refl c e

any_mode : (d : Dialect) (cs : List Constant) (gs : List Goal) → calm gs ≡ true → Ending d cs gs → Ending d cs (goal.Part part.AnyMode ∷ gs)
any_mode d cs gs c e = word_then d cs (goal.Part part.AnyMode) (head.Mode mode.DI) gs (codes "DImode ") (token.Word (codes "DImode")) (λ before rest. refl) refl not_calm refl c e

window : (d : Dialect) (cs : List Constant) (gs : List Goal) → calm gs ≡ true → Ending d cs gs → Ending d cs (goal.Part part.Window ∷ gs)
window d cs gs c e = word_then d cs (goal.Part part.Window) (head.Window 0) gs (codes "0 ") (token.Number 0) (λ before rest. refl) refl not_calm refl c e

value : (d : Dialect) (cs : List Constant) (gs : List Goal) → calm gs ≡ true → Ending d cs gs → Ending d cs (goal.Part part.Value ∷ gs)
value d cs gs c e =
    let h : CondHead = head.Call call.GenReg in
    by d cs (goal.Part part.Value) gs (goal.Mark 40 ∷ goal.Part part.ValueMode ∷ goal.Mark 41 ∷ goal.Yield h ∷ gs) (codes "gen_reg_rtx ") (token.Word (codes "gen_reg_rtx")) (λ before rest. refl) refl not_calm refl
    (mark d cs 40 (goal.Part part.ValueMode ∷ goal.Mark 41 ∷ goal.Yield h ∷ gs) refl (value_mode d cs (goal.Mark 41 ∷ goal.Yield h ∷ gs) refl (mark d cs 41 (goal.Yield h ∷ gs) refl (yield d cs h gs c e))))

part_ending : (d : Dialect) (cs : List Constant) (x : Part) (gs : List Goal) → calm gs ≡ true → Ending d cs gs → Ending d cs (goal.Part x ∷ gs)
part_ending d cs (part.Expression p) gs c e = expression d cs p gs c e
part_ending d cs part.Operand gs c e = operand d cs gs c e
part_ending d cs part.Window gs c e = window d cs gs c e
part_ending d cs part.AnyMode gs c e = any_mode d cs gs c e
part_ending d cs part.ValueMode gs c e = value_mode d cs gs c e
part_ending d cs part.Value gs c e = value d cs gs c e

target : (d : Dialect) (cs : List Constant) (gs : List Goal) → calm gs ≡ true → Ending d cs gs → Ending d cs (goal.Target ∷ gs)
target d cs gs c e =
    let h : CondHead = head.Assign 0 in
    by d cs goal.Target gs (goal.Mark 93 ∷ goal.Mark 61 ∷ goal.Part part.Value ∷ goal.Mark 59 ∷ goal.Yield h ∷ gs) (codes "0 ") (token.Number 0) (λ before rest. refl) refl not_calm refl
    (mark d cs 93 (goal.Mark 61 ∷ goal.Part part.Value ∷ goal.Mark 59 ∷ goal.Yield h ∷ gs) refl (mark d cs 61 (goal.Part part.Value ∷ goal.Mark 59 ∷ goal.Yield h ∷ gs) refl
    (value d cs (goal.Mark 59 ∷ goal.Yield h ∷ gs) refl (mark d cs 59 (goal.Yield h ∷ gs) refl (yield d cs h gs c e)))))

compared : (d : Dialect) (cs : List Constant) (x : Property) (equal : Bool) (gs : List Goal) → calm gs ≡ true → Ending d cs gs → Ending d cs (goal.Compared x equal ∷ gs)
unfolding code_named
compared d cs property.Code equal gs c e = word_then d cs (goal.Compared property.Code equal) (head.CodeIs code.Reg equal) gs (codes "REG ") (token.Word (codes "REG")) (λ before rest. refl) refl not_calm refl c e
compared d cs property.Mode equal gs c e = word_then d cs (goal.Compared property.Mode equal) (head.ModeIs mode.DI equal) gs (codes "DImode ") (token.Word (codes "DImode")) (λ before rest. refl) refl not_calm refl c e

comparison : (d : Dialect) (cs : List Constant) (x : Property) (gs : List Goal) → calm gs ≡ true → Ending d cs gs → Ending d cs (goal.Comparison x ∷ gs)
comparison d cs x gs c e =
    by d cs (goal.Comparison x) gs (goal.Compared x true ∷ gs) (codes "== ") (token.Operator binary.Equal) (λ before rest. refl) refl not_calm refl (compared d cs x true gs c e)

statement : (d : Dialect) (cs : List Constant) (gs : List Goal) → calm gs ≡ true → Ending d cs gs → Ending d cs (goal.Statement ∷ gs)
statement d cs gs c e =
    by d cs goal.Statement gs (goal.Mark 59 ∷ goal.Yield head.Done ∷ gs) (codes "DONE ") (token.Word (codes "DONE")) (λ before rest. refl) refl not_calm refl
    (mark d cs 59 (goal.Yield head.Done ∷ gs) refl (yield d cs head.Done gs c e))

pub ending : (d : Dialect) (cs : List Constant) (gs : List Goal) → fit gs ≡ true → Ending d cs gs
ending d cs [] f = nothing d cs
ending d cs (goal.Mark b ∷ gs) f = mark d cs b gs (both f).0 (ending d cs gs (both f).1)
ending d cs (goal.Yield h ∷ gs) f = yield d cs h gs (both f).0 (ending d cs gs (both f).1)
ending d cs (goal.Part x ∷ gs) f = part_ending d cs x gs (both f).0 (ending d cs gs (both f).1)
ending d cs (goal.More p q ∷ gs) f = more d cs p q gs (both f).0 (ending d cs gs (both f).1)
ending d cs (goal.Comparison x ∷ gs) f = comparison d cs x gs (both f).0 (ending d cs gs (both f).1)
ending d cs (goal.Compared x equal ∷ gs) f = compared d cs x equal gs (both f).0 (ending d cs gs (both f).1)
ending d cs (goal.Index ∷ gs) f = index d cs gs (ending d cs gs (both f).1)
ending d cs (goal.Target ∷ gs) f = target d cs gs (both f).0 (ending d cs gs (both f).1)
ending d cs (goal.Statement ∷ gs) f = statement d cs gs (both f).0 (ending d cs gs (both f).1)
ending d cs (goal.Else ∷ gs) f = over d cs goal.Else gs (head.If ∷ []) refl refl (both f).0 (ending d cs gs (both f).1)
ending d cs (goal.Statements ∷ gs) f = over d cs goal.Statements gs (head.Nothing ∷ []) refl refl (both f).0 (ending d cs gs (both f).1)
ending d cs (goal.Condition ∷ gs) f = over d cs goal.Condition gs (head.Number (pos 1) ∷ []) refl refl (both f).0 (ending d cs gs (both f).1)

-- The conditions and the statements of machine descriptions: a grammar.
--
-- A condition is an expression of C (GCC Internals, "Defining RTL Patterns"), with the precedence
-- and the grouping that C gives its operators ("Expressions" of the C standard). Statements stand
-- where new instructions are prepared (GCC Internals, "Defining RTL Sequences for Code
-- Generation"). The manual gives no grammar; this one is the profile of this project.
use Rattle.std.specs.Prelude.{◌≡◌, ℕ, ◌+◌, ◌<◌, ◌≤◌, ◌^◌, Bool, true, false, List, [], ◌∷◌, ◌++◌, Option, Some, None, if◌then◌else◌, ◌==◌, pos, option_map}
use Rattle.rtx_tree.specs.declared.constants.Constant.{Constant}
use Rattle.rtx_tree.specs.declared.code.Mode.{Mode}
use Rattle.rtx_tree.specs.declared.code.Mode.TheVariants as mode
use Rattle.bits64.specs.Words.{signed}
use Rattle.bits64.specs.declared.Width.TheVariants.{W64}
use Rattle.c_words.specs.declared.head.Binary.{Binary}
use Rattle.c_words.specs.declared.head.Binary.TheVariants as binary
use Rattle.c_words.specs.declared.head.Unary.{Unary}
use Rattle.c_words.specs.declared.head.Unary.TheVariants as unary
use Rattle.c_words.specs.declared.head.Call.{Call}
use Rattle.c_words.specs.declared.head.Call.TheVariants as call
use Rattle.c_words.specs.declared.head.CondHead.{CondHead}
use Rattle.c_cond.specs.declared.tree.Tree.{Tree}
use Rattle.c_cond.specs.Tree.{node, leaf}
use Rattle.c_words.specs.declared.head.CondHead.TheVariants as head
use Rattle.c_words.specs.declared.keyword.Keyword.TheVariants as keyword
use Rattle.c_words.specs.declared.atom.Atom.TheVariants as atom
use Rattle.c_words.specs.declared.atom.Dialect.{Dialect}
use Rattle.c_words.specs.declared.atom.Dialect.TheVariants as dialect
use Rattle.c_words.specs.declared.atom.Property.{Property}
use Rattle.c_words.specs.declared.atom.Property.TheVariants as property
use Rattle.c_words.specs.declared.token.Token.{Token}
use Rattle.c_words.specs.declared.token.Token.TheVariants as token
use Rattle.c_cond.specs.declared.part.Part.{Part}
use Rattle.c_cond.specs.declared.part.Part.TheVariants as part
use Rattle.c_cond.specs.declared.part.Signature.{Signature}
use Rattle.c_cond.specs.declared.part.Signature.TheVariants as signature
use Rattle.c_words.specs.Words.{keyword_named, mode_named, code_in_capitals}
use Rattle.c_words.specs.Atoms.{atom_of}
use Rattle.c_words.specs.Tokens.{tokens_in}

-- ---- marks, by their ASCII codes

abbrev pub exclamation : ℕ
exclamation = 33

abbrev pub open_round : ℕ
open_round = 40

abbrev pub close_round : ℕ
close_round = 41

abbrev pub comma : ℕ
comma = 44

abbrev pub colon : ℕ
colon = 58

abbrev pub semicolon : ℕ
semicolon = 59

abbrev pub becomes : ℕ
becomes = 61

abbrev pub question : ℕ
question = 63

abbrev pub open_square : ℕ
open_square = 91

abbrev pub close_square : ℕ
close_square = 93

abbrev pub open_brace : ℕ
open_brace = 123

abbrev pub close_brace : ℕ
close_brace = 125

abbrev pub tilde : ℕ
tilde = 126

-- ---- how tightly an operator binds: ? : at 0, unary operators at 11

abbrev pub level : Binary → ℕ
level binary.Or = 1
level binary.And = 2
level binary.BitOr = 3
level binary.BitXor = 4
level binary.BitAnd = 5
level binary.Equal = 6
level binary.Unequal = 6
level binary.Less = 7
level binary.LessEqual = 7
level binary.Greater = 7
level binary.GreaterEqual = 7
level binary.ShiftLeft = 8
level binary.ShiftRight = 8
level binary.Plus = 9
level binary.Minus = 9
level binary.Times = 10

abbrev pub equality : ℕ
equality = 6

abbrev pub unary_level : ℕ
unary_level = 11

abbrev pub unary_of_byte : ℕ → Option Unary
unary_of_byte b = if b == exclamation then Some unary.Not else (if b == tilde then Some unary.Complement else None)

abbrev pub unary_of_binary : Binary → Option Unary
unary_of_binary binary.Minus = Some unary.Negative
unary_of_binary _ = None

-- the operator that a token is before its operand
abbrev pub unary_of : Token → Option Unary
unary_of (token.Operator operator) = unary_of_binary operator
unary_of (token.Mark b) = unary_of_byte b
unary_of _ = None

-- ---- what stands in parentheses

-- a whole expression
abbrev pub expression : Part
expression = part.Expression 0

-- the parts that a call has
abbrev pub signature_of : Call → Signature
signature_of call.CanCreatePseudo = signature.None
signature_of call.Intval = signature.One part.Operand
signature_of call.Regno = signature.One part.Operand
signature_of call.RegP = signature.One part.Operand
signature_of call.MemP = signature.One part.Operand
signature_of call.ConstIntP = signature.One part.Operand
signature_of call.SymbolRefP = signature.One part.Operand
signature_of call.RtxEqual = signature.Two part.Operand part.Operand
signature_of call.InRange = signature.Three expression expression expression
signature_of call.SmallOperand = signature.One expression
signature_of call.RegDead = signature.Two part.Window part.Operand
signature_of call.GenInt = signature.One expression
signature_of call.GenIntMode = signature.Two expression part.ValueMode
signature_of call.GenReg = signature.One part.ValueMode
signature_of call.ForceReg = signature.Two part.ValueMode part.Value
signature_of call.GenLowpart = signature.Two part.ValueMode part.Value
signature_of call.EmitMove = signature.Two part.Value part.Value

-- the parts that a predicate has
abbrev pub predicate_parts : Signature
predicate_parts = signature.Two part.Operand part.AnyMode

-- the calls that make an operand
abbrev pub is_maker : Call → Bool
is_maker call.GenInt = true
is_maker call.GenIntMode = true
is_maker call.GenReg = true
is_maker call.ForceReg = true
is_maker call.GenLowpart = true
is_maker _ = false

-- == or !=
abbrev pub comparison_of : Token → Option Bool
comparison_of (token.Operator binary.Equal) = Some true
comparison_of (token.Operator binary.Unequal) = Some false
comparison_of _ = None

-- the comparison of an operand's code or mode with the one that a word names
abbrev pub comparison_with : Property → Bool → List ℕ → Option CondHead
comparison_with property.Code equal word = option_map (λ c. head.CodeIs c equal) (code_in_capitals word)
comparison_with property.Mode equal word = option_map (λ m. head.ModeIs m equal) (mode_named word)

abbrev but_none : Mode → Option Mode
but_none mode.Void = None
but_none m = Some m

abbrev but_void : Option Mode → Option Mode
but_void None = None
but_void (Some m) = but_none m

-- the mode of a value that a word is: any but VOIDmode
abbrev pub value_mode_named : List ℕ → Option Mode
value_mode_named word = but_void (mode_named word)

-- ---- the grammar

-- What a text may be: one part; the parts of a call, which stand between commas; a statement, which
-- may have to be closed, so that no else behind it could belong to an if in it; statements; a
-- condition.
pub data Sort : Type 0 where
  One : (part : Part) → Sort
  Parts : (parts : Signature) → Sort
  Statement : (closed : Bool) → Sort
  Statements : Sort
  Condition : Sort

-- The tokens are a text of this sort, and these are its trees. An expression of level p has no
-- operator outside of parentheses that binds less tightly than p.
pub data Is (d : Dialect) (constants : List Constant) : Sort → List Tree → List Token → Type 0 where
  number : (p n : ℕ) → Is d constants (One (part.Expression p)) (leaf (head.Number (signed W64 n)) ∷ []) (token.Number n ∷ [])
  fact : (p : ℕ) (word : List ℕ) (h : CondHead) → atom_of d constants word ≡ atom.Leaf h →
      Is d constants (One (part.Expression p)) (leaf h ∷ []) (token.Word word ∷ [])
  asked : (p : ℕ) (word : List ℕ) (c : Call) (parts : List Tree) (ts : List Token) →
      atom_of d constants word ≡ atom.Call c → Is d constants (Parts (signature_of c)) parts ts →
      Is d constants (One (part.Expression p)) (node (head.Call c) parts ∷ []) (token.Word word ∷ token.Mark open_round ∷ (ts ++ token.Mark close_round ∷ []))
  predicate : (p : ℕ) (word : List ℕ) (parts : List Tree) (ts : List Token) →
      atom_of d constants word ≡ atom.Predicate → Is d constants (Parts predicate_parts) parts ts →
      Is d constants (One (part.Expression p)) (node (head.Predicate word) parts ∷ []) (token.Word word ∷ token.Mark open_round ∷ (ts ++ token.Mark close_round ∷ []))
  compare : (p : ℕ) (word name : List ℕ) (property : Property) (sign : Token) (equal : Bool)
      (h : CondHead) (operand : Tree) (ts : List Token) →
      p ≤ equality → atom_of d constants word ≡ atom.Compare property → Is d constants (One part.Operand) (operand ∷ []) ts →
      comparison_of sign ≡ Some equal → comparison_with property equal name ≡ Some h →
      Is d constants (One (part.Expression p)) (node h (operand ∷ []) ∷ []) (token.Word word ∷ token.Mark open_round ∷ (ts ++ token.Mark close_round ∷ sign ∷ token.Word name ∷ []))
  parens : (p : ℕ) (a : Tree) (ts : List Token) → Is d constants (One expression) (a ∷ []) ts →
      Is d constants (One (part.Expression p)) (a ∷ []) (token.Mark open_round ∷ (ts ++ token.Mark close_round ∷ []))
  before : (p : ℕ) (sign : Token) (u : Unary) (a : Tree) (ts : List Token) →
      unary_of sign ≡ Some u → Is d constants (One (part.Expression unary_level)) (a ∷ []) ts →
      Is d constants (One (part.Expression p)) (node (head.Unary u) (a ∷ []) ∷ []) (sign ∷ ts)
  between : (p : ℕ) (op : Binary) (a b : Tree) (ts us : List Token) → p ≤ level op →
      Is d constants (One (part.Expression (level op))) (a ∷ []) ts → Is d constants (One (part.Expression (level op + 1))) (b ∷ []) us →
      Is d constants (One (part.Expression p)) (node (head.Binary op) (a ∷ b ∷ []) ∷ []) (ts ++ token.Operator op ∷ us)
  choice : (a b c : Tree) (ts us vs : List Token) →
      Is d constants (One (part.Expression 1)) (a ∷ []) ts → Is d constants (One expression) (b ∷ []) us → Is d constants (One expression) (c ∷ []) vs →
      Is d constants (One expression) (node head.Choose (a ∷ b ∷ c ∷ []) ∷ []) (ts ++ (token.Mark question ∷ us ++ token.Mark colon ∷ vs))
  operand : (word : List ℕ) (k : ℕ) → keyword_named word ≡ Some keyword.Operands →
      d ≡ dialect.Condition → k < 2 ^ 32 →
      Is d constants (One part.Operand) (leaf (head.Operand k) ∷ []) (token.Word word ∷ token.Mark open_square ∷ token.Number k ∷ token.Mark close_square ∷ [])
  tested : (word : List ℕ) → keyword_named word ≡ Some keyword.Op → d ≡ dialect.Test →
      Is d constants (One part.Operand) (leaf (head.Operand 0) ∷ []) (token.Word word ∷ [])
  window : (n : ℕ) →
      Is d constants (One part.Window) (leaf (head.Window n) ∷ []) (token.Number n ∷ [])
  any_mode : (word : List ℕ) (m : Mode) → mode_named word ≡ Some m →
      Is d constants (One part.AnyMode) (leaf (head.Mode m) ∷ []) (token.Word word ∷ [])
  value_mode : (word : List ℕ) (m : Mode) → value_mode_named word ≡ Some m →
      Is d constants (One part.ValueMode) (leaf (head.Mode m) ∷ []) (token.Word word ∷ [])
  value_operand : (a : Tree) (ts : List Token) → Is d constants (One part.Operand) (a ∷ []) ts →
      Is d constants (One part.Value) (a ∷ []) ts
  made : (word : List ℕ) (c : Call) (parts : List Tree) (ts : List Token) →
      keyword_named word ≡ Some (keyword.Call c) → is_maker c ≡ true →
      Is d constants (Parts (signature_of c)) parts ts →
      Is d constants (One part.Value) (node (head.Call c) parts ∷ []) (token.Word word ∷ token.Mark open_round ∷ (ts ++ token.Mark close_round ∷ []))
  none : Is d constants (Parts signature.None) [] []
  one : (x : Part) (a : Tree) (ts : List Token) → Is d constants (One x) (a ∷ []) ts →
      Is d constants (Parts (signature.One x)) (a ∷ []) ts
  two : (x y : Part) (a b : Tree) (ts us : List Token) → Is d constants (One x) (a ∷ []) ts →
      Is d constants (One y) (b ∷ []) us →
      Is d constants (Parts (signature.Two x y)) (a ∷ b ∷ []) (ts ++ token.Mark comma ∷ us)
  three : (x y z : Part) (a b c : Tree) (ts us vs : List Token) →
      Is d constants (One x) (a ∷ []) ts → Is d constants (One y) (b ∷ []) us →
      Is d constants (One z) (c ∷ []) vs →
      Is d constants (Parts (signature.Three x y z)) (a ∷ b ∷ c ∷ []) (ts ++ (token.Mark comma ∷ us ++ token.Mark comma ∷ vs))
  assign : (closed : Bool) (word : List ℕ) (k : ℕ) (a : Tree) (ts : List Token) →
      keyword_named word ≡ Some keyword.Operands → k < 2 ^ 32 →
      Is d constants (One part.Value) (a ∷ []) ts →
      Is d constants (Statement closed) (node (head.Assign k) (a ∷ []) ∷ []) (token.Word word ∷ token.Mark open_square ∷ token.Number k ∷ token.Mark close_square ∷ token.Mark becomes ∷ (ts ++ token.Mark semicolon ∷ []))
  move : (closed : Bool) (word : List ℕ) (parts : List Tree) (ts : List Token) →
      keyword_named word ≡ Some (keyword.Call call.EmitMove) →
      Is d constants (Parts (signature_of call.EmitMove)) parts ts →
      Is d constants (Statement closed) (node (head.Call call.EmitMove) parts ∷ []) (token.Word word ∷ token.Mark open_round ∷ (ts ++ token.Mark close_round ∷ token.Mark semicolon ∷ []))
  done : (closed : Bool) (word : List ℕ) → keyword_named word ≡ Some keyword.Done → Is d constants (Statement closed) (leaf head.Done ∷ []) (token.Word word ∷ token.Mark semicolon ∷ [])
  fail : (closed : Bool) (word : List ℕ) → keyword_named word ≡ Some keyword.Fail → Is d constants (Statement closed) (leaf head.Fail ∷ []) (token.Word word ∷ token.Mark semicolon ∷ [])
  block : (closed : Bool) (a : Tree) (ts : List Token) → Is d constants Statements (a ∷ []) ts →
      Is d constants (Statement closed) (a ∷ []) (token.Mark open_brace ∷ (ts ++ token.Mark close_brace ∷ []))
  when : (word : List ℕ) (a b : Tree) (ts us : List Token) → keyword_named word ≡ Some keyword.If →
      Is d constants (One expression) (a ∷ []) ts → Is d constants (Statement false) (b ∷ []) us →
      Is d constants (Statement false) (node head.If (a ∷ b ∷ []) ∷ []) (token.Word word ∷ token.Mark open_round ∷ (ts ++ token.Mark close_round ∷ us))
  when_else : (closed : Bool) (word other : List ℕ) (a b c : Tree) (ts us vs : List Token) →
      keyword_named word ≡ Some keyword.If → keyword_named other ≡ Some keyword.Else →
      Is d constants (One expression) (a ∷ []) ts → Is d constants (Statement true) (b ∷ []) us → Is d constants (Statement closed) (c ∷ []) vs →
      Is d constants (Statement closed) (node head.IfElse (a ∷ b ∷ c ∷ []) ∷ []) (token.Word word ∷ token.Mark open_round ∷ (ts ++ (token.Mark close_round ∷ us ++ token.Word other ∷ vs)))
  nothing : Is d constants Statements (leaf head.Nothing ∷ []) []
  then : (a b : Tree) (ts us : List Token) → Is d constants (Statement false) (a ∷ []) ts →
      Is d constants Statements (b ∷ []) us →
      Is d constants Statements (node head.Then (a ∷ b ∷ []) ∷ []) (ts ++ us)
  empty : Is d constants Condition (leaf (head.Number (pos 1)) ∷ []) []
  whole : (a : Tree) (ts : List Token) → Is d constants (One expression) (a ∷ []) ts →
      Is d constants Condition (a ∷ []) ts

-- The text is one of this sort, and this is its tree.
abbrev pub IsText : Dialect → List Constant → Sort → List ℕ → Tree → Type 0
IsText d constants sort text tree = Is d constants sort (tree ∷ []) (tokens_in text)

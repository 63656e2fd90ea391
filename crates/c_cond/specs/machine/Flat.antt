-- The grammar once more, with each tree as the list of its heads, which is what the parser makes.
-- Only proofs speak of it.
use Rattle.std.specs.Prelude.{◌≡◌, ℕ, ◌+◌, ◌<◌, ◌≤◌, ◌^◌, Bool, true, false, List, [], ◌∷◌, ◌++◌, Some, pos}
use Rattle.rtx_tree.specs.declared.constants.Constant.{Constant}
use Rattle.rtx_tree.specs.declared.code.Mode.{Mode}
use Rattle.bits64.specs.Words.{signed}
use Rattle.bits64.specs.declared.Width.TheVariants.{W64}
use Rattle.c_words.specs.declared.head.Binary.{Binary}
use Rattle.c_words.specs.declared.head.Unary.{Unary}
use Rattle.c_words.specs.declared.head.Call.{Call}
use Rattle.c_words.specs.declared.head.Call.TheVariants as call
use Rattle.c_words.specs.declared.head.CondHead.{CondHead}
use Rattle.c_words.specs.declared.head.CondHead.TheVariants as head
use Rattle.c_words.specs.declared.keyword.Keyword.TheVariants as keyword
use Rattle.c_words.specs.declared.atom.Atom.TheVariants as atom
use Rattle.c_words.specs.declared.atom.Dialect.{Dialect}
use Rattle.c_words.specs.declared.atom.Dialect.TheVariants as dialect
use Rattle.c_words.specs.declared.atom.Property.{Property}
use Rattle.c_words.specs.declared.token.Token.{Token}
use Rattle.c_words.specs.declared.token.Token.TheVariants as token
use Rattle.c_cond.specs.declared.part.Part.{Part}
use Rattle.c_cond.specs.declared.part.Part.TheVariants as part
use Rattle.c_cond.specs.declared.part.Signature.TheVariants as signature
use Rattle.c_words.specs.Words.{keyword_named, mode_named}
use Rattle.c_words.specs.Atoms.{atom_of}
use Rattle.c_cond.specs.Grammar.{open_round, close_round, comma, colon, semicolon, becomes, question, open_square, close_square, open_brace, close_brace, level, equality, unary_level, unary_of, expression, signature_of, predicate_parts, is_maker, comparison_of, comparison_with, value_mode_named, Sort, One, Parts, Statement, Statements, Condition}

-- The tokens are a text of this sort, and the list has the heads of its trees, each behind its
-- parts. An expression of level p has no operator outside of parentheses that binds less tightly
-- than p.
pub data Is (d : Dialect) (constants : List Constant) :
    Sort → List CondHead → List Token → Type 0 where
  number : (p n : ℕ) → Is d constants (One (part.Expression p)) (head.Number (signed W64 n) ∷ []) (token.Number n ∷ [])
  leaf : (p : ℕ) (word : List ℕ) (h : CondHead) → atom_of d constants word ≡ atom.Leaf h →
      Is d constants (One (part.Expression p)) (h ∷ []) (token.Word word ∷ [])
  asked : (p : ℕ) (word : List ℕ) (c : Call) (parts : List CondHead) (ts : List Token) →
      atom_of d constants word ≡ atom.Call c → Is d constants (Parts (signature_of c)) parts ts →
      Is d constants (One (part.Expression p)) (parts ++ head.Call c ∷ []) (token.Word word ∷ token.Mark open_round ∷ (ts ++ token.Mark close_round ∷ []))
  predicate : (p : ℕ) (word : List ℕ) (parts : List CondHead) (ts : List Token) →
      atom_of d constants word ≡ atom.Predicate → Is d constants (Parts predicate_parts) parts ts →
      Is d constants (One (part.Expression p)) (parts ++ head.Predicate word ∷ []) (token.Word word ∷ token.Mark open_round ∷ (ts ++ token.Mark close_round ∷ []))
  compare : (p : ℕ) (word name : List ℕ) (property : Property) (sign : Token) (equal : Bool)
      (h : CondHead) (operand : List CondHead) (ts : List Token) →
      p ≤ equality → atom_of d constants word ≡ atom.Compare property → Is d constants (One part.Operand) operand ts →
      comparison_of sign ≡ Some equal → comparison_with property equal name ≡ Some h →
      Is d constants (One (part.Expression p)) (operand ++ h ∷ []) (token.Word word ∷ token.Mark open_round ∷ (ts ++ token.Mark close_round ∷ sign ∷ token.Word name ∷ []))
  parens : (p : ℕ) (a : List CondHead) (ts : List Token) → Is d constants (One expression) a ts →
      Is d constants (One (part.Expression p)) a (token.Mark open_round ∷ (ts ++ token.Mark close_round ∷ []))
  before : (p : ℕ) (sign : Token) (u : Unary) (a : List CondHead) (ts : List Token) →
      unary_of sign ≡ Some u → Is d constants (One (part.Expression unary_level)) a ts →
      Is d constants (One (part.Expression p)) (a ++ head.Unary u ∷ []) (sign ∷ ts)
  between : (p : ℕ) (op : Binary) (a b : List CondHead) (ts us : List Token) → p ≤ level op →
      Is d constants (One (part.Expression (level op))) a ts → Is d constants (One (part.Expression (level op + 1))) b us →
      Is d constants (One (part.Expression p)) (a ++ (b ++ head.Binary op ∷ [])) (ts ++ token.Operator op ∷ us)
  choice : (a b c : List CondHead) (ts us vs : List Token) →
      Is d constants (One (part.Expression 1)) a ts → Is d constants (One expression) b us → Is d constants (One expression) c vs →
      Is d constants (One expression) (a ++ (b ++ (c ++ head.Choose ∷ []))) (ts ++ (token.Mark question ∷ us ++ token.Mark colon ∷ vs))
  operand : (word : List ℕ) (k : ℕ) → keyword_named word ≡ Some keyword.Operands →
      d ≡ dialect.Condition → k < 2 ^ 32 →
      Is d constants (One part.Operand) (head.Operand k ∷ []) (token.Word word ∷ token.Mark open_square ∷ token.Number k ∷ token.Mark close_square ∷ [])
  tested : (word : List ℕ) → keyword_named word ≡ Some keyword.Op → d ≡ dialect.Test →
      Is d constants (One part.Operand) (head.Operand 0 ∷ []) (token.Word word ∷ [])
  window : (n : ℕ) → Is d constants (One part.Window) (head.Window n ∷ []) (token.Number n ∷ [])
  any_mode : (word : List ℕ) (m : Mode) → mode_named word ≡ Some m →
      Is d constants (One part.AnyMode) (head.Mode m ∷ []) (token.Word word ∷ [])
  value_mode : (word : List ℕ) (m : Mode) → value_mode_named word ≡ Some m →
      Is d constants (One part.ValueMode) (head.Mode m ∷ []) (token.Word word ∷ [])
  value_operand : (a : List CondHead) (ts : List Token) → Is d constants (One part.Operand) a ts →
      Is d constants (One part.Value) a ts
  made : (word : List ℕ) (c : Call) (parts : List CondHead) (ts : List Token) →
      keyword_named word ≡ Some (keyword.Call c) → is_maker c ≡ true →
      Is d constants (Parts (signature_of c)) parts ts →
      Is d constants (One part.Value) (parts ++ head.Call c ∷ []) (token.Word word ∷ token.Mark open_round ∷ (ts ++ token.Mark close_round ∷ []))
  none : Is d constants (Parts signature.None) [] []
  one : (x : Part) (a : List CondHead) (ts : List Token) → Is d constants (One x) a ts →
      Is d constants (Parts (signature.One x)) a ts
  two : (x y : Part) (a b : List CondHead) (ts us : List Token) → Is d constants (One x) a ts →
      Is d constants (One y) b us →
      Is d constants (Parts (signature.Two x y)) (a ++ b) (ts ++ token.Mark comma ∷ us)
  three : (x y z : Part) (a b c : List CondHead) (ts us vs : List Token) →
      Is d constants (One x) a ts → Is d constants (One y) b us → Is d constants (One z) c vs →
      Is d constants (Parts (signature.Three x y z)) (a ++ (b ++ c)) (ts ++ (token.Mark comma ∷ us ++ token.Mark comma ∷ vs))
  assign : (closed : Bool) (word : List ℕ) (k : ℕ) (a : List CondHead) (ts : List Token) →
      keyword_named word ≡ Some keyword.Operands → k < 2 ^ 32 →
      Is d constants (One part.Value) a ts →
      Is d constants (Statement closed) (a ++ head.Assign k ∷ []) (token.Word word ∷ token.Mark open_square ∷ token.Number k ∷ token.Mark close_square ∷ token.Mark becomes ∷ (ts ++ token.Mark semicolon ∷ []))
  move : (closed : Bool) (word : List ℕ) (parts : List CondHead) (ts : List Token) →
      keyword_named word ≡ Some (keyword.Call call.EmitMove) →
      Is d constants (Parts (signature_of call.EmitMove)) parts ts →
      Is d constants (Statement closed) (parts ++ head.Call call.EmitMove ∷ []) (token.Word word ∷ token.Mark open_round ∷ (ts ++ token.Mark close_round ∷ token.Mark semicolon ∷ []))
  done : (closed : Bool) (word : List ℕ) → keyword_named word ≡ Some keyword.Done → Is d constants (Statement closed) (head.Done ∷ []) (token.Word word ∷ token.Mark semicolon ∷ [])
  fail : (closed : Bool) (word : List ℕ) → keyword_named word ≡ Some keyword.Fail → Is d constants (Statement closed) (head.Fail ∷ []) (token.Word word ∷ token.Mark semicolon ∷ [])
  block : (closed : Bool) (a : List CondHead) (ts : List Token) → Is d constants Statements a ts →
      Is d constants (Statement closed) a (token.Mark open_brace ∷ (ts ++ token.Mark close_brace ∷ []))
  when : (word : List ℕ) (a b : List CondHead) (ts us : List Token) →
      keyword_named word ≡ Some keyword.If →
      Is d constants (One expression) a ts → Is d constants (Statement false) b us →
      Is d constants (Statement false) (a ++ (b ++ head.If ∷ [])) (token.Word word ∷ token.Mark open_round ∷ (ts ++ token.Mark close_round ∷ us))
  when_else :
      (closed : Bool) (word other : List ℕ) (a b c : List CondHead) (ts us vs : List Token) →
      keyword_named word ≡ Some keyword.If → keyword_named other ≡ Some keyword.Else →
      Is d constants (One expression) a ts → Is d constants (Statement true) b us → Is d constants (Statement closed) c vs →
      Is d constants (Statement closed) (a ++ (b ++ (c ++ head.IfElse ∷ []))) (token.Word word ∷ token.Mark open_round ∷ (ts ++ (token.Mark close_round ∷ us ++ token.Word other ∷ vs)))
  nothing : Is d constants Statements (head.Nothing ∷ []) []
  then : (a b : List CondHead) (ts us : List Token) → Is d constants (Statement false) a ts →
      Is d constants Statements b us →
      Is d constants Statements (a ++ (b ++ head.Then ∷ [])) (ts ++ us)
  empty : Is d constants Condition (head.Number (pos 1) ∷ []) []
  whole : (a : List CondHead) (ts : List Token) → Is d constants (One expression) a ts →
      Is d constants Condition a ts

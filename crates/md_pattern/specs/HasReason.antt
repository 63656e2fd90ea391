-- The reasons that a tree of a description has as a pattern: GCC Internals, "RTL Template", and the
-- profile of this project for what of it is taken. A tree has a reason by itself, or an expression
-- in it has that reason. Nothing is said here of how a tree is read, or what it is read as.
use Rattle.std.specs.Prelude.{◌≡◌, ℕ, Bool, true, false, ◌&&◌, List, [], ◌∷◌, ◌++◌, replicate, Contains, Some, None, is_some, option_and_then, codes}
use Rattle.rtx_tree.specs.declared.code.Code.{Code}
use Rattle.rtx_tree.specs.declared.class.Parts.{Parts}
use Rattle.rtx_tree.specs.declared.class.Parts.TheVariants as parts
use Rattle.rtx_tree.specs.declared.constants.Constant.{Constant}
use Rattle.rtx_tree.specs.Code.{class_of_code, parts_of}
use Rattle.lisp_read.specs.declared.tree.Tree.{Tree}
use Rattle.lisp_read.specs.Shape.{atom_of, string_of, items_of, vector_of, is_vector, is_word}
use Rattle.lisp_read.specs.Head.{code_of_head, mode_of_head}
use Rattle.lisp_read.specs.Leaf.{quoted_name}
use Rattle.md_pattern.specs.declared.reason.Reason.{Reason}
use Rattle.md_pattern.specs.declared.reason.Reason.TheVariants as reason
use Rattle.md_pattern.specs.Word.{number_of, register_of}
use Rattle.md_pattern.specs.Operand.{number_in}

-- ---- what stands behind a code

-- What a tree at a place behind a code has to be: an atom; a number, or the name of a constant; a
-- symbol between quotes, in a list of its own; the offset 0; the number of an operand; a string, as
-- the name of a predicate; a constraint, which may lack; an expression; a vector of expressions.
pub data PartKind : Type 0 where
  Word : PartKind
  Number : PartKind
  Symbol : PartKind
  Zero : PartKind
  Operand : PartKind
  Text : PartKind
  Constraint : PartKind
  Expression : PartKind
  Vector : PartKind

-- the kinds of the trees behind a code, place by place
abbrev pub kinds_of : Parts → List PartKind
kinds_of parts.Register = PartKind.Word ∷ []
kinds_of parts.Number = PartKind.Number ∷ []
kinds_of parts.Symbol = PartKind.Symbol ∷ []
kinds_of parts.Lowpart = PartKind.Expression ∷ PartKind.Zero ∷ []
kinds_of (parts.Expressions n) = replicate n PartKind.Expression
kinds_of parts.Vector = PartKind.Vector ∷ []
kinds_of parts.Operand = PartKind.Operand ∷ PartKind.Text ∷ PartKind.Constraint ∷ []
kinds_of parts.Scratch = PartKind.Operand ∷ PartKind.Constraint ∷ []
kinds_of parts.Dup = PartKind.Operand ∷ []
kinds_of parts.Operator = PartKind.Operand ∷ PartKind.Text ∷ PartKind.Vector ∷ []
kinds_of parts.OperatorDup = PartKind.Operand ∷ PartKind.Vector ∷ []

-- a tree is of a kind; a tree that is no expression has its own reason for that
abbrev pub is_kind : List Constant → PartKind → Tree → Bool
is_kind constants PartKind.Word t = is_some (atom_of t)
is_kind constants PartKind.Number t = is_some (option_and_then (number_of constants) (atom_of t))
is_kind constants PartKind.Symbol t = is_some (quoted_name (items_of t))
is_kind constants PartKind.Zero t = is_word (codes "0") t
is_kind constants PartKind.Operand t = is_some (number_in t)
is_kind constants PartKind.Text t = is_some (string_of t)
is_kind constants PartKind.Constraint t = is_some (string_of t)
is_kind constants PartKind.Expression t = true
is_kind constants PartKind.Vector t = is_vector t

abbrev pub may_lack : PartKind → Bool
may_lack PartKind.Constraint = true
may_lack _ = false

-- as many trees as there are kinds, each of its own; at the end those may lack that may
abbrev pub are_kinds : List Constant → List PartKind → List Tree → Bool
are_kinds constants [] [] = true
are_kinds constants (k ∷ ks) [] = may_lack k && are_kinds constants ks []
are_kinds constants (k ∷ ks) (t ∷ ts) = is_kind constants k t && are_kinds constants ks ts
are_kinds constants [] (t ∷ ts) = false

-- the trees behind a code are those that it takes
abbrev pub has_parts : List Constant → Code → List Tree → Bool
has_parts constants c ts = are_kinds constants (kinds_of (parts_of (class_of_code c))) ts

-- the expressions among trees of these kinds
abbrev pub expressions_at : PartKind → Tree → List Tree
expressions_at PartKind.Expression t = t ∷ []
expressions_at PartKind.Vector t = vector_of t
expressions_at _ t = []

abbrev pub expressions_among : List PartKind → List Tree → List Tree
expressions_among (k ∷ ks) (t ∷ ts) = expressions_at k t ++ expressions_among ks ts
expressions_among _ _ = []

-- the expressions behind a code
abbrev pub expressions_in : Code → List Tree → List Tree
expressions_in c ts = expressions_among (kinds_of (parts_of (class_of_code c))) ts

-- ---- the reasons

-- The tree is a list: a word, and trees behind it.
pub record IsList (t : Tree) (word : List ℕ) (ts : List Tree) : Type 0 where
  pub head : Tree
  pub items : items_of t ≡ head ∷ ts
  pub word_is : atom_of head ≡ Some word

-- The tree is a list: a word that is a code, and trees behind it.
pub record IsOf (t : Tree) (word : List ℕ) (c : Code) (ts : List Tree) : Type 0 where
  pub list : IsList t word ts
  pub code : code_of_head word ≡ Some c

-- The tree has this reason as an expression.
pub data HasReason (constants : List Constant) : Tree → Reason → Type 0 where
  -- it is no list with a word at its head
  no_list : (t : Tree) → ((word : List ℕ) (ts : List Tree) → IsList t word ts → ⊥) →
      HasReason constants t reason.Parts
  -- the word is no code; what stands behind it isn't looked at
  no_code : (t : Tree) (word : List ℕ) (ts : List Tree) → IsList t word ts →
      code_of_head word ≡ None → HasReason constants t reason.Code
  -- a part of it is missing, too much or of the wrong kind
  wrong_parts : (t : Tree) (word : List ℕ) (c : Code) (ts : List Tree) → IsOf t word c ts →
      has_parts constants c ts ≡ false → HasReason constants t reason.Parts
  -- it is a register that there isn't
  no_register : (t : Tree) (word : List ℕ) (c : Code) (w : Tree) (text : List ℕ) →
      IsOf t word c (w ∷ []) → parts_of (class_of_code c) ≡ parts.Register →
      atom_of w ≡ Some text → register_of constants text ≡ None → HasReason constants t reason.Code
  -- its mode is none of those that are taken
  no_mode : (t : Tree) (word : List ℕ) (c : Code) (ts : List Tree) → IsOf t word c ts →
      mode_of_head word ≡ None → HasReason constants t reason.Mode
  -- an expression behind its code has the reason
  inside : (t : Tree) (word : List ℕ) (c : Code) (ts : List Tree) (u : Tree) (r : Reason) →
      IsOf t word c ts → has_parts constants c ts ≡ true → Contains (expressions_in c ts) u →
      HasReason constants u r → HasReason constants t r

-- The tree has this reason as a vector of expressions.
pub data VectorHasReason (constants : List Constant) (t : Tree) : Reason → Type 0 where
  no_vector : is_vector t ≡ false → VectorHasReason constants t reason.Parts
  element : (u : Tree) (r : Reason) → Contains (vector_of t) u → HasReason constants u r →
      VectorHasReason constants t r

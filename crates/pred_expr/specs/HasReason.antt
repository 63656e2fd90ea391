-- The reasons that a tree of a description has as a test: GCC Internals, "Defining Machine-Specific
-- Predicates". A tree has a reason by itself, or a test in it has that reason. Nothing is said here
-- of how a tree is read, or what it is read as.
use Rattle.std.specs.Prelude.{◌≡◌, ℕ, Bool, true, false, List, [], ◌∷◌, replicate, Contains, Some, None}
use Rattle.rtx_tree.specs.declared.constants.Constant.{Constant}
use Rattle.c_cond.specs.c_words.declared.atom.Dialect.TheVariants as dialect
use Rattle.c_cond.specs.declared.tree.Tree as c_tree
use Rattle.c_cond.specs.Grammar.{IsText, Condition}
use Rattle.md_pattern.specs.lisp_read.declared.tree.Tree.{Tree}
use Rattle.md_pattern.specs.lisp_read.Head.{mode_of_head}
use Rattle.md_text.specs.Lists.{members}
use Rattle.md_pattern.specs.declared.reason.Reason.{Reason}
use Rattle.md_pattern.specs.declared.reason.Reason.TheVariants as reason
use Rattle.md_pattern.specs.HasReason.{PartKind, are_kinds, expressions_among, IsList}
use Rattle.pred_expr.specs.declared.test.TestKind.{TestKind}
use Rattle.pred_expr.specs.declared.test.TestKind.TheVariants as kind
use Rattle.pred_expr.specs.Test.{kind_of, text_in}
use Rattle.rtx_tree.specs.Code.{code_in}

-- the kinds of the trees behind the word of a test, place by place: the codes, or the condition;
-- the operand's number, its predicate, and a constraint, which may lack; other tests
abbrev pub kinds_of : TestKind → List PartKind
kinds_of kind.Codes = PartKind.Text ∷ []
kinds_of kind.Condition = PartKind.Text ∷ []
kinds_of kind.Predicate = PartKind.Operand ∷ PartKind.Text ∷ PartKind.Constraint ∷ []
kinds_of kind.And = replicate 2 PartKind.Expression
kinds_of kind.Ior = replicate 2 PartKind.Expression
kinds_of kind.Not = replicate 1 PartKind.Expression
kinds_of kind.IfThenElse = replicate 3 PartKind.Expression

-- the trees behind the word are those that it takes
abbrev pub has_parts : List Constant → TestKind → List Tree → Bool
has_parts constants k ts = are_kinds constants (kinds_of k) ts

-- the tests behind the word
abbrev pub tests_in : TestKind → List Tree → List Tree
tests_in k ts = expressions_among (kinds_of k) ts

-- The tree is a list: a word that begins a test of this kind, and trees behind it.
pub record IsOf (t : Tree) (word : List ℕ) (k : TestKind) (ts : List Tree) : Type 0 where
  pub list : IsList t word ts
  pub kind_is : kind_of word ≡ Some k

-- The tree has this reason as a test.
pub data HasReason (constants : List Constant) : Tree → Reason → Type 0 where
  -- it is no list with the word of a test at its head
  no_test : (t : Tree) →
      ((word : List ℕ) (k : TestKind) (ts : List Tree) → IsOf t word k ts → ⊥) →
      HasReason constants t reason.Parts
  -- a part of it is missing, too much or of the wrong kind
  wrong_parts : (t : Tree) (word : List ℕ) (k : TestKind) (ts : List Tree) → IsOf t word k ts →
      has_parts constants k ts ≡ false → HasReason constants t reason.Parts
  -- it asks for a code, and there is none of that name
  no_code : (t : Tree) (word : List ℕ) (ts : List Tree) (text name : List ℕ) →
      IsOf t word kind.Codes ts → text_in ts ≡ Some text → Contains (members text) name →
      code_in name ≡ None → HasReason constants t reason.Code
  -- it asks for a predicate at a mode that is none of those that are taken
  no_mode : (t : Tree) (word : List ℕ) (ts : List Tree) → IsOf t word kind.Predicate ts →
      mode_of_head word ≡ None → HasReason constants t reason.Mode
  -- its condition is outside the grammar
  no_condition : (t : Tree) (word : List ℕ) (ts : List Tree) (text : List ℕ) →
      IsOf t word kind.Condition ts → text_in ts ≡ Some text →
      ((c : c_tree.Tree) → IsText dialect.Test constants Condition text c → ⊥) →
      HasReason constants t reason.Condition
  -- a test behind its word has the reason
  inside : (t : Tree) (word : List ℕ) (k : TestKind) (ts : List Tree) (u : Tree) (r : Reason) →
      IsOf t word k ts → has_parts constants k ts ≡ true → Contains (tests_in k ts) u →
      HasReason constants u r → HasReason constants t r

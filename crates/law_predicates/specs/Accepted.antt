-- Which predicates of a description are accepted: GCC Internals, "Machine-Independent Predicates"
-- and "Defining Machine-Specific Predicates". No rounds stand here: a predicate is accepted by
-- steps that come to an end, so one that reaches itself is not.
use Rattle.std.specs.Prelude.{◌≡◌, ℕ, Bool, true, ◌&&◌, List, [], ◌∷◌, Some, None, Contains}
use Rattle.std.specs.Prelude.{find}
use Rattle.rtx_tree.specs.declared.constants.Constant.{Constant}
use Rattle.lisp_read.specs.declared.tree.Tree.{Tree}
use Rattle.lisp_read.specs.Shape.{string_of, items_of}
use Rattle.md_iter.specs.declared.substitution.Instance.{Instance}
use Rattle.pred_expr.specs.declared.question.Test.{Test}
use Rattle.pred_expr.specs.Test.{IsTest, predicates_of}
use Rattle.md_draft.specs.declared.head.FormHead.{FormHead}
use Rattle.md_draft.specs.Draft.{name_in}
use Rattle.md_draft.specs.Reasons.{head_of}
use Rattle.md_forms.specs.md_tables.Tables.{defines_predicate}
use Rattle.md_operand.specs.declared.built_in.BuiltIn.{BuiltIn}
use Rattle.md_operand.specs.Operand.{built_in_named}
use Rattle.md_pred.specs.Holds.{is_named}

-- ---- definitions

-- The tree is (define_predicate "NAME" TEST), or that of a special predicate, and this is the test.
pub record IsDefinition (constants : List Constant) (t : Tree) (h : FormHead) (test : Test) : Type 0
  where
    pub first : Tree
    pub second : Tree
    pub third : Tree
    pub name : List ℕ
    pub items : items_of t ≡ first ∷ second ∷ third ∷ []
    pub head : head_of t ≡ Some h
    pub defines : defines_predicate (Some h) ≡ true
    pub named : string_of second ≡ Some name
    pub tested : IsTest constants third test

-- The form defines a predicate of this name, whatever else is wrong with it. Of a name the first
-- definition counts.
abbrev pub defines : List ℕ → Instance → Bool
defines name form =
    defines_predicate (head_of form.tree) && is_named (name_in (items_of form.tree)) name

-- ---- accepted predicates

-- A predicate is accepted where every description has it, or where the form that defines it first
-- is a definition, and the predicates that its test names are accepted.
pub data IsAccepted (constants : List Constant) (forms : List Instance) : List ℕ → Type 0 where
  own : (name : List ℕ) (o : BuiltIn) → built_in_named name ≡ Some o → IsAccepted constants forms name
  defined : (name : List ℕ) (form : Instance) (h : FormHead) (test : Test) →
      find (defines name) forms ≡ Some form →
      IsDefinition constants form.tree h test →
      ((used : List ℕ) → Contains (predicates_of test) used → IsAccepted constants forms used) →
      IsAccepted constants forms name

-- each of some names
abbrev pub AreAccepted : List Constant → List Instance → List (List ℕ) → Type 0
AreAccepted constants forms names =
    (used : List ℕ) → Contains names used → IsAccepted constants forms used

-- ---- what a predicate reaches

-- The test of the first definition of a predicate names another. One that every description has
-- asks for none.
pub record Asks (constants : List Constant) (forms : List Instance) (name used : List ℕ) : Type 0
  where
    pub form : Instance
    pub head : FormHead
    pub test : Test
    pub other : built_in_named name ≡ None
    pub first : find (defines name) forms ≡ Some form
    pub definition : IsDefinition constants form.tree head test
    pub names : Contains (predicates_of test) used

-- by one step or more
pub data Reaches (constants : List Constant) (forms : List Instance) : List ℕ → List ℕ →
    Type 0 where
  one : (name used : List ℕ) → Asks constants forms name used → Reaches constants forms name used
  more : (name used far : List ℕ) → Asks constants forms name used →
      Reaches constants forms used far → Reaches constants forms name far

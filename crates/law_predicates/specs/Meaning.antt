-- What the predicates of a description are, in the words of its trees: what their tests are, which
-- of them are accepted, and which operands they accept. These are laws of the definitions of
-- pred_expr, md_forms and md_pred, which compute: of what is read, of what is set aside in rounds,
-- and of what is accepted in rounds.
use Rattle.std.specs.Prelude.{◌≡◌, ◌↔◌, ◌⊎◌, ℕ, true, false, ◌&&◌, List, Some, None}
use Rattle.std.specs.Prelude.{Ok, Err, find}
use Rattle.rtx_tree.specs.declared.code.Mode.{Mode}
use Rattle.rtx_tree.specs.declared.constants.Constant.{Constant}
use Rattle.rtx_tree.specs.declared.tree.Rtx.{Rtx}
use Rattle.lisp_read.specs.declared.tree.Tree.{Tree}
use Rattle.md_iter.specs.declared.substitution.Instance.{Instance}
use Rattle.md_pattern.specs.declared.reason.Reason.{Reason}
use Rattle.md_pattern.specs.declared.reason.Reason.TheVariants as reason
use Rattle.pred_expr.specs.declared.question.Test.{Test}
use Rattle.pred_expr.specs.Test.{IsTest, test_of, predicates_of}
use Rattle.md_draft.specs.declared.draft.Draft.{Draft}
use Rattle.md_draft.specs.declared.head.FormHead.{FormHead}
use Rattle.md_draft.specs.Reasons.{head_of}
use Rattle.md_forms.specs.declared.form.Form.{Form}
use Rattle.md_forms.specs.md_tables.Names.{predicates_named}
use Rattle.md_forms.specs.md_tables.Tables.{defines_predicate}
use Rattle.md_forms.specs.Checks.{has_reason}
use Rattle.md_forms.specs.Forms.{forms_of}
use Rattle.md_forms.specs.Reasons.{tables_in, judged_in}
use Rattle.md_operand.specs.declared.built_in.BuiltIn.{BuiltIn}
use Rattle.md_operand.specs.Operand.{accepts, built_in_named}
use Rattle.pred_rows.specs.Tests.{Accepts, test_holds}
use Rattle.md_pred.specs.Holds.{holds, mode_fits}
use Rattle.law_predicates.specs.Accepted.{IsDefinition, defines, IsAccepted, AreAccepted, Reaches}

-- ---- tests

-- What a tree is read as is the test that it is, by the cases of IsTest; it is one test, and where
-- it is set aside it is none.
pub record TestsAreRead (constants : List Constant) : Type 0 where
  pub read : (t : Tree) (x : Test) → (test_of constants t ≡ Ok x) ↔ IsTest constants t x
  pub one : (t : Tree) (x y : Test) → IsTest constants t x → IsTest constants t y → x ≡ y
  pub aside : (t : Tree) (r : Reason) → test_of constants t ≡ Err r → (x : Test) →
      IsTest constants t x → ⊥

-- ---- forms

-- A definition that is not set aside: its tree is one, the predicates that its test names are
-- accepted, and its form says this test.
pub record Stands (constants : List Constant) (forms : List Instance) (form : Instance)
    (h : FormHead) (f : Form) : Type 0 where
  pub test : Test
  pub definition : IsDefinition constants form.tree h test
  pub accepted : AreAccepted constants forms (predicates_of test)
  pub head_is : f.head ≡ h
  pub test_is : f.test ≡ Some test

-- The definitions of predicates that are not set aside are those that stand, and the first of a
-- name is among them exactly where the predicate is accepted. A form of any head has the reason of
-- its predicates exactly where it names one that is not accepted. A predicate is accepted or not,
-- and an accepted one does not reach itself.
pub record AreJudged (constants : List Constant) (forms : List Instance) : Type 0 where
  pub taken : (form : Instance) (h : FormHead) (f : Form) → head_of form.tree ≡ Some h →
      defines_predicate (Some h) ≡ true →
      judged_in constants forms form ≡ Ok f → Stands constants forms form h f
  pub stands : (form : Instance) (h : FormHead) (test : Test) →
      IsDefinition constants form.tree h test →
      AreAccepted constants forms (predicates_of test) →
      (f : Form) × (judged_in constants forms form ≡ Ok f)
  pub first : (name : List ℕ) (form : Instance) → built_in_named name ≡ None →
      find (defines name) forms ≡ Some form →
      IsAccepted constants forms name ↔ ((f : Form) × (judged_in constants forms form ≡ Ok f))
  pub named : (d : Draft) → (has_reason (tables_in constants forms) d reason.Predicate ≡ false) ↔
      AreAccepted constants forms (predicates_named d)
  pub either : (name : List ℕ) →
      IsAccepted constants forms name ⊎ (IsAccepted constants forms name → ⊥)
  pub ends : (name : List ℕ) →
      IsAccepted constants forms name → Reaches constants forms name name → ⊥

-- ---- what predicates accept

-- Predicates take what their definitions say: one that every description has answers itself; an
-- accepted one takes what its test says, in which each predicate that is named takes the same
-- again; any other takes nothing.
pub record AreMeant (constants : List Constant) (forms : List Instance) (takes : Accepts) : Type 0
  where
    pub own : (name : List ℕ) (o : BuiltIn) (x : Rtx) (m : Mode) → built_in_named name ≡ Some o →
        takes name x m ≡ accepts o m x
    pub tested :
        (name : List ℕ) (form : Instance) (h : FormHead) (test : Test) (x : Rtx) (m : Mode) →
        built_in_named name ≡ None → find (defines name) forms ≡ Some form →
        IsDefinition constants form.tree h test → AreAccepted constants forms (predicates_of test) →
        takes name x m ≡ (mode_fits h m x && test_holds takes x m test)
    pub aside : (name : List ℕ) (x : Rtx) (m : Mode) → (IsAccepted constants forms name → ⊥) →
        takes name x m ≡ false

-- What `holds` gives for the forms of a description is such, and nothing else is: its rounds
-- suffice.
pub record HoldsAreMeant (constants : List Constant) (forms : List Instance) : Type 0 where
  pub are : AreMeant constants forms (holds (forms_of constants forms))
  pub alone : (other : Accepts) → AreMeant constants forms other →
      (name : List ℕ) (x : Rtx) (m : Mode) →
      other name x m ≡ holds (forms_of constants forms) name x m

-- ---- all of it

-- what the predicates of a description are
pub record PredicatesAre (constants : List Constant) (forms : List Instance) : Type 0 where
  pub tests : TestsAreRead constants
  pub judged : AreJudged constants forms
  pub meant : HoldsAreMeant constants forms

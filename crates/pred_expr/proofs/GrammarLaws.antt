-- The tree of a text as a value is the one that the grammar gives it.
use Rattle.std.proofs.Common.{◌≡◌, ◌↔◌, List, [], ℕ, Option, Some, None, Result, Ok, Err, refl, subst}
use Rattle.rtx_tree.specs.declared.constants.Constant.{Constant}
use Rattle.c_cond.specs.c_words.declared.atom.Dialect.TheVariants as dialect
use Rattle.c_cond.specs.declared.tree.Tree.{Tree}
use Rattle.c_cond.specs.Grammar.{Is, IsText, Condition, Statements}
use Rattle.c_cond.specs.Reading.{Reading}
use Rattle.c_cond.specs.Answers.{Gives as GivesText}
use Rattle.c_cond.specs.Beginning.{IsOutside}
use Rattle.c_cond.specs.declared.parse.CondRefusal.{CondRefusal}
use Rattle.c_cond.specs.declared.parse.CondRefusal.TheVariants as refusal
use Rattle.c_cond.proofs.Answered.{one_condition, one_statements}
use Rattle.md_pattern.specs.declared.reason.Reason.{Reason}
use Rattle.md_pattern.specs.declared.reason.Reason.TheVariants as reason
use Rattle.md_pattern.specs.Pattern.{or_aside}
use Rattle.pred_expr.specs.Texts.{Says, as_condition, as_test_condition, as_statements, condition_of, test_condition_of, statements_of, always, nothing}

-- a text outside has no tree
pub none_in : (P : List ℕ → Tree → Type 0) (bytes : List ℕ) (e : CondRefusal) (offset : ℕ) → e ≡ refusal.Outside offset → GivesText P bytes (Err e) → (t : Tree) → P bytes t → ⊥
none_in P bytes e offset is h = let o : IsOutside P bytes offset = subst (λ e. GivesText P bytes (Err e)) is h in o.no_text

-- ---- judged

abbrev answered : Tree → Result Tree Reason
answered t = Ok t

abbrev there : Tree → Option Tree
there t = Some t

ok_is : (a b : Tree) → answered a ≡ Ok b → there a ≡ Some b
ok_is a b e = cc

some_is : (a b : Tree) → there a ≡ Some b → answered a ≡ Ok b
some_is a b e = cc

none_some : (a : Tree) → None ≡ there a → ⊥
none_some a e = cc

ok_aside : (a : Tree) (r : Reason) → answered a ≡ Err r → ⊥
ok_aside a r e = cc

aside_ok : (a : Tree) (r : Reason) → Err r ≡ answered a → ⊥
aside_ok a r e = cc

says_by : (r : Reason) (P : Tree → Type 0) (o : Option Tree) → ((t : Tree) → (o ≡ Some t) ↔ P t) → Says r P (or_aside r o)
says_by r P (Some u) is = record {
  tree = λ t. (λ e. (is t).0 (ok_is u t e), λ p. some_is u t ((is t).1 p));
  aside = (λ e. absurd (ok_aside u r e), λ none. absurd (none u ((is u).0 refl)));
}
says_by r P None is = record {
  tree = λ t. (λ e. absurd (aside_ok t r e), λ p. absurd (none_some t ((is t).1 p)));
  aside = (λ e t p. none_some t ((is t).1 p), λ none. refl);
}

says : (r : Reason) (P : Tree → Type 0) (read : Reading P) → Says r P (or_aside r read.value)
says r P read = says_by r P read.value read.is

pub condition_says : (cs : List Constant) (text : List ℕ) → Says reason.Condition (IsText dialect.Condition cs Condition text) (condition_of cs text)
condition_says cs text = says reason.Condition (IsText dialect.Condition cs Condition text) (as_condition cs text)

pub test_condition_says : (cs : List Constant) (text : List ℕ) → Says reason.Condition (IsText dialect.Test cs Condition text) (test_condition_of cs text)
test_condition_says cs text = says reason.Condition (IsText dialect.Test cs Condition text) (as_test_condition cs text)

pub statements_says : (cs : List Constant) (text : List ℕ) → Says reason.Statements (IsText dialect.Condition cs Statements text) (statements_of cs text)
statements_says cs text = says reason.Statements (IsText dialect.Condition cs Statements text) (as_statements cs text)

-- a text with a tree is read as that, and one without as none
pub value_is : {r : Reason} {P : Tree → Type 0} {value : Result Tree Reason} → Says r P value → (t : Tree) → P t → value ≡ Ok t
value_is said t p = (said.tree t).1 p

pub value_none : {r : Reason} {P : Tree → Type 0} {value : Result Tree Reason} → Says r P value → ((t : Tree) → P t → ⊥) → value ≡ Err r
value_none said none = said.aside.1 none

-- the trees of no text
pub no_condition_is : (t : Tree) → IsText dialect.Condition [] Condition [] t → t ≡ always
no_condition_is t is = one_condition dialect.Condition [] [] t always is Is.empty

pub no_statements_is : (t : Tree) → IsText dialect.Condition [] Statements [] t → t ≡ nothing
no_statements_is t is = one_statements dialect.Condition [] [] t nothing is Is.nothing

-- An accepted predicate does not reach itself.
use Rattle.std.proofs.Common.{◌≡◌, ℕ, List, ◌∷◌, [], Option, Some, None, Result, Ok, sym}
use Rattle.std.proofs.Common.{ap, subst, ◌∙◌}
use Rattle.std.specs.Prelude.{Contains}
use Rattle.std.specs.List.{find}
use Rattle.rtx_tree.specs.declared.constants.Constant.{Constant}
use Rattle.lisp_read.specs.declared.tree.Tree.{Tree}
use Rattle.md_iter.specs.declared.substitution.Instance.{Instance}
use Rattle.md_pattern.specs.declared.reason.Reason.{Reason}
use Rattle.pred_expr.specs.declared.question.Test.{Test}
use Rattle.pred_expr.specs.Test.{predicates_of, test_of}
use Rattle.pred_expr.proofs.Tests.{read_is}
use Rattle.md_draft.specs.declared.head.FormHead.{FormHead}
use Rattle.md_operand.specs.declared.built_in.BuiltIn.{BuiltIn}
use Rattle.md_operand.specs.Operand.{built_in_named}
use Rattle.law_predicates.specs.Accepted.{IsDefinition, defines, IsAccepted, Asks, Reaches}

same_third : (a b c x y z : Tree) → a ∷ b ∷ c ∷ [] ≡ x ∷ y ∷ z ∷ [] → c ≡ z
same_third a b c x y z e = cc

same_test : (x y : Test) → ◌≡◌ {A = Result Test Reason} (Ok x) (Ok y) → x ≡ y
same_test x y e = cc

none_some : (o : BuiltIn) → ◌≡◌ {A = Option BuiltIn} None (Some o) → ⊥
none_some o e = cc

some_is : (a b : Instance) → Some a ≡ Some b → a ≡ b
some_is a b e = cc

module _ (constants : List Constant) where
  -- a tree is a definition with one test
  one_test : (t : Tree) (g h : FormHead) (x y : Test) → IsDefinition constants t g x →
      IsDefinition constants t h y → x ≡ y
  one_test t g h x y a b =
      let third : a.third ≡ b.third = same_third a.first a.second a.third b.first b.second b.third
      (sym a.items ∙ b.items) in
      same_test x y (sym ((read_is constants a.third x).1 a.tested) ∙ ap (test_of constants) third
      ∙ (read_is constants b.third y).1 b.tested)

  module _ (forms : List Instance) where
    -- what a definition names is all that is asked
    asked : (name used : List ℕ) (form : Instance) (h : FormHead) (x : Test) →
        find (defines name) forms ≡ Some form → IsDefinition constants form.tree h x
        → Asks constants forms name used → Contains (predicates_of x) used
    asked name used form h x first def asks =
        let same : asks.form ≡ form = some_is asks.form form (sym asks.first ∙ first) in
        let there : IsDefinition constants form.tree asks.head asks.test =
        subst (λ (f : Instance). IsDefinition constants f.tree asks.head asks.test) same
        asks.definition in
        subst (λ (t : Test). Contains (predicates_of t) used)
        (one_test form.tree asks.head h asks.test x there def) asks.names

    -- one step more behind
    longer : (a b c : List ℕ) → Reaches constants forms a b → Asks constants forms b c →
        Reaches constants forms a c
    longer a b c (Reaches.one _ _ asks) last = Reaches.more a b c asks (Reaches.one b c last)
    longer a b c (Reaches.more _ used _ asks rest) last =
        Reaches.more a used c asks (longer used b c rest last)

    -- where what is asked does not reach itself, neither does what asks
    turns : (name : List ℕ) → ((used : List ℕ) → Asks constants forms name used →
        Reaches constants forms used used → ⊥) → Reaches constants forms name name → ⊥
    turns name none (Reaches.one _ _ asks) = none name asks (Reaches.one name name asks)
    turns name none (Reaches.more _ used _ asks rest) =
        none used asks (longer used name used rest asks)

    own_asks : (name : List ℕ) (o : BuiltIn) → built_in_named name ≡ Some o →
        Reaches constants forms name name → ⊥
    own_asks name o is (Reaches.one _ _ asks) = none_some o (sym asks.other ∙ is)
    own_asks name o is (Reaches.more _ used _ asks rest) = none_some o (sym asks.other ∙ is)

    pub ends : (name : List ℕ) → IsAccepted constants forms name →
        Reaches constants forms name name → ⊥
    ends name (IsAccepted.own _ o is) = own_asks name o is
    ends name (IsAccepted.defined _ form h x first def rest) =
        turns name (λ used asks. ends used (rest used (asked name used form h x first def asks)))

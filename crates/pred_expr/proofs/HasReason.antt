-- A tree is set aside as a test with the smallest of the reasons that it has.
use Rattle.std.proofs.Common.{◌≡◌, ℕ, false, true, List, [], ◌∷◌, Option, Some, None, Result, Err, map, refl, sym, ap, subst, ◌∙◌}
use Rattle.std.specs.Prelude.{Contains}
use Rattle.std.specs.List.{AllByRecursion}
use Rattle.rtx_tree.specs.declared.constants.Constant.{Constant}
use Rattle.md_pattern.specs.lisp_read.declared.tree.Tree.{Tree, roll-Tree, out-roll-Tree}
use Rattle.md_pattern.specs.lisp_read.declared.tree.Tree.TheOpen.{Tree-F}
use Rattle.md_pattern.specs.lisp_read.declared.tree.Tree.TheVariants as tree
use Rattle.md_pattern.specs.lisp_read.Head.{mode_of_head}
use Rattle.md_pattern.specs.lisp_read.Shape.{atom_of, items_at, items_of}
use Rattle.md_pattern.proofs.lisp_read.TreeInduction.{Steps, induction}
use Rattle.md_pattern.specs.declared.reason.Reason.{Reason}
use Rattle.md_pattern.specs.declared.reason.Reason.TheVariants as reason
use Rattle.md_pattern.specs.Reason.{IsSmallest}
use Rattle.md_pattern.specs.HasReason.{IsList}
use Rattle.md_pattern.proofs.Smallest.{change}
use Rattle.md_pattern.proofs.OneList.{same_list, some_none}
use Rattle.pred_expr.specs.declared.question.Test.{Test}
use Rattle.pred_expr.specs.declared.test.TestKind.{TestKind}
use Rattle.pred_expr.specs.declared.test.TestKind.TheVariants as kind
use Rattle.pred_expr.specs.Test.{kind_of, text_in, behind, of_kind, of_head, list_by, test_of}
use Rattle.pred_expr.specs.HasReason.{has_parts, tests_in, IsOf, HasReason}
use Rattle.pred_expr.proofs.TestLaws.{test_out}
use Rattle.pred_expr.proofs.Questions.{Least, Behind, two_le}
use Rattle.pred_expr.proofs.OneTest as one_test

-- ---- one list

same_kind : (w v : List ℕ) (k j : TestKind) → w ≡ v → kind_of w ≡ Some k → kind_of v ≡ Some j → k ≡ j
same_kind w v k j same a b = let e : ◌≡◌ {A = Option TestKind} (Some k) (Some j) = sym a ∙ ap kind_of same ∙ b in cc

-- what holds of the kind of a test, and of the trees behind it, holds however the tree is looked at
move : (P : List ℕ → TestKind → List Tree → Type 0) (t : Tree) (w v : List ℕ) (k j : TestKind) (ts us : List Tree) → IsOf t w k ts → IsOf t v j us → P v j us → P w k ts
move P t w v k j ts us a b x =
    let same = same_list t w v ts us a.list b.list in
    let one = same_kind w v k j same.0 a.kind_is b.kind_is in
    subst (λ (y : List ℕ). P y k ts) (sym same.0) (subst (λ (y : TestKind). P v y ts) (sym one) (subst (λ (y : List Tree). P v j y) (sym same.1) x))

module _ (cs : List Constant) (t : Tree) where
  no_test : ((word : List ℕ) (k : TestKind) (ts : List Tree) → IsOf t word k ts → ⊥) → IsSmallest {A = Test} (HasReason cs t) (Err reason.Parts)
  no_test none = (HasReason.no_test t none, two_le cs t)

  module _ (word : List ℕ) (ts : List Tree) where
    module _ (k : TestKind) (is : IsOf t word k ts) where
      to : (r : Reason) → Behind cs word k ts r → HasReason cs t r
      to _ (Behind.wrong e) = HasReason.wrong_parts t word k ts is e
      to _ (Behind.code text name same quoted stands e) = HasReason.no_code t word ts text name (subst (λ (j : TestKind). IsOf t word j ts) same is) quoted stands e
      to _ (Behind.mode same e) = HasReason.no_mode t word ts (subst (λ (j : TestKind). IsOf t word j ts) same is) e
      to _ (Behind.condition text same quoted none) = HasReason.no_condition t word ts text (subst (λ (j : TestKind). IsOf t word j ts) same is) quoted none
      to r (Behind.inside _ fit has) = HasReason.inside t word k ts has.0 r is fit has.1 has.2

      from : (r : Reason) → HasReason cs t r → Behind cs word k ts r
      from _ (HasReason.no_test _ none) = absurd (none word k ts is)
      from _ (HasReason.wrong_parts _ v j us other e) = Behind.wrong (move (λ w i xs. has_parts cs i xs ≡ false) t word v k j ts us is other e)
      from _ (HasReason.no_code _ v us text name other quoted stands e) =
          Behind.code text name (move (λ w i xs. i ≡ kind.Codes) t word v k kind.Codes ts us is other refl) (move (λ w i xs. text_in xs ≡ Some text) t word v k kind.Codes ts us is other quoted) stands e
      from _ (HasReason.no_mode _ v us other e) =
          Behind.mode (move (λ w i xs. i ≡ kind.Predicate) t word v k kind.Predicate ts us is other refl) (move (λ w i xs. mode_of_head w ≡ None) t word v k kind.Predicate ts us is other e)
      from _ (HasReason.no_condition _ v us text other quoted none) =
          Behind.condition text (move (λ w i xs. i ≡ kind.Condition) t word v k kind.Condition ts us is other refl) (move (λ w i xs. text_in xs ≡ Some text) t word v k kind.Condition ts us is other quoted) none
      from r (HasReason.inside _ v j us u _ other fit stands has) =
          Behind.inside r (move (λ w i xs. has_parts cs i xs ≡ true) t word v k j ts us is other fit) (u, move (λ w i xs. Contains (tests_in i xs) u) t word v k j ts us is other stands, has)

      of_known : AllByRecursion (Least cs) ts → IsSmallest (HasReason cs t) (behind cs k (mode_of_head word) ts (map (test_of cs) ts))
      of_known all = change (Behind cs word k ts) (HasReason cs t) (behind cs k (mode_of_head word) ts (map (test_of cs) ts)) to from (one_test.of_kind cs word ts k all)

    by_kind : (o : Option TestKind) → IsList t word ts → kind_of word ≡ o → AllByRecursion (Least cs) ts → IsSmallest (HasReason cs t) (of_kind cs o (mode_of_head word) ts (map (test_of cs) ts))
    by_kind (Some k) is known all = of_known k (record { list = is; kind_is = known }) all
    by_kind None is none all = no_test unknown
      where
        unknown : (v : List ℕ) (k : TestKind) (us : List Tree) → IsOf t v k us → ⊥
        unknown v k us other = some_none k (kind_of v) other.kind_is (ap kind_of (sym (same_list t word v ts us is other.list).0) ∙ none)

  -- ---- a tree

  by_items : (ts : List Tree) → items_of t ≡ ts → AllByRecursion (Least cs) ts → IsSmallest (HasReason cs t) (list_by cs ts (map (test_of cs) ts))
  by_items [] are all = no_test none
    where
      empty : (h : Tree) (us : List Tree) (xs : List Tree) → xs ≡ [] → xs ≡ h ∷ us → ⊥
      empty h us xs e f = cc

      none : (word : List ℕ) (k : TestKind) (us : List Tree) → IsOf t word k us → ⊥
      none word k us is = empty is.list.head us (items_of t) are is.list.items
  by_items (h ∷ ts) are all = by_word (atom_of h) refl
    where
      by_word : (o : Option (List ℕ)) → atom_of h ≡ o → IsSmallest (HasReason cs t) (of_head cs o ts (map (test_of cs) ts))
      by_word (Some word) is = by_kind word ts (kind_of word) (record { head = h; items = are; word_is = is }) refl all.1
      by_word None is = no_test none
        where
          first : (g : Tree) (us xs : List Tree) → xs ≡ h ∷ ts → xs ≡ g ∷ us → h ≡ g
          first g us xs e f = cc

          none : (word : List ℕ) (k : TestKind) (us : List Tree) → IsOf t word k us → ⊥
          none word k us other = some_none word (atom_of other.list.head) other.list.word_is (ap atom_of (sym (first other.list.head us (items_of t) are other.list.items)) ∙ is)

  of_items : (ts : List Tree) → items_of t ≡ ts → AllByRecursion (Least cs) ts → Least cs t
  of_items ts are all = subst (λ (x : Result Test Reason). IsSmallest (HasReason cs t) x) (sym (test_out cs t ∙ ap (λ (us : List Tree). list_by cs us (map (test_of cs) us)) are)) (by_items ts are all)

-- ---- every tree

module _ (cs : List Constant) where
  by_trees : (o : Tree-F Tree) (t : Tree) → roll-Tree o ≡ t → AllByRecursion (Least cs) (items_at o) → Least cs t
  by_trees o t is items = of_items cs t (items_at o) (ap items_of (sym is) ∙ ap items_at (out-roll-Tree o)) items

  steps : Steps (Least cs)
  steps = record {
    atom = λ p text. by_trees (Tree-F.Atom p text) (tree.Atom p text) (tree.rolls-Atom p text) tt;
    string = λ p text. by_trees (Tree-F.Str p text) (tree.Str p text) (tree.rolls-Str p text) tt;
    block = λ p text. by_trees (Tree-F.Block p text) (tree.Block p text) (tree.rolls-Block p text) tt;
    list = λ p ts all. by_trees (Tree-F.List p ts) (tree.List p ts) (tree.rolls-List p ts) all;
    vector = λ p ts all. by_trees (Tree-F.Vector p ts) (tree.Vector p ts) (tree.rolls-Vector p ts) tt;
  }

  pub of_tree : (t : Tree) → Least cs t
  of_tree = induction (Least cs) steps

-- The trees behind the word of a test give the smallest of their reasons: for each kind of test.
use Rattle.std.proofs.Common.{◌≡◌, ◌≤◌, ℕ, ◌==◌, Bool, true, false, true≢false, List, Option, Some, None, Result, Ok, Err, map, length, if◌then◌else◌, refl, sym, ap, subst, ◌∙◌, arith}
use Rattle.std.specs.Prelude.{is_some, Contains}
use Rattle.std.specs.List.{AllByRecursion}
use Rattle.std.proofs.lemmas.List.{length-map}
use Rattle.rtx_tree.specs.declared.code.Mode.{Mode}
use Rattle.rtx_tree.specs.declared.constants.Constant.{Constant}
use Rattle.c_cond.specs.c_words.declared.atom.Dialect.TheVariants as dialect
use Rattle.c_cond.specs.declared.tree.Tree as c_tree
use Rattle.c_cond.specs.Grammar.{IsText, Condition}
use Rattle.md_pattern.specs.lisp_read.declared.tree.Tree.{Tree}
use Rattle.md_pattern.specs.lisp_read.Head.{mode_of_head}
use Rattle.md_text.specs.Lists.{members}
use Rattle.md_pattern.specs.declared.reason.Reason.{Reason}
use Rattle.md_pattern.specs.declared.reason.Reason.TheVariants as reason
use Rattle.md_pattern.specs.Reason.{number_of, judged_map, IsSmallest}
use Rattle.md_pattern.specs.Pattern.{or_aside}
use Rattle.md_pattern.specs.HasReason.{are_kinds, expressions_among}
use Rattle.md_pattern.proofs.Smallest.{Among, none_in, change, made}
use Rattle.md_pattern.proofs.Taken.{ArePlain, nothing_among, many, all_expressions}
use Rattle.md_pattern.proofs.OneList.{some_none}
use Rattle.pred_expr.specs.declared.question.Question.{Question}
use Rattle.pred_expr.specs.declared.question.Question.TheVariants as question
use Rattle.pred_expr.specs.declared.question.Test.{Test}
use Rattle.pred_expr.specs.declared.test.TestKind.{TestKind}
use Rattle.pred_expr.specs.declared.test.TestKind.TheVariants as kind
use Rattle.pred_expr.specs.Texts.{test_condition_of}
use Rattle.pred_expr.specs.Test.{test_with, alone, text_in, codes_in, codes_by, condition_by, predicate_in, predicate_by, each, joined, behind, test_of}
use Rattle.pred_expr.specs.HasReason.{kinds_of, HasReason}
use Rattle.pred_expr.proofs.GrammarLaws.{test_condition_says, value_is, value_none}
use Rattle.pred_expr.proofs.Questions.{Least, two_le, each_smallest, Behind, one_text, predicate, NoCode, all_codes}

same_text : (a b : List ℕ) (o : Option (List ℕ)) → o ≡ Some a → o ≡ Some b → a ≡ b
same_text a b o e f = cc

err_ok : (s : Reason) (c : c_tree.Tree) → Err s ≡ Ok c → ⊥
err_ok s c e = cc

abbrev asks : TestKind → Bool
asks kind.Codes = true
asks kind.Condition = true
asks kind.Predicate = true
asks _ = false

module _ (cs : List Constant) (word : List ℕ) (ts : List Tree) where
  nothing_inside : (k : TestKind) (r : Reason) → ArePlain (kinds_of k) → Among (HasReason cs) (expressions_among (kinds_of k) ts) r → ⊥
  nothing_inside k r plain has = none_in has.0 (subst (λ (us : List Tree). Contains us has.0) (nothing_among (kinds_of k) ts plain) has.1)

  misfit : (k : TestKind) → are_kinds cs (kinds_of k) ts ≡ false → IsSmallest {A = Test} (Behind cs word k ts) (Err reason.Parts)
  misfit k e = (Behind.wrong e, least)
    where
      least : (r : Reason) → Behind cs word k ts r → 2 ≤ number_of r
      least _ (Behind.wrong _) = omega arith
      least _ (Behind.code _ _ _ _ _ _) = omega arith
      least _ (Behind.mode _ _) = omega arith
      least _ (Behind.condition _ _ _ _) = omega arith
      least r (Behind.inside _ fit has) = two_le cs has.0 r has.2

  not_both : {A : Type 0} (k : TestKind) → are_kinds cs (kinds_of k) ts ≡ true → are_kinds cs (kinds_of k) ts ≡ false → A
  not_both k fit e = absurd (true≢false (sym fit ∙ e))

  of_codes : IsSmallest (Behind cs word kind.Codes ts) (codes_by (text_in ts))
  of_codes = by_text (text_in ts) refl
    where
      by_text : (o : Option (List ℕ)) → text_in ts ≡ o → IsSmallest (Behind cs word kind.Codes ts) (codes_by o)
      by_text None is = misfit kind.Codes (one_text cs ts ∙ ap is_some is)
      by_text (Some text) is = made (Behind cs word kind.Codes ts) (λ all. alone (question.Codes all)) (or_aside reason.Code (codes_in text))
          (change (Among NoCode (members text)) (Behind cs word kind.Codes ts) (or_aside reason.Code (codes_in text)) to from (all_codes (members text)))
        where
          to : (r : Reason) → Among NoCode (members text) r → Behind cs word kind.Codes ts r
          to r has = subst (λ (s : Reason). Behind cs word kind.Codes ts s) (sym has.2.1) (Behind.code text has.0 refl is has.1 has.2.0)

          from : (r : Reason) → Behind cs word kind.Codes ts r → Among NoCode (members text) r
          from _ (Behind.wrong e) = not_both kind.Codes (one_text cs ts ∙ ap is_some is) e
          from _ (Behind.code other name _ quoted stands e) = (name, subst (λ (x : List ℕ). Contains (members x) name) (same_text other text (text_in ts) quoted is) stands, (e, refl))
          from _ (Behind.mode same e) = absurd cc
          from _ (Behind.condition other same quoted none) = absurd cc
          from r (Behind.inside _ fit has) = absurd (nothing_inside kind.Codes r (refl, tt) has)

  of_condition : IsSmallest (Behind cs word kind.Condition ts) (condition_by cs (text_in ts))
  of_condition = by_text (text_in ts) refl
    where
      by_tree : (text : List ℕ) (r : Result c_tree.Tree Reason) → text_in ts ≡ Some text → test_condition_of cs text ≡ r → IsSmallest (Behind cs word kind.Condition ts) r
      by_tree text (Err s) is aside = subst (λ (r : Result c_tree.Tree Reason). IsSmallest (Behind cs word kind.Condition ts) r) (sym (value_none (test_condition_says cs text) none) ∙ aside) (Behind.condition text refl is none, least)
        where
          none : (t : c_tree.Tree) → IsText dialect.Test cs Condition text t → ⊥
          none t is_text = err_ok s t (sym aside ∙ value_is (test_condition_says cs text) t is_text)

          least : (r : Reason) → Behind cs word kind.Condition ts r → 6 ≤ number_of r
          least _ (Behind.wrong e) = not_both kind.Condition (one_text cs ts ∙ ap is_some is) e
          least _ (Behind.code _ _ same _ _ _) = absurd cc
          least _ (Behind.mode same e) = absurd cc
          least _ (Behind.condition _ _ _ _) = omega arith
          least r (Behind.inside _ fit has) = absurd (nothing_inside kind.Condition r (refl, tt) has)
      by_tree text (Ok c) is there = none_there
        where
          parsed : IsText dialect.Test cs Condition text c
          parsed = ((test_condition_says cs text).tree c).0 there

          none_there : (r : Reason) → Behind cs word kind.Condition ts r → ⊥
          none_there _ (Behind.wrong e) = true≢false (sym (one_text cs ts ∙ ap is_some is) ∙ e)
          none_there _ (Behind.code _ _ same _ _ _) = cc
          none_there _ (Behind.mode same e) = cc
          none_there _ (Behind.condition other _ quoted none) = none c (subst (λ (x : List ℕ). IsText dialect.Test cs Condition x c) (same_text text other (text_in ts) is quoted) parsed)
          none_there r (Behind.inside _ fit has) = nothing_inside kind.Condition r (refl, tt) has

      by_text : (o : Option (List ℕ)) → text_in ts ≡ o → IsSmallest (Behind cs word kind.Condition ts) (condition_by cs o)
      by_text None is = misfit kind.Condition (one_text cs ts ∙ ap is_some is)
      by_text (Some text) is = made (Behind cs word kind.Condition ts) (λ c. alone (question.Condition c)) (test_condition_of cs text) (by_tree text (test_condition_of cs text) is refl)

  of_predicate : IsSmallest (Behind cs word kind.Predicate ts) (predicate_by (mode_of_head word) (predicate_in ts))
  of_predicate = by_name (predicate_in ts) refl
    where
      by_mode : (name : List ℕ) (o : Option Mode) → predicate_in ts ≡ Some name → mode_of_head word ≡ o → IsSmallest (Behind cs word kind.Predicate ts) (or_aside reason.Mode o)
      by_mode name None is none = (Behind.mode refl none, least)
        where
          least : (r : Reason) → Behind cs word kind.Predicate ts r → 4 ≤ number_of r
          least _ (Behind.wrong e) = not_both kind.Predicate (predicate cs ts ∙ ap is_some is) e
          least _ (Behind.code _ _ same _ _ _) = absurd cc
          least _ (Behind.mode _ _) = omega arith
          least _ (Behind.condition _ same _ _) = absurd cc
          least r (Behind.inside _ fit has) = absurd (nothing_inside kind.Predicate r (refl, (refl, (refl, tt))) has)
      by_mode name (Some m) is there = none_there
        where
          none_there : (r : Reason) → Behind cs word kind.Predicate ts r → ⊥
          none_there _ (Behind.wrong e) = true≢false (sym (predicate cs ts ∙ ap is_some is) ∙ e)
          none_there _ (Behind.code _ _ same _ _ _) = cc
          none_there _ (Behind.mode _ e) = some_none m (mode_of_head word) there e
          none_there _ (Behind.condition _ same _ _) = cc
          none_there r (Behind.inside _ fit has) = nothing_inside kind.Predicate r (refl, (refl, (refl, tt))) has

      by_name : (o : Option (List ℕ)) → predicate_in ts ≡ o → IsSmallest (Behind cs word kind.Predicate ts) (predicate_by (mode_of_head word) o)
      by_name None is = misfit kind.Predicate (predicate cs ts ∙ ap is_some is)
      by_name (Some name) is = made (Behind cs word kind.Predicate ts) (λ m. alone (question.Predicate name m)) (or_aside reason.Mode (mode_of_head word)) (by_mode name (mode_of_head word) is refl)

  -- so many tests
  of_tests : (k : TestKind) (q : Question) (n : ℕ) → asks k ≡ false → are_kinds cs (kinds_of k) ts ≡ (length ts == n) →
      (are_kinds cs (kinds_of k) ts ≡ true → expressions_among (kinds_of k) ts ≡ ts) → AllByRecursion (Least cs) ts →
      IsSmallest (Behind cs word k ts) (joined q n (map (test_of cs) ts))
  of_tests k q n other fits are all = by_count (length (map (test_of cs) ts) == n) (fits ∙ ap (λ m. m == n) (sym (length-map ts (test_of cs))))
    where
      asked : (j : TestKind) → asks j ≡ true → k ≡ j → ⊥
      asked j so same = true≢false (sym (ap asks same ∙ so) ∙ other)

      by_count : (b : Bool) → are_kinds cs (kinds_of k) ts ≡ b → IsSmallest (Behind cs word k ts) (if b then judged_map (test_with q) (each (map (test_of cs) ts)) else Err reason.Parts)
      by_count false e = misfit k e
      by_count true fit = made (Behind cs word k ts) (test_with q) (each (map (test_of cs) ts)) (change (Among (HasReason cs) ts) (Behind cs word k ts) (each (map (test_of cs) ts)) to from (each_smallest cs ts all))
        where
          to : (r : Reason) → Among (HasReason cs) ts r → Behind cs word k ts r
          to r has = Behind.inside r fit (has.0, subst (λ (us : List Tree). Contains us has.0) (sym (are fit)) has.1, has.2)

          from : (r : Reason) → Behind cs word k ts r → Among (HasReason cs) ts r
          from _ (Behind.wrong e) = not_both k fit e
          from _ (Behind.code _ _ same _ _ _) = absurd (asked kind.Codes refl same)
          from _ (Behind.mode same _) = absurd (asked kind.Predicate refl same)
          from _ (Behind.condition _ same _ _) = absurd (asked kind.Condition refl same)
          from r (Behind.inside _ _ has) = (has.0, subst (λ (us : List Tree). Contains us has.0) (are fit) has.1, has.2)

  pub of_kind : (k : TestKind) → AllByRecursion (Least cs) ts → IsSmallest (Behind cs word k ts) (behind cs k (mode_of_head word) ts (map (test_of cs) ts))
  of_kind kind.Codes all = of_codes
  of_kind kind.Condition all = of_condition
  of_kind kind.Predicate all = of_predicate
  of_kind kind.And all = of_tests kind.And question.And 2 refl (many cs 2 ts) (all_expressions cs 2 ts) all
  of_kind kind.Ior all = of_tests kind.Ior question.Ior 2 refl (many cs 2 ts) (all_expressions cs 2 ts) all
  of_kind kind.Not all = of_tests kind.Not question.Not 1 refl (many cs 1 ts) (all_expressions cs 1 ts) all
  of_kind kind.IfThenElse all = of_tests kind.IfThenElse question.IfThenElse 3 refl (many cs 3 ts) (all_expressions cs 3 ts) all

-- The own text of a form that defines a predicate is in order exactly where its tree is a definition.
use Rattle.std.proofs.Common.{◌≡◌, ℕ, Bool, true, false, true≢false, ◌&&◌, List, [], ◌∷◌}
use Rattle.std.proofs.Common.{Option, Some, None, Result, Ok, Err, length, option_and_then}
use Rattle.std.proofs.Common.{refl, sym, ap, ◌∙◌, arith}
use Rattle.std.specs.Option.{is_some}
use Rattle.std.proofs.lemmas.Bool.{and_parts, leb-true}
use Rattle.rtx_tree.specs.declared.constants.Constant.{Constant}
use Rattle.lisp_read.specs.declared.tree.Tree.{Tree}
use Rattle.lisp_read.specs.Shape.{string_of, items_of}
use Rattle.md_iter.specs.declared.substitution.Instance.{Instance}
use Rattle.md_pattern.specs.declared.reason.Reason.{Reason}
use Rattle.md_pattern.specs.declared.reason.Reason.TheVariants as reason
use Rattle.md_pattern.specs.Reason.{judged_map}
use Rattle.pred_expr.specs.declared.question.Test.{Test}
use Rattle.pred_expr.specs.Test.{test_of}
use Rattle.pred_expr.proofs.Tests.{read_is}
use Rattle.md_draft.specs.declared.head.FormHead.{FormHead}
use Rattle.md_draft.specs.declared.draft.Draft.{Draft}
use Rattle.md_draft.specs.Head.{head_named}
use Rattle.md_draft.specs.Layout.{predicate, layout_of, is_whole}
use Rattle.md_draft.specs.Draft.{draft_in, draft_by, headed, entry_by, head_in, name_in}
use Rattle.md_draft.specs.Reasons.{head_of}
use Rattle.md_forms.specs.md_tables.Tables.{defines_predicate}
use Rattle.md_forms.specs.Forms.{draft_entry}
use Rattle.law_predicates.specs.Accepted.{IsDefinition}
use Rattle.law_predicates.proofs.Drafts.{draft_with, no_some, aside, same_draft, by_head, at_parts}

-- ---- as many parts as a definition has

pub record Parts (ts : List Tree) : Type 0 where
  pub first : Tree
  pub second : Tree
  pub third : Tree
  pub name : List ℕ
  pub items : ts ≡ first ∷ second ∷ third ∷ []
  pub named : string_of second ≡ Some name

three : (ts : List Tree) → is_whole predicate ts ≡ true → Parts ts
three [] e = absurd (true≢false (sym e))
three (a ∷ []) e = absurd (true≢false (sym e))
three (a ∷ n ∷ []) e = absurd (true≢false (sym e))
three (a ∷ n ∷ t ∷ []) e = by_name (string_of n) refl e
  where
    by_name : (o : Option (List ℕ)) → string_of n ≡ o → (is_some o && true) ≡ true →
        Parts (a ∷ n ∷ t ∷ [])
    by_name None is h = absurd (true≢false (sym h))
    by_name (Some name) is h = record {
      first = a;
      second = n;
      third = t;
      name = name;
      items =
          refl;
      named = is;
    }
three (a ∷ n ∷ t ∷ u ∷ us) e =
    let few = leb-true (length (a ∷ n ∷ t ∷ u ∷ us)) 3 (and_parts _ _ (and_parts _ _ e).1).0 in
    absurd (omega (arith, few))

-- ---- a form

module _ (constants : List Constant) (form : Instance) where
  abbrev trees : List Tree
  trees = items_of form.tree

  pub head_is : head_named (draft_entry constants form).head ≡ head_of form.tree
  unfolding head_named headed
  head_is = by_text (head_in trees)
    where
      by_text : (o : Option (List ℕ)) →
          head_named (entry_by constants form.conditions o form.tree).head
          ≡ option_and_then head_named o
      by_text None = refl
      by_text (Some text) = refl

  pub name_is : (draft_entry constants form).name ≡ name_in trees
  unfolding headed
  name_is = by_text (head_in trees)
    where
      by_text : (o : Option (List ℕ)) →
          (entry_by constants form.conditions o form.tree).name ≡ name_in trees
      by_text None = refl
      by_text (Some text) = refl

  module _ (h : FormHead) where
    draft_is : head_of form.tree ≡ Some h →
        (draft_entry constants form).draft ≡ draft_in constants form.conditions h trees
    unfolding headed
    draft_is is = by_text (head_in trees) is
      where
        by_text : (o : Option (List ℕ)) → option_and_then head_named o ≡ Some h →
            (entry_by constants form.conditions o form.tree).draft
            ≡ draft_in constants form.conditions h trees
        by_text None e = absurd (no_some h e)
        by_text (Some text) e =
            ap (λ (o : Option FormHead). draft_by constants form.conditions o trees) e

    pub of_definition : (x : Test) → IsDefinition constants form.tree h x →
        (draft_entry constants form).draft ≡ Ok (draft_with h x)
    of_definition x is =
        let read : test_of constants is.third ≡ Ok x = (read_is constants is.third x).1 is.tested in
        draft_is is.head ∙ ap (draft_in constants form.conditions h) is.items
        ∙ at_parts constants form.conditions is.first is.second is.third is.name is.named h
        is.defines
        ∙ ap (judged_map (draft_with h)) read

    -- the own text of the form is in order: it is a definition with a test
    pub record IsRead (d : Draft) : Type 0 where
      pub test : Test
      pub definition : IsDefinition constants form.tree h test
      pub draft : d ≡ draft_with h test

    pub is_definition : (d : Draft) → head_of form.tree ≡ Some h →
        defines_predicate (Some h) ≡ true → (draft_entry constants form).draft ≡ Ok d → IsRead d
    unfolding draft_in
    is_definition d is defines drafted = by_whole (is_whole predicate trees) refl
        (sym (draft_is is) ∙ drafted)
      where
        by_test : (p : Parts trees) (r : Result Test Reason) → test_of constants p.third ≡ r →
            judged_map (draft_with h) r ≡ Ok d → IsRead d
        by_test p (Err r) read e = absurd (aside r d e)
        by_test p (Ok x) read e = record {
          test = x;
          definition = record {
            first = p.first;
            second = p.second;
            third = p.third;
            name = p.name;
            items = p.items;
            head = is;
            defines = defines;
            named = p.named;
            tested = (read_is constants p.third x).0 read;
          };
          draft = sym (same_draft (draft_with h x) d e);
        }

        read_as : (p : Parts trees) →
            draft_in constants form.conditions h (p.first ∷ p.second ∷ p.third ∷ [])
            ≡ judged_map (draft_with h) (test_of constants p.third)
        read_as p =
            at_parts constants form.conditions p.first p.second p.third p.name p.named h defines

        by_parts : Parts trees → draft_in constants form.conditions h trees ≡ Ok d → IsRead d
        by_parts p e =
            by_test p (test_of constants p.third) refl
            (sym (read_as p) ∙ sym (ap (draft_in constants form.conditions h) p.items) ∙ e)

        whole_is : is_whole (layout_of h) trees ≡ is_whole predicate trees
        whole_is =
            by_head (λ (k : FormHead). is_whole (layout_of k) trees ≡ is_whole predicate trees)
            refl refl h defines

        by_whole : (b : Bool) → is_whole predicate trees ≡ b →
            draft_in constants form.conditions h trees ≡ Ok d → IsRead d
        by_whole true whole e = by_parts (three trees whole) e
        by_whole false wrong e =
            absurd (aside reason.Parts d (sym (rw (whole_is ∙ wrong) refl) ∙ e))

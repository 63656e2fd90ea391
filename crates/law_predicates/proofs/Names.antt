-- A definition names the predicates of its test alone.
use Rattle.std.proofs.Common.{◌≡◌, ℕ, true, false, true≢false}
use Rattle.std.proofs.Common.{List, [], ◌∷◌, ◌++◌, Option, Some, None, refl, sym, ap, ◌∙◌}
use Rattle.std.specs.List.{flat_map}
use Rattle.std.proofs.lemmas.Bool.{and_parts}
use Rattle.c_words.specs.declared.head.CondHead.{CondHead}
use Rattle.c_cond.specs.declared.tree.Tree.TheFolds.{fold-roll-Tree}
use Rattle.c_cond.specs.Tree.{heads_step, heads_of, leaf}
use Rattle.md_iter.specs.declared.substitution.Instance.{Instance}
use Rattle.pred_expr.specs.declared.question.Test.{Test}
use Rattle.pred_expr.specs.Test.{predicates_of}
use Rattle.pred_expr.specs.Texts.{always, nothing}
use Rattle.md_draft.specs.declared.head.FormHead.{FormHead}
use Rattle.md_draft.specs.Reasons.{head_of}
use Rattle.md_forms.specs.md_tables.Names.{predicate_of_head, predicates_called, predicates_named}
use Rattle.md_forms.specs.md_tables.Tables.{defines_predicate}
use Rattle.law_predicates.specs.Accepted.{defines}
use Rattle.law_predicates.proofs.Drafts.{draft_with}

-- ---- what a definition names

heads_leaf : (k : CondHead) → heads_of (leaf k) ≡ k ∷ []
heads_leaf k = fold-roll-Tree (List CondHead) heads_step (record { head = k; parts = [] })

called_always : predicates_called always ≡ []
called_always = ap (flat_map predicate_of_head) (heads_leaf _)

called_nothing : predicates_called nothing ≡ []
called_nothing = ap (flat_map predicate_of_head) (heads_leaf _)

-- the predicates of its test alone
pub names_are : (h : FormHead) (x : Test) → predicates_named (draft_with h x) ≡ predicates_of x
unfolding predicates_named
names_are h x =
    ap (λ (l : List (List ℕ)). l ++ (l ++ (predicates_called nothing ++ predicates_of x)))
    called_always
    ∙ ap (λ (l : List (List ℕ)). l ++ predicates_of x) called_nothing

-- a head is there that defines a predicate
pub record HasHead (form : Instance) : Type 0 where
  pub head : FormHead
  pub is : head_of form.tree ≡ Some head
  pub defines : defines_predicate (Some head) ≡ true

pub head_there : (name : List ℕ) (form : Instance) → defines name form ≡ true → HasHead form
head_there name form e = by_head (head_of form.tree) refl
    (and_parts (defines_predicate (head_of form.tree)) _ e).0
  where
    by_head : (o : Option FormHead) → head_of form.tree ≡ o → defines_predicate o ≡ true →
        HasHead form
    by_head None is h = absurd (true≢false (sym h))
    by_head (Some k) is h = record { head = k; is = is; defines = h }

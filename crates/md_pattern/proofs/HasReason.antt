-- A tree is set aside as a pattern with the smallest of the reasons that it has.
use Rattle.std.proofs.Common.{◌≡◌, ◌≤◌, ℕ, Bool, true, false, true≢false, List, [], ◌∷◌, Option, Some, None, Result, Err, map, if◌then◌else◌, refl, sym, ap, subst, ◌∙◌, arith}
use Rattle.std.specs.Prelude.{Contains}
use Rattle.std.specs.List.{AllByRecursion}
use Rattle.rtx_tree.specs.declared.constants.Constant.{Constant}
use Rattle.lisp_read.specs.declared.tree.Tree.{Tree, roll-Tree, out-roll-Tree}
use Rattle.lisp_read.specs.declared.tree.Tree.TheOpen.{Tree-F}
use Rattle.lisp_read.specs.declared.tree.Tree.TheVariants as tree
use Rattle.lisp_read.specs.Shape.{atom_of, items_at, items_of, vector_at, vector_of, is_vector}
use Rattle.lisp_read.specs.Head.{code_of_head}
use Rattle.lisp_read.proofs.TreeInduction.{Steps, induction}
use Rattle.md_pattern.specs.declared.reason.Reason.{Reason}
use Rattle.md_pattern.specs.declared.reason.Reason.TheVariants as reason
use Rattle.md_pattern.specs.declared.pattern.Pattern.{Pattern}
use Rattle.md_pattern.specs.declared.pattern.Patterns.{Patterns}
use Rattle.md_pattern.specs.Reason.{number_of, IsSmallest}
use Rattle.md_pattern.specs.Pattern.{each, of_head, list_by, meaning_of, pattern_of, patterns_of}
use Rattle.md_pattern.specs.HasReason.{IsList, HasReason, VectorHasReason}
use Rattle.md_pattern.proofs.Meanings.{pattern_out, vector_out}
use Rattle.md_pattern.proofs.Smallest.{Among, change}
use Rattle.md_pattern.proofs.Behind.{Judged, two_le, each_smallest}
use Rattle.md_pattern.proofs.OneList.{some_none, by_code}

-- ---- a tree

module _ (cs : List Constant) where
  no_list : (t : Tree) → ((word : List ℕ) (ts : List Tree) → IsList t word ts → ⊥) → IsSmallest {A = Pattern} (HasReason cs t) (Err reason.Parts)
  no_list t none = (HasReason.no_list t none, two_le cs t)

  by_items : (t : Tree) (ts : List Tree) → items_of t ≡ ts → AllByRecursion (Judged cs) ts → IsSmallest (HasReason cs t) (list_by cs ts (map (meaning_of cs) ts))
  by_items t [] are all = no_list t none
    where
      empty : (h : Tree) (us : List Tree) (xs : List Tree) → xs ≡ [] → xs ≡ h ∷ us → ⊥
      empty h us xs e f = cc

      none : (word : List ℕ) (us : List Tree) → IsList t word us → ⊥
      none word us is = empty is.head us (items_of t) are is.items
  by_items t (h ∷ ts) are all = by_word (atom_of h) refl
    where
      by_word : (o : Option (List ℕ)) → atom_of h ≡ o → IsSmallest (HasReason cs t) (of_head cs o ts (map (meaning_of cs) ts))
      by_word (Some word) is = by_code cs t word ts (code_of_head word) (record { head = h; items = are; word_is = is }) refl all.1
      by_word None is = no_list t none
        where
          first : (g : Tree) (us xs : List Tree) → xs ≡ h ∷ ts → xs ≡ g ∷ us → h ≡ g
          first g us xs e f = cc

          none : (word : List ℕ) (us : List Tree) → IsList t word us → ⊥
          none word us other = some_none word (atom_of other.head) other.word_is (ap atom_of (sym (first other.head us (items_of t) are other.items)) ∙ is)

  of_items : (t : Tree) (ts : List Tree) → items_of t ≡ ts → AllByRecursion (Judged cs) ts → IsSmallest (HasReason cs t) (pattern_of cs t)
  of_items t ts are all = subst (λ (x : Result Pattern Reason). IsSmallest (HasReason cs t) x) (sym (pattern_out cs t ∙ ap (λ (us : List Tree). list_by cs us (map (meaning_of cs) us)) are)) (by_items t ts are all)

  vector_two : (t : Tree) (r : Reason) → VectorHasReason cs t r → 2 ≤ number_of r
  vector_two t _ (VectorHasReason.no_vector e) = omega arith
  vector_two t r (VectorHasReason.element u _ stands has) = two_le cs u r has

  of_vector : (t : Tree) (ts : List Tree) → vector_of t ≡ ts → AllByRecursion (Judged cs) ts → IsSmallest (VectorHasReason cs t) (patterns_of cs t)
  of_vector t ts are all = subst (λ (x : Result Patterns Reason). IsSmallest (VectorHasReason cs t) x) (sym (vector_out cs t ∙ ap (λ (us : List Tree). if is_vector t then each (map (meaning_of cs) us) else Err reason.Parts) are)) (by_test (is_vector t) refl)
    where
      by_test : (b : Bool) → is_vector t ≡ b → IsSmallest (VectorHasReason cs t) (if b then each (map (meaning_of cs) ts) else Err reason.Parts)
      by_test false is = (VectorHasReason.no_vector is, vector_two t)
      by_test true is = change (Among (HasReason cs) ts) (VectorHasReason cs t) (each (map (meaning_of cs) ts)) element back (each_smallest cs ts all)
        where
          element : (r : Reason) → Among (HasReason cs) ts r → VectorHasReason cs t r
          element r has = VectorHasReason.element has.0 r (subst (λ (us : List Tree). Contains us has.0) (sym are) has.1) has.2

          back : (r : Reason) → VectorHasReason cs t r → Among (HasReason cs) ts r
          back _ (VectorHasReason.no_vector e) = absurd (true≢false (sym is ∙ e))
          back r (VectorHasReason.element u _ stands has) = (u, subst (λ (us : List Tree). Contains us u) are stands, has)

  -- ---- every tree

  by_trees : (o : Tree-F Tree) (t : Tree) → roll-Tree o ≡ t → AllByRecursion (Judged cs) (items_at o) → AllByRecursion (Judged cs) (vector_at o) → Judged cs t
  by_trees o t is items vector = record {
    pattern = of_items t (items_at o) (ap items_of (sym is) ∙ ap items_at (out-roll-Tree o)) items;
    vector = of_vector t (vector_at o) (ap vector_of (sym is) ∙ ap vector_at (out-roll-Tree o)) vector;
  }

  steps : Steps (Judged cs)
  steps = record {
    atom = λ p text. by_trees (Tree-F.Atom p text) (tree.Atom p text) (tree.rolls-Atom p text) tt tt;
    string = λ p text. by_trees (Tree-F.Str p text) (tree.Str p text) (tree.rolls-Str p text) tt tt;
    block = λ p text. by_trees (Tree-F.Block p text) (tree.Block p text) (tree.rolls-Block p text) tt tt;
    list = λ p ts all. by_trees (Tree-F.List p ts) (tree.List p ts) (tree.rolls-List p ts) all tt;
    vector = λ p ts all. by_trees (Tree-F.Vector p ts) (tree.Vector p ts) (tree.rolls-Vector p ts) tt all;
  }

  smallest : (t : Tree) → Judged cs t
  smallest = induction (Judged cs) steps

-- as an expression
pub of_tree : (cs : List Constant) (t : Tree) → IsSmallest (HasReason cs t) (pattern_of cs t)
of_tree cs t = (smallest cs t).pattern

-- as a vector of expressions
pub of_trees : (cs : List Constant) (t : Tree) → IsSmallest (VectorHasReason cs t) (patterns_of cs t)
of_trees cs t = (smallest cs t).vector

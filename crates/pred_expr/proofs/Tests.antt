-- The test that a tree is read as is the one that it is.
use Rattle.std.proofs.Common.{◌≡◌, ℕ, ◌==◌, Bool, true, false, cond, List, [], ◌∷◌, Option, Some, None, Result, Ok, Err, map, length, refl, sym, ap, subst, ◌∙◌, arith}
use Rattle.std.specs.Prelude.{◌↔◌}
use Rattle.std.specs.List.{AllByRecursion}
use Rattle.std.proofs.lemmas.Bool.{eqb-true}
use Rattle.rtx_tree.specs.declared.code.Code.{Code}
use Rattle.rtx_tree.specs.declared.code.Mode.{Mode}
use Rattle.rtx_tree.specs.declared.constants.Constant.{Constant}
use Rattle.c_cond.specs.declared.tree.Tree as c_tree
use Rattle.md_pattern.specs.lisp_read.declared.tree.Tree.{Tree, roll-Tree, out-roll-Tree}
use Rattle.md_pattern.specs.lisp_read.declared.tree.Tree.TheOpen.{Tree-F}
use Rattle.md_pattern.specs.lisp_read.declared.tree.Tree.TheVariants as tree
use Rattle.md_pattern.specs.lisp_read.Shape.{atom_of, items_at, items_of}
use Rattle.md_pattern.proofs.lisp_read.TreeInduction.{Steps, induction}
use Rattle.md_pattern.specs.lisp_read.Head.{mode_of_head}
use Rattle.md_pattern.specs.declared.reason.Reason.{Reason}
use Rattle.md_pattern.specs.declared.reason.Reason.TheVariants as reason
use Rattle.md_pattern.specs.Reason.{judged_with, judged_map}
use Rattle.md_pattern.specs.Pattern.{or_aside}
use Rattle.md_pattern.specs.HasReason.{IsList}
use Rattle.pred_expr.specs.declared.question.Question.{Question}
use Rattle.pred_expr.specs.declared.question.Question.TheVariants as question
use Rattle.pred_expr.specs.declared.question.Test.{Test}
use Rattle.pred_expr.specs.declared.test.TestKind.{TestKind}
use Rattle.pred_expr.specs.declared.test.TestKind.TheVariants as kind
use Rattle.pred_expr.specs.Texts.{test_condition_of}
use Rattle.pred_expr.specs.Test.{test_with, alone, kind_of, text_in, codes_in, codes_by, condition_by, predicate_in, predicate_by, each, joined, behind, of_kind, of_head, test_of, IsTest}
use Rattle.pred_expr.proofs.GrammarLaws.{test_condition_says}
use Rattle.pred_expr.proofs.TestLaws.{test_out}

abbrev Judgement : Type 0
Judgement = Result Test Reason

aside : {A : Type 0} (r : Reason) (x : A) → Err r ≡ Ok x → ⊥
aside r x e = cc

same_ok : (x y : Test) (a b : Judgement) → a ≡ Ok x → b ≡ Ok y → a ≡ b → x ≡ y
same_ok x y a b e f g = cc

module _ (cs : List Constant) where
  abbrev read : Tree → Judgement
  read = test_of cs

  -- ---- what is a test is read as it

  listed : (t : Tree) (word : List ℕ) (ts : List Tree) (k : TestKind) → IsList t word ts → kind_of word ≡ Some k → read t ≡ behind cs k (mode_of_head word) ts (map read ts)
  listed t word ts k is known =
      test_out cs t ∙ rw is.items (rw is.word_is (rw known refl))

  pub is_read : (t : Tree) (x : Test) → IsTest cs t x → read t ≡ Ok x
  is_read t _ (IsTest.of_codes _ word ts text all is known quoted named) = listed t word ts kind.Codes is known ∙ rw quoted (rw named refl)
  is_read t _ (IsTest.of_condition _ word ts text c is known quoted parsed) =
      listed t word ts kind.Condition is known
      ∙ rw quoted (rw (((test_condition_says cs text).tree c).1 parsed) refl)
  is_read t _ (IsTest.of_predicate _ word ts name m is known named moded) = listed t word ts kind.Predicate is known ∙ rw named (rw moded refl)
  is_read t _ (IsTest.of_both _ word a b x y is known ia ib) = listed t word (a ∷ b ∷ []) kind.And is known ∙ rw (is_read a x ia, is_read b y ib) refl
  is_read t _ (IsTest.of_either _ word a b x y is known ia ib) = listed t word (a ∷ b ∷ []) kind.Ior is known ∙ rw (is_read a x ia, is_read b y ib) refl
  is_read t _ (IsTest.of_not _ word a x is known ia) = listed t word (a ∷ []) kind.Not is known ∙ rw (is_read a x ia) refl
  is_read t _ (IsTest.of_choice _ word a b c x y z is known ia ib ic) =
      listed t word (a ∷ b ∷ c ∷ []) kind.IfThenElse is known ∙ rw (is_read a x ia, is_read b y ib, is_read c z ic) refl

  -- ---- what is read as a test is it

  abbrev Sound : Tree → Type 0
  Sound t = (x : Test) → read t ≡ Ok x → IsTest cs t x

  abbrev made : Tree → Test → Type 0
  made t x = IsTest cs t x

  codes_sound : (t : Tree) (word : List ℕ) (ts : List Tree) (x : Test) → IsList t word ts → kind_of word ≡ Some kind.Codes → codes_by (text_in ts) ≡ Ok x → made t x
  codes_sound t word ts x is known e = by_text (text_in ts) refl e
    where
      by_codes : (text : List ℕ) (o : Option (List Code)) → text_in ts ≡ Some text → codes_in text ≡ o → judged_map (λ all. alone (question.Codes all)) (or_aside reason.Code o) ≡ Ok x → made t x
      by_codes text None quoted named h = absurd (aside reason.Code x h)
      by_codes text (Some all) quoted named h =
          subst (made t) (same_ok (alone (question.Codes all)) x (Ok (alone (question.Codes all))) (Ok x) refl refl h) (IsTest.of_codes t word ts text all is known quoted named)

      by_text : (o : Option (List ℕ)) → text_in ts ≡ o → codes_by o ≡ Ok x → made t x
      by_text None quoted h = absurd (aside reason.Parts x h)
      by_text (Some text) quoted h = by_codes text (codes_in text) quoted refl h

  condition_sound : (t : Tree) (word : List ℕ) (ts : List Tree) (x : Test) → IsList t word ts → kind_of word ≡ Some kind.Condition → condition_by cs (text_in ts) ≡ Ok x → made t x
  condition_sound t word ts x is known e = by_text (text_in ts) refl e
    where
      by_tree : (text : List ℕ) (r : Result c_tree.Tree Reason) → text_in ts ≡ Some text → test_condition_of cs text ≡ r → judged_map (λ c. alone (question.Condition c)) r ≡ Ok x → made t x
      by_tree text (Err s) quoted parsed h = absurd (aside s x h)
      by_tree text (Ok c) quoted parsed h =
          subst (made t) (same_ok (alone (question.Condition c)) x (Ok (alone (question.Condition c))) (Ok x) refl refl h)
          (IsTest.of_condition t word ts text c is known quoted (((test_condition_says cs text).tree c).0 parsed))

      by_text : (o : Option (List ℕ)) → text_in ts ≡ o → condition_by cs o ≡ Ok x → made t x
      by_text None quoted h = absurd (aside reason.Parts x h)
      by_text (Some text) quoted h = by_tree text (test_condition_of cs text) quoted refl h

  predicate_sound : (t : Tree) (word : List ℕ) (ts : List Tree) (x : Test) → IsList t word ts → kind_of word ≡ Some kind.Predicate → predicate_by (mode_of_head word) (predicate_in ts) ≡ Ok x → made t x
  predicate_sound t word ts x is known e = by_name (predicate_in ts) refl e
    where
      by_mode : (name : List ℕ) (o : Option Mode) → predicate_in ts ≡ Some name → mode_of_head word ≡ o → judged_map (λ m. alone (question.Predicate name m)) (or_aside reason.Mode o) ≡ Ok x → made t x
      by_mode name None named moded h = absurd (aside reason.Mode x h)
      by_mode name (Some m) named moded h =
          subst (made t) (same_ok (alone (question.Predicate name m)) x (Ok (alone (question.Predicate name m))) (Ok x) refl refl h)
          (IsTest.of_predicate t word ts name m is known named moded)

      by_name : (o : Option (List ℕ)) → predicate_in ts ≡ o → predicate_by (mode_of_head word) o ≡ Ok x → made t x
      by_name None named h = absurd (aside reason.Parts x h)
      by_name (Some name) named h = by_mode name (mode_of_head word) named refl h

  -- ---- of others

  -- so many were read, each as a test
  pub record Reads (q : Question) (count : ℕ) (ts : List Tree) (x : Test) : Type 0 where
    pub many : length (map read ts) ≡ count
    pub tests : List Test
    pub each_is : each (map read ts) ≡ Ok tests
    pub whole : test_with q tests ≡ x

  all_read : (q : Question) (count : ℕ) (ts : List Tree) (x : Test) → joined q count (map read ts) ≡ Ok x → Reads q count ts x
  all_read q count ts x e = by_count (length (map read ts) == count) refl e
    where
      by_each : (r : Result (List Test) Reason) → each (map read ts) ≡ r → length (map read ts) ≡ count → judged_map (test_with q) r ≡ Ok x → Reads q count ts x
      by_each (Err s) is many h = absurd (aside s x h)
      by_each (Ok tests) is many h = record { many = many; tests = tests; each_is = is; whole = same_ok (test_with q tests) x (Ok (test_with q tests)) (Ok x) refl refl h }

      by_count : (b : Bool) → (length (map read ts) == count) ≡ b → cond b (judged_map (test_with q) (each (map read ts))) (Err reason.Parts) ≡ Ok x → Reads q count ts x
      by_count false is h = absurd (aside reason.Parts x h)
      by_count true is h = by_each (each (map read ts)) refl (eqb-true (length (map read ts)) count is) h

  -- the first of them, and the others
  pub record Begins (t : Tree) (ts : List Tree) (tests : List Test) : Type 0 where
    pub first : Test
    pub rest : List Test
    pub first_is : read t ≡ Ok first
    pub rest_are : each (map read ts) ≡ Ok rest
    pub all : first ∷ rest ≡ tests

  same_oks : (xs ys : List Test) (a b : Result (List Test) Reason) → a ≡ Ok xs → b ≡ Ok ys → a ≡ b → xs ≡ ys
  same_oks xs ys a b e f g = cc

  begins : (t : Tree) (ts : List Tree) (tests : List Test) → each (map read (t ∷ ts)) ≡ Ok tests → Begins t ts tests
  begins t ts tests e = by_both (read t) (each (map read ts)) refl refl e
    where
      by_both : (a : Judgement) (r : Result (List Test) Reason) → read t ≡ a → each (map read ts) ≡ r → judged_with (λ x xs. x ∷ xs) a r ≡ Ok tests → Begins t ts tests
      by_both (Ok x) (Ok xs) is are h = record { first = x; rest = xs; first_is = is; rest_are = are; all = same_oks (x ∷ xs) tests (Ok (x ∷ xs)) (Ok tests) refl refl h }
      by_both (Ok x) (Err s) is are h = absurd (aside s tests h)
      by_both (Err r) (Ok xs) is are h = absurd (aside r tests h)
      by_both (Err r) (Err s) is are h = absurd (aside _ tests h)

  ends : (tests : List Test) → each [] ≡ Ok tests → [] ≡ tests
  ends tests e = same_oks [] tests (Ok []) (Ok tests) refl refl e

  one_sound : (t : Tree) (word : List ℕ) (ks : List ((u : Tree) × Sound u)) (x : Test) → IsList t word (map (λ k. k.0) ks) → kind_of word ≡ Some kind.Not →
      Reads question.Not 1 (map (λ k. k.0) ks) x → made t x
  one_sound t word [] x is known r = absurd (omega (arith, r.many))
  one_sound t word (a ∷ []) x is known r =
      let first = begins a.0 [] r.tests r.each_is in
      let tests : first.first ∷ [] ≡ r.tests = ap (λ (xs : List Test). first.first ∷ xs) (ends first.rest first.rest_are) ∙ first.all in
      subst (made t) (ap (test_with question.Not) tests ∙ r.whole) (IsTest.of_not t word a.0 first.first is known (a.1 first.first first.first_is))
  one_sound t word (a ∷ b ∷ ks) x is known r = absurd (omega (arith, r.many))

  two_of : (q : Question) (t : Tree) (a b : (u : Tree) × Sound u) (x : Test) → Reads q 2 (a.0 ∷ b.0 ∷ []) x →
      (y : Test) × (z : Test) × IsTest cs a.0 y × IsTest cs b.0 z × (test_with q (y ∷ z ∷ []) ≡ x)
  two_of q t a b x r =
      let first = begins a.0 (b.0 ∷ []) r.tests r.each_is in
      let second = begins b.0 [] first.rest first.rest_are in
      let rest : second.first ∷ [] ≡ first.rest = ap (λ (xs : List Test). second.first ∷ xs) (ends second.rest second.rest_are) ∙ second.all in
      let tests : first.first ∷ second.first ∷ [] ≡ r.tests = ap (λ (xs : List Test). first.first ∷ xs) rest ∙ first.all in
      (first.first, second.first, a.1 first.first first.first_is, b.1 second.first second.first_is, ap (test_with q) tests ∙ r.whole)

  and_sound : (t : Tree) (word : List ℕ) (ks : List ((u : Tree) × Sound u)) (x : Test) → IsList t word (map (λ k. k.0) ks) → kind_of word ≡ Some kind.And →
      Reads question.And 2 (map (λ k. k.0) ks) x → made t x
  and_sound t word [] x is known r = absurd (omega (arith, r.many))
  and_sound t word (a ∷ []) x is known r = absurd (omega (arith, r.many))
  and_sound t word (a ∷ b ∷ []) x is known r = let two = two_of question.And t a b x r in subst (made t) two.4 (IsTest.of_both t word a.0 b.0 two.0 two.1 is known two.2 two.3)
  and_sound t word (a ∷ b ∷ c ∷ ks) x is known r = absurd (omega (arith, r.many))

  ior_sound : (t : Tree) (word : List ℕ) (ks : List ((u : Tree) × Sound u)) (x : Test) → IsList t word (map (λ k. k.0) ks) → kind_of word ≡ Some kind.Ior →
      Reads question.Ior 2 (map (λ k. k.0) ks) x → made t x
  ior_sound t word [] x is known r = absurd (omega (arith, r.many))
  ior_sound t word (a ∷ []) x is known r = absurd (omega (arith, r.many))
  ior_sound t word (a ∷ b ∷ []) x is known r = let two = two_of question.Ior t a b x r in subst (made t) two.4 (IsTest.of_either t word a.0 b.0 two.0 two.1 is known two.2 two.3)
  ior_sound t word (a ∷ b ∷ c ∷ ks) x is known r = absurd (omega (arith, r.many))

  choice_sound : (t : Tree) (word : List ℕ) (ks : List ((u : Tree) × Sound u)) (x : Test) → IsList t word (map (λ k. k.0) ks) → kind_of word ≡ Some kind.IfThenElse →
      Reads question.IfThenElse 3 (map (λ k. k.0) ks) x → made t x
  choice_sound t word [] x is known r = absurd (omega (arith, r.many))
  choice_sound t word (a ∷ []) x is known r = absurd (omega (arith, r.many))
  choice_sound t word (a ∷ b ∷ []) x is known r = absurd (omega (arith, r.many))
  choice_sound t word (a ∷ b ∷ c ∷ []) x is known r =
      let first = begins a.0 (b.0 ∷ c.0 ∷ []) r.tests r.each_is in
      let second = begins b.0 (c.0 ∷ []) first.rest first.rest_are in
      let third = begins c.0 [] second.rest second.rest_are in
      let last : third.first ∷ [] ≡ second.rest = ap (λ (xs : List Test). third.first ∷ xs) (ends third.rest third.rest_are) ∙ third.all in
      let rest : second.first ∷ third.first ∷ [] ≡ first.rest = ap (λ (xs : List Test). second.first ∷ xs) last ∙ second.all in
      let tests : first.first ∷ second.first ∷ third.first ∷ [] ≡ r.tests = ap (λ (xs : List Test). first.first ∷ xs) rest ∙ first.all in
      subst (made t) (ap (test_with question.IfThenElse) tests ∙ r.whole)
      (IsTest.of_choice t word a.0 b.0 c.0 first.first second.first third.first is known (a.1 first.first first.first_is) (b.1 second.first second.first_is) (c.1 third.first third.first_is))
  choice_sound t word (a ∷ b ∷ c ∷ d ∷ ks) x is known r = absurd (omega (arith, r.many))

  kind_sound : (t : Tree) (word : List ℕ) (ks : List ((u : Tree) × Sound u)) (x : Test) → IsList t word (map (λ k. k.0) ks) → (k : TestKind) → kind_of word ≡ Some k →
      behind cs k (mode_of_head word) (map (λ k. k.0) ks) (map read (map (λ k. k.0) ks)) ≡ Ok x → made t x
  kind_sound t word ks x is kind.Codes known e = codes_sound t word (map (λ k. k.0) ks) x is known e
  kind_sound t word ks x is kind.Condition known e = condition_sound t word (map (λ k. k.0) ks) x is known e
  kind_sound t word ks x is kind.Predicate known e = predicate_sound t word (map (λ k. k.0) ks) x is known e
  kind_sound t word ks x is kind.And known e = and_sound t word ks x is known (all_read question.And 2 (map (λ k. k.0) ks) x e)
  kind_sound t word ks x is kind.Ior known e = ior_sound t word ks x is known (all_read question.Ior 2 (map (λ k. k.0) ks) x e)
  kind_sound t word ks x is kind.Not known e = one_sound t word ks x is known (all_read question.Not 1 (map (λ k. k.0) ks) x e)
  kind_sound t word ks x is kind.IfThenElse known e = choice_sound t word ks x is known (all_read question.IfThenElse 3 (map (λ k. k.0) ks) x e)

  list_sound : (t : Tree) (ks : List ((u : Tree) × Sound u)) → items_of t ≡ map (λ k. k.0) ks → Sound t
  list_sound t [] are x e = absurd (aside reason.Parts x (sym (test_out cs t ∙ rw are refl) ∙ e))
  list_sound t (h ∷ ks) are x e = by_word (atom_of h.0) refl (sym (test_out cs t ∙ rw are refl) ∙ e)
    where
      by_kind : (word : List ℕ) (o : Option TestKind) → atom_of h.0 ≡ Some word → kind_of word ≡ o →
          of_kind cs o (mode_of_head word) (map (λ k. k.0) ks) (map read (map (λ k. k.0) ks)) ≡ Ok x → made t x
      by_kind word None is known f = absurd (aside reason.Parts x f)
      by_kind word (Some k) is known f = kind_sound t word ks x (record { head = h.0; items = are; word_is = is }) k known f

      by_word : (o : Option (List ℕ)) → atom_of h.0 ≡ o → of_head cs o (map (λ k. k.0) ks) (map read (map (λ k. k.0) ks)) ≡ Ok x → made t x
      by_word None is f = absurd (aside reason.Parts x f)
      by_word (Some word) is f = by_kind word (kind_of word) is refl f

  -- ---- every tree

  pairs : (ts : List Tree) → AllByRecursion Sound ts → List ((u : Tree) × Sound u)
  pairs [] all = []
  pairs (t ∷ ts) all = (t, all.0) ∷ pairs ts all.1

  of_pairs : (ts : List Tree) (all : AllByRecursion Sound ts) → ts ≡ map (λ k. k.0) (pairs ts all)
  unfolding pairs
  of_pairs [] all = refl
  of_pairs (t ∷ ts) all = ap (λ (us : List Tree). t ∷ us) (of_pairs ts all.1)

  items_in : (o : Tree-F Tree) (t : Tree) → roll-Tree o ≡ t → items_of t ≡ items_at o
  items_in o t is = ap items_of (sym is) ∙ ap items_at (out-roll-Tree o)

  steps : Steps Sound
  steps = record {
    atom = λ p text. list_sound (tree.Atom p text) [] (items_in (Tree-F.Atom p text) (tree.Atom p text) (tree.rolls-Atom p text));
    string = λ p text. list_sound (tree.Str p text) [] (items_in (Tree-F.Str p text) (tree.Str p text) (tree.rolls-Str p text));
    block = λ p text. list_sound (tree.Block p text) [] (items_in (Tree-F.Block p text) (tree.Block p text) (tree.rolls-Block p text));
    list = λ p ts all. list_sound (tree.List p ts) (pairs ts all) (items_in (Tree-F.List p ts) (tree.List p ts) (tree.rolls-List p ts) ∙ of_pairs ts all);
    vector = λ p ts all. list_sound (tree.Vector p ts) [] (items_in (Tree-F.Vector p ts) (tree.Vector p ts) (tree.rolls-Vector p ts));
  }

  pub read_is : (t : Tree) (x : Test) → (read t ≡ Ok x) ↔ IsTest cs t x
  read_is t x = (λ e. induction Sound steps t x e, λ is. is_read t x is)

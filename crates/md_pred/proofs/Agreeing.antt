-- A test asks for the predicates that it names alone.
use Rattle.std.proofs.Common.{◌≡◌, ℕ, Bool, true, List, [], ◌∷◌, ◌++◌, map, refl, sym, ap, subst, ◌∙◌}
use Rattle.std.specs.List.{list_all, flat_map}
use Rattle.std.proofs.lemmas.Bool.{and_parts}
use Rattle.std.proofs.lemmas.List.Folds.{list_all-append, flat_map-map}
use Rattle.rtx_tree.specs.declared.code.Mode.{Mode}
use Rattle.rtx_tree.specs.declared.tree.Rtx.{Rtx}
use Rattle.pred_expr.specs.declared.question.Question.{Question}
use Rattle.pred_expr.specs.declared.question.Question.TheVariants as question
use Rattle.pred_expr.specs.declared.question.Test.{Test, roll-Test}
use Rattle.pred_expr.specs.declared.question.Test.TheOpen.{Test-F}
use Rattle.pred_expr.specs.declared.question.Test.TheFolds.{fold-roll-Test, ind-Test}
use Rattle.pred_expr.specs.Test.{predicate_of, predicates_step, predicates_of}
use Rattle.pred_rows.specs.Tests.{Accepts, answer, test_step, test_holds}
use Rattle.rtx_tree.specs.Code.{mode_or}

-- two answers for each predicate that passes a test are the same
abbrev pub AgreeOn : (List ℕ → Bool) → Accepts → Accepts → Type 0
AgreeOn p a b = (name : List ℕ) → p name ≡ true → (x : Rtx) (m : Mode) → a name x m ≡ b name x m

pub both_parts : (p : List ℕ → Bool) (xs ys : List (List ℕ)) → list_all p (xs ++ ys) ≡ true → (list_all p xs ≡ true) × (list_all p ys ≡ true)
both_parts p xs ys all = and_parts (list_all p xs) (list_all p ys) (sym (list_all-append p xs ys) ∙ all)

module _ (p : List ℕ → Bool) (a b : Accepts) (agree : AgreeOn p a b) (x : Rtx) (m : Mode) where
  abbrev Same : Test → Type 0
  Same t = list_all p (predicates_of t) ≡ true → test_holds a x m t ≡ test_holds b x m t

  same_answer : (q : Question) (bs : List Bool) → list_all p (predicate_of q) ≡ true → answer a x m q bs ≡ answer b x m q bs
  same_answer (question.Predicate name own) [] h = agree name (and_parts (p name) true h).0 x (mode_or own m)
  same_answer (question.Predicate name own) (c ∷ cs) h = refl
  same_answer (question.Codes cs) [] h = refl
  same_answer (question.Codes cs) (c ∷ bs) h = refl
  same_answer (question.Condition t) [] h = refl
  same_answer (question.Condition t) (c ∷ bs) h = refl
  same_answer question.And bs h = refl
  same_answer question.Ior bs h = refl
  same_answer question.Not bs h = refl
  same_answer question.IfThenElse bs h = refl

  same_parts : (ks : List ((t : Test) × Same t)) → list_all p (flat_map predicates_of (map (λ k. k.0) ks)) ≡ true →
      map (test_holds a x m) (map (λ k. k.0) ks) ≡ map (test_holds b x m) (map (λ k. k.0) ks)
  same_parts [] all = refl
  same_parts (k ∷ ks) all =
      let parts = both_parts p (predicates_of k.0) (flat_map predicates_of (map (λ e. e.0) ks)) all in
      ap (λ (c : Bool). c ∷ map (test_holds a x m) (map (λ e. e.0) ks)) (k.1 parts.0)
      ∙ ap (λ (cs : List Bool). test_holds b x m k.0 ∷ cs) (same_parts ks parts.1)

  layer : (t : Test-F Test) → (list_all p (flat_map predicates_of t.parts) ≡ true → map (test_holds a x m) t.parts ≡ map (test_holds b x m) t.parts) →
      Same (roll-Test t)
  layer t parts all =
      let names : predicates_of (roll-Test t) ≡ predicate_of t.question ++ flat_map predicates_of t.parts =
      fold-roll-Test (List (List ℕ)) predicates_step t
      ∙ ap (λ (rest : List (List ℕ)). predicate_of t.question ++ rest) (flat_map-map (λ (names : List (List ℕ)). names) predicates_of t.parts) in
      let split = both_parts p (predicate_of t.question) (flat_map predicates_of t.parts) (ap (list_all p) (sym names) ∙ all) in
      fold-roll-Test Bool (test_step a x m) t ∙ ap (answer a x m t.question) (parts split.1)
      ∙ same_answer t.question (map (test_holds b x m) t.parts) split.0 ∙ sym (fold-roll-Test Bool (test_step b x m) t)

  pub same_test : (t : Test) → Same t
  same_test = ind-Test Same (λ t y is.
      layer t (subst (λ (z : Test-F Test). list_all p (flat_map predicates_of z.parts) ≡ true → map (test_holds a x m) z.parts ≡ map (test_holds b x m) z.parts)
      is (same_parts y.parts)))

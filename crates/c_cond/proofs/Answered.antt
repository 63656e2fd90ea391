-- What parsing answers is what the grammar says of the text.
use Rattle.std.proofs.Common.{◌≡◌, List, [], ◌∷◌, ◌++◌, Some, None, sym, ap, subst, ◌∙◌, append_assoc}
use Rattle.std.proofs.lemmas.List.{append-nil}
use Rattle.rtx_tree.specs.declared.constants.Constant.{Constant}
use Rattle.c_words.specs.declared.head.CondHead.{CondHead}
use Rattle.c_words.specs.declared.atom.Dialect.{Dialect}
use Rattle.c_words.specs.declared.token.Token.{Token}
use Rattle.c_cond.specs.declared.goal.Goal.TheVariants as goal
use Rattle.c_cond.specs.declared.tree.Tree.{Tree}
use Rattle.c_words.specs.declared.head.CondHead.TheVariants as head
use Rattle.c_words.specs.declared.head.Binary.TheVariants as binary
use Rattle.c_cond.specs.Tree.{both, first_or_nothing, grown, heads_of, tree_of, IsWhole}
use Rattle.c_cond.specs.Grammar.{Sort, Statements, Condition, Is}
use Rattle.c_cond.proofs.Growth.{heads_of_all, all_1, heads_2, Grows, grows_one, good, regrown}
use Rattle.c_cond.proofs.Grown.{flattened, grow}
use Rattle.c_cond.specs.machine.Steps.{result_of, at}
use Rattle.c_cond.proofs.Sound.{sound_goal}
use Rattle.c_cond.proofs.CompleteStatements.{complete_condition, complete_statements}

some_is : {A : Type 0} (x y : A) → Some x ≡ Some y → x ≡ y
some_is x y e = cc

none_some : {A : Type 0} (x : A) → None ≡ Some x → ⊥
none_some x e = cc

-- The heads that are made of tokens are those of one tree, which the grammar has.
pub record Made (d : Dialect) (cs : List Constant) (sort : Sort) (heads : List CondHead) (ts : List Token) : Type 0 where
  pub whole : IsWhole heads
  pub is : Is d cs sort (tree_of heads ∷ []) ts

whole : (heads : List CondHead) (t : Tree) → heads_of t ≡ heads → Grows (t ∷ []) → IsWhole heads
whole heads t e g =
    let same : tree_of heads ≡ t = ap tree_of (sym e) ∙ regrown t g in
    record {
      heads_are = ap heads_of same ∙ e;
      grows = λ before more. ap (λ (hs : List CondHead). grown before (hs ++ more)) (sym e)
          ∙ grows_one t g before more ∙ ap (λ (x : Tree). grown (x ∷ before) more) (sym same);
    }

made : (d : Dialect) (cs : List Constant) (sort : Sort) (heads : List CondHead) (ts : List Token) (t : Tree) → heads_of t ≡ heads → Grows (t ∷ []) → Is d cs sort (t ∷ []) ts → Made d cs sort heads ts
made d cs sort heads ts t e g i =
    let same : tree_of heads ≡ t = ap tree_of (sym e) ∙ regrown t g in
    record { whole = whole heads t e g; is = subst (λ (x : Tree). Is d cs sort (x ∷ []) ts) (sym same) i }

pub is_condition : (d : Dialect) (cs : List Constant) (heads : List CondHead) (ts : List Token) → result_of d cs (at [] (goal.Condition ∷ [])) ts ≡ Some heads → Made d cs Condition heads ts
is_condition d cs heads ts e =
    let g : (t : Tree) × (heads_of t ≡ heads) × Is d cs Condition (t ∷ []) ts = grow d cs Condition heads ts (sound_goal d cs goal.Condition ts heads e) in
    made d cs Condition heads ts g.0 g.1 (good d cs Condition (g.0 ∷ []) ts g.2) g.2

pub is_statements : (d : Dialect) (cs : List Constant) (heads : List CondHead) (ts : List Token) → result_of d cs (at [] (goal.Statements ∷ [])) ts ≡ Some heads → Made d cs Statements heads ts
is_statements d cs heads ts e =
    let g : (t : Tree) × (heads_of t ≡ heads) × Is d cs Statements (t ∷ []) ts = grow d cs Statements heads ts (sound_goal d cs goal.Statements ts heads e) in
    made d cs Statements heads ts g.0 g.1 (good d cs Statements (g.0 ∷ []) ts g.2) g.2

-- what is read of the text of a tree are the tree's heads
pub read_condition : (d : Dialect) (cs : List Constant) (t : Tree) (ts : List Token) → Is d cs Condition (t ∷ []) ts → result_of d cs (at [] (goal.Condition ∷ [])) ts ≡ Some (heads_of_all (t ∷ []))
read_condition d cs t ts i = complete_condition d cs (heads_of_all (t ∷ [])) ts (flattened d cs Condition (t ∷ []) ts i)

pub read_statements : (d : Dialect) (cs : List Constant) (t : Tree) (ts : List Token) → Is d cs Statements (t ∷ []) ts → result_of d cs (at [] (goal.Statements ∷ [])) ts ≡ Some (heads_of_all (t ∷ []))
read_statements d cs t ts i = complete_statements d cs (heads_of_all (t ∷ [])) ts (flattened d cs Statements (t ∷ []) ts i)

pub no_condition : (d : Dialect) (cs : List Constant) (ts : List Token) → result_of d cs (at [] (goal.Condition ∷ [])) ts ≡ None → (t : Tree) → Is d cs Condition (t ∷ []) ts → ⊥
no_condition d cs ts e t i = none_some (heads_of_all (t ∷ [])) (sym e ∙ read_condition d cs t ts i)

pub no_statements : (d : Dialect) (cs : List Constant) (ts : List Token) → result_of d cs (at [] (goal.Statements ∷ [])) ts ≡ None → (t : Tree) → Is d cs Statements (t ∷ []) ts → ⊥
no_statements d cs ts e t i = none_some (heads_of_all (t ∷ [])) (sym e ∙ read_statements d cs t ts i)

-- trees with the same heads are one
same_tree : (a b : Tree) → Grows (a ∷ []) → Grows (b ∷ []) → heads_of_all (a ∷ []) ≡ heads_of_all (b ∷ []) → a ≡ b
same_tree a b f g e = sym (regrown a f) ∙ ap tree_of (sym (all_1 a) ∙ e ∙ all_1 b) ∙ regrown b g

pub one_condition : (d : Dialect) (cs : List Constant) (ts : List Token) (a b : Tree) → Is d cs Condition (a ∷ []) ts → Is d cs Condition (b ∷ []) ts → a ≡ b
one_condition d cs ts a b i j = same_tree a b (good d cs Condition (a ∷ []) ts i) (good d cs Condition (b ∷ []) ts j) (some_is _ _ (sym (read_condition d cs a ts i) ∙ read_condition d cs b ts j))

pub one_statements : (d : Dialect) (cs : List Constant) (ts : List Token) (a b : Tree) → Is d cs Statements (a ∷ []) ts → Is d cs Statements (b ∷ []) ts → a ≡ b
one_statements d cs ts a b i j = same_tree a b (good d cs Statements (a ∷ []) ts i) (good d cs Statements (b ∷ []) ts j) (some_is _ _ (sym (read_statements d cs a ts i) ∙ read_statements d cs b ts j))

-- ---- two conditions

abbrev pub and : CondHead
and = head.Binary binary.And

-- the heads of two trees, and && behind them, grow into the tree of both
grown_both : (xs ys : List CondHead) → IsWhole xs → IsWhole ys → (before : List Tree) (more : List CondHead) →
    grown before ((xs ++ (ys ++ and ∷ [])) ++ more) ≡ grown (both (tree_of xs) (tree_of ys) ∷ before) more
grown_both xs ys x y before more =
    ap (grown before) (append_assoc xs (ys ++ and ∷ []) more ∙ ap (λ (hs : List CondHead). xs ++ hs) (append_assoc ys (and ∷ []) more))
    ∙ x.grows before (ys ++ and ∷ more) ∙ y.grows (tree_of xs ∷ before) (and ∷ more)

pub tree_of-both : (xs ys heads : List CondHead) → IsWhole xs → IsWhole ys → heads ≡ xs ++ (ys ++ and ∷ []) →
    tree_of heads ≡ both (tree_of xs) (tree_of ys)
tree_of-both xs ys heads x y is =
    ap tree_of (is ∙ sym (append-nil (xs ++ (ys ++ and ∷ [])))) ∙ ap first_or_nothing (grown_both xs ys x y [] [])

pub whole_both : (xs ys heads : List CondHead) → IsWhole xs → IsWhole ys → heads ≡ xs ++ (ys ++ and ∷ []) → IsWhole heads
whole_both xs ys heads x y is =
    let tree : tree_of heads ≡ both (tree_of xs) (tree_of ys) = tree_of-both xs ys heads x y is in
    record {
      heads_are = ap heads_of tree ∙ heads_2 and (tree_of xs) (tree_of ys)
          ∙ ap (λ (hs : List CondHead). hs ++ (heads_of (tree_of ys) ++ and ∷ [])) x.heads_are
          ∙ ap (λ (hs : List CondHead). xs ++ (hs ++ and ∷ [])) y.heads_are ∙ sym is;
      grows = λ before more. ap (λ (hs : List CondHead). grown before (hs ++ more)) is
          ∙ grown_both xs ys x y before more ∙ ap (λ (t : Tree). grown (t ∷ before) more) (sym tree);
    }

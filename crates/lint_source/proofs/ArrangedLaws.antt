-- Trees with the definitions first make the same forms.
use Rattle.std.proofs.Common.{◌≡◌, ℕ, zero, suc, ◌+◌, Bool, true, false, not, ◌&&◌, cond, is_some, true≢false, List, [], ◌∷◌, ◌++◌, map, length, take, filter, Option, Some, None, nat_lt, refl, sym, ap, ap₂, subst, ◌∙◌, append-nil, arith}
use Rattle.std.specs.List.{cons_option, filter_map, flat_map, fold, count_by, AllByRecursion}
use Rattle.std.proofs.Math.Seq.{take-append-add}
use Rattle.std.proofs.lemmas.Grind.{flat_map-append}
use Rattle.std.proofs.lemmas.List.{length-map}
use Rattle.std.proofs.lemmas.List.Elements.{filter_map-append}
use Rattle.std.proofs.lemmas.List.Sums.{fold-append, sum_by-cons}
use Rattle.rtx_tree.specs.declared.constants.Constant.{Constant}
use Rattle.lisp_read.specs.declared.tree.Tree.{Tree, roll-Tree}
use Rattle.lisp_read.specs.declared.tree.Tree.TheOpen.{Tree-F}
use Rattle.lisp_read.specs.declared.tree.Tree.TheFolds.{fold-roll-Tree, ind-Tree, map-Tree}
use Rattle.md_iter.specs.declared.definition.Definitions.{Definitions}
use Rattle.md_iter.specs.declared.definition.FormIterator.{FormIterator}
use Rattle.md_iter.specs.declared.definition.IteratorAttribute.{IteratorAttribute}
use Rattle.md_iter.specs.declared.substitution.Instance.{Instance}
use Rattle.md_iter.specs.Choice.{added, used_by_parts, from_head, uses_step, uses, iterators_of, choices}
use Rattle.md_iter.specs.Definition.{iterator_of, attribute_of, constants_of, constants_or_none, is_form, iterators_in, attributes_in, all_constants_in, definitions_in}
use Rattle.md_iter.specs.Expansion.{forms_of_form, forms_of_tree, forms_with, forms_of}
use Rattle.md_iter.specs.Substitution.{form_under}
use Rattle.text_words.specs.Cut.{cut}
use Rattle.lint_source.specs.declared.arranged.Arranged.{Arranged}
use Rattle.lint_source.specs.machine.Steps.{is_definition, itself, IsArranged}

-- ---- elements that give nothing

module _ {X A : Type 0} (p : X → Bool) (g : X → List A) where
  -- those that pass give nothing
  nothing_next : ((x : X) → p x ≡ true → g x ≡ []) → (x : X) (xs : List X) (b : Bool) → p x ≡ b → flat_map g (filter p xs) ≡ [] → flat_map g (cond b (x ∷ filter p xs) (filter p xs)) ≡ []
  nothing_next none x xs true is rest = ap (λ (ys : List A). ys ++ flat_map g (filter p xs)) (none x is) ∙ rest
  nothing_next none x xs false is rest = rest

  nothing_of : ((x : X) → p x ≡ true → g x ≡ []) → (xs : List X) → flat_map g (filter p xs) ≡ []
  nothing_of none [] = refl
  nothing_of none (x ∷ xs) = nothing_next none x xs (p x) refl (nothing_of none xs)

  -- those that don't pass give nothing
  all_next : ((x : X) → p x ≡ false → g x ≡ []) → (x : X) (xs : List X) (b : Bool) → p x ≡ b → flat_map g (filter p xs) ≡ flat_map g xs → flat_map g (cond b (x ∷ filter p xs) (filter p xs)) ≡ g x ++ flat_map g xs
  all_next none x xs true is rest = ap (λ (ys : List A). g x ++ ys) rest
  all_next none x xs false is rest = rest ∙ ap (λ (ys : List A). ys ++ flat_map g xs) (sym (none x is))

  all_of : ((x : X) → p x ≡ false → g x ≡ []) → (xs : List X) → flat_map g (filter p xs) ≡ flat_map g xs
  all_of none [] = refl
  all_of none (x ∷ xs) = all_next none x xs (p x) refl (all_of none xs)

module _ {X A : Type 0} (p : X → Bool) (h : X → Option A) where
  none_next : ((x : X) → p x ≡ true → h x ≡ None) → (x : X) (xs : List X) (b : Bool) → p x ≡ b → filter_map h (filter p xs) ≡ [] → filter_map h (cond b (x ∷ filter p xs) (filter p xs)) ≡ []
  none_next none x xs true is rest = ap (λ (o : Option A). cons_option o (filter_map h (filter p xs))) (none x is) ∙ rest
  none_next none x xs false is rest = rest

  none_found : ((x : X) → p x ≡ true → h x ≡ None) → (xs : List X) → filter_map h (filter p xs) ≡ []
  none_found none [] = refl
  none_found none (x ∷ xs) = none_next none x xs (p x) refl (none_found none xs)

  found_next : ((x : X) → p x ≡ false → h x ≡ None) → (x : X) (xs : List X) (b : Bool) → p x ≡ b → filter_map h (filter p xs) ≡ filter_map h xs → filter_map h (cond b (x ∷ filter p xs) (filter p xs)) ≡ cons_option (h x) (filter_map h xs)
  found_next none x xs true is rest = ap (cons_option (h x)) rest
  found_next none x xs false is rest = rest ∙ ap (λ (o : Option A). cons_option o (filter_map h xs)) (sym (none x is))

  all_found : ((x : X) → p x ≡ false → h x ≡ None) → (xs : List X) → filter_map h (filter p xs) ≡ filter_map h xs
  all_found none [] = refl
  all_found none (x ∷ xs) = found_next none x xs (p x) refl (all_found none xs)

-- the first that pass
taken_next : {X : Type 0} (x : X) (xs firsts : List X) (k : ℕ) (b : Bool) → take k xs ≡ firsts → take (cond b 1 0 + k) (cond b (x ∷ xs) xs) ≡ cond b (x ∷ firsts) firsts
taken_next {X = X} x xs firsts k true rest = let one : 1 + k ≡ suc k = omega arith in ap (λ (n : ℕ). take n (x ∷ xs)) one ∙ ap (λ (ys : List X). x ∷ ys) rest
taken_next {X = X} x xs firsts k false rest = let none : 0 + k ≡ k = omega arith in ap (λ (n : ℕ). take n xs) none ∙ rest

taken : {X : Type 0} (p : X → Bool) (n : ℕ) (xs : List X) → take (count_by itself (take n (map p xs))) (filter p xs) ≡ filter p (take n xs)
taken p zero xs = refl
taken p (suc n) [] = refl
taken p (suc n) (x ∷ xs) = ap (λ (k : ℕ). take k (filter p (x ∷ xs))) (sum_by-cons (λ (b : Bool). cond (itself b) 1 0) (p x) (take n (map p xs))) ∙ taken_next x (filter p xs) (filter p (take n xs)) (count_by itself (take n (map p xs))) (p x) (taken p n xs)

-- ---- a form is no definition

no_parts : {A B D : Type 0} (a : Option A) (b : Option B) (d : Option D) → (not (is_some a) && not (is_some b) && not (is_some d)) ≡ true → (a ≡ None) × (b ≡ None) × (d ≡ None)
no_parts None None None is = (refl, refl, refl)
no_parts (Some x) b d is = absurd (true≢false (sym is))
no_parts None (Some y) d is = absurd (true≢false (sym is))
no_parts None None (Some z) is = absurd (true≢false (sym is))

no_definition : (t : Tree) → is_form t ≡ true → (iterator_of t ≡ None) × (attribute_of t ≡ None) × (constants_of t ≡ None)
no_definition t is = no_parts (iterator_of t) (attribute_of t) (constants_of t) is

no_constants : (t : Tree) → is_form t ≡ true → constants_or_none t ≡ []
no_constants t is = rw (no_definition t is).2 refl

not_false : (b : Bool) → not b ≡ false → b ≡ true
not_false true is = refl
not_false false is = absurd (true≢false is)

not_true : (b : Bool) → not b ≡ true → b ≡ false
not_true true is = absurd (true≢false (sym is))
not_true false is = refl

-- ---- a tree alone, where nothing is defined, uses nothing

abbrev UsesNone : Tree → Type 0
UsesNone t = (is_head : Bool) (used : List FormIterator) → fold added used (uses [] t is_head) ≡ used

atom_uses : (is_head : Bool) (text : List ℕ) (parts : Option (List ℕ × List ℕ)) (used : List FormIterator) → fold added used (used_by_parts [] is_head text parts) ≡ used
atom_uses true text (Some parts) used = refl
atom_uses true text None used = refl
atom_uses false text (Some parts) used = refl
atom_uses false text None used = refl

trees_use : (ts : List Tree) → AllByRecursion UsesNone ts → (is_head : Bool) (used : List FormIterator) → fold added used (flat_map (λ (us : List (Option FormIterator)). us) (from_head is_head (map (uses []) ts))) ≡ used
trees_use [] all is_head used = refl
trees_use (t ∷ ts) all is_head used =
    fold-append added used (uses [] t is_head) (flat_map (λ (us : List (Option FormIterator)). us) (from_head false (map (uses []) ts)))
    ∙ ap (λ (now : List FormIterator). fold added now (flat_map (λ (us : List (Option FormIterator)). us) (from_head false (map (uses []) ts)))) (all.0 is_head used)
    ∙ trees_use ts all.1 false used

abbrev With : Type 0
With = (t : Tree) × UsesNone t

all_with : (ys : List With) → AllByRecursion UsesNone (map (λ (y : With). y.0) ys)
all_with [] = tt
all_with (y ∷ ys) = (y.1, all_with ys)

step_uses : (y : Tree-F With) (is_head : Bool) (used : List FormIterator) →
    fold added used (uses_step [] (map-Tree Tree (Bool → List (Option FormIterator)) (uses []) (map-Tree With Tree (λ e. e.0) y)) is_head) ≡ used
step_uses (Tree-F.Atom place text) is_head used = atom_uses is_head text (cut 58 text) used
step_uses (Tree-F.Str place text) is_head used = refl
step_uses (Tree-F.Block place text) is_head used = refl
step_uses (Tree-F.List place ys) is_head used = trees_use (map (λ (y : With). y.0) ys) (all_with ys) true used
step_uses (Tree-F.Vector place ys) is_head used = trees_use (map (λ (y : With). y.0) ys) (all_with ys) false used

layer : (y : Tree-F With) → UsesNone (roll-Tree (map-Tree With Tree (λ e. e.0) y))
layer y is_head used =
    ap (λ (go : Bool → List (Option FormIterator)). fold added used (go is_head)) (fold-roll-Tree (Bool → List (Option FormIterator)) (uses_step []) (map-Tree With Tree (λ e. e.0) y))
    ∙ step_uses y is_head used

uses_none : (t : Tree) → UsesNone t
uses_none = ind-Tree UsesNone (λ x y e. subst (λ (z : Tree-F Tree). UsesNone (roll-Tree z)) e (layer y))

-- a form alone makes one form
alone : (t : Tree) → is_form t ≡ true → length (forms_of (t ∷ [])) ≡ 1
alone t is =
    let none : iterators_in (t ∷ []) ≡ [] = rw (no_definition t is).0 refl in
    let unused : iterators_of (iterators_in (t ∷ [])) t ≡ [] = ap (λ (l : List FormIterator). iterators_of l t) none ∙ uses_none t false [] in
    let one : forms_of (t ∷ []) ≡ forms_of_form (definitions_in (t ∷ [])) t = append-nil (forms_of_tree (definitions_in (t ∷ [])) t) ∙ ap (λ (b : Bool). cond b (forms_of_form (definitions_in (t ∷ [])) t) []) is in
    ap length one ∙ length-map (choices (iterators_of (iterators_in (t ∷ [])) t)) (form_under (definitions_in (t ∷ [])) t) ∙ ap (λ (l : List FormIterator). length (choices l)) unused

none_alone : (t : Tree) → is_form t ≡ false → length (forms_of (t ∷ [])) ≡ 0
none_alone t is = rw is refl

-- whether a tree makes a form by itself
pub by_itself : (t : Tree) (trees : List Tree) (count : ℕ) (b : Bool) → trees ≡ t ∷ [] → count ≡ length (forms_of trees) → b ≡ nat_lt 0 count → b ≡ is_form t
by_itself t trees count b one counts is = is ∙ ap (nat_lt 0) (counts ∙ ap (λ (ts : List Tree). length (forms_of ts)) one) ∙ by_test (is_form t) refl
  where
    by_test : (f : Bool) → is_form t ≡ f → nat_lt 0 (length (forms_of (t ∷ []))) ≡ is_form t
    by_test true form = ap (nat_lt 0) (alone t form) ∙ sym form
    by_test false form = ap (nat_lt 0) (none_alone t form) ∙ sym form

-- ---- definitions first

front_definitions : (trees : List Tree) (end : ℕ) → definitions_in (filter is_definition trees ++ filter is_form (take end trees)) ≡ definitions_in trees
front_definitions trees end =
    ap₃_definitions
    (filter_map-append iterator_of (filter is_definition trees) (filter is_form (take end trees))
    ∙ ap₂ (λ (xs ys : List FormIterator). xs ++ ys) (all_found is_definition iterator_of (λ t is. (no_definition t (not_false (is_form t) is)).0) trees) (none_found is_form iterator_of (λ t is. (no_definition t is).0) (take end trees))
    ∙ append-nil (iterators_in trees))
    (filter_map-append attribute_of (filter is_definition trees) (filter is_form (take end trees))
    ∙ ap₂ (λ (xs ys : List IteratorAttribute). xs ++ ys) (all_found is_definition attribute_of (λ t is. (no_definition t (not_false (is_form t) is)).1) trees) (none_found is_form attribute_of (λ t is. (no_definition t is).1) (take end trees))
    ∙ append-nil (attributes_in trees))
    (flat_map-append constants_or_none (filter is_definition trees) (filter is_form (take end trees))
    ∙ ap₂ (λ (xs ys : List Constant). xs ++ ys) (all_of is_definition constants_or_none (λ t is. no_constants t (not_false (is_form t) is)) trees) (nothing_of is_form constants_or_none (λ t is. no_constants t is) (take end trees))
    ∙ append-nil (all_constants_in trees))
  where
    ap₃_definitions : {is js : List FormIterator} {ns ms : List IteratorAttribute} {cs ds : List Constant} → is ≡ js → ns ≡ ms → cs ≡ ds →
        ◌≡◌ {A = Definitions} (record { iterators = is; attributes = ns; constants = cs }) (record { iterators = js; attributes = ms; constants = ds })
    ap₃_definitions p q r = cc

no_forms : (definitions : Definitions) (t : Tree) → is_form t ≡ false → forms_of_tree definitions t ≡ []
no_forms definitions t is = rw is refl

front_forms : (definitions : Definitions) (trees : List Tree) (end : ℕ) → forms_with definitions (filter is_definition trees ++ filter is_form (take end trees)) ≡ forms_with definitions (take end trees)
front_forms definitions trees end =
    flat_map-append (forms_of_tree definitions) (filter is_definition trees) (filter is_form (take end trees))
    ∙ ap₂ (λ (xs ys : List Instance). xs ++ ys) (nothing_of is_definition (forms_of_tree definitions) (λ t is. no_forms definitions t (not_true (is_form t) is)) trees)
    (all_of is_form (forms_of_tree definitions) (λ t is. no_forms definitions t is) (take end trees))

front : (trees : List Tree) (end : ℕ) → forms_of (filter is_definition trees ++ filter is_form (take end trees)) ≡ forms_with (definitions_in trees) (take end trees)
front trees end =
    ap (λ (ds : Definitions). forms_with ds (filter is_definition trees ++ filter is_form (take end trees))) (front_definitions trees end)
    ∙ front_forms (definitions_in trees) trees end

-- the first trees in their new order make the forms of the first
pub forms_before : (trees : List Tree) (a : Arranged) (end forms count : ℕ) (marks : List Bool) (firsts : List Tree) (n : ℕ) → IsArranged trees a → marks ≡ take end a.are_forms → forms ≡ count_by itself marks → count ≡ a.definitions + forms →
    firsts ≡ take count a.trees → n ≡ length (forms_of firsts) → n ≡ length (forms_with (definitions_in trees) (take end trees))
forms_before trees a end forms count marks firsts n is marked set many first made =
    let k : ℕ = count_by itself (take end (map is_form trees)) in
    let few : forms ≡ k = set ∙ ap (count_by itself) (marked ∙ ap (take end) is.are_forms) in
    let whole : count ≡ length (filter is_definition trees) + k = many ∙ ap₂ (λ (x y : ℕ). x + y) is.definitions_are few in
    made ∙ ap (λ (ts : List Tree). length (forms_of ts)) (first ∙ ap₂ (λ (m : ℕ) (ts : List Tree). take m ts) whole is.trees_are
    ∙ take-append-add (filter is_definition trees) (filter is_form trees) k
    ∙ ap (λ (ts : List Tree). filter is_definition trees ++ ts) (taken is_form end trees))
    ∙ ap (λ (xs : List Instance). length xs) (front trees end)

pub as_many : (trees : List Tree) (a : Arranged) (n : ℕ) → n ≡ length a.are_forms → IsArranged trees a → n ≡ length trees
as_many trees a n is arranged = is ∙ ap length arranged.are_forms ∙ length-map trees is_form

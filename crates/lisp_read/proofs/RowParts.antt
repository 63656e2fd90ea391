-- What is read has as many kids as the row of its code says, and each kid is read itself, or is a label's number.
use Rattle.std.proofs.Common.{◌≡◌, ◌≤◌, ℕ, ℤ, pos, suc, List, [], ◌∷◌, length, map, Bool, true, false, ◌&&◌, Option, Some, None, cond, refl, sym, ap, subst, arith}
use Rattle.std.specs.Prelude.{IfSome, IfOk, Result, Ok, Err, option_map, option_and_then}
use Rattle.std.specs.List.{AllByRecursion, list_all}
use Rattle.rtx_tree.specs.declared.code.Code.TheVariants.{Parallel}
use Rattle.rtx_tree.specs.declared.code.Mode.{Mode}
use Rattle.rtx_tree.specs.declared.code.Mode.TheVariants.{Void}
use Rattle.rtx_tree.specs.declared.tree.Rtx.{Rtx}
use Rattle.rtx_tree.specs.declared.class.Class.{Class}
use Rattle.rtx_tree.specs.declared.class.Class.TheVariants as class
use Rattle.rtx_tree.specs.Code.{parts_of, HasKids}
use Rattle.rtx_tree.specs.Patterns.{label_rtx}
use Rattle.rtx_tree.specs.Tree.{HaveTheirParts, node_of, reg_of, const_of, named_of}
use Rattle.rtx_tree.proofs.PartLaws.{HasPartsAt, Over, tree_over, parts_behind}
use Rattle.rtx_tree.specs.declared.code.Code.TheVariants.{SymbolRef}
use Rattle.lisp_read.specs.declared.head.Opening.{Opening}
use Rattle.lisp_read.specs.declared.position.Position.{Position}
use Rattle.lisp_read.specs.declared.position.Position.TheVariants.{Top, Pattern}
use Rattle.lisp_read.specs.declared.refusal.RtlRefusal.{RtlRefusal}
use Rattle.lisp_read.specs.declared.tree.Tree.{Tree}
use Rattle.lisp_read.specs.Leaf.{word_at, word_with, symbol_at, symbol_with, quoted_name}
use Rattle.lisp_read.specs.Shape.{atom_of, items_of, vector_of, is_nested, is_vector}
use Rattle.lisp_read.specs.Parsed.{Parsed, Gives, stands, construct, outside, or_outside, parsed_map, parsed_then}
use Rattle.lisp_read.specs.Expression.{meaning_of, elements_of, class_of, head_at, read_at, rtx_in, each_at, node_by, parallel_by, list_by, expression_by, parts_of_class}
use Rattle.lisp_read.proofs.Meanings.{read_at_out, elements_out}
use Rattle.lisp_read.proofs.RowPositions.{Fits, row_parts}
use Rattle.lisp_read.proofs.Standing.{IfStands, map_stands, each_stands, any_stands}

weaker : {A : Type 0} (P Q : A → Type 0) → ((x : A) → P x → Q x) → (p : Parsed A) → IfStands P p → IfStands Q p
weaker P Q all (stands x) is = all x is
weaker P Q all (construct place name) is = tt

module _ (Q : Rtx → Type 0) (read_q : (p : Position) (t : Tree) → IfStands Q (read_at p t)) (const_q : (n : ℤ) → Q (const_of n)) where
  abbrev Good : Rtx → Type 0
  Good = Over Q

  tested : {A : Type 0} (P : A → Type 0) (b : Bool) (t : Tree) (p : Parsed A) → IfStands P p → IfStands P (cond b p (outside t))
  tested P true t p is = is
  tested P false t p is = tt

  -- ---- words

  mapped : {A : Type 0} (f : A → Rtx) → ((a : A) → Good (f a)) → (o : Option A) → IfSome (option_map f o) Good
  mapped f good None = tt
  mapped f good (Some a) = good a

  or_good : (t : Tree) (o : Option Rtx) → IfSome o Good → IfStands Good (or_outside t o)
  or_good t None good = tt
  or_good t (Some x) good = good

  word_good : (t : Tree) (c : Class) (p : Position) (m : Mode) → ((text : List ℕ) → IfSome (word_at c p m text) Good) → (items : List Tree) → IfStands Good (word_with t c p m items)
  word_good t c p m good [] = tt
  word_good t c p m good (h ∷ []) = tt
  word_good t c p m good (h ∷ w ∷ more) = by (atom_of w)
    where
      by : (o : Option (List ℕ)) → IfStands Good (or_outside t (option_and_then (word_at c p m) o))
      by None = tt
      by (Some text) = or_good t (word_at c p m text) (good text)

  register_good : (p : Position) (m : Mode) (text : List ℕ) → IfSome (word_at class.Register p m text) Good
  register_good p m text = mapped (reg_of m) (λ r. tree_over Q _ [] refl tt) _

  number_good : (p : Position) (m : Mode) (text : List ℕ) → IfSome (word_at class.Constant p m text) Good
  number_good p m text = mapped const_of (λ n. tree_over Q _ [] refl tt) _

  label_good : (p : Position) (m : Mode) (text : List ℕ) → IfSome (word_at class.Label p m text) Good
  label_good p m text = mapped label_rtx (λ uid. tree_over Q _ (const_of (pos uid) ∷ []) refl (const_q (pos uid), tt)) _

  symbol_good : (t : Tree) (m : Mode) (items : List Tree) → IfStands Good (symbol_with t m items)
  symbol_good t m [] = tt
  symbol_good t m (h ∷ []) = tt
  symbol_good t m (h ∷ l ∷ more) =
      tested Good (is_nested l) t (symbol_at m l) (or_good l _ (mapped (named_of SymbolRef m) (λ name. tree_over Q _ [] refl tt) (quoted_name (items_of l))))

  -- ---- what holds others

  elements_good : (t : Tree) → IfStands (AllByRecursion Q) (elements_of t)
  elements_good t = subst (IfStands (AllByRecursion Q)) (sym (elements_out t))
      (tested (AllByRecursion Q) (is_vector t && list_all is_nested (vector_of t)) t _ (each_stands Q (read_at Pattern) (read_q Pattern) (vector_of t)))

  parallel_good : (t : Tree) (items : List Tree) → IfStands Good (parallel_by t items (map meaning_of items))
  parallel_good t [] = tt
  parallel_good t (h ∷ []) = tt
  parallel_good t (h ∷ v ∷ w ∷ more) = tt
  parallel_good t (h ∷ v ∷ []) =
      tested Good (is_nested v) t _ (map_stands Good (node_of Parallel Void) (elements_of v)
      (weaker (AllByRecursion Q) (λ ys. Good (node_of Parallel Void ys)) (λ ys all. tree_over Q _ ys tt all) (elements_of v) (elements_good v)))

  -- so many expressions
  abbrev Kids : ℕ → List Rtx → Type 0
  Kids n ys = (length ys ≡ n) × AllByRecursion Q ys

  next_good : (n : ℕ) (a : Parsed Rtx) (b : Parsed (List Rtx)) → IfStands Q a → IfStands (Kids n) b → IfStands (Kids (suc n)) (parsed_then a (λ y. parsed_map (λ ys. y ∷ ys) b))
  next_good n (stands y) (stands ys) q kids = (ap suc kids.0, (q, kids.1))
  next_good n (stands y) (construct place name) q kids = tt
  next_good n (construct place name) b q kids = tt

  each_good : (ps : List Position) (ts : List Tree) → length ps ≤ length ts → IfStands (Kids (length ps)) (each_at ps (map meaning_of ts))
  each_good [] ts le = (refl, tt)
  each_good (p ∷ ps) [] le = absurd (omega (arith, le))
  each_good (p ∷ ps) (t ∷ ts) le = next_good (length ps) (read_at p t) (each_at ps (map meaning_of ts)) (read_q p t) (each_good ps ts (omega (arith, le)))

  node_good : (t : Tree) (h : Opening) (items : List Tree) (o : Option (List Position)) → IfSome o (Fits (parts_of (class_of h)) items) → IfStands Good (node_by t h o (map meaning_of items))
  node_good t h items None fits = tt
  node_good t h [] (Some ps) fits = absurd (omega (arith, fits.1))
  node_good t h (a ∷ items) (Some ps) fits = map_stands Good (node_of h.code h.mode) _
      (weaker (Kids (length ps)) (λ ys. Good (node_of h.code h.mode ys))
      (λ ys kids. tree_over Q _ ys (subst (HasKids (parts_of (class_of h))) (sym kids.0) fits.0) kids.1) _ (each_good ps items (omega (arith, fits.1))))

  by_class : (p : Position) (h : Opening) (t : Tree) (c : Class) → class_of h ≡ c → IfStands Good (list_by c p h t (map meaning_of (items_of t)))
  by_class p h t class.Register is = word_good t (class_of h) p h.mode (λ text. subst (λ (k : Class). IfSome (word_at k p h.mode text) Good) (sym is) (register_good p h.mode text)) (items_of t)
  by_class p h t class.Constant is = word_good t (class_of h) p h.mode (λ text. subst (λ (k : Class). IfSome (word_at k p h.mode text) Good) (sym is) (number_good p h.mode text)) (items_of t)
  by_class p h t class.Label is = word_good t (class_of h) p h.mode (λ text. subst (λ (k : Class). IfSome (word_at k p h.mode text) Good) (sym is) (label_good p h.mode text)) (items_of t)
  by_class p h t class.Symbol is = symbol_good t h.mode (items_of t)
  by_class p h t class.Parallel is = parallel_good t (items_of t)
  by_class p h t c is = node_good t h (items_of t) (parts_of_class c (items_of t)) (subst (λ (k : Class). IfSome (parts_of_class c (items_of t)) (Fits (parts_of k) (items_of t))) (sym is) (row_parts c (items_of t)))

  by_head : (p : Position) (t : Tree) (o : Option Opening) → IfStands Good (expression_by p o t (map meaning_of (items_of t)))
  by_head p t None = tt
  by_head p t (Some h) = by_class p h t (class_of h) refl

  over : (p : Position) (t : Tree) → IfStands Good (read_at p t)
  over p t = subst (IfStands Good) (sym (read_at_out p t)) (by_head p t (head_at p t))

-- ---- at each path

number_parts : (path : List ℕ) (n : ℤ) → HasPartsAt path (const_of n)
number_parts [] n = (tree_over (λ x. Unit {0}) _ [] refl tt).0
number_parts (k ∷ path) n = parts_behind path k (const_of n) (tree_over (HasPartsAt path) _ [] refl tt).1

parts_at : (path : List ℕ) (p : Position) (t : Tree) → IfStands (HasPartsAt path) (read_at p t)
parts_at [] p t =
    weaker (Over (λ x. Unit {0})) (HasPartsAt []) (λ x good. good.0) (read_at p t)
    (over (λ x. Unit {0}) (λ q u. any_stands (λ x. Unit {0}) (λ x. tt) (read_at q u)) (λ n. tt) p t)
parts_at (k ∷ path) p t =
    weaker (Over (HasPartsAt path)) (HasPartsAt (k ∷ path)) (λ x good. parts_behind path k x good.1) (read_at p t)
    (over (HasPartsAt path) (parts_at path) (number_parts path) p t)

pub read_parts : (t : Tree) (result : Result Rtx RtlRefusal) → Gives result (rtx_in t) → IfOk result HaveTheirParts
read_parts t (Ok x) gives = λ path. subst (IfStands (HasPartsAt path)) gives (parts_at path Top t)
read_parts t (Err e) gives = tt

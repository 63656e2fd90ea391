-- The patterns that a description writes name registers of the machine alone.
use Rattle.std.proofs.Common.{◌≡◌, ℕ, ◌≤◌, if◌then◌else◌, Bool, true, false, List, [], ◌∷◌, map, take, Option, Some, None, Result, Ok, Err, refl, sym, ap, subst, arith}
use Rattle.std.proofs.lemmas.Bool.{false≢true}
use Rattle.std.proofs.lemmas.Bool.Decides.{nat_tests}
use Rattle.std.specs.List.{AllByRecursion}
use Rattle.std.specs.Prelude.{ℤ, pos, negsuc, nat_lt, length, ◌==◌, option_and_then}
use Rattle.rtx_tree.specs.Code.{class_of_code, parts_of}
use Rattle.rtx_tree.specs.Tree.{named_of, reg_of, const_of}
use Rattle.rtx_tree.specs.declared.class.Parts.{Parts}
use Rattle.rtx_tree.specs.declared.class.Parts.TheVariants as parts
use Rattle.rtx_tree.specs.declared.code.Code.{Code}
use Rattle.rtx_tree.specs.declared.code.Code.TheVariants as code
use Rattle.rtx_tree.specs.declared.code.Mode.{Mode}
use Rattle.rtx_tree.specs.declared.constants.Constant.{Constant}
use Rattle.rtx_tree.specs.declared.tree.Rtx.{Rtx}
use Rattle.form_needs.specs.Needs.{is_homeless}
use Rattle.lisp_read.specs.Head.{code_of_head, mode_of_head}
use Rattle.lisp_read.specs.Leaf.{below}
use Rattle.lisp_read.specs.Shape.{atom_of, items_at, items_of, vector_at, vector_of, is_vector}
use Rattle.lisp_read.specs.declared.tree.Tree.{Tree, roll-Tree, out-roll-Tree}
use Rattle.lisp_read.specs.declared.tree.Tree.TheFolds.{ind-Tree, map-Tree}
use Rattle.lisp_read.specs.declared.tree.Tree.TheOpen.{Tree-F}
use Rattle.md_pattern.specs.declared.operand.Operand.{Operand}
use Rattle.md_pattern.specs.declared.pattern.Pattern.{Pattern}
use Rattle.md_pattern.specs.declared.pattern.Patterns.{Patterns}
use Rattle.md_pattern.specs.declared.reason.Reason.{Reason}
use Rattle.md_pattern.specs.declared.reason.Reason.TheVariants as reason
use Rattle.md_pattern.specs.Reason.{both, judged_map, judged_with}
use Rattle.md_pattern.specs.Word.{number_of, register_of}
use Rattle.md_pattern.specs.Operand.{numbered, predicated, operand_in, scratch_in, dup_in}
use Rattle.md_pattern.specs.Pattern.{Meaning, no_patterns, in_front, each, bare, or_aside, mode_for, node_with, matching_with, register_by, word_in, node_by, is_lowpart, parallel_by, operand_by, operator_by, operator_dup_by, behind, of_code, of_head, list_by, meaning_of, patterns_of}
use Rattle.md_pattern.proofs.Meanings.{pattern_out, vector_out}
use Rattle.law_emitted_hard.specs.Hard.{IsHard, AreHard, OnSome}
use Rattle.law_emitted_hard.proofs.Trees.{hard_tree, node_hard, named_hard, reg_hard, const_hard}

-- ---- what is read

-- what holds of what is read, if something is
abbrev pub OnOk : {A : Type 0} → (A → Type 0) → Result A Reason → Type 0
OnOk P (Ok x) = P x
OnOk P (Err r) = Unit {0}

pub on_map : {A B : Type 0} (P : A → Type 0) (Q : B → Type 0) (f : A → B) →
    ((x : A) → P x → Q (f x)) →
    (a : Result A Reason) → OnOk P a → OnOk Q (judged_map f a)
on_map P Q f step (Ok x) is = step x is
on_map P Q f step (Err r) is = tt

pub on_both : {A B : Type 0} (P : A → Type 0) (Q : B → Type 0) (a : Result A Reason)
    (b : Result B Reason) → OnOk P a → OnOk Q b → OnOk (λ (x : A × B). P x.0 × Q x.1) (both a b)
on_both P Q (Ok x) (Ok y) is more = (is, more)
on_both P Q (Ok x) (Err r) is more = tt
on_both P Q (Err r) (Ok y) is more = tt
on_both P Q (Err r) (Err q) is more = tt

abbrev pub Any : {A : Type 0} → A → Type 0
Any x = Unit {0}

pub any_read : {A : Type 0} (a : Result A Reason) → OnOk (λ (x : A). Any x) a
any_read (Ok x) = tt
any_read (Err r) = tt

-- ---- codes

-- no number of a tree of the code is that of a register
abbrev NoRegister : Code → Type 0
NoRegister c = (n : ℤ) → is_homeless c n ≡ false

abbrev is_other : Parts → Bool
is_other parts.Register = false
is_other _ = true

no_register : (c : Code) → is_other (parts_of (class_of_code c)) ≡ true → NoRegister c
no_register code.Reg is n = absurd (false≢true is)
no_register _ is n = refl

-- ---- patterns

abbrev PatternHard : Pattern → Type 0
PatternHard p = IsHard p.tree

abbrev pub PatternsHard : Patterns → Type 0
PatternsHard ps = AreHard ps.trees

abbrev MeaningHard : Meaning → Type 0
MeaningHard m = OnOk PatternHard m.pattern × OnOk PatternsHard m.vector

each_hard : (ms : List Meaning) → AllByRecursion MeaningHard ms → OnOk PatternsHard (each ms)
each_hard [] all = tt
each_hard (m ∷ ms) all =
    on_map (λ (x : Pattern × Patterns). PatternHard x.0 × PatternsHard x.1) PatternsHard
    (λ pair. in_front pair.0 pair.1) (λ pair is. (is.0, is.1)) (both m.pattern (each ms))
    (on_both PatternHard PatternsHard m.pattern (each ms) all.0.0 (each_hard ms all.1))

bare_hard : {A : Type 0} (f : Mode → A → Rtx) → ((mode : Mode) (x : A) → IsHard (f mode x)) →
    (m : Result Mode Reason) (r : Result A Reason) →
    OnOk PatternHard (judged_with (λ mode x. bare (f mode x)) m r)
bare_hard f is (Ok mode) (Ok x) = is mode x
bare_hard f is (Ok mode) (Err r) = tt
bare_hard f is (Err q) (Ok x) = tt
bare_hard f is (Err q) (Err r) = tt

-- a register that a pattern names has a number below 32
number_few : (n : ℤ) → OnSome (λ r. r ≤ 31) (below 32 n)
number_few (negsuc n) = tt
number_few (pos n) = by (nat_lt n 32) refl
  where
    by : (b : Bool) → nat_lt n 32 ≡ b → OnSome (λ r. r ≤ 31) (if b then Some n else None)
    by true is = grind (arith, nat_tests, is)
    by false is = tt

registers_few : (o : Option ℤ) → OnSome (λ r. r ≤ 31) (option_and_then (below 32) o)
registers_few None = tt
registers_few (Some n) = number_few n

numbered_hard : (m : Result Mode Reason) (o : Option ℕ) → OnSome (λ r. r ≤ 31) o →
    OnOk PatternHard (judged_with (λ mode r. bare (reg_of mode r)) m (or_aside reason.Code o))
numbered_hard (Ok mode) (Some r) few = reg_hard mode r few
numbered_hard (Ok mode) None few = tt
numbered_hard (Err q) (Some r) few = tt
numbered_hard (Err q) None few = tt

nodes_hard : (c : Code) (m : Result Mode Reason) (r : Result Patterns Reason) → OnOk PatternsHard r →
    OnOk PatternHard (judged_with (node_with c) m r)
nodes_hard c (Ok mode) (Ok ps) all = node_hard c mode ps.trees all
nodes_hard c (Ok mode) (Err r) all = tt
nodes_hard c (Err q) (Ok ps) all = tt
nodes_hard c (Err q) (Err r) all = tt

matching_hard : (c : Code) (o : Operand) (m : Result Mode Reason) (r : Result Patterns Reason) → NoRegister c →
    OnOk PatternsHard r → OnOk PatternHard (judged_with (matching_with c o) m r)
matching_hard c o (Ok mode) (Ok ps) none all =
    hard_tree (record { code = c; mode = mode; number = pos o.number; name = o.predicate }) ps.trees (none (pos o.number)) all
matching_hard c o (Ok mode) (Err r) none all = tt
matching_hard c o (Err q) (Ok ps) none all = tt
matching_hard c o (Err q) (Err r) none all = tt

operand_hard : (c : Code) (m : Result Mode Reason) (o : Option Operand) (r : Result Patterns Reason) → NoRegister c →
    OnOk PatternsHard r → OnOk PatternHard (operand_by c m o r)
operand_hard c m None r none all = tt
operand_hard c m (Some o) r none all = matching_hard c o m r none all

-- ---- what stands behind a head

module _ (c : Code) (m : Result Mode Reason) where
  node_by_hard : (b : Bool) (ms : List Meaning) → AllByRecursion MeaningHard ms → OnOk PatternHard (node_by b c m ms)
  node_by_hard true ms all = nodes_hard c m (each ms) (each_hard ms all)
  node_by_hard false ms all = tt

  first_alone : (ms : List Meaning) → AllByRecursion MeaningHard ms → AllByRecursion MeaningHard (take 1 ms)
  first_alone [] all = tt
  first_alone (x ∷ ms) all = (all.0, tt)

  vector_hard : (ms : List Meaning) → AllByRecursion MeaningHard ms → OnOk PatternHard (parallel_by c m ms)
  vector_hard [] all = tt
  vector_hard (v ∷ []) all = nodes_hard c m v.vector all.0.1
  vector_hard (v ∷ w ∷ ms) all = tt

  operator_hard : (ts : List Tree) (ms : List Meaning) → NoRegister c → AllByRecursion MeaningHard ms →
      OnOk PatternHard (operator_by c m ts ms)
  operator_hard [] ms none all = tt
  operator_hard (n ∷ []) ms none all = tt
  operator_hard (n ∷ p ∷ []) ms none all = tt
  operator_hard (n ∷ p ∷ v ∷ w ∷ ts) ms none all = tt
  operator_hard (n ∷ p ∷ v ∷ []) [] none all = tt
  operator_hard (n ∷ p ∷ v ∷ []) (a ∷ []) none all = tt
  operator_hard (n ∷ p ∷ v ∷ []) (a ∷ b ∷ []) none all = tt
  operator_hard (n ∷ p ∷ v ∷ []) (a ∷ b ∷ d ∷ e ∷ ms) none all = tt
  operator_hard (n ∷ p ∷ v ∷ []) (a ∷ b ∷ d ∷ []) none all = operand_hard c m (predicated n p) d.vector none all.1.1.0.1

  operator_dup_hard : (ts : List Tree) (ms : List Meaning) → NoRegister c → AllByRecursion MeaningHard ms →
      OnOk PatternHard (operator_dup_by c m ts ms)
  operator_dup_hard [] ms none all = tt
  operator_dup_hard (n ∷ []) ms none all = tt
  operator_dup_hard (n ∷ v ∷ w ∷ ts) ms none all = tt
  operator_dup_hard (n ∷ v ∷ []) [] none all = tt
  operator_dup_hard (n ∷ v ∷ []) (a ∷ []) none all = tt
  operator_dup_hard (n ∷ v ∷ []) (a ∷ d ∷ e ∷ ms) none all = tt
  operator_dup_hard (n ∷ v ∷ []) (a ∷ d ∷ []) none all = operand_hard c m (numbered n) d.vector none all.1.0.1

  single : (o : Option Operand) → NoRegister c → OnOk PatternHard (operand_by c m o (Ok no_patterns))
  single o none = operand_hard c m o (Ok no_patterns) none tt

  module _ (constants : List Constant) where
    register_hard : (o : Option (List ℕ)) → OnOk PatternHard (register_by constants m o)
    register_hard None = tt
    register_hard (Some text) = numbered_hard m (register_of constants text) (registers_few (number_of constants text))

    behind_hard : (p : Parts) → parts_of (class_of_code c) ≡ p → (ts : List Tree) (ms : List Meaning) →
        AllByRecursion MeaningHard ms → OnOk PatternHard (behind constants c m p ts ms)
    behind_hard parts.Register is ts ms all = register_hard (word_in ts)
    behind_hard parts.Number is ts ms all = bare_hard (λ mode n. const_of n) (λ mode n. const_hard n) m _
    behind_hard parts.Symbol is ts ms all =
        bare_hard (λ mode name. named_of code.SymbolRef mode name) (λ mode name. named_hard code.SymbolRef mode name) m _
    behind_hard parts.Lowpart is ts ms all = node_by_hard (is_lowpart ts) (take 1 ms) (first_alone ms all)
    behind_hard (parts.Expressions n) is ts ms all = node_by_hard (length ts == n) ms all
    behind_hard parts.Vector is ts ms all = vector_hard ms all
    behind_hard parts.Operand is ts ms all = single (operand_in ts) (no_register c (ap is_other is))
    behind_hard parts.Scratch is ts ms all = single (scratch_in ts) (no_register c (ap is_other is))
    behind_hard parts.Dup is ts ms all = single (dup_in ts) (no_register c (ap is_other is))
    behind_hard parts.Operator is ts ms all = operator_hard ts ms (no_register c (ap is_other is)) all
    behind_hard parts.OperatorDup is ts ms all = operator_dup_hard ts ms (no_register c (ap is_other is)) all

-- ---- a tree

module _ (constants : List Constant) where
  code_hard : (o : Option Code) (m : Option Mode) (ts : List Tree) (ms : List Meaning) →
      AllByRecursion MeaningHard ms → OnOk PatternHard (of_code constants o m ts ms)
  code_hard None m ts ms all = tt
  code_hard (Some c) m ts ms all = behind_hard c (mode_for c m) constants (parts_of (class_of_code c)) refl ts ms all

  head_hard : (o : Option (List ℕ)) (ts : List Tree) (ms : List Meaning) →
      AllByRecursion MeaningHard ms → OnOk PatternHard (of_head constants o ts ms)
  head_hard None ts ms all = tt
  head_hard (Some text) ts ms all = code_hard (code_of_head text) (mode_of_head text) ts ms all

  list_hard : (ts : List Tree) (ms : List Meaning) → AllByRecursion MeaningHard ms → OnOk PatternHard (list_by constants ts ms)
  list_hard [] ms all = tt
  list_hard (h ∷ ts) [] all = tt
  list_hard (h ∷ ts) (x ∷ ms) all = head_hard (atom_of h) ts ms all.1

  abbrev TreeHard : Tree → Type 0
  TreeHard t = MeaningHard (meaning_of constants t)

  meanings : (ts : List Tree) → AllByRecursion TreeHard ts → AllByRecursion MeaningHard (map (meaning_of constants) ts)
  meanings [] all = tt
  meanings (t ∷ ts) all = (all.0, meanings ts all.1)

  in_vector : (b : Bool) (ms : List Meaning) → AllByRecursion MeaningHard ms → OnOk PatternsHard (if b then each ms else Err reason.Parts)
  in_vector true ms all = each_hard ms all
  in_vector false ms all = tt

  tree_hard : (t : Tree) → AllByRecursion TreeHard (items_of t) → AllByRecursion TreeHard (vector_of t) → TreeHard t
  tree_hard t items vector = (
    subst (OnOk PatternHard) (sym (pattern_out constants t))
        (list_hard (items_of t) (map (meaning_of constants) (items_of t)) (meanings (items_of t) items)),
    subst (OnOk PatternsHard) (sym (vector_out constants t))
        (in_vector (is_vector t) (map (meaning_of constants) (vector_of t)) (meanings (vector_of t) vector)),
  )

  abbrev With : Type 0
  With = (t : Tree) × TreeHard t

  all_of : (ys : List With) → AllByRecursion TreeHard (map (λ (y : With). y.0) ys)
  all_of [] = tt
  all_of (y ∷ ys) = (y.1, all_of ys)

  in_items : (y : Tree-F With) → AllByRecursion TreeHard (items_at (map-Tree With Tree (λ e. e.0) y))
  in_items (Tree-F.Atom p t) = tt
  in_items (Tree-F.Str p t) = tt
  in_items (Tree-F.Block p t) = tt
  in_items (Tree-F.List p ys) = all_of ys
  in_items (Tree-F.Vector p ys) = tt

  in_vectors : (y : Tree-F With) → AllByRecursion TreeHard (vector_at (map-Tree With Tree (λ e. e.0) y))
  in_vectors (Tree-F.Atom p t) = tt
  in_vectors (Tree-F.Str p t) = tt
  in_vectors (Tree-F.Block p t) = tt
  in_vectors (Tree-F.List p ys) = tt
  in_vectors (Tree-F.Vector p ys) = all_of ys

  layer : (y : Tree-F With) → TreeHard (roll-Tree (map-Tree With Tree (λ e. e.0) y))
  layer y = let x = map-Tree With Tree (λ e. e.0) y in
      tree_hard (roll-Tree x)
      (subst (λ (o : Tree-F Tree). AllByRecursion TreeHard (items_at o)) (sym (out-roll-Tree x)) (in_items y))
      (subst (λ (o : Tree-F Tree). AllByRecursion TreeHard (vector_at o)) (sym (out-roll-Tree x)) (in_vectors y))

  every_tree : (t : Tree) → TreeHard t
  every_tree = ind-Tree TreeHard (λ x y e. subst (λ (z : Tree-F Tree). TreeHard (roll-Tree z)) e (layer y))

  -- the patterns in a vector
  pub patterns_hard : (t : Tree) → OnOk PatternsHard (patterns_of constants t)
  patterns_hard t = (every_tree t).1

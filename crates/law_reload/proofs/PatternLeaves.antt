-- In the patterns that a description writes, a placeholder of an operand has no parts.
use Rattle.std.proofs.Common.{◌≡◌, ℕ, ◌&&◌, if◌then◌else◌, Bool, true, false, List, [], ◌∷◌, ◌++◌, map, take, Option, Some, None, Result, Ok, Err, refl, sym, ap, subst, ◌∙◌}
use Rattle.std.proofs.lemmas.Bool.{and_from}
use Rattle.std.specs.List.{AllByRecursion, list_all}
use Rattle.std.specs.Prelude.{pos, length, ◌==◌}
use Rattle.rtx_tree.specs.Code.{class_of_code, parts_of}
use Rattle.rtx_tree.specs.Tree.{RtxHead, head_of, kids_of, tree_of, named_of, reg_of, const_of}
use Rattle.rtx_tree.specs.declared.class.Parts.{Parts}
use Rattle.rtx_tree.specs.declared.class.Parts.TheVariants as parts
use Rattle.rtx_tree.specs.declared.code.Code.{Code}
use Rattle.rtx_tree.specs.declared.code.Code.TheVariants as code
use Rattle.rtx_tree.specs.declared.code.Mode.{Mode}
use Rattle.rtx_tree.specs.declared.constants.Constant.{Constant}
use Rattle.rtx_tree.specs.declared.tree.Rtx.{Rtx}
use Rattle.rtx_tree.proofs.Trees.{head_of-tree, kids_of-tree}
use Rattle.rtl_func.proofs.AllPass.{all_pass, pass_out}
use Rattle.lisp_read.specs.Head.{code_of_head, mode_of_head}
use Rattle.lisp_read.specs.Shape.{atom_of, items_at, items_of, vector_at, vector_of, is_vector}
use Rattle.lisp_read.specs.declared.tree.Tree.{Tree, roll-Tree, out-roll-Tree}
use Rattle.lisp_read.specs.declared.tree.Tree.TheFolds.{ind-Tree, map-Tree}
use Rattle.lisp_read.specs.declared.tree.Tree.TheOpen.{Tree-F}
use Rattle.md_match.specs.declared.role.Role.{Role}
use Rattle.md_match.specs.declared.role.Role.TheVariants as role
use Rattle.md_match.specs.Pattern.{role_of}
use Rattle.md_pattern.specs.declared.operand.Operand.{Operand}
use Rattle.md_pattern.specs.declared.pattern.Pattern.{Pattern}
use Rattle.md_pattern.specs.declared.pattern.Patterns.{Patterns}
use Rattle.md_pattern.specs.declared.reason.Reason.{Reason}
use Rattle.md_pattern.specs.declared.reason.Reason.TheVariants as reason
use Rattle.md_pattern.specs.Reason.{both, judged_map, judged_with}
use Rattle.md_pattern.specs.Word.{register_of}
use Rattle.md_pattern.specs.Operand.{numbered, predicated, operand_in, scratch_in, dup_in}
use Rattle.md_pattern.specs.Pattern.{Meaning, no_patterns, in_front, each, bare, or_aside, mode_for, node_with, matching_with, register_by, word_in, node_by, is_lowpart, parallel_by, operand_by, operator_by, operator_dup_by, behind, of_code, of_head, list_by, meaning_of, patterns_of}
use Rattle.md_pattern.proofs.Meanings.{pattern_out, vector_out}
use Rattle.law_reload_moves.specs.law_operands_replaced.Places.{is_leaf_as, is_leaf}

-- ---- what is read

-- what holds of what is read, if something is
abbrev pub OnOk : {A : Type 0} → (A → Type 0) → Result A Reason → Type 0
OnOk P (Ok x) = P x
OnOk P (Err r) = Unit {0}

pub on_map : {A B : Type 0} (P : A → Type 0) (Q : B → Type 0) (f : A → B) →
    ((x : A) → P x → Q (f x)) →
    (a : Result A Reason) → OnOk P a → OnOk Q (judged_map f a)
on_map P Q f step (Ok x) is = step x is
on_map P Q f step (Err r) is = tt

pub on_both : {A B : Type 0} (P : A → Type 0) (Q : B → Type 0) (a : Result A Reason)
    (b : Result B Reason) → OnOk P a → OnOk Q b → OnOk (λ (x : A × B). P x.0 × Q x.1) (both a b)
on_both P Q (Ok x) (Ok y) is more = (is, more)
on_both P Q (Ok x) (Err r) is more = tt
on_both P Q (Err r) (Ok y) is more = tt
on_both P Q (Err r) (Err q) is more = tt

abbrev pub Any : {A : Type 0} → A → Type 0
Any x = Unit {0}

pub any_read : {A : Type 0} (a : Result A Reason) → OnOk (λ (x : A). Any x) a
any_read (Ok x) = tt
any_read (Err r) = tt

-- ---- trees

abbrev pub HasLeaves : Rtx → Type 0
HasLeaves x = all_pass is_leaf x ≡ true

abbrev pub HaveLeaves : List Rtx → Type 0
HaveLeaves xs = list_all (all_pass is_leaf) xs ≡ true

pub tree_leaf : (h : RtxHead) (kids : List Rtx) → is_leaf_as (role_of h.code) kids ≡ true →
    HaveLeaves kids → HasLeaves (tree_of h kids)
tree_leaf h kids here all =
    let y = tree_of h kids in
    pass_out is_leaf y ∙
    ap (λ (j : RtxHead). is_leaf_as (role_of j.code) (kids_of y) && list_all (all_pass is_leaf)
    (kids_of y)) (head_of-tree h kids) ∙
    ap (λ ks. is_leaf_as (role_of h.code) ks && list_all (all_pass is_leaf) ks)
    (kids_of-tree h kids) ∙
    and_from (is_leaf_as (role_of h.code) kids) _ here all

no_parts : (r : Role) → is_leaf_as r [] ≡ true
no_parts role.Operand = refl
no_parts _ = refl

alone : (h : RtxHead) → HasLeaves (tree_of h [])
alone h = tree_leaf h [] (no_parts (role_of h.code)) refl

-- what has parts is no operand
abbrev has_parts : Parts → Bool
has_parts parts.Operand = false
has_parts parts.Scratch = false
has_parts parts.Dup = false
has_parts _ = true

made_role : (c : Code) → has_parts (parts_of (class_of_code c)) ≡ true → (kids : List Rtx) →
    is_leaf_as (role_of c) kids ≡ true
made_role code.MatchOperand has kids = absurd (let no : ⊥ = cc in no)
made_role code.MatchScratch has kids = absurd (let no : ⊥ = cc in no)
made_role code.MatchDup has kids = absurd (let no : ⊥ = cc in no)
made_role _ has kids = refl

-- ---- patterns

abbrev PatternLeaves : Pattern → Type 0
PatternLeaves p = HasLeaves p.tree

abbrev pub PatternsLeaves : Patterns → Type 0
PatternsLeaves ps = HaveLeaves ps.trees

abbrev MeaningLeaves : Meaning → Type 0
MeaningLeaves m = OnOk PatternLeaves m.pattern × OnOk PatternsLeaves m.vector

each_leaves : (ms : List Meaning) → AllByRecursion MeaningLeaves ms → OnOk PatternsLeaves (each ms)
each_leaves [] all = refl
each_leaves (m ∷ ms) all =
    on_map (λ (x : Pattern × Patterns). PatternLeaves x.0 × PatternsLeaves x.1) PatternsLeaves
    (λ pair. in_front pair.0 pair.1)
    (λ pair is. and_from (all_pass is_leaf pair.0.tree) _ is.0 is.1) (both m.pattern (each ms))
    (on_both PatternLeaves PatternsLeaves m.pattern (each ms) all.0.0 (each_leaves ms all.1))

bare_leaves : {A : Type 0} (f : Mode → A → Rtx) → ((mode : Mode) (x : A) → HasLeaves (f mode x)) →
    (m : Result Mode Reason) (r : Result A Reason) →
    OnOk PatternLeaves (judged_with (λ mode x. bare (f mode x)) m r)
bare_leaves f is (Ok mode) (Ok x) = is mode x
bare_leaves f is (Ok mode) (Err r) = tt
bare_leaves f is (Err q) (Ok x) = tt
bare_leaves f is (Err q) (Err r) = tt

node_leaves : (c : Code) (m : Result Mode Reason) (r : Result Patterns Reason) →
    ((kids : List Rtx) → is_leaf_as (role_of c) kids ≡ true) → OnOk PatternsLeaves r →
    OnOk PatternLeaves (judged_with (node_with c) m r)
node_leaves c (Ok mode) (Ok ps) role' all =
    tree_leaf (record { code = c; mode = mode; number = pos 0; name = [] }) ps.trees
    (role' ps.trees) all
node_leaves c (Ok mode) (Err r) role' all = tt
node_leaves c (Err q) (Ok ps) role' all = tt
node_leaves c (Err q) (Err r) role' all = tt

matching_leaves : (c : Code) (o : Operand) (m : Result Mode Reason) (r : Result Patterns Reason) →
    OnOk (λ (ps : Patterns). is_leaf_as (role_of c) ps.trees ≡ true) r → OnOk PatternsLeaves r →
    OnOk PatternLeaves (judged_with (matching_with c o) m r)
matching_leaves c o (Ok mode) (Ok ps) here all =
    tree_leaf (record { code = c; mode = mode; number = pos o.number; name = o.predicate }) ps.trees
    here all
matching_leaves c o (Ok mode) (Err r) here all = tt
matching_leaves c o (Err q) (Ok ps) here all = tt
matching_leaves c o (Err q) (Err r) here all = tt

operand_leaves : (c : Code) (m : Result Mode Reason) (o : Option Operand)
    (r : Result Patterns Reason) →
    OnOk (λ (ps : Patterns). is_leaf_as (role_of c) ps.trees ≡ true) r → OnOk PatternsLeaves r →
    OnOk PatternLeaves (operand_by c m o r)
operand_leaves c m None r here all = tt
operand_leaves c m (Some o) r here all = matching_leaves c o m r here all

any_role : (c : Code) (r : Result Patterns Reason) → ((kids : List Rtx) →
    is_leaf_as (role_of c) kids ≡ true) →
    OnOk (λ (ps : Patterns). is_leaf_as (role_of c) ps.trees ≡ true) r
any_role c (Ok ps) role' = role' ps.trees
any_role c (Err r) role' = tt

-- ---- what stands behind a head

module _ (c : Code) (m : Result Mode Reason) where
  node_by_leaves : (b : Bool) (ms : List Meaning) → ((kids : List Rtx) →
      is_leaf_as (role_of c) kids ≡ true) →
      AllByRecursion MeaningLeaves ms → OnOk PatternLeaves (node_by b c m ms)
  node_by_leaves true ms role' all = node_leaves c m (each ms) role' (each_leaves ms all)
  node_by_leaves false ms role' all = tt

  first_alone : (ms : List Meaning) → AllByRecursion MeaningLeaves ms →
      AllByRecursion MeaningLeaves (take 1 ms)
  first_alone [] all = tt
  first_alone (x ∷ ms) all = (all.0, tt)

  vector_leaves : (ms : List Meaning) → ((kids : List Rtx) → is_leaf_as (role_of c) kids ≡ true) →
      AllByRecursion MeaningLeaves ms → OnOk PatternLeaves (parallel_by c m ms)
  vector_leaves [] role' all = tt
  vector_leaves (v ∷ []) role' all = node_leaves c m v.vector role' all.0.1
  vector_leaves (v ∷ w ∷ ms) role' all = tt

  operator_leaves : (ts : List Tree) (ms : List Meaning) →
      ((kids : List Rtx) → is_leaf_as (role_of c) kids ≡ true) →
      AllByRecursion MeaningLeaves ms → OnOk PatternLeaves (operator_by c m ts ms)
  operator_leaves [] ms role' all = tt
  operator_leaves (n ∷ []) ms role' all = tt
  operator_leaves (n ∷ p ∷ []) ms role' all = tt
  operator_leaves (n ∷ p ∷ v ∷ w ∷ ts) ms role' all = tt
  operator_leaves (n ∷ p ∷ v ∷ []) [] role' all = tt
  operator_leaves (n ∷ p ∷ v ∷ []) (a ∷ []) role' all = tt
  operator_leaves (n ∷ p ∷ v ∷ []) (a ∷ b ∷ []) role' all = tt
  operator_leaves (n ∷ p ∷ v ∷ []) (a ∷ b ∷ d ∷ e ∷ ms) role' all = tt
  operator_leaves (n ∷ p ∷ v ∷ []) (a ∷ b ∷ d ∷ []) role' all =
      operand_leaves c m (predicated n p) d.vector (any_role c d.vector role') all.1.1.0.1

  operator_dup_leaves : (ts : List Tree) (ms : List Meaning) →
      ((kids : List Rtx) → is_leaf_as (role_of c) kids ≡ true) →
      AllByRecursion MeaningLeaves ms → OnOk PatternLeaves (operator_dup_by c m ts ms)
  operator_dup_leaves [] ms role' all = tt
  operator_dup_leaves (n ∷ []) ms role' all = tt
  operator_dup_leaves (n ∷ v ∷ w ∷ ts) ms role' all = tt
  operator_dup_leaves (n ∷ v ∷ []) [] role' all = tt
  operator_dup_leaves (n ∷ v ∷ []) (a ∷ []) role' all = tt
  operator_dup_leaves (n ∷ v ∷ []) (a ∷ d ∷ e ∷ ms) role' all = tt
  operator_dup_leaves (n ∷ v ∷ []) (a ∷ d ∷ []) role' all =
      operand_leaves c m (numbered n) d.vector (any_role c d.vector role') all.1.0.1

  single : (o : Option Operand) → OnOk PatternLeaves (operand_by c m o (Ok no_patterns))
  single o = operand_leaves c m o (Ok no_patterns) (no_parts (role_of c)) refl

  module _ (constants : List Constant) where
    register_leaves : (o : Option (List ℕ)) → OnOk PatternLeaves (register_by constants m o)
    register_leaves None = tt
    register_leaves (Some text) =
        bare_leaves reg_of (λ mode r. alone (record {
          code = code.Reg;
          mode = mode;
          number = pos r;
          name = [];
        })) m
        (or_aside reason.Code (register_of constants text))

    behind_leaves : (p : Parts) → parts_of (class_of_code c) ≡ p →
        (ts : List Tree) (ms : List Meaning) →
        AllByRecursion MeaningLeaves ms → OnOk PatternLeaves (behind constants c m p ts ms)
    behind_leaves parts.Register is ts ms all = register_leaves (word_in ts)
    behind_leaves parts.Number is ts ms all = bare_leaves (λ mode n. const_of n) (λ mode n. alone _)
        m _
    behind_leaves parts.Symbol is ts ms all = bare_leaves
        (λ mode name. named_of code.SymbolRef mode name) (λ mode name. alone _) m _
    behind_leaves parts.Lowpart is ts ms all =
        node_by_leaves (is_lowpart ts) (take 1 ms) (made_role c (ap has_parts is))
        (first_alone ms all)
    behind_leaves (parts.Expressions n) is ts ms all =
        node_by_leaves (length ts == n) ms (made_role c (ap has_parts is)) all
    behind_leaves parts.Vector is ts ms all = vector_leaves ms (made_role c (ap has_parts is)) all
    behind_leaves parts.Operand is ts ms all = single (operand_in ts)
    behind_leaves parts.Scratch is ts ms all = single (scratch_in ts)
    behind_leaves parts.Dup is ts ms all = single (dup_in ts)
    behind_leaves parts.Operator is ts ms all = operator_leaves ts ms
        (made_role c (ap has_parts is)) all
    behind_leaves parts.OperatorDup is ts ms all =
        operator_dup_leaves ts ms (made_role c (ap has_parts is)) all

-- ---- a tree

module _ (constants : List Constant) where
  code_leaves : (o : Option Code) (m : Option Mode) (ts : List Tree) (ms : List Meaning) →
      AllByRecursion MeaningLeaves ms → OnOk PatternLeaves (of_code constants o m ts ms)
  code_leaves None m ts ms all = tt
  code_leaves (Some c) m ts ms all =
      behind_leaves c (mode_for c m) constants (parts_of (class_of_code c)) refl ts ms all

  head_leaves : (o : Option (List ℕ)) (ts : List Tree) (ms : List Meaning) →
      AllByRecursion MeaningLeaves ms → OnOk PatternLeaves (of_head constants o ts ms)
  head_leaves None ts ms all = tt
  head_leaves (Some text) ts ms all = code_leaves (code_of_head text) (mode_of_head text) ts ms all

  list_leaves : (ts : List Tree) (ms : List Meaning) → AllByRecursion MeaningLeaves ms →
      OnOk PatternLeaves (list_by constants ts ms)
  list_leaves [] ms all = tt
  list_leaves (h ∷ ts) [] all = tt
  list_leaves (h ∷ ts) (x ∷ ms) all = head_leaves (atom_of h) ts ms all.1

  abbrev TreeLeaves : Tree → Type 0
  TreeLeaves t = MeaningLeaves (meaning_of constants t)

  meanings : (ts : List Tree) → AllByRecursion TreeLeaves ts →
      AllByRecursion MeaningLeaves (map (meaning_of constants) ts)
  meanings [] all = tt
  meanings (t ∷ ts) all = (all.0, meanings ts all.1)

  in_vector : (b : Bool) (ms : List Meaning) → AllByRecursion MeaningLeaves ms →
      OnOk PatternsLeaves (if b then each ms else Err reason.Parts)
  in_vector true ms all = each_leaves ms all
  in_vector false ms all = tt

  tree_leaves : (t : Tree) → AllByRecursion TreeLeaves (items_of t) →
      AllByRecursion TreeLeaves (vector_of t) →
      TreeLeaves t
  tree_leaves t items vector = (
    subst (OnOk PatternLeaves) (sym (pattern_out constants t))
        (list_leaves (items_of t) (map (meaning_of constants) (items_of t))
        (meanings (items_of t) items)),
    subst (OnOk PatternsLeaves) (sym (vector_out constants t))
        (in_vector (is_vector t) (map (meaning_of constants) (vector_of t))
        (meanings (vector_of t) vector)),
  )

  abbrev With : Type 0
  With = (t : Tree) × TreeLeaves t

  all_of : (ys : List With) → AllByRecursion TreeLeaves (map (λ (y : With). y.0) ys)
  all_of [] = tt
  all_of (y ∷ ys) = (y.1, all_of ys)

  in_items : (y : Tree-F With) → AllByRecursion TreeLeaves
      (items_at (map-Tree With Tree (λ e. e.0) y))
  in_items (Tree-F.Atom p t) = tt
  in_items (Tree-F.Str p t) = tt
  in_items (Tree-F.Block p t) = tt
  in_items (Tree-F.List p ys) = all_of ys
  in_items (Tree-F.Vector p ys) = tt

  in_vectors : (y : Tree-F With) → AllByRecursion TreeLeaves
      (vector_at (map-Tree With Tree (λ e. e.0) y))
  in_vectors (Tree-F.Atom p t) = tt
  in_vectors (Tree-F.Str p t) = tt
  in_vectors (Tree-F.Block p t) = tt
  in_vectors (Tree-F.List p ys) = tt
  in_vectors (Tree-F.Vector p ys) = all_of ys

  layer : (y : Tree-F With) → TreeLeaves (roll-Tree (map-Tree With Tree (λ e. e.0) y))
  layer y = let x = map-Tree With Tree (λ e. e.0) y in
      tree_leaves (roll-Tree x)
      (subst (λ (o : Tree-F Tree). AllByRecursion TreeLeaves (items_at o)) (sym (out-roll-Tree x))
      (in_items y))
      (subst (λ (o : Tree-F Tree). AllByRecursion TreeLeaves (vector_at o)) (sym (out-roll-Tree x))
      (in_vectors y))

  every_tree : (t : Tree) → TreeLeaves t
  every_tree = ind-Tree TreeLeaves (λ x y e. subst (λ (z : Tree-F Tree). TreeLeaves (roll-Tree z)) e
      (layer y))

  -- the patterns in a vector
  pub patterns_leaves : (t : Tree) → OnOk PatternsLeaves (patterns_of constants t)
  patterns_leaves t = (every_tree t).1

-- Patterns that lead elsewhere: branches, jumps and calls.
use Rattle.std.proofs.Common.{◌≡◌, ℕ, pos, Bool, true, false, ◌&&◌, List, [], ◌∷◌, Option, Some, None, refl, sym, ap, ◌∙◌}
use Rattle.std.specs.Prelude.{option_map, option_and_then, if◌then◌else◌}
use Rattle.std.specs.Option.{option_map_or}
use Rattle.rtx_tree.specs.declared.code.Code.TheVariants as code
use Rattle.rtx_tree.specs.declared.code.Mode.{Mode}
use Rattle.rtx_tree.specs.declared.code.Mode.TheVariants.{Void, SI}
use Rattle.rtx_tree.specs.declared.tree.Rtx.{Rtx}
use Rattle.rtx_tree.specs.Operands.{operand_at}
use Rattle.rtx_tree.specs.Patterns.{set_rtx}
use Rattle.rtx_tree.specs.Tree.{head_of, tree_of, leaf_of, node_of}
use Rattle.c_cond.specs.declared.tree.Tree.{Tree}
use Rattle.c_eval.specs.declared.facts.Facts.{Facts}
use Rattle.md_match.specs.Pattern.{Ops, all_some, operand_numbered}
use Rattle.md_recog.specs.Match.{Accepts, IsMatch, names_predicate, is_accepted}
use Rattle.rtx_open.proofs.Expressions.{Written, node, none, with, rtx, outside_is}
use Rattle.law_plain_matches.proofs.Patterns.{operand, made_is, all_asked, first_of, rest_of}
use Rattle.law_plain_matches.proofs.Sets.{Stands, stands_at, set_of, some_same}

-- ---- patterns

abbrev pub pc : Written
pc = node code.Pc Void (pos 0) [] none

-- (label_ref (match_operand K ""))
abbrev pub label : ℕ → Written
label k = node code.LabelRef Void (pos 0) [] (with (operand [] k Void) none)

abbrev pub label_of : Rtx → Rtx
label_of x = node_of code.LabelRef Void (x ∷ [])

-- (call (mem:SI (match_operand K P)) (match_operand J ""))
abbrev pub call : ℕ → List ℕ → Mode → ℕ → Written
call k p m j = node code.Call Void (pos 0) [] (with (node code.Mem SI (pos 0) [] (with (operand p k m) none)) (with (operand [] j Void) none))

abbrev pub call_of : Rtx → Rtx → Rtx
call_of at size = node_of code.Call Void (node_of code.Mem SI (at ∷ []) ∷ size ∷ [])

module _ (accepts : Accepts) (facts : Facts) (condition : Tree) (insn : Rtx) (operands : Ops) where
  abbrev Matched : Written → Type 0
  Matched pattern = IsMatch accepts facts (rtx pattern ∷ []) condition (insn ∷ []) operands

  abbrev is_taken : Rtx → Bool
  is_taken x = is_accepted accepts operands x

  abbrev at : ℕ → Option Rtx
  at k = operand_at operands k

  -- ---- (set (pc) (label_ref (match_operand 0 "")))

  pub record Jumps : Type 0 where
    pub label : Stands accepts operands [] 0 Void
    pub is : insn ≡ set_rtx (leaf_of code.Pc Void (pos 0)) (label_of label.tree)

  jumps_there : (o : Option Rtx) → option_map (λ xs. node_of code.Set Void xs) (all_some (Some (leaf_of code.Pc Void (pos 0)) ∷ option_map (λ xs. node_of code.LabelRef Void xs) (all_some (o ∷ [])) ∷ [])) ≡ Some insn →
      (x : Rtx) × (o ≡ Some x) × (insn ≡ set_rtx (leaf_of code.Pc Void (pos 0)) (label_of x))
  jumps_there None is = cc
  jumps_there (Some x) is = (x, refl, sym (some_same (set_rtx (leaf_of code.Pc Void (pos 0)) (label_of x)) insn is))

  pub jumps : Matched (set_of pc (label 0)) → Jumps
  jumps matched =
      let pattern = set_of pc (label 0) in
      let there = jumps_there (at 0) (made_is accepts facts pattern condition insn operands matched) in
      record {
        label = stands_at accepts operands [] 0 Void there.0 there.1 (first_of (is_taken (rtx (operand [] 0 Void))) true (all_asked accepts facts pattern condition insn operands matched));
        is = there.2;
      }

  -- ---- (call (mem:SI (match_operand:M 0 P)) (match_operand 1 ""))

  pub record Calls (p : List ℕ) (m : Mode) : Type 0 where
    pub target : Stands accepts operands p 0 m
    pub size : Stands accepts operands [] 1 Void
    pub is : insn ≡ call_of target.tree size.tree

  abbrev call_made : Option Rtx → Option Rtx → Option Rtx
  call_made o u = option_map (λ xs. node_of code.Call Void xs) (all_some (option_map (λ xs. node_of code.Mem SI xs) (all_some (o ∷ [])) ∷ u ∷ []))

  calls_there : (o u : Option Rtx) (y : Rtx) → call_made o u ≡ Some y → (x : Rtx) × (z : Rtx) × (o ≡ Some x) × (u ≡ Some z) × (y ≡ call_of x z)
  calls_there None u y is = cc
  calls_there (Some x) None y is = cc
  calls_there (Some x) (Some z) y is = (x, z, refl, refl, sym (some_same (call_of x z) y is))

  pub calls : (p : List ℕ) (m : Mode) → Matched (call 0 p m 1) → Calls p m
  calls p m matched =
      let pattern = call 0 p m 1 in
      let there = calls_there (at 0) (at 1) insn (made_is accepts facts pattern condition insn operands matched) in
      let all = all_asked accepts facts pattern condition insn operands matched in
      let target = rtx (operand p 0 m) in
      let size = rtx (operand [] 1 Void) in
      record {
        target = stands_at accepts operands p 0 m there.0 there.2 (first_of (is_taken target) (is_taken size && true) all);
        size = stands_at accepts operands [] 1 Void there.1 there.3 (first_of (is_taken size) true (rest_of (is_taken target) (is_taken size && true) all));
        is = there.4;
      }

  -- ---- (set (match_operand:N 0 Q) (call (mem:SI (match_operand:M 1 P)) (match_operand 2 "")))

  pub record CallsFor (q : List ℕ) (n : Mode) (p : List ℕ) (m : Mode) : Type 0 where
    pub result : Stands accepts operands q 0 n
    pub target : Stands accepts operands p 1 m
    pub size : Stands accepts operands [] 2 Void
    pub is : insn ≡ set_rtx result.tree (call_of target.tree size.tree)

  calls_for_there : (r c : Option Rtx) → option_map (λ xs. node_of code.Set Void xs) (all_some (r ∷ c ∷ [])) ≡ Some insn → (x : Rtx) × (y : Rtx) × (r ≡ Some x) × (c ≡ Some y) × (insn ≡ set_rtx x y)
  calls_for_there None c is = cc
  calls_for_there (Some x) None is = cc
  calls_for_there (Some x) (Some y) is = (x, y, refl, refl, sym (some_same (set_rtx x y) insn is))

  pub calls_for : (q : List ℕ) (n : Mode) (p : List ℕ) (m : Mode) → Matched (set_of (operand q 0 n) (call 1 p m 2)) → CallsFor q n p m
  calls_for q n p m matched =
      let pattern = set_of (operand q 0 n) (call 1 p m 2) in
      let whole = calls_for_there (at 0) (call_made (at 1) (at 2)) (made_is accepts facts pattern condition insn operands matched) in
      let inner = calls_there (at 1) (at 2) whole.1 whole.3 in
      let all = all_asked accepts facts pattern condition insn operands matched in
      let result = rtx (operand q 0 n) in
      let target = rtx (operand p 1 m) in
      let size = rtx (operand [] 2 Void) in
      let more = rest_of (is_taken result) (is_taken target && (is_taken size && true)) all in
      record {
        result = stands_at accepts operands q 0 n whole.0 whole.2 (first_of (is_taken result) (is_taken target && (is_taken size && true)) all);
        target = stands_at accepts operands p 1 m inner.0 inner.2 (first_of (is_taken target) (is_taken size && true) more);
        size = stands_at accepts operands [] 2 Void inner.1 inner.3 (first_of (is_taken size) true (rest_of (is_taken target) (is_taken size && true) more));
        is = whole.4 ∙ ap (set_rtx whole.0) inner.4;
      }

  -- ---- (set (pc) (if_then_else (match_operator 0 P [(match_operand:M 1 Q) (match_operand:N 2 R)]) (label_ref (match_operand 3 "")) (pc)))

  abbrev pub tests : List ℕ → List ℕ → Mode → List ℕ → Mode → Written
  tests p q m r n = node code.MatchOperator Void (pos 0) p (with (operand q 1 m) (with (operand r 2 n) none))

  abbrev pub branch : List ℕ → List ℕ → Mode → List ℕ → Mode → Written
  branch p q m r n = set_of pc (node code.IfThenElse Void (pos 0) [] (with (tests p q m r n) (with (label 3) (with pc none))))

  abbrev pub branch_of : Rtx → Rtx → Rtx → Rtx → Rtx
  branch_of test left right label =
      set_rtx (leaf_of code.Pc Void (pos 0)) (node_of code.IfThenElse Void (tree_of (head_of test) (left ∷ right ∷ []) ∷ label_of label ∷ leaf_of code.Pc Void (pos 0) ∷ []))

  pub record Branches (p q : List ℕ) (m : Mode) (r : List ℕ) (n : Mode) : Type 0 where
    pub test : Stands accepts operands p 0 Void
    pub left : Stands accepts operands q 1 m
    pub right : Stands accepts operands r 2 n
    pub label : Stands accepts operands [] 3 Void
    pub is : insn ≡ branch_of test.tree left.tree right.tree label.tree

  abbrev branch_made : Option Rtx → Option Rtx → Option Rtx → Option Rtx → Option Rtx
  branch_made t a b u =
      let end = leaf_of code.Pc Void (pos 0) in
      option_map (λ xs. node_of code.Set Void xs) (all_some (Some end ∷ option_map (λ xs. node_of code.IfThenElse Void xs)
      (all_some (option_and_then (λ x. option_map (tree_of (head_of x)) (all_some (a ∷ b ∷ []))) t ∷ option_map (λ xs. node_of code.LabelRef Void xs) (all_some (u ∷ [])) ∷ Some end ∷ [])) ∷ []))

  -- the four operands are there
  pub record Four (t a b u : Option Rtx) : Type 0 where
    pub test : Rtx
    pub left : Rtx
    pub right : Rtx
    pub label : Rtx
    pub test_at : t ≡ Some test
    pub left_at : a ≡ Some left
    pub right_at : b ≡ Some right
    pub label_at : u ≡ Some label
    pub is : insn ≡ branch_of test left right label

  branch_there : (t a b u : Option Rtx) → branch_made t a b u ≡ Some insn → Four t a b u
  branch_there None a b u is = cc
  branch_there (Some t) None b u is = cc
  branch_there (Some t) (Some a) None u is = cc
  branch_there (Some t) (Some a) (Some b) None is = cc
  branch_there (Some t) (Some a) (Some b) (Some u) is = record {
    test = t;
    left = a;
    right = b;
    label = u;
    test_at = refl;
    left_at = refl;
    right_at = refl;
    label_at = refl;
    is = sym (some_same (branch_of t a b u) insn is);
  }

  -- an operator that is there
  operator_is : (p q : List ℕ) (m : Mode) (r : List ℕ) (n : Mode) (x : Rtx) → at 0 ≡ Some x → is_taken (rtx (tests p q m r n)) ≡ accepts p x Void
  operator_is p q m r n x there =
      ap (λ o. if names_predicate o.code then option_map_or (λ x. accepts o.name x o.mode) (operand_numbered operands o.number) false else true) (outside_is (tests p q m r n)) ∙
      ap (λ o. option_map_or (λ x. accepts p x Void) o false) there

  pub branches : (p q : List ℕ) (m : Mode) (r : List ℕ) (n : Mode) → Matched (branch p q m r n) → Branches p q m r n
  branches p q m r n matched =
      let pattern = branch p q m r n in
      let four = branch_there (at 0) (at 1) (at 2) (at 3) (made_is accepts facts pattern condition insn operands matched) in
      let all = all_asked accepts facts pattern condition insn operands matched in
      let test = rtx (tests p q m r n) in
      let left = rtx (operand q 1 m) in
      let right = rtx (operand r 2 n) in
      let label = rtx (operand [] 3 Void) in
      let one = rest_of (is_taken test) (is_taken left && (is_taken right && (is_taken label && true))) all in
      let two = rest_of (is_taken left) (is_taken right && (is_taken label && true)) one in
      let three = rest_of (is_taken right) (is_taken label && true) two in
      record {
        test = record { tree = four.test; at = four.test_at; accepted = sym (operator_is p q m r n four.test four.test_at) ∙ first_of (is_taken test) (is_taken left && (is_taken right && (is_taken label && true))) all };
        left = stands_at accepts operands q 1 m four.left four.left_at (first_of (is_taken left) (is_taken right && (is_taken label && true)) one);
        right = stands_at accepts operands r 2 n four.right four.right_at (first_of (is_taken right) (is_taken label && true) two);
        label = stands_at accepts operands [] 3 Void four.label four.label_at (first_of (is_taken label) true three);
        is = four.is;
      }

-- Patterns that set an operand.
use Rattle.std.proofs.Common.{◌≡◌, ℕ, pos, Bool, true, ◌&&◌, List, [], ◌∷◌, ◌++◌, Option, Some, None, refl, sym, ap, ◌∙◌}
use Rattle.std.specs.Prelude.{option_map}
use Rattle.std.specs.List.{list_all}
use Rattle.rtx_tree.specs.declared.code.Code.{Code}
use Rattle.rtx_tree.specs.declared.code.Code.TheVariants as code
use Rattle.rtx_tree.specs.declared.code.Mode.{Mode}
use Rattle.rtx_tree.specs.declared.code.Mode.TheVariants.{Void, DI}
use Rattle.rtx_tree.specs.declared.tree.Rtx.{Rtx}
use Rattle.rtx_tree.specs.Operands.{operand_at}
use Rattle.rtx_tree.specs.Patterns.{set_rtx}
use Rattle.rtx_tree.specs.Tree.{node_of, const_of}
use Rattle.c_cond.specs.declared.tree.Tree.{Tree}
use Rattle.c_eval.specs.declared.facts.Facts.{Facts}
use Rattle.md_match.specs.Pattern.{Ops, role_of, all_some, instantiated_as, placeholders_as}
use Rattle.md_match.specs.declared.role.Role.TheVariants.{Itself}
use Rattle.md_recog.specs.Match.{Accepts, IsMatch, is_accepted}
use Rattle.rtx_open.proofs.Expressions.{Written, node, none, with, rtx}
use Rattle.law_plain_matches.proofs.Patterns.{operand, filled, made_is, asked, all_asked, accepted_is, first_of, rest_of}

-- (set PLACE SOURCE)
abbrev pub set_of : Written → Written → Written
set_of place source = node code.Set Void (pos 0) [] (with place (with source none))

-- an operand that is there, and is accepted
pub record Stands (accepts : Accepts) (operands : Ops) (name : List ℕ) (k : ℕ) (m : Mode) : Type 0 where
  pub tree : Rtx
  pub at : operand_at operands k ≡ Some tree
  pub accepted : accepts name tree m ≡ true

-- ---- what is made is made of operands that are there

-- an operation of one part and of two, where they are there
abbrev of_one : Code → Mode → Option Rtx → Option Rtx
of_one c m o = option_map (λ xs. node_of c m xs) (all_some (o ∷ []))

abbrev of_two : Code → Mode → Option Rtx → Option Rtx → Option Rtx
of_two c m o p = option_map (λ xs. node_of c m xs) (all_some (o ∷ p ∷ []))

pub some_same : (a b : Rtx) → Some a ≡ Some b → a ≡ b
some_same a b is = cc

one_there : (c : Code) (m : Mode) (o : Option Rtx) (x : Rtx) → of_one c m o ≡ Some x → (y : Rtx) × (o ≡ Some y) × (x ≡ node_of c m (y ∷ []))
one_there c m None x is = cc
one_there c m (Some y) x is = (y, refl, sym (some_same (node_of c m (y ∷ [])) x is))

two_there : (c : Code) (m : Mode) (o p : Option Rtx) (x : Rtx) → of_two c m o p ≡ Some x → (y : Rtx) × (z : Rtx) × (o ≡ Some y) × (p ≡ Some z) × (x ≡ node_of c m (y ∷ z ∷ []))
two_there c m None p x is = cc
two_there c m (Some y) None x is = cc
two_there c m (Some y) (Some z) x is = (y, z, refl, refl, sym (some_same (node_of c m (y ∷ z ∷ [])) x is))

abbrev pub stands_at : (accepts : Accepts) (operands : Ops) (name : List ℕ) (k : ℕ) (m : Mode) (x : Rtx) → operand_at operands k ≡ Some x → is_accepted accepts operands (rtx (operand name k m)) ≡ true →
    Stands accepts operands name k m
stands_at accepts operands name k m x at is = record { tree = x; at = at; accepted = sym (accepted_is accepts operands name k m x at) ∙ is }

module _ (accepts : Accepts) (facts : Facts) (condition : Tree) (insn : Rtx) (operands : Ops) (p : List ℕ) (m : Mode) where
  -- what a pattern matches
  abbrev Matched : Written → Type 0
  Matched pattern = IsMatch accepts facts (rtx pattern ∷ []) condition (insn ∷ []) operands

  accepts_each : (pattern : Written) (ps : List Rtx) → asked pattern ≡ ps → Matched pattern → list_all (is_accepted accepts operands) ps ≡ true
  accepts_each pattern ps is matched = ap (list_all (is_accepted accepts operands)) (sym is) ∙ all_asked accepts facts pattern condition insn operands matched

  abbrev is_taken : Rtx → Bool
  is_taken x = is_accepted accepts operands x

  abbrev result : Rtx
  result = rtx (operand p 0 m)

  -- ---- (set (match_operand 0) (match_operand 1))

  abbrev pub copy : List ℕ → Mode → Written
  copy q n = set_of (operand p 0 m) (operand q 1 n)

  pub record SetsOperand (q : List ℕ) (n : Mode) : Type 0 where
    pub place : Stands accepts operands p 0 m
    pub source : Stands accepts operands q 1 n
    pub is : insn ≡ set_rtx place.tree source.tree

  pub sets_operand : (q : List ℕ) (n : Mode) → Matched (copy q n) → SetsOperand q n
  sets_operand q n matched =
      let there = two_there code.Set Void (operand_at operands 0) (operand_at operands 1) insn (made_is accepts facts (copy q n) condition insn operands matched) in
      let source = rtx (operand q 1 n) in
      let all = accepts_each (copy q n) (result ∷ source ∷ []) refl matched in
      record {
        place = stands_at accepts operands p 0 m there.0 there.2 (first_of (is_taken result) (is_taken source && true) all);
        source = stands_at accepts operands q 1 n there.1 there.3 (first_of (is_taken source) true (rest_of (is_taken result) (is_taken source && true) all));
        is = there.4;
      }

  -- ---- (set (match_operand 0) (CODE:MODE (match_operand 1)))

  abbrev pub unary : Code → Mode → List ℕ → Mode → Written
  unary c k q n = set_of (operand p 0 m) (node c k (pos 0) [] (with (operand q 1 n) none))

  pub record SetsOne (c : Code) (k : Mode) (q : List ℕ) (n : Mode) : Type 0 where
    pub place : Stands accepts operands p 0 m
    pub source : Stands accepts operands q 1 n
    pub is : insn ≡ set_rtx place.tree (node_of c k (source.tree ∷ []))

  filled_one : (c : Code) (k : Mode) (q : List ℕ) (n : Mode) → role_of c ≡ Itself → filled operands (unary c k q n) ≡ of_two code.Set Void (operand_at operands 0) (of_one c k (operand_at operands 1))
  filled_one c k q n role =
      ap (λ r. of_two code.Set Void (operand_at operands 0) (instantiated_as r operands (record { code = c; mode = k; number = pos 0; name = [] }) (all_some (operand_at operands 1 ∷ [])))) role

  asked_one : (c : Code) (k : Mode) (q : List ℕ) (n : Mode) → role_of c ≡ Itself → asked (unary c k q n) ≡ result ∷ rtx (operand q 1 n) ∷ []
  asked_one c k q n role = let source = rtx (operand q 1 n) in ap (λ r. result ∷ (placeholders_as r (node_of c k (source ∷ [])) (source ∷ []) ++ [])) role

  pub sets_one : (c : Code) (k : Mode) (q : List ℕ) (n : Mode) → role_of c ≡ Itself → Matched (unary c k q n) → SetsOne c k q n
  sets_one c k q n role matched =
      let whole = two_there code.Set Void (operand_at operands 0) (of_one c k (operand_at operands 1)) insn (sym (filled_one c k q n role) ∙ made_is accepts facts (unary c k q n) condition insn operands matched) in
      let inner = one_there c k (operand_at operands 1) whole.1 whole.3 in
      let source = rtx (operand q 1 n) in
      let all = accepts_each (unary c k q n) (result ∷ source ∷ []) (asked_one c k q n role) matched in
      record {
        place = stands_at accepts operands p 0 m whole.0 whole.2 (first_of (is_taken result) (is_taken source && true) all);
        source = stands_at accepts operands q 1 n inner.0 inner.1 (first_of (is_taken source) true (rest_of (is_taken result) (is_taken source && true) all));
        is = whole.4 ∙ ap (set_rtx whole.0) inner.2;
      }

  -- ---- (set (match_operand 0) (CODE:MODE (match_operand 1) (match_operand 2)))

  abbrev pub binary : Code → Mode → List ℕ → Mode → List ℕ → Mode → Written
  binary c k q n r o = set_of (operand p 0 m) (node c k (pos 0) [] (with (operand q 1 n) (with (operand r 2 o) none)))

  pub record SetsTwo (c : Code) (k : Mode) (q : List ℕ) (n : Mode) (r : List ℕ) (o : Mode) : Type 0 where
    pub place : Stands accepts operands p 0 m
    pub left : Stands accepts operands q 1 n
    pub right : Stands accepts operands r 2 o
    pub is : insn ≡ set_rtx place.tree (node_of c k (left.tree ∷ right.tree ∷ []))

  filled_two : (c : Code) (k : Mode) (q : List ℕ) (n : Mode) (r : List ℕ) (o : Mode) → role_of c ≡ Itself →
      filled operands (binary c k q n r o) ≡ of_two code.Set Void (operand_at operands 0) (of_two c k (operand_at operands 1) (operand_at operands 2))
  filled_two c k q n r o role =
      ap (λ x. of_two code.Set Void (operand_at operands 0) (instantiated_as x operands (record { code = c; mode = k; number = pos 0; name = [] }) (all_some (operand_at operands 1 ∷ operand_at operands 2 ∷ [])))) role

  asked_two : (c : Code) (k : Mode) (q : List ℕ) (n : Mode) (r : List ℕ) (o : Mode) → role_of c ≡ Itself → asked (binary c k q n r o) ≡ result ∷ rtx (operand q 1 n) ∷ rtx (operand r 2 o) ∷ []
  asked_two c k q n r o role =
      let left = rtx (operand q 1 n) in
      let right = rtx (operand r 2 o) in
      ap (λ x. result ∷ (placeholders_as x (node_of c k (left ∷ right ∷ [])) (left ∷ right ∷ []) ++ [])) role

  pub sets_two : (c : Code) (k : Mode) (q : List ℕ) (n : Mode) (r : List ℕ) (o : Mode) → role_of c ≡ Itself → Matched (binary c k q n r o) → SetsTwo c k q n r o
  sets_two c k q n r o role matched =
      let whole = two_there code.Set Void (operand_at operands 0) (of_two c k (operand_at operands 1) (operand_at operands 2)) insn (sym (filled_two c k q n r o role) ∙ made_is accepts facts (binary c k q n r o) condition insn operands matched) in
      let inner = two_there c k (operand_at operands 1) (operand_at operands 2) whole.1 whole.3 in
      let left = rtx (operand q 1 n) in
      let right = rtx (operand r 2 o) in
      let all = accepts_each (binary c k q n r o) (result ∷ left ∷ right ∷ []) (asked_two c k q n r o role) matched in
      let more = rest_of (is_taken result) (is_taken left && (is_taken right && true)) all in
      record {
        place = stands_at accepts operands p 0 m whole.0 whole.2 (first_of (is_taken result) (is_taken left && (is_taken right && true)) all);
        left = stands_at accepts operands q 1 n inner.0 inner.2 (first_of (is_taken left) (is_taken right && true) more);
        right = stands_at accepts operands r 2 o inner.1 inner.3 (first_of (is_taken right) true (rest_of (is_taken left) (is_taken right && true) more));
        is = whole.4 ∙ ap (set_rtx whole.0) inner.4;
      }

  -- ---- (set (match_operand 0) (sign_extend:DI (CODE:MODE (match_operand 1) (match_operand 2))))

  abbrev pub extended : Code → Mode → List ℕ → Mode → List ℕ → Mode → Written
  extended c k q n r o = set_of (operand p 0 m) (node code.SignExtend DI (pos 0) [] (with (node c k (pos 0) [] (with (operand q 1 n) (with (operand r 2 o) none))) none))

  pub record SetsExtended (c : Code) (k : Mode) (q : List ℕ) (n : Mode) (r : List ℕ) (o : Mode) : Type 0 where
    pub place : Stands accepts operands p 0 m
    pub left : Stands accepts operands q 1 n
    pub right : Stands accepts operands r 2 o
    pub is : insn ≡ set_rtx place.tree (node_of code.SignExtend DI (node_of c k (left.tree ∷ right.tree ∷ []) ∷ []))

  filled_extended : (c : Code) (k : Mode) (q : List ℕ) (n : Mode) (r : List ℕ) (o : Mode) → role_of c ≡ Itself →
      filled operands (extended c k q n r o) ≡ of_two code.Set Void (operand_at operands 0) (of_one code.SignExtend DI (of_two c k (operand_at operands 1) (operand_at operands 2)))
  filled_extended c k q n r o role =
      ap (λ x. of_two code.Set Void (operand_at operands 0) (of_one code.SignExtend DI (instantiated_as x operands (record { code = c; mode = k; number = pos 0; name = [] }) (all_some (operand_at operands 1 ∷ operand_at operands 2 ∷ []))))) role

  asked_extended : (c : Code) (k : Mode) (q : List ℕ) (n : Mode) (r : List ℕ) (o : Mode) → role_of c ≡ Itself → asked (extended c k q n r o) ≡ result ∷ rtx (operand q 1 n) ∷ rtx (operand r 2 o) ∷ []
  asked_extended c k q n r o role =
      let left = rtx (operand q 1 n) in
      let right = rtx (operand r 2 o) in
      ap (λ x. result ∷ ((placeholders_as x (node_of c k (left ∷ right ∷ [])) (left ∷ right ∷ []) ++ []) ++ [])) role

  pub sets_extended : (c : Code) (k : Mode) (q : List ℕ) (n : Mode) (r : List ℕ) (o : Mode) → role_of c ≡ Itself → Matched (extended c k q n r o) → SetsExtended c k q n r o
  sets_extended c k q n r o role matched =
      let whole = two_there code.Set Void (operand_at operands 0) (of_one code.SignExtend DI (of_two c k (operand_at operands 1) (operand_at operands 2))) insn (sym (filled_extended c k q n r o role) ∙ made_is accepts facts (extended c k q n r o) condition insn operands matched) in
      let outer = one_there code.SignExtend DI (of_two c k (operand_at operands 1) (operand_at operands 2)) whole.1 whole.3 in
      let inner = two_there c k (operand_at operands 1) (operand_at operands 2) outer.0 outer.1 in
      let left = rtx (operand q 1 n) in
      let right = rtx (operand r 2 o) in
      let all = accepts_each (extended c k q n r o) (result ∷ left ∷ right ∷ []) (asked_extended c k q n r o role) matched in
      let more = rest_of (is_taken result) (is_taken left && (is_taken right && true)) all in
      record {
        place = stands_at accepts operands p 0 m whole.0 whole.2 (first_of (is_taken result) (is_taken left && (is_taken right && true)) all);
        left = stands_at accepts operands q 1 n inner.0 inner.2 (first_of (is_taken left) (is_taken right && true) more);
        right = stands_at accepts operands r 2 o inner.1 inner.3 (first_of (is_taken right) true (rest_of (is_taken left) (is_taken right && true) more));
        is = whole.4 ∙ (ap (set_rtx whole.0) outer.2 ∙ ap (λ x. set_rtx whole.0 (node_of code.SignExtend DI (x ∷ []))) inner.4);
      }

  -- ---- (set (match_operand 0) (CODE:MODE (match_operand 1) (const_int 0)))

  abbrev pub with_zero : Code → Mode → List ℕ → Mode → Written
  with_zero c k q n = set_of (operand p 0 m) (node c k (pos 0) [] (with (operand q 1 n) (with (node code.ConstInt Void (pos 0) [] none) none)))

  pub record SetsWithZero (c : Code) (k : Mode) (q : List ℕ) (n : Mode) : Type 0 where
    pub place : Stands accepts operands p 0 m
    pub left : Stands accepts operands q 1 n
    pub is : insn ≡ set_rtx place.tree (node_of c k (left.tree ∷ const_of (pos 0) ∷ []))

  filled_with_zero : (c : Code) (k : Mode) (q : List ℕ) (n : Mode) → role_of c ≡ Itself →
      filled operands (with_zero c k q n) ≡ of_two code.Set Void (operand_at operands 0) (of_two c k (operand_at operands 1) (Some (const_of (pos 0))))
  filled_with_zero c k q n role =
      ap (λ x. of_two code.Set Void (operand_at operands 0) (instantiated_as x operands (record { code = c; mode = k; number = pos 0; name = [] }) (all_some (operand_at operands 1 ∷ Some (const_of (pos 0)) ∷ [])))) role

  asked_with_zero : (c : Code) (k : Mode) (q : List ℕ) (n : Mode) → role_of c ≡ Itself → asked (with_zero c k q n) ≡ result ∷ rtx (operand q 1 n) ∷ []
  asked_with_zero c k q n role =
      let left = rtx (operand q 1 n) in ap (λ x. result ∷ (placeholders_as x (node_of c k (left ∷ const_of (pos 0) ∷ [])) (left ∷ []) ++ [])) role

  pub sets_with_zero : (c : Code) (k : Mode) (q : List ℕ) (n : Mode) → role_of c ≡ Itself → Matched (with_zero c k q n) → SetsWithZero c k q n
  sets_with_zero c k q n role matched =
      let zero = const_of (pos 0) in
      let whole = two_there code.Set Void (operand_at operands 0) (of_two c k (operand_at operands 1) (Some zero)) insn (sym (filled_with_zero c k q n role) ∙ made_is accepts facts (with_zero c k q n) condition insn operands matched) in
      let inner = two_there c k (operand_at operands 1) (Some zero) whole.1 whole.3 in
      let left = rtx (operand q 1 n) in
      let all = accepts_each (with_zero c k q n) (result ∷ left ∷ []) (asked_with_zero c k q n role) matched in
      let same : zero ≡ inner.1 = some_same zero inner.1 inner.3 in
      record {
        place = stands_at accepts operands p 0 m whole.0 whole.2 (first_of (is_taken result) (is_taken left && true) all);
        left = stands_at accepts operands q 1 n inner.0 inner.2 (first_of (is_taken left) true (rest_of (is_taken result) (is_taken left && true) all));
        is = whole.4 ∙ (ap (set_rtx whole.0) inner.4 ∙ ap (λ z. set_rtx whole.0 (node_of c k (inner.0 ∷ z ∷ []))) (sym same));
      }

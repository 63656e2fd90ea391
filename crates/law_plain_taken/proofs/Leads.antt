-- What leads elsewhere is matched: a jump, a branch, calls and a return.
use Rattle.std.proofs.Common.{◌≡◌, ℕ, pos, Bool, true, false, ◌&&◌, List, [], ◌∷◌, Option, Some, None, refl, sym, ap, subst, ◌∙◌, arith}
use Rattle.std.specs.Prelude.{if◌then◌else◌}
use Rattle.std.specs.Option.{option_map_or}
use Rattle.rtx_tree.specs.declared.code.Code.TheVariants as code
use Rattle.rtx_tree.specs.declared.code.Mode.{Mode}
use Rattle.rtx_tree.specs.declared.code.Mode.TheVariants.{Void}
use Rattle.rtx_tree.specs.declared.tree.Rtx.{Rtx}
use Rattle.rtx_tree.specs.Patterns.{set_rtx, return_rtx}
use Rattle.rtx_tree.specs.Tree.{head_of, tree_of, leaf_of, node_of}
use Rattle.std.specs.Ordering.{int_eq}
use Rattle.c_cond.specs.declared.tree.Tree.{Tree}
use Rattle.c_eval.specs.declared.facts.Facts.{Facts}
use Rattle.md_match.specs.Pattern.{operand_numbered, gives, gives_number, instantiated}
use Rattle.md_match.specs.Match.{IsAsked, IsAskedAs}
use Rattle.md_recog.specs.Match.{Accepts, IsMatch, names_predicate, is_accepted, is_met}
use Rattle.rtx_open.proofs.Expressions.{Written, node, none, with, rtx, outside_is}
use Rattle.law_plain_matches.proofs.Patterns.{operand, filled_is}
use Rattle.law_plain_matches.proofs.Sets.{set_of}
use Rattle.law_plain_matches.proofs.Leads as patterns
use Rattle.law_plain_matches.proofs.Leads.{label_of, call_of}
use Rattle.law_plain_taken.proofs.Operands.{one, two, three, four, is_match, operand_asked, operand_gives, gives_one, gives_two, gives_three, gives_four, short_one, short_two, short_three, short_four}
use Rattle.law_plain_taken.proofs.Sets.{both_true, taken}

-- (match_operator 0 P [(match_operand:M 1 Q) (match_operand:N 2 R)]), and the branch on it
abbrev pub tests : List ℕ → List ℕ → Mode → List ℕ → Mode → Written
tests p q m r n = node code.MatchOperator Void (pos 0) p (with (operand q 1 m) (with (operand r 2 n) none))

abbrev pub branch_pattern : List ℕ → List ℕ → Mode → List ℕ → Mode → Written
branch_pattern p q m r n = set_of patterns.pc (node code.IfThenElse Void (pos 0) [] (with (tests p q m r n) (with (patterns.label 3) (with patterns.pc none))))

abbrev pub branch_made : Rtx → Rtx → Rtx → Rtx → Rtx
branch_made test a b uid = set_rtx (leaf_of code.Pc Void (pos 0)) (node_of code.IfThenElse Void (tree_of (head_of test) (a ∷ b ∷ []) ∷ label_of uid ∷ leaf_of code.Pc Void (pos 0) ∷ []))

module _ (accepts : Accepts) (facts : Facts) (condition : Tree) where
  abbrev anything : ℕ → Rtx
  anything k = rtx (operand [] k Void)

  -- ---- (set (pc) (label_ref UID))

  pub jump : (uid : Rtx) → accepts [] uid Void ≡ true → is_met accepts facts condition (one uid) ≡ true →
      IsMatch accepts facts (rtx (set_of patterns.pc (patterns.label 0)) ∷ []) condition (set_rtx (leaf_of code.Pc Void (pos 0)) (label_of uid) ∷ []) (one uid)
  jump uid is met =
      is_match accepts facts condition (set_of patterns.pc (patterns.label 0)) (one uid) (set_rtx (leaf_of code.Pc Void (pos 0)) (label_of uid)) (anything 0 ∷ []) refl refl
      (operand_asked (one uid) [] 0 Void, tt) (gives_one uid (anything 0) (operand_gives [] 0 Void)) (short_one uid)
      (both_true (is_accepted accepts (one uid) (anything 0)) true (taken accepts facts condition (one uid) [] 0 Void uid refl is) refl) met

  -- ---- calls

  pub call : (p : List ℕ) (m : Mode) (at size : Rtx) → accepts p at m ≡ true → accepts [] size Void ≡ true → is_met accepts facts condition (two at size) ≡ true →
      IsMatch accepts facts (rtx (patterns.call 0 p m 1) ∷ []) condition (call_of at size ∷ []) (two at size)
  call p m at size is any met =
      let target = rtx (operand p 0 m) in
      is_match accepts facts condition (patterns.call 0 p m 1) (two at size) (call_of at size) (target ∷ anything 1 ∷ []) refl refl
      (operand_asked (two at size) p 0 m, (operand_asked (two at size) [] 1 Void, tt)) (gives_two at size target (anything 1) (operand_gives p 0 m) (operand_gives [] 1 Void)) (short_two at size)
      (both_true (is_accepted accepts (two at size) target) _ (taken accepts facts condition (two at size) p 0 m at refl is)
      (both_true (is_accepted accepts (two at size) (anything 1)) true (taken accepts facts condition (two at size) [] 1 Void size refl any) refl)) met

  pub call_for : (q : List ℕ) (n : Mode) (p : List ℕ) (m : Mode) (result at size : Rtx) → accepts q result n ≡ true → accepts p at m ≡ true → accepts [] size Void ≡ true → is_met accepts facts condition (three result at size) ≡ true →
      IsMatch accepts facts (rtx (set_of (operand q 0 n) (patterns.call 1 p m 2)) ∷ []) condition (set_rtx result (call_of at size) ∷ []) (three result at size)
  call_for q n p m result at size place is any met =
      let operands = three result at size in
      let to = rtx (operand q 0 n) in
      let target = rtx (operand p 1 m) in
      is_match accepts facts condition (set_of (operand q 0 n) (patterns.call 1 p m 2)) operands (set_rtx result (call_of at size)) (to ∷ target ∷ anything 2 ∷ []) refl refl
      (operand_asked operands q 0 n, (operand_asked operands p 1 m, (operand_asked operands [] 2 Void, tt)))
      (gives_three result at size to target (anything 2) (operand_gives q 0 n) (operand_gives p 1 m) (operand_gives [] 2 Void)) (short_three result at size)
      (both_true (is_accepted accepts operands to) _ (taken accepts facts condition operands q 0 n result refl place)
      (both_true (is_accepted accepts operands target) _ (taken accepts facts condition operands p 1 m at refl is)
      (both_true (is_accepted accepts operands (anything 2)) true (taken accepts facts condition operands [] 2 Void size refl any) refl))) met

  -- ---- a return

  abbrev return : Written
  return = node code.Return Void (pos 0) [] none

  pub returns : is_met accepts facts condition [] ≡ true → IsMatch accepts facts (return_rtx ∷ []) condition (return_rtx ∷ []) []
  returns met =
      is_match accepts facts condition return [] return_rtx [] refl refl tt (λ k some. absurd (let no : ⊥ = cc in no)) (λ k is. absurd (omega (arith, is))) refl met

  -- ---- (set (pc) (if_then_else TEST (label_ref UID) (pc)))

  module _ (p q : List ℕ) (m : Mode) (r : List ℕ) (n : Mode) (test a b uid : Rtx) (whole : test ≡ tree_of (head_of test) (a ∷ b ∷ [])) where
    abbrev operands : List (Option Rtx)
    operands = four test a b uid

    abbrev operator : Rtx
    operator = rtx (tests p q m r n)

    operator_asked : IsAsked operands operator
    operator_asked = asked_so (ap (λ o. o.code) (outside_is (tests p q m r n))) (ap (λ o. operand_numbered operands o.number) (outside_is (tests p q m r n)) ∙ (ap (λ x. Some x) whole ∙ sym (filled_is operands (tests p q m r n))))
      where
        asked_so : (head_of operator).code ≡ code.MatchOperator → operand_numbered operands (head_of operator).number ≡ instantiated operator operands → IsAsked operands operator
        asked_so is same = subst (λ c. IsAskedAs c operands operator) (sym is) same

    operator_gives : gives_number 0 operator ≡ true
    operator_gives = ap (λ o. gives o.code && int_eq o.number (pos 0)) (outside_is (tests p q m r n))

    operator_taken : accepts p test Void ≡ true → is_accepted accepts operands operator ≡ true
    operator_taken is =
        ap (λ o. if names_predicate o.code then option_map_or (λ x. accepts o.name x o.mode) (operand_numbered operands o.number) false else true) (outside_is (tests p q m r n)) ∙ is

    pub branch : accepts p test Void ≡ true → accepts q a m ≡ true → accepts r b n ≡ true → accepts [] uid Void ≡ true → is_met accepts facts condition operands ≡ true →
        IsMatch accepts facts (rtx (branch_pattern p q m r n) ∷ []) condition (branch_made test a b uid ∷ []) operands
    branch is left right any met =
        let first = rtx (operand q 1 m) in
        let second = rtx (operand r 2 n) in
        is_match accepts facts condition (branch_pattern p q m r n) operands (branch_made test a b uid) (operator ∷ first ∷ second ∷ anything 3 ∷ []) refl refl
        (operator_asked, (operand_asked operands q 1 m, (operand_asked operands r 2 n, (operand_asked operands [] 3 Void, tt))))
        (gives_four test a b uid operator first second (anything 3) operator_gives (operand_gives q 1 m) (operand_gives r 2 n) (operand_gives [] 3 Void)) (short_four test a b uid)
        (both_true (is_accepted accepts operands operator) _ (operator_taken is)
        (both_true (is_accepted accepts operands first) _ (taken accepts facts condition operands q 1 m a refl left)
        (both_true (is_accepted accepts operands second) _ (taken accepts facts condition operands r 2 n b refl right)
        (both_true (is_accepted accepts operands (anything 3)) true (taken accepts facts condition operands [] 3 Void uid refl any) refl)))) met

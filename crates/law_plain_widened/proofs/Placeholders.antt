-- The patterns of the forms that compare in SI, and where they give each operand.
use Rattle.std.proofs.Common.{◌≡◌, ℕ, pos, Bool, true, false, not, ◌&&◌, List, [], ◌∷◌, ◌++◌, codes, Some, refl, ap, ◌∙◌}
use Rattle.std.proofs.lemmas.Bool.{and_from}
use Rattle.std.specs.Prelude.{find, flat_map}
use Rattle.std.specs.Ordering.{int_eq}
use Rattle.rtx_tree.specs.declared.code.Code.TheVariants as code
use Rattle.rtx_tree.specs.declared.code.Mode.TheVariants.{Void, SI, DI}
use Rattle.rtx_tree.specs.declared.tree.Rtx.{Rtx}
use Rattle.rtx_tree.specs.Tree.{head_of}
use Rattle.md_operand.specs.Operand.{is_comparison}
use Rattle.md_match.specs.Pattern.{gives, gives_number, placeholders}
use Rattle.md_recog.specs.Match.{names_predicate}
use Rattle.md_pred.specs.Holds.{holds}
use Rattle.lower_insn.specs.Settings.{placeholder_of, refuses}
use Rattle.plain_forms.specs.Forms.{plain_forms}
use Rattle.rtx_open.proofs.Expressions.{Written, node, none, with, rtx, outside_is}
use Rattle.law_plain_matches.proofs.Patterns.{operand, asked}
use Rattle.law_plain_matches.proofs.Sets.{set_of}
use Rattle.law_plain_matches.proofs.Leads as patterns
use Rattle.law_plain_taken.proofs.Operands.{asked_is}
use Rattle.law_plain_planned.proofs.Fitted.{step_find, gives_other}

-- ---- the patterns

abbrev pub r : List ℕ
r = codes "register_operand"

-- (match_dup K)
abbrev pub again : ℕ → Written
again k = node code.MatchDup Void (pos k) [] none

-- (set (match_dup K) (sign_extend:DI (match_operand:SI J "register_operand")))
abbrev pub widens : ℕ → ℕ → Written
widens k j = set_of (again k) (node code.SignExtend DI (pos 0) [] (with (operand r j SI) none))

-- (match_operator K "ordered_comparison_operator" [(match_dup 4) (match_dup 5)])
abbrev pub operator : ℕ → Written
operator k = node code.MatchOperator Void (pos k) (codes "ordered_comparison_operator") (with (again 4) (with (again 5) none))

-- what sets a register to it, and what branches on it
abbrev pub value_set : Written
value_set = set_of (operand r 0 Void) (operator 1)

abbrev pub branched : Written
branched = set_of patterns.pc (node code.IfThenElse Void (pos 0) [] (with (operator 0) (with (patterns.label 3) (with patterns.pc none))))

abbrev pub value_patterns : List Rtx
value_patterns = rtx (widens 4 2) ∷ rtx (widens 5 3) ∷ rtx value_set ∷ []

abbrev pub branch_patterns : List Rtx
branch_patterns = rtx (widens 4 1) ∷ rtx (widens 5 2) ∷ rtx branched ∷ []

-- ---- which number each gives

again_gives : (k j : ℕ) → gives_number j (rtx (again k)) ≡ false
again_gives k j = ap (λ o. gives o.code && int_eq o.number (pos j)) (outside_is (again k))

operator_gives : (k j : ℕ) → gives_number j (rtx (operator k)) ≡ int_eq (pos k) (pos j)
operator_gives k j = ap (λ o. gives o.code && int_eq o.number (pos j)) (outside_is (operator k))

-- a comparison is taken
pub comparison_taken : (k : ℕ) (y : Rtx) → is_comparison y ≡ true → refuses (holds plain_forms) (rtx (operator k)) y ≡ false
comparison_taken k y is =
    ap (λ o. names_predicate o.code && not (holds plain_forms o.name y o.mode)) (outside_is (operator k)) ∙ ap not (and_from (is_comparison y) true is refl)

-- ---- where operands are found

placeholders_are : (p q s : Written) (ps qs ss : List Rtx) → asked p ≡ ps → asked q ≡ qs → asked s ≡ ss → flat_map placeholders (rtx p ∷ rtx q ∷ rtx s ∷ []) ≡ ps ++ (qs ++ (ss ++ []))
placeholders_are p q s ps qs ss one two three =
    ap (λ xs. xs ++ (placeholders (rtx q) ++ (placeholders (rtx s) ++ []))) (asked_is p ∙ one) ∙
    (ap (λ xs. ps ++ (xs ++ (placeholders (rtx s) ++ []))) (asked_is q ∙ two) ∙ ap (λ xs. ps ++ (qs ++ (xs ++ []))) (asked_is s ∙ three))

skipped : (j : ℕ) (p x : Rtx) (ps : List Rtx) → gives_number j p ≡ false → find (gives_number j) ps ≡ Some x → find (gives_number j) (p ∷ ps) ≡ Some x
skipped j p x ps other more = step_find j p ps false other ∙ more

here : (j : ℕ) (p : Rtx) (ps : List Rtx) → gives_number j p ≡ true → find (gives_number j) (p ∷ ps) ≡ Some p
here j p ps is = step_find j p ps true is

abbrev four : Rtx
four = rtx (again 4)

abbrev five : Rtx
five = rtx (again 5)

abbrev of : ℕ → Rtx
of k = rtx (operand r k SI)

-- ---- those of a value

abbrev place : Rtx
place = rtx (operand r 0 Void)

abbrev test : Rtx
test = rtx (operator 1)

abbrev third : List Rtx
third = place ∷ test ∷ four ∷ five ∷ []

abbrev ps : List Rtx
ps = four ∷ of 2 ∷ five ∷ of 3 ∷ third

found : (j : ℕ) (x : Rtx) → find (gives_number j) ps ≡ Some x → placeholder_of value_patterns j ≡ Some x
found j x is = ap (find (gives_number j)) (placeholders_are (widens 4 2) (widens 5 3) value_set (four ∷ of 2 ∷ []) (five ∷ of 3 ∷ []) third refl refl refl) ∙ is

behind_both : (j : ℕ) (x : Rtx) → int_eq (pos 2) (pos j) ≡ false → int_eq (pos 3) (pos j) ≡ false → find (gives_number j) third ≡ Some x → find (gives_number j) ps ≡ Some x
behind_both j x second last more =
    skipped j four x (of 2 ∷ five ∷ of 3 ∷ third) (again_gives 4 j) (skipped j (of 2) x (five ∷ of 3 ∷ third) (gives_other r 2 SI j ∙ second)
    (skipped j five x (of 3 ∷ third) (again_gives 5 j) (skipped j (of 3) x third (gives_other r 3 SI j ∙ last) more)))

pub value_0 : placeholder_of value_patterns 0 ≡ Some (rtx (operand r 0 Void))
value_0 = found 0 place (behind_both 0 place refl refl (here 0 place (test ∷ four ∷ five ∷ []) (gives_other r 0 Void 0)))

pub value_1 : placeholder_of value_patterns 1 ≡ Some (rtx (operator 1))
value_1 =
    found 1 test (behind_both 1 test refl refl (skipped 1 place test (test ∷ four ∷ five ∷ []) (gives_other r 0 Void 1) (here 1 test (four ∷ five ∷ []) (operator_gives 1 1))))

pub value_2 : placeholder_of value_patterns 2 ≡ Some (rtx (operand r 2 SI))
value_2 =
    found 2 (of 2) (skipped 2 four (of 2) (of 2 ∷ five ∷ of 3 ∷ third) (again_gives 4 2) (here 2 (of 2) (five ∷ of 3 ∷ third) (gives_other r 2 SI 2)))

pub value_3 : placeholder_of value_patterns 3 ≡ Some (rtx (operand r 3 SI))
value_3 =
    found 3 (of 3) (skipped 3 four (of 3) (of 2 ∷ five ∷ of 3 ∷ third) (again_gives 4 3) (skipped 3 (of 2) (of 3) (five ∷ of 3 ∷ third) (gives_other r 2 SI 3)
    (skipped 3 five (of 3) (of 3 ∷ third) (again_gives 5 3) (here 3 (of 3) third (gives_other r 3 SI 3)))))

-- ---- those of a branch

abbrev branch_test : Rtx
branch_test = rtx (operator 0)

abbrev label_at : Rtx
label_at = rtx (operand [] 3 Void)

abbrev branch_third : List Rtx
branch_third = branch_test ∷ four ∷ five ∷ label_at ∷ []

abbrev branch_ps : List Rtx
branch_ps = four ∷ of 1 ∷ five ∷ of 2 ∷ branch_third

branch_found : (j : ℕ) (x : Rtx) → find (gives_number j) branch_ps ≡ Some x → placeholder_of branch_patterns j ≡ Some x
branch_found j x is =
    ap (find (gives_number j)) (placeholders_are (widens 4 1) (widens 5 2) branched (four ∷ of 1 ∷ []) (five ∷ of 2 ∷ []) branch_third refl refl refl) ∙ is

branch_behind : (j : ℕ) (x : Rtx) → int_eq (pos 1) (pos j) ≡ false → int_eq (pos 2) (pos j) ≡ false → find (gives_number j) branch_third ≡ Some x → find (gives_number j) branch_ps ≡ Some x
branch_behind j x first second more =
    skipped j four x (of 1 ∷ five ∷ of 2 ∷ branch_third) (again_gives 4 j) (skipped j (of 1) x (five ∷ of 2 ∷ branch_third) (gives_other r 1 SI j ∙ first)
    (skipped j five x (of 2 ∷ branch_third) (again_gives 5 j) (skipped j (of 2) x branch_third (gives_other r 2 SI j ∙ second) more)))

pub branch_0 : placeholder_of branch_patterns 0 ≡ Some (rtx (operator 0))
branch_0 = branch_found 0 branch_test (branch_behind 0 branch_test refl refl (here 0 branch_test (four ∷ five ∷ label_at ∷ []) (operator_gives 0 0)))

pub branch_1 : placeholder_of branch_patterns 1 ≡ Some (rtx (operand r 1 SI))
branch_1 =
    branch_found 1 (of 1) (skipped 1 four (of 1) (of 1 ∷ five ∷ of 2 ∷ branch_third) (again_gives 4 1) (here 1 (of 1) (five ∷ of 2 ∷ branch_third) (gives_other r 1 SI 1)))

pub branch_2 : placeholder_of branch_patterns 2 ≡ Some (rtx (operand r 2 SI))
branch_2 =
    branch_found 2 (of 2) (skipped 2 four (of 2) (of 1 ∷ five ∷ of 2 ∷ branch_third) (again_gives 4 2) (skipped 2 (of 1) (of 2) (five ∷ of 2 ∷ branch_third) (gives_other r 1 SI 2)
    (skipped 2 five (of 2) (of 2 ∷ branch_third) (again_gives 5 2) (here 2 (of 2) branch_third (gives_other r 2 SI 2)))))

pub branch_3 : placeholder_of branch_patterns 3 ≡ Some (rtx (operand [] 3 Void))
branch_3 =
    branch_found 3 label_at (branch_behind 3 label_at refl refl (skipped 3 branch_test label_at (four ∷ five ∷ label_at ∷ []) (operator_gives 0 3)
    (skipped 3 four label_at (five ∷ label_at ∷ []) (again_gives 4 3) (skipped 3 five label_at (label_at ∷ []) (again_gives 5 3) (here 3 label_at [] (gives_other [] 3 Void 3))))))

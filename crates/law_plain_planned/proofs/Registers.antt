-- New registers, and trees whose hard registers are a0 to a7.
use Rattle.std.proofs.Common.{◌≡◌, ◌<◌, ◌≤◌, ◌^◌, ℕ, ◌+◌, pos, negsuc, Bool, true, false, not, ◌&&◌, ◌||◌, ◌==◌, List, [], ◌∷◌, Some, refl, sym, ap, ◌∙◌, arith}
use Rattle.std.proofs.lemmas.Bool.{and_from, or_left, le-leb}
use Rattle.std.proofs.lemmas.Bool.Decides.{nat_tests}
use Rattle.std.specs.Prelude.{ℤ, nat_le}
use Rattle.std.specs.Int.{cast_unsigned, w64}
use Rattle.std.specs.List.{list_all, AllByRecursion}
use Rattle.std.specs.Ordering.{int_eq}
use Rattle.rtx_tree.specs.Code.{class_of_code, is_place_class}
use Rattle.rtx_tree.specs.declared.class.Class.{Class}
use Rattle.rtx_tree.specs.declared.class.Class.TheVariants as class
use Rattle.rtx_tree.specs.declared.code.Code.{Code}
use Rattle.rtx_tree.specs.declared.code.Code.TheVariants as code
use Rattle.rtx_tree.specs.declared.code.Mode.{Mode}
use Rattle.rtx_tree.specs.declared.code.Mode.TheVariants.{Void, QI, HI, SI, DI}
use Rattle.rtx_tree.specs.declared.tree.Rtx.{Rtx, out-Rtx, out-roll-Rtx}
use Rattle.rtx_tree.specs.Registers.{pseudo}
use Rattle.rtx_tree.specs.Tree.{RtxHead, head_of, kids_of, tree_of}
use Rattle.rtx_tree.proofs.Trees.{head_of-tree, kids_of-tree}
use Rattle.rtl_func.specs.Calls.{has_argument, is_hard_argument, is_argument}
use Rattle.rtl_func.specs.Modes.{register_by}
use Rattle.rtl_func.specs.Shapes.{is_place, number_at}
use Rattle.rtl_func.proofs.AllPass.{all_pass, pass_out}
use Rattle.text_words.specs.Words.{fits_i64}
use Rattle.md_operand.specs.Addresses.{is_base_at}
use Rattle.md_operand.specs.Operand.{is_register, is_register_by, accepts_mode, has_mode, register_operand}
use Rattle.std_name.specs.Operands.{is_vars, is_vars_by}
use Rattle.law_plain_planned.specs.Planned.{new}

-- ---- a new register is one

same_to_itself : (m : Mode) → accepts_mode m m ≡ true
same_to_itself Void = refl
same_to_itself QI = refl
same_to_itself HI = refl
same_to_itself SI = refl
same_to_itself DI = refl

not_vars : (n : ℕ) → not (int_eq (pos (pseudo n)) (pos 32)) ≡ true
not_vars n = grind (arith, nat_tests)

pub new_accepted : (m : Mode) (next : ℕ) → register_operand m (new m next) ≡ true
new_accepted m next =
    ap (λ o. is_register_by o.code (new m next) o.kids && has_mode m (new m next)) (out-roll-Rtx _) ∙
    (ap (λ o. is_base_at o.code o.number && accepts_mode m o.mode) (out-roll-Rtx _) ∙ and_from (not (int_eq (pos (pseudo next)) (pos 32))) (accepts_mode m m) (not_vars next) (same_to_itself m))

-- ---- hard registers

abbrev pub Lawful : Rtx → Type 0
Lawful x = all_pass has_argument x ≡ true

each_passes : (xs : List Rtx) → AllByRecursion Lawful xs → list_all (all_pass has_argument) xs ≡ true
each_passes [] all = refl
each_passes (x ∷ xs) all = and_from (all_pass has_argument x) (list_all (all_pass has_argument) xs) all.0 (each_passes xs all.1)

abbrev pub stands_by : Code → ℤ → Bool
stands_by c z = is_hard_argument (register_by (class_of_code c) (cast_unsigned w64 z))

pub lawful_tree : (h : RtxHead) (kids : List Rtx) → stands_by h.code h.number ≡ true → AllByRecursion Lawful kids → Lawful (tree_of h kids)
lawful_tree h kids stands all =
    pass_out has_argument (tree_of h kids) ∙
    and_from (has_argument (tree_of h kids)) (list_all (all_pass has_argument) (kids_of (tree_of h kids)))
    (ap (λ (g : RtxHead). stands_by g.code g.number) (head_of-tree h kids) ∙ stands)
    (ap (λ (xs : List Rtx). list_all (all_pass has_argument) xs) (kids_of-tree h kids) ∙ each_passes kids all)

pub new_lawful : (m : Mode) (next : ℕ) → next < 2 ^ 62 → Lawful (new m next)
new_lawful m next small =
    let few : pseudo next < 2 ^ 63 = omega (arith, small) in
    let same : cast_unsigned w64 (pos (pseudo next)) ≡ pseudo next = omega (arith, few) in
    let high : 32 ≤ pseudo next = omega arith in
    lawful_tree (record { code = code.Reg; mode = m; number = pos (pseudo next); name = [] }) []
    (ap (λ (r : ℕ). nat_le 32 r || is_argument r) same ∙ or_left (nat_le 32 (pseudo next)) (is_argument (pseudo next)) (le-leb 32 (pseudo next) high)) tt

-- ---- a register that is set is not virtual-stack-vars

other_number : (z : ℤ) → fits_i64 z ≡ true → not (int_eq z (pos 32)) ≡ true → (cast_unsigned w64 z == 32) ≡ false
other_number (pos n) fits is = grind (arith, nat_tests, fits, is)
other_number (negsuc n) fits is =
    let below : n < 9223372036854775808 = grind (arith, nat_tests, fits) in grind (arith, nat_tests, below)

-- a code of registers, of which a number is not that one
target_by : (c : Code) (x : Rtx) (kids : List Rtx) → (out-Rtx x).code ≡ c → fits_i64 (out-Rtx x).number ≡ true → is_register_by c x kids ≡ true →
    (is_place_class (class_of_code c) && not (is_vars_by (class_of_code c) (number_at x))) ≡ true
target_by code.Reg x kids coded fits is =
    let here : not (int_eq (out-Rtx x).number (pos 32)) ≡ true = ap (λ c. is_base_at c (out-Rtx x).number) (sym coded) ∙ is in
    ap not (other_number (out-Rtx x).number fits here)
target_by code.Subreg x kids coded fits is = refl
target_by _ x kids coded fits is = absurd (let no : ⊥ = cc in no)

pub is_target : (x : Rtx) → fits_i64 (out-Rtx x).number ≡ true → is_register x ≡ true → (is_place x && not (is_vars x)) ≡ true
is_target x fits is = target_by (out-Rtx x).code x (out-Rtx x).kids refl fits is

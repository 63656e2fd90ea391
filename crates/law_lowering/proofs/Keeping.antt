-- Trees in which the hard registers are a0 to a7.
use Rattle.std.proofs.Common.{◌≡◌, ◌≤◌, ℕ, ◌^◌, ◌<◌, ◌&&◌, ◌||◌, Bool, true, false, List, [], ◌∷◌, refl, sym, ap, ◌∙◌, arith}
use Rattle.std.specs.Prelude.{ℤ, pos, negsuc, nat_le}
use Rattle.std.specs.Int.{cast_unsigned, w64}
use Rattle.std.specs.List.{list_all, AllByRecursion}
use Rattle.std.proofs.lemmas.Bool.{true≢false, and_parts, and_from, or_left, ltb-true, leb-false, le-leb}
use Rattle.rtx_tree.specs.Code.{class_of_code}
use Rattle.rtx_tree.specs.declared.code.Code.{Code}
use Rattle.rtx_tree.specs.declared.code.Code.TheVariants.{Reg, Set}
use Rattle.rtx_tree.specs.declared.code.Mode.{Mode}
use Rattle.rtx_tree.specs.declared.code.Mode.TheVariants.{Void}
use Rattle.rtx_tree.specs.declared.tree.Rtx.{Rtx}
use Rattle.rtx_tree.specs.Patterns.{set_rtx}
use Rattle.rtx_tree.specs.Registers.{pseudo}
use Rattle.rtx_tree.specs.Tree.{RtxHead, head_of, kids_of, tree_of, reg_of}
use Rattle.rtx_tree.proofs.Trees.{head_of-tree, kids_of-tree}
use Rattle.rtl_func.specs.Calls.{is_argument, is_hard_argument, has_argument}
use Rattle.rtl_func.specs.Modes.{register_by}
use Rattle.rtl_func.specs.Nodes.{nodes_of}
use Rattle.rtl_func.proofs.AllPass.{all_pass, pass_out, itself, within}
use Rattle.rtl_print.proofs.TreeText.{rtx_induction}
use Rattle.sym_insns.specs.Shape.{is_natural, all_natural}
use Rattle.sym_insns.proofs.Shapes.{natural_out}

-- ---- tests of all members of a list

pub each_passes : {A : Type 0} (test : A → Bool) (xs : List A) → list_all test xs ≡ true → AllByRecursion (λ x. test x ≡ true) xs
each_passes test [] all = tt
each_passes test (x ∷ xs) all = let both = and_parts (test x) (list_all test xs) all in (both.0, each_passes test xs both.1)

pub all_passes : {A : Type 0} (test : A → Bool) (xs : List A) → AllByRecursion (λ x. test x ≡ true) xs → list_all test xs ≡ true
all_passes test [] all = refl
all_passes test (x ∷ xs) all = and_from (test x) (list_all test xs) all.0 (all_passes test xs all.1)

-- ---- registers

abbrev pub stands_by : Code → ℤ → Bool
stands_by Reg (pos n) = nat_le 32 n || is_argument n
stands_by _ n = true

abbrev pub may_stand : Rtx → Bool
may_stand x = stands_by (head_of x).code (head_of x).number

-- each hard register in a tree is one of a0 to a7
abbrev pub Keeps : Rtx → Type 0
Keeps x = all_pass may_stand x ≡ true

abbrev pub AllKeep : List Rtx → Type 0
AllKeep = AllByRecursion Keeps

-- ---- trees and their parts

pub parts_keep : (x : Rtx) → Keeps x → AllKeep (kids_of x)
parts_keep x keeps = each_passes (all_pass may_stand) (kids_of x) (within may_stand x keeps)

tree_keeps : (h : RtxHead) (parts : List Rtx) → stands_by h.code h.number ≡ true → AllKeep parts → Keeps (tree_of h parts)
tree_keeps h parts stands keep =
    pass_out may_stand (tree_of h parts)
    ∙ and_from (may_stand (tree_of h parts)) (list_all (all_pass may_stand) (kids_of (tree_of h parts)))
    (ap (λ (g : RtxHead). stands_by g.code g.number) (head_of-tree h parts) ∙ stands)
    (ap (λ (xs : List Rtx). list_all (all_pass may_stand) xs) (kids_of-tree h parts) ∙ all_passes (all_pass may_stand) parts keep)

-- a tree with other parts
pub other_parts : (x : Rtx) (parts : List Rtx) → Keeps x → AllKeep parts → Keeps (tree_of (head_of x) parts)
other_parts x parts keeps keep = tree_keeps (head_of x) parts (itself may_stand x keeps) keep

pub set_keeps : (target source : Rtx) → Keeps target → Keeps source → Keeps (set_rtx target source)
set_keeps target source first second =
    tree_keeps (record { code = Set; mode = Void; number = pos 0; name = [] }) (target ∷ source ∷ []) refl (first, (second, tt))

pseudo_stands : (k : ℕ) → stands_by Reg (pos (pseudo k)) ≡ true
pseudo_stands k =
    let high : 32 ≤ pseudo k = omega arith in
    or_left (nat_le 32 (pseudo k)) (is_argument (pseudo k)) (le-leb 32 (pseudo k) high)

pub pseudo_keeps : (m : Mode) (k : ℕ) → Keeps (reg_of m (pseudo k))
pseudo_keeps m k = tree_keeps (record { code = Reg; mode = m; number = pos (pseudo k); name = [] }) [] (pseudo_stands k) tt

-- ---- the rule of argument registers, which looks at the low 64 bits of a number

abbrev is_lawful : Code → ℤ → Bool
is_lawful c n = is_hard_argument (register_by (class_of_code c) (cast_unsigned w64 n))

lawful_stands : (c : Code) (n : ℤ) → is_lawful c n ≡ true → stands_by c n ≡ true
lawful_stands Reg (pos n) is = by (nat_le 32 n) refl
  where
    by : (b : Bool) → nat_le 32 n ≡ b → (nat_le 32 n || is_argument n) ≡ true
    by true high = or_left (nat_le 32 n) (is_argument n) high
    by false low =
        let less : n < 32 = leb-false 32 n low in
        let same : cast_unsigned w64 (pos n) ≡ n = omega (arith, less) in
        sym (ap (λ (r : ℕ). nat_le 32 r || is_argument r) same) ∙ is
lawful_stands Reg (negsuc n) is = refl
lawful_stands _ n is = refl

stands_lawful : (c : Code) (n : ℤ) → is_natural c n ≡ true → stands_by c n ≡ true → is_lawful c n ≡ true
stands_lawful Reg (pos n) natural stands =
    let few : n < 2 ^ 63 = ltb-true n (2 ^ 63) natural in
    let same : cast_unsigned w64 (pos n) ≡ n = omega (arith, few) in
    ap (λ (r : ℕ). nat_le 32 r || is_argument r) same ∙ stands
stands_lawful Reg (negsuc n) natural stands = absurd (true≢false (sym natural))
stands_lawful _ n natural stands = refl

weaker : (f g : Rtx → Bool) → ((x : Rtx) → f x ≡ true → g x ≡ true) → (xs : List Rtx) → list_all f xs ≡ true → list_all g xs ≡ true
weaker f g step [] all = refl
weaker f g step (x ∷ xs) all =
    let both = and_parts (f x) (list_all f xs) all in and_from (g x) (list_all g xs) (step x both.0) (weaker f g step xs both.1)

pub argument_keeps : (x : Rtx) → all_pass has_argument x ≡ true → Keeps x
argument_keeps x all =
    weaker has_argument may_stand (λ y is. lawful_stands (head_of y).code (head_of y).number is) (nodes_of x) all

abbrev is_natural_here : Rtx → Bool
is_natural_here x = is_natural (head_of x).code (head_of x).number

abbrev Same : Rtx → Type 0
Same x = all_pass is_natural_here x ≡ all_natural x

same_lists : (xs : List Rtx) → AllByRecursion Same xs → list_all (all_pass is_natural_here) xs ≡ list_all all_natural xs
same_lists [] same = refl
same_lists (x ∷ xs) same =
    ap (λ b. b && list_all (all_pass is_natural_here) xs) same.0 ∙ ap (λ b. all_natural x && b) (same_lists xs same.1)

natural_nodes : (x : Rtx) → Same x
natural_nodes = rtx_induction Same (λ x same.
    pass_out is_natural_here x ∙ ap (λ b. is_natural_here x && b) (same_lists (kids_of x) same) ∙ sym (natural_out x))

both_tests : (xs : List Rtx) → list_all may_stand xs ≡ true → list_all is_natural_here xs ≡ true → list_all has_argument xs ≡ true
both_tests [] stand natural = refl
both_tests (x ∷ xs) stand natural =
    let here = and_parts (may_stand x) (list_all may_stand xs) stand in
    let number = and_parts (is_natural_here x) (list_all is_natural_here xs) natural in
    and_from (has_argument x) (list_all has_argument xs) (stands_lawful (head_of x).code (head_of x).number number.0 here.0)
    (both_tests xs here.1 number.1)

-- where each register's number is one
pub keeps_argument : (x : Rtx) → all_natural x ≡ true → Keeps x → all_pass has_argument x ≡ true
keeps_argument x natural keeps = both_tests (nodes_of x) keeps (natural_nodes x ∙ natural)

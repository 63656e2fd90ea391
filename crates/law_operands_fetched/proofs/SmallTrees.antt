-- Small trees, and what is said of a tree by its parts: that it is within the table of codes, its registers have natural numbers, and a register
-- stands in it.
use Rattle.std.proofs.Common.{◌≡◌, ◌⊎◌, inl, inr, ℕ, ◌^◌, ◌&&◌, ◌||◌, Bool, true, false, if◌then◌else◌, List, [], ◌∷◌, map, refl, sym, ap, subst, ◌∙◌, arith}
use Rattle.std.proofs.lemmas.Bool.{and_parts, and_from}
use Rattle.std.proofs.lemmas.Bool.Decides.{nat_tests, Decides-int_eq}
use Rattle.std.specs.Int.{cast_unsigned, w64}
use Rattle.std.specs.List.{AllByRecursion, list_all, list_any}
use Rattle.std.specs.Ordering.{int_eq}
use Rattle.std.specs.Prelude.{ℤ, pos, nat_le, nat_lt}
use Rattle.law_operands_replaced.specs.rtx_tree.Code.{class_of_code, is_value_class}
use Rattle.law_operands_replaced.specs.rtx_tree.Tree.{head_of, kids_of, node_of, reg_of, const_of, is_reg_numbered, mentions_reg}
use Rattle.law_operands_replaced.specs.rtx_tree.declared.code.Code.{Code}
use Rattle.law_operands_replaced.specs.rtx_tree.declared.code.Code.TheVariants as code
use Rattle.law_operands_replaced.specs.rtx_tree.declared.code.Mode.{Mode}
use Rattle.law_operands_replaced.specs.rtx_tree.declared.code.Mode.TheVariants.{Void, QI, HI, SI, DI}
use Rattle.law_operands_replaced.specs.rtx_tree.declared.tree.Rtx.{Rtx, out-Rtx, roll-Rtx, out-roll-Rtx}
use Rattle.law_operands_replaced.specs.rtx_tree.declared.tree.Rtx.TheFolds.{fold_out-Rtx, ind-Rtx}
use Rattle.law_operands_replaced.specs.rtx_tree.declared.tree.Rtx.TheOpen.{Rtx-F}
use Rattle.law_operands_replaced.proofs.rtx_tree.Trees.{kids_of-tree, mentions_out}
use Rattle.law_operands_replaced.specs.rtl_func.Shapes.{has_mode, same_mode, is_constant_class, is_operand, is_register_number, is_bare, fits_row, is_shaped}
use Rattle.law_operands_replaced.proofs.rtl_func.AllPass.{all_pass, pass_out}
use Rattle.law_operands_replaced.specs.sym_insns.Shape.{is_natural, natural_step, all_natural}

-- ---- induction

all_of : (P : Rtx → Type 0) (ys : List ((x : Rtx) × P x)) → AllByRecursion P (map (λ (y : (x : Rtx) × P x). y.0) ys)
all_of P [] = tt
all_of P (y ∷ ys) = (y.1, all_of P ys)

-- what holds of each tree whose parts it holds of
pub tree_induction : (P : Rtx → Type 0) → ((x : Rtx) → AllByRecursion P (kids_of x) → P x) → (x : Rtx) → P x
tree_induction P step = ind-Rtx P (λ x y is.
    step (roll-Rtx x) (subst (λ (o : Rtx-F Rtx). AllByRecursion P o.kids) (sym (out-roll-Rtx x))
    (subst (λ (z : Rtx-F Rtx). AllByRecursion P z.kids) is (all_of P y.kids))))

-- ---- within the table

pub leaf_shaped : (y : Rtx) → kids_of y ≡ [] → is_shaped y ≡ true → all_pass is_shaped y ≡ true
leaf_shaped y none shaped = pass_out is_shaped y ∙ ap (λ b. b && list_all (all_pass is_shaped) (kids_of y)) shaped ∙
    ap (list_all (all_pass is_shaped)) none

pub tree_shaped : (y : Rtx) (kids : List Rtx) → kids_of y ≡ kids → is_shaped y ≡ true →
    list_all (all_pass is_shaped) kids ≡ true → all_pass is_shaped y ≡ true
tree_shaped y kids are shaped all = pass_out is_shaped y ∙ ap (λ b. b && list_all (all_pass is_shaped) (kids_of y))
    shaped ∙ ap (list_all (all_pass is_shaped)) are ∙ all

shape_by : (o : Rtx-F Rtx) → Bool
shape_by o = is_bare (class_of_code o.code) (cast_unsigned w64 o.number) o.name && fits_row (class_of_code o.code)
    o.mode (cast_unsigned w64 o.number) o.kids

opened : (y : Rtx) (o : Rtx-F Rtx) → out-Rtx y ≡ o → is_shaped y ≡ shape_by o
unfolding shape_by
opened y o is = ap shape_by is

pub register_shaped : (mode : Mode) (reg : ℕ) → has_mode mode ≡ true → is_register_number reg ≡ true →
    all_pass is_shaped (reg_of mode reg) ≡ true
unfolding shape_by
register_shaped mode reg has number =
    leaf_shaped (reg_of mode reg) (kids_of-tree _ _) (opened (reg_of mode reg) _ (out-roll-Rtx _) ∙
    and_from (has_mode mode) (is_register_number reg) has number)

constant_shaped : (n : ℤ) → all_pass is_shaped (const_of n) ≡ true
unfolding shape_by
constant_shaped n = leaf_shaped (const_of n) (kids_of-tree _ _) (opened (const_of n) _ (out-roll-Rtx _))

same_itself : (mode : Mode) → same_mode mode mode ≡ true
same_itself Void = refl
same_itself QI = refl
same_itself HI = refl
same_itself SI = refl
same_itself DI = refl

operand_by : (mode : Mode) (o : Rtx-F Rtx) → Bool
operand_by mode o = is_value_class (class_of_code o.code) && (is_constant_class (class_of_code o.code) || same_mode mode o.mode)

opened_operand : (mode : Mode) (y : Rtx) (o : Rtx-F Rtx) → out-Rtx y ≡ o → is_operand mode y ≡ operand_by mode o
unfolding operand_by
opened_operand mode y o is = ap (operand_by mode) is

register_operand : (mode : Mode) (reg : ℕ) → is_operand mode (reg_of mode reg) ≡ true
unfolding operand_by
register_operand mode reg = opened_operand mode (reg_of mode reg) _ (out-roll-Rtx _) ∙ same_itself mode

constant_operand : (mode : Mode) (n : ℤ) → is_operand mode (const_of n) ≡ true
unfolding operand_by
constant_operand mode n = opened_operand mode (const_of n) _ (out-roll-Rtx _)

sum_shaped : (mode : Mode) (n : ℤ) → has_mode mode ≡ true → all_pass is_shaped
    (node_of code.Plus mode (reg_of mode 2 ∷ const_of n ∷ [])) ≡ true
unfolding shape_by
sum_shaped mode n has = tree_shaped (node_of code.Plus mode (reg_of mode 2 ∷ const_of n ∷ []))
    (reg_of mode 2 ∷ const_of n ∷ []) (kids_of-tree _ _)
    (opened (node_of code.Plus mode (reg_of mode 2 ∷ const_of n ∷ [])) _ (out-roll-Rtx _) ∙
    and_from (has_mode mode) _ has (and_from (is_operand mode (reg_of mode 2)) _ (register_operand mode 2) (constant_operand mode n)))
    (and_from (all_pass is_shaped (reg_of mode 2)) _ (register_shaped mode 2 has refl)
    (and_from (all_pass is_shaped (const_of n)) true (constant_shaped n) refl))

-- sp and a number
pub sp_shaped : (mode : Mode) (none : Bool) (n : ℤ) → has_mode mode ≡ true →
    all_pass is_shaped (if none then reg_of mode 2 else node_of code.Plus mode (reg_of mode 2 ∷ const_of n ∷ [])) ≡ true
sp_shaped mode true n has = register_shaped mode 2 has refl
sp_shaped mode false n has = sum_shaped mode n has

-- ---- natural numbers of registers

all_of_map : {A : Type 0} (f : A → Bool) (xs : List A) → list_all (λ here. here) (map f xs) ≡ list_all f xs
all_of_map f [] = refl
all_of_map f (x ∷ xs) = ap (λ rest. f x && rest) (all_of_map f xs)

pub natural_out : (x : Rtx) → all_natural x ≡ (is_natural (out-Rtx x).code (out-Rtx x).number && list_all all_natural (out-Rtx x).kids)
natural_out x = fold_out-Rtx Bool natural_step x ∙
    ap (λ rest. is_natural (out-Rtx x).code (out-Rtx x).number && rest) (all_of_map all_natural (out-Rtx x).kids)

few_natural : (reg : ℕ) → is_register_number reg ≡ true → nat_lt reg (2 ^ 63) ≡ true
few_natural reg is = by (nat_le reg 32) refl is
  where
    by : (few : Bool) → nat_le reg 32 ≡ few → few || (nat_le 64 reg && nat_lt reg 2147483712) ≡ true → nat_lt reg (2 ^ 63) ≡ true
    by true few is = grind (arith, nat_tests, few)
    by false few is = let less = (and_parts (nat_le 64 reg) (nat_lt reg 2147483712) is).1 in grind (arith, nat_tests, less)

register_natural : (mode : Mode) (reg : ℕ) → is_register_number reg ≡ true → all_natural (reg_of mode reg) ≡ true
register_natural mode reg is = natural_out (reg_of mode reg) ∙
    ap (λ (o : Rtx-F Rtx). is_natural o.code o.number && list_all all_natural o.kids) (out-roll-Rtx _) ∙
    and_from (nat_lt reg (2 ^ 63)) true (few_natural reg is) refl

constant_natural : (n : ℤ) → all_natural (const_of n) ≡ true
constant_natural n = natural_out (const_of n) ∙ ap (λ (o : Rtx-F Rtx). is_natural o.code o.number && list_all
    all_natural o.kids) (out-roll-Rtx _)

pub sp_natural : (mode : Mode) (none : Bool) (n : ℤ) → all_natural (if none then reg_of mode 2 else node_of code.Plus
    mode (reg_of mode 2 ∷ const_of n ∷ [])) ≡ true
sp_natural mode true n = register_natural mode 2 refl
sp_natural mode false n = natural_out (node_of code.Plus mode (reg_of mode 2 ∷ const_of n ∷ [])) ∙
    ap (λ (o : Rtx-F Rtx). is_natural o.code o.number && list_all all_natural o.kids) (out-roll-Rtx _) ∙
    and_from (all_natural (reg_of mode 2)) _ (register_natural mode 2 refl)
    (and_from (all_natural (const_of n)) true (constant_natural n) refl)

-- ---- registers that stand in a tree

pub one_or_other : (a b : Bool) → a || b ≡ true → (a ≡ true) ⊎ (b ≡ true)
one_or_other true b is = inl refl
one_or_other false b is = inr is

pub or_second : (a b : Bool) → b ≡ true → a || b ≡ true
or_second true b is = refl
or_second false b is = is

pub no_number : (c : Code) (n : ℤ) (r : ℕ) → is_reg_numbered c n r ≡ true → (c ≡ code.Reg) × (n ≡ pos r)
no_number code.Reg n r is = (refl, (Decides-int_eq n (pos r)).0 is)
no_number _ n r is = absurd (let no : ⊥ = cc in no)

-- the register that a tree is stands in it
pub stands_there : (x : Rtx) (reg : ℕ) → (head_of x).code ≡ code.Reg → (head_of x).number ≡ pos reg → mentions_reg reg x ≡ true
stands_there x reg is number = mentions_out reg x ∙
    ap (λ b. b || list_any (mentions_reg reg) (kids_of x))
    (ap (λ c. is_reg_numbered c (head_of x).number reg) is ∙ ap (λ n. int_eq n (pos reg)) number ∙
    (Decides-int_eq (pos reg) (pos reg)).1 refl)

pub stands_part : (x : Rtx) (reg : ℕ) → list_any (mentions_reg reg) (kids_of x) ≡ true → mentions_reg reg x ≡ true
stands_part x reg has = mentions_out reg x ∙ or_second _ _ has

pub in_register : (mode : Mode) (a r : ℕ) → mentions_reg r (reg_of mode a) ≡ true → a ≡ r
in_register mode a r has = by (sym (mentions_out r (reg_of mode a) ∙ ap (λ (o : Rtx-F Rtx). is_reg_numbered o.code
    o.number r || list_any (mentions_reg r) o.kids) (out-roll-Rtx _)) ∙ has)
  where
    by : int_eq (pos a) (pos r) || false ≡ true → a ≡ r
    by is = first (int_eq (pos a) (pos r)) refl is
      where
        first : (b : Bool) → int_eq (pos a) (pos r) ≡ b → b || false ≡ true → a ≡ r
        first true is any = let e : pos a ≡ pos r = (Decides-int_eq (pos a) (pos r)).0 is in let same : a ≡ r = cc in same
        first false is any = absurd (let no : ⊥ = cc in no)

in_constant : (n : ℤ) (r : ℕ) → mentions_reg r (const_of n) ≡ true → ⊥
in_constant n r has =
    let e : false ≡ true = sym (mentions_out r (const_of n) ∙ ap (λ (o : Rtx-F Rtx). is_reg_numbered o.code o.number r
    || list_any (mentions_reg r) o.kids) (out-roll-Rtx _)) ∙ has in
    let no : ⊥ = cc in no

-- sp alone stands in sp and a number
pub in_sp : (mode : Mode) (none : Bool) (n : ℤ) (r : ℕ) → mentions_reg r
    (if none then reg_of mode 2 else node_of code.Plus mode (reg_of mode 2 ∷ const_of n ∷ [])) ≡ true → 2 ≡ r
in_sp mode true n r has = in_register mode 2 r has
in_sp mode false n r has =
    let open_is : mentions_reg r (reg_of mode 2) || (mentions_reg r (const_of n) || false) ≡ true =
    sym (mentions_out r (node_of code.Plus mode (reg_of mode 2 ∷ const_of n ∷ [])) ∙
    ap (λ (o : Rtx-F Rtx). is_reg_numbered o.code o.number r || list_any (mentions_reg r) o.kids) (out-roll-Rtx _)) ∙ has in
    by (one_or_other (mentions_reg r (reg_of mode 2)) _ open_is)
  where
    by : (mentions_reg r (reg_of mode 2) ≡ true) ⊎ ((mentions_reg r (const_of n) || false) ≡ true) → 2 ≡ r
    by (inl here) = in_register mode 2 r here
    by (inr there) = last (one_or_other (mentions_reg r (const_of n)) false there)
      where
        last : (mentions_reg r (const_of n) ≡ true) ⊎ (false ≡ true) → 2 ≡ r
        last (inl here) = absurd (in_constant n r here)
        last (inr wrong) = absurd (let never : ⊥ = cc in never)

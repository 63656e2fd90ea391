-- The values of small trees: a register, a constant, a sum, and memory at an address.
use Rattle.std.proofs.Common.{◌≡◌, ℕ, ◌&&◌, Bool, true, List, [], ◌∷◌, map, Option, Some, refl, sym, ap, subst, ◌∙◌}
use Rattle.std.proofs.lemmas.Bool.{false≢true, and_from, and_parts, or_right}
use Rattle.std.proofs.lemmas.Bool.Decides.{Decides-int_eq}
use Rattle.std.specs.Int.{cast_unsigned, w64}
use Rattle.std.specs.List.{AllByRecursion, list_all, list_any}
use Rattle.std.specs.Prelude.{ℤ, pos}
use Rattle.bits64.specs.Words.{low, sum_of}
use Rattle.bits64.specs.declared.Width.{Width}
use Rattle.bits64.specs.declared.Width.TheVariants.{W64}
use Rattle.rtx_tree.specs.Code.{class_of_code}
use Rattle.rtx_tree.specs.Tree.{reg_of, const_of, node_of, is_reg_numbered, mentions_reg}
use Rattle.rtx_tree.specs.declared.class.Class.TheVariants as class
use Rattle.rtx_tree.specs.declared.code.Code.{Code}
use Rattle.rtx_tree.specs.declared.code.Code.TheVariants.{Reg, ConstInt, Plus, Mem, Subreg}
use Rattle.rtx_tree.specs.declared.code.Mode.{Mode}
use Rattle.rtx_tree.specs.declared.machine.SymbolAt.{SymbolAt}
use Rattle.rtx_tree.specs.declared.memories.MemByte.{MemByte}
use Rattle.rtx_tree.specs.declared.tree.Rtx.{Rtx, out-Rtx, roll-Rtx, out-roll-Rtx}
use Rattle.rtx_tree.specs.declared.tree.Rtx.TheFolds.{fold_out-Rtx, ind-Rtx}
use Rattle.rtx_tree.specs.declared.tree.Rtx.TheOpen.{Rtx-F}
use Rattle.rtx_tree.proofs.Trees.{mentions_out}
use Rattle.run_memory.specs.RunMemory.{load}
use Rattle.rtl_step.specs.Regs.{Regs, reg_value}
use Rattle.rtl_step.specs.Value.{Reading, width_of, value_by, value_of, of_one, of_two}
use Rattle.rtl_step.proofs.Values.{value_read}
use Rattle.rtl_step.proofs.Too.{Too}
use Rattle.md_operand.specs.Addresses.{is_constant_at, is_any}
use Rattle.law_homes.specs.Placed.{is_sized, sized_step, all_sized}

-- ---- induction

all_of : (P : Rtx → Type 0) (ys : List ((x : Rtx) × P x)) → AllByRecursion P (map (λ (y : (x : Rtx) × P x). y.0) ys)
all_of P [] = tt
all_of P (y ∷ ys) = (y.1, all_of P ys)

-- what holds of each tree whose parts it holds of
pub tree_induction : (P : Rtx → Type 0) → ((x : Rtx) → AllByRecursion P (out-Rtx x).kids → P x) → (x : Rtx) → P x
tree_induction P step = ind-Rtx P (λ x y is.
    step (roll-Rtx x) (subst (λ (o : Rtx-F Rtx). AllByRecursion P o.kids) (sym (out-roll-Rtx x)) (subst (λ (z : Rtx-F Rtx). AllByRecursion P z.kids) is (all_of P y.kids))))

-- ---- numbers

all_of_map : {A : Type 0} (f : A → Bool) (xs : List A) → list_all (λ here. here) (map f xs) ≡ list_all f xs
all_of_map f [] = refl
all_of_map f (x ∷ xs) = ap (λ rest. f x && rest) (all_of_map f xs)

sized_out : (x : Rtx) → all_sized x ≡ (is_sized (out-Rtx x).code (out-Rtx x).number && list_all all_sized (out-Rtx x).kids)
sized_out x = fold_out-Rtx Bool sized_step x ∙ ap (λ rest. is_sized (out-Rtx x).code (out-Rtx x).number && rest) (all_of_map all_sized (out-Rtx x).kids)

pub sized_here : (x : Rtx) → all_sized x ≡ true → is_sized (out-Rtx x).code (out-Rtx x).number ≡ true
sized_here x sized = (and_parts (is_sized (out-Rtx x).code (out-Rtx x).number) (list_all all_sized (out-Rtx x).kids) (sym (sized_out x) ∙ sized)).0

pub sized_kids : (x : Rtx) → all_sized x ≡ true → list_all all_sized (out-Rtx x).kids ≡ true
sized_kids x sized = (and_parts (is_sized (out-Rtx x).code (out-Rtx x).number) (list_all all_sized (out-Rtx x).kids) (sym (sized_out x) ∙ sized)).1

pub sized_whole : (x : Rtx) → is_sized (out-Rtx x).code (out-Rtx x).number ≡ true → list_all all_sized (out-Rtx x).kids ≡ true → all_sized x ≡ true
sized_whole x here kids = sized_out x ∙ and_from (is_sized (out-Rtx x).code (out-Rtx x).number) (list_all all_sized (out-Rtx x).kids) here kids

-- ---- registers

-- a register that stands in a part stands in the tree
pub mentions_kid : (x : Rtx) (reg : ℕ) → list_any (mentions_reg reg) (out-Rtx x).kids ≡ true → mentions_reg reg x ≡ true
mentions_kid x reg is = mentions_out reg x ∙ or_right (is_reg_numbered (out-Rtx x).code (out-Rtx x).number reg) _ is

-- the code of a register's class
pub register_code : (c : Code) → class_of_code c ≡ class.Register → c ≡ Reg
register_code Reg is = refl
register_code _ is = absurd (let no : ⊥ = cc in no)

-- a constant
pub constant_code : (c : Code) (n : ℤ) → is_constant_at is_any c n ≡ true → c ≡ ConstInt
constant_code ConstInt n is = refl
constant_code _ n is = absurd (false≢true is)

-- a register with a number
pub numbered : (c : Code) (n : ℤ) (reg : ℕ) → is_reg_numbered c n reg ≡ true → (c ≡ Reg) × (n ≡ pos reg)
numbered Reg n reg is = (refl, (Decides-int_eq n (pos reg)).0 is)
numbered _ n reg is = absurd (false≢true is)

module _ (symbols : List SymbolAt) (regs : Regs) (memory : List MemByte) where
  abbrev pub as_read : Rtx → Reading
  as_read kid = record { width = width_of (out-Rtx kid).mode; value = value_of symbols regs memory kid }

  abbrev pub value_with : Rtx-F Rtx → Width → Option ℕ
  value_with o w = value_by symbols regs memory (class_of_code o.code) o.code o.number o.name (map as_read o.kids) w

  -- the value of an expression, by its code, number, name and parts
  pub value_at : (x : Rtx) (o : Rtx-F Rtx) (w : Width) → out-Rtx x ≡ o → value_of symbols regs memory x w ≡ value_with o w
  value_at x o w is = value_read symbols regs memory x w ∙ ap (λ (o : Rtx-F Rtx). value_with o w) is

  pub reg_is : (mode : Mode) (reg : ℕ) (w : Width) → value_of symbols regs memory (reg_of mode reg) w ≡ reg_value regs (cast_unsigned w64 (pos reg)) w
  reg_is mode reg w = value_at (reg_of mode reg) _ w (out-roll-Rtx _)

  pub const_is : (n : ℤ) (w : Width) → value_of symbols regs memory (const_of n) w ≡ Some (low w (cast_unsigned w64 n))
  const_is n w = value_at (const_of n) _ w (out-roll-Rtx _)

  pub sum_is : (mode : Mode) (x y : Rtx) (w : Width) → value_of symbols regs memory (node_of Plus mode (x ∷ y ∷ [])) w ≡
      of_two (λ a b. Some (sum_of w a b)) (value_of symbols regs memory x w) (value_of symbols regs memory y w)
  sum_is mode x y w = value_at (node_of Plus mode (x ∷ y ∷ [])) _ w (out-roll-Rtx _)

  pub mem_is : (mode : Mode) (x : Rtx) (w : Width) → value_of symbols regs memory (node_of Mem mode (x ∷ [])) w ≡
      of_one (load w memory) (value_of symbols regs memory x W64)
  mem_is mode x w = value_at (node_of Mem mode (x ∷ [])) _ w (out-roll-Rtx _)

  -- a tree with the code of a register has a value as the register alone, and likewise a constant
  reg_by : (c : Code) (n : ℤ) (name : List ℕ) (rs : List Reading) (w : Width) → c ≡ Reg →
      Too (value_by symbols regs memory (class_of_code c) c n name rs w) (reg_value regs (cast_unsigned w64 n) w)
  reg_by Reg n name [] w is = λ v has. has
  reg_by Reg n name (r ∷ []) w is = λ v none. absurd (let no : ⊥ = cc in no)
  reg_by Reg n name (r ∷ s ∷ []) w is = λ v none. absurd (let no : ⊥ = cc in no)
  reg_by Reg n name (r ∷ s ∷ u ∷ rs) w is = λ v none. absurd (let no : ⊥ = cc in no)
  reg_by _ n name rs w is = absurd (let no : ⊥ = cc in no)

  pub reg_alone : (x : Rtx) (n : ℤ) (w : Width) → (out-Rtx x).code ≡ Reg → (out-Rtx x).number ≡ n →
      Too (value_of symbols regs memory x w) (reg_value regs (cast_unsigned w64 n) w)
  reg_alone x n w is number v has =
      ap (λ (z : ℤ). reg_value regs (cast_unsigned w64 z) w) (sym number)
      ∙ reg_by (out-Rtx x).code (out-Rtx x).number (out-Rtx x).name (map as_read (out-Rtx x).kids) w is v (sym (value_at x (out-Rtx x) w refl) ∙ has)

  const_by : (c : Code) (n : ℤ) (name : List ℕ) (rs : List Reading) (w : Width) → c ≡ ConstInt →
      Too (value_by symbols regs memory (class_of_code c) c n name rs w) (Some (low w (cast_unsigned w64 n)))
  const_by ConstInt n name [] w is = λ v has. has
  const_by ConstInt n name (r ∷ []) w is = λ v none. absurd (let no : ⊥ = cc in no)
  const_by ConstInt n name (r ∷ s ∷ []) w is = λ v none. absurd (let no : ⊥ = cc in no)
  const_by ConstInt n name (r ∷ s ∷ u ∷ rs) w is = λ v none. absurd (let no : ⊥ = cc in no)
  const_by _ n name rs w is = absurd (let no : ⊥ = cc in no)

  pub const_alone : (x : Rtx) (n : ℤ) (w : Width) → (out-Rtx x).code ≡ ConstInt → (out-Rtx x).number ≡ n →
      Too (value_of symbols regs memory x w) (Some (low w (cast_unsigned w64 n)))
  const_alone x n w is number v has =
      ap (λ (z : ℤ). Some (low w (cast_unsigned w64 z))) (sym number)
      ∙ const_by (out-Rtx x).code (out-Rtx x).number (out-Rtx x).name (map as_read (out-Rtx x).kids) w is v (sym (value_at x (out-Rtx x) w refl) ∙ has)

  -- the low part of a tree has the tree's values
  pub lowpart_is : (x whole : Rtx) (w : Width) → (out-Rtx x).code ≡ Subreg → (out-Rtx x).kids ≡ whole ∷ [] →
      value_of symbols regs memory x w ≡ value_of symbols regs memory whole w
  lowpart_is x whole w is are =
      value_at x (out-Rtx x) w refl
      ∙ ap (λ (kids : List Rtx). value_by symbols regs memory (class_of_code (out-Rtx x).code) (out-Rtx x).code (out-Rtx x).number (out-Rtx x).name (map as_read kids) w) are
      ∙ ap (λ c. value_by symbols regs memory (class_of_code c) c (out-Rtx x).number (out-Rtx x).name (as_read whole ∷ []) w) is

  -- a sum of two trees
  pub plus_is : (x a b : Rtx) (w : Width) → (out-Rtx x).code ≡ Plus → (out-Rtx x).kids ≡ a ∷ b ∷ [] →
      value_of symbols regs memory x w ≡ of_two (λ m n. Some (sum_of w m n)) (value_of symbols regs memory a w) (value_of symbols regs memory b w)
  plus_is x a b w is are =
      value_at x (out-Rtx x) w refl
      ∙ ap (λ (kids : List Rtx). value_by symbols regs memory (class_of_code (out-Rtx x).code) (out-Rtx x).code (out-Rtx x).number (out-Rtx x).name (map as_read kids) w) are
      ∙ ap (λ c. value_by symbols regs memory (class_of_code c) c (out-Rtx x).number (out-Rtx x).name (as_read a ∷ as_read b ∷ []) w) is

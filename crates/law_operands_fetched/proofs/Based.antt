-- Operands whose address has its base in a slot, and far ones: what their addresses are.
use Rattle.std.proofs.Common.{◌≡◌, ◌⊎◌, inl, inr, ℕ, Bool, true, false, if◌then◌else◌, List, [], ◌∷◌, Option, Some, None, refl, sym, ap, subst, ◌∙◌, arith}
use Rattle.std.proofs.lemmas.Bool.{and_parts}
use Rattle.std.proofs.lemmas.Bool.Decides.{Decides-int_eq}
use Rattle.std.specs.Int.{cast_unsigned, w64}
use Rattle.std.specs.List.{list_all}
use Rattle.std.specs.Prelude.{ℤ, pos}
use Rattle.law_operands_replaced.specs.bits64.Words.{low, sum_of}
use Rattle.law_operands_replaced.specs.bits64.declared.Width.TheVariants.{W64}
use Rattle.law_operands_replaced.specs.rtx_tree.Code.{class_of_code}
use Rattle.law_operands_replaced.specs.rtx_tree.Tree.{head_of, kids_of, node_of, is_reg_numbered}
use Rattle.law_operands_replaced.specs.rtx_tree.declared.class.Class.{Class}
use Rattle.law_operands_replaced.specs.rtx_tree.declared.class.Class.TheVariants as class
use Rattle.law_operands_replaced.specs.rtx_tree.declared.code.Code.{Code}
use Rattle.law_operands_replaced.specs.rtx_tree.declared.code.Code.TheVariants as code
use Rattle.law_operands_replaced.specs.rtx_tree.declared.code.Mode.{Mode}
use Rattle.law_operands_replaced.specs.rtx_tree.declared.code.Mode.TheVariants.{DI}
use Rattle.law_operands_replaced.specs.rtx_tree.declared.machine.SymbolAt.{SymbolAt}
use Rattle.law_operands_replaced.specs.rtx_tree.declared.memories.MemByte.{MemByte}
use Rattle.law_operands_replaced.specs.rtx_tree.declared.tree.Rtx.{Rtx}
use Rattle.law_operands_replaced.proofs.rtx_tree.Trees.{head_of-tree}
use Rattle.law_operands_replaced.specs.run_memory.RunMemory.{load}
use Rattle.law_operands_replaced.specs.rtl_func.Shapes.{class_at, mode_at, number_at, is_bare, fits_row, is_shaped}
use Rattle.law_operands_replaced.proofs.rtl_func.AllPass.{all_pass, itself, within}
use Rattle.law_operands_replaced.specs.rtl_step.Regs.{Regs, reg_value}
use Rattle.law_operands_replaced.specs.rtl_step.Value.{value_of, of_one, of_two, binary}
use Rattle.rv_regs.specs.Registers.{stack_pointer}
use Rattle.md_operand.specs.Addresses.{is_stack_pointer, is_beyond, is_constant_at, is_constant, is_sum_at}
use Rattle.md_operand.specs.Operand.{is_far_by, is_far}
use Rattle.law_operands_replaced.specs.reload_operands.declared.operand.Base.{Base}
use Rattle.reload_choice.specs.reload_fit.Addressed.{address_on, offset_in_sum, offset_in_memory, far_offset, slot_offset}
use Rattle.law_operands_replaced.proofs.Fetches.{offset_by}
use Rattle.law_operands_fetched.proofs.Loads.{on_value}
use Rattle.law_operands_replaced.proofs.Settings.{value_mem}
use Rattle.law_operands_replaced.proofs.Valued.{by_row}

-- ---- bases

-- the memory of a base's slot, in a mode
abbrev pub slot_of : Mode → Base → Rtx
slot_of mode base = node_of code.Mem mode (address_on stack_pointer (slot_offset base) ∷ [])

-- a base that a slot holds, alone or with a constant added
pub data OnSlot (base : Base) : Rtx → Type 0 where
  alone : (mode : Mode) → base.added ≡ pos 0 → OnSlot base (slot_of mode base)
  added : (a c : Rtx) (mode : Mode) → (head_of a).code ≡ code.Plus → kids_of a ≡ slot_of mode base ∷ c ∷ [] →
      (head_of c).code ≡ code.ConstInt →
      (head_of c).number ≡ base.added → OnSlot base a

-- memory at such an address; or such a sum by itself, in DI
pub data IsBased (base : Base) : Rtx → Type 0 where
  place : (x a : Rtx) → (head_of x).code ≡ code.Mem → kids_of x ≡ a ∷ [] → OnSlot base a → IsBased base x
  alone : (x : Rtx) → (head_of x).code ≡ code.Plus → mode_at x ≡ DI → OnSlot base x → IsBased base x

slot_code : (mode : Mode) (base : Base) → (head_of (slot_of mode base)).code ≡ code.Mem
slot_code mode base = ap (λ (h : _). h.code) (head_of-tree _ _)

-- ---- what a tree says of its base, if it has one

abbrev base_by : Code → List Rtx → Rtx → Rtx
base_by code.Plus (a ∷ c ∷ []) x = a
base_by _ kids x = x

-- an address without what is added
abbrev pub base_part : Rtx → Rtx
base_part a = base_by (head_of a).code (kids_of a) a

abbrev added_by : Code → List Rtx → ℤ
added_by code.Plus (a ∷ c ∷ []) = (head_of c).number
added_by _ kids = pos 0

abbrev pub added_part : Rtx → ℤ
added_part a = added_by (head_of a).code (kids_of a)

abbrev address_by : Code → List Rtx → Rtx → Rtx
address_by code.Mem (a ∷ []) x = a
address_by _ kids x = x

-- the address of a memory; what is none is an address itself
abbrev pub address_part : Rtx → Rtx
address_part x = address_by (head_of x).code (kids_of x) x

slot_alone : (base : Base) (a : Rtx) (mode : Mode) → a ≡ slot_of mode base → (base_part a ≡ a) × (added_part a ≡ pos 0)
slot_alone base a mode is =
    let c : (head_of a).code ≡ code.Mem = ap (λ (x : Rtx). (head_of x).code) is ∙ slot_code mode base in
    (ap (λ c. base_by c (kids_of a) a) c, ap (λ c. added_by c (kids_of a)) c)

pub added_is : (base : Base) (a : Rtx) → OnSlot base a → added_part a ≡ base.added
added_is base _ (alone mode none) = (slot_alone base (slot_of mode base) mode refl).1 ∙ sym none
added_is base _ (added a c mode sum are constant number) = ap (λ c. added_by c (kids_of a)) sum ∙ ap (added_by code.Plus) are ∙ number

pub on_slot : (base : Base) (x : Rtx) → IsBased base x → OnSlot base (address_part x)
on_slot base _ (place x a memory are on) = subst (OnSlot base) (sym (ap (λ c. address_by c (kids_of x) x) memory ∙
    ap (λ ks. address_by code.Mem ks x) are)) on
on_slot base _ (alone x sum di on) = subst (OnSlot base) (sym (ap (λ c. address_by c (kids_of x) x) sum)) on

-- ---- far addresses

pub record SumParts (base : Rtx → Bool) (offset : ℤ → Bool) (c : Code) (kids : List Rtx) : Type 0 where
  pub first : Rtx
  pub second : Rtx
  pub code_is : c ≡ code.Plus
  pub kids_are : kids ≡ first ∷ second ∷ []
  pub is_base : base first ≡ true
  pub is_offset : is_constant offset second ≡ true

sum_parts : (base : Rtx → Bool) (offset : ℤ → Bool) (c : Code) (kids : List Rtx) →
    is_sum_at base offset c kids ≡ true → SumParts base offset c kids
sum_parts base offset code.Plus (a ∷ b ∷ []) is = let both = and_parts (base a) (is_constant offset b) is in
    record { first = a; second = b; code_is = refl; kids_are = refl; is_base = both.0; is_offset = both.1 }
sum_parts base offset code.Plus [] is = absurd (let no : ⊥ = cc in no)
sum_parts base offset code.Plus (a ∷ []) is = absurd (let no : ⊥ = cc in no)
sum_parts base offset code.Plus (a ∷ b ∷ c ∷ kids) is = absurd (let no : ⊥ = cc in no)
sum_parts base offset _ kids is = absurd (let no : ⊥ = cc in no)

pub record FarParts (c : Code) (kids : List Rtx) : Type 0 where
  pub address : Rtx
  pub code_is : c ≡ code.Mem
  pub kids_are : kids ≡ address ∷ []
  pub sum : SumParts is_stack_pointer is_beyond (head_of address).code (kids_of address)

far_parts : (c : Code) (kids : List Rtx) → is_far_by c kids ≡ true → FarParts c kids
far_parts code.Mem (a ∷ []) is = record {
  address = a;
  code_is = refl;
  kids_are = refl;
  sum = sum_parts is_stack_pointer is_beyond (head_of a).code (kids_of a) is;
}
far_parts code.Mem [] is = absurd (let no : ⊥ = cc in no)
far_parts code.Mem (a ∷ b ∷ kids) is = absurd (let no : ⊥ = cc in no)
far_parts _ kids is = absurd (let no : ⊥ = cc in no)

constant_code : (test : ℤ → Bool) (c : Code) (n : ℤ) → is_constant_at test c n ≡ true → c ≡ code.ConstInt
constant_code test code.ConstInt n is = refl
constant_code test _ n is = absurd (let no : ⊥ = cc in no)

reg_code : (c : Code) (n : ℤ) (reg : ℕ) → is_reg_numbered c n reg ≡ true → (c ≡ code.Reg) × (n ≡ pos reg)
reg_code code.Reg n reg is = (refl, (Decides-int_eq n (pos reg)).0 is)
reg_code _ n reg is = absurd (let no : ⊥ = cc in no)

far_by : (far : Bool) (x : Rtx) (n : ℤ) → is_far x ≡ far → (if far then offset_in_memory (kids_of x) else None) ≡ Some n →
    (f : FarParts (head_of x).code (kids_of x)) × ((head_of f.sum.second).number ≡ n)
far_by false x n is at = absurd (let no : ⊥ = cc in no)
far_by true x n is at =
    let f = far_parts (head_of x).code (kids_of x) is in
    let e : Some (head_of f.sum.second).number ≡ Some n = sym (ap offset_in_sum f.sum.kids_are) ∙
    sym (ap offset_in_memory f.kids_are) ∙ at in
    (f, (let same : (head_of f.sum.second).number ≡ n = cc in same))

-- a far memory, and what is added to sp in its address
pub far_is : (x : Rtx) (n : ℤ) → far_offset x ≡ Some n → (f : FarParts (head_of x).code (kids_of x)) × ((head_of f.sum.second).number ≡ n)
far_is x n at = far_by (is_far x) x n refl at

-- a slot is no register
slot_no_register : (base : Base) (mode : Mode) (a : Rtx) → a ≡ slot_of mode base → is_stack_pointer a ≡ true → ⊥
slot_no_register base mode a is pointer =
    let e : code.Mem ≡ code.Reg = sym (slot_code mode base) ∙ sym (ap (λ (x : Rtx). (head_of x).code) is) ∙
    (reg_code (head_of a).code (head_of a).number stack_pointer pointer).0 in let no : ⊥ = cc in no

on_slot_near : (base : Base) (a : Rtx) → OnSlot base a → SumParts is_stack_pointer is_beyond (head_of a).code (kids_of a) → ⊥
on_slot_near base _ (alone mode none) s =
    let e : code.Mem ≡ code.Plus = sym (slot_code mode base) ∙ s.code_is in let no : ⊥ = cc in no
on_slot_near base _ (added a c mode sum are constant number) s =
    let e : slot_of mode base ∷ c ∷ [] ≡ s.first ∷ s.second ∷ [] = sym are ∙ s.kids_are in
    slot_no_register base mode s.first (let same : slot_of mode base ≡ s.first = cc in sym same) s.is_base

-- what has its base in a slot is not far
pub based_near : (base : Base) (x : Rtx) (n : ℤ) → IsBased base x → far_offset x ≡ Some n → ⊥
based_near base _ n (place x a memory are on) at =
    let f = far_is x n at in
    let e : a ∷ [] ≡ f.0.address ∷ [] = sym are ∙ f.0.kids_are in
    let same : a ≡ f.0.address = cc in
    on_slot_near base f.0.address (subst (OnSlot base) same on) f.0.sum
based_near base _ n (alone x sum di on) at =
    let e : code.Plus ≡ code.Mem = sym sum ∙ (far_is x n at).0.code_is in let no : ⊥ = cc in no

-- ---- values

leaf_kids : (k : Class) (mode : Mode) (number : ℕ) (kids : List Rtx) → (k ≡ class.Constant) ⊎ (k ≡ class.Register) →
    fits_row k mode number kids ≡ true → kids ≡ []
leaf_kids k mode number [] is fits = refl
leaf_kids k mode number (a ∷ kids) (inl is) fits = absurd (never (subst (λ k. fits_row k mode number (a ∷ kids) ≡ true) is fits))
  where
    never : fits_row class.Constant mode number (a ∷ kids) ≡ true → ⊥
    never fits = by kids fits
      where
        by : (kids : List Rtx) → fits_row class.Constant mode number (a ∷ kids) ≡ true → ⊥
        by [] fits = let no : ⊥ = cc in no
        by (b ∷ []) fits = let no : ⊥ = cc in no
        by (b ∷ c ∷ []) fits = let no : ⊥ = cc in no
        by (b ∷ c ∷ d ∷ kids) fits = let no : ⊥ = cc in no
leaf_kids k mode number (a ∷ kids) (inr is) fits = absurd (never (subst (λ k. fits_row k mode number (a ∷ kids) ≡ true) is fits))
  where
    never : fits_row class.Register mode number (a ∷ kids) ≡ true → ⊥
    never fits = by kids fits
      where
        by : (kids : List Rtx) → fits_row class.Register mode number (a ∷ kids) ≡ true → ⊥
        by [] fits = let no : ⊥ = cc in no
        by (b ∷ []) fits = let no : ⊥ = cc in no
        by (b ∷ c ∷ []) fits = let no : ⊥ = cc in no
        by (b ∷ c ∷ d ∷ kids) fits = let no : ⊥ = cc in no

-- registers and constants have no parts
pub leaf_alone : (x : Rtx) → (class_at x ≡ class.Constant) ⊎ (class_at x ≡ class.Register) → is_shaped x ≡ true → kids_of x ≡ []
leaf_alone x is shaped = leaf_kids (class_at x) (mode_at x) (number_at x) (kids_of x) is
    (and_parts (is_bare (class_at x) (number_at x) (head_of x).name) _ shaped).1

class_by : (x : Rtx) (c : Code) → (head_of x).code ≡ c → class_at x ≡ class_of_code c
class_by x c is = ap class_of_code is

first_two : (x a b : Rtx) → all_pass is_shaped x ≡ true → kids_of x ≡ a ∷ b ∷ [] → (all_pass is_shaped a ≡ true) ×
    (all_pass is_shaped b ≡ true)
first_two x a b shaped are =
    let both = and_parts (all_pass is_shaped a) _ (ap (list_all (all_pass is_shaped)) (sym are) ∙ within is_shaped x shaped) in
    (both.0, (and_parts (all_pass is_shaped b) true both.1).0)

module _ (symbols : List SymbolAt) (regs : Regs) (memory : List MemByte) where
  abbrev value : Rtx → Option ℕ
  value x = value_of symbols regs memory x W64

  constant_value : (c : Rtx) → (head_of c).code ≡ code.ConstInt → is_shaped c ≡ true →
      value c ≡ Some (low W64 (cast_unsigned w64 (head_of c).number))
  constant_value c is shaped =
      let k : class_at c ≡ class.Constant = class_by c code.ConstInt is in
      by_row symbols regs memory c class.Constant [] W64 k (leaf_alone c (inl k) shaped)

  sum_value : (a x y : Rtx) (m n : ℕ) → (head_of a).code ≡ code.Plus → kids_of a ≡ x ∷ y ∷ [] → value x ≡ Some m → value y ≡ Some n →
      value a ≡ Some (sum_of W64 m n)
  sum_value a x y m n sum are first second =
      by_row symbols regs memory a class.Binary (x ∷ y ∷ []) W64 (class_by a code.Plus sum) are ∙
      ap (λ c. of_two (binary c W64) (value x) (value y)) sum ∙
      ap (λ o. of_two (binary code.Plus W64) o (value y)) first ∙ ap (of_two (binary code.Plus W64) (Some m)) second

  module _ (sp : ℕ) (pointer : reg_value regs stack_pointer W64 ≡ Some sp) (small : low W64 sp ≡ sp) where
    -- what stands in the slot of a base
    abbrev pub in_slot : Base → Option ℕ
    in_slot base = load W64 memory (offset_by symbols memory sp (slot_offset base))

    slot_value : (mode : Mode) (base : Base) → value (slot_of mode base) ≡ in_slot base
    slot_value mode base =
        value_mem symbols regs memory mode (address_on stack_pointer (slot_offset base)) W64 ∙
        ap (of_one (load W64 memory)) (on_value symbols memory regs stack_pointer sp (slot_offset base) pointer small)

    pub base_value : (base : Base) (a : Rtx) → OnSlot base a → value (base_part a) ≡ in_slot base
    base_value base _ (alone mode none) = ap value (slot_alone base (slot_of mode base) mode refl).0 ∙ slot_value mode base
    base_value base _ (added a c mode sum are constant number) =
        ap value (ap (λ c. base_by c (kids_of a) a) sum ∙ ap (λ ks. base_by code.Plus ks a) are) ∙ slot_value mode base

    nothing_more : (v : ℕ) (n : ℤ) → low W64 v ≡ v → n ≡ pos 0 → v ≡ offset_by symbols memory v n
    nothing_more v n fits none = (let e : v ≡ offset_by symbols memory v (pos 0) = omega (arith, fits) in e) ∙
        ap (offset_by symbols memory v) (sym none)

    -- the address of which it is the base
    pub address_value : (base : Base) (a : Rtx) (v : ℕ) → OnSlot base a → all_pass is_shaped a ≡ true →
        in_slot base ≡ Some v → low W64 v ≡ v →
        value a ≡ Some (offset_by symbols memory v base.added)
    address_value base _ v (alone mode none) shaped at fits = slot_value mode base ∙ at ∙ ap Some (nothing_more v base.added fits none)
    address_value base _ v (added a c mode sum are constant number) shaped at fits =
        sum_value a (slot_of mode base) c v (low W64 (cast_unsigned w64 (head_of c).number)) sum are (slot_value mode base ∙ at)
        (constant_value c constant (itself is_shaped c (first_two a (slot_of mode base) c shaped are).1)) ∙
        ap (λ n. Some (offset_by symbols memory v n)) number

    -- the address of a far memory
    pub far_value : (x : Rtx) (n : ℤ) → all_pass is_shaped x ≡ true → (f : FarParts (head_of x).code (kids_of x)) →
        (head_of f.sum.second).number ≡ n →
        value f.address ≡ Some (offset_by symbols memory sp n)
    far_value x n shaped f number =
        let inside : all_pass is_shaped f.address ≡ true =
        (and_parts (all_pass is_shaped f.address) true (ap (list_all (all_pass is_shaped)) (sym f.kids_are) ∙
        within is_shaped x shaped)).0 in
        let both = first_two f.address f.sum.first f.sum.second inside f.sum.kids_are in
        let r = reg_code (head_of f.sum.first).code (head_of f.sum.first).number stack_pointer f.sum.is_base in
        let k : class_at f.sum.first ≡ class.Register = class_by f.sum.first code.Reg r.0 in
        sum_value f.address f.sum.first f.sum.second sp (low W64 (cast_unsigned w64 (head_of f.sum.second).number))
        f.sum.code_is f.sum.kids_are
        (by_row symbols regs memory f.sum.first class.Register [] W64 k
        (leaf_alone f.sum.first (inr k) (itself is_shaped f.sum.first both.0)) ∙
        ap (λ n. reg_value regs (cast_unsigned w64 n) W64) r.1 ∙ pointer)
        (constant_value f.sum.second (constant_code is_beyond (head_of f.sum.second).code (head_of f.sum.second).number f.sum.is_offset)
        (itself is_shaped f.sum.second both.1)) ∙ ap (λ n. Some (offset_by symbols memory sp n)) number

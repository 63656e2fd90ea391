-- An operand with a register in its address is read as the operand, where the register holds the base that its slot has, or how far it is.
use Rattle.std.proofs.Common.{◌≡◌, ◌≢◌, ◌⊎◌, inl, inr, ℕ, ◌<◌, ◌^◌, Bool, true, false, if◌then◌else◌, List, [], ◌∷◌, Option, Some, None, refl, sym, ap, subst, ◌∙◌, arith}
use Rattle.std.specs.FinMap.{get}
use Rattle.std.specs.List.{list_all}
use Rattle.std.specs.Ordering.{int_eq}
use Rattle.std.specs.Prelude.{ℤ, pos}
use Rattle.std.proofs.lemmas.Bool.{and_parts}
use Rattle.law_operands_replaced.specs.bits64.Words.{low}
use Rattle.law_operands_replaced.specs.bits64.declared.Width.TheVariants.{W64}
use Rattle.law_operands_replaced.specs.rtx_tree.Code.{class_of_code}
use Rattle.law_operands_replaced.specs.rtx_tree.Patterns.{sum_rtx}
use Rattle.law_operands_replaced.specs.rtx_tree.Tree.{RtxHead, head_of, kids_of, tree_of, reg_of, const_of}
use Rattle.law_operands_replaced.specs.rtx_tree.declared.class.Class.{Class}
use Rattle.law_operands_replaced.specs.rtx_tree.declared.class.Class.TheVariants as class
use Rattle.law_operands_replaced.specs.rtx_tree.declared.code.Mode.TheVariants.{DI}
use Rattle.law_operands_replaced.specs.rtx_tree.declared.machine.SymbolAt.{SymbolAt}
use Rattle.law_operands_replaced.specs.rtx_tree.declared.memories.MemByte.{MemByte}
use Rattle.law_operands_replaced.specs.rtx_tree.declared.tree.Rtx.{Rtx}
use Rattle.law_operands_replaced.proofs.rtx_tree.Trees.{head_of-tree, kids_of-tree}
use Rattle.law_operands_replaced.specs.rtl_func.Shapes.{class_at, mode_at, is_shaped}
use Rattle.law_operands_replaced.proofs.rtl_func.AllPass.{all_pass, within}
use Rattle.law_operands_replaced.specs.rtl_step.Regs.{Regs, known_of, reg_value}
use Rattle.law_operands_replaced.specs.rtl_step.Value.{width_of, value_of}
use Rattle.law_operands_replaced.proofs.rtl_step.Too.{Too}
use Rattle.rv_regs.specs.Registers.{stack_pointer}
use Rattle.same_behaviour.specs.Lawful.{IsMemory}
use Rattle.law_operands_replaced.specs.sym_insns.Shape.{all_natural}
use Rattle.law_operands_replaced.specs.reload_operands.declared.operand.Base.{Base}
use Rattle.law_operands_replaced.specs.reload_operands.declared.operand.Operand.{Operand}
use Rattle.reload_choice.specs.reload_fit.Addressed.{address_on, addressed_by, addressed, address_in, on_register, far_offset}
use Rattle.law_operands_replaced.specs.Spare.{NamesNoSpare}
use Rattle.law_operands_replaced.proofs.Addresses.{is_new_class, IsNewTree, address_is}
use Rattle.law_operands_fetched.proofs.Based.{IsBased, place, alone, far_is, based_near, in_slot, address_value, far_value}
use Rattle.law_operands_fetched.proofs.Bounded.{load_fits, fits_low}
use Rattle.law_operands_replaced.proofs.Fetches.{offset_by}
use Rattle.law_operands_fetched.proofs.Loads.{at_address, on_value}
use Rattle.law_operands_fetched.proofs.NewOnes.{memory_reads, address_reads}
use Rattle.law_operands_replaced.proofs.Registers.{holds_low}
use Rattle.law_operands_replaced.proofs.Settings.{value_reg}

-- an operand of an instruction within the table of codes, whose homes are put in
pub record IsOperand (x : Operand) : Type 0 where
  pub shaped : all_pass is_shaped x.tree ≡ true
  pub natural : all_natural x.tree ≡ true
  pub quiet : NamesNoSpare x.tree
  -- it is moved in its own mode, if it has one
  pub mode : (width_of (mode_at x.tree) ≡ width_of x.mode) ⊎ (width_of (mode_at x.tree) ≡ None)
  -- a slot holds its base, if it has one
  pub based : (base : Base) → x.base ≡ Some base → IsBased base x.tree

-- what is far has no base
far_alone : (x : Operand) (n : ℤ) → IsOperand x → far_offset x.tree ≡ Some n → x.base ≡ None
far_alone x n is far = by x.base refl
  where
    by : (base : Option Base) → x.base ≡ base → base ≡ None
    by None at = refl
    by (Some base) at = absurd (based_near base x.tree n (is.based base at) far)

abbrev is_plain_class : Class → Bool
is_plain_class class.Register = true
is_plain_class class.Binary = true
is_plain_class _ = false

no_memory : (k : Class) → is_plain_class k ≡ true → k ≡ class.Memory → ⊥
no_memory k is memory = let e : true ≡ false = sym is ∙ ap is_plain_class memory in let no : ⊥ = cc in no

new_plain : (k : Class) → is_plain_class k ≡ true → is_new_class k ≡ true
new_plain class.Register is = refl
new_plain class.Binary is = refl
new_plain _ is = absurd (let no : ⊥ = cc in no)

-- an address on a register is the register or a sum, in DI
on_by : (none : Bool) (reg : ℕ) (n : ℤ) → let y = if none then reg_of DI reg else sum_rtx (reg_of DI reg) (const_of n) in
    (is_plain_class (class_at y) ≡ true) × (width_of (mode_at y) ≡ Some W64)
on_by true reg n = (
  ap (λ (h : RtxHead). is_plain_class (class_of_code h.code)) (head_of-tree _ _),
  ap (λ (h : RtxHead). width_of h.mode) (head_of-tree _ _),
)
on_by false reg n = (
  ap (λ (h : RtxHead). is_plain_class (class_of_code h.code)) (head_of-tree _ _),
  ap (λ (h : RtxHead). width_of h.mode) (head_of-tree _ _),
)

-- memory at another address
moved_mode : (t address : Rtx) → width_of (mode_at (tree_of (head_of t) (address ∷ []))) ≡ width_of (mode_at t)
moved_mode t address = ap (λ (h : RtxHead). width_of h.mode) (head_of-tree (head_of t) (address ∷ []))

mode_by : (t : Rtx) (base : Base) (reg : ℕ) → IsBased base t → width_of
    (mode_at (addressed (address_on reg base.added) t)) ≡ width_of (mode_at t)
mode_by _ base reg (place t a is are on) =
    ap (λ c. width_of (mode_at (addressed_by c (address_on reg base.added) t))) is ∙ moved_mode t (address_on reg base.added)
mode_by _ base reg (alone t is di on) =
    ap (λ c. width_of (mode_at (addressed_by c (address_on reg base.added) t))) is ∙
    (on_by (int_eq base.added (pos 0)) reg base.added).1 ∙ sym (ap width_of di)

-- with a register in its address it keeps its mode
pub based_mode : (x : Operand) (base : Base) (reg : ℕ) → IsOperand x → x.base ≡ Some base →
    width_of (mode_at (on_register reg x)) ≡ width_of (mode_at x.tree)
based_mode x base reg is based =
    ap (λ o. width_of (mode_at (addressed (address_in reg o) x.tree))) based ∙ mode_by x.tree base reg (is.based base based)

pub far_mode : (x : Operand) (n : ℤ) (reg : ℕ) → IsOperand x → far_offset x.tree ≡ Some n →
    width_of (mode_at (on_register reg x)) ≡ width_of (mode_at x.tree)
far_mode x n reg is far =
    ap (λ o. width_of (mode_at (addressed (address_in reg o) x.tree))) (far_alone x n is far) ∙
    ap (λ c. width_of (mode_at (addressed_by c (reg_of DI reg) x.tree))) (far_is x.tree n far).0.code_is ∙ moved_mode x.tree (reg_of DI reg)

moved_class : (t address : Rtx) → class_at t ≡ class.Memory → class_at (tree_of (head_of t) (address ∷ [])) ≡ class.Memory
moved_class t address is = ap (λ (h : RtxHead). class_of_code h.code) (head_of-tree (head_of t) (address ∷ [])) ∙ is

class_by : (t : Rtx) (base : Base) (reg : ℕ) → IsBased base t → (class_at
    (addressed (address_on reg base.added) t) ≡ class.Memory) ⊎ (class_at t ≡ class.Binary)
class_by _ base reg (place t a is are on) = inl (ap (λ c. class_at (addressed_by c (address_on reg base.added) t)) is ∙
    moved_class t (address_on reg base.added) (ap class_of_code is))
class_by _ base reg (alone t is di on) = inr (ap class_of_code is)

-- it is memory, or the operand is a sum
pub based_class : (x : Operand) (base : Base) (reg : ℕ) → IsOperand x → x.base ≡ Some base →
    (class_at (on_register reg x) ≡ class.Memory) ⊎ (class_at x.tree ≡ class.Binary)
based_class x base reg is based = subst (λ (y : Rtx). (class_at y ≡ class.Memory) ⊎ (class_at x.tree ≡ class.Binary))
    (sym (ap (λ o. addressed (address_in reg o) x.tree) based)) (class_by x.tree base reg (is.based base based))

pub far_class : (x : Operand) (n : ℤ) (reg : ℕ) → IsOperand x → far_offset x.tree ≡ Some n → class_at (on_register reg x) ≡ class.Memory
far_class x n reg is far =
    let m = (far_is x.tree n far).0.code_is in
    ap (λ o. class_at (addressed (address_in reg o) x.tree)) (far_alone x n is far) ∙
    ap (λ c. class_at (addressed_by c (reg_of DI reg) x.tree)) m ∙
    moved_class x.tree (reg_of DI reg) (ap class_of_code m)

module _ (symbols : List SymbolAt) (regs other : Regs) (memory : List MemByte) where
  both_too : (a b : Option ℕ) (n : ℕ) → a ≡ Some n → b ≡ Some n → Too a b
  both_too a b n first second v is = second ∙ sym first ∙ is

  -- memory at an address with the same value
  memory_new : (t a b : Rtx) → class_at t ≡ class.Memory → kids_of t ≡ a ∷ [] →
      Too (value_of symbols regs memory a W64) (value_of symbols other memory b W64) →
      IsNewTree symbols regs other memory t (at_address symbols memory b t)
  memory_new t a b is are too =
      let y = at_address symbols memory b t in
      let head : head_of y ≡ head_of t = head_of-tree (head_of t) (b ∷ []) in
      let kids : kids_of y ≡ b ∷ [] = kids_of-tree (head_of t) (b ∷ []) in
      let is' : class_at y ≡ class.Memory = ap (λ (h : RtxHead). class_of_code h.code) head ∙ is in
      let mode : mode_at y ≡ mode_at t = ap (λ (h : RtxHead). h.mode) head in record {
        class_is = ap is_new_class is';
        reads = memory_reads symbols regs other memory t y a b is is' mode are kids too;
        address = λ _. record {
          first = a;
          second = b;
          first_is = address_is t a is are;
          second_is = address_is y b is' kids;
          mode_is = ap width_of mode;
          value = too;
        };
      }

  module _ (sp : ℕ) (pointer : reg_value regs stack_pointer W64 ≡ Some sp) (small : low W64 sp ≡ sp) (is_memory : IsMemory memory) where
    abbrev on_n : ℕ → ℤ → Rtx
    on_n reg n = address_on reg n

    sum_new : (t : Rtx) (base : Base) (reg v : ℕ) → mode_at t ≡ DI →
        Too (value_of symbols regs memory t W64) (value_of symbols other memory (address_on reg base.added) W64) →
        IsNewTree symbols regs other memory t (address_on reg base.added)
    sum_new t base reg v di too = let is = on_by (int_eq base.added (pos 0)) reg base.added in record {
      class_is = new_plain _ is.0;
      reads = address_reads symbols regs other memory t (address_on reg base.added) (ap width_of di) is.1 too;
      address = λ is_memory. absurd (no_memory _ is.0 is_memory);
    }

    based_by : (t : Rtx) (base : Base) (reg v : ℕ) → IsBased base t → all_pass is_shaped t ≡ true → reg ≢ 0 →
        in_slot symbols regs memory sp pointer small base ≡ Some v → get other reg ≡ Some (known_of W64 v) →
        IsNewTree symbols regs other memory t (addressed (address_on reg base.added) t)
    based_by _ base reg v (place t a is are on) shaped some at holds =
        let fits : low W64 v ≡ v = fits_low W64 v (load_fits memory is_memory W64 _ v at) in
        let inside : all_pass is_shaped a ≡ true =
        (and_parts (all_pass is_shaped a) true (ap (list_all (all_pass is_shaped)) (sym are) ∙ within is_shaped t shaped)).0 in
        subst (IsNewTree symbols regs other memory t) (sym (ap (λ c. addressed_by c (address_on reg base.added) t) is))
        (memory_new t a (address_on reg base.added) (ap class_of_code is) are
        (both_too _ _ (offset_by symbols memory v base.added) (address_value symbols regs memory sp pointer small base
        a v on inside at fits)
        (on_value symbols memory other reg v base.added (holds_low other reg v W64 some holds ∙ ap Some fits) fits)))
    based_by _ base reg v (alone t is di on) shaped some at holds =
        let fits : low W64 v ≡ v = fits_low W64 v (load_fits memory is_memory W64 _ v at) in
        subst (IsNewTree symbols regs other memory t) (sym (ap (λ c. addressed_by c (address_on reg base.added) t) is))
        (sum_new t base reg v di
        (both_too _ _ (offset_by symbols memory v base.added) (address_value symbols regs memory sp pointer small base
        t v on shaped at fits)
        (on_value symbols memory other reg v base.added (holds_low other reg v W64 some holds ∙ ap Some fits) fits)))

    -- where the register holds what the slot of its base has
    pub based_new : (x : Operand) (base : Base) (reg v : ℕ) → IsOperand x → x.base ≡ Some base → reg ≢ 0 →
        in_slot symbols regs memory sp pointer small base ≡ Some v → get other reg ≡ Some (known_of W64 v) →
        IsNewTree symbols regs other memory x.tree (on_register reg x)
    based_new x base reg v is based some at holds =
        subst (IsNewTree symbols regs other memory x.tree) (sym (ap (λ o. addressed (address_in reg o) x.tree) based))
        (based_by x.tree base reg v (is.based base based) is.shaped some at holds)

    -- where the register holds sp and how far the operand is from it
    pub far_new : (x : Operand) (n : ℤ) (reg : ℕ) → IsOperand x → far_offset x.tree ≡ Some n → reg ≢ 0 →
        get other reg ≡ Some (known_of W64 (offset_by symbols memory sp n)) → IsNewTree symbols regs other memory x.tree (on_register reg x)
    far_new x n reg is far some holds =
        let f = far_is x.tree n far in
        let fits : low W64 (offset_by symbols memory sp n) ≡ offset_by symbols memory sp n = fits_low W64 _ (below sp n) in
        subst (IsNewTree symbols regs other memory x.tree)
        (sym (ap (λ o. addressed (address_in reg o) x.tree) (far_alone x n is far) ∙
        ap (λ c. addressed_by c (reg_of DI reg) x.tree) f.0.code_is))
        (memory_new x.tree f.0.address (reg_of DI reg) (ap class_of_code f.0.code_is) f.0.kids_are
        (both_too _ _ (offset_by symbols memory sp n) (far_value symbols regs memory sp pointer small x.tree n is.shaped f.0 f.1)
        (value_reg symbols other memory DI reg W64 ∙ holds_low other reg _ W64 some holds ∙ ap Some fits)))
      where
        below : (sp : ℕ) (n : ℤ) → offset_by symbols memory sp n < 2 ^ 64
        below sp n = omega arith

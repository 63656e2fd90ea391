-- Memory at an address that a load or a store reaches.
use Rattle.std.proofs.Common.{◌≡◌, ℕ, pos, negsuc, ◌<◌, ◌==◌, Bool, true, false, ◌||◌, nat_le, nat_lt, List, [], ◌∷◌, refl, sym, ap, subst, ◌∙◌, arith}
use Rattle.std.proofs.lemmas.Bool.Decides.{nat_tests}
use Rattle.std.specs.Prelude.{ℤ}
use Rattle.rtx_tree.specs.declared.code.Code.{Code}
use Rattle.rtx_tree.specs.declared.code.Code.TheVariants as code
use Rattle.rtx_tree.specs.declared.code.Mode.{Mode}
use Rattle.rtx_tree.specs.declared.code.Mode.TheVariants.{DI}
use Rattle.rtx_tree.specs.declared.class.Class.{Class}
use Rattle.rtx_tree.specs.declared.class.Class.TheVariants as class
use Rattle.rtx_tree.specs.declared.tree.Rtx.{Rtx, out-Rtx, roll-Rtx}
use Rattle.rtx_tree.specs.Code.{class_of_code}
use Rattle.rtx_tree.specs.Tree.{is_reg_numbered}
use Rattle.rtl_func.specs.Shapes as shapes
use Rattle.rtl_func.specs.Shapes.{number_at, is_shaped, is_nameless, is_operand, is_value, is_constant_class, fits_row, fits_two}
use Rattle.md_operand.specs.Addresses as addresses
use Rattle.md_operand.specs.Addresses.{is_base, is_base_at, is_near, is_stack_vars, is_any, is_sum, is_sum_at, is_constant_at, is_legitimate_address, is_frame_reference, is_far_address}
use Rattle.md_operand.specs.Operand.{has_mode, is_constant_code, is_memory, is_memory_by, is_far, is_far_by}
use Rattle.rtx_open.proofs.Expressions.{Written, node, none, with, rtx}
use Rattle.law_plain_leaves.specs.Machine.{is_machine_by, is_machine, AreShaped, AreMachine}
use Rattle.law_plain_leaves.proofs.Shaped.{Each, tree_is, two_of, row_is, itself, parts}
use Rattle.law_plain_leaves.proofs.Leaves.{IsMode, mode_is, nameless_is, register, register_in, machine_at, IsRegister, number, constant_is}

-- ---- addresses

-- a register alone, or a sum with an offset, whose own number no one looks at
pub data Place : Type 0 where
  alone : ℕ → Place
  reached : ℤ → ℕ → ℤ → Place

abbrev pub address : Place → Written
address (alone a) = register DI a
address (reached z a k) = node code.Plus DI z [] (with (register DI a) (with (number k) none))

-- the base, and the offset
abbrev pub base_of : Place → ℕ
base_of (alone a) = a
base_of (reached z a k) = a

abbrev pub offset_of : Place → ℤ
offset_of (alone a) = pos 0
offset_of (reached z a k) = k

-- it is a register of the machine, and an offset for which there is room
pub record IsReached (p : Place) : Type 0 where
  pub base : base_of p < 31
  pub offset : is_near (offset_of p) ≡ true

-- a tree is an address
pub record IsAddress (x : Rtx) : Type 0 where
  pub place : Place
  pub reached : IsReached place
  pub is : x ≡ rtx (address place)

-- ---- what an address asks of its parts

-- of mode DI, where it is no constant
operand_mode : (x : Rtx) (row : Class) → shapes.class_at x ≡ row → is_constant_class row ≡ false → is_operand DI x ≡ true → (out-Rtx x).mode ≡ DI
operand_mode x row class other is =
    let two = two_of (is_value x) (shapes.is_constant x || shapes.same_mode DI (out-Rtx x).mode) is in
    let moded = ap (λ b. b || shapes.same_mode DI (out-Rtx x).mode) (sym (ap is_constant_class class ∙ other)) ∙ two.1 in
    from_word (out-Rtx x).mode moded
  where
    from_word : (m : Mode) → shapes.same_mode DI m ≡ true → m ≡ DI
    from_word DI is = refl
    from_word _ is = absurd (let no : ⊥ = cc in no)

base_code : (c : Code) (z : ℤ) → is_base_at c z ≡ true → c ≡ code.Reg
base_code code.Reg z is = refl
base_code _ z is = absurd (let no : ⊥ = cc in no)

-- a base of mode DI
base_is : (x : Rtx) → is_shaped x ≡ true → is_machine x ≡ true → is_operand DI x ≡ true → is_base x ≡ true → IsRegister x DI
base_is x shaped machine operand is =
    let here = base_code (out-Rtx x).code (out-Rtx x).number is in
    let n = machine_at x here machine in
    record { number = n.number; small = n.small; is = register_in x DI n.number shaped here n.is (operand_mode x class.Register (ap class_of_code here) refl operand) }

offset_code : (test : ℤ → Bool) (c : Code) (z : ℤ) → is_constant_at test c z ≡ true → (c ≡ code.ConstInt) × (test z ≡ true)
offset_code test code.ConstInt z is = (refl, is)
offset_code test _ z is = absurd (let no : ⊥ = cc in no)

-- no register of the machine is virtual-stack-vars
no_stack_vars : (c : Code) (z : ℤ) → is_machine_by c z ≡ true → is_reg_numbered c z 32 ≡ true → ⊥
no_stack_vars code.Reg (pos n) machine is = let two = two_of (nat_le 1 n) (nat_lt n 32) machine in grind (arith, nat_tests, two, is)
no_stack_vars code.Reg (negsuc n) machine is = cc
no_stack_vars _ z machine is = let no : ⊥ = cc in no

-- ---- a sum

-- what a sum is of
pub record IsSumOf (base : Rtx → Bool) (offset : ℤ → Bool) (c : Code) (kids : List Rtx) : Type 0 where
  pub left : Rtx
  pub right : Rtx
  pub code : c ≡ code.Plus
  pub kids_are : kids ≡ left ∷ right ∷ []
  pub base_holds : base left ≡ true
  pub offset_holds : addresses.is_constant offset right ≡ true

sum_of : (base : Rtx → Bool) (offset : ℤ → Bool) (c : Code) (kids : List Rtx) → is_sum_at base offset c kids ≡ true → IsSumOf base offset c kids
sum_of base offset code.Plus (a ∷ b ∷ []) is =
    let two = two_of (base a) (addresses.is_constant offset b) is in
    record { left = a; right = b; code = refl; kids_are = refl; base_holds = two.0; offset_holds = two.1 }
sum_of base offset _ kids is = absurd (let no : ⊥ = cc in no)

abbrev sum_with : ℤ → Rtx → Rtx → Rtx
sum_with z b a = roll-Rtx (record { code = code.Plus; mode = DI; number = z; name = []; kids = a ∷ b ∷ [] })

abbrev sum_with_base : ℤ → Rtx → Rtx → Rtx
sum_with_base z a b = sum_with z b a

sum_is : (x : Rtx) → AreShaped x → AreMachine x → is_operand DI x ≡ true → is_sum is_base is_near x ≡ true → IsAddress x
sum_is x shaped machine operand is =
    let s = sum_of is_base is_near (out-Rtx x).code (out-Rtx x).kids is in
    let row = row_is x code.Plus s.code (itself is_shaped x shaped) in
    let mode = operand_mode x class.Binary (ap class_of_code s.code) refl operand in
    let own = subst (Each is_shaped) s.kids_are (parts is_shaped x shaped) in
    let own_machine = subst (Each is_machine) s.kids_are (parts is_machine x machine) in
    let fits = ap (λ kids. fits_row class.Binary (out-Rtx x).mode (number_at x) kids) (sym s.kids_are) ∙ row.fits in
    let in_word = ap (λ m. fits_two class.Binary m s.left s.right) (sym mode) ∙ fits in
    let operands = two_of (is_operand DI s.left) (is_operand DI s.right) in_word in
    let base = base_is s.left (itself is_shaped s.left own.0) (itself is_machine s.left own_machine.0) operands.0 s.base_holds in
    let near = offset_code is_near (out-Rtx s.right).code (out-Rtx s.right).number s.offset_holds in
    let offset = constant_is s.right (itself is_shaped s.right own.1.0) (ap is_constant_code near.0) in
    let name = nameless_is (out-Rtx x).name (two_of (number_at x == 0) (is_nameless (out-Rtx x).name) row.bare).1 in
    let whole = tree_is x code.Plus DI (out-Rtx x).number [] (s.left ∷ s.right ∷ []) (record { code = s.code; mode = mode; number = refl; name = name; kids_are = s.kids_are }) in
    record {
      place = reached (out-Rtx x).number base.number (out-Rtx s.right).number;
      reached = record { base = base.small; offset = near.1 };
      is = whole ∙ ap (sum_with (out-Rtx x).number s.right) base.is ∙ ap (sum_with_base (out-Rtx x).number (rtx (register DI base.number))) offset;
    }

-- ---- no reference to the frame

no_frame_sum : (x : Rtx) → AreMachine x → is_sum is_stack_vars is_any x ≡ true → ⊥
no_frame_sum x machine is =
    let s = sum_of is_stack_vars is_any (out-Rtx x).code (out-Rtx x).kids is in
    let own = subst (Each is_machine) s.kids_are (parts is_machine x machine) in
    no_stack_vars (out-Rtx s.left).code (out-Rtx s.left).number (itself is_machine s.left own.0) s.base_holds

no_frame : (x : Rtx) → AreMachine x → is_frame_reference x ≡ true → ⊥
no_frame x machine is = go (is_stack_vars x) refl is
  where
    go : (b : Bool) → is_stack_vars x ≡ b → (b || is_sum is_stack_vars is_any x) ≡ true → ⊥
    go true here is = no_stack_vars (out-Rtx x).code (out-Rtx x).number (itself is_machine x machine) here
    go false here is = no_frame_sum x machine is

-- ---- addresses, and memory

pub address_is : (x : Rtx) → AreShaped x → AreMachine x → is_operand DI x ≡ true → is_legitimate_address x ≡ true → is_far_address x ≡ false → IsAddress x
address_is x shaped machine operand is near = go (is_base x) (is_sum is_base is_near x) (is_frame_reference x) refl refl refl is
  where
    go : (base sum frame : Bool) → is_base x ≡ base → is_sum is_base is_near x ≡ sum → is_frame_reference x ≡ frame → ((base || sum) || (frame || is_far_address x)) ≡ true → IsAddress x
    go true sum frame here there other is =
        let r = base_is x (itself is_shaped x shaped) (itself is_machine x machine) operand here in
        record { place = alone r.number; reached = record { base = r.small; offset = refl }; is = r.is }
    go false true frame here there other is = sum_is x shaped machine operand there
    go false false true here there other is = absurd (no_frame x machine other)
    go false false false here there other is = absurd (let no : ⊥ = cc in no)

-- memory of a mode
pub record IsMemory (x : Rtx) (m : Mode) : Type 0 where
  pub number : ℤ
  pub place : Place
  pub reached : IsReached place
  pub is : x ≡ rtx (node code.Mem m number [] (with (address place) none))

pub record IsMemoryAt (c : Code) (kids : List Rtx) : Type 0 where
  pub at : Rtx
  pub code : c ≡ code.Mem
  pub kids_are : kids ≡ at ∷ []
  pub legitimate : is_legitimate_address at ≡ true

memory_of : (c : Code) (kids : List Rtx) → is_memory_by c kids ≡ true → IsMemoryAt c kids
memory_of code.Mem (a ∷ []) is = record { at = a; code = refl; kids_are = refl; legitimate = is }
memory_of _ kids is = absurd (let no : ⊥ = cc in no)

abbrev memory_with : Mode → ℤ → Rtx → Rtx
memory_with m z a = roll-Rtx (record { code = code.Mem; mode = m; number = z; name = []; kids = a ∷ [] })

pub memory_is : (x : Rtx) (m : Mode) → IsMode m → AreShaped x → AreMachine x → is_memory x ≡ true → is_far x ≡ false → has_mode m x ≡ true → IsMemory x m
memory_is x m is shaped machine accepted near moded =
    let a = memory_of (out-Rtx x).code (out-Rtx x).kids accepted in
    let row = row_is x code.Mem a.code (itself is_shaped x shaped) in
    let own = subst (Each is_shaped) a.kids_are (parts is_shaped x shaped) in
    let own_machine = subst (Each is_machine) a.kids_are (parts is_machine x machine) in
    let fits = ap (λ kids. fits_row class.Memory (out-Rtx x).mode (number_at x) kids) (sym a.kids_are) ∙ row.fits in
    let operand = (two_of (shapes.has_mode (out-Rtx x).mode) (is_operand DI a.at) fits).1 in
    let reached = ap (λ kids. is_far_by code.Mem kids) (sym a.kids_are) ∙ (ap (λ c. is_far_by c (out-Rtx x).kids) (sym a.code) ∙ near) in
    let there = address_is a.at own.0 own_machine.0 operand a.legitimate reached in
    let name = nameless_is (out-Rtx x).name (two_of (number_at x == 0) (is_nameless (out-Rtx x).name) row.bare).1 in
    let whole = tree_is x code.Mem m (out-Rtx x).number [] (a.at ∷ []) (record { code = a.code; mode = mode_is m (out-Rtx x).mode is moded; number = refl; name = name; kids_are = a.kids_are }) in
    record { number = (out-Rtx x).number; place = there.place; reached = there.reached; is = whole ∙ ap (memory_with m (out-Rtx x).number) there.is }

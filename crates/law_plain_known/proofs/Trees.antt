-- What the manual's predicates accept of trees that passes make: registers, constants, and memory at a
-- register or near it.
use Rattle.std.proofs.Common.{◌≡◌, ℕ, pos, Bool, true, false, not, ◌&&◌, ◌||◌, List, [], ◌∷◌, refl, ap, ◌∙◌}
use Rattle.std.specs.Prelude.{ℤ}
use Rattle.std.specs.Ordering.{int_eq}
use Rattle.rtx_tree.specs.declared.code.Code.TheVariants as code
use Rattle.rtx_tree.specs.declared.code.Mode.{Mode}
use Rattle.rtx_tree.specs.declared.code.Mode.TheVariants.{Void, QI, HI, SI, DI}
use Rattle.rtx_tree.specs.declared.tree.Rtx.{Rtx}
use Rattle.rtx_tree.specs.Patterns.{sum_rtx}
use Rattle.rtx_tree.specs.Tree.{node_of, reg_of, const_of}
use Rattle.md_operand.specs.Addresses.{is_base, is_base_at, is_near, is_constant_at, is_sum, is_sum_at, is_near_address, is_legitimate_address, is_frame_reference, is_far_address}
use Rattle.md_operand.specs.Addresses as addresses
use Rattle.md_operand.specs.Operand.{accepts_mode, is_register_by, is_constant_code, is_extended, is_memory_by, register_operand, const_int_operand, memory_operand}
use Rattle.rtx_open.proofs.Expressions.{Written, node, any, none, with, rtx, outside_is}
use Rattle.law_plain_known.specs.Registers.{IsTrueRegister}

pub first_true : (p q : Bool) → p ≡ true → (p || q) ≡ true
first_true true q is = refl
first_true false q is = cc

pub second_true : (p q : Bool) → q ≡ true → (p || q) ≡ true
second_true true q is = refl
second_true false q is = is

pub both_true : (p q : Bool) → p ≡ true → q ≡ true → (p && q) ≡ true
both_true true q one other = other
both_true false q one other = cc

pub own_mode : (m : Mode) → accepts_mode m m ≡ true
own_mode Void = refl
own_mode QI = refl
own_mode HI = refl
own_mode SI = refl
own_mode DI = refl

-- ---- trees, as they are written

abbrev register : Mode → ℕ → Written
register m reg = node code.Reg m (pos reg) [] none

abbrev number : ℤ → Written
number z = node code.ConstInt Void z [] none

abbrev memory : Mode → Rtx → Written
memory m address = node code.Mem m (pos 0) [] (with (any address) none)

abbrev sum : Rtx → Rtx → Written
sum a b = node code.Plus DI (pos 0) [] (with (any a) (with (any b) none))

-- ---- registers and constants

not_false : (b : Bool) → b ≡ false → not b ≡ true
not_false true is = cc
not_false false is = refl

pub base : (m : Mode) (reg : ℕ) → IsTrueRegister reg → is_base (reg_of m reg) ≡ true
base m reg other = ap (λ o. is_base_at o.code o.number) (outside_is (register m reg)) ∙ not_false (int_eq (pos reg) (pos 32)) other

pub register_taken : (m : Mode) (reg : ℕ) → IsTrueRegister reg → register_operand m (reg_of m reg) ≡ true
register_taken m reg other =
    let x = reg_of m reg in
    ap (λ o. is_register_by o.code x o.kids && accepts_mode m o.mode) (outside_is (register m reg)) ∙ both_true (is_base x) (accepts_mode m m) (base m reg other) (own_mode m)

-- a constant in DI
pub constant_taken : (z : ℤ) → const_int_operand DI (const_of z) ≡ true
constant_taken z = ap (λ o. is_constant_code o.code && is_extended DI o.number) (outside_is (number z))

-- and one of any mode
pub constant_within : (m : Mode) (z : ℤ) → is_extended m z ≡ true → const_int_operand m (const_of z) ≡ true
constant_within m z within = ap (λ o. is_constant_code o.code && is_extended m o.number) (outside_is (number z)) ∙ within

-- ---- memory

pub base_reached : (reg : ℕ) → IsTrueRegister reg → is_legitimate_address (reg_of DI reg) ≡ true
base_reached reg other =
    let x = reg_of DI reg in
    first_true (is_near_address x) (is_frame_reference x || is_far_address x) (first_true (is_base x) (is_sum is_base is_near x) (base DI reg other))

near_sum : (a : Rtx) (z : ℤ) → is_base a ≡ true → is_near z ≡ true → is_sum is_base is_near (sum_rtx a (const_of z)) ≡ true
near_sum a z base near =
    ap (λ o. is_sum_at is_base is_near o.code o.kids) (outside_is (sum a (const_of z))) ∙
    both_true (is_base a) (addresses.is_constant is_near (const_of z)) base (ap (λ o. is_constant_at is_near o.code o.number) (outside_is (number z)) ∙ near)

pub sum_reached : (reg : ℕ) (z : ℤ) → IsTrueRegister reg → is_near z ≡ true → is_legitimate_address (sum_rtx (reg_of DI reg) (const_of z)) ≡ true
sum_reached reg z other near =
    let x = sum_rtx (reg_of DI reg) (const_of z) in
    first_true (is_near_address x) (is_frame_reference x || is_far_address x) (second_true (is_base x) (is_sum is_base is_near x) (near_sum (reg_of DI reg) z (base DI reg other) near))

pub memory_taken : (m : Mode) (address : Rtx) → is_legitimate_address address ≡ true → memory_operand m (node_of code.Mem m (address ∷ [])) ≡ true
memory_taken m address reached =
    ap (λ o. is_memory_by o.code o.kids && accepts_mode m o.mode) (outside_is (memory m address)) ∙ both_true (is_legitimate_address address) (accepts_mode m m) reached (own_mode m)

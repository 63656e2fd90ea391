-- What operands of plain instructions need can be had: registers, their low parts, and legitimate addresses.
use Rattle.std.proofs.Common.{◌≡◌, ℕ, zero, suc, ◌==◌, pos, Bool, true, false, ◌&&◌, ◌||◌, nat_le, List, [], ◌∷◌, ◌++◌, map, Option, Some, None, refl, sym, ap, subst, ◌∙◌}
use Rattle.std.proofs.lemmas.Bool.{and_from, and_parts}
use Rattle.std.specs.Prelude.{ℤ}
use Rattle.std.specs.Int.{cast_unsigned, w64}
use Rattle.std.specs.List.{AllByRecursion}
use Rattle.bits64.specs.declared.Width.{Width}
use Rattle.bits64.specs.declared.Width.TheVariants.{W8, W16, W32, W64}
use Rattle.bits64.specs.Words.{bits_of}
use Rattle.rtx_tree.specs.Code.{class_of_code}
use Rattle.rtx_tree.specs.declared.class.Class.TheVariants as class
use Rattle.rtx_tree.specs.declared.code.Code.{Code}
use Rattle.rtx_tree.specs.declared.code.Code.TheVariants as code
use Rattle.rtx_tree.specs.declared.code.Mode.{Mode}
use Rattle.rtx_tree.specs.declared.tree.Rtx.{Rtx, out-Rtx}
use Rattle.rtx_tree.specs.declared.tree.Rtx.TheFolds.{fold_out-Rtx}
use Rattle.rtx_tree.specs.Tree.{is_stack_vars, is_reg_numbered, kids_of}
use Rattle.rtl_func.specs.Shapes.{is_shaped, is_bare, fits_row, number_at}
use Rattle.rtl_func.proofs.AllPass as passing
use Rattle.md_operand.specs.Addresses.{is_base, is_base_at, is_near, is_beyond, is_any, is_sum, is_sum_at, is_constant_at, is_stack_pointer, is_near_address, is_frame_reference, is_far_address, is_legitimate_address}
use Rattle.md_operand.specs.Addresses as addresses
use Rattle.md_operand.specs.Operand.{is_register, is_register_by}
use Rattle.sym_state.specs.State.{Need, Register}
use Rattle.sym_state.specs.Registers.{read_needs}
use Rattle.sym_diff.specs.Compared.{covers}
use Rattle.sym_diff.proofs.NumberLaws.{itself}
use Rattle.sym_insns.specs.Value.{Made, Reading, made_by, reading_step, reading_of, made_of}
use Rattle.law_plain_leaves.proofs.Leaves.{register_parts}
use Rattle.law_set_before.specs.Before.{CanBeHad}
use Rattle.law_plain_equated.proofs.Wells.{IsWell, well_parts}

abbrev pub AllHad : List Need → Type 0
AllHad needs = AllByRecursion CanBeHad needs

pub had_both : (xs ys : List Need) → AllHad xs → AllHad ys → AllHad (xs ++ ys)
had_both [] ys one other = other
had_both (x ∷ xs) ys one other = (one.0, had_both xs ys one.1 other)

-- ---- a register

reaches : (w : Width) → nat_le (bits_of w) (bits_of w) ≡ true
reaches W8 = refl
reaches W16 = refl
reaches W32 = refl
reaches W64 = refl

pub read_had : (reg : ℕ) (w : Width) → AllHad (read_needs [] reg w)
read_had zero w = tt
read_had (suc q) w = (and_from (suc q == suc q) (nat_le (bits_of w) (bits_of w)) (itself (suc q)) (reaches w), tt)

abbrev read : Rtx → Reading
read = reading_of [] []

made_out : (x : Rtx) (w : Width) → made_of [] [] x w ≡ made_by [] [] (class_of_code (out-Rtx x).code) (out-Rtx x).code (out-Rtx x).number (out-Rtx x).name (map read (out-Rtx x).kids) w
made_out x w = ap (λ (r : Reading). r.made w) (fold_out-Rtx Reading (reading_step [] []) x)

module _ (x : Rtx) (w : Width) where
  -- by its code and kids
  abbrev Had : Code → List Rtx → Type 0
  Had c kids = AllHad (made_by [] [] (class_of_code c) c (out-Rtx x).number (out-Rtx x).name (map read kids) w).needs

  from_outside : Had (out-Rtx x).code (out-Rtx x).kids → AllHad (made_of [] [] x w).needs
  from_outside had = subst (λ (m : Made). AllHad m.needs) (sym (made_out x w)) had

  pub coded_had : (out-Rtx x).code ≡ code.Reg → IsWell x → AllHad (made_of [] [] x w).needs
  coded_had coded well =
      let row = (and_parts (is_bare (class_of_code (out-Rtx x).code) (number_at x) (out-Rtx x).name) (fits_row (class_of_code (out-Rtx x).code) (out-Rtx x).mode (number_at x) (out-Rtx x).kids) (passing.itself is_shaped x well.shaped)).1 in
      let fits = ap (λ c. fits_row (class_of_code c) (out-Rtx x).mode (number_at x) (out-Rtx x).kids) (sym coded) ∙ row in
      let none = register_parts (out-Rtx x).mode (number_at x) (out-Rtx x).kids fits in
      from_outside (subst (λ c. Had c (out-Rtx x).kids) (sym coded) (subst (λ ks. Had code.Reg ks) (sym none) (read_had (cast_unsigned w64 (out-Rtx x).number) w)))

base_code : (c : Code) (z : ℤ) → is_base_at c z ≡ true → c ≡ code.Reg
base_code code.Reg z is = refl
base_code _ z is = absurd (let no : ⊥ = cc in no)

numbered_code : (c : Code) (z : ℤ) (reg : ℕ) → is_reg_numbered c z reg ≡ true → c ≡ code.Reg
numbered_code code.Reg z reg is = refl
numbered_code _ z reg is = absurd (let no : ⊥ = cc in no)

-- a register or its low part
by_code : (c : Code) (kids : List Rtx) (x : Rtx) (w : Width) → (out-Rtx x).code ≡ c → (out-Rtx x).kids ≡ kids → is_register_by c x kids ≡ true → IsWell x → AllHad (made_of [] [] x w).needs
by_code code.Reg kids x w coded are is well = coded_had x w coded well
by_code code.Subreg (inner ∷ []) x w coded are is well =
    let here = coded_had inner w (base_code (out-Rtx inner).code (out-Rtx inner).number is) (well_parts x (inner ∷ []) are well).0 in
    from_outside x w (subst (λ c. Had x w c (out-Rtx x).kids) (sym coded) (subst (λ ks. Had x w code.Subreg ks) (sym are) here))
by_code code.Subreg [] x w coded are is well = absurd (let no : ⊥ = cc in no)
by_code code.Subreg (a ∷ b ∷ kids) x w coded are is well = absurd (let no : ⊥ = cc in no)
by_code _ kids x w coded are is well = absurd (let no : ⊥ = cc in no)

pub register_had : (x : Rtx) (w : Width) → is_register x ≡ true → IsWell x → AllHad (made_of [] [] x w).needs
register_had x w is well = by_code (out-Rtx x).code (out-Rtx x).kids x w refl refl is well

-- ---- a legitimate address

-- a register, or the sum of one and a constant
pub data IsReached (x : Rtx) : Type 0 where
  alone : (out-Rtx x).code ≡ code.Reg → IsReached x
  added : (a b : Rtx) → (out-Rtx x).code ≡ code.Plus → (out-Rtx x).kids ≡ a ∷ b ∷ [] → (out-Rtx a).code ≡ code.Reg → (out-Rtx b).code ≡ code.ConstInt → IsReached x

constant_code : (test : ℤ → Bool) (c : Code) (z : ℤ) → is_constant_at test c z ≡ true → c ≡ code.ConstInt
constant_code test code.ConstInt z is = refl
constant_code test _ z is = absurd (let no : ⊥ = cc in no)

sum_by : (base : Rtx → Bool) (offset : ℤ → Bool) → ((a : Rtx) → base a ≡ true → (out-Rtx a).code ≡ code.Reg) → (x : Rtx) (c : Code) (kids : List Rtx) → (out-Rtx x).code ≡ c → (out-Rtx x).kids ≡ kids → is_sum_at base offset c kids ≡ true → IsReached x
sum_by base offset codes x code.Plus (a ∷ b ∷ []) coded are is =
    let two = and_parts (base a) (addresses.is_constant offset b) is in
    IsReached.added a b coded are (codes a two.0) (constant_code offset (out-Rtx b).code (out-Rtx b).number two.1)
sum_by base offset codes x code.Plus [] coded are is = absurd (let no : ⊥ = cc in no)
sum_by base offset codes x code.Plus (a ∷ []) coded are is = absurd (let no : ⊥ = cc in no)
sum_by base offset codes x code.Plus (a ∷ b ∷ d ∷ kids) coded are is = absurd (let no : ⊥ = cc in no)
sum_by base offset codes x _ kids coded are is = absurd (let no : ⊥ = cc in no)

sum_reached : (base : Rtx → Bool) (offset : ℤ → Bool) → ((a : Rtx) → base a ≡ true → (out-Rtx a).code ≡ code.Reg) → (x : Rtx) → is_sum base offset x ≡ true → IsReached x
sum_reached base offset codes x is = sum_by base offset codes x (out-Rtx x).code (out-Rtx x).kids refl refl is

vars_code : (a : Rtx) → is_stack_vars a ≡ true → (out-Rtx a).code ≡ code.Reg
vars_code a is = numbered_code (out-Rtx a).code (out-Rtx a).number 32 is

pointer_code : (a : Rtx) → is_stack_pointer a ≡ true → (out-Rtx a).code ≡ code.Reg
pointer_code a is = numbered_code (out-Rtx a).code (out-Rtx a).number 2 is

own_code : (a : Rtx) → is_base a ≡ true → (out-Rtx a).code ≡ code.Reg
own_code a is = base_code (out-Rtx a).code (out-Rtx a).number is

pub address_reached : (x : Rtx) → is_legitimate_address x ≡ true → IsReached x
address_reached x is = go (is_base x) (is_sum is_base is_near x) (is_stack_vars x) (is_sum is_stack_vars is_any x) (is_far_address x) refl refl refl refl refl is
  where
    go : (p q r s far : Bool) → is_base x ≡ p → is_sum is_base is_near x ≡ q → is_stack_vars x ≡ r → is_sum is_stack_vars is_any x ≡ s → is_far_address x ≡ far → ((p || q) || ((r || s) || far)) ≡ true → IsReached x
    go true q r s far one two three four five holds = IsReached.alone (own_code x one)
    go false true r s far one two three four five holds = sum_reached is_base is_near own_code x two
    go false false true s far one two three four five holds = IsReached.alone (vars_code x three)
    go false false false true far one two three four five holds = sum_reached is_stack_vars is_any vars_code x four
    go false false false false true one two three four five holds = sum_reached is_stack_pointer is_beyond pointer_code x five
    go false false false false false one two three four five holds = absurd (let no : ⊥ = cc in no)

-- The registers that stand in a tree within the table of codes, of whose hard registers a0 to a7
-- alone are named: those, the address past the locals, and pseudo registers.
use Rattle.std.proofs.Common.{◌≡◌, ℕ, ◌<◌, ◌≤◌, ◌^◌, ◌&&◌, ◌||◌, ◌⊎◌, inl, inr, Bool, true, false, List, [], ◌∷◌, refl, sym, ap, ◌∙◌, arith}
use Rattle.std.specs.Int.{cast_unsigned, w64}
use Rattle.std.specs.List.{AllByRecursion, list_all, list_any}
use Rattle.std.specs.Prelude.{ℤ, pos, nat_le, nat_lt}
use Rattle.std.proofs.lemmas.Bool.{false≢true, and_parts, or_cases, or_left, or_right}
use Rattle.std.proofs.lemmas.Bool.Decides.{Decides-int_eq, nat_tests}
use Rattle.rtx_tree.specs.Code.{class_of_code}
use Rattle.rtx_tree.specs.Registers.{pseudo, virtual_stack_vars}
use Rattle.rtx_tree.specs.Tree.{head_of, kids_of, is_reg_numbered, mentions_reg}
use Rattle.rtx_tree.specs.declared.code.Code.{Code}
use Rattle.rtx_tree.specs.declared.code.Code.TheVariants.{Reg, Parallel}
use Rattle.rtx_tree.specs.declared.code.Mode.{Mode}
use Rattle.rtx_tree.specs.declared.class.Class.TheVariants as class
use Rattle.rtx_tree.specs.declared.tree.Rtx.{Rtx}
use Rattle.rtx_tree.proofs.Trees.{mentions_out}
use Rattle.rtl_func.specs.Calls.{is_argument, has_argument}
use Rattle.rtl_func.specs.Kinds.{is_nothing, is_nothing_by}
use Rattle.rtl_func.specs.Shapes.{mode_at, number_at, has_mode, is_register_number, is_bare, class_at, fits_row, is_shaped}
use Rattle.rtl_func.proofs.AllPass.{all_pass, itself, within}
use Rattle.law_reload_moves.specs.sym_insns.Shape.{is_natural, all_natural}
use Rattle.reload.proofs.law_rules.Arguments.{stands_argument}
use Rattle.law_reload_moves.proofs.law_window_replaced.Trees.{natural_here, natural_kids}
use Rattle.law_homes.specs.Stands.{has_home}
use Rattle.law_homes.proofs.Trees.{tree_induction}

module _ (reg : ℕ) where
  -- ---- the number of a register

  of_number : (n : ℤ) → n ≡ pos reg → is_natural Reg n ≡ true → cast_unsigned w64 n ≡ reg
  of_number n is natural =
      let small : nat_lt reg (2 ^ 63) ≡ true = sym (ap (is_natural Reg) is) ∙ natural in
      let few : reg < 2 ^ 63 = grind (arith, nat_tests, small) in
      let same : cast_unsigned w64 (pos reg) ≡ reg = omega (arith, few) in
      ap (cast_unsigned w64) is ∙ same

  of_row : (mode : Mode) (n : ℕ) (kids : List Rtx) → fits_row class.Register mode n kids ≡ true →
      is_register_number n ≡ true
  of_row mode n [] fits = (and_parts (has_mode mode) (is_register_number n) fits).1
  of_row mode n (a ∷ []) fits = absurd (false≢true fits)
  of_row mode n (a ∷ b ∷ []) fits = absurd (false≢true fits)
  of_row mode n (a ∷ b ∷ c ∷ []) fits = absurd (false≢true fits)
  of_row mode n (a ∷ b ∷ c ∷ d ∷ kids) fits = absurd (false≢true fits)

  of_register : (c : Code) (n : ℤ) (mode : Mode) (kids : List Rtx) →
      is_reg_numbered c n reg ≡ true → is_natural c n ≡ true →
      fits_row (class_of_code c) mode (cast_unsigned w64 n) kids ≡ true →
      is_register_number reg ≡ true
  of_register Reg n mode kids is natural fits =
      ap is_register_number (sym (of_number n ((Decides-int_eq n (pos reg)).0 is) natural)) ∙
      of_row mode (cast_unsigned w64 n) kids fits
  of_register _ n mode kids is natural fits = absurd (false≢true is)

  abbrev Good : Rtx → Type 0
  Good x = all_pass is_shaped x ≡ true → all_natural x ≡ true → mentions_reg reg x ≡ true →
      is_register_number reg ≡ true

  of_parts : (parts : List Rtx) → AllByRecursion Good parts →
      list_all (all_pass is_shaped) parts ≡ true → list_all all_natural parts ≡ true →
      list_any (mentions_reg reg) parts ≡ true → is_register_number reg ≡ true
  of_parts [] all shaped natural is = absurd (false≢true is)
  of_parts (x ∷ parts) all shaped natural is =
      let shape = and_parts (all_pass is_shaped x) (list_all (all_pass is_shaped) parts) shaped in
      let numbers = and_parts (all_natural x) (list_all all_natural parts) natural in
      elim (or_cases (mentions_reg reg x) (list_any (mentions_reg reg) parts) is) [
        | inl here ↦ all.0 shape.0 numbers.0 here
        | inr more ↦ of_parts parts all.1 shape.1 numbers.1 more
      ]

  of_tree : (x : Rtx) → AllByRecursion Good (kids_of x) → Good x
  of_tree x all shaped natural is =
      let row = (and_parts (is_bare (class_at x) (number_at x) (head_of x).name) _
      (itself is_shaped x shaped)).1 in
      elim (or_cases (is_reg_numbered (head_of x).code (head_of x).number reg)
      (list_any (mentions_reg reg) (kids_of x)) (sym (mentions_out reg x) ∙ is)) [
        | inl here ↦ of_register (head_of x).code (head_of x).number (mode_at x) (kids_of x) here
            (natural_here x natural) row
        | inr more ↦ of_parts (kids_of x) all (within is_shaped x shaped) (natural_kids x natural)
            more
      ]

  is_number : (x : Rtx) → Good x
  is_number = tree_induction Good of_tree

  -- ---- one that is named

  large : is_register_number reg ≡ true → 32 ≤ reg → (reg ≡ virtual_stack_vars) ⊎
      (has_home reg ≡ true)
  large number least = elim (or_cases (nat_le reg 32) (nat_le 64 reg && nat_lt reg 2147483712)
      number) [
        | inl most ↦ inl (let down : reg ≤ 32 = grind (arith, nat_tests, most) in
            omega (arith, least, down))
        | inr above ↦ inr (or_right (is_argument reg) (nat_le (pseudo 0) reg)
            (and_parts (nat_le 64 reg) (nat_lt reg 2147483712) above).0)
      ]

  by_size : (x : Rtx) (b : Bool) → nat_lt reg 32 ≡ b → all_pass is_shaped x ≡ true →
      all_natural x ≡ true → all_pass has_argument x ≡ true →
      mentions_reg reg x ≡ true → (reg ≡ virtual_stack_vars) ⊎ (has_home reg ≡ true)
  by_size x true small shaped natural arguments is =
      inr (or_left (is_argument reg) _ (stands_argument reg (grind (arith, nat_tests, small)) x
      arguments is))
  by_size x false small shaped natural arguments is = large (is_number x shaped natural is)
      (grind (arith, nat_tests, small))

  pub named : (x : Rtx) → all_pass is_shaped x ≡ true → all_natural x ≡ true →
      all_pass has_argument x ≡ true → mentions_reg reg x ≡ true →
      (reg ≡ virtual_stack_vars) ⊎ (has_home reg ≡ true)
  named x shaped natural arguments is = by_size x (nat_lt reg 32) refl shaped natural arguments is

  -- none stands where nothing does
  of_nothing : (c : Code) (n : ℤ) (kids : List Rtx) → is_nothing_by (class_of_code c) kids ≡ true →
      is_reg_numbered c n reg || list_any (mentions_reg reg) kids ≡ true → ⊥
  of_nothing Parallel n [] is names = false≢true names
  of_nothing Parallel n (x ∷ kids) is names = false≢true is
  of_nothing _ n kids is names = false≢true is

  pub nothing_named : (x : Rtx) → is_nothing x ≡ true → mentions_reg reg x ≡ true → ⊥
  nothing_named x is names = of_nothing (head_of x).code (head_of x).number (kids_of x) is
      (sym (mentions_out reg x) ∙ names)

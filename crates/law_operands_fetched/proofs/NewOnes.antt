-- How a new tree is read in the place of an operand: a register into which the operand is moved, and the operand with a register in its
-- address.
use Rattle.std.proofs.Common.{◌≡◌, ◌≢◌, ◌⊎◌, inl, inr, ℕ, List, [], ◌∷◌, map, Some, None, sym, ap, subst, ◌∙◌, arith}
use Rattle.std.specs.FinMap.{get}
use Rattle.std.specs.Int.{cast_unsigned, w64}
use Rattle.law_operands_replaced.specs.bits64.Words.{low}
use Rattle.law_operands_replaced.specs.bits64.declared.Width.{Width}
use Rattle.law_operands_replaced.specs.bits64.declared.Width.TheVariants.{W8, W16, W32, W64}
use Rattle.law_operands_replaced.specs.rtx_tree.Tree.{head_of, kids_of, reg_of}
use Rattle.law_operands_replaced.specs.rtx_tree.declared.class.Class.{Class}
use Rattle.law_operands_replaced.specs.rtx_tree.declared.class.Class.TheVariants as class
use Rattle.law_operands_replaced.specs.rtx_tree.declared.code.Mode.{Mode}
use Rattle.law_operands_replaced.specs.rtx_tree.declared.machine.SymbolAt.{SymbolAt}
use Rattle.law_operands_replaced.specs.rtx_tree.declared.memories.MemByte.{MemByte}
use Rattle.law_operands_replaced.specs.rtx_tree.declared.tree.Rtx.{Rtx, out-roll-Rtx}
use Rattle.law_operands_replaced.specs.rtx_tree.declared.tree.Rtx.TheOpen.{Rtx-F}
use Rattle.law_operands_replaced.specs.run_memory.RunMemory.{load}
use Rattle.law_operands_replaced.specs.rtl_func.Shapes.{class_at, mode_at}
use Rattle.law_operands_replaced.specs.rtl_step.Regs.{Regs, known_of}
use Rattle.law_operands_replaced.specs.rtl_step.Value.{width_of, value_of, value_by, of_one}
use Rattle.law_operands_replaced.proofs.rtl_step.Values.{value_read}
use Rattle.law_operands_replaced.proofs.rtl_step.Too.{Too, too_then}
use Rattle.law_operands_replaced.proofs.Readings.{IsFree, ReadsAs}
use Rattle.law_operands_replaced.proofs.ReadTrees.{read_in}
use Rattle.law_operands_replaced.proofs.Registers.{holds_low}
use Rattle.law_operands_replaced.proofs.Settings.{value_reg}

low_of : (w : Width) (c : ℕ) → low w (low W64 c) ≡ low w c
low_of W8 c = omega arith
low_of W16 c = omega arith
low_of W32 c = omega arith
low_of W64 c = omega arith

module _ (symbols : List SymbolAt) (regs : Regs) (memory : List MemByte) where
  by_kids : (x : Rtx) (k : Class) (kids : List Rtx) (w : Width) → class_at x ≡ k → kids_of x ≡ kids →
      value_of symbols regs memory x w ≡ value_by symbols regs memory k (head_of x).code (head_of x).number (head_of x).name (map (read_in symbols regs memory) kids) w
  by_kids x k kids w is are = value_read symbols regs memory x w ∙
      ap (λ (ks : List Rtx). value_by symbols regs memory (class_at x) (head_of x).code (head_of x).number (head_of x).name (map (read_in symbols regs memory) ks) w) are ∙
      ap (λ k. value_by symbols regs memory k (head_of x).code (head_of x).number (head_of x).name (map (read_in symbols regs memory) kids) w) is

  -- a constant has no mode, and in each width its low bits
  pub constant_free : (x : Rtx) → class_at x ≡ class.Constant → kids_of x ≡ [] → width_of (mode_at x) ≡ None → IsFree (read_in symbols regs memory x)
  constant_free x is are none = record {
    modeless = none;
    lows = λ w n at.
        let c : ℕ = cast_unsigned w64 (head_of x).number in
        let wide : Some (low W64 c) ≡ Some n = sym (by_kids x class.Constant [] W64 is are) ∙ at in
        let same : low W64 c ≡ n = cc in
        by_kids x class.Constant [] w is are ∙ ap Some (sym (low_of w c)) ∙ ap (λ n. Some (low w n)) same;
  }

  -- memory at an address
  pub memory_value : (x address : Rtx) (w : Width) → class_at x ≡ class.Memory → kids_of x ≡ address ∷ [] →
      value_of symbols regs memory x w ≡ of_one (load w memory) (value_of symbols regs memory address W64)
  memory_value x address w is are = by_kids x class.Memory (address ∷ []) w is are

module _ (symbols : List SymbolAt) (regs other : Regs) (memory : List MemByte) where
  -- A register of the move's mode holds the operand's value in that mode, if it has one.
  pub moved_reads : (x : Rtx) (mode : Mode) (w : Width) (own : ℕ) → own ≢ 0 → width_of mode ≡ Some w →
      (width_of (mode_at x) ≡ Some w) ⊎ IsFree (read_in symbols regs memory x) →
      ((v : ℕ) → value_of symbols regs memory x w ≡ Some v → (get other own ≡ Some (known_of w v)) × (low w v ≡ v)) →
      ReadsAs (read_in symbols regs memory x) (read_in symbols other memory (reg_of mode own))
  moved_reads x mode w own some wide modes holds = record {
    modes = by modes;
    values = λ u is v at.
        let here : w ≡ u = is w (width ∙ wide) in
        subst (λ u. Too (value_of symbols regs memory x u) (value_of symbols other memory (reg_of mode own) u)) here too v at;
  }
    where
      width : width_of (mode_at (reg_of mode own)) ≡ width_of mode
      width = ap (λ (o : Rtx-F Rtx). width_of o.mode) (out-roll-Rtx _)

      by : (width_of (mode_at x) ≡ Some w) ⊎ IsFree (read_in symbols regs memory x) →
          (width_of (mode_at (reg_of mode own)) ≡ width_of (mode_at x)) ⊎ IsFree (read_in symbols regs memory x)
      by (inl is) = inl (width ∙ wide ∙ sym is)
      by (inr free) = inr free

      too : Too (value_of symbols regs memory x w) (value_of symbols other memory (reg_of mode own) w)
      too v at = let h = holds v at in
          value_reg symbols other memory mode own w ∙ holds_low other own v w some h.0 ∙ ap Some h.1

  -- memory at an address that has another's value
  pub memory_reads : (x y address address' : Rtx) → class_at x ≡ class.Memory → class_at y ≡ class.Memory → mode_at y ≡ mode_at x →
      kids_of x ≡ address ∷ [] → kids_of y ≡ address' ∷ [] →
      Too (value_of symbols regs memory address W64) (value_of symbols other memory address' W64) →
      ReadsAs (read_in symbols regs memory x) (read_in symbols other memory y)
  memory_reads x y address address' is is' mode are are' too = record {
    modes = inl (ap width_of mode);
    values = λ w own v at.
        memory_value symbols other memory y address' w is' are' ∙
        too_then (load w memory) (value_of symbols regs memory address W64) (value_of symbols other memory address' W64) too v
        (sym (memory_value symbols regs memory x address w is are) ∙ at);
  }

  -- an address that has another's value
  pub address_reads : (x y : Rtx) → width_of (mode_at x) ≡ Some W64 → width_of (mode_at y) ≡ Some W64 →
      Too (value_of symbols regs memory x W64) (value_of symbols other memory y W64) →
      ReadsAs (read_in symbols regs memory x) (read_in symbols other memory y)
  address_reads x y is is' too = record {
    modes = inl (is' ∙ sym is);
    values = λ w own v at. let here : W64 ≡ w = own W64 is' in
        subst (λ w. Too (value_of symbols regs memory x w) (value_of symbols other memory y w)) here too v at;
  }

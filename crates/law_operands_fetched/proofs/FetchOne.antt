-- How a base and an input are fetched, by the instructions of their moves.
use Rattle.std.proofs.Common.{◌≡◌, ◌≢◌, ⊎_elim, ℕ, Bool, true, false, if◌then◌else◌, List, [], ◌∷◌, ◌++◌, slice_get, Option, Some, None, refl, sym, ap, subst, ◌∙◌}
use Rattle.std.specs.Option.{option_map_or}
use Rattle.std.specs.Prelude.{ℤ, is_some}
use Rattle.law_operands_replaced.specs.bits64.Words.{low}
use Rattle.law_operands_replaced.specs.bits64.declared.Width.{Width}
use Rattle.law_operands_replaced.specs.bits64.declared.Width.TheVariants.{W64}
use Rattle.law_operands_replaced.specs.rtx_tree.Tree.{node_of, reg_of}
use Rattle.law_operands_replaced.specs.rtx_tree.declared.code.Code.TheVariants.{Mem}
use Rattle.law_operands_replaced.specs.rtx_tree.declared.code.Mode.TheVariants.{DI}
use Rattle.law_operands_replaced.specs.rtx_tree.declared.machine.SymbolAt.{SymbolAt}
use Rattle.law_operands_replaced.specs.rtx_tree.declared.memories.MemByte.{MemByte}
use Rattle.law_operands_replaced.specs.rtx_tree.declared.tree.Rtx.{Rtx}
use Rattle.law_operands_replaced.specs.run_memory.RunMemory.{load}
use Rattle.law_operands_replaced.specs.rtl_func.Shapes.{mode_at}
use Rattle.law_operands_replaced.specs.rtl_step.Regs.{Regs, reg_value}
use Rattle.law_operands_replaced.specs.rtl_step.Value.{width_of, value_of}
use Rattle.rv_regs.specs.Registers.{stack_pointer}
use Rattle.md_operand.specs.Addresses.{is_near}
use Rattle.law_operands_replaced.specs.reload_operands.declared.operand.Base.{Base}
use Rattle.law_operands_replaced.specs.reload_operands.declared.operand.Operand.{Operand}
use Rattle.reload_moves.specs.declared.moves.Move.{Move}
use Rattle.reload_moves.specs.declared.moves.Move.TheVariants.{Base as LoadBase, In}
use Rattle.reload_moves.specs.Moves.{far_to}
use Rattle.reload_choice.specs.reload_fit.Addressed.{address_on, on_register, slot_offset, slot_far}
use Rattle.reload_choice.specs.Insns.{set_reg, far_insns, base_insn, base_insns, in_insn, insns_at, all_insns}
use Rattle.law_operands_replaced.specs.Spare.{KeepsRest}
use Rattle.law_operands_replaced.proofs.Addresses.{IsNewTree}
use Rattle.law_operands_replaced.proofs.Fetches.{Fetched, fetch_one, fetch_then, far_fetched, offset_by, keeps_knows}
use Rattle.law_operands_fetched.proofs.Loads.{base_near, base_far, plain_in}
use Rattle.law_operands_fetched.proofs.OnRegister.{IsOperand}
use Rattle.law_operands_replaced.proofs.Readings.{IsOwn}

-- ---- instructions of moves

-- a far base is made, or none
abbrev pub far_part : ℕ → Option ℤ → List Rtx
far_part into None = []
far_part into (Some n) = far_insns into n

pub far_insns_are : (operands : List Operand) (into : ℕ) (o : Option ℤ) (more : List Move) →
    all_insns operands (far_to into o ++ more) ≡ far_part into o ++ all_insns operands more
far_insns_are operands into None more = refl
far_insns_are operands into (Some n) more = refl

pub base_is : (operands : List Operand) (x : Operand) (base : Base) (into place : ℕ) →
    slice_get operands place ≡ Some x → x.base ≡ Some base →
    all_insns operands (LoadBase into place ∷ []) ≡ base_insn into base ∷ []
base_is operands x base into place at based =
    ap (λ o. option_map_or (insns_at (LoadBase into place)) o [] ++ []) at ∙ ap (λ o. base_insns into o ++ []) based

pub in_is : (operands : List Operand) (x : Operand) (into place : ℕ) (base : Option ℕ) → slice_get operands place ≡ Some x →
    all_insns operands (In into place base ∷ []) ≡ in_insn into base x ∷ []
in_is operands x into place base at = ap (λ o. option_map_or (insns_at (In into place base)) o [] ++ []) at

slot_far_is : (near : Bool) (k n : ℤ) → (if near then None else Some k) ≡ Some n → k ≡ n
slot_far_is true k n is = absurd (let no : ⊥ = cc in no)
slot_far_is false k n is = let e : k ≡ n = cc in e

-- a width of the operand's mode is the own one of the operand, if it has one
pub own_mode : (x : Operand) (w : Width) → IsOperand x → width_of x.mode ≡ Some w → IsOwn (width_of (mode_at x.tree)) w
own_mode x w is wide = ⊎_elim
    (λ (same : width_of (mode_at x.tree) ≡ width_of x.mode) (own : Width) (at : width_of (mode_at x.tree) ≡ Some own).
    (let e : Some own ≡ Some w = sym at ∙ same ∙ wide in let here : own ≡ w = cc in here))
    (λ (none : width_of (mode_at x.tree) ≡ None) (own : Width) (at : width_of (mode_at x.tree) ≡ Some own).
    absurd (let e : ◌≡◌ {A = Option Width} None (Some own) = sym none ∙ at in let no : ⊥ = cc in no)) is.mode

module _ (symbols : List SymbolAt) (regs : Regs) (memory : List MemByte) (sp : ℕ) (pointer : reg_value regs stack_pointer W64 ≡ Some sp)
    (small : low W64 sp ≡ sp) (r : Regs) (keeps : KeepsRest regs r) (into : ℕ) (some : into ≢ 0) (other : stack_pointer ≢ into) where
  pointer_there : reg_value r stack_pointer W64 ≡ Some sp
  pointer_there = keeps_knows regs r keeps stack_pointer refl W64 sp pointer

  fetch_base : (base : Base) (o : Option ℤ) (v : ℕ) → slot_far base ≡ o →
      load W64 memory (offset_by symbols memory sp (slot_offset base)) ≡ Some v →
      Fetched symbols memory (far_part into o ++ base_insn into base ∷ []) r into W64 v
  fetch_base base None v is at =
      subst (λ o. Fetched symbols memory
      (set_reg DI into (node_of Mem DI ((if is_some o then reg_of DI into else address_on stack_pointer
      (slot_offset base)) ∷ [])) ∷ []) r into W64 v)
      (sym is) (base_near symbols memory r into sp v (slot_offset base) some pointer_there small at)
  fetch_base base (Some n) v is at =
      let far : slot_offset base ≡ n = slot_far_is (is_near (slot_offset base)) (slot_offset base) n is in
      subst (λ o. Fetched symbols memory (far_insns into n ++
      set_reg DI into (node_of Mem DI ((if is_some o then reg_of DI into else address_on stack_pointer
      (slot_offset base)) ∷ [])) ∷ []) r into W64 v)
      (sym is) (base_far symbols memory r into sp v n some other pointer_there
      (ap (λ n. load W64 memory (offset_by symbols memory sp n)) (sym far) ∙ at))

  -- the base in a slot, near or far
  pub base_fetched : (operands : List Operand) (x : Operand) (base : Base) (place v : ℕ) (o : Option ℤ) →
      slice_get operands place ≡ Some x →
      x.base ≡ Some base → o ≡ slot_far base → load W64 memory (offset_by symbols memory sp (slot_offset base)) ≡ Some v →
      Fetched symbols memory (all_insns operands (far_to into o ++ LoadBase into place ∷ [])) r into W64 v
  base_fetched operands x base place v o at based is there =
      subst (λ (code : List Rtx). Fetched symbols memory code r into W64 v)
      (sym (far_insns_are operands into o (LoadBase into place ∷ []) ∙
      ap (λ (c : List Rtx). far_part into o ++ c) (base_is operands x base into place at based)))
      (fetch_base base o v (sym is) there)

  -- what a far base is
  pub far_base_fetched : (operands : List Operand) (n : ℤ) → Fetched symbols memory
      (all_insns operands (far_to into (Some n))) r into W64 (offset_by symbols memory sp n)
  far_base_fetched operands n = far_fetched symbols memory r into sp n some other pointer_there

  -- an input by itself
  pub itself_fetched : (x : Operand) (w : Width) (v : ℕ) → IsOperand x → width_of x.mode ≡ Some w →
      value_of symbols regs memory x.tree w ≡ Some v →
      Fetched symbols memory (in_insn into None x ∷ []) r into w v
  itself_fetched x w v is wide at = plain_in symbols memory regs r x.mode w into v x.tree keeps some wide is.natural is.quiet at

  -- and with a register in its address, in a state in which it is read as itself
  pub source_there : (x : Operand) (w : Width) (v reg : ℕ) (r' : Regs) → IsOperand x → width_of x.mode ≡ Some w →
      value_of symbols regs memory x.tree w ≡ Some v → width_of (mode_at (on_register reg x)) ≡ width_of (mode_at x.tree) →
      IsNewTree symbols regs r' memory x.tree (on_register reg x) → value_of symbols r' memory (on_register reg x) w ≡ Some v
  source_there x w v reg r' is wide at mode new =
      new.reads.values w (λ own here. own_mode x w is wide own (sym mode ∙ here)) v at

  pub on_fetched : (x : Operand) (w : Width) (v reg : ℕ) → IsOperand x → width_of x.mode ≡ Some w →
      value_of symbols r memory (on_register reg x) w ≡ Some v →
      Fetched symbols memory (in_insn into (Some reg) x ∷ []) r into w v
  on_fetched x w v reg is wide at = fetch_one symbols memory r x.mode w into v (on_register reg x) some wide at

  -- through its own register
  pub through_fetched : (code : List Rtx) (b : ℕ) (f : Fetched symbols memory code r into W64 b) (x : Operand)
      (w : Width) (v : ℕ) → IsOperand x →
      width_of x.mode ≡ Some w → value_of symbols f.after memory (on_register into x) w ≡ Some v →
      Fetched symbols memory (code ++ in_insn into (Some into) x ∷ []) r into w v
  through_fetched code b f x w v is wide at = fetch_then symbols memory code r into W64 b f x.mode w v (on_register into x) some wide at

-- A `use` or a `clobber` alone: memory is as it was, and what is known behind it was known before, of a register that it does not define.
use Rattle.std.proofs.Common.{◌≡◌, ℕ, zero, suc, ℤ, pos, ◌<◌, ◌==◌, ◌&&◌, not, arith, Bool, true, false, List, [], ◌∷◌, Option, Some, None, refl, sym, ap, subst, ◌∙◌}
use Rattle.std.proofs.lemmas.Bool.Decides.{Decides-int_eq}
use Rattle.std.specs.Prelude.{option_map, option_and_then, if◌then◌else◌}
use Rattle.std.specs.Int.{cast_unsigned, w64}
use Rattle.std.specs.Cmp.{nat_cmp_total}
use Rattle.std.specs.FinMap.{get, remove, get-remove}
use Rattle.std.specs.Ordering.{int_eq, nat_cmp, eq_by_cmp}
use Rattle.bits64.specs.declared.Width.{Width}
use Rattle.rtx_tree.specs.declared.code.Code.{Code}
use Rattle.rtx_tree.specs.declared.code.Code.TheVariants.{Reg, Subreg, Mem, Scratch, Use, Clobber}
use Rattle.rtx_tree.specs.declared.machine.SymbolAt.{SymbolAt}
use Rattle.rtx_tree.specs.declared.memories.MemByte.{MemByte}
use Rattle.rtx_tree.specs.declared.tree.Rtx.{Rtx, out-Rtx}
use Rattle.rtx_tree.specs.Tree.{is_reg_numbered}
use Rattle.rtl_step.specs.Regs.{Regs, known_in, reg_value, without_reg}
use Rattle.rtl_step.specs.Effect as step
use Rattle.rtl_step.specs.Effect.{reg_after, regs_after, bytes_after, memory_after}
use Rattle.rtl_step.specs.declared.effect.Effect.{Effect}
use Rattle.rtl_step.specs.declared.effect.Effect.TheVariants.{Nothing, Unsets}
use Rattle.rtl_step.specs.declared.regs.Known.{Known}
use Rattle.reg_uses.specs.Effects.{is_register, place_is_by, effect_defines_by, effects_by, pattern_defines, all_define}
use Rattle.law_window_lines.specs.Items.{is_quiet}
use Rattle.law_window_lines.proofs.Small.{is_here, and_none, and_right, or_none}

-- ---- a register that is unset

removed : (regs : Regs) (r reg : ℕ) → get (remove regs r) reg ≡ (if eq_by_cmp nat_cmp reg r then None else get regs reg)
removed regs r reg = get-remove nat_cmp_total regs r reg

none_of : (b : Bool) (o : Option Known) (w : Width) (v : ℕ) → option_and_then (known_in w) (if b then None else o) ≡ Some v →
    (b ≡ false) × (option_and_then (known_in w) o ≡ Some v)
none_of true o w v is = absurd (let no : ⊥ = cc in no)
none_of false o w v is = (refl, is)

-- what is known where one is unset was known before, and is of another
known_without : (regs : Regs) (r reg : ℕ) (w : Width) (v : ℕ) → 0 < reg → reg_value (without_reg regs r) reg w ≡ Some v →
    (reg ≡ r → ⊥) × (reg_value regs reg w ≡ Some v)
known_without regs r zero w v some is = absurd (omega (arith, some))
known_without regs r (suc reg) w v some is =
    let parts = none_of (eq_by_cmp nat_cmp (suc reg) r) (get regs (suc reg)) w v (sym (ap (option_and_then (known_in w)) (removed regs r
    (suc reg))) ∙ is) in (
      λ same. let no : true ≡ false = sym (is_here (suc reg)) ∙
          subst (λ x. eq_by_cmp nat_cmp (suc reg) x ≡ false) (sym same) parts.0 in let none : ⊥ = cc in none,
      parts.1,
    )

-- ---- which register that is

same_number : (n : ℤ) (reg : ℕ) → int_eq n (pos reg) ≡ true → n ≡ pos reg
same_number n reg is = (Decides-int_eq n (pos reg)).0 is

above_zero : (reg : ℕ) (b : Bool) → not (reg == 0) && b ≡ true → 0 < reg
above_zero zero b is = absurd (let no : ⊥ = cc in no)
above_zero (suc reg) b is = omega arith

-- of a place that is unset the register is the one that it defines
pub unset_is : (n : ℤ) (reg : ℕ) (b : Bool) → not (reg == 0) && int_eq n (pos reg) ≡ b → (0 < reg → reg ≡ cast_unsigned w64 n → ⊥) →
    b ≡ false
unset_is n reg false is other = refl
unset_is n reg true is other =
    let same = same_number n reg (and_right (not (reg == 0)) (int_eq n (pos reg)) is) in
    absurd (other (above_zero reg (int_eq n (pos reg)) is) (sym (ap (cast_unsigned w64) same)))

-- ---- the effects

module _ (symbols : List SymbolAt) (regs : Regs) (memory : List MemByte) where
  -- What an effect leaves: memory as it was, and of a register no more than was known, where it defines it not.
  pub record Leaves (defines : ℕ → Bool) (e : Effect) : Type 0 where
    pub memory_is : bytes_after e memory ≡ memory
    pub known : (before : Regs) (reg : ℕ) (w : Width) (v : ℕ) → reg_value (reg_after e before) reg w ≡ Some v →
        (defines reg ≡ false) × (reg_value before reg w ≡ Some v)

  nothing_leaves : (defines : ℕ → Bool) (e : Effect) → ((reg : ℕ) → defines reg ≡ false) → Nothing ≡ e → Leaves defines e
  nothing_leaves defines e none is = subst (Leaves defines) is (record {
    memory_is = refl;
    known = λ before reg w v known. (none reg, known);
  })

  unset_leaves : (defines : ℕ → Bool) (r : ℕ) (e : Effect) → ((reg : ℕ) → (0 < reg → reg ≡ r → ⊥) → defines reg ≡ false) →
      Unsets r ≡ e → Leaves defines e
  unset_leaves defines r e other is = subst (Leaves defines) is (record { memory_is = refl; known = by_reg })
    where
      by_reg : (before : Regs) (reg : ℕ) (w : Width) (v : ℕ) → reg_value (without_reg before r) reg w ≡ Some v →
          (defines reg ≡ false) × (reg_value before reg w ≡ Some v)
      by_reg before zero w v known = (other zero (λ some. absurd (omega (arith, some))), known)
      by_reg before (suc reg) w v known = let parts = known_without before r (suc reg) w v (omega arith) known in
          (other (suc reg) (λ some. parts.0), parts.1)

  effects_are : (o : Option Effect) (effects : List Effect) → option_map (λ e. e ∷ []) o ≡ Some effects →
      (e : Effect) × (o ≡ Some e) × (e ∷ [] ≡ effects)
  effects_are None effects is = absurd (let no : ⊥ = cc in no)
  effects_are (Some e) effects is = (e, refl, let same : e ∷ [] ≡ effects = cc in same)

  -- ---- what is clobbered

  -- no register
  pub no_register : (reg : ℕ) (code : Code) (place : Rtx) → (out-Rtx place).code ≡ code →
      ((number : ℤ) → is_reg_numbered code number reg ≡ false) →
      is_register reg place ≡ false
  no_register reg code place is none =
      ap (λ c. not (reg == 0) && is_reg_numbered c (out-Rtx place).number reg) is ∙
      ap (λ b. not (reg == 0) && b) (none (out-Rtx place).number) ∙ and_none (not (reg == 0))

  nothing_clobbered : (code : Code) (place : Rtx) (e : Effect) → (out-Rtx place).code ≡ code →
      ((reg : ℕ) (number : ℤ) → is_reg_numbered code number reg ≡ false) → ◌≡◌ {A = Option Effect} (Some Nothing) (Some e) →
      Leaves (λ reg. is_register reg place) e
  nothing_clobbered code place e is none same = let here : Nothing ≡ e = cc in
      nothing_leaves (λ reg. is_register reg place) e (λ reg. no_register reg code place is (none reg)) here

  register_clobbered : (place : Rtx) (e : Effect) → (out-Rtx place).code ≡ Reg →
      Some (Unsets (cast_unsigned w64 (out-Rtx place).number)) ≡ Some e →
      Leaves (λ reg. is_register reg place) e
  register_clobbered place e is same = let here : Unsets (cast_unsigned w64 (out-Rtx place).number) ≡ e = cc in
      unset_leaves (λ reg. is_register reg place) (cast_unsigned w64 (out-Rtx place).number) e
      (λ reg other. ap (λ c. not (reg == 0) && is_reg_numbered c (out-Rtx place).number reg) is ∙
      unset_is (out-Rtx place).number reg (not (reg == 0) && int_eq (out-Rtx place).number (pos reg)) refl other) here

  part_clobbered : (code : Code) (inner : Rtx) (e : Effect) → (out-Rtx inner).code ≡ code →
      option_map Unsets (step.inner_number code (out-Rtx inner).number) ≡ Some e → Leaves (λ reg. is_register reg inner) e
  part_clobbered Reg inner e is same = register_clobbered inner e is same
  part_clobbered _ inner e is same = absurd (let no : ⊥ = cc in no)

  clobbered : (code : Code) (kids : List Rtx) (place : Rtx) (e : Effect) → (out-Rtx place).code ≡ code →
      step.clobber_by code (step.register_by code (out-Rtx place).number kids) ≡ Some e → Leaves (λ reg. place_is_by reg code kids place) e
  clobbered Reg kids place e is same = register_clobbered place e is same
  clobbered Subreg (inner ∷ []) place e is same = part_clobbered (out-Rtx inner).code inner e refl same
  clobbered Mem kids place e is same = nothing_clobbered Mem place e is (λ reg number. refl) same
  clobbered Scratch kids place e is same = nothing_clobbered Scratch place e is (λ reg number. refl) same
  clobbered _ kids place e is same = absurd (let no : ⊥ = cc in no)

  -- ---- the instruction

  pub quiet_by : (code : Code) (kids : List Rtx) (e : Effect) → is_quiet code ≡ true →
      step.effect_by code kids symbols regs memory ≡ Some e →
      Leaves (λ reg. effect_defines_by reg code kids) e
  quiet_by Use (x ∷ []) e quiet same = let here : Nothing ≡ e = cc in
      nothing_leaves (λ reg. false) e (λ reg. refl) here
  quiet_by Clobber (place ∷ []) e quiet same = clobbered (out-Rtx place).code (out-Rtx place).kids place e refl same
  quiet_by Use kids e quiet same = absurd (let no : ⊥ = cc in no)
  quiet_by Clobber kids e quiet same = absurd (let no : ⊥ = cc in no)
  quiet_by _ kids e quiet same = absurd (let no : ⊥ = cc in no)

  -- it stands alone
  alone_in : (code : Code) (x : Rtx) → is_quiet code ≡ true → step.effects_by code x symbols regs memory ≡ step.one_effect symbols regs
      memory x
  alone_in Use x quiet = refl
  alone_in Clobber x quiet = refl
  alone_in _ x quiet = absurd (let no : ⊥ = cc in no)

  alone_of : (code : Code) (kids : List Rtx) (x : Rtx) → is_quiet code ≡ true → effects_by code kids x ≡ x ∷ []
  alone_of Use kids x quiet = refl
  alone_of Clobber kids x quiet = refl
  alone_of _ kids x quiet = absurd (let no : ⊥ = cc in no)

  pub record QuietLeaves (x : Rtx) (effects : List Effect) : Type 0 where
    pub memory_is : memory_after effects memory ≡ memory
    pub known : (reg : ℕ) (w : Width) (v : ℕ) → reg_value (regs_after effects regs) reg w ≡ Some v →
        (pattern_defines reg x ≡ false) × (reg_value regs reg w ≡ Some v)

  pub quiet_leaves : (x : Rtx) (effects : List Effect) → is_quiet (out-Rtx x).code ≡ true →
      step.effects_of symbols regs memory x ≡ Some effects →
      QuietLeaves x effects
  quiet_leaves x effects quiet is =
      let one = effects_are (step.effect_of symbols regs memory x) effects (sym (alone_in (out-Rtx x).code x quiet) ∙ is) in
      let leaves = quiet_by (out-Rtx x).code (out-Rtx x).kids one.0 quiet one.1 in
      let defines : (reg : ℕ) → pattern_defines reg x ≡ effect_defines_by reg (out-Rtx x).code (out-Rtx x).kids = λ reg.
      ap (all_define reg) (alone_of (out-Rtx x).code (out-Rtx x).kids x quiet) ∙
      or_none (effect_defines_by reg (out-Rtx x).code (out-Rtx x).kids) in
      subst (QuietLeaves x) one.2 (record {
        memory_is = leaves.memory_is;
        known = λ reg w v known. let parts = leaves.known regs reg w v known in (defines reg ∙ parts.0, parts.1);
      })

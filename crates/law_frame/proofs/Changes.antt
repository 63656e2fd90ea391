-- sp is changed, and the address of a saved register is made.
use Rattle.std.proofs.Common.{◌≡◌, ◌≢◌, ℕ, ◌+◌, ◌<◌, ◌^◌, ◌==◌, if◌then◌else◌, Bool, true, false, List, [], ◌∷◌, ◌++◌, Some, refl, ap, ◌∙◌, arith}
use Rattle.std.proofs.lemmas.Bool.Decides.{nat_tests}
use Rattle.std.specs.FinMap.{get}
use Rattle.std.specs.Int.{cast_unsigned, w64}
use Rattle.std.specs.Prelude.{ℤ, pos, nat_lt, option_and_then}
use Rattle.bits64.specs.Words.{low, sum_of}
use Rattle.bits64.specs.declared.Width.TheVariants.{W64}
use Rattle.rtx_tree.specs.Patterns.{sum_rtx, set_rtx}
use Rattle.rtx_tree.specs.Tree.{const_of}
use Rattle.rtx_tree.specs.declared.function.Function.{Function}
use Rattle.rtx_tree.specs.declared.function.Insn.{Insn}
use Rattle.rtx_tree.specs.declared.machine.World.{World}
use Rattle.rtx_tree.specs.declared.tree.Rtx.{Rtx}
use Rattle.rtl_step.specs.Regs.{known_of, reg_value}
use Rattle.rtl_step.specs.Value.{value_of}
use Rattle.rtl_step.specs.declared.step.State.{State}
use Rattle.law_frame.proofs.Insns.{value_reg, value_const, value_sum}
use Rattle.law_window_replaced.proofs.Stands.{Stands, stands_behind}
use Rattle.law_frame.specs.Frame.{sp_rtx, spare_rtx, short_change, long_change, most_short, sp_changed, near_address, far_base, most_near, base_made, address_at, plain_with, plain_insns}
use Rattle.law_frame.proofs.Registers.{differs, set_is, set_other, value_alike, holds, holds_low}
use Rattle.law_frame.proofs.Numbers.{low_twice, sum_is, sum_turned}
use Rattle.law_frame.proofs.Instructions.{after_set, set_step}
use Rattle.law_frame.proofs.Behind.{Behind, behind_none, behind_step}

two_some : ◌≢◌ {A = ℕ} 2 0
two_some is = omega (arith, is)

spare_some : ◌≢◌ {A = ℕ} 28 0
spare_some is = omega (arith, is)

pub two_other : ◌≢◌ {A = ℕ} 2 28
two_other is = omega (arith, is)

-- sp alone
abbrev pub is_sp : ℕ → Bool
is_sp r = r == 2

-- nothing but t3
abbrev pub none : ℕ → Bool
none r = false

module _ (world : World) (g : Function) where
  abbrev value : State → Rtx → ℕ → Type 0
  value t x v = value_of world.symbols t.regs t.memory x W64 ≡ Some v

  sum_value : (t : State) (x y : Rtx) (a b : ℕ) → value t x a → value t y b → value t (sum_rtx x y) (sum_of W64 a b)
  sum_value t x y a b is is' = value_sum world.symbols t.regs t.memory x y ∙
      ap (option_and_then (λ a. option_and_then (λ b. Some (sum_of W64 a b)) (value_of world.symbols t.regs t.memory y W64))) is ∙
      ap (option_and_then (λ b. Some (sum_of W64 a b))) is'

  abbrev number : ℤ → ℕ
  number n = low W64 (cast_unsigned w64 n)

  const_value : (t : State) (n : ℤ) → value t (const_of n) (number n)
  const_value t n = value_const world.symbols t.regs t.memory n

  sp_value : (t : State) (a : ℕ) → reg_value t.regs 2 W64 ≡ Some a → value t sp_rtx a
  sp_value t a is = value_reg world.symbols t.regs t.memory 2 ∙ is

  -- t3 holds a number that is set
  spare_value : (t : State) (q n : ℕ) → value (after_set world g t q 28 n) spare_rtx (low W64 n)
  spare_value t q n = value_reg world.symbols (after_set world g t q 28 n).regs t.memory 28 ∙
      holds_low (after_set world g t q 28 n).regs 28 n W64 spare_some (set_is t.regs 28 (known_of W64 n) spare_some)

  -- ---- sp

  -- it holds a number
  abbrev pub Points : ℕ → State → Type 0
  Points b t = get t.regs 2 ≡ Some (known_of W64 b)

  abbrev pub IsChanged : State → List Insn → ℕ → Type 0
  IsChanged t rest b = Behind world g t rest is_sp t.memory (Points b)

  -- the step that sets it
  sp_set : (t : State) (uid q b : ℕ) (source : Rtx) (rest : List Insn) →
      Stands g.insns t.next (plain_insns uid (set_rtx sp_rtx source ∷ []) ++ rest) q → value t source b → IsChanged t rest b
  sp_set t uid q b source rest stands is =
      behind_step world g t (after_set world g t q 2 b) rest is_sp t.memory (Points b) (set_step world g t uid 2 b q source rest stands is)
      (λ r other kept. set_other t.regs 2 (known_of W64 b) r (differs r 2 kept)) refl refl
      (behind_none world g (after_set world g t q 2 b) rest is_sp (Points b) (q + 1)
      (stands_behind g.insns t.next (plain_with uid (set_rtx sp_rtx source)) rest q stands) (set_is t.regs 2 (known_of W64 b) two_some))

  sp_kept : (t : State) (q n a : ℕ) → reg_value t.regs 2 W64 ≡ Some a → reg_value (after_set world g t q 28 n).regs 2 W64 ≡ Some a
  sp_kept t q n a is = value_alike t.regs (after_set world g t q 28 n).regs 2 W64 (set_other t.regs 28 (known_of W64 n) 2 two_other) ∙ is

  by_size : (long : Bool) (t : State) (uid q a b : ℕ) (n : ℤ) (rest : List Insn) →
      Stands g.insns t.next (plain_insns uid (if long then long_change n else short_change n) ++ rest) q →
      reg_value t.regs 2 W64 ≡ Some a → sum_of W64 a (number n) ≡ b → IsChanged t rest b
  by_size false t uid q a b n rest stands is sum =
      sp_set t uid q b (sum_rtx sp_rtx (const_of n)) rest stands
      (sum_value t sp_rtx (const_of n) a (number n) (sp_value t a is) (const_value t n) ∙ ap Some sum)
  by_size true t uid q a b n rest stands is sum =
      let t' = after_set world g t q 28 (number n) in
      let later = sp_set t' (uid + 1) (q + 1) b (sum_rtx sp_rtx spare_rtx) rest
      (stands_behind g.insns t.next (plain_with uid (set_rtx spare_rtx (const_of n))) _ q stands)
      (sum_value t' sp_rtx spare_rtx a (low W64 (number n)) (sp_value t' a (sp_kept t q (number n) a is)) (spare_value t q (number n)) ∙
      ap Some (low_twice a (cast_unsigned w64 n) ∙ sum)) in
      behind_step world g t t' rest is_sp t.memory (Points b) (set_step world g t uid 28 (number n) q (const_of n) _ stands (const_value t n))
      (λ r other kept. set_other t.regs 28 (known_of W64 (number n)) r other) refl refl later

  -- sp is changed by a number
  pub sp_changes : (t : State) (uid q size a b : ℕ) (n : ℤ) (rest : List Insn) →
      Stands g.insns t.next (plain_insns uid (sp_changed size n) ++ rest) q → reg_value t.regs 2 W64 ≡ Some a →
      sum_of W64 a (low W64 (cast_unsigned w64 n)) ≡ b → IsChanged t rest b
  sp_changes t uid q size a b n rest stands is sum = by_size (nat_lt most_short size) t uid q a b n rest stands is sum

  -- ---- addresses

  abbrev pub HasAddress : Rtx → ℕ → State → Type 0
  HasAddress address at t = value t address at

  abbrev pub IsMade : State → List Insn → Rtx → ℕ → Type 0
  IsMade t rest address at = Behind world g t rest none t.memory (HasAddress address at)

  near : (zero : Bool) (t : State) (offset base : ℕ) → (offset == 0) ≡ zero → reg_value t.regs 2 W64 ≡ Some base →
      base + offset < 2 ^ 64 → value t (if zero then sp_rtx else sum_rtx sp_rtx (const_of (pos offset))) (base + offset)
  near true t offset base is_zero is small =
      let none : base ≡ base + offset = grind (arith, nat_tests, is_zero) in sp_value t base is ∙ ap Some none
  near false t offset base is_zero is small =
      sum_value t sp_rtx (const_of (pos offset)) base (low W64 offset) (sp_value t base is) (const_value t (pos offset)) ∙
      ap Some (sum_is base offset small)

  by_offset : (far : Bool) (t : State) (uid q offset base : ℕ) (rest : List Insn) →
      Stands g.insns t.next (plain_insns uid (if far then far_base offset else []) ++ rest) q → reg_value t.regs 2 W64 ≡ Some base →
      base + offset < 2 ^ 64 → IsMade t rest (if far then spare_rtx else near_address offset) (base + offset)
  by_offset false t uid q offset base rest stands is small =
      behind_none world g t rest none (HasAddress (near_address offset) (base + offset)) q stands (near (offset == 0) t offset base refl is small)
  by_offset true t uid q offset base rest stands is small =
      let n : ℕ = low W64 offset in
      let t' = after_set world g t q 28 n in
      let Q = HasAddress spare_rtx (base + offset) in
      let stands' = stands_behind g.insns t.next (plain_with uid (set_rtx spare_rtx (const_of (pos offset)))) _ q stands in
      let sum : value t' (sum_rtx spare_rtx sp_rtx) (base + offset) =
      sum_value t' spare_rtx sp_rtx (low W64 n) base (spare_value t q n) (sp_value t' base (sp_kept t q n base is)) ∙
      ap Some (sum_turned base offset small) in
      let t'' = after_set world g t' (q + 1) 28 (base + offset) in
      behind_step world g t t' rest none t.memory Q (set_step world g t uid 28 n q (const_of (pos offset)) _ stands (const_value t (pos offset)))
      (λ r other kept. set_other t.regs 28 (known_of W64 n) r other) refl refl
      (behind_step world g t' t'' rest none t.memory Q (set_step world g t' (uid + 1) 28 (base + offset) (q + 1) (sum_rtx spare_rtx sp_rtx) rest stands' sum)
      (λ r other kept. set_other t'.regs 28 (known_of W64 (base + offset)) r other) refl refl
      (behind_none world g t'' rest none Q (q + 1 + 1)
      (stands_behind g.insns t'.next (plain_with (uid + 1) (set_rtx spare_rtx (sum_rtx spare_rtx sp_rtx))) rest (q + 1) stands')
      (value_reg world.symbols t''.regs t.memory 28 ∙
      holds t''.regs 28 (base + offset) spare_some small (set_is t'.regs 28 (known_of W64 (base + offset)) spare_some))))

  -- the address of a saved register is made
  pub address_made : (t : State) (uid q offset base : ℕ) (rest : List Insn) →
      Stands g.insns t.next (plain_insns uid (base_made offset) ++ rest) q → reg_value t.regs 2 W64 ≡ Some base →
      base + offset < 2 ^ 64 → IsMade t rest (address_at offset) (base + offset)
  address_made t uid q offset base rest stands is small = by_offset (nat_lt most_near offset) t uid q offset base rest stands is small

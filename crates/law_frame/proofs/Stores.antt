-- Saved registers are stored, one behind the other.
use Rattle.std.proofs.Common.{◌≡◌, ◌≢◌, ℕ, suc, ◌+◌, ◌<◌, ◌^◌, true, length, List, [], ◌∷◌, ◌++◌, Some, refl, sym, ap, subst, ◌∙◌, arith}
use Rattle.std.specs.FinMap.{get}
use Rattle.std.specs.List.{flat_map}
use Rattle.std.specs.Prelude.{is_some}
use Rattle.bits64.specs.declared.Width.TheVariants.{W64}
use Rattle.rtx_tree.specs.Patterns.{set_rtx}
use Rattle.rtx_tree.specs.Tree.{reg_of}
use Rattle.rtx_tree.specs.declared.code.Mode.TheVariants.{DI}
use Rattle.rtx_tree.specs.declared.function.Function.{Function}
use Rattle.rtx_tree.specs.declared.function.Insn.{Insn}
use Rattle.rtx_tree.specs.declared.machine.Start.{Start}
use Rattle.rtx_tree.specs.declared.machine.World.{World}
use Rattle.rtx_tree.specs.declared.memories.MemByte.{MemByte}
use Rattle.rtx_tree.specs.declared.tree.Rtx.{Rtx}
use Rattle.run_memory.specs.RunMemory.{load, with_number}
use Rattle.run_memory.proofs.Laws.{has-load_stored}
use Rattle.rtl_step.specs.Regs.{reg_value}
use Rattle.rtl_step.specs.declared.step.State.{State}
use Rattle.law_window_replaced.proofs.Stands.{Stands, stands_same, stands_behind}
use Rattle.assign.specs.declared.places.SavedAt.{SavedAt}
use Rattle.law_frame.specs.Frame.{base_made, address_at, word_at, stored, plain_with, plain_insns}
use Rattle.law_frame.specs.Keeps.{held_at_entry, with_words}
use Rattle.law_frame.proofs.Registers.{value_alike}
use Rattle.law_frame.proofs.Instructions.{after_store, store_step}
use Rattle.law_frame.proofs.Behind.{Behind, with_memory, behind_none, behind_step, behind_both}
use Rattle.law_frame.proofs.Changes.{none, two_other, HasAddress, address_made}

-- ---- patterns behind patterns

pub plain-append : (uid : ℕ) (xs ys : List Rtx) (rest : List Insn) →
    plain_insns uid (xs ++ ys) ++ rest ≡ plain_insns uid xs ++ (plain_insns (uid + length xs) ys ++ rest)
plain-append uid [] ys rest = ap (λ n. plain_insns n ys ++ rest) (let same : uid ≡ uid + 0 = omega arith in same)
plain-append uid (x ∷ xs) ys rest = ap (λ (more : List Insn). plain_with uid x ∷ more)
    (plain-append (uid + 1) xs ys rest ∙ ap (λ n. plain_insns (uid + 1) xs ++ (plain_insns n ys ++ rest))
    (let same : uid + 1 + length xs ≡ uid + suc (length xs) = omega arith in same))

-- of the state behind nothing is asked
abbrev pub Any : State → Type 0
Any t = Unit {0}

module _ (world : World) (g : Function) (base : ℕ) where
  -- a register is stored at its place
  pub store_one : (t : State) (uid q v : ℕ) (s : SavedAt) (rest : List Insn) → Stands g.insns t.next (plain_insns uid (stored s) ++ rest) q →
      reg_value t.regs 2 W64 ≡ Some base → base + s.offset < 2 ^ 64 → s.reg ≢ 28 → reg_value t.regs s.reg W64 ≡ Some v →
      is_some (load W64 t.memory (base + s.offset)) ≡ true → Behind world g t rest none (with_number t.memory (base + s.offset) 8 v) Any
  store_one t uid q v s rest stands pointer small other is has =
      let store : Rtx = set_rtx (word_at s.offset) (reg_of DI s.reg) in
      let uid' : ℕ = uid + length (base_made s.offset) in
      let at : ℕ = base + s.offset in
      let b = address_made world g t uid q s.offset base (plain_with uid' store ∷ rest)
      (stands_same g.insns t.next _ _ q (plain-append uid (base_made s.offset) (store ∷ []) rest) stands) pointer small in
      let t' = after_store world g b.after b.place at v in
      behind_both world g t (plain_with uid' store ∷ rest) rest none none t.memory (with_number t.memory at 8 v)
      (HasAddress world g (address_at s.offset) at) Any b
      (with_memory world g b.after rest none t'.memory (with_number t.memory at 8 v) Any Any (ap (λ m. with_number m at 8 v) b.memory_is)
      (behind_step world g b.after t' rest none t'.memory Any
      (store_step world g b.after uid' s.reg at v b.place (address_at s.offset) rest b.stands b.holds
      (value_alike t.regs b.after.regs s.reg W64 (b.others s.reg other refl) ∙ is)
      (ap (λ m. is_some (load W64 m at)) b.memory_is ∙ has))
      (λ r other kept. refl) refl refl
      (behind_none world g t' rest none Any (b.place + 1)
      (stands_behind g.insns b.after.next (plain_with uid' store) rest b.place b.stands) tt)) tt)

  -- what is asked of a saved register that is stored
  pub record IsStorable (start : Start) (memory : List MemByte) (s : SavedAt) : Type 0 where
    pub small : base + s.offset < 2 ^ 64
    pub other : s.reg ≢ 28
    pub has : is_some (load W64 memory (base + s.offset)) ≡ true

  abbrev pub AreStorable : Start → List MemByte → List SavedAt → Type 0
  AreStorable start memory [] = Unit {0}
  AreStorable start memory (s ∷ saved) = IsStorable start memory s × AreStorable start memory saved

  still : (start : Start) (memory : List MemByte) (at v : ℕ) (saved : List SavedAt) → AreStorable start memory saved →
      AreStorable start (with_number memory at 8 v) saved
  still start memory at v [] are = tt
  still start memory at v (s ∷ saved) are = (
    record {
      small = are.0.small;
      other = are.0.other;
      has = has-load_stored W64 W64 memory at v (base + s.offset) ∙ are.0.has;
    },
    still start memory at v saved are.1,
  )

  -- the registers hold what they held at entry
  abbrev pub Holds : Start → State → List SavedAt → Type 0
  Holds start t [] = Unit {0}
  Holds start t (s ∷ saved) = (reg_value t.regs s.reg W64 ≡ Some (held_at_entry start s.reg)) × Holds start t saved

  still_hold : (start : Start) (t t' : State) (memory : List MemByte) (saved : List SavedAt) → AreStorable start memory saved →
      ((r : ℕ) → r ≢ 28 → get t'.regs r ≡ get t.regs r) → Holds start t saved → Holds start t' saved
  still_hold start t t' memory [] are same hold = tt
  still_hold start t t' memory (s ∷ saved) are same hold =
      (value_alike t.regs t'.regs s.reg W64 (same s.reg are.0.other) ∙ hold.0, still_hold start t t' memory saved are.1 same hold.1)

  -- all are stored
  pub stores : (start : Start) (saved : List SavedAt) (t : State) (uid q : ℕ) (rest : List Insn) → AreStorable start t.memory saved →
      Stands g.insns t.next (plain_insns uid (flat_map stored saved) ++ rest) q → reg_value t.regs 2 W64 ≡ Some base →
      Holds start t saved → Behind world g t rest none (with_words start base saved t.memory) Any
  stores start [] t uid q rest are stands pointer hold = behind_none world g t rest none Any q stands tt
  stores start (s ∷ saved) t uid q rest are stands pointer hold =
      let v : ℕ = held_at_entry start s.reg in
      let uid' : ℕ = uid + length (stored s) in
      let at : ℕ = base + s.offset in
      let b = store_one t uid q v s (plain_insns uid' (flat_map stored saved) ++ rest)
      (stands_same g.insns t.next _ _ q (plain-append uid (stored s) (flat_map stored saved) rest) stands) pointer are.0.small are.0.other hold.0
      are.0.has in
      let later = stores start saved b.after uid' b.place rest
      (subst (λ m. AreStorable start m saved) (sym b.memory_is) (still start t.memory at v saved are.1)) b.stands
      (value_alike t.regs b.after.regs 2 W64 (b.others 2 two_other refl) ∙ pointer)
      (still_hold start t b.after t.memory saved are.1 (λ r other. b.others r other refl) hold.1) in
      behind_both world g t (plain_insns uid' (flat_map stored saved) ++ rest) rest none none (with_number t.memory at 8 v)
      (with_words start base saved (with_number t.memory at 8 v)) Any Any b
      (with_memory world g b.after rest none (with_words start base saved b.after.memory)
      (with_words start base saved (with_number t.memory at 8 v)) Any Any (ap (with_words start base saved) b.memory_is) later tt)

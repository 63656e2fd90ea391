-- Saved registers are loaded, one behind the other.
use Rattle.std.proofs.Common.{◌≡◌, ◌≢◌, ℕ, ◌+◌, ◌<◌, ◌^◌, ◌==◌, ◌||◌, Bool, true, false, length, List, [], ◌∷◌, ◌++◌, Some, refl, sym, ap, subst, ◌∙◌, arith}
use Rattle.std.proofs.lemmas.Bool.Decides.{nat_tests}
use Rattle.std.specs.FinMap.{get}
use Rattle.std.specs.List.{flat_map, list_any}
use Rattle.bits64.specs.declared.Width.TheVariants.{W64}
use Rattle.rtx_tree.specs.Patterns.{set_rtx}
use Rattle.rtx_tree.specs.Tree.{reg_of}
use Rattle.rtx_tree.specs.declared.code.Mode.TheVariants.{DI}
use Rattle.rtx_tree.specs.declared.function.Function.{Function}
use Rattle.rtx_tree.specs.declared.function.Insn.{Insn}
use Rattle.rtx_tree.specs.declared.machine.Start.{Start}
use Rattle.rtx_tree.specs.declared.machine.World.{World}
use Rattle.rtx_tree.specs.declared.memories.MemByte.{MemByte}
use Rattle.rtx_tree.specs.declared.tree.Rtx.{Rtx}
use Rattle.run_memory.specs.RunMemory.{load}
use Rattle.rtl_step.specs.Regs.{known_of, reg_value}
use Rattle.rtl_step.specs.declared.step.State.{State}
use Rattle.law_window_replaced.proofs.Stands.{Stands, stands_same, stands_behind}
use Rattle.assign.specs.declared.places.SavedAt.{SavedAt}
use Rattle.law_frame.specs.Frame.{base_made, address_at, word_at, loaded, plain_with, plain_insns}
use Rattle.law_frame.specs.Kept.{is_saved_at}
use Rattle.law_frame.specs.Keeps.{held_at_entry}
use Rattle.law_frame.proofs.Registers.{differ, set_is, set_other, value_alike}
use Rattle.law_frame.proofs.Instructions.{after_set, set_step, value_word}
use Rattle.law_frame.proofs.Behind.{Behind, with_memory, behind_none, behind_step, behind_both}
use Rattle.law_frame.proofs.Changes.{none, two_other, HasAddress, address_made}
use Rattle.law_frame.proofs.Stores.{plain-append}

-- what is asked of a saved register that is loaded: it is none of zero, sp and t3, and stands at its place
pub record IsLoadable (base : ℕ) (start : Start) (memory : List MemByte) (s : SavedAt) : Type 0 where
  pub small : base + s.offset < 2 ^ 64
  pub some : s.reg ≢ 0
  pub no_sp : s.reg ≢ 2
  pub no_spare : s.reg ≢ 28
  pub has : load W64 memory (base + s.offset) ≡ Some (held_at_entry start s.reg)

abbrev pub AreLoadable : ℕ → Start → List MemByte → List SavedAt → Type 0
AreLoadable base start memory [] = Unit {0}
AreLoadable base start memory (s ∷ saved) = IsLoadable base start memory s × AreLoadable base start memory saved

-- one of some saved registers
abbrev pub among : List SavedAt → ℕ → Bool
among saved r = list_any (is_saved_at r) saved

turned : (a b : ℕ) → (a == b) ≡ false → b ≢ a
turned a b is same = grind (arith, nat_tests, is, same)

same_of : (a b : ℕ) → (a == b) ≡ true → a ≡ b
same_of a b is = grind (arith, nat_tests, is)

module _ (world : World) (g : Function) (base : ℕ) (start : Start) where
  -- a register holds what it held at entry
  abbrev HasAgain : SavedAt → State → Type 0
  HasAgain s t = get t.regs s.reg ≡ Some (known_of W64 (held_at_entry start s.reg))

  -- and so each of some
  abbrev pub HaveAgain : List SavedAt → State → Type 0
  HaveAgain saved t = (r : ℕ) → among saved r ≡ true → get t.regs r ≡ Some (known_of W64 (held_at_entry start r))

  -- a register is loaded from its place
  load_one : (t : State) (uid q : ℕ) (s : SavedAt) (rest : List Insn) → IsLoadable base start t.memory s →
      Stands g.insns t.next (plain_insns uid (loaded s) ++ rest) q → reg_value t.regs 2 W64 ≡ Some base →
      Behind world g t rest (λ r. is_saved_at r s) t.memory (HasAgain s)
  load_one t uid q s rest is stands pointer =
      let v : ℕ = held_at_entry start s.reg in
      let set : Rtx = set_rtx (reg_of DI s.reg) (word_at s.offset) in
      let uid' : ℕ = uid + length (base_made s.offset) in
      let at : ℕ = base + s.offset in
      let b = address_made world g t uid q s.offset base (plain_with uid' set ∷ rest)
      (stands_same g.insns t.next _ _ q (plain-append uid (base_made s.offset) (set ∷ []) rest) stands) pointer is.small in
      let t' = after_set world g b.after b.place s.reg v in
      let one = behind_step world g b.after t' rest (λ r. is_saved_at r s) t'.memory (HasAgain s)
      (set_step world g b.after uid' s.reg v b.place (word_at s.offset) rest b.stands
      (value_word world.symbols b.after.regs b.after.memory (address_at s.offset) at b.holds ∙ ap (λ m. load W64 m at) b.memory_is ∙ is.has))
      (λ r other kept. set_other b.after.regs s.reg (known_of W64 v) r (turned s.reg r kept)) refl refl
      (behind_none world g t' rest (λ r. is_saved_at r s) (HasAgain s) (b.place + 1)
      (stands_behind g.insns b.after.next (plain_with uid' set) rest b.place b.stands) (set_is b.after.regs s.reg (known_of W64 v) is.some)) in
      behind_both world g t (plain_with uid' set ∷ rest) rest none (λ r. is_saved_at r s) t.memory t.memory
      (HasAddress world g (address_at s.offset) at) (HasAgain s) b
      (with_memory world g b.after rest (λ r. is_saved_at r s) t'.memory t.memory (HasAgain s) (HasAgain s) b.memory_is one one.holds)

  or_none : (b : Bool) → b || false ≡ true → b ≡ true
  or_none true is = refl
  or_none false is = is

  both_hold : (t after : State) (rest : List Insn) (s : SavedAt) (saved : List SavedAt) (r : ℕ) (later : Bool) → among saved r ≡ later →
      s.reg ≢ 28 → get t.regs s.reg ≡ Some (known_of W64 (held_at_entry start s.reg)) →
      ((r : ℕ) → r ≢ 28 → among saved r ≡ false → get after.regs r ≡ get t.regs r) →
      ((r : ℕ) → among saved r ≡ true → get after.regs r ≡ Some (known_of W64 (held_at_entry start r))) →
      is_saved_at r s || among saved r ≡ true → get after.regs r ≡ Some (known_of W64 (held_at_entry start r))
  both_hold t after rest s saved r true is other holds others later among_them = later r is
  both_hold t after rest s saved r false is other holds others later among_them =
      let here : s.reg ≡ r = same_of s.reg r (or_none (is_saved_at r s) (sym (ap (λ b. is_saved_at r s || b) is) ∙ among_them)) in
      subst (λ r. get after.regs r ≡ Some (known_of W64 (held_at_entry start r))) here
      (others s.reg other (subst (λ r. among saved r ≡ false) (sym here) is) ∙ holds)

  -- all are loaded
  pub loads : (saved : List SavedAt) (t : State) (uid q : ℕ) (rest : List Insn) → AreLoadable base start t.memory saved →
      Stands g.insns t.next (plain_insns uid (flat_map loaded saved) ++ rest) q → reg_value t.regs 2 W64 ≡ Some base →
      Behind world g t rest (among saved) t.memory (HaveAgain saved)
  loads [] t uid q rest are stands pointer =
      behind_none world g t rest (among []) (HaveAgain []) q stands (λ r is. absurd (let no : ⊥ = cc in no))
  loads (s ∷ saved) t uid q rest are stands pointer =
      let uid' : ℕ = uid + length (loaded s) in
      let b = load_one t uid q s (plain_insns uid' (flat_map loaded saved) ++ rest) are.0
      (stands_same g.insns t.next _ _ q (plain-append uid (loaded s) (flat_map loaded saved) rest) stands) pointer in
      let later = loads saved b.after uid' b.place rest (subst (λ m. AreLoadable base start m saved) (sym b.memory_is) are.1) b.stands
      (value_alike t.regs b.after.regs 2 W64 (b.others 2 two_other (differ s.reg 2 are.0.no_sp)) ∙ pointer) in
      behind_both world g t (plain_insns uid' (flat_map loaded saved) ++ rest) rest (λ r. is_saved_at r s) (among saved) t.memory t.memory
      (HasAgain s) (HaveAgain (s ∷ saved)) b
      (with_memory world g b.after rest (among saved) b.after.memory t.memory (HaveAgain saved) (HaveAgain (s ∷ saved)) b.memory_is later
      (λ r among_them. both_hold b.after later.after rest s saved r (among saved r) refl are.0.no_spare b.holds later.others later.holds among_them))

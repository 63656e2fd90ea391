-- A state that knows more, but of t3 to t6, stands where the other one stands.
use Rattle.std.proofs.Common.{◌≡◌, ℕ, ◌+◌, ◌≤◌, not, inl, inr, Bool, true, false, ◌∷◌, map, Some, refl, sym, ap, subst, ◌∙◌, arith}
use Rattle.std.proofs.lemmas.Bool.{false≢true, and_parts, or_cases, leb-true}
use Rattle.std.proofs.lemmas.Bool.Decides.{nat_tests}
use Rattle.std.specs.Prelude.{is_some, nat_le, slice_get}
use Rattle.bits64.specs.declared.Width.{Width}
use Rattle.bits64.specs.declared.Width.TheVariants.{W64}
use Rattle.rtx_tree.specs.Memories.{byte_at}
use Rattle.rtx_tree.specs.RegSet.{has_reg}
use Rattle.rtx_tree.specs.Registers.{pseudo}
use Rattle.rtx_tree.specs.Tree.{mentions_reg}
use Rattle.rtx_tree.specs.declared.function.Insn.{Insn}
use Rattle.run_memory.specs.RunMemory.{load, visible}
use Rattle.rtl_step.specs.declared.step.State.{State}
use Rattle.rtl_func.specs.Calls.{is_argument}
use Rattle.rv_regs.specs.Registers.{saved_registers}
use Rattle.law_window_runs.specs.Beside.{Within}
use Rattle.assign.specs.declared.home.Home.{Home}
use Rattle.assign.specs.declared.home.Home.TheVariants.{Hard, Slot}
use Rattle.assign.specs.declared.places.SavedAt.{SavedAt}
use Rattle.reload_homes.specs.Homes.{home_of, slot_offset}
use Rattle.law_homes.specs.Kept.{is_unsaved}
use Rattle.law_homes.specs.Knows.{is_scratch, KnowsMore}
use Rattle.law_homes.specs.Placed.{placed}
use Rattle.law_homes.specs.Stands.{content_in, has_home}
use Rattle.law_homes.proofs.After.{one_has}
use Rattle.law_homes.proofs.HomesApart.{hard_home}
use Rattle.law_homes.proofs.Naming.{puts_homes}
use Rattle.law_homes.proofs.Setting.{Setting, named_of, base, StandsIn, machines, are_homed}

turned : (b : Bool) → not b ≡ true → b ≡ false
turned true is = absurd (false≢true is)
turned false is = refl

module _ (c : Setting) where
  -- no home is one of t3 to t6
  home_no_scratch : (reg hard : ℕ) → has_home reg ≡ true → home_of c.homes reg ≡ Hard hard → is_scratch hard ≡ false
  home_no_scratch reg hard has is = elim (hard_home c.f c.homes c.are_homes reg hard is) [
    | inl among ↦ let most = among.1 in grind (arith, nat_tests, most)
    | inr same ↦ elim (or_cases (is_argument reg) (nat_le (pseudo 0) reg) has) [
      | inl argument ↦ let most = leb-true reg 17 (and_parts (nat_le 10 reg) (nat_le reg 17) argument).1 in grind (arith, nat_tests, same, most)
      | inr above ↦ let least : 64 ≤ reg = leb-true 64 reg above in grind (arith, nat_tests, same, least)
    ]
  ]

  unsaved_no_scratch : (reg : ℕ) → is_unsaved c.layout reg ≡ true → is_scratch reg ≡ false
  unsaved_no_scratch reg unsaved = turned (is_scratch reg) (one_has (λ n. not (is_scratch n)) (1 ∷ saved_registers) reg refl
      (and_parts (has_reg (1 ∷ saved_registers) reg) (not (has_reg (map (λ (r : SavedAt). r.reg) c.layout.saved) reg)) unsaved).0)

  module _ (place : ℕ) (s u t : State) (stands : StandsIn c place s u) (more : KnowsMore u t) where
    content_grows : (reg : ℕ) (home : Home) (w : Width) (v : ℕ) → ((hard : ℕ) → home ≡ Hard hard → is_scratch hard ≡ false) →
        content_in c.layout (base c) u.regs u.memory reg home w ≡ Some v → content_in c.layout (base c) t.regs t.memory reg home w ≡ Some v
    content_grows reg (Hard hard) w v free is = more.known hard (free hard refl) w v is
    content_grows reg Slot w v free is = ap (λ m. load w m (base c + slot_offset c.layout reg)) more.memory_is ∙ is

    pub stands_more : StandsIn c place s t
    stands_more = record {
      values = λ reg has live w v is.
          content_grows reg (home_of c.homes reg) w v (λ hard home. home_no_scratch reg hard has home) (stands.values reg has live w v is);
      vars = stands.vars;
      within = subst (λ m. Within s.memory m) (sym more.memory_is) stands.within;
      outside = stands.outside;
      room = λ address inside. ap (λ m. is_some (byte_at m address)) more.memory_is ∙ stands.room address inside;
      seen = ap (visible c.start.visible) more.memory_is ∙ stands.seen;
      ranges = stands.ranges;
      ranges_too = more.ranges_are ∙ stands.ranges_too;
      calls = more.calls_are ∙ stands.calls;
      kept = record {
        pointer = more.known 2 refl W64 (base c) stands.kept.pointer;
        registers = λ reg unsaved w v is. more.known reg (unsaved_no_scratch reg unsaved) w v (stands.kept.registers reg unsaved w v is);
        room = λ address inside other free. ap (λ m. byte_at m address) more.memory_is ∙ stands.kept.room address inside other free;
      };
    }

-- an instruction with homes put in names none of t3 to t6
pub names_no_scratch : (c : Setting) (place : ℕ) (i : Insn) → slice_get c.f.insns place ≡ Some i → (s u : State) → StandsIn c place s u → (r : ℕ) →
    mentions_reg r (placed c.homes c.layout i.pattern) ≡ true → is_scratch r ≡ false
names_no_scratch c place i at s u stands r has =
    elim (puts_homes c.homes c.layout (machines c place s u) (are_homed c place s u stands) i.pattern (c.can.sized place i at) (named_of c place i at) r has) [
      | inl sp ↦ ap is_scratch (sym sp)
      | inr (reg, named, home) ↦ home_no_scratch c reg r named.has home
    ]

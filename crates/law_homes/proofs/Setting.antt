-- Two states at a place of a function whose registers have homes, as two machines of which the second has the registers in their homes.
use Rattle.std.proofs.Common.{◌≡◌, ℕ, ◌+◌, ◌%◌, ◌<◌, ◌≤◌, ◌⊎◌, inl, inr, true, false, List, Some, arith}
use Rattle.std.proofs.lemmas.Bool.{and_parts, or_cases, leb-true}
use Rattle.std.proofs.lemmas.Bool.Decides.{nat_tests}
use Rattle.std.specs.Prelude.{nat_le, is_some, slice_get}
use Rattle.bits64.specs.declared.Width.{Width}
use Rattle.rtx_tree.specs.Registers.{pseudo}
use Rattle.rtx_tree.specs.Tree.{mentions_reg}
use Rattle.rtx_tree.specs.declared.function.Function.{Function}
use Rattle.rtx_tree.specs.declared.function.Insn.{Insn}
use Rattle.rtx_tree.specs.declared.machine.Start.{Start}
use Rattle.rtx_tree.specs.declared.machine.World.{World}
use Rattle.run_memory.specs.RunMemory.{load}
use Rattle.rtl_step.specs.declared.step.State.{State}
use Rattle.rtl_func.specs.Calls.{is_argument}
use Rattle.live.specs.Live.{IsLive}
use Rattle.same_behaviour.specs.Lawful.{IsLawful, is_below_sp}
use Rattle.assign.specs.Frame.{IsFrame}
use Rattle.assign.specs.Homes.{AreHomes}
use Rattle.assign.specs.declared.home.Home.TheVariants.{Slot}
use Rattle.assign.specs.declared.home.HomeOf.{HomeOf}
use Rattle.assign.specs.declared.places.Layout.{Layout}
use Rattle.reload_homes.specs.Homes.{home_of, slot_offset}
use Rattle.law_homes.specs.Kept.{base_of}
use Rattle.law_homes.specs.Placed.{CanBePlaced}
use Rattle.law_homes.specs.Stands.{has_home, Stands}
use Rattle.law_homes.proofs.HomesApart.{below_itself, slot_aligned, slot_within}
use Rattle.law_homes.proofs.Placing.{Machines, AreHomed}
use Rattle.law_homes.proofs.Stores.{slot_there}

-- a function whose registers have homes in a frame, and a lawful start for it
pub record Setting : Type 0 where
  pub f : Function
  pub homes : List HomeOf
  pub layout : Layout
  pub start : Start
  pub world : World
  pub are_homes : AreHomes f homes
  pub frame : IsFrame f homes layout
  pub lawful : IsLawful layout.size f.locals start
  pub can : CanBePlaced f

-- a register that has a home
pub record IsNamed (reg : ℕ) : Type 0 where
  pub has : has_home reg ≡ true

-- and is live at a place
pub record IsCounted (f : Function) (place reg : ℕ) : Type 0 where
  pub named : IsNamed reg
  pub live : IsLive f reg place

abbrev pub base : Setting → ℕ
base c = base_of c.layout c.start

abbrev pub StandsIn : Setting → ℕ → State → State → Type 0
StandsIn c place s u = Stands c.f c.homes c.layout c.start place s u

abbrev pub machines : Setting → ℕ → State → State → Machines
machines c place s u = record {
  symbols = c.world.symbols;
  regs = s.regs;
  others = u.regs;
  memory = s.memory;
  other = u.memory;
  base = base c;
  top = c.start.sp;
  Named = IsNamed;
  Counts = IsCounted c.f place;
}

-- a register that has a home is one of a0 to a7, or a pseudo
pub home_least : (reg : ℕ) → has_home reg ≡ true → 10 ≤ reg
home_least reg is = elim (or_cases (is_argument reg) (nat_le (pseudo 0) reg) is) [
  | inl argument ↦ leb-true 10 reg (and_parts (nat_le 10 reg) (nat_le reg 17) argument).0
  | inr above ↦ let more = leb-true 64 reg above in omega (arith, more)
]

-- a register that stands in an instruction is virtual-stack-vars, or has a home
pub named_of : (c : Setting) (place : ℕ) (i : Insn) → slice_get c.f.insns place ≡ Some i → (reg : ℕ) → mentions_reg reg i.pattern ≡ true →
    (reg ≡ 32) ⊎ IsNamed reg
named_of c place i at reg has = elim (c.can.named place reg i at has) [
  | inl vars ↦ inl vars
  | inr home ↦ inr (record { has = home })
]

module _ (c : Setting) where
  pub frame_is : base c + c.layout.size ≡ c.start.sp
  frame_is = let above = c.lawful.above_zero in omega (arith, above)

  base_even : base c % 8 ≡ 0
  base_even = let above = c.lawful.above_zero in let sp = c.lawful.aligned in let size = c.frame.size_aligned in omega (arith, above, sp, size)

  -- the bytes of a slot are some of the frame, below the locals
  pub slot_below : (reg place : ℕ) → home_of c.homes reg ≡ Slot → base c + slot_offset c.layout reg ≤ place →
      place < base c + slot_offset c.layout reg + 8 → is_below_sp c.start c.layout.size place ≡ true
  slot_below reg place is least most =
      let within = slot_within c.f c.homes c.layout c.frame reg is in
      let above = frame_is in
      let first : c.start.sp ≤ place + c.layout.size = omega (arith, least, above) in
      let second : place < c.start.sp = omega (arith, most, within, above) in
      grind (arith, nat_tests, first, second)

  pub slot_no_local : (reg place : ℕ) → home_of c.homes reg ≡ Slot → base c + slot_offset c.layout reg ≤ place →
      place < base c + slot_offset c.layout reg + 8 → is_below_sp c.start c.f.locals place ≡ false
  slot_no_local reg place is least most =
      let within = slot_within c.f c.homes c.layout c.frame reg is in
      let above = frame_is in
      let below : place + c.f.locals < c.start.sp = omega (arith, most, within, above) in
      grind (arith, nat_tests, below)

  pub slot_even : (reg : ℕ) → home_of c.homes reg ≡ Slot → (base c + slot_offset c.layout reg) % 8 ≡ 0
  slot_even reg is = let even = slot_aligned c.f c.homes c.layout c.frame reg is in let first = base_even in omega (arith, even, first)

  module _ (place : ℕ) (s u : State) (stands : StandsIn c place s u) where
    pub slot_room : (reg : ℕ) → home_of c.homes reg ≡ Slot → (w : Width) → is_some (load w u.memory (base c + slot_offset c.layout reg)) ≡ true
    slot_room reg is = slot_there u.memory (base c + slot_offset c.layout reg) (slot_even reg is)
        (λ q least most. stands.room q (slot_below reg q is least most))

    pub are_homed : AreHomed c.homes c.layout (machines c place s u)
    are_homed = record {
      within = stands.within;
      vars = stands.vars;
      pointer = stands.kept.pointer;
      frame = frame_is;
      word = c.lawful.words.sp;
      sp_home = below_itself c.f c.homes c.are_homes 2 (omega arith);
      values = λ reg counts w v is. stands.values reg counts.named.has counts.live w v is;
      named = λ reg counts. counts.named;
      positive = λ reg named. let least = home_least reg named.has in omega (arith, least);
      slot = λ reg named is. let within = slot_within c.f c.homes c.layout c.frame reg is in omega (arith, within);
      there = λ reg named is w. slot_room reg is w;
    }

-- What a plain instruction of a function gives: its effects with homes put in change hard registers and not sp, and store in slots or outside them.
use Rattle.std.proofs.Common.{◌≡◌, ◌≢◌, ◌⊎◌, ⊎_elim, inl, inr, ℕ, ◌+◌, ◌≤◌, Bool, true, false, List, [], ◌∷◌, Some, refl, sym, ap, subst, ◌∙◌, arith}
use Rattle.std.proofs.lemmas.Bool.{and_parts, leb-true}
use Rattle.std.proofs.lemmas.Bool.Decides.{nat_tests}
use Rattle.std.specs.List.{list_all}
use Rattle.std.specs.Prelude.{nat_le, slice_get}
use Rattle.law_operands_fetched.specs.bits64.declared.Width.TheVariants.{W64}
use Rattle.law_operands_fetched.specs.rtx_tree.Code.{class_of_code, is_effect_class}
use Rattle.law_operands_fetched.specs.rtx_tree.Tree.{RtxHead}
use Rattle.law_operands_fetched.specs.rtx_tree.declared.function.Insn.{Insn}
use Rattle.law_operands_fetched.specs.rtx_tree.declared.function.Kind.TheVariants as kind
use Rattle.law_operands_fetched.specs.rtx_tree.declared.tree.Rtx.{Rtx}
use Rattle.law_operands_fetched.proofs.run_memory.Laws.{Apart}
use Rattle.law_operands_fetched.specs.rtl_func.Nodes.{nodes_of}
use Rattle.law_operands_fetched.specs.rtl_func.Shapes.{is_effect, is_shaped}
use Rattle.law_operands_fetched.specs.rtl_step.Effect.{effects_of}
use Rattle.law_operands_fetched.specs.rtl_step.Value.{value_of}
use Rattle.law_operands_fetched.specs.rtl_step.declared.effect.Effect.{Effect}
use Rattle.law_operands_fetched.specs.rtl_step.declared.effect.Effect.TheVariants.{Nothing, Sets, Unsets, Stores}
use Rattle.law_operands_fetched.specs.rtl_step.declared.step.State.{State}
use Rattle.law_operands_fetched.specs.md_constr.Inputs as inputs
use Rattle.law_operands_fetched.specs.md_match.Pattern.{Ops}
use Rattle.law_operands_fetched.specs.assign.declared.home.Home.TheVariants.{Slot}
use Rattle.law_operands_fetched.specs.reload_homes.FrameRefs.{framed}
use Rattle.law_operands_fetched.specs.reload_homes.Homes.{home_of, slot_address, slot_offset}
use Rattle.law_operands_fetched.specs.reload_operands.Changes.{is_hard}
use Rattle.law_operands_fetched.specs.reload_choice.declared.given.Plan.{Plan}
use Rattle.law_operands_fetched.specs.law_homes.Tame.{IsFree}
use Rattle.law_operands_fetched.specs.law_homes.Tame as homes
use Rattle.law_operands_fetched.proofs.law_homes.HomesApart as apart
use Rattle.law_operands_fetched.proofs.law_homes.HomesApart.{slot_within}
use Rattle.law_operands_fetched.proofs.law_homes.Placing.{slot_at}
use Rattle.law_operands_fetched.proofs.law_homes.Plain.{PlainDoes}
use Rattle.law_operands_fetched.proofs.law_homes.Setting.{Setting, base, StandsIn, machines, are_homed}
use Rattle.law_operands_fetched.proofs.law_homes.Tamed.{AllTame, tame_none, tame_more}
use Rattle.law_operands_fetched.proofs.law_operands_replaced.Ends.{IsOnRest}
use Rattle.law_reload_moves.proofs.LeftRegisters.{IsOnHard, AreOnHard}
use Rattle.law_reload_moves.proofs.OutsideSlots.{AllAway, effect_framed, insn_away}
use Rattle.law_reload_moves.proofs.ResultsEnd.{Among}
use Rattle.law_reload_moves.proofs.SteadyAddress.{Leaves, AllLeave}
use Rattle.law_reload_moves.proofs.Reloaded.{IsReloaded, w}
use Rattle.law_operands_fetched.specs.Tame.{IsTame, AreTame}

module _ (c : Setting) where
  -- what may be a home is a hard register other than sp
  free_hard : (reg : ℕ) → IsFree c.layout reg → is_hard reg ≡ true
  free_hard reg free =
      let bounds = and_parts (nat_le 5 reg) (nat_le reg 27) free.home in
      let most = leb-true reg 27 bounds.1 in grind (arith, nat_tests, most)

  free_no_pointer : (reg : ℕ) → IsFree c.layout reg → 2 ≢ reg
  free_no_pointer reg free same =
      let least = leb-true 5 reg (and_parts (nat_le 5 reg) (nat_le reg 27) free.home).0 in omega (arith, least, same)

  one_hard : (e : Effect) → homes.IsTame c.layout c.f.locals c.start e → IsOnHard e × Leaves 2 e
  one_hard _ (homes.sets reg known free) = (free_hard reg free, free_no_pointer reg free)
  one_hard _ (homes.unsets reg free) = (free_hard reg free, free_no_pointer reg free)
  one_hard _ (homes.fills w k value slot at) = (tt, tt)
  one_hard _ (homes.stores w at value outside) = (tt, tt)
  one_hard _ homes.nothing = (tt, tt)

  pub all_hard : (es : List Effect) → AllTame c es → AreOnHard es × AllLeave 2 es
  all_hard _ tame_none = (tt, tt)
  all_hard _ (tame_more e es tame rest) =
      let one = one_hard e tame in
      let more = all_hard es rest in
      ((one.0, more.0), (one.1, more.1))

  one_rest : (e : Effect) → IsTame c.f.locals c.layout c.start e → IsOnRest e
  one_rest (Sets reg known) tame = tame.no_spare
  one_rest (Unsets reg) tame = tame.no_spare
  one_rest (Stores width at v) tame = tt
  one_rest Nothing tame = tt

  -- none of t3 to t6 is changed
  pub each_rest : (es : List Effect) → AreTame c.f.locals c.layout c.start es → (e : Effect) → Among e es → IsOnRest e
  each_rest [] tame e among = absurd among
  each_rest (o ∷ es) tame e (inl same) = subst IsOnRest (sym same) (one_rest o tame.0)
  each_rest (o ∷ es) tame e (inr more) = each_rest es tame.1 e more

  -- two slots are apart
  pub slots_are_apart : (a b : ℕ) → a ≢ b → home_of c.homes a ≡ Slot → home_of c.homes b ≡ Slot →
      Apart (base c + slot_offset c.layout a) 8 (base c + slot_offset c.layout b) 8
  slots_are_apart a b other is_a is_b = ⊎_elim
      (λ (below : slot_offset c.layout a + 8 ≤ slot_offset c.layout b). inl (omega (arith, below)))
      (λ (above : slot_offset c.layout b + 8 ≤ slot_offset c.layout a). inr (omega (arith, above)))
      (apart.slots_apart c.f c.homes c.layout c.frame a b other is_a is_b)

  module _ (place : ℕ) (i : Insn) (at : slice_get c.f.insns place ≡ Some i) (pattern : Rtx) (found : Ops) (plan : Plan) (is : IsReloaded c i pattern found plan)
      (s u : State) (stands : StandsIn c place s u) where
    -- the address of a slot
    pub slot_value : (reg : ℕ) → home_of c.homes reg ≡ Slot → value_of c.world.symbols u.regs u.memory (slot_address c.layout reg) W64 ≡ Some (base c + slot_offset c.layout reg)
    slot_value reg home = slot_at c.homes c.layout (machines c place s u) (are_homed c place s u stands) reg
        (let within = slot_within c.f c.homes c.layout c.frame reg home in omega (arith, within))

    pub effect : is_effect i.pattern ≡ true
    effect = (and_parts (is_effect i.pattern) (list_all is_shaped (nodes_of i.pattern)) is.shaped).0

    pub w_effect : is_effect (w c place i at pattern found plan is) ≡ true
    w_effect = ap (λ (h : RtxHead). is_effect_class (class_of_code h.code)) (effect_framed c.layout.size i.pattern effect).0 ∙ effect

    -- what is stored elsewhere is in no slot
    pub plain_away : (plain : i.kind ≡ kind.Plain) (es : List Effect) → effects_of c.world.symbols s.regs s.memory i.pattern ≡ Some es →
        (d : PlainDoes c place i at plain s u stands es) → AllAway c place i at s u stands (inputs.effects_of (w c place i at pattern found plan is)) d.these
    plain_away plain es does d = insn_away c place i at s u stands es d.these effect does d.made

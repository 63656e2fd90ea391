-- A plain instruction of a function for which a plan is chosen, with its moves in another function: they lead to what its effects leave.
use Rattle.std.proofs.Common.{◌≡◌, ◌≢◌, ◌⊎◌, ℕ, Bool, true, false, List, [], ◌∷◌, ◌++◌, Some, refl, sym, ap, subst, ◌∙◌}
use Rattle.std.specs.Prelude.{slice_get}
use Rattle.law_operands_fetched.specs.rtx_tree.declared.function.Function.{Function}
use Rattle.law_operands_fetched.specs.rtx_tree.declared.function.Insn.{Insn}
use Rattle.law_operands_fetched.specs.rtx_tree.declared.function.Kind.TheVariants as kind
use Rattle.law_operands_fetched.specs.rtx_tree.declared.memories.MemByte.{MemByte}
use Rattle.law_operands_fetched.specs.rtx_tree.declared.tree.Rtx.{Rtx}
use Rattle.law_operands_fetched.specs.rtl_step.Effect.{effects_of}
use Rattle.law_operands_fetched.specs.rtl_step.Regs.{Regs}
use Rattle.law_operands_fetched.specs.rtl_step.declared.effect.Effect.{Effect}
use Rattle.law_operands_fetched.specs.rtl_step.declared.step.State.{State}
use Rattle.law_operands_fetched.specs.same_behaviour.Lawful.{IsMemory}
use Rattle.law_operands_fetched.proofs.law_frame.law_window_replaced.Stands.{Stands}
use Rattle.law_operands_fetched.specs.md_constr.Inputs as inputs
use Rattle.law_operands_fetched.specs.md_match.Pattern.{Ops}
use Rattle.law_operands_fetched.specs.reload_choice.Insns.{between, insns_before, insns_after}
use Rattle.law_operands_fetched.specs.reload_choice.declared.given.Plan.{Plan}
use Rattle.law_operands_fetched.proofs.law_homes.Plain.{PlainDoes}
use Rattle.law_operands_fetched.proofs.law_homes.Setting.{Setting, base, StandsIn}
use Rattle.law_operands_fetched.proofs.law_homes.Tamed.{AllTame, plain_tame}
use Rattle.law_operands_fetched.specs.Onwards.{ArePlain}
use Rattle.law_operands_fetched.specs.law_operands_replaced.Spare.{KeepsRest}
use Rattle.law_operands_fetched.specs.Tame.{AreTame}
use Rattle.law_reload_moves.proofs.AllOrderly.{EachOutside}
use Rattle.law_reload_moves.proofs.Chosen.{given}
use Rattle.law_operands_fetched.proofs.Fetching.{Fetching}
use Rattle.law_reload_moves.proofs.GivenNews.{own, mode, tree, Free}
use Rattle.law_operands_fetched.proofs.Keeping.{Stay}
use Rattle.law_operands_fetched.proofs.law_operands_replaced.Keying.{with_keys, AreOnRest}
use Rattle.law_reload_moves.proofs.LateAddress.{address_late}
use Rattle.law_reload_moves.proofs.Leads.{G, Here, Told, spared, d, plain_fetch, ResultsMayEnd, plain_leads_over}
use Rattle.law_reload_moves.proofs.OutsideSlots.{AllAway}
use Rattle.law_reload_moves.proofs.PlainGiven.{all_hard, each_rest, slots_are_apart, slot_value, w_effect, plain_away}
use Rattle.law_reload_moves.proofs.PlainInner.{other, Effects, plain_keyed}
use Rattle.law_operands_fetched.proofs.PlainWindow.{ComesTo, tame_stay}
use Rattle.law_reload_moves.proofs.Reloaded.{IsReloaded, w, x, w_natural, x_natural, x_quiet, x_whole}
use Rattle.law_reload_moves.proofs.ResultBases.{bases, bases_spare, bases_hold, based, far_end_here}
use Rattle.law_reload_moves.proofs.ResultEnds.{each_ends}
use Rattle.law_reload_moves.proofs.ResultsEnd.{Among}
use Rattle.law_reload_moves.proofs.ResultsMayEnd.{all_rest, results_may_end}
use Rattle.law_reload_moves.proofs.TakenThere.{IsAt}
use Rattle.law_reload_moves.proofs.Taming.{are_tame}
use Rattle.law_operands_fetched.proofs.Window.{AllStay}

module _ (c : Setting) (place : ℕ) (i : Insn) (at : slice_get c.f.insns place ≡ Some i) (pattern : Rtx) (found : Ops) (plan : Plan)
    (is : IsReloaded c i pattern found plan) (s u : State) (stands : StandsIn c place s u) (memory : IsMemory u.memory)
    (told : Stay c.f.locals c.layout c.start u u.regs u.memory) (other_function : Function)
    (plain : i.kind ≡ kind.Plain) (es : List Effect) (does : effects_of c.world.symbols s.regs s.memory i.pattern ≡ Some es) where
  abbrev W : Rtx
  W = w c place i at pattern found plan is

  abbrev T : Regs → List MemByte → Type 0
  T = Told c place i at pattern found plan is s u stands memory told other_function

  abbrev S : (r r' : Regs) (m : List MemByte) → KeepsRest r r' → T r m → T r' m
  S = spared c place i at pattern found plan is s u stands memory told other_function

  abbrev D : PlainDoes c place i at plain s u stands es
  D = d c place i at pattern found plan is s u stands memory told other_function plain es does

  abbrev F : Fetching c.world.symbols u.regs u.memory (base c) (given c.homes c.layout i.kind W pattern found plan) plan
  F = plain_fetch c place i at pattern found plan is s u stands memory told other_function plain es does

  abbrev H : IsAt c.homes c.layout found pattern W (x c place i at pattern found plan is)
  H = Here c place i at pattern found plan is s u stands memory told other_function

  tame : AllTame c D.these
  tame = plain_tame c place i at s u stands plain es D

  tame_too : AreTame c.f.locals c.layout c.start D.these
  tame_too = are_tame c D.these tame

  stay : AllStay c.world.symbols T S D.these
  stay = tame_stay c.world other_function c.f.locals c.layout c.start u D.these tame_too

  each_outside : (vs : List Rtx) (es : List Effect) → AllAway c place i at s u stands vs es →
      EachOutside c.homes c.layout i.kind W pattern found plan is.sound c.world.symbols u.regs u.memory (base c)
      (slot_value c place i at pattern found plan is s u stands) (slots_are_apart c) vs es
  each_outside [] es away = tt
  each_outside (v ∷ vs) [] away = tt
  each_outside (v ∷ vs) (e ∷ es) away = (away.0, each_outside vs es away.1)

  abbrev K : Effects c.homes c.layout i.kind W pattern found plan c.world.symbols u.regs u.memory (base c) F H D.these
  K = plain_keyed c.homes c.layout i.kind W pattern found plan c.world.symbols u.regs u.memory (base c) F H plain
      (x_natural c place i at pattern found plan is) (x_quiet c place i at pattern found plan is) (x_whole c place i at pattern found plan is) D.these D.is

  on_rest : AreOnRest c.world.symbols u.regs (other c.homes c.layout i.kind W pattern found plan c.world.symbols u.regs u.memory (base c) F H) u.memory (own c.homes c.layout i.kind W pattern found plan)
      (mode c.homes c.layout i.kind W pattern found plan) (tree c.homes c.layout i.kind W pattern found plan) (Free c.homes c.layout i.kind W pattern found plan)
      (with_keys K.keys D.these)
  on_rest = all_rest c.homes c.layout i.kind W pattern found plan c.world.symbols u.regs u.memory (base c) F H plain
      (x_natural c place i at pattern found plan is) (x_quiet c place i at pattern found plan is) (x_whole c place i at pattern found plan is) T S D.these D.is
      (with_keys K.keys D.these) (λ e among. each_rest c D.these tame_too e (subst (Among e) K.keyed.same among))

  -- its results end
  results_end : ResultsMayEnd c place i at pattern found plan is s u stands memory told other_function plain es does
  results_end =
      let hard = all_hard c D.these tame in
      results_may_end c.homes c.layout i.kind W pattern found plan c.world.symbols u.regs u.memory (base c) F H plain
      (x_natural c place i at pattern found plan is) (x_quiet c place i at pattern found plan is) (x_whole c place i at pattern found plan is) T S D.these D.is
      (slot_value c place i at pattern found plan is s u stands) (slots_are_apart c) is.operators
      (w_effect c place i at pattern found plan is s u stands) (w_natural c place i at pattern found plan is)
      (each_outside (inputs.effects_of W) D.these (plain_away c place i at pattern found plan is s u stands plain es does D)) stay (each_rest c D.these tame_too)
      (bases c.homes c.layout i.kind W pattern found plan c.world.symbols u.regs u.memory (base c) F H plain
      (x_natural c place i at pattern found plan is) (x_quiet c place i at pattern found plan is) (x_whole c place i at pattern found plan is) T S D.these D.is)
      (bases_spare c.homes c.layout i.kind W pattern found plan c.world.symbols u.regs u.memory (base c) F H plain
      (x_natural c place i at pattern found plan is) (x_quiet c place i at pattern found plan is) (x_whole c place i at pattern found plan is) T S D.these D.is)
      (bases_hold c.homes c.layout i.kind W pattern found plan c.world.symbols u.regs u.memory (base c) F H plain
      (x_natural c place i at pattern found plan is) (x_quiet c place i at pattern found plan is) (x_whole c place i at pattern found plan is) T S D.these D.is on_rest)
      (each_ends c.homes c.layout i.kind W pattern found plan c.world.symbols u.regs u.memory (base c) F H plain
      (x_natural c place i at pattern found plan is) (x_quiet c place i at pattern found plan is) (x_whole c place i at pattern found plan is) T S D.these D.is
      (w_effect c place i at pattern found plan is s u stands) (w_natural c place i at pattern found plan is) stay
      (bases c.homes c.layout i.kind W pattern found plan c.world.symbols u.regs u.memory (base c) F H plain
      (x_natural c place i at pattern found plan is) (x_quiet c place i at pattern found plan is) (x_whole c place i at pattern found plan is) T S D.these D.is)
      (λ j p o a v part result no_base is_a value last r0 r n reached knows.
      address_late c place i at pattern found plan is s u stands plain es does D j p o a v part (F.operands p.place o part.of) result no_base is_a value
      K.keys last K.keyed.same r0 r n reached knows K.which)
      (based c.homes c.layout i.kind W pattern found plan c.world.symbols u.regs u.memory (base c) F H plain
      (x_natural c place i at pattern found plan is) (x_quiet c place i at pattern found plan is) (x_whole c place i at pattern found plan is) T S D.these D.is)
      (far_end_here c.homes c.layout i.kind W pattern found plan c.world.symbols u.regs u.memory (base c) F H plain
      (x_natural c place i at pattern found plan is) (x_quiet c place i at pattern found plan is) (x_whole c place i at pattern found plan is) T S D.these D.is stay hard.1))

  -- the window leads to what its effects leave
  pub plain_leads : (insns rest : List Insn) (q : ℕ) →
      let g = G c place i at pattern found plan is s u stands memory told other_function in
      ArePlain insns (insns_before g.operands plan.parts ++ between g.pattern g.operands plan.parts g.insn ∷ insns_after g.operands plan.parts) →
      Stands other_function.insns u.next (insns ++ rest) q → ComesTo c.world other_function c.f.locals c.layout c.start u D.these insns rest
  plain_leads = plain_leads_over c place i at pattern found plan is s u stands memory told other_function plain es does results_end

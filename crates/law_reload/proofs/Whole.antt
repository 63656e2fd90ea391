-- What a function whose registers have homes does beside each step of the function with its pseudo
-- registers, where it has in the place of each instruction what does the same.
use Rattle.std.proofs.Common.{◌≡◌, ℕ, ◌+◌, true, false, List, [], ◌∷◌, ◌++◌, refl, sym, ap, subst, ◌∙◌, append_assoc, length, arith}
use Rattle.rtx_tree.specs.declared.function.Function.{Function}
use Rattle.rtx_tree.specs.declared.function.Insn.{Insn}
use Rattle.rtx_tree.specs.declared.function.Kind.{Kind}
use Rattle.rtx_tree.specs.declared.function.Kind.TheVariants as kind
use Rattle.rtl_step.specs.Step.{has_result, is_mark}
use Rattle.rtl_step.specs.declared.step.State.{State}
use Rattle.same_behaviour.specs.Lawful.{IsMemory, IsLawful, IsLawfulWorld}
use Rattle.assign.specs.declared.home.HomeOf.{HomeOf}
use Rattle.assign.specs.declared.places.Layout.{Layout}
use Rattle.rtx_tree.specs.declared.machine.Start.{Start}
use Rattle.rtx_tree.specs.declared.machine.World.{World}
use Rattle.law_window_lines.proofs.Leads.{leads_on}
use Rattle.law_reload_moves.proofs.law_window_replaced.Stands.{Stands, stands_at, stands_mark, stands_same, there_is, step_returns, end_is, past_end}
use Rattle.law_homes.proofs.Onward.{mark_stands, end_keeps}
use Rattle.law_homes.proofs.Setting.{StandsIn}
use Rattle.law_reload.specs.Homes.{HasHomes}
use Rattle.law_reload.specs.Keeps.{KeepsUnderHomes}
use Rattle.law_reload.specs.Steps.{Beside, StepsUnderHomes}
use Rattle.law_reload.specs.Steps as parts
use Rattle.law_reload.proofs.Law.{pair_of, setting_of, steps_keep}
use Rattle.law_reload.proofs.Windows.{Does, InPlace, At}
use Rattle.law_reload.proofs.Windows as windows
use Rattle.law_reload.proofs.Local.{Reloaded, Steps, return_by, plain_step, never_step}
use Rattle.law_reload.proofs.LocalJump.{jump_step}
use Rattle.law_reload.proofs.LocalCall.{call_step}

module _ (r : Reloaded) (s u : State) (memory : IsMemory u.memory) where
  -- ---- at the end of the chain

  end_step : (place q : ℕ) → Stands r.c.f.insns s.next [] place → Stands r.g.insns u.next [] q →
      StandsIn r.c place s u → Steps r s u
  end_step place q here other stands =
      let last : StandsIn r.c (length r.c.f.insns) s u =
      subst (λ p. StandsIn r.c p s u) (end_is r.c.f.insns s.next place here) stands in
      return_by r s u u 0 (length r.c.f.insns) (has_result r.c.f.result s.regs) refl
      (step_returns r.c.world r.c.f s place here) (parts.none u) last
      (step_returns r.c.world r.g u q other) (λ has. end_keeps r.c s u last has)
      (λ past. past_end r.c.f s place here)

  -- ---- at an instruction, or a label or barrier

  no_jump_mark : (k : Kind) → is_mark k ≡ true → k ≡ kind.Jump → ⊥
  no_jump_mark k mark jumps = let both : true ≡ false = sym mark ∙ ap is_mark jumps in let no : ⊥ =
      cc in no

  abbrev Later : ℕ → List Insn → List Insn → Type 0
  Later place insns rest = (q : ℕ) → Stands r.c.f.insns s.next insns (place + 1) →
      Stands r.g.insns u.next rest q → StandsIn r.c (place + 1) s u → Steps r s u

  by_window : (place q : ℕ) (i : Insn) (insns window rest : List Insn)
      (here : Stands r.c.f.insns s.next (i ∷ insns) place) →
      Stands r.g.insns u.next (window ++ rest) q → StandsIn r.c place s u →
      InPlace r.c r.g (place + 1) insns rest → Later place insns rest →
      Does r.c r.g place i (there_is r.c.f.insns s.next i insns place here) window → Steps r s u
  by_window place q i insns _ rest here other stands more later
      (windows.mark j marks kind_is uid_is) =
      let at = there_is r.c.f.insns s.next i insns place here in
      later (q + 1) (stands_mark r.c.f.insns s.next i insns place marks here)
      (stands_mark r.g.insns u.next j rest q (ap is_mark kind_is ∙ marks) other)
      (mark_stands r.c place i at s u stands marks (place + 1) s.next u.next
      (leads_on r.c.f.insns place i at (no_jump_mark i.kind marks)))
  by_window place q i insns _ rest here other stands more later
      (windows.plain window plain unmarked does) =
      plain_step r s u (record {
        place = place;
        i = i;
        insns = insns;
        rest = rest;
        here = here;
        stands = stands;
        memory = memory;
        more = more;
      }) window q plain does other
  by_window place q i insns _ rest here other stands more later
      (windows.jump before j jumps jumps' unmarked does) =
      jump_step r s u (record {
        place = place;
        i = i;
        insns = insns;
        rest = rest;
        here = here;
        stands = stands;
        memory = memory;
        more = more;
      }) jumps j jumps'
      (λ w goes. does s u stands memory w goes rest q (stands_same r.g.insns u.next _ _ q
      (append_assoc before (j ∷ []) rest) other))
  by_window place q i insns _ rest here other stands more later
      (windows.call before j calls calls' unmarked does) =
      call_step r s u (record {
        place = place;
        i = i;
        insns = insns;
        rest = rest;
        here = here;
        stands = stands;
        memory = memory;
        more = more;
      }) calls j calls'
      (λ event tells. does s u stands memory event tells rest q
      (stands_same r.g.insns u.next _ _ q (append_assoc before (j ∷ []) rest) other))
  by_window place q i insns _ rest here other stands more later
      (windows.never window none unmarked no_value) =
      never_step r s u (record {
        place = place;
        i = i;
        insns = insns;
        rest = rest;
        here = here;
        stands = stands;
        memory = memory;
        more = more;
      }) none no_value

  walk : (place q : ℕ) (xs ys : List Insn) → InPlace r.c r.g place xs ys →
      Stands r.c.f.insns s.next xs place → Stands r.g.insns u.next ys q →
      StandsIn r.c place s u → Steps r s u
  walk _ q _ _ (windows.none place) here other stands = end_step place q here other stands
  walk _ q _ _ (windows.one_more place i insns window rest does more) here other stands =
      by_window place q i insns window rest here other stands more
      (λ q here other stands. walk (place + 1) q insns rest more here other stands)
      (does (there_is r.c.f.insns s.next i insns place here))

pub beside_step : (r : Reloaded) (s u : State) → Beside (pair_of r.c r.g) (At r.c r.g) s u →
    Steps r s u
beside_step r s u beside =
    let at = beside.at in
    walk r s u beside.memory s.next at.place at.xs at.ys at.are at.stands at.other beside.stands

-- ---- the whole

pub all_steps : (r : Reloaded) → StepsUnderHomes (pair_of r.c r.g) (At r.c r.g)
all_steps r = record {
  first = record {
    xs = r.c.f.insns;
    ys = r.g.insns;
    place = 0;
    are = r.whole;
    stands = stands_at r.c.f.insns 0 r.c.f.insns refl (omega arith);
    other = stands_at r.g.insns 0 r.g.insns refl (omega arith);
  };
  steps = beside_step r;
}

-- A function that has in the place of each instruction of another what does the same keeps its runs
-- under homes.
pub in_place_keeps : (f g : Function) (homes : List HomeOf) (layout : Layout)
    (has : HasHomes f homes layout) → g.locals ≡ f.locals →
    g.result ≡ f.result →
    ((start : Start) (world : World) (lawful : IsLawful layout.size f.locals start) →
    IsLawfulWorld start world →
    InPlace (setting_of f homes layout has start world lawful) g 0 f.insns g.insns) →
    KeepsUnderHomes f layout g
in_place_keeps f g homes layout has locals_are result_is whole =
    steps_keep f g homes layout (λ c. At c g) has locals_are result_is
    (λ start world lawful lawful_world. all_steps (record {
      c = setting_of f homes layout has start world lawful;
      g = g;
      whole = whole start world lawful lawful_world;
      result_is = result_is;
      world = lawful_world;
    }))

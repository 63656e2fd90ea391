-- What the second function does beside a jump of the first.
use Rattle.std.proofs.Common.{◌≡◌, ℕ, ◌+◌, true, Option, Some, None, refl, ap, ◌∙◌}
use Rattle.rtx_tree.specs.Patterns.{place_of}
use Rattle.rtx_tree.specs.declared.function.Insn.{Insn}
use Rattle.rtx_tree.specs.declared.function.Kind.TheVariants as kind
use Rattle.rtl_step.specs.Jump.{jump_of}
use Rattle.rtl_step.specs.Step.{step, after_goes, after_jump, has_result}
use Rattle.rtl_step.specs.declared.jump.Way.{Way}
use Rattle.rtl_step.specs.declared.jump.Way.TheVariants as way
use Rattle.rtl_step.specs.declared.step.State.{State}
use Rattle.rtl_step.specs.declared.step.StepEnd.TheVariants as ends
use Rattle.rtl_func.specs.Paths.{leads}
use Rattle.law_window_lines.proofs.Leads as leads_by
use Rattle.law_window_lines.proofs.Leads.{LeadsBy, jump_leads}
use Rattle.law_reload_moves.proofs.law_window_replaced.Outside.{leaves_is}
use Rattle.law_homes.proofs.Onward.{jump_stands, return_keeps}
use Rattle.law_homes.proofs.Setting.{StandsIn}
use Rattle.law_reload.specs.Steps as parts
use Rattle.law_reload.proofs.Law.{pair_of}
use Rattle.law_reload.proofs.Going.{go_both}
use Rattle.law_reload.proofs.Windows.{Jumps, At}
use Rattle.law_reload.proofs.Labels.{label_at}
use Rattle.law_reload.proofs.Local.{Reloaded, Site, Steps, kept_at, return_by, at, step_one, moved_stands, step_other, behind_other, inside}

module _ (r : Reloaded) (s u : State) (x : Site r s u) (jumps : x.i.kind ≡ kind.Jump) (j : Insn)
    (jumps' : j.kind ≡ kind.Jump) where
  abbrev Goes : Way → Type 0
  Goes w = jump_of r.c.world.symbols s.regs s.memory x.i.pattern ≡ Some w

  abbrev Other : Way → Type 0
  Other w = Jumps r.c r.g u w j x.rest

  module _ (w : Way) (goes : jump_of r.c.world.symbols s.regs s.memory x.i.pattern ≡ Some w)
      (m : Jumps r.c r.g u w j x.rest) where
    abbrev moved : State
    moved = record u { next = m.comes.next_place; regs = m.comes.regs }

    first : step r.c.world r.c.f s ≡ after_jump r.c.f s x.place (Some w)
    first = step_one r s u x kind.Jump refl jumps ∙ ap (after_jump r.c.f s x.place) goes

    second : step r.c.world r.g (record u { next = m.comes.next_place; regs = m.comes.regs }) ≡
        after_jump r.g (record u { next = m.comes.next_place; regs = m.comes.regs }) m.comes.place
        (Some w)
    second = step_other r s u x j m.comes kind.Jump refl jumps' ∙
        ap (after_jump r.g moved m.comes.place) m.goes

    then_stands : (q next next' : ℕ) → leads r.c.f.insns x.place q ≡ true →
        StandsIn r.c q (record s { next = next }) (record u { next = next'; regs = m.comes.regs })
    then_stands = jump_stands r.c x.place x.i (at r s u x) s moved (moved_stands r s u x j m.comes)
        w jumps goes

  falls : LeadsBy r.c.f.insns x.place way.Falls → Goes way.Falls → Other way.Falls → Steps r s u
  falls (leads_by.falls_on on) goes m =
      go_both (pair_of r.c r.g) (At r.c r.g) s u (record s { next = x.place + 1 })
      (record u { next = m.comes.next_place; regs = m.comes.regs })
      (record u { next = m.comes.place + 1; regs = m.comes.regs }) ends.Next m.comes.count
      (first way.Falls goes m) refl m.comes.leads
      (kept_at r x.place s (record u { next = m.comes.next_place; regs = m.comes.regs })
      (moved_stands r s u x j m.comes)) (second way.Falls goes m)
      (record {
        stands = then_stands way.Falls goes m (x.place + 1) (x.place + 1)
            (m.comes.place + 1) on;
        at = behind_other r s u x j m.comes;
        memory = x.memory;
      })

  label_by : (uid : ℕ) (o : Option ℕ) → place_of uid r.c.f.insns ≡ o →
      LeadsBy r.c.f.insns x.place (way.Goes uid) → Goes (way.Goes uid) →
      Other (way.Goes uid) → Steps r s u
  label_by uid None none led goes m = parts.never s (first (way.Goes uid) goes m ∙
      ap (after_goes s) none)
  label_by uid (Some p) found (leads_by.goes_on _ led) goes m =
      let l = label_at r.c r.g uid r.whole p found in
      let q = l.0 in
      let t : State = record u { next = m.comes.next_place; regs = m.comes.regs } in
      go_both (pair_of r.c r.g) (At r.c r.g) s u (record s { next = p }) t (record t { next = q })
      ends.Jumped m.comes.count
      (first (way.Goes uid) goes m ∙ ap (after_goes s) found) refl m.comes.leads
      (kept_at r x.place s t (moved_stands r s u x j m.comes))
      (second (way.Goes uid) goes m ∙ ap (after_goes t) l.1)
      (record {
        stands = then_stands (way.Goes uid) goes m p p q (led p found);
        at = l.2;
        memory = x.memory;
      })

  leaves : Goes way.Leaves → Other way.Leaves → Steps r s u
  leaves goes m =
      let t : State = record u { next = m.comes.next_place; regs = m.comes.regs } in
      let stands = moved_stands r s u x j m.comes in
      return_by r s u t m.comes.count x.place (has_result r.c.f.result s.regs) refl
      (first way.Leaves goes m) m.comes.leads stands
      (second way.Leaves goes m)
      (λ has. return_keeps r.c x.place x.i (at r s u x) s t stands
      (leaves_is r.c.world.symbols s.regs s.memory x.i goes) has)
      (inside r s u x j m.comes kind.Jump refl jumps')

  way_by : (w : Way) → LeadsBy r.c.f.insns x.place w → Goes w → Other w → Steps r s u
  way_by way.Falls led goes m = falls led goes m
  way_by (way.Goes uid) led goes m = label_by uid (place_of uid r.c.f.insns) refl led goes m
  way_by way.Leaves led goes m = leaves goes m

  jump_by : (o : Option Way) → jump_of r.c.world.symbols s.regs s.memory x.i.pattern ≡ o →
      ((w : Way) → Goes w → Other w) → Steps r s u
  jump_by None goes others = parts.never s (step_one r s u x kind.Jump refl jumps ∙
      ap (after_jump r.c.f s x.place) goes)
  jump_by (Some w) goes others =
      way_by w (jump_leads r.c.world.symbols s.regs s.memory r.c.f.insns x.place x.i w (at r s u x)
      jumps goes) goes (others w goes)

  pub jump_step : ((w : Way) → jump_of r.c.world.symbols s.regs s.memory x.i.pattern ≡ Some w →
      Jumps r.c r.g u w j x.rest) → Steps r s u
  jump_step others = jump_by (jump_of r.c.world.symbols s.regs s.memory x.i.pattern) refl others

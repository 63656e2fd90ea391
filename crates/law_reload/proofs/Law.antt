-- The law: a function whose registers have homes does what the function with its pseudo registers
-- does, where it does what each step does.
use Rattle.std.proofs.Common.{◌≡◌, ℕ, List, sym, subst}
use Rattle.rtx_tree.specs.declared.function.Function.{Function}
use Rattle.rtx_tree.specs.declared.machine.Start.{Start}
use Rattle.rtx_tree.specs.declared.machine.World.{World}
use Rattle.func_run.specs.Run.{entry_of}
use Rattle.same_behaviour.specs.Lawful.{IsLawful, IsLawfulWorld, seen_by_rtl}
use Rattle.assign.specs.declared.home.HomeOf.{HomeOf}
use Rattle.assign.specs.declared.places.Layout.{Layout}
use Rattle.law_homes.proofs.Entry.{entry_stands}
use Rattle.law_homes.proofs.Setting.{Setting}
use Rattle.law_reload_moves.specs.law_frame.Kept.{lowered, IsKept}
use Rattle.law_reload.specs.Homes.{HasHomes}
use Rattle.law_reload.specs.Keeps.{KeepsRunUnderHomes, KeepsUnderHomes}
use Rattle.law_reload.specs.Steps.{Pair, StepsUnderHomes}
use Rattle.law_reload.proofs.Induction.{follows}

-- a setting, and a second function
abbrev pub pair_of : Setting → Function → Pair
pair_of c g = record {
  f = c.f;
  g = g;
  homes = c.homes;
  layout = c.layout;
  start = c.start;
  world =
      c.world;
}

-- one run
pub run_keeps : (c : Setting) (g : Function) (At : ℕ → ℕ → Type 0) → g.locals ≡ c.f.locals →
    StepsUnderHomes (pair_of c g) At → (n : ℕ) →
    KeepsRunUnderHomes c.f c.layout g c.start c.world n
run_keeps c g At locals_are all n = λ defined.
    let seen = seen_by_rtl c.layout.size c.f.locals c.start in
    let low = lowered c.layout.size c.start in
    let r = follows (pair_of c g) At all n (entry_of seen) (entry_of low)
    (record { stands = entry_stands c; at = all.first; memory = c.lawful.memory }) defined in (
      r.count,
      r.enough,
      r.same,
      r.past,
      λ k t few at. subst
          (λ locals. IsKept locals c.layout c.start t) (sym locals_are) (r.kept k t few at),
    )

-- a function whose registers have homes, from a lawful start and in a world
abbrev pub setting_of : (f : Function) (homes : List HomeOf) (layout : Layout) →
    HasHomes f homes layout → (start : Start) (world : World) →
    IsLawful layout.size f.locals start → Setting
setting_of f homes layout has start world lawful = record {
  f = f;
  homes = homes;
  layout = layout;
  start = start;
  world = world;
  are_homes = has.are_homes;
  frame = has.frame;
  lawful = lawful;
  can = has.can;
}

-- from each lawful start and in each lawful world
pub steps_keep : (f g : Function) (homes : List HomeOf) (layout : Layout)
    (At : Setting → ℕ → ℕ → Type 0) (has : HasHomes f homes layout) →
    g.locals ≡ f.locals → g.result ≡ f.result →
    ((start : Start) (world : World) (lawful : IsLawful layout.size f.locals start) →
    IsLawfulWorld start world →
    StepsUnderHomes (pair_of (setting_of f homes layout has start world lawful) g)
    (At (setting_of f homes layout has start world lawful))) →
    KeepsUnderHomes f layout g
steps_keep f g homes layout At has locals_are result_is steps = record {
  locals_are = locals_are;
  result_is = result_is;
  runs = λ start world n lawful lawful_world.
      let c = setting_of f homes layout has start world lawful in
      run_keeps c g (At c) locals_are (steps start world lawful lawful_world) n;
}

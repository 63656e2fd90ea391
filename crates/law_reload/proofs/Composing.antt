-- What keeps its run under homes, and then in a frame, keeps it with the frame.
use Rattle.std.proofs.Common.{◌≡◌, ◌≢◌, ℕ, ◌≤◌, sym, ap, subst, ◌∙◌, arith}
use Rattle.rtx_tree.specs.declared.function.Function.{Function}
use Rattle.rtx_tree.specs.declared.machine.Start.{Start}
use Rattle.func_run.specs.Run.{run_of, taken}
use Rattle.func_run.specs.declared.outcome.Outcome.{Outcome}
use Rattle.func_run.specs.declared.outcome.Outcome.TheVariants.{Running, Asked, Returned, Undefined}
use Rattle.same_behaviour.specs.Lawful.{IsLawful, seen_by_rtl}
use Rattle.assign.specs.declared.places.Layout.{Layout}
use Rattle.law_reload_moves.specs.law_frame.Kept.{lowered}
use Rattle.law_reload_moves.specs.law_frame.Keeps.{with_saved, IsLaidOut, Restores, KeepsInFrame}
use Rattle.law_reload.specs.Keeps.{ComesToSame, KeepsUnderHomes, KeepsWithFrame}
use Rattle.law_reload.proofs.Saved.{saved_lawful, saved_seen, saved_world}

-- what comes to the same as something has a value
has_value : (x y : Outcome) → ComesToSame x y → y ≢ Undefined
has_value (Running events) Undefined same is = same
has_value (Asked events) Undefined same is = same
has_value (Returned value memory events kept) Undefined same is = same
has_value Undefined Undefined same is = same
has_value x (Running others) same is = let no : ⊥ = cc in no
has_value x (Asked others) same is = let no : ⊥ = cc in no
has_value x (Returned value memory others kept) same is = let no : ⊥ = cc in no

restores_too : (start : Start) (x y z : Outcome) → ComesToSame x y → Restores start y z →
    Restores start x z
restores_too start (Running a) (Running b) (Running c) same restores = restores ∙ same
restores_too start (Asked a) (Asked b) (Asked c) same restores = restores ∙ same
restores_too start (Returned value memory a kept) (Returned value' memory' b kept')
    (Returned value'' memory'' c kept'') same restores =
    (restores.0 ∙ same.0, restores.1 ∙ same.1, restores.2 ∙ same.2, restores.3)
restores_too start (Running a) (Running b) _ same restores = absurd restores
restores_too start (Asked a) (Asked b) _ same restores = absurd restores
restores_too start (Returned value memory a kept) (Returned value' memory' b kept') _ same restores
    = absurd restores
restores_too start _ _ _ same restores = absurd same

-- The frame's function is told the start in which what it saves stands at its places. That start is
-- lawful too, and the function sees of it what it sees of the other.
pub keeps_with_frame : (f g h : Function) (layout : Layout) → IsLaidOut f.locals layout →
    KeepsUnderHomes f layout g → KeepsInFrame g layout h →
    KeepsWithFrame f layout h
keeps_with_frame f g h layout out under framed = λ start world n lawful lawful_world defined.
    let inner : Start = with_saved layout start in
    let low : Start = lowered layout.size inner in
    let seen : Start = seen_by_rtl layout.size f.locals start in
    let seen_is : seen_by_rtl layout.size f.locals inner ≡ seen =
    saved_seen start f.locals layout lawful out in
    let first = under.runs inner world n (saved_lawful start f.locals layout lawful out)
    (saved_world start f.locals layout lawful out world lawful_world)
    (λ undefined. defined (ap (λ s. run_of f s world n) (sym seen_is) ∙ undefined)) in
    let m : ℕ = first.0 in
    let same : ComesToSame (run_of f seen world n) (run_of g low world m) =
    subst (λ s. ComesToSame (run_of f s world n) (run_of g low world m)) seen_is first.2 in
    let few : taken f seen world n ≤ taken g low world m =
    subst (λ s. taken f s world n ≤ taken g low world m) seen_is first.1 in
    let second = framed start world m (subst (λ locals. IsLawful layout.size locals start)
    (sym under.locals_are) lawful) lawful_world first.4
    (has_value (run_of f seen world n) (run_of g low world m) same) in
    let more = second.1 in (
      second.0,
      omega (arith, few, more),
      restores_too start (run_of f seen world n) (run_of g low world m)
          (run_of h start world second.0) same second.2,
      second.3,
    )

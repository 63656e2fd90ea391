-- A function whose pseudo registers have homes in a frame, and can have them put in: GCC Internals,
-- "RTL passes" (the integrated register allocator, reload) and "Basic Stack Layout".
use Rattle.std.specs.Prelude.{List}
use Rattle.rtx_tree.specs.declared.function.Function.{Function}
use Rattle.assign.specs.Frame.{IsFrame}
use Rattle.assign.specs.Homes.{AreHomes}
use Rattle.assign.specs.declared.home.HomeOf.{HomeOf}
use Rattle.assign.specs.declared.places.Layout.{Layout}
use Rattle.law_homes.specs.Placed.{CanBePlaced}

pub record HasHomes (f : Function) (homes : List HomeOf) (layout : Layout) : Type 0 where
  pub are_homes : AreHomes f homes
  pub frame : IsFrame f homes layout
  pub can : CanBePlaced f

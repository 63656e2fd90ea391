-- When the words of a function in an image do what the function does.
use Rattle.std.specs.Prelude.{◌≡◌, ◌≢◌, ℕ, ◌≤◌, List, Some, slice_get}
use Rattle.rtx_tree.specs.declared.function.Function.{Function}
use Rattle.rtx_tree.specs.declared.machine.Start.{Start}
use Rattle.rtx_tree.specs.declared.machine.SymbolAt.{SymbolAt}
use Rattle.rtx_tree.specs.declared.machine.World.{World}
use Rattle.func_run.specs.Run.{run_of, taken}
use Rattle.func_run.specs.declared.outcome.Outcome.TheVariants as rtl
use Rattle.rv_text.specs.declared.line.CodeItem.{CodeItem}
use Rattle.same_behaviour.specs.Lawful.{IsLawful, IsLawfulWorld, seen_by_rtl}
use Rattle.same_behaviour.specs.Same.{Same, SameOutcome}
use Rattle.rv_image.specs.Image.{IsImage}
use Rattle.rv_image.specs.declared.image.CodeUnit.{CodeUnit}
use Rattle.rv_image.specs.declared.image.Image.{Image}
use Rattle.words_run.specs.Run.{words_run}
use Rattle.law_image.specs.WordsDo.{HasAddresses}

-- A function and the words at an entry, from a start whose frame has a size, in a world: where the
-- function's run of n steps has a value, the words reach the same outcome in some k words, which are
-- as many at least as the jumps and calls that the function took.
abbrev pub SameWordsFrom : ℕ → Function → Image → ℕ → Start → World → ℕ → Type 0
SameWordsFrom frame f image address start world n = let seen = seen_by_rtl frame f.locals start in
    run_of f seen world n ≢ rtl.Undefined →
    (k : ℕ) × (taken f seen world n ≤ k) ×
    SameOutcome f.result start (run_of f seen world n) (words_run image address start world k)

-- The words of a function that needs a frame of a size have its behaviour: so it is from every
-- lawful start whose frame has that size at least, in every lawful world that has the image's
-- addresses.
abbrev pub SameWords : ℕ → Function → List CodeItem → Image → ℕ → Type 0
SameWords least f items image address = (frame : ℕ) (start : Start) (world : World) (n : ℕ) → least ≤ frame →
    IsLawful frame f.locals start → IsLawfulWorld start world → HasAddresses image items world →
    SameWordsFrom frame f image address start world n

-- where the lines of a function of an image have the behaviour of one of RTL, its words have it too
abbrev pub FunctionsDo : Type 0
FunctionsDo = (units : List CodeUnit) (image : Image) → IsImage units image →
    (at : ℕ) (unit : CodeUnit) (place : SymbolAt) → slice_get units at ≡ Some unit → slice_get image.entries at ≡ Some place →
    (least : ℕ) (f : Function) → Same least f unit.items → SameWords least f unit.items image place.address

-- When the words of a function in an image do what its lines do.
use Rattle.std.specs.Prelude.{◌≡◌, ◌≢◌, ℕ, ◌^◌, ◌<◌, ◌≤◌, true, List, ◌++◌, Some, slice_get}
use Rattle.std.specs.List.{All}
use Rattle.rtx_tree.specs.declared.machine.Reply.{Reply}
use Rattle.rtx_tree.specs.declared.machine.Start.{Start}
use Rattle.rtx_tree.specs.declared.machine.SymbolAt.{SymbolAt}
use Rattle.rtx_tree.specs.declared.machine.World.{World}
use Rattle.run_memory.specs.Symbols.{symbol_address}
use Rattle.rv_text.specs.declared.line.Line.{Line}
use Rattle.rv_text.specs.declared.line.CodeItem.{CodeItem}
use Rattle.rv_text.specs.declared.line.CodeItem.TheVariants.{Code}
use Rattle.rv_line.specs.Run.{entry, run}
use Rattle.rv_line.specs.declared.outcome.CodeOutcome.{CodeOutcome}
use Rattle.rv_line.specs.declared.outcome.CodeOutcome.TheVariants as outcomes
use Rattle.rv_word.specs.Step.{HoldsWords}
use Rattle.rv_unit.specs.Names.{spelling_named}
use Rattle.rv_image.specs.Image.{names_symbol, IsImage}
use Rattle.rv_image.specs.declared.image.CodeUnit.{CodeUnit}
use Rattle.rv_image.specs.declared.image.Image.{Image}
use Rattle.words_run.specs.Run.{words_run}

-- the world has the image's address for each symbol that a line of some items names. It may have
-- more
abbrev pub HasAddresses : Image → List CodeItem → World → Type 0
HasAddresses image items world = (at : ℕ) (line : Line) → slice_get items at ≡ Some (Code line) →
    names_symbol (spelling_named line.name) ≡ true →
    symbol_address world.symbols line.target ≡ symbol_address (image.entries ++ image.outside) line.target

-- a reply leaves 64 bits in a0
abbrev pub IsWordReply : Reply → Type 0
IsWordReply reply = reply.value < 2 ^ 64

-- the words of the function at an entry come to an outcome, in at least so many steps
pub record Comes (image : Image) (address : ℕ) (start : Start) (world : World) (least : ℕ)
    (outcome : CodeOutcome) : Type 0 where
  pub steps : ℕ
  pub enough : least ≤ steps
  pub comes : words_run image address start world steps ≡ outcome

-- For each function of an image, each start and world of 64 bits with the image's addresses, and
-- each number of lines after which the function's lines aren't stuck: its words come to the same
-- outcome.
abbrev pub WordsDo : Type 0
WordsDo = (units : List CodeUnit) (image : Image) → IsImage units image →
    (at : ℕ) (unit : CodeUnit) (place : SymbolAt) → slice_get units at ≡ Some unit → slice_get image.entries at ≡ Some place →
    (start : Start) (world : World) → HoldsWords (entry start) → All IsWordReply world.replies → HasAddresses image unit.items world →
    (k : ℕ) → run unit.items start world k ≢ outcomes.Stuck → Comes image place.address start world k (run unit.items start world k)

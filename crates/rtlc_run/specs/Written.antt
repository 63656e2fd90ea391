-- What a run has written, said of the input and of the description.
use Rattle.std.specs.Prelude.{◌≡◌, ◌⊎◌, ℕ, List, Some, Ok, IfSome}
use Rattle.std.specs.declared.option.Option.{Option}
use Rattle.std.specs.Io.KnownBytes.{Appends}
use Rattle.rtx_tree.specs.declared.function.Function.{Function}
use Rattle.md_source.specs.Source.{Source}
use Rattle.md_source.specs.Asked.{IsKnown}
use Rattle.md_forms.specs.declared.form.Entry.{Entry}
use Rattle.md_list.specs.Listing.{ListComes}
use Rattle.md_named.specs.Named.{FormsCome}
use Rattle.func_input.specs.Input.{IsRead, IsInput}
use Rattle.pass_name.specs.declared.road.Road.{Road}
use Rattle.plain_text.specs.Plain.{text_of}
use Rattle.func_image.specs.DoWords.{DoesInWords}
use Rattle.func_image.specs.func_text.Same.{DoesSame, DoesSameFramed}
use Rattle.rtlc_words.specs.declared.command.Command.{Command}
use Rattle.rtlc_words.specs.declared.command.Command.TheVariants as commands
use Rattle.rtlc_run.specs.Told.{Tells, HaveText}
use Rattle.rtlc_run.specs.Generated.{TellsSummary, HasSummary}
use Rattle.rtlc_run.specs.Answer.{described}

-- ---- what the text of an assembly does

-- a text that does what the functions do as which the input is read was written, and nothing else
abbrev pub WritesSame : Option (List ℕ) → Option (List ℕ) → Option (List ℕ) → Type 0
WritesSame input old new =
    IfSome input (λ bytes. (functions : List Function) × IsRead bytes functions ×
    (text : List ℕ) × DoesSame functions text × Appends old new text)

-- it does so in each frame that has the room at least of the one that a function has by the
-- description
abbrev pub WritesSameFramed : Source → Road → List ℕ → Option (List ℕ) → Option (List ℕ) →
    Option (List ℕ) → Type 0
WritesSameFramed files road name input old new =
    IfSome input (λ bytes. (forms : List Entry) × FormsCome files name (Ok forms) ×
    (functions : List Function) × IsInput bytes functions ×
    (text : List ℕ) × DoesSameFramed forms road functions text × Appends old new text)

-- ---- what the text of an image does

-- the text of an image was written, and nothing else, whose words do what the functions do as which
-- the input is read
abbrev pub WritesWords : Option (List ℕ) → Option (List ℕ) → Option (List ℕ) → Type 0
WritesWords input old new =
    IfSome input (λ bytes. (functions : List Function) × IsRead bytes functions ×
    (text : List ℕ) × DoesInWords functions text × Appends old new text)

-- ---- what each command tells

-- what a text says that is the answer to a command
abbrev pub Means : Source → Option (List ℕ) → Command → List ℕ → Type 0
Means files input (commands.Over name t) text =
    IfSome input (λ bytes. (forms : List Entry) × FormsCome files (described name) (Ok forms) ×
    Tells t forms bytes text)
Means files input commands.Plain text =
    IfSome input (λ bytes. (functions : List Function) × IsInput bytes functions ×
    (text ≡ text_of functions))
Means files input (commands.Listed name) text = ListComes files (described name) (Ok text)
Means files input (commands.Made name number) text =
    (forms : List Entry) × FormsCome files (described name) (Ok forms) × TellsSummary forms number text

-- such a text was written, and nothing else
abbrev pub WritesText : Source → Command → (input old new : Option (List ℕ)) → Type 0
WritesText files c input old new = (text : List ℕ) × Means files input c text × Appends old new text

-- the answer to a command is a text: all is known that the description is made of, it has forms or
-- a list, and by those forms the functions of the input have a text, or the generated function an
-- assembly
abbrev pub HasText : Source → Option (List ℕ) → Command → Type 0
HasText files input (commands.Over name t) =
    IsKnown files (described name) × (forms : List Entry) ×
    FormsCome files (described name) (Ok forms) × (bytes : List ℕ) × (input ≡ Some bytes) ×
    (functions : List Function) × IsInput bytes functions × HaveText t forms functions
HasText files input commands.Plain =
    (bytes : List ℕ) × (input ≡ Some bytes) ×
    (functions : List Function) × IsInput bytes functions
HasText files input (commands.Listed name) =
    IsKnown files (described name) × (text : List ℕ) × ListComes files (described name) (Ok text)
HasText files input (commands.Made name number) =
    IsKnown files (described name) × (forms : List Entry) ×
    FormsCome files (described name) (Ok forms) × HasSummary forms number

-- a run that should end with a text does: its status is 0, or that of want of memory
abbrev pub IsDone : ℕ → Type 0
IsDone status = (status ≡ 0) ⊎ (status ≡ 8)

-- What the program answers. It is one answer for the words, the files and the bytes of the input: a
-- text, or a refusal with its values.
use Rattle.std.specs.Prelude.{◌≡◌, ◌⊎◌, ◌+◌, ℕ, List, [], unwrap_or, Some, None, IsSome, Result, Ok, Err, IfSome, Bool, true, false}
use Rattle.std.specs.declared.option.Option.{Option}
use Rattle.std.specs.Io.KnownBytes.{Appends}
use Rattle.byte_edge.specs.Causes.{Rose, TakesFront}
use Rattle.rtx_tree.specs.declared.limit.Limit.TheVariants as limit
use Rattle.run_refusal.specs.declared.refusal.Refusal.{Refusal}
use Rattle.run_refusal.specs.declared.refusal.Refusal.TheVariants as refusal
use Rattle.run_refusal.specs.Refusals.{status_of, has_values}
use Rattle.md_source.specs.Source.{Source, shipped_name}
use Rattle.md_source.specs.Asked.{AreNamed, IsKnown}
use Rattle.md_source.specs.Faults.{FaultsAt, AsksBy}
use Rattle.md_list.specs.declared.refusal.ListRefusal.{ListRefusal}
use Rattle.md_list.specs.declared.refusal.ListRefusal.TheVariants as listing
use Rattle.md_list.specs.Listing.{ListComes}
use Rattle.md_forms.specs.declared.form.Entry.{Entry}
use Rattle.rtx_tree.specs.Limit.{most_forms}
use Rattle.md_named.specs.Named.{source_refused, FormsCome}
use Rattle.func_input.specs.Input.{InputComesTo}
use Rattle.func_input.specs.Outcome.{Outcome}
use Rattle.plain_text.specs.Plain.{ComeToLines}
use Rattle.func_image.specs.func_text.Code.{IsUnnamed}
use Rattle.rtlc_words.specs.declared.command.Told.{Told}
use Rattle.rtlc_words.specs.declared.command.Told.TheVariants as telling
use Rattle.rtlc_words.specs.declared.command.Command.{Command}
use Rattle.rtlc_words.specs.declared.command.Command.TheVariants as commands
use Rattle.rtlc_words.specs.Words.{command_of}
use Rattle.rtlc_run.specs.Told.{ToldComes}
use Rattle.rtlc_run.specs.Generated.{SummaryComes}
use Rattle.rtlc_run.specs.Shown.{line_told}

-- the description that the words name, or else the shipped one
abbrev pub described : Option (List ℕ) → List ℕ
described name = unwrap_or name shipped_name

-- ---- the refusals of a description

abbrev pub list_refused : ListRefusal → Refusal
list_refused (listing.Source e) = source_refused e
list_refused listing.Forms = refusal.Limit limit.Forms (most_forms + 1)
list_refused listing.Memory = refusal.Memory

abbrev pub list_told : Result (List ℕ) ListRefusal → Outcome
list_told (Ok text) = Ok text
list_told (Err e) = Err (list_refused e)

-- the forms of a description, or what refuses it
abbrev pub Given : Type 0
Given = Result (List Entry) Refusal

-- ---- what a command comes to

-- A command by a description, by what is known of the files: the description first, and then what
-- something comes to by its forms.
pub data ByForms (comes : List Entry → Outcome → Type 0) (files : Source) (name : List ℕ) : Outcome → Type 0 where
  refused : (e : Refusal) → FormsCome files name (Err e) → ByForms comes files name (Err e)
  by_forms : (forms : List Entry) (outcome : Outcome) → FormsCome files name (Ok forms) →
      comes forms outcome → ByForms comes files name outcome

-- What the bytes of the input come to by some forms. An input of which nothing is known may come to
-- anything.
abbrev pub OverInput : Told → Option (List ℕ) → List Entry → Outcome → Type 0
OverInput t input forms outcome = IfSome input (λ bytes. ToldComes t forms bytes outcome)

-- What a command comes to, by what is known of the bytes of the files and of the input. A list and a
-- generated function do not look at the input, and which functions are plain not at a description.
abbrev pub CommandComes : Source → Option (List ℕ) → Command → Outcome → Type 0
CommandComes files input (commands.Over name t) outcome =
    ByForms (OverInput t input) files (described name) outcome
CommandComes files input commands.Plain outcome =
    IfSome input (λ bytes. InputComesTo ComeToLines bytes outcome)
CommandComes files input (commands.Listed name) outcome =
    (r : Result (List ℕ) ListRefusal) × ListComes files (described name) r ×
    (outcome ≡ list_told r)
CommandComes files input (commands.Made name number) outcome =
    ByForms (SummaryComes number) files (described name) outcome

-- ---- answers

-- The answer to these words. They are looked at first.
pub data Answers (words : List (List ℕ)) (files : Source) (input : Option (List ℕ)) : Outcome → Type 0 where
  usage : command_of words ≡ None → Answers words files input (Err refusal.Usage)
  spoken : (c : Command) (outcome : Outcome) → command_of words ≡ Some c →
      CommandComes files input c outcome → Answers words files input outcome

-- the name of the description of a command; the empty one where it has none
abbrev pub description_of : Command → List ℕ
description_of (commands.Over name t) = described name
description_of commands.Plain = []
description_of (commands.Listed name) = described name
description_of (commands.Made name number) = described name

-- whether the input is read
abbrev pub reads_input : Option Command → Bool
reads_input (Some (commands.Over name t)) = true
reads_input (Some commands.Plain) = true
reads_input _ = false

-- whether files may be asked
abbrev pub reads_files : Option Command → Bool
reads_files None = false
reads_files (Some commands.Plain) = false
reads_files (Some c) = true

-- enough is known for one answer
abbrev pub IsKnownFor : Source → Option (List ℕ) → Option Command → Type 0
IsKnownFor files input None = Unit {0}
IsKnownFor files input (Some commands.Plain) = IsSome input
IsKnownFor files input (Some (commands.Listed name)) = IsKnown files (described name)
IsKnownFor files input (Some (commands.Made name number)) = IsKnown files (described name)
IsKnownFor files input (Some (commands.Over name t)) = IsKnown files (described name) × IsSome input

-- what is told needs a function that the input lacks
abbrev pub IsMissing : Told → List ℕ → Type 0
IsMissing (telling.Outcomes function steps args) bytes = IsUnnamed bytes function
IsMissing _ bytes = ⊥

-- the words are no command, or they name no function of the input
abbrev pub IsMisused : Option Command → Option (List ℕ) → Type 0
IsMisused None input = Unit {0}
IsMisused (Some (commands.Over name t)) input = IfSome input (λ bytes. IsMissing t bytes)
IsMisused (Some commands.Plain) input = ⊥
IsMisused (Some (commands.Listed name)) input = ⊥
IsMisused (Some (commands.Made name number)) input = ⊥

-- the names that files may be asked for
abbrev pub MayBeAsked : Source → Option Command → List (List ℕ) → Type 0
MayBeAsked files None names = names ≡ []
MayBeAsked files (Some commands.Plain) names = names ≡ []
MayBeAsked files (Some c) names = AreNamed files (description_of c) names

-- ---- faults

-- no count of faults rose: not that of the files, of the input, or of the output
abbrev pub NoneRose : (files files' input input' output output' : ℕ) → Type 0
NoneRose files files' input input' output output' =
    ¬ Rose files files' × ¬ Rose input input' × ¬ Rose output output'

-- A read failed for a command: the input, which is read behind all that refuses the description; or
-- a file, where the names asked for end at it and nothing that is read before it is refused. Where
-- the words are no command nothing is read.
pub data ReadFails (files : Source) (faults faults' input input' : ℕ) (asked asked' : Option (List (List ℕ))) : Option Command → Type 0 where
  of_input : (name : Option (List ℕ)) (t : Told) (forms : List Entry) →
      FormsCome files (described name) (Ok forms) → Rose input input' → faults' ≡ faults →
      ReadFails files faults faults' input input' asked asked' (Some (commands.Over name t))
  of_plain : Rose input input' → faults' ≡ faults →
      ReadFails files faults faults' input input' asked asked' (Some commands.Plain)
  of_files : (c : Command) → reads_files (Some c) ≡ true →
      AsksBy (FaultsAt files (description_of c)) asked asked' →
      Rose faults faults' → input' ≡ input →
      ReadFails files faults faults' input input' asked asked' (Some c)

-- ---- what an answer is outside

abbrev pub status_of_answer : Outcome → ℕ
status_of_answer (Ok text) = 0
status_of_answer (Err e) = status_of e

-- what it writes
abbrev pub text_of_answer : Outcome → List ℕ
text_of_answer (Ok text) = text
text_of_answer (Err e) = []

-- what it tells on the sink of errors
abbrev pub line_of_answer : Outcome → List ℕ
line_of_answer (Ok text) = []
line_of_answer (Err e) = line_told e

-- A run ended with an answer: its status, its text on the output, and its line on the sink of
-- errors, unless that failed.
pub record EndsWith (answer : Outcome) (status : ℕ) (output output' errors errors' : Option (List ℕ)) (faults faults' : ℕ) : Type 0 where
  pub status_is : status ≡ status_of_answer answer
  pub written : Appends output output' (text_of_answer answer)
  pub told : ¬ Rose faults faults' → Appends errors errors' (line_of_answer answer)

-- ---- what a run tells

-- the text of an answer was written, and nothing else
abbrev pub Writes : List (List ℕ) → Source → Option (List ℕ) → Option (List ℕ) → Option (List ℕ) →
    Type 0
Writes words files input old new =
    (text : List ℕ) × Answers words files input (Ok text) × Appends old new text

-- a front of it was written
abbrev pub WritesFront : List (List ℕ) → Source → Option (List ℕ) → Option (List ℕ) →
    Option (List ℕ) → Type 0
WritesFront words files input old new =
    (text : List ℕ) × Answers words files input (Ok text) × TakesFront old new text

-- the cause of a refusal in the words, the files and the input; a fault and want of memory have
-- theirs elsewhere
abbrev pub IsRefused : List (List ℕ) → Source → Option (List ℕ) → Refusal → Type 0
IsRefused words files input refusal.ReadFault = Unit {0}
IsRefused words files input refusal.WriteFault = Unit {0}
IsRefused words files input refusal.Memory = Unit {0}
IsRefused words files input e = Answers words files input (Err e)

-- The line of a refusal was told, or that of want of memory where memory for the line ran out; the
-- status is that of the refusal that was told.
pub record Reports (e : Refusal) (status : ℕ) (errors errors' : Option (List ℕ)) (faults faults' : ℕ) : Type 0 where
  pub told : Refusal
  pub status_is : status ≡ status_of told
  pub which : (told ≡ e) ⊎ ((told ≡ refusal.Memory) × (has_values e ≡ true))
  pub line : ¬ Rose faults faults' → Appends errors errors' (line_told told)

-- a refusal of this status has its cause
abbrev pub HasCause : List (List ℕ) → Source → Option (List ℕ) → ℕ → Type 0
HasCause words files input status =
    (e : Refusal) × (status_of e ≡ status) × IsRefused words files input e

-- the line of such a refusal was told
abbrev pub TellsCause : List (List ℕ) → Source → Option (List ℕ) → ℕ → Option (List ℕ) →
    Option (List ℕ) → Type 0
TellsCause words files input status errors errors' =
    (e : Refusal) × (status_of e ≡ status) × IsRefused words files input e ×
    Appends errors errors' (line_told e)

-- the run ended with the answer to the words, the files and the input
abbrev pub IsAnswered : List (List ℕ) → Source → Option (List ℕ) → ℕ →
    (output output' errors errors' : Option (List ℕ)) → (faults faults' : ℕ) → Type 0
IsAnswered words files input status output output' errors errors' faults faults' =
    (a : Outcome) × Answers words files input a ×
    EndsWith a status output output' errors errors' faults faults'

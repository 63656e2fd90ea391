-- The words of the command line that are a command. The words are this project's own; how options
-- stand among them is that of POSIX utilities ("Utility Syntax Guidelines") with the long options
-- of GNU.
use Rattle.std.specs.Prelude.{ℕ, ◌&&◌, nat_le, nat_lt, Bool, List, [], ◌∷◌, Option, Some, None, codes, length, map, slice_get, find, option_map, option_and_then, if◌then◌else◌}
use Rattle.std.specs.Borrow.{Bor}
use Rattle.std.specs.Str.{bytes_eq, chars}
use Rattle.std.specs.Str.Parse.{digits_value, starts_with_minus}
use Rattle.std.specs.Fmt.{decimal}
use Rattle.pass_name.specs.Pass.{pass_named}
use Rattle.pass_name.specs.declared.road.Road.TheVariants.{Usual, Reusing, Scheduled}
use Rattle.rtlc_words.specs.declared.command.Told.{Told}
use Rattle.rtlc_words.specs.declared.command.Told.TheVariants as told
use Rattle.rtlc_words.specs.declared.command.Command.{Command}
use Rattle.rtlc_words.specs.declared.command.Command.TheVariants as commands

-- the texts that the words are
abbrev pub words_of : List (Bor (List ℕ)) → List (List ℕ)
words_of words = map (λ w. w.now) words

-- ---- arguments

-- what the words behind a command's name say: the description that they name, and the positional
-- words
pub record Arguments : Type 0 where
  pub description : Option (List ℕ)
  pub positional : List (List ℕ)

-- two or more characters, of which the first is a minus: no positional word, and no value of an
-- option
abbrev pub is_dashed : List ℕ → Bool
is_dashed word = starts_with_minus word && nat_lt 1 (length (chars word))

-- what stands behind `--md=`
abbrev pub behind_md : List ℕ → Option (List ℕ)
behind_md (a ∷ b ∷ c ∷ d ∷ e ∷ name) =
    if bytes_eq (a ∷ b ∷ c ∷ d ∷ e ∷ []) (codes "--md=") then Some name else None
behind_md _ = None

abbrev pub described_by : List ℕ → Option (List ℕ) → List (List ℕ) → Option Arguments
described_by name None words = Some (record { description = Some name; positional = words })
described_by name (Some other) words = None

-- arguments with a description, which is named once
abbrev pub described : List ℕ → Option Arguments → Option Arguments
described name None = None
described name (Some a) = described_by name a.description a.positional

-- arguments with a positional word in front
abbrev pub positioned : List ℕ → Option Arguments → Option Arguments
positioned word None = None
positioned word (Some a) =
    Some (record { description = a.description; positional = word ∷ a.positional })

abbrev pub by_name : Option (List ℕ) → List ℕ → Option Arguments → Option Arguments
by_name (Some name) word rest = described name rest
by_name None word rest = if is_dashed word then None else positioned word rest

-- the words behind a command's name: the positional ones in order, and the description that `--md
-- NAME` or `--md=NAME` names; behind `--` every word is positional
abbrev mutual
  pub arguments : List (List ℕ) → Option Arguments
  arguments [] = Some (record { description = None; positional = [] })
  arguments (word ∷ words) =
      if bytes_eq word (codes "--") then Some (record { description = None; positional = words })
      else if bytes_eq word (codes "--md") then named words
      else by_name (behind_md word) word (arguments words)

  -- the words behind `--md`
  pub named : List (List ℕ) → Option Arguments
  named [] = None
  named (name ∷ words) = if is_dashed name then None else described name (arguments words)

-- ---- numbers

-- The number below 2 ^ 64 that a word writes: it is the text that is printed for that number, so it
-- has no sign and no needless zero.
abbrev pub number_in : List ℕ → Option ℕ
number_in word =
    let n = digits_value 10 word in if bytes_eq word (decimal n) &&
    nat_lt n 18446744073709551616 then Some n else None

-- from 1 to 1,000
abbrev pub steps_in : List ℕ → Option ℕ
steps_in word =
    option_and_then (λ n. if nat_le 1 n && nat_le n 1000 then Some n else None) (number_in word)

-- from 0 to 9,000
abbrev pub made_in : List ℕ → Option ℕ
made_in word = option_and_then (λ n. if nat_le n 9000 then Some n else None) (number_in word)

-- the number that a word writes; one that is missing writes 0
abbrev pub number_or_zero : Option (List ℕ) → Option ℕ
number_or_zero None = Some 0
number_or_zero (Some word) = number_in word

-- all of some numbers, or none where one is missing
abbrev pub all_of : List (Option ℕ) → Option (List ℕ)
all_of [] = Some []
all_of (number ∷ numbers) = option_and_then (λ n. option_map (λ ns. n ∷ ns) (all_of numbers)) number

-- the numbers that up to eight words write, with 0 for each word that is missing
abbrev pub args_in : List (List ℕ) → Option (List ℕ)
args_in words = if nat_le (length words) 8 then all_of (map (λ place. number_or_zero (slice_get words place)) (0 ∷ 1 ∷ 2 ∷ 3 ∷ 4 ∷ 5 ∷ 6 ∷ 7 ∷ [])) else None

-- ---- commands

-- what is told where no positional word stands
abbrev pub only : Told → List (List ℕ) → Option Told
only t [] = Some t
only t _ = None

-- the functions behind the pass that one positional word names
abbrev pub behind : List (List ℕ) → Option Told
behind (name ∷ []) = option_map (λ pass. told.Behind pass) (pass_named name)
behind _ = None

abbrev pub outcomes_with : List ℕ → Option ℕ → Option (List ℕ) → Option Told
outcomes_with function None args = None
outcomes_with function (Some steps) None = None
outcomes_with function (Some steps) (Some args) = Some (told.Outcomes function steps args)

-- the outcomes of a function: its name, a number of steps, and up to eight numbers, which are a0 to
-- a7
abbrev pub outcomes : List (List ℕ) → Option Told
outcomes (function ∷ steps ∷ args) = outcomes_with function (steps_in steps) (args_in args)
outcomes _ = None

abbrev pub over_told : Option (List ℕ) → Option Told → Option Command
over_told description t = option_map (λ what. commands.Over description what) t

-- the functions of the input are told of, by a description
abbrev pub over : (List (List ℕ) → Option Told) → Option (List ℕ) → List (List ℕ) → Option Command
over told_by description words = over_told description (told_by words)

-- the forms of a description are listed
abbrev pub listed : Option (List ℕ) → List (List ℕ) → Option Command
listed description [] = Some (commands.Listed description)
listed description _ = None

-- the function with the number that one positional word writes is generated
abbrev pub generated : Option (List ℕ) → List (List ℕ) → Option Command
generated description (word ∷ []) =
    option_map (λ number. commands.Made description number) (made_in word)
generated description _ = None

-- which functions of the input are of the plain profile is told; no description is named
abbrev pub plain : Option (List ℕ) → List (List ℕ) → Option Command
plain None [] = Some commands.Plain
plain _ _ = None

-- each command's name, and what it makes of a description and of positional words
abbrev pub table : List (List ℕ × (Option (List ℕ) → List (List ℕ) → Option Command))
table =
    (codes "asm", over (only (told.Lines Usual)))
    ∷ (codes "list", listed)
    ∷ (codes "recog", over (only told.Forms))
    ∷ (codes "dump", over behind)
    ∷ (codes "eval", over outcomes)
    ∷ (codes "make", generated)
    ∷ (codes "image", over (only told.Words))
    ∷ (codes "reuse", over (only (told.Lines Reusing)))
    ∷ (codes "schedule", over (only (told.Lines Scheduled)))
    ∷ (codes "cycles", over (only told.Cycles))
    ∷ (codes "plain", plain)
    ∷ []

abbrev pub command_by : List ℕ → Option (List ℕ) → List (List ℕ) → Option Command
command_by name description words =
    option_and_then (λ row. row.1 description words) (find (λ row. bytes_eq row.0 name) table)

abbrev pub command_named : List ℕ → Option Arguments → Option Command
command_named name None = None
command_named name (Some a) = command_by name a.description a.positional

-- the command that the words are, if they are one
abbrev pub command_of : List (List ℕ) → Option Command
command_of [] = None
command_of (name ∷ words) = command_named name (arguments words)

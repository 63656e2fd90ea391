-- What the contracts of `clap` say of all the words.
use Rattle.std.proofs.Common.{◌≡◌, ◌∙◌, ◌≤◌, false, List, [], ◌∷◌, ◌++◌, length, Option, Some, is_some, option_map, refl, sym, ap, ap₂, codes, bytes_eq}
use Rattle.std.specs.List.{find, fold}
use Rattle.std.specs.Option.{option_map_or}
use Rattle.clap.specs.Lexer.{usize_max}
use Rattle.clap.specs.Walk.{Names, Row, Text, Walk, after_step, answers_to, finished, idle, nothing_held, rows_after, settled, subcommand_met, subcommand_or_other, walk, walk_from, walked}
use Rattle.clap.specs.Kinds.{Kinds, or_else}
use Rattle.clap.specs.Faults.{check_fault, defaults_fault, entered_fault, fault_of, level_fault, other_fault, settle_fault, step_fault, turn_fault, walk_fault}
use Rattle.clap.specs.Simple.{App, Shape, built, entered, label_of, names_of, rows_at, subcommand_of}
use Rattle.clap.proofs.WalkLemmas.{walk_stopped}
use Rattle.rtlc_words.specs.Words.{arguments, command_named}
use Rattle.rtlc_words.specs.machine.Grammar.{command_found, found_in, program, where_none}
use Rattle.rtlc_words.proofs.Shapes.{ready, rules}
use Rattle.rtlc_words.proofs.Steps.{ended}
use Rattle.rtlc_words.proofs.Level.{level_arguments, or_else_none}

abbrev pub made : App
made = built program

abbrev pub names : Names
names = names_of made

abbrev pub start : Walk
start = walk_from nothing_held

-- the faults of the whole, by those of the walk and where it ends
abbrev pub faults : Kinds → Walk → Kinds
faults walking last = or_else walking
    (or_else (entered_fault made last.stopped)
    (or_else (settle_fault [] false last.held)
    (or_else (defaults_fault (settled [] last.held).rows [])
    (check_fault made.top (finished [] last.held) (is_some (entered made last.stopped))))))

-- ---- a command's name

stopped_passes : (w : Walk) (stop : Text × List Text) (words : List Text) → walk_fault made.top names (record w { stopped = Some stop }) words ≡ []
unfolding walk_fault walked
stopped_passes w stop [] = refl
stopped_passes w stop (word ∷ words) = stopped_passes w (stop.0, stop.1 ++ word ∷ []) words

module _ (name : Text) (rest : List Text) (met : subcommand_met names idle name ≡ Some name) (no_help : bytes_eq name (codes "help") ≡ false)
    (known : find (λ (s : Shape). answers_to name (label_of s)) made.subs ≡ Some (ready name)) where
  abbrev stop : Walk
  stop = record start { stopped = Some (name, []) }

  first_word : walked [] names start name ≡ stop
  unfolding walked
  first_word = ap (λ o. after_step [] name start (subcommand_or_other [] o idle 1 name nothing_held).0 (subcommand_or_other [] o idle 1 name nothing_held).1) met

  whole_walk : walk [] names nothing_held (name ∷ rest) ≡ record start { stopped = Some (name, rest) }
  whole_walk = ap (λ w. fold (walked [] names) w rest) first_word ∙ sym (walk_stopped [] names start name [] rest)

  first_turn : turn_fault made.top names start name ≡ []
  first_turn = ap (λ o. or_else (other_fault made.top o name nothing_held)
      (step_fault made.top 1 (subcommand_or_other [] o idle 1 name nothing_held).0 (subcommand_or_other [] o idle 1 name nothing_held).1)) met ∙ rw no_help refl

  no_faults : walk_fault made.top names start (name ∷ rest) ≡ []
  unfolding walk_fault
  no_faults = ap₂ (λ (a : Kinds) (w : Walk). or_else a (walk_fault made.top names w rest)) first_turn first_word ∙ stopped_passes start (name, []) rest

  -- the faults are those of the words behind it
  same_faults : fault_of program (name ∷ rest) ≡ level_fault (ready name) [] nothing_held rest false []
  unfolding defaults_fault
  same_faults = ap₂ faults no_faults whole_walk
      ∙ ap (λ o. or_else (option_map_or (λ s. level_fault s [] nothing_held rest false []) o []) (check_fault made.top [] (is_some (option_map (λ s. rows_at s rest) o)))) known
      ∙ or_else_none (level_fault (ready name) [] nothing_held rest false [])

  same_rows : subcommand_of program (name ∷ rest) ≡ Some (name, rows_after rules [] rest)
  same_rows = ap (λ (w : Walk). entered made w.stopped) whole_walk ∙ ap (option_map (λ s. rows_at s rest)) known

  pub known_command : length rest ≤ usize_max → command_found (found_in (name ∷ rest)) ≡ command_named name (arguments rest)
  known_command fits =
      let below : Kinds = level_fault (ready name) [] nothing_held rest false [] in
      ap₂ (λ (a : Kinds) (o : Option (Text × List Row)). command_found (where_none a o)) same_faults same_rows
      ∙ by_faults below (rows_after rules [] rest) ∙ ap (command_named name) (level_arguments name rest fits)
    where
      by_faults : (a : Kinds) (rows : List Row) → command_found (where_none a (Some (name, rows))) ≡ command_named name (ended a rows)
      by_faults [] rows = refl
      by_faults (k ∷ ks) rows = refl

-- What `clap` is told, and what its answer says: for the contracts of private functions alone.
use Rattle.std.specs.Prelude.{fold, map, List, [], ◌∷◌, Option, Some, None, codes, true, unwrap_or}
use Rattle.clap.specs.Lexer.{usize_max}
use Rattle.clap.specs.Walk.{Row, Rule, Text, all_of, first_of}
use Rattle.clap.specs.Simple.{App, new_app, new_rule, on_top, subcommand_of, with_rule, with_subcommand}
use Rattle.clap.specs.Kinds.{Kinds}
use Rattle.clap.specs.Faults.{fault_of}
use Rattle.clap.specs.declared.builder.action.ArgAction.TheVariants.{Set, Append}
use Rattle.rtlc_words.specs.Words.{Arguments, command_named, table}
use Rattle.rtlc_words.specs.declared.command.Command.{Command}

-- `--md NAME`
abbrev pub md_rule : Rule
md_rule = record (new_rule (codes "md")) { long = Some (codes "md"); action = Some Set }

-- any number of positional words
abbrev pub words_rule : Rule
words_rule = record (new_rule (codes "words")) { action = Some Append; range = Some (record { start_inclusive = 0; end_inclusive = usize_max }) }

-- a command of the program
abbrev pub leaf : Text → App
leaf name = with_rule (with_rule (new_app name) md_rule) words_rule

-- the program with no command yet
abbrev pub bare : App
bare = on_top (λ s. record s { no_binary_name = true; disable_help_flag = true; disable_help_subcommand = true; disable_version_flag = true }) (new_app (codes "rtlc"))

abbrev pub with_leaf : App → Text → App
with_leaf a name = with_subcommand a (leaf name).top

abbrev pub command_names : List Text
command_names = map (λ row. row.0) table

abbrev pub program : App
program = fold with_leaf bare command_names

-- what the rows of a command say
abbrev pub arguments_of : List Row → Arguments
arguments_of rows = record { description = first_of (codes "md") rows; positional = unwrap_or (all_of (codes "words") rows) [] }

-- what there is, where no step fails
abbrev pub where_none : {X : Type 0} → Kinds → Option X → Option X
where_none [] found = found
where_none (k ∷ ks) found = None

-- the name and the rows of the command that `clap` finds
abbrev pub found_in : List Text → Option (Text × List Row)
found_in words = where_none (fault_of program words) (subcommand_of program words)

abbrev pub command_found : Option (Text × List Row) → Option Command
command_found None = None
command_found (Some p) = command_named p.0 (Some (arguments_of p.1))

-- What building makes of the shapes that `clap` is told.
use Rattle.std.proofs.Common.{◌≡◌, refl, true, List, [], ◌∷◌, map}
use Rattle.clap.specs.Walk.{Rule, Text}
use Rattle.clap.specs.Simple.{Shape, built, filled, with_index}
use Rattle.clap.specs.Faults.{is_simple_and_free}
use Rattle.rtlc_words.specs.machine.Grammar.{command_names, leaf, md_rule, program, words_rule}

-- the two arguments of each command
abbrev pub md : Rule
md = with_index 1 (filled md_rule)

abbrev pub positional : Rule
positional = with_index 1 (filled words_rule)

abbrev pub rules : List Rule
rules = md ∷ positional ∷ []

-- a command of the program
abbrev pub ready : Text → Shape
ready name = record (leaf name).top {
  rules = rules;
  is_built = true;
  no_binary_name = true;
  disable_help_flag = true;
  disable_help_subcommand = true;
  disable_version_flag = true;
}

pub built_commands : (built program).subs ≡ map ready command_names
built_commands = refl

pub no_own_rules : (built program).top.rules ≡ []
no_own_rules = refl

pub program_is_simple : is_simple_and_free program ≡ true
program_is_simple = refl

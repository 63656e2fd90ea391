use Rattle.std.proofs.Common.{◌∙◌, ◌≤◌, Option, length, ap, sym, arith}
use Rattle.std.specs.Prelude.{option_and_then}
use Rattle.std.proofs.lemmas.Result.{IfOk-weaker}
use Rattle.std.proofs.lemmas.List.{length-map}
use Rattle.clap.specs.Lexer.{usize_max}
use Rattle.clap.specs.Words.{subcommand_rows_of}
use Rattle.clap.specs.declared.parser.matches.ArgMatches.{ArgMatches}
use Rattle.rtlc_words.specs.Words.{words_of}
use Rattle.rtlc_words.specs.machine.Grammar.{command_found}
use Rattle.rtlc_words.proofs.Whole.{command_read}
use Rattle.rtlc_words.proofs.command.command_of.Goals as goal

pub returns-in-Some : goal.returns-in-Some
returns-in-Some c =
    let fits : length (words_of c.args.words.now) ≤ usize_max = omega (arith, length-map c.args.words.now (λ w. w.now), c.well_formed) in
    IfOk-weaker c.command_in.result _ _ (λ command is. is
    ∙ ap (λ (o : Option ArgMatches). command_found (option_and_then subcommand_rows_of o)) (sym c.in-Some.is)
    ∙ ap command_found c.in_ok-matches.ensures ∙ command_read (words_of c.args.words.now) fits) c.command_in.ensures

pub returns-in-None : goal.returns-in-None
returns-in-None c =
    let fits : length (words_of c.args.words.now) ≤ usize_max = omega (arith, length-map c.args.words.now (λ w. w.now), c.well_formed) in
    ap (λ (o : Option ArgMatches). command_found (option_and_then subcommand_rows_of o)) (sym c.in-None.is)
    ∙ ap command_found c.in_ok-matches.ensures ∙ command_read (words_of c.args.words.now) fits

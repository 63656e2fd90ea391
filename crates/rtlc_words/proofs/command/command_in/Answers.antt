use Rattle.std.proofs.Common.{◌∙◌, ap, sym}
use Rattle.std.proofs.lemmas.Result.{IfOk-weaker}
use Rattle.clap.specs.Words.{found_of, rows_of}
use Rattle.rtlc_words.specs.machine.Grammar.{command_found}
use Rattle.rtlc_words.proofs.Found.{name_and_rows}
use Rattle.rtlc_words.proofs.command.command_in.Goals as goal

pub returns-in-Some : goal.returns-in-Some
returns-in-Some c =
    let there = name_and_rows _ c.in-Some.name.now (rows_of (found_of c.in-Some.found.now)) c.in-Some.ensures.name c.in-Some.ensures.rows in
    IfOk-weaker c.command_with.result _ _ (λ command is. is ∙ ap command_found (sym there)) c.command_with.ensures

use Rattle.std.proofs.Common.{refl}
use Rattle.clap.specs.Words.{app_of}
use Rattle.rtlc_words.specs.Words.{words_of}
use Rattle.rtlc_words.proofs.Found.{words_found, words_refused}
use Rattle.rtlc_words.proofs.grammar.parsed.Goals as goal

pub returns-in_ok-refused-in-Err : goal.returns-in_ok-refused-in-Err
returns-in_ok-refused-in-Err c =
    words_refused (app_of c.in_ok-program.field-0) (words_of c.args.words.now) (words_of c.args.words.now) c.in-Err.error c.in_ok-program.ensures refl
    c.in-Err.ensures.kinds c.in_ok-refused-in-Err.ensures

pub returns-in-Ok : goal.returns-in-Ok
returns-in-Ok c =
    words_found (app_of c.in_ok-program.field-0) (words_of c.args.words.now) (words_of c.args.words.now) c.in-Ok.matches c.in_ok-program.ensures refl
    c.in-Ok.ensures.matches c.in-Ok.ensures.kinds

use Rattle.rtlc_words.proofs.Named.{named_none}
use Rattle.rtlc_words.proofs.command.command_by.Goals as goal

pub returns-in_default : goal.returns-in_default
returns-in_default c =
    named_none c.args.name.now _ _ c.in_default.not-asm c.in_default.not-list c.in_default.not-recog c.in_default.not-dump c.in_default.not-eval c.in_default.not-make c.in_default.not-image c.in_default.not-reuse c.in_default.not-schedule c.in_default.not-cycles c.in_default.not-plain

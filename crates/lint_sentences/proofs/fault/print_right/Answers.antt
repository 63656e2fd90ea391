use Rattle.lint_choices.proofs.PushedLaws.{pushed_both}
use Rattle.lint_sentences.proofs.fault.print_right.Goals as goal

pub returns : goal.returns
returns c = pushed_both c.args.out.now.items _ _ c.print_text.new.out.items c.print_text-2.new.out.items c.in_ok-print_text.ensures c.in_ok-print_text-2.ensures

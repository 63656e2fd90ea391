use Rattle.lint_choices.proofs.PushedLaws.{pushed_three}
use Rattle.lint_sentences.proofs.unreached.print_predicate.Goals as goal

pub returns : goal.returns
returns c = pushed_three c.args.out.now.items _ _ _ c.print_text.new.out.items c.print_text-2.new.out.items c.print_mode.new.out.items c.in_ok-print_text.ensures c.in_ok-print_text-2.ensures c.in_ok-print_mode.ensures

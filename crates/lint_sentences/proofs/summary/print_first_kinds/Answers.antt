use Rattle.lint_choices.proofs.PushedLaws.{pushed_three}
use Rattle.lint_sentences.proofs.summary.print_first_kinds.Goals as goal

pub returns : goal.returns
returns c = pushed_three c.args.out.now.items _ _ _ c.print_kind.new.out.items c.print_kind-2.new.out.items c.print_lacking_kinds.new.out.items c.in_ok-print_kind.ensures c.in_ok-print_kind-2.ensures c.in_ok-print_lacking_kinds.ensures

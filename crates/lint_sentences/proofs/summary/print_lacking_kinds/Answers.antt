use Rattle.lint_choices.proofs.PushedLaws.{pushed_both}
use Rattle.lint_sentences.proofs.summary.print_lacking_kinds.Goals as goal

pub returns : goal.returns
returns c = pushed_both c.args.out.now.items _ _ c.print_kind.new.out.items c.print_kind-2.new.out.items c.in_ok-print_kind.ensures c.in_ok-print_kind-2.ensures

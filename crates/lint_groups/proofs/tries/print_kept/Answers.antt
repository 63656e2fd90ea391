use Rattle.std.proofs.Common.{ℕ, List, ◌++◌, ap, ◌∙◌}
use Rattle.lint_choices.proofs.PushedLaws.{pushed_three}
use Rattle.lint_groups.proofs.tries.print_kept.Goals as goal

pub returns : goal.returns
returns c =
    pushed_three c.args.out.now.items _ _ _ c.print_text.new.out.items c.print_text-2.new.out.items c.print_text-3.new.out.items
    (c.in_ok-print_text.ensures ∙ ap (λ (text : List ℕ). c.args.out.now.items ++ text) c.mode_words.ensures)
    c.in_ok-print_text-2.ensures
    (c.in_ok-print_text-3.ensures ∙ ap (λ (text : List ℕ). c.print_text-2.new.out.items ++ text) c.far_words.ensures)

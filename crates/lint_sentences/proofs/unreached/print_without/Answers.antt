use Rattle.std.proofs.Common.{◌≡◌, ◌++◌, rules}
use Rattle.std.specs.Fmt.{signed_decimal}
use Rattle.lint_choices.proofs.PushedLaws.{pushed_three}
use Rattle.lint_sentences.proofs.unreached.print_without.Goals as goal

pub returns : goal.returns
returns c =
    let number : c.print_number.new.out.items ≡ c.print_text.new.out.items ++ signed_decimal c.args.number = search rules in
    pushed_three c.args.out.now.items _ _ _ c.print_text.new.out.items c.print_number.new.out.items c.print_predicate.new.out.items c.in_ok-print_text.ensures number c.in_ok-print_predicate.ensures

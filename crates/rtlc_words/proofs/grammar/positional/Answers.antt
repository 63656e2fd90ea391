use Rattle.std.proofs.Common.{◌≡◌, ◌∙◌, Option, Some, rules, ap, ap₂, codes}
use Rattle.clap.specs.Lexer.{usize_max}
use Rattle.clap.specs.Walk.{Rule, rule_of}
use Rattle.clap.specs.Simple.{new_rule}
use Rattle.clap.specs.declared.builder.action.ArgAction.TheVariants.{Append}
use Rattle.clap.specs.declared.builder.range.ValueRange.{ValueRange}
use Rattle.rtlc_words.proofs.Found.{some_range}
use Rattle.rtlc_words.proofs.grammar.positional.Goals as goal

pub returns-clause-rule : goal.returns-clause-rule
returns-clause-rule c =
    let any : ValueRange = record { start_inclusive = 0; end_inclusive = usize_max } in
    let range_is : c.num_args.result.num_vals ≡ Some any = some_range c.num_args.result.num_vals any c.num_args.ensures.1 in
    let before : rule_of c.action.result ≡ record (new_rule (codes "words")) { action = Some Append } = search rules in
    ap rule_of c.num_args.ensures.0 ∙ ap₂ (λ (r : Rule) (o : Option ValueRange). record r { range = o }) before range_is

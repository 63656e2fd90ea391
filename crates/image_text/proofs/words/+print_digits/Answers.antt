use Rattle.image_text.proofs.Lines.{digit_last}
use Rattle.image_text.proofs.words.+print_digits.Goals as goal

pub returns : goal.returns
returns t c =
    digit_last c.args.count c.args.number c.digit.result c.args.out.now.items c.print_digits.new.out.items c.push.new.self.items c.if-count-eq0.false c.in_ok-print_digits.ensures c.digit.ensures c.in_ok-push.ensures.items

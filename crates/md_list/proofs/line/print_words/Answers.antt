use Rattle.md_list.proofs.Lines.{line_made}
use Rattle.md_list.proofs.line.print_words.Goals as goal

pub returns : goal.returns
returns c =
    line_made c.args.index c.args.head.now c.args.name.now c.args.form.now c.args.out.now.items c.print_count.new.out.items c.push.new.self.items c.extend_from_slice.new.self.items c.push-2.new.self.items
    c.extend_from_slice-2.new.self.items c.push-3.new.self.items c.print_verdict.new.out.items c.push-4.new.self.items c.in_ok-print_count.ensures c.in_ok-push.ensures.items c.in_ok-extend_from_slice.ensures.items
    c.in_ok-push-2.ensures.items c.in_ok-extend_from_slice-2.ensures.items c.in_ok-push-3.ensures.items c.in_ok-print_verdict.ensures c.in_ok-push-4.ensures.items

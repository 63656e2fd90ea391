use Rattle.rtl_print.proofs.Chains.{three_pieces, uses_printed}
use Rattle.rtl_print.proofs.canonical.print_uses.Goals as goal

pub returns : goal.returns
returns c =
    rw (uses_printed c.args.uses.now)
    (three_pieces c.args.out.now.items c.print_links.new.out.items c.extend_from_slice.new.self.items c.print_closed.new.out.items _ _ _
    c.in_ok-print_links.ensures c.in_ok-extend_from_slice.ensures.items c.in_ok-print_closed.ensures)

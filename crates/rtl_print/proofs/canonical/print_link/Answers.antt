use Rattle.std.proofs.Common.{sym}
use Rattle.rtl_print.specs.Canonical.{printed_link}
use Rattle.rtl_print.proofs.Chains.{three_pieces}
use Rattle.rtl_print.proofs.canonical.print_link.Goals as goal

pub returns : goal.returns
unfolding printed_link
returns c =
    rw (sym c.from.ensures) (three_pieces c.args.out.now.items c.extend_from_slice.new.self.items c.print_reg_in.new.out.items c.extend_from_slice-2.new.self.items _ _ _
    c.in_ok-extend_from_slice.ensures.items c.in_ok-print_reg_in.ensures c.in_ok-extend_from_slice-2.ensures.items)

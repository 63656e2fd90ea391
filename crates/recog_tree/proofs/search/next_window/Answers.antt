use Rattle.std.proofs.Common.{refl}
use Rattle.recog_tree.proofs.Windows.{window_told}
use Rattle.recog_tree.proofs.search.next_window.Goals as goal

pub returns : goal.returns
returns c = λ forms are.
    window_told c.args.tables.now.keys forms are.keys_are c.args.insn.now c.key_of.result c.args.from c.next_tried.result c.next_tried.result c.key_of.ensures refl
    c.next_tried.ensures

use Rattle.std.proofs.Common.{◌≡◌, ap, ◌∙◌, map, rules, sym, true}
use Rattle.term_tree.specs.Form.{same_width}
use Rattle.term_tree.specs.View.{atom_of}
use Rattle.term_tree.proofs.OrderLaws.{same_width-true}
use Rattle.term_sums.proofs.FlatLaws.{atoms_at-view}
use Rattle.term_sums.proofs.sums.into_atoms.Goals as goal

pub returns-then-is_same_width : goal.returns-then-is_same_width
returns-then-is_same_width c =
    let widths : same_width c.in-Sum.width c.args.w ≡ true = search rules in
    ap (map atom_of) c.into_vec.ensures ∙ sym (atoms_at-view c.args.t c.args.w c.in-Sum.width c.in-Sum.constant c.in-Sum.atoms c.in-Sum.is (same_width-true c.in-Sum.width c.args.w widths))

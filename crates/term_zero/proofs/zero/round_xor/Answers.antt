use Rattle.std.proofs.Common.{◌≡◌, ap, ◌∙◌, subst, IfOk}
use Rattle.term_tree.specs.View.{tree_of}
use Rattle.term_zero.specs.machine.Rounds.{round_tree, zero_parted}
use Rattle.term_zero.proofs.RoundLaws.{zero_xor-parted}
use Rattle.term_zero.proofs.zero.round_xor.Goals as goal

pub returns : goal.returns
returns c = λ again.
    let t = tree_of c.args.t.now in
    let is = ap (λ p. zero_parted p again c.args.w t) c.in_ok-parts.ensures ∙ zero_xor-parted again c.args.w t in
    subst (λ u. IfOk c.round_parted.result (λ r. round_tree again r ≡ u)) is (c.round_parted.ensures again)

use Rattle.std.proofs.Common.{◌≡◌, sym, ap, subst, ◌∙◌}
use Rattle.std.specs.List.{splice}
use Rattle.rtl_chain.specs.Counts.{next_pseudo_in, is_instruction}
use Rattle.live_chain.specs.machine.Whole.{with_chain}
use Rattle.live_chain.proofs.NumberLaws.{known_after}
use Rattle.live_chain.proofs.CountLaws.{count_known}
use Rattle.live_chain.proofs.KeptLaws.{live_joined, rows_told, stays_up_to, up_to_window}
use Rattle.live_chain.specs.Stays.{StaysBefore}
use Rattle.live_chain.proofs.chain.LiveChain.replace.Goals as goal

pub invariant_of-self-2 : goal.invariant_of-self-2
invariant_of-self-2 c =
    let a = c.args in
    let was = c.self.inside in
    let f = with_chain was.frame was.insns in
    let all = c.splice.new.self in
    let same : all ≡ splice was.insns a.first a.end a.new =
    c.in_ok-splice.ensures.ok ∙ ap (λ l. splice l a.first a.end a.new) c.move_gap.ensures in
    record {
      live = live_joined f (with_chain was.frame all) a.first a.end c.as_slice-4.result.now a.new was.rows
          c.take.result c.rows_joined.result c.in_ok-inside.inside c.as_slice-4.ensures.value
          c.take.ensures.value (ap (with_chain was.frame) same)
          (rows_told f a.first a.end c.as_slice-4.result.now was.rows c.in_ok-inside.inside c.self.invariant.live
          (c.in_ok-inside.ensures.made f (sym c.move_gap.ensures) c.self.invariant.live))
          c.rows_joined.ensures;
      uid = known_after (λ i. i.uid) was.insns c.move_gap.new.self c.as_slice-old.result.now a.new
          c.as_slice.result.now all a.first a.end c.greatest_uid.result c.greatest_uid-2.result was.greatest
          c.uid_after-greatest.result c.requires.order c.move_gap.ensures (c.as_slice-old.ensures.value ∙ c.in_ok-window.ensures)
          c.as_slice.ensures.value same c.greatest_uid.ensures c.greatest_uid-2.ensures c.self.invariant.uid
          c.uid_after-greatest.ensures.after;
      pseudo = known_after (λ i. next_pseudo_in i.pattern) was.insns c.move_gap.new.self c.as_slice-old.result.now a.new
          c.as_slice-2.result.now all a.first a.end c.next_pseudo.result c.next_pseudo-2.result was.next
          c.pseudo_after-next.result c.requires.order c.move_gap.ensures (c.as_slice-old.ensures.value ∙ c.in_ok-window.ensures)
          c.as_slice-2.ensures.value same c.next_pseudo.ensures c.next_pseudo-2.ensures c.self.invariant.pseudo
          c.pseudo_after-next.ensures.after;
      instructions = count_known is_instruction was.insns c.move_gap.new.self c.as_slice-old.result.now a.new
          c.as_slice-3.result.now all a.first a.end c.instruction_count.result c.instruction_count-2.result was.count
          c.count_after-count.result c.requires.order c.move_gap.ensures (c.as_slice-old.ensures.value ∙ c.in_ok-window.ensures)
          c.as_slice-3.ensures.value same c.instruction_count.ensures c.instruction_count-2.ensures c.self.invariant.instructions
          c.count_after-count.ensures;
    }

pub returns-clause-stays : goal.returns-clause-stays
returns-clause-stays c =
    let a = c.args in
    let was = c.self.inside in
    let f = with_chain was.frame was.insns in
    let same : c.splice.new.self ≡ splice was.insns a.first a.end a.new =
    c.in_ok-splice.ensures.ok ∙ ap (λ l. splice l a.first a.end a.new) c.move_gap.ensures in
    let all = c.splice.new.self in
    let from = c.same_to-from.result in
    subst (λ g. StaysBefore g (with_chain was.frame all) from) c.self.view_is
    (subst (λ g. StaysBefore f g from) (sym (ap (with_chain was.frame) same))
    (stays_up_to f a.first a.end c.as_slice-4.result.now a.new c.in_ok-inside.inside from c.as_slice-4.ensures.value
    c.same_to-from.ensures (c.in_ok-inside.ensures.made f (sym c.move_gap.ensures) c.self.invariant.live)))

pub returns-clause-before : goal.returns-clause-before
returns-clause-before c =
    let a = c.args in
    let was = c.self.inside in
    let f = with_chain was.frame was.insns in
    up_to_window f a.first a.end c.as_slice-4.result.now c.in_ok-inside.inside c.same_to-from.result c.same_to-from.ensures
    (c.in_ok-inside.ensures.made f (sym c.move_gap.ensures) c.self.invariant.live)

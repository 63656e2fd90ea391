use Rattle.std.proofs.Common.{Some, if◌then◌else◌, sym, ap, ◌∙◌}
use Rattle.rv_text.specs.Body.{label_text}
use Rattle.rv_line.specs.Run.{is_label}
use Rattle.rv_line.specs.machine.Labels.{place_behind}
use Rattle.rv_line.proofs.Labels.{text_put}
use Rattle.rv_line.proofs.label.Labels.put.Goals as goal

pub returns-in_ok-insert-in-Label : goal.returns-in_ok-insert-in-Label
returns-in_ok-insert-in-Label c target =
    text_put c.args.self.now.places.entries c.insert.new.self.entries c.in_ok-text-in-Label.text (label_text c.in-Label.function c.in-Label.uid) target c.args.behind c.in_ok-text-in-Label.ensures
    c.in_ok-insert-in-Label.ensures.updates.1 c.in_ok-insert-in-Label.ensures.updates.3
    ∙ sym (ap (λ i. if is_label target i then Some c.args.behind else place_behind c.args.self.now target) c.in-Label.is)

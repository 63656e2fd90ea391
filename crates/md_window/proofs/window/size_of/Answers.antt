use Rattle.std.proofs.Common.{not, List, length, sym, ap, ◌∙◌}
use Rattle.std.proofs.lemmas.List.Sums.{length-filter}
use Rattle.rtx_tree.specs.declared.tree.Rtx.{Rtx}
use Rattle.md_recog.specs.Recog.{is_scratch, window_of}
use Rattle.md_window.specs.Windows.{size_in}
use Rattle.md_window.proofs.window.size_of.Goals as goal

pub returns-in-Ok : goal.returns-in-Ok
returns-in-Ok c =
    c.count_insns.ensures ∙
    (sym (length-filter (λ p. not (is_scratch p)) c.as_slice.result.now) ∙ (ap (λ (ps : List Rtx). length (window_of ps)) c.as_slice.ensures.value ∙ sym (ap size_in c.in-Ok.is)))

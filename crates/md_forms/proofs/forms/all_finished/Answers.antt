use Rattle.std.proofs.Common.{◌++◌, [], ◌∷◌, map, sym, ap, ◌∙◌}
use Rattle.std.proofs.lemmas.List.{map-append}
use Rattle.md_forms.specs.Forms as spec
use Rattle.md_forms.proofs.forms.all_finished.Goals as goal

pub loop-entry-init : goal.loop-entry-init
loop-entry-init c = c.new-forms.ensures

pub loop-entry-preserved : goal.loop-entry-preserved
loop-entry-preserved c =
    let make = spec.finished c.args.tables.now in
    c.in_ok-push.ensures.ok ∙
    ap (λ l. l ++ c.in_ok-finished.field-0 ∷ []) c.loop-entry.invariant ∙
    ap (λ e. map make c.loop-entry.yielded ++ e ∷ []) c.in_ok-finished.ensures ∙
    sym (map-append make c.loop-entry.yielded (c.in-Some.entry ∷ []))

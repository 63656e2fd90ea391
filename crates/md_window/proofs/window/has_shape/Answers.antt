use Rattle.std.proofs.Common.{◌≤◌, ◌<◌, List, length, map, subst, ◌∙◌}
use Rattle.std.specs.Prelude.{◌≡◌, get_or}
use Rattle.rtx_tree.specs.declared.function.Insn.{Insn}
use Rattle.md_forms.specs.declared.form.Entry.{Entry}
use Rattle.md_window.proofs.Shapes.{never_there, never_past}
use Rattle.md_window.proofs.window.has_shape.Goals as goal

pub returns-in-Some : goal.returns-in-Some
returns-in-Some c =
    let looked = c.as_slice.ensures.value ∙ c.forms.ensures.forms in
    let e = c.in-Some.entry.now in
    never_there c.args.desc.now (map (λ (i : Insn). i.pattern) c.args.insns.now) c.args.form e c.entry_fits.result
    (subst (λ (es : List Entry). c.args.form < length es) looked c.in-Some.ensures.lookup.3.0)
    (subst (λ (es : List Entry). e ≡ get_or es c.args.form e) looked (c.in-Some.ensures.lookup.3.1 e)) c.entry_fits.ensures

pub returns-in-None : goal.returns-in-None
returns-in-None c = λ not.
    never_past c.args.desc.now (map (λ (i : Insn). i.pattern) c.args.insns.now) c.args.form
    (subst (λ (es : List Entry). length es ≤ c.args.form) (c.as_slice.ensures.value ∙ c.forms.ensures.forms) c.in-None.ensures.lookup.3)

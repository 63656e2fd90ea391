use Rattle.std.proofs.Common.{◌≡◌, ℕ, List, sym, ap, subst, ◌∙◌}
use Rattle.assign.specs.Frame.{saved_of, slots_of, layout_for, layout_of, IsFrame}
use Rattle.assign.proofs.PlaceLaws.{IsFrame-layout_of}
use Rattle.assign.proofs.frame.layout.Goals as goal

pub returns : goal.returns
returns c =
    let f = c.args.f.now in
    let homes = c.args.homes.now in
    let saved = c.as_slice-3.ensures.value ∙ (c.in_ok-saved.ensures.value ∙ ap (saved_of f) c.as_slice.ensures.value) in
    let slots = c.as_slice-4.ensures.value ∙ (c.in_ok-slots.ensures ∙ ap slots_of c.as_slice-2.ensures.value) in
    let layout = c.in_ok-layout.layout in
    let value : layout ≡ layout_of f homes =
    c.in_ok-layout.ensures ∙ (ap (λ (s : List ℕ). layout_for f.locals s c.as_slice-4.result.now) saved ∙ ap (λ (s : List ℕ). layout_for f.locals (saved_of f homes) s) slots) in
    record { value = value; frame = subst (IsFrame f homes) (sym value) (IsFrame-layout_of f homes) }

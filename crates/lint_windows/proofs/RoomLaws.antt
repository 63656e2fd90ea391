-- A window behind others, as there is room.
use Rattle.std.proofs.Common.{◌≡◌, ◌<◌, ◌≤◌, Bool, if◌then◌else◌, List, [], ◌∷◌, ◌++◌, length, Option, Some, None, refl, sym, ap, ◌∙◌}
use Rattle.std.proofs.lemmas.Bool.{lt-ltb, le-ltb}
use Rattle.rtx_tree.specs.Limit.{most_tried}
use Rattle.rtx_tree.specs.declared.tree.Rtx.{Rtx}
use Rattle.lint_windows.specs.Windows.{with_window}

abbrev put_if : Bool → List (List Rtx) → List Rtx → List (List Rtx)
put_if room windows w = if room then windows ++ w ∷ [] else windows

pub no_room : (windows : List (List Rtx)) (o : Option (List Rtx)) → most_tried ≤ length windows → windows ≡ with_window windows o
no_room windows None full = refl
no_room windows (Some w) full = sym (ap (λ (room : Bool). put_if room windows w) (le-ltb (length windows) most_tried full))

pub has_room : (windows new : List (List Rtx)) (w : List Rtx) → length windows < most_tried → new ≡ windows ++ w ∷ [] → new ≡ with_window windows (Some w)
has_room windows new w room made =
    made ∙ sym (ap (λ (b : Bool). put_if b windows w) (lt-ltb (length windows) most_tried room))

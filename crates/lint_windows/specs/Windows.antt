-- The windows of a peephole that are tried: GCC Internals, "RTL to RTL Peephole Optimizers". The
-- instructions of a window are one pattern, whose operands they share; what asks for a scratch
-- register is none of them.
use Rattle.std.specs.Prelude.{ℕ, nat_lt, List, [], ◌∷◌, ◌++◌, map, length, Option, Some, None, if◌then◌else◌}
use Rattle.std.specs.List.{list_all}
use Rattle.std.specs.Option.{option_map_or}
use Rattle.rtx_tree.specs.declared.code.Code.TheVariants.{Parallel}
use Rattle.rtx_tree.specs.declared.code.Mode.TheVariants.{Void}
use Rattle.rtx_tree.specs.declared.function.Kind.TheVariants.{Plain}
use Rattle.rtx_tree.specs.declared.tree.Rtx.{Rtx}
use Rattle.rtx_tree.specs.Limit.{most_tried}
use Rattle.rtx_tree.specs.Tree.{node_of, kids_of}
use Rattle.rtl_func.specs.Kinds.{kinds_agree}
use Rattle.md_match.specs.Pattern.{Ops, instantiated}
use Rattle.md_desc.specs.md_forms.declared.form.Entry.{Entry}
use Rattle.md_desc.specs.md_forms.declared.form.Form.{Form}
use Rattle.md_desc.specs.md_attr.Alternatives.{form_at}
use Rattle.md_desc.specs.md_pred.Holds.{holds}
use Rattle.md_desc.specs.md_recog.Match.{is_accepted}
use Rattle.md_desc.specs.md_recog.Recog.{is_peephole, window_of}
use Rattle.lint_choices.specs.declared.change.Change.{Change}
use Rattle.lint_choices.specs.declared.change.Picked.{Picked}
use Rattle.lint_choices.specs.Changes.{changes_round}
use Rattle.lint_made.specs.declared.candidate.Candidate.{Candidate}
use Rattle.lint_made.specs.Made.{givers, picks_in}
use Rattle.lint_tried.specs.Trial.{Trial}
use Rattle.lint_tried.specs.Offered.{candidates_of}
use Rattle.lint_tried.specs.Instance.{operands_with}
use Rattle.lint_tried.specs.Tried.{first_picks}

-- ---- the window of a choice

-- the instructions of a window, where each is a plain one
abbrev pub plain_kids : Option Rtx → Option (List Rtx)
plain_kids None = None
plain_kids (Some window) =
    if list_all (kinds_agree Plain) (kids_of window) then Some (kids_of window) else None

-- that of operands which the predicates accept
unfoldable pub window_with : Trial → Ops → Option (List Rtx)
window_with t operands =
    if list_all (is_accepted (holds t.forms) operands) (givers t.pattern) then plain_kids (instantiated t.pattern operands) else None

abbrev pub window_in : Trial → List (List Candidate) → List ℕ → Change → Option (List Rtx)
window_in t candidates picks change =
    window_with t (operands_with t candidates change (picks_in change picks))

-- ---- the windows of choices

-- one behind others, where there is room
abbrev pub with_window : List (List Rtx) → Option (List Rtx) → List (List Rtx)
with_window windows None = windows
with_window windows (Some window) =
    if nat_lt (length windows) most_tried then windows ++ window ∷ [] else windows

abbrev pub windows_behind : Trial → List (List Candidate) → List ℕ → List (List Rtx) → List Change → List (List Rtx)
windows_behind t candidates picks windows [] = windows
windows_behind t candidates picks windows (c ∷ cs) =
    windows_behind t candidates picks (with_window windows (window_in t candidates picks c)) cs

-- how many candidates each operand has, of which it has the first
abbrev pub first_picked : List Candidate → Picked
first_picked cs = record { count = length cs; own = 0 }

-- in the choices round that of each operand's first candidate
unfoldable pub windows_with : Trial → List (List Candidate) → List (List Rtx)
windows_with t candidates = windows_behind t candidates (first_picks candidates) [] (changes_round (map first_picked candidates))

unfoldable pub windows_of : Trial → List (List Rtx)
windows_of t = windows_with t (candidates_of t [])

-- ---- the windows of a form

-- the instructions of a window as one pattern
abbrev pub window_pattern : Form → Rtx
window_pattern f = node_of Parallel Void (window_of f.patterns)

abbrev pub trial_with : List Entry → ℕ → Form → Rtx → Trial
trial_with forms form f pattern =
    record { forms = forms; form = form; alternative = 0; says = f; pattern = pattern }

abbrev pub windows_by : List Entry → ℕ → Form → List (List Rtx)
windows_by forms form f = windows_of (trial_with forms form f (window_pattern f))

abbrev pub windows_if : List Entry → ℕ → Form → List (List Rtx)
windows_if forms form f = if is_peephole f.head then windows_by forms form f else []

-- the windows of a peephole that are tried; a form that is none has none
abbrev pub windows_tried : List Entry → ℕ → List (List Rtx)
windows_tried forms form = option_map_or (windows_if forms form) (form_at forms form) []

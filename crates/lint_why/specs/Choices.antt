-- How far the operands of a choice come on the way to an instance (Instance of lint_tried).
use Rattle.std.specs.Prelude.{ℕ, nat_lt, List, [], ◌∷◌, Option, Some, None, length, map, if◌then◌else◌}
use Rattle.std.specs.List.{list_all}
use Rattle.rtx_tree.specs.declared.tree.Rtx.{Rtx}
use Rattle.md_match.specs.Pattern.{Ops, instantiated}
use Rattle.md_desc.specs.Recog.{is_usable}
use Rattle.md_desc.specs.md_pred.Holds.{holds}
use Rattle.md_desc.specs.md_recog.Match.{is_accepted, is_met}
use Rattle.form_needs.specs.Needs.{output_facts}
use Rattle.lint_choices.specs.declared.change.Change.{Change}
use Rattle.lint_choices.specs.declared.change.Picked.{Picked}
use Rattle.lint_choices.specs.Changes.{changes_searched}
use Rattle.lint_made.specs.declared.candidate.Candidate.{Candidate}
use Rattle.lint_made.specs.Made.{givers, picks_in}
use Rattle.lint_tried.specs.Trial.{Trial}
use Rattle.lint_tried.specs.Instance.{operands_with}
use Rattle.lint_why.specs.declared.choice.Stage.{Stage}
use Rattle.lint_why.specs.declared.choice.Stage.TheVariants as stage

abbrev pub rank : Stage → ℕ
rank stage.Unmade = 0
rank stage.Unaccepted = 1
rank stage.Unmet = 2
rank stage.Unfit = 3
rank stage.Unlawful = 4

-- of two stages the one that is further
abbrev pub further : Stage → Stage → Stage
further one other = if nat_lt (rank one) (rank other) then other else one

-- what of an instance operands that make an instruction lack first; if it is nothing of these, the
-- instruction can't stand in a function
abbrev pub stage_made : Trial → Ops → Stage
stage_made t operands =
    if list_all (is_accepted (holds t.forms) operands) (givers t.pattern) then (
    if is_met (holds t.forms) output_facts t.says.condition operands then (
    if is_usable t.forms t.form operands t.alternative then stage.Unlawful else stage.Unfit)
    else stage.Unmet) else stage.Unaccepted

abbrev pub stage_by : Trial → Ops → Option Rtx → Stage
stage_by t operands None = stage.Unmade
stage_by t operands (Some pattern) = stage_made t operands

unfoldable pub stage_of : Trial → Ops → Stage
stage_of t operands = stage_by t operands (instantiated t.pattern operands)

-- the stage to which a choice comes that differs so from some picks
abbrev pub stage_in : Trial → List (List Candidate) → List ℕ → Change → Stage
stage_in t candidates picks change = stage_of t (operands_with t candidates change (picks_in change picks))

-- the furthest of some choices, behind one
abbrev pub furthest_among : Trial → List (List Candidate) → List ℕ → Stage → List Change → Stage
furthest_among t candidates picks best [] = best
furthest_among t candidates picks best (c ∷ cs) =
    furthest_among t candidates picks (further best (stage_in t candidates picks c)) cs

-- each operand has its first candidate
abbrev pub first_pick : List Candidate → ℕ
first_pick cs = 0

abbrev pub first_picked : List Candidate → Picked
first_picked cs = record { count = length cs; own = 0 }

-- the furthest stage of the choices among which a first instance is looked for
unfoldable pub furthest : Trial → List (List Candidate) → Stage
furthest t candidates =
    furthest_among t candidates (map first_pick candidates) stage.Unmade (changes_searched (map first_picked candidates))

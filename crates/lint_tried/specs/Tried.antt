-- Which instances of an alternative are tried: those round the first choice that makes one, of
-- choices with two operands changed at most; so a condition that ties two operands uses up no
-- change.
use Rattle.std.specs.Prelude.{ℕ, ◌+◌, ℤ, ◌&&◌, ◌||◌, Bool, not, nat_lt, is_some, List, [], ◌∷◌, ◌++◌, map, length, Option, Some, None, slice_get, slice_index_or, if◌then◌else◌}
use Rattle.std.specs.Option.{option_map_or}
use Rattle.std.specs.List.{list_any}
use Rattle.c_eval.specs.Value.{same_tree}
use Rattle.md_desc.specs.md_forms.declared.form.Form.{Form}
use Rattle.md_desc.specs.md_forms.declared.form.Entry.{Entry}
use Rattle.md_desc.specs.md_attr.Alternatives.{form_at}
use Rattle.md_desc.specs.md_recog.Recog.{is_instruction, is_split}
use Rattle.rtx_tree.specs.declared.tree.Rtx.{Rtx}
use Rattle.rtx_tree.specs.Limit.{most_tried}
use Rattle.lint_choices.specs.declared.change.Change.{Change}
use Rattle.lint_choices.specs.declared.change.Picked.{Picked}
use Rattle.lint_choices.specs.Changes.{changes_round, changes_searched}
use Rattle.lint_made.specs.declared.candidate.Candidate.{Candidate}
use Rattle.lint_made.specs.Made.{picks_in}
use Rattle.lint_tried.specs.Trial.{Trial}
use Rattle.lint_tried.specs.Offered.{candidates_of}
use Rattle.lint_tried.specs.Instance.{instance_of}
use Rattle.lint_tried.specs.declared.instance.Instance.{Instance}

-- ---- the first

-- each operand has its first candidate
abbrev pub first_pick : List Candidate → ℕ
first_pick cs = 0

abbrev pub first_picks : List (List Candidate) → List ℕ
first_picks candidates = map first_pick candidates

-- how many candidates each operand has, and which is picked, from a place on
abbrev pub picked_from : List ℕ → ℕ → List (List Candidate) → List Picked
picked_from picks at [] = []
picked_from picks at (cs ∷ more) =
    record { count = length cs; own = slice_index_or picks at 0 } ∷ picked_from picks (at + 1) more

-- what the first of some choices that makes an instance picks
abbrev pub base_among : Trial → List (List Candidate) → List ℕ → List Change → Option (List ℕ)
base_among t candidates picks [] = None
base_among t candidates picks (c ∷ cs) =
    if is_some (instance_of t candidates picks c) then Some (picks_in c picks) else base_among t candidates picks cs

abbrev pub base_of : Trial → List (List Candidate) → Option (List ℕ)
base_of t candidates = base_among t candidates (first_picks candidates) (changes_searched (picked_from (first_picks candidates) 0 candidates))

-- ---- those round it

abbrev pub is_like : Instance → Instance → Bool
is_like i other = same_tree i.insn.pattern other.insn.pattern

-- an instance behind others, where there is room and none of them has its pattern
abbrev pub with_instance : List Instance → Option Instance → List Instance
with_instance tried None = tried
with_instance tried (Some i) =
    if nat_lt (length tried) most_tried && not (list_any (is_like i) tried) then tried ++ i ∷ [] else tried

-- those of some choices behind others
abbrev pub tried_behind : Trial → List (List Candidate) → List ℕ → List Instance → List Change → List Instance
tried_behind t candidates picks tried [] = tried
tried_behind t candidates picks tried (c ∷ cs) =
    tried_behind t candidates picks (with_instance tried (instance_of t candidates picks c)) cs

abbrev pub tried_round : Trial → List (List Candidate) → Option (List ℕ) → List Instance
tried_round t candidates None = []
tried_round t candidates (Some picks) =
    tried_behind t candidates picks [] (changes_round (picked_from picks 0 candidates))

abbrev pub tried_with : Trial → List (List Candidate) → List Instance
tried_with t candidates = tried_round t candidates (base_of t candidates)

-- ---- of an alternative

-- the pattern of a form that defines an instruction, or splits one
abbrev pub pattern_of : Form → Option Rtx
pattern_of f = if is_instruction f.head || is_split f.head then slice_get f.patterns 0 else None

abbrev pub tried_by : List Entry → List ℤ → ℕ → ℕ → Form → Option Rtx → List Instance
tried_by forms tested form alternative f None = []
tried_by forms tested form alternative f (Some pattern) =
    let t : Trial = record { forms = forms; form = form; alternative = alternative; says = f; pattern = pattern } in
    tried_with t (candidates_of t tested)

-- the instances that are tried of an alternative of a form, by the numbers in a description's tests
abbrev pub instances_tried : List Entry → List ℤ → ℕ → ℕ → List Instance
instances_tried forms tested form alternative = option_map_or (λ f. tried_by forms tested form alternative f (pattern_of f)) (form_at forms form) []

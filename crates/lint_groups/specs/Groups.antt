-- Which functions are tried for a description, in groups: one for each shape of the plain profile;
-- values in each mode, kept over a call; for each form that splits, the plain instructions that it
-- matches, behind which all arguments are live; and for each peephole the windows that it matches,
-- behind which all arguments are live or the result alone.
use Rattle.std.specs.Prelude.{ℕ, ℤ, ◌+◌, Bool, true, false, List, [], ◌∷◌, ◌++◌, map, flat_map, codes, Result, Ok, Err, if◌then◌else◌}
use Rattle.rtx_tree.specs.declared.code.Mode.{Mode}
use Rattle.rtx_tree.specs.declared.code.Mode.TheVariants as mode
use Rattle.rtx_tree.specs.declared.function.Kind.{Kind}
use Rattle.rtx_tree.specs.declared.function.Kind.TheVariants.{Plain}
use Rattle.rtx_tree.specs.declared.tree.Rtx.{Rtx}
use Rattle.rtl_print.specs.Print.{printed, spaced_text}
use Rattle.md_desc.specs.md_forms.md_pattern.declared.reason.Reason.{Reason}
use Rattle.md_desc.specs.md_forms.declared.form.Entry.{Entry}
use Rattle.md_desc.specs.md_forms.declared.form.Form.{Form}
use Rattle.md_desc.specs.md_recog.Recog.{is_split, is_peephole}
use Rattle.plain_shape.specs.declared.shape.Shape.{Shape}
use Rattle.plain_shape.specs.Shapes.{all_shapes}
use Rattle.lint_functions.specs.Patterns.{patterns_of}
use Rattle.lint_functions.specs.Functions as functions
use Rattle.lint_tried.specs.declared.instance.Instance.{Instance}
use Rattle.lint_tried.specs.Tried.{instances_tried}
use Rattle.lint_windows.specs.Windows.{windows_tried}
use Rattle.lint_groups.specs.declared.group.Group.{Group}
use Rattle.lint_groups.specs.declared.group.Group.TheVariants as group
use Rattle.lint_groups.specs.declared.tries.Try.{Try}

-- ---- the groups

unfoldable pub shape_groups : List Group
shape_groups = map group.Shape all_shapes

abbrev pub kept_modes : List Mode
kept_modes = mode.QI ∷ mode.HI ∷ mode.SI ∷ mode.DI ∷ []

-- with slots that offsets reach, and with a large frame
abbrev pub kept_in : Mode → List Group
kept_in m = group.Kept m false ∷ group.Kept m true ∷ []

abbrev pub split_groups : ℕ → Form → List Group
split_groups form f = if is_split f.head then group.Split form ∷ [] else []

abbrev pub peephole_groups : ℕ → Form → List Group
peephole_groups form f = if is_peephole f.head then group.Peephole form ∷ [] else []

abbrev pub form_groups : ℕ → Result Form Reason → List Group
form_groups form (Ok f) = split_groups form f ++ peephole_groups form f
form_groups form (Err r) = []

-- those of some forms, of which the first has an index
abbrev pub forms_groups : ℕ → List Entry → List Group
forms_groups form [] = []
forms_groups form (e ∷ es) = form_groups form e.form ++ forms_groups (form + 1) es

abbrev pub groups_of : List Entry → List Group
groups_of forms = shape_groups ++ (flat_map kept_in kept_modes ++ forms_groups 0 forms)

-- ---- the functions of a group, and what they are called

unfoldable pub shape_try : Shape → Rtx → Try
shape_try s pattern =
    record { what = printed pattern; function = functions.function_of s pattern }

abbrev pub far_words : Bool → List ℕ
far_words is_far = if is_far then codes " in a large frame" else []

abbrev pub mode_words : Mode → List ℕ
mode_words mode.QI = codes "QI"
mode_words mode.HI = codes "HI"
mode_words mode.SI = codes "SI"
mode_words _ = codes "DI"

abbrev pub kept_text : Mode → Bool → List ℕ
kept_text m is_far = mode_words m ++ (codes " values kept over a call" ++ far_words is_far)

unfoldable pub kept_try : Mode → Bool → Try
kept_try m is_far = record { what = kept_text m is_far; function = functions.keeping m is_far }

-- PATTERN PATTERN ..
abbrev pub patterns_text : List Rtx → List ℕ
patterns_text patterns = codes "of" ++ flat_map spaced_text patterns

unfoldable pub window_try : Bool → List Rtx → Try
window_try are_live patterns = record {
  what = patterns_text patterns;
  function = functions.several patterns are_live;
}

abbrev pub is_plain_kind : Kind → Bool
is_plain_kind Plain = true
is_plain_kind _ = false

abbrev pub is_plain : Instance → Bool
is_plain i = is_plain_kind i.insn.kind

abbrev pub split_try : Instance → List Try
split_try i = if is_plain i then window_try true (i.insn.pattern ∷ []) ∷ [] else []

abbrev pub window_tries : List Rtx → List Try
window_tries patterns = window_try true patterns ∷ window_try false patterns ∷ []

-- the functions of a group, by the numbers in the tests of the description
abbrev pub tries_of : List Entry → List ℤ → Group → List Try
tries_of forms tested (group.Shape s) = map (shape_try s) (patterns_of s)
tries_of forms tested (group.Kept m is_far) = kept_try m is_far ∷ []
tries_of forms tested (group.Split form) = flat_map split_try (instances_tried forms tested form 0)
tries_of forms tested (group.Peephole form) = flat_map window_tries (windows_tried forms form)

-- What a reason of a form is about that the other forms of the description give: the name of a
-- predicate, a constraint, or the name of an attribute. What is known of these, md_tables says.
use Rattle.std.specs.Prelude.{ℕ, Bool, false, not, ◌&&◌, List, ◌++◌, Option, Some, None, Result, Ok, Err, if◌then◌else◌, option_map}
use Rattle.std.specs.List.{find, list_all}
use Rattle.std.specs.Option.{unwrap_or}
use Rattle.rtx_tree.specs.declared.constants.Constant.{Constant}
use Rattle.rtx_tree.specs.declared.place.Place.{Place}
use Rattle.lisp_read.specs.declared.tree.Tree.{Tree}
use Rattle.md_tables.specs.md_text.declared.constraint.Alternative.{Alternative}
use Rattle.md_tables.specs.md_text.declared.constraint.Member.{Member}
use Rattle.md_tables.specs.md_text.declared.constraint.Member.TheVariants as member
use Rattle.md_tables.specs.md_text.Constraint.{constraint_of}
use Rattle.md_pattern.specs.declared.reason.Reason.{Reason}
use Rattle.md_pattern.specs.declared.reason.Reason.TheVariants as reason
use Rattle.md_pattern.specs.declared.operand.OperandText.{OperandText}
use Rattle.md_iter.specs.declared.substitution.Instance.{Instance}
use Rattle.md_forms.specs.md_draft.declared.draft.Attribute.{Attribute}
use Rattle.md_forms.specs.md_draft.declared.draft.Draft.{Draft}
use Rattle.md_forms.specs.md_draft.declared.draft.DraftEntry.{DraftEntry}
use Rattle.md_tables.specs.declared.tables.AttributeDraft.{AttributeDraft}
use Rattle.md_tables.specs.declared.tables.Tables.{Tables}
use Rattle.md_tables.specs.Names.{predicates_named}
use Rattle.md_tables.specs.Predicates.{is_known}
use Rattle.md_tables.specs.Tables.{is_constraint, attribute_named}
use Rattle.md_forms.specs.Checks.{is_value, is_attr}
use Rattle.md_forms.specs.Forms.{draft_entry}
use Rattle.lint_about.specs.declared.about.About.{About}
use Rattle.lint_about.specs.About.{told}
use Rattle.lint_about.specs.Within.{place_in, first_found}
use Rattle.lint_about.specs.Own.{own_about}

-- a text of the form, where it stands first
abbrev pub text_told : Tree → List ℕ → About
text_told form text = told (place_in form text) text

-- ---- a predicate

abbrev pub is_unknown : Tables → List ℕ → Bool
is_unknown tables name = not (is_known tables.predicates tables.accepted name)

-- the first predicate that the form names and that isn't known, or is set aside
unfoldable pub unknown_predicate : Tables → Tree → Draft → Option About
unknown_predicate tables form d =
    option_map (text_told form) (find (is_unknown tables) (predicates_named d))

-- ---- a constraint

-- the name of a constraint that is set aside
abbrev pub aside_member : Tables → Member → Option (List ℕ)
aside_member tables (member.Defined name) = if is_constraint tables.constraints name then None else Some name
aside_member tables _ = None

abbrev pub aside_in : Tables → Alternative → Option (List ℕ)
aside_in tables a = first_found (aside_member tables) a.members

-- a constraint with something unknown in it, or the name in it that is set aside
abbrev pub odd_constraint : Tables → Place → List ℕ → Option (List Alternative) → Option About
odd_constraint tables place text None = Some (told place text)
odd_constraint tables place text (Some alternatives) =
    option_map (told place) (first_found (aside_in tables) alternatives)

abbrev pub odd_text : Tables → Tree → OperandText → Option About
odd_text tables form t =
    odd_constraint tables (place_in form t.text) t.text (constraint_of tables.constraint_names t.text)

unfoldable pub unknown_constraint : Tables → Tree → Draft → Option About
unknown_constraint tables form d =
    first_found (odd_text tables form) (d.matched.patterns.texts ++ d.replacement.sequence.texts)

-- ---- an attribute

abbrev pub has_values : List (List ℕ) → Option AttributeDraft → Bool
has_values values None = false
has_values values (Some a) = a.accepted && list_all (is_value a) values

-- the attribute isn't known, is set aside, or has not all of these values
abbrev pub is_odd : Tables → Attribute → Bool
is_odd tables given = not (has_values given.values (attribute_named tables.attributes given.name))

-- the default of an attribute, or the first attribute that isn't right
unfoldable pub odd_attribute : Tables → Tree → Draft → Option About
odd_attribute tables form d =
    if is_attr d.head then Some (text_told form d.defined.default)
    else option_map (λ given. text_told form given.name) (find (is_odd tables) d.printed.attributes)

-- ---- any reason

abbrev pub others_by : Tables → Tree → Draft → Reason → Option About
others_by tables form d reason.Predicate = unknown_predicate tables form d
others_by tables form d reason.Constraint = unknown_constraint tables form d
others_by tables form d reason.Attribute = odd_attribute tables form d
others_by tables form d _ = None

-- a form whose own text is in order asks what the others define
abbrev pub others_about : Tables → Tree → Reason → Result Draft Reason → Option About
others_about tables form r (Ok d) = others_by tables form d r
others_about tables form r (Err own) = None

abbrev pub about_by : List Constant → Tables → Instance → Reason → DraftEntry → About
about_by constants tables form r e =
    unwrap_or (others_about tables form.tree r e.draft) (own_about constants form e.head r)

-- what a reason of a form is about
unfoldable pub about_of : List Constant → Tables → Instance → Reason → About
about_of constants tables form r = about_by constants tables form r (draft_entry constants form)

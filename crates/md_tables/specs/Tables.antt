-- What the forms of a description define for one another. Of a name that is defined twice the first
-- definition counts, also where it is set aside.
use Rattle.std.specs.Prelude.{ℕ, Bool, true, false, List, [], ◌∷◌, Option, Some, None, Result, Ok, Err, map, length, option_and_then, if◌then◌else◌}
use Rattle.std.specs.List.{filter_map, list_all, list_any}
use Rattle.std.specs.Option.{option_map_or}
use Rattle.std.specs.Str.{bytes_eq}
use Rattle.name_places.specs.Names.{first_named}
use Rattle.md_pattern.specs.declared.reason.Reason.{Reason}
use Rattle.md_draft.specs.declared.head.FormHead.{FormHead}
use Rattle.md_draft.specs.declared.head.FormHead.TheVariants as head
use Rattle.md_draft.specs.declared.draft.Draft.{Draft}
use Rattle.md_draft.specs.declared.draft.DraftEntry.{DraftEntry}
use Rattle.md_tables.specs.declared.tables.PredicateDraft.{PredicateDraft}
use Rattle.md_tables.specs.declared.tables.ConstraintDraft.{ConstraintDraft}
use Rattle.md_tables.specs.declared.tables.AttributeDraft.{AttributeDraft}
use Rattle.md_tables.specs.declared.tables.Tables.{Tables}
use Rattle.md_draft.specs.Head.{head_named}
use Rattle.md_tables.specs.Names.{predicates_named}
use Rattle.md_tables.specs.Predicates.{is_known, accepted_within}

-- ---- what a head defines

abbrev pub defines_predicate : Option FormHead → Bool
defines_predicate (Some head.Predicate) = true
defines_predicate (Some head.SpecialPredicate) = true
defines_predicate _ = false

abbrev pub defines_constraint : Option FormHead → Bool
defines_constraint (Some head.Constraint) = true
defines_constraint (Some head.RegisterConstraint) = true
defines_constraint (Some head.MemoryConstraint) = true
defines_constraint _ = false

abbrev pub defines_attribute : Option FormHead → Bool
defines_attribute (Some head.Attr) = true
defines_attribute _ = false

-- the name that an entry defines, if its head is such a one
abbrev pub defined : (Option FormHead → Bool) → DraftEntry → Option (List ℕ)
defined test e = if test (head_named e.head) then e.name else None

-- ---- predicates

abbrev pub predicate_draft : List ℕ → Result Draft Reason → PredicateDraft
predicate_draft name (Ok d) = record { name = name; whole = true; uses = predicates_named d }
predicate_draft name (Err r) = record { name = name; whole = false; uses = [] }

abbrev pub predicate_of : DraftEntry → Option PredicateDraft
predicate_of e =
    option_and_then (λ name. Some (predicate_draft name e.draft)) (defined defines_predicate e)

unfoldable pub predicates_of : List DraftEntry → List PredicateDraft
predicates_of es = filter_map predicate_of es

-- ---- constraints

-- a constraint is accepted where its own parts are in order and its predicates known
abbrev pub is_sound : (List ℕ → Bool) → Result Draft Reason → Bool
is_sound known (Ok d) = list_all known (predicates_named d)
is_sound known (Err r) = false

abbrev pub constraint_of : (List ℕ → Bool) → DraftEntry → Option ConstraintDraft
constraint_of known e = option_and_then (λ name. Some (record { name = name; accepted = is_sound known e.draft })) (defined defines_constraint e)

unfoldable pub constraints_of : (List ℕ → Bool) → List DraftEntry → List ConstraintDraft
constraints_of known es = filter_map (constraint_of known) es

-- the first of a name is accepted
abbrev pub is_constraint : List ConstraintDraft → List ℕ → Bool
is_constraint ds name =
    option_map_or (λ d. d.accepted) (first_named (λ d. d.name) ds name) false

-- ---- attributes

abbrev pub is_among : List (List ℕ) → List ℕ → Bool
is_among names name = list_any (λ n. bytes_eq n name) names

-- an attribute is accepted where its default is one of its values
abbrev pub attribute_draft : List ℕ → Result Draft Reason → AttributeDraft
attribute_draft name (Ok d) = record { name = name; accepted = is_among d.defined.values d.defined.default; values = d.defined.values }
attribute_draft name (Err r) = record { name = name; accepted = false; values = [] }

abbrev pub attribute_of : DraftEntry → Option AttributeDraft
attribute_of e =
    option_and_then (λ name. Some (attribute_draft name e.draft)) (defined defines_attribute e)

unfoldable pub attributes_of : List DraftEntry → List AttributeDraft
attributes_of es = filter_map attribute_of es

abbrev pub attribute_named : List AttributeDraft → List ℕ → Option AttributeDraft
attribute_named ds name = first_named (λ d. d.name) ds name

-- ---- all of them

abbrev pub tables_with : List DraftEntry → List PredicateDraft → List Bool → List ConstraintDraft →
    Tables
tables_with es ps accepted ks = record {
  predicates = ps;
  accepted = accepted;
  constraint_names = map (λ k. k.name) ks;
  constraints = ks;
  attributes = attributes_of es;
}

-- as many rounds as there are forms
unfoldable pub tables_of : List DraftEntry → Tables
tables_of es =
    let ps = predicates_of es in
    let accepted = accepted_within (length es) ps in
    tables_with es ps accepted (constraints_of (is_known ps accepted) es)

-- In the patterns of the forms of a description, a placeholder of an operand has no parts.
use Rattle.std.proofs.Common.{◌≡◌, ℕ, zero, suc, ◌==◌, if◌then◌else◌, Bool, true, false, List, [], ◌∷◌, map, length, Option, Some, None, Result, Ok, Err, refl, sym, ap, subst, ◌∙◌}
use Rattle.std.proofs.lemmas.Bool.{and_parts, and_from}
use Rattle.std.specs.List.{AllByRecursion, list_all}
use Rattle.std.specs.Option.{option_map_or}
use Rattle.std.specs.Prelude.{pos, slice_get}
use Rattle.rtx_tree.specs.Tree.{node_of}
use Rattle.rtx_tree.specs.declared.code.Code.TheVariants.{Parallel}
use Rattle.rtx_tree.specs.declared.code.Mode.TheVariants.{Void}
use Rattle.rtx_tree.specs.declared.constants.Constant.{Constant}
use Rattle.rtx_tree.specs.declared.tree.Rtx.{Rtx}
use Rattle.rtl_func.proofs.AllPass.{all_pass}
use Rattle.lisp_read.specs.Shape.{vector_of, items_of}
use Rattle.lisp_read.specs.declared.tree.Tree.{Tree}
use Rattle.md_iter.specs.declared.substitution.Instance.{Instance}
use Rattle.md_compact.specs.declared.block.Block.{Block}
use Rattle.md_pattern.specs.declared.pattern.Patterns.{Patterns}
use Rattle.md_pattern.specs.declared.reason.Reason.{Reason}
use Rattle.md_pattern.specs.declared.reason.Reason.TheVariants as reason
use Rattle.md_pattern.specs.Reason.{both, judged_map}
use Rattle.md_pattern.specs.Pattern.{patterns_of}
use Rattle.md_draft.specs.declared.head.FormHead.{FormHead}
use Rattle.md_draft.specs.declared.head.FormHead.TheVariants as head
use Rattle.md_draft.specs.declared.draft.Matched.{Matched}
use Rattle.md_draft.specs.declared.draft.Replacement.{Replacement}
use Rattle.md_draft.specs.declared.draft.Draft.{Draft}
use Rattle.md_draft.specs.declared.draft.DraftEntry.{DraftEntry}
use Rattle.md_draft.specs.Compact.{old_draft}
use Rattle.md_draft.specs.Head.{head_named}
use Rattle.md_draft.specs.Layout.{layout_of, part_at, is_whole}
use Rattle.md_draft.specs.Patterns.{one_instruction, as_one, insn_patterns, window_patterns, is_window}
use Rattle.md_draft.specs.Patterns as patterns
use Rattle.md_draft.specs.Draft.{matched_with, matched_in, replacement_in, printed_in, defined_in, draft_with, block_in, without, parts_draft, whole_draft, draft_in, draft_by, headed, head_in, entry_by, condition_in}
use Rattle.md_forms.specs.declared.form.Entry.{Entry}
use Rattle.md_forms.specs.declared.form.Form.{Form}
use Rattle.md_forms.specs.md_tables.declared.tables.Tables.{Tables}
use Rattle.md_forms.specs.Checks.{unless, form_with, constraints_of, reason_of, form_of}
use Rattle.md_forms.specs.Forms.{judged_form, finished, forms_in, draft_entry, forms_of}
use Rattle.md_forms.specs.md_tables.Tables.{tables_of}
use Rattle.law_reload_moves.specs.law_operands_replaced.Places.{is_leaf}
use Rattle.reload.specs.Reload.{patterns_by, patterns_in, patterns_at}
use Rattle.law_reload.proofs.PatternLeaves.{OnOk, on_map, on_both, Any, any_read, HasLeaves, HaveLeaves, tree_leaf, PatternsLeaves, patterns_leaves}

as_one_leaves : (xs : List Rtx) → HaveLeaves xs → HaveLeaves (as_one xs)
as_one_leaves [] all = refl
as_one_leaves (x ∷ []) all = all
as_one_leaves (x ∷ y ∷ more) all =
    and_from (all_pass is_leaf (node_of Parallel Void (x ∷ y ∷ more))) true
    (tree_leaf (record { code = Parallel; mode = Void; number = pos 0; name = [] }) (x ∷ y ∷ more)
    refl all)
    refl

abbrev MatchedLeaves : Matched → Type 0
MatchedLeaves m = HaveLeaves m.patterns.trees

abbrev DraftLeaves : Draft → Type 0
DraftLeaves d = MatchedLeaves d.matched

-- a block leaves the patterns as they are
without_leaves : (block : Option Block) (d : Draft) → DraftLeaves d → DraftLeaves (without block d)
unfolding old_draft
without_leaves None d is = is
without_leaves (Some block) d is = is

module _ (constants : List Constant) where
  -- ---- the patterns of a form

  insn_by : (b : Bool) (t : Tree) →
      OnOk PatternsLeaves (if b then Err reason.Parts else judged_map one_instruction
      (patterns_of constants t))
  insn_by true t = tt
  insn_by false t = on_map PatternsLeaves PatternsLeaves one_instruction
      (λ ps is. as_one_leaves ps.trees is)
      (patterns_of constants t) (patterns_leaves constants t)

  insn_leaves : (t : Tree) → OnOk PatternsLeaves (insn_patterns constants t)
  unfolding insn_patterns
  insn_leaves t = insn_by (length (vector_of t) == 0) t

  window_by : (b : Bool) (t : Tree) → OnOk PatternsLeaves
      (if b then patterns_of constants t else Err reason.Parts)
  window_by true t = patterns_leaves constants t
  window_by false t = tt

  window_leaves : (t : Tree) → OnOk PatternsLeaves (window_patterns constants t)
  unfolding window_patterns
  window_leaves t = window_by (is_window (vector_of t)) t

  by_head : (h : FormHead) (t : Tree) → OnOk PatternsLeaves (patterns.patterns_by constants h t)
  by_head head.Expand t = patterns_leaves constants t
  by_head head.Peephole2 t = window_leaves t
  by_head _ t = insn_leaves t

  there : (h : FormHead) (o : Option Tree) → OnOk PatternsLeaves
      (patterns.patterns_in constants h o)
  unfolding patterns.patterns_in
  there h None = refl
  there h (Some t) = by_head h t

  -- ---- its draft

  module _ (values : List (List ℕ)) where
    matched_leaves : (h : FormHead) (ts : List Tree) → OnOk MatchedLeaves
        (matched_in constants values h ts)
    unfolding matched_in
    matched_leaves h ts =
        let ps = patterns.patterns_in constants h (part_at ts (layout_of h).patterns) in
        let c = condition_in constants values h ts in
        on_map (λ x. PatternsLeaves x.0 × Any x.1) MatchedLeaves
        (λ pair. matched_with pair.0 pair.1) (λ pair is. is.0)
        (both ps c) (on_both PatternsLeaves Any ps c (there h (part_at ts (layout_of h).patterns))
        (any_read c))

    parts_leaves : (block : Option Block) (h : FormHead) (ts : List Tree) → OnOk DraftLeaves
        (parts_draft block constants values h ts)
    unfolding parts_draft
    parts_leaves block h ts =
        let m = matched_in constants values h ts in
        let k = replacement_in constants values h ts in
        let rest = both (printed_in block h ts) (defined_in constants h ts) in
        on_map (λ x. (MatchedLeaves x.0.0 × Any x.0.1) × Any x.1) DraftLeaves
        (λ pair. draft_with h pair.0 pair.1)
        (λ pair is. is.0.0) (both (both m k) rest)
        (on_both (λ (x : Matched × Replacement). MatchedLeaves x.0 × Any x.1) Any (both m k) rest
        (on_both MatchedLeaves Any m k (matched_leaves h ts) (any_read k)) (any_read rest))

    whole_leaves : (h : FormHead) (ts : List Tree) → OnOk DraftLeaves
        (whole_draft constants values h ts)
    unfolding whole_draft
    whole_leaves h ts =
        let block = block_in h ts in
        on_map DraftLeaves DraftLeaves (without block) (λ d is. without_leaves block d is)
        (parts_draft block constants values h ts) (parts_leaves block h ts)

    draft_if : (b : Bool) (h : FormHead) (ts : List Tree) →
        OnOk DraftLeaves (if b then whole_draft constants values h ts else Err reason.Parts)
    draft_if true h ts = whole_leaves h ts
    draft_if false h ts = tt

    draft_leaves : (h : FormHead) (ts : List Tree) → OnOk DraftLeaves
        (draft_in constants values h ts)
    unfolding draft_in
    draft_leaves h ts = draft_if (is_whole (layout_of h) ts) h ts

    draft_by_leaves : (o : Option FormHead) (ts : List Tree) →
        OnOk DraftLeaves (draft_by constants values o ts)
    draft_by_leaves None ts = tt
    draft_by_leaves (Some h) ts = draft_leaves h ts

    headed_leaves : (text : List ℕ) (t : Tree) → OnOk DraftLeaves
        (headed constants values text t).draft
    unfolding headed
    headed_leaves text t = draft_by_leaves (head_named text) (items_of t)

    entry_leaves : (o : Option (List ℕ)) (t : Tree) →
        OnOk DraftLeaves (entry_by constants values o t).draft
    entry_leaves None t = tt
    entry_leaves (Some text) t = headed_leaves text t

-- ---- forms

abbrev FormLeaves : Form → Type 0
FormLeaves f = HaveLeaves f.patterns

abbrev EntryLeaves : Entry → Type 0
EntryLeaves e = OnOk FormLeaves e.form

unless_leaves : (o : Option Reason) (f : Form) → FormLeaves f → OnOk FormLeaves (unless o f)
unless_leaves None f is = is
unless_leaves (Some r) f is = tt

form_leaves : (tables : Tables) (d : Draft) → DraftLeaves d → OnOk FormLeaves (form_of tables d)
unfolding form_of
form_leaves tables d is = unless_leaves (reason_of tables d) (form_with d (constraints_of tables d))
    is

judged_leaves : (tables : Tables) (r : Result Draft Reason) → OnOk DraftLeaves r →
    OnOk FormLeaves (judged_form tables r)
judged_leaves tables (Ok d) is = form_leaves tables d is
judged_leaves tables (Err r) is = tt

all_leaves : (tables : Tables) (es : List DraftEntry) → AllByRecursion
    (λ (e : DraftEntry). OnOk DraftLeaves e.draft) es →
    AllByRecursion EntryLeaves (map (finished tables) es)
all_leaves tables [] all = tt
all_leaves tables (e ∷ es) all = (judged_leaves tables e.draft all.0, all_leaves tables es all.1)

drafts_leaves : (constants : List Constant) (forms : List Instance) →
    AllByRecursion (λ (e : DraftEntry). OnOk DraftLeaves e.draft)
    (map (draft_entry constants) forms)
drafts_leaves constants [] = tt
drafts_leaves constants (f ∷ forms) = (
  entry_leaves constants f.conditions (head_in (items_of f.tree)) f.tree,
  drafts_leaves constants forms,
)

by_form : (e : Entry) → EntryLeaves e → HaveLeaves (patterns_in e)
by_form e is = by e.form is
  where
    by : (r : Result Form Reason) → OnOk FormLeaves r → HaveLeaves (patterns_by r)
    by (Ok f) is = is
    by (Err r) is = refl

at_form : (es : List Entry) → AllByRecursion EntryLeaves es → (k : ℕ) →
    HaveLeaves (option_map_or patterns_in (slice_get es k) [])
at_form [] all k = refl
at_form (e ∷ es) all zero = by_form e all.0
at_form (e ∷ es) all (suc k) = at_form es all.1 k

-- the pattern of a form of a description
pub forms_leaves : (constants : List Constant) (forms : List Instance) (form : ℕ) (pattern : Rtx) →
    patterns_at (forms_of constants forms) form ≡ pattern ∷ [] → HasLeaves pattern
forms_leaves constants forms form pattern is =
    let es = map (draft_entry constants) forms in
    let all = at_form (forms_in es) (all_leaves (tables_of es) es (drafts_leaves constants forms))
    form in
    (and_parts (all_pass is_leaf pattern) true (sym (ap (list_all (all_pass is_leaf)) is) ∙ all)).0

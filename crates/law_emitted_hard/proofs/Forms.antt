-- The patterns of the forms of a description, and the sequences that these make, name registers of the machine alone.
use Rattle.std.proofs.Common.{ℕ, zero, suc, ◌==◌, if◌then◌else◌, Bool, true, false, List, [], ◌∷◌, map, length, Option, Some, None, Result, Ok, Err}
use Rattle.std.specs.List.{AllByRecursion}
use Rattle.std.specs.Prelude.{slice_get, option_and_then}
use Rattle.rtx_tree.specs.declared.code.Code.TheVariants.{Parallel}
use Rattle.rtx_tree.specs.declared.code.Mode.TheVariants.{Void}
use Rattle.rtx_tree.specs.declared.constants.Constant.{Constant}
use Rattle.rtx_tree.specs.declared.tree.Rtx.{Rtx}
use Rattle.lisp_read.specs.Shape.{vector_of, items_of}
use Rattle.lisp_read.specs.declared.tree.Tree.{Tree}
use Rattle.c_cond.specs.declared.tree.Tree as cond
use Rattle.md_iter.specs.declared.substitution.Instance.{Instance}
use Rattle.md_compact.specs.declared.block.Block.{Block}
use Rattle.md_pattern.specs.declared.pattern.Patterns.{Patterns}
use Rattle.md_pattern.specs.declared.reason.Reason.{Reason}
use Rattle.md_pattern.specs.declared.reason.Reason.TheVariants as reason
use Rattle.md_pattern.specs.Reason.{both, judged_map}
use Rattle.md_pattern.specs.Pattern.{patterns_of}
use Rattle.md_draft.specs.declared.head.FormHead.{FormHead}
use Rattle.md_draft.specs.declared.head.FormHead.TheVariants as head
use Rattle.md_draft.specs.declared.draft.Matched.{Matched}
use Rattle.md_draft.specs.declared.draft.Replacement.{Replacement}
use Rattle.md_draft.specs.declared.draft.Draft.{Draft}
use Rattle.md_draft.specs.declared.draft.DraftEntry.{DraftEntry}
use Rattle.md_draft.specs.Compact.{old_draft}
use Rattle.md_draft.specs.Head.{head_named}
use Rattle.md_draft.specs.Layout.{layout_of, part_at, is_whole}
use Rattle.md_draft.specs.Patterns.{one_instruction, as_one, insn_patterns, window_patterns, is_window}
use Rattle.md_draft.specs.Patterns as patterns
use Rattle.md_draft.specs.Draft.{matched_with, matched_in, replacement_with, replacement_in, split_condition_in, statements_in, printed_in, defined_in, draft_with, block_in, without, parts_draft, whole_draft, draft_in, draft_by, headed, head_in, entry_by, condition_in}
use Rattle.md_forms.specs.declared.form.Entry.{Entry}
use Rattle.md_forms.specs.declared.form.Form.{Form}
use Rattle.md_forms.specs.md_tables.declared.tables.Tables.{Tables}
use Rattle.md_forms.specs.md_tables.Tables.{tables_of}
use Rattle.md_forms.specs.Checks.{unless, form_with, constraints_of, reason_of, form_of}
use Rattle.md_forms.specs.Forms.{judged_form, finished, forms_in, draft_entry, forms_of}
use Rattle.md_emit.specs.Emitted.{says_of, says_at}
use Rattle.law_emitted_hard.specs.Hard.{AreHard, OnSome}
use Rattle.law_emitted_hard.proofs.Trees.{node_hard}
use Rattle.law_emitted_hard.proofs.Patterns.{OnOk, on_map, on_both, Any, any_read, PatternsHard, patterns_hard}

as_one_hard : (xs : List Rtx) → AreHard xs → AreHard (as_one xs)
as_one_hard [] all = tt
as_one_hard (x ∷ []) all = all
as_one_hard (x ∷ y ∷ more) all = (node_hard Parallel Void (x ∷ y ∷ more) all, tt)

abbrev MatchedHard : Matched → Type 0
MatchedHard m = PatternsHard m.patterns

abbrev MadeHard : Replacement → Type 0
MadeHard m = PatternsHard m.sequence

abbrev DraftHard : Draft → Type 0
DraftHard d = MatchedHard d.matched × MadeHard d.replacement

-- a block leaves the patterns as they are
without_hard : (block : Option Block) (d : Draft) → DraftHard d → DraftHard (without block d)
unfolding old_draft
without_hard None d is = is
without_hard (Some block) d is = (is.0, is.1)

module _ (constants : List Constant) where
  -- ---- the patterns of a form

  insn_by : (b : Bool) (t : Tree) → OnOk PatternsHard (if b then Err reason.Parts else judged_map one_instruction (patterns_of constants t))
  insn_by true t = tt
  insn_by false t = on_map PatternsHard PatternsHard one_instruction (λ ps is. as_one_hard ps.trees is)
      (patterns_of constants t) (patterns_hard constants t)

  insn_hard : (t : Tree) → OnOk PatternsHard (insn_patterns constants t)
  unfolding insn_patterns
  insn_hard t = insn_by (length (vector_of t) == 0) t

  window_by : (b : Bool) (t : Tree) → OnOk PatternsHard (if b then patterns_of constants t else Err reason.Parts)
  window_by true t = patterns_hard constants t
  window_by false t = tt

  window_hard : (t : Tree) → OnOk PatternsHard (window_patterns constants t)
  unfolding window_patterns
  window_hard t = window_by (is_window (vector_of t)) t

  by_head : (h : FormHead) (t : Tree) → OnOk PatternsHard (patterns.patterns_by constants h t)
  by_head head.Expand t = patterns_hard constants t
  by_head head.Peephole2 t = window_hard t
  by_head _ t = insn_hard t

  matched_there : (h : FormHead) (o : Option Tree) → OnOk PatternsHard (patterns.patterns_in constants h o)
  unfolding patterns.patterns_in
  matched_there h None = tt
  matched_there h (Some t) = by_head h t

  made_there : (o : Option Tree) → OnOk PatternsHard (patterns.sequence_in constants o)
  unfolding patterns.sequence_in
  made_there None = tt
  made_there (Some t) = patterns_hard constants t

  -- ---- its draft

  module _ (values : List (List ℕ)) where
    matched_hard : (h : FormHead) (ts : List Tree) → OnOk MatchedHard (matched_in constants values h ts)
    unfolding matched_in
    matched_hard h ts =
        let ps = patterns.patterns_in constants h (part_at ts (layout_of h).patterns) in
        let c = condition_in constants values h ts in
        on_map (λ x. PatternsHard x.0 × Any x.1) MatchedHard (λ pair. matched_with pair.0 pair.1) (λ pair is. is.0)
        (both ps c) (on_both PatternsHard Any ps c (matched_there h (part_at ts (layout_of h).patterns)) (any_read c))

    made_hard : (h : FormHead) (ts : List Tree) → OnOk MadeHard (replacement_in constants values h ts)
    unfolding replacement_in
    made_hard h ts =
        let c = split_condition_in constants values h ts in
        let ps = patterns.sequence_in constants (part_at ts (layout_of h).sequence) in
        let s = statements_in constants h ts in
        on_map (λ (x : cond.Tree × (Patterns × cond.Tree)). Any x.0 × (PatternsHard x.1.0 × Any x.1.1)) MadeHard
        (λ pair. replacement_with pair.0 pair.1) (λ pair is. is.1.0) (both c (both ps s))
        (on_both Any (λ (x : Patterns × cond.Tree). PatternsHard x.0 × Any x.1) c (both ps s) (any_read c)
        (on_both PatternsHard Any ps s (made_there (part_at ts (layout_of h).sequence)) (any_read s)))

    parts_hard : (block : Option Block) (h : FormHead) (ts : List Tree) → OnOk DraftHard (parts_draft block constants values h ts)
    unfolding parts_draft
    parts_hard block h ts =
        let m = matched_in constants values h ts in
        let k = replacement_in constants values h ts in
        let rest = both (printed_in block h ts) (defined_in constants h ts) in
        on_map (λ x. (MatchedHard x.0.0 × MadeHard x.0.1) × Any x.1) DraftHard
        (λ pair. draft_with h pair.0 pair.1) (λ pair is. is.0) (both (both m k) rest)
        (on_both (λ (x : Matched × Replacement). MatchedHard x.0 × MadeHard x.1) Any (both m k) rest
        (on_both MatchedHard MadeHard m k (matched_hard h ts) (made_hard h ts)) (any_read rest))

    whole_hard : (h : FormHead) (ts : List Tree) → OnOk DraftHard (whole_draft constants values h ts)
    unfolding whole_draft
    whole_hard h ts =
        let block = block_in h ts in
        on_map DraftHard DraftHard (without block) (λ d is. without_hard block d is)
        (parts_draft block constants values h ts) (parts_hard block h ts)

    draft_if : (b : Bool) (h : FormHead) (ts : List Tree) → OnOk DraftHard (if b then whole_draft constants values h ts else Err reason.Parts)
    draft_if true h ts = whole_hard h ts
    draft_if false h ts = tt

    draft_hard : (h : FormHead) (ts : List Tree) → OnOk DraftHard (draft_in constants values h ts)
    unfolding draft_in
    draft_hard h ts = draft_if (is_whole (layout_of h) ts) h ts

    draft_by_hard : (o : Option FormHead) (ts : List Tree) → OnOk DraftHard (draft_by constants values o ts)
    draft_by_hard None ts = tt
    draft_by_hard (Some h) ts = draft_hard h ts

    headed_hard : (text : List ℕ) (t : Tree) → OnOk DraftHard (headed constants values text t).draft
    unfolding headed
    headed_hard text t = draft_by_hard (head_named text) (items_of t)

    entry_hard : (o : Option (List ℕ)) (t : Tree) → OnOk DraftHard (entry_by constants values o t).draft
    entry_hard None t = tt
    entry_hard (Some text) t = headed_hard text t

-- ---- forms

abbrev pub FormHard : Form → Type 0
FormHard f = AreHard f.patterns × AreHard f.sequence

abbrev EntryHard : Entry → Type 0
EntryHard e = OnOk FormHard e.form

unless_hard : (o : Option Reason) (f : Form) → FormHard f → OnOk FormHard (unless o f)
unless_hard None f is = is
unless_hard (Some r) f is = tt

form_hard : (tables : Tables) (d : Draft) → DraftHard d → OnOk FormHard (form_of tables d)
unfolding form_of
form_hard tables d is = unless_hard (reason_of tables d) (form_with d (constraints_of tables d)) (is.0, is.1)

judged_hard : (tables : Tables) (r : Result Draft Reason) → OnOk DraftHard r → OnOk FormHard (judged_form tables r)
judged_hard tables (Ok d) is = form_hard tables d is
judged_hard tables (Err r) is = tt

all_hard : (tables : Tables) (es : List DraftEntry) → AllByRecursion (λ (e : DraftEntry). OnOk DraftHard e.draft) es →
    AllByRecursion EntryHard (map (finished tables) es)
all_hard tables [] all = tt
all_hard tables (e ∷ es) all = (judged_hard tables e.draft all.0, all_hard tables es all.1)

drafts_hard : (constants : List Constant) (forms : List Instance) →
    AllByRecursion (λ (e : DraftEntry). OnOk DraftHard e.draft) (map (draft_entry constants) forms)
drafts_hard constants [] = tt
drafts_hard constants (f ∷ forms) = (
  entry_hard constants f.conditions (head_in (items_of f.tree)) f.tree,
  drafts_hard constants forms,
)

says_hard : (r : Result Form Reason) → OnOk FormHard r → OnSome FormHard (says_of r)
says_hard (Ok f) is = is
says_hard (Err r) is = tt

at_hard : (es : List Entry) → AllByRecursion EntryHard es → (k : ℕ) → OnSome FormHard (option_and_then (λ e. says_of e.form) (slice_get es k))
at_hard [] all k = tt
at_hard (e ∷ es) all zero = says_hard e.form all.0
at_hard (e ∷ es) all (suc k) = at_hard es all.1 k

-- what a form of a description says
pub forms_hard : (constants : List Constant) (forms : List Instance) (form : ℕ) → OnSome FormHard (says_at (forms_of constants forms) form)
forms_hard constants forms form =
    let es = map (draft_entry constants) forms in
    at_hard (forms_in es) (all_hard (tables_of es) es (drafts_hard constants forms)) form

-- What a form emits that makes two new registers: its three patterns, with these as operands 4 and 5.
use Rattle.std.proofs.Common.{◌≡◌, ℕ, ◌+◌, Bool, true, ◌&&◌, List, [], ◌∷◌, ◌++◌, Option, Some, None, Ok, refl, ap, ◌∙◌}
use Rattle.std.specs.Prelude.{if◌then◌else◌, slice_get, option_map, option_and_then}
use Rattle.std.specs.Option.{option_map_or}
use Rattle.rtx_tree.specs.declared.code.Mode.{Mode}
use Rattle.rtx_tree.specs.declared.code.Mode.TheVariants.{DI}
use Rattle.rtx_tree.specs.declared.tree.Rtx.{Rtx}
use Rattle.rtl_func.specs.Calls.{has_argument}
use Rattle.rtl_func.proofs.AllPass.{all_pass}
use Rattle.c_cond.specs.c_words.declared.head.Call.TheVariants as call
use Rattle.c_cond.specs.c_words.declared.head.CondHead.TheVariants as head
use Rattle.c_cond.specs.declared.tree.Tree.{out-roll-Tree}
use Rattle.md_match.specs.Pattern.{Ops, all_some, instantiated}
use Rattle.md_recog.specs.Match.{Accepts}
use Rattle.md_draft.specs.declared.head.FormHead.TheVariants as form
use Rattle.md_forms.specs.declared.form.Entry.{Entry}
use Rattle.md_forms.specs.declared.form.Form.{Form}
use Rattle.md_pred.specs.Holds.{holds}
use Rattle.md_emit.specs.Emitted.{says_of, says_at}
use Rattle.gen_emit.specs.declared.draft.Draft.{Draft}
use Rattle.gen_emit.specs.declared.draft.Ended.{Ended}
use Rattle.gen_emit.specs.declared.draft.Ended.TheVariants.{Through}
use Rattle.gen_emit.specs.declared.emission.Emission.{Emission}
use Rattle.gen_emit.specs.Values.{Made, draft, fresh, assigned}
use Rattle.gen_emit.specs.Statements.{Meaning, meaning, meaning_step, mode_in, and_then}
use Rattle.gen_emit.specs.Emission.{emission, emitted, finished, patterns_of}
use Rattle.form_needs.specs.Needs.{lower_facts}
use Rattle.lower_insn.specs.Plan.{emission_of, if_kept, patterns_at, patterns_by}
use Rattle.plain_forms.specs.Conditions as condition
use Rattle.plain_forms.specs.Makers.{bare, expand}
use Rattle.plain_forms.specs.Forms.{plain_forms}
use Rattle.rtx_open.proofs.Expressions.{Written, rtx}
use Rattle.rtx_open.proofs.Conditions as conditions
use Rattle.law_plain_matches.proofs.Patterns.{filled, filled_is}
use Rattle.law_plain_matched.proofs.Found.{listed}
use Rattle.law_plain_planned.specs.Planned.{new}
use Rattle.law_plain_planned.proofs.Named as named
use Rattle.law_plain_planned.proofs.Registers.{Lawful}

-- ---- the statements, written out

abbrev makes : ℕ → conditions.Written
makes k =
    conditions.node (head.Assign k) (conditions.with (conditions.node (head.Call call.GenReg) (conditions.with (conditions.node (head.Mode DI) conditions.none) conditions.none)) conditions.none)

abbrev behind : conditions.Written → conditions.Written → conditions.Written
behind s t = conditions.node head.Then (conditions.with s (conditions.with t conditions.none))

abbrev written : conditions.Written
written = behind (makes 4) (behind (makes 5) (conditions.node head.Nothing conditions.none))

-- ---- what they do

-- four operands, and two new registers behind them
abbrev pub operands_of : Rtx → Rtx → Rtx → Rtx → Ops
operands_of a b c d = Some a ∷ Some b ∷ Some c ∷ Some d ∷ []

abbrev pub with_new : Rtx → Rtx → Rtx → Rtx → ℕ → Ops
with_new a b c d next = Some a ∷ Some b ∷ Some c ∷ Some d ∷ Some (new DI next) ∷ Some (new DI (next + 1)) ∷ []

module _ (accepts : Accepts) (a b c d : Rtx) (next : ℕ) where
  abbrev start : Draft
  start = draft (operands_of a b c d) next

  abbrev made_by : ℕ → Option Mode → Draft → Option Ended
  made_by k o from = option_map (λ (y : Made). Through (assigned k y.value y.draft)) (option_and_then (λ mode. fresh true mode from) o)

  abbrev runs : Option Mode → Option Ended
  runs o = option_and_then (and_then (λ e. option_and_then (and_then (λ f. Some (Through f))) (made_by 5 o e))) (made_by 4 o start)

  abbrev after : Draft
  after = record { operands = with_new a b c d next; moves = []; next = next + 1 + 1 }

  ran : (meaning lower_facts accepts condition.makes_registers).run start ≡ Some (Through after)
  unfolding meaning
  ran =
      ap (λ (x : Meaning). x.run start) (conditions.gathers (meaning_step lower_facts accepts) written) ∙
      ap (λ o. runs (mode_in o.head)) (out-roll-Tree (record { head = head.Mode DI; parts = [] }))

-- ---- what is emitted

module _ (k : ℕ) (name : List ℕ) (p q s : Written) (at : slice_get listed k ≡ Some (expand name (rtx p ∷ rtx q ∷ rtx s ∷ []) condition.makes_registers)) where
  abbrev all : List Rtx
  all = rtx p ∷ rtx q ∷ rtx s ∷ []

  abbrev f : Form
  f = record (bare form.Expand) { patterns = all; statements = condition.makes_registers }

  says_it : says_at plain_forms k ≡ Some f
  says_it = named.says k f (ap (λ (o : Option Entry). option_and_then (λ (e : Entry). says_of e.form) o) at)

  pub three_patterns : patterns_at plain_forms k ≡ rtx p ∷ rtx q ∷ rtx s ∷ []
  three_patterns = named.patterns k all (ap (λ (o : Option Entry). option_map_or (λ (e : Entry). patterns_by e.form) o []) at)

  module _ (a b c d : Rtx) (next : ℕ) (x y z : Rtx) where
    abbrev ops : Ops
    ops = with_new a b c d next

    abbrev kept : List (Option Rtx) → Option Emission
    kept os = option_and_then if_kept (option_map (λ (insns : List Rtx). emission ([] ++ insns) (next + 1 + 1)) (all_some os))

    abbrev ended : Emission
    ended = emission (x ∷ y ∷ z ∷ []) (next + 1 + 1)

    abbrev passes : Rtx → Bool
    passes = all_pass has_argument

    pub emits_three : filled (with_new a b c d next) p ≡ Some x → filled (with_new a b c d next) q ≡ Some y → filled (with_new a b c d next) s ≡ Some z → Lawful x → Lawful y → Lawful z →
        emission_of plain_forms k (operands_of a b c d) next ≡ Some (emission (x ∷ y ∷ z ∷ []) (next + 1 + 1))
    emits_three one two three first second third =
        ap (λ (o : Option Form). option_and_then if_kept (option_and_then (λ (says : Form). emitted (holds plain_forms) lower_facts says (operands_of a b c d) next) o)) says_it ∙
        (ap (λ (o : Option Ended). option_and_then if_kept (option_and_then (finished (patterns_of f)) o)) (ran (holds plain_forms) a b c d next) ∙
        (ap (λ (o : Option Rtx). kept (o ∷ instantiated (rtx q) ops ∷ instantiated (rtx s) ops ∷ [])) (filled_is ops p ∙ one) ∙
        (ap (λ (o : Option Rtx). kept (Some x ∷ o ∷ instantiated (rtx s) ops ∷ [])) (filled_is ops q ∙ two) ∙
        (ap (λ (o : Option Rtx). kept (Some x ∷ Some y ∷ o ∷ [])) (filled_is ops s ∙ three) ∙
        (ap (λ b. if (b && true) && ((passes y && true) && ((passes z && true) && true)) then Some ended else None) first ∙
        (ap (λ b. if (b && true) && ((passes z && true) && true) then Some ended else None) second ∙ ap (λ b. if (b && true) && true then Some ended else None) third))))))

-- What a move's form emits where memory is set to a constant: a new register is set to the constant first.
use Rattle.std.proofs.Common.{◌≡◌, ℕ, ◌+◌, pos, Bool, true, false, not, ◌&&◌, List, [], ◌∷◌, ◌++◌, codes, Option, Some, None, Ok, refl, sym, ap, ◌∙◌}
use Rattle.std.specs.Prelude.{ℤ, if◌then◌else◌, slice_get, option_map, option_and_then}
use Rattle.std.specs.Option.{option_map_or}
use Rattle.rtx_tree.specs.declared.code.Mode.{Mode}
use Rattle.rtx_tree.specs.declared.tree.Rtx.{Rtx}
use Rattle.rtx_tree.specs.Operands.{operand_at}
use Rattle.rtx_tree.specs.Patterns.{set_rtx}
use Rattle.rtx_tree.specs.Tree.{head_of}
use Rattle.rtl_func.specs.Calls.{has_argument}
use Rattle.rtl_func.proofs.AllPass.{all_pass}
use Rattle.c_cond.specs.c_words.declared.head.Binary.TheVariants as op
use Rattle.c_cond.specs.c_words.declared.head.Unary.TheVariants.{Not}
use Rattle.c_cond.specs.c_words.declared.head.Call.TheVariants as call
use Rattle.c_cond.specs.c_words.declared.head.CondHead.TheVariants as head
use Rattle.c_cond.specs.declared.tree.Tree.{Tree, out-Tree, out-roll-Tree}
use Rattle.c_eval.specs.Numbers.{is_zero, truth, joined}
use Rattle.c_eval.specs.Value.{number_of, read_by, setting, as_reading}
use Rattle.c_eval.specs.declared.facts.Facts.{Facts}
use Rattle.md_match.specs.Pattern.{Ops, all_some}
use Rattle.md_recog.specs.Match.{Accepts}
use Rattle.md_draft.specs.declared.head.FormHead.TheVariants as form
use Rattle.md_forms.specs.declared.form.Entry.{Entry}
use Rattle.md_forms.specs.declared.form.Form.{Form}
use Rattle.md_pred.specs.Holds.{holds}
use Rattle.md_emit.specs.Emitted.{says_of, says_at}
use Rattle.gen_emit.specs.declared.draft.Draft.{Draft}
use Rattle.gen_emit.specs.declared.draft.Ended.{Ended}
use Rattle.gen_emit.specs.declared.draft.Ended.TheVariants.{Through}
use Rattle.gen_emit.specs.Values.{Made, draft, made, forced, kept, fresh, assigned, moved, is_register}
use Rattle.gen_emit.specs.Statements.{Meaning, meaning, meaning_step, mode_in, number_in, made_in, chosen, and_then}
use Rattle.gen_emit.specs.Emission.{emission, emitted, finished, patterns_of}
use Rattle.form_needs.specs.Needs.{lower_facts}
use Rattle.lower_insn.specs.Plan.{emission_of, if_kept, patterns_at, patterns_by}
use Rattle.plain_forms.specs.Conditions as condition
use Rattle.plain_forms.specs.Makers.{bare}
use Rattle.plain_forms.specs.Forms as plain
use Rattle.plain_forms.specs.Forms.{plain_forms}
use Rattle.rtx_open.proofs.Expressions.{Written, rtx}
use Rattle.rtx_open.proofs.Conditions as conditions
use Rattle.law_plain_matches.proofs.Patterns.{operand, filled, filled_is}
use Rattle.law_plain_matches.proofs.Sets.{set_of}
use Rattle.law_plain_matched.proofs.Found.{listed}
use Rattle.law_plain_planned.specs.Planned.{new}
use Rattle.law_plain_planned.proofs.Named as named
use Rattle.law_plain_planned.proofs.Registers.{Lawful}

-- ---- the statement, written out

abbrev leaf_written : Mode → conditions.Written
leaf_written m = conditions.node (head.Mode m) conditions.none

abbrev asks : List ℕ → ℕ → Mode → conditions.Written
asks name k m =
    conditions.node (head.Unary Not) (conditions.with (conditions.node (head.Predicate name) (conditions.with (conditions.node (head.Operand k) conditions.none) (conditions.with (leaf_written m) conditions.none))) conditions.none)

abbrev tested : Mode → conditions.Written
tested m = conditions.node (head.Binary op.And) (conditions.with (asks (codes "register_operand") 0 m) (conditions.with (asks (codes "reg_or_0_operand") 1 m) conditions.none))

abbrev assigns : Mode → conditions.Written
assigns m =
    conditions.node (head.Assign 1) (conditions.with (conditions.node (head.Call call.ForceReg) (conditions.with (leaf_written m) (conditions.with (conditions.node (head.Operand 1) conditions.none) conditions.none))) conditions.none)

abbrev written : Mode → conditions.Written
written m =
    conditions.node head.Then (conditions.with (conditions.node head.If (conditions.with (tested m) (conditions.with (assigns m) conditions.none))) (conditions.with (conditions.node head.Nothing conditions.none) conditions.none))

-- ---- what it does

module _ (accepts : Accepts) (m : Mode) (place c : Rtx) (next : ℕ) where
  abbrev start : Draft
  start = draft (Some place ∷ Some c ∷ []) next

  abbrev worth : Bool → Bool → Option ℤ
  worth p q = number_of (as_reading (joined op.And (number_of (as_reading (Some (truth (is_zero (truth p)))))) (number_of (as_reading (Some (truth (is_zero (truth q))))))))

  asked_is : number_in lower_facts accepts (conditions.condition (tested m)) start ≡ worth (accepts (codes "register_operand") place m) (accepts (codes "reg_or_0_operand") c m)
  asked_is = ap number_of (conditions.reads (read_by (setting lower_facts (Some place ∷ Some c ∷ []) accepts)) (tested m))

  abbrev assigned_by : Option Mode → Draft → Option Ended
  assigned_by o d = option_map (λ (y : Made). Through (assigned 1 y.value y.draft)) (made_in (forced true) o (option_map (λ x. made x d) (operand_at d.operands 1)))

  abbrev runs : Option Mode → Option ℤ → Option Ended
  runs o n = option_and_then (and_then (λ d. Some (Through d))) (chosen (assigned_by o) (λ same. Some (Through same)) start n)

  abbrev after : Draft
  after = record { operands = Some place ∷ Some (new m next) ∷ []; moves = set_rtx (new m next) c ∷ []; next = next + 1 }

  abbrev forced_by : Bool → Option Made
  forced_by b = if b then Some (made c start) else option_map (kept c) (fresh true m start)

  ran : accepts (codes "register_operand") place m ≡ false → accepts (codes "reg_or_0_operand") c m ≡ false → is_register c ≡ false → (meaning lower_facts accepts (condition.forces m)).run start ≡ Some (Through after)
  unfolding meaning
  ran no_register no_zero value =
      ap (λ (x : Meaning). x.run start) (conditions.gathers (meaning_step lower_facts accepts) (written m)) ∙
      (ap (λ o. runs (mode_in o.head) (number_in lower_facts accepts (conditions.condition (tested m)) start)) (out-roll-Tree (record { head = head.Mode m; parts = [] })) ∙
      (ap (runs (Some m)) asked_is ∙ (ap (λ p. runs (Some m) (worth p (accepts (codes "reg_or_0_operand") c m))) no_register ∙ (ap (λ q. runs (Some m) (worth false q)) no_zero ∙
      ap (λ b. option_and_then (and_then (λ d. Some (Through d))) (option_map (λ (y : Made). Through (assigned 1 y.value y.draft)) (forced_by b))) value))))

  -- ---- what is emitted

  abbrev pattern : Written
  pattern = set_of (operand (codes "nonimmediate_operand") 0 m) (operand (codes "general_operand") 1 m)

  abbrev f : Form
  f = record (bare form.Expand) { patterns = rtx pattern ∷ []; statements = condition.forces m }

module _ (m : Mode) (k : ℕ) (at : slice_get listed k ≡ Some (plain.moved m)) (place c : Rtx) (next : ℕ) where
  abbrev here : Form
  here = f (holds plain_forms) m place c next

  abbrev pattern_here : Written
  pattern_here = pattern (holds plain_forms) m place c next

  says_it : says_at plain_forms k ≡ Some here
  says_it = named.says k here (ap (λ (o : Option Entry). option_and_then (λ (e : Entry). says_of e.form) o) at)

  pub move_pattern : patterns_at plain_forms k ≡ rtx pattern_here ∷ []
  move_pattern = named.patterns k (rtx pattern_here ∷ []) (ap (λ (o : Option Entry). option_map_or (λ (e : Entry). patterns_by e.form) o []) at)

  abbrev first : Rtx
  first = set_rtx (new m next) c

  abbrev second : Rtx
  second = set_rtx place (new m next)

  pub emits_both : holds plain_forms (codes "register_operand") place m ≡ false → holds plain_forms (codes "reg_or_0_operand") c m ≡ false → is_register c ≡ false → Lawful first → Lawful second →
      emission_of plain_forms k (Some place ∷ Some c ∷ []) next ≡ Some (emission (first ∷ second ∷ []) (next + 1))
  emits_both no_register no_zero value one other =
      ap (λ (o : Option Form). option_and_then if_kept (option_and_then (λ (says : Form). emitted (holds plain_forms) lower_facts says (Some place ∷ Some c ∷ []) next) o)) says_it ∙
      (ap (λ (o : Option Ended). option_and_then if_kept (option_and_then (finished (patterns_of here)) o)) (ran (holds plain_forms) m place c next no_register no_zero value) ∙
      (ap (λ (o : Option Rtx). option_and_then if_kept (option_map (λ (insns : List Rtx). emission (first ∷ [] ++ insns) (next + 1)) (all_some (o ∷ [])))) (filled_is (Some place ∷ Some (new m next) ∷ []) pattern_here) ∙
      (ap (λ b. if (b && true) && ((all_pass has_argument second && true) && true) then Some (emission (first ∷ second ∷ []) (next + 1)) else None) one ∙
      ap (λ b. if (b && true) && true then Some (emission (first ∷ second ∷ []) (next + 1)) else None) other)))

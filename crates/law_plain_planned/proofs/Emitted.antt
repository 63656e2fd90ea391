-- What a form without statements emits.
use Rattle.std.proofs.Common.{◌≡◌, ℕ, Bool, true, ◌&&◌, List, [], ◌∷◌, ◌++◌, Option, Some, None, Ok, refl, sym, ap, ◌∙◌}
use Rattle.std.specs.Prelude.{if◌then◌else◌, slice_get, option_map, option_and_then}
use Rattle.std.specs.Option.{option_map_or}
use Rattle.rtx_tree.specs.declared.tree.Rtx.{Rtx}
use Rattle.c_cond.specs.c_words.declared.head.CondHead.TheVariants as head
use Rattle.c_cond.specs.declared.tree.Tree.{Tree}
use Rattle.c_eval.specs.declared.facts.Facts.{Facts}
use Rattle.pred_expr.specs.Texts.{always, nothing}
use Rattle.md_text.specs.declared.template.Template.{Template}
use Rattle.md_match.specs.Pattern.{Ops, all_some, all_instantiated}
use Rattle.md_recog.specs.Match.{Accepts}
use Rattle.md_draft.specs.declared.head.FormHead.TheVariants as form
use Rattle.md_forms.specs.declared.form.Entry.{Entry}
use Rattle.md_forms.specs.declared.form.Form.{Form}
use Rattle.md_forms.specs.declared.form.OperandConstraint.{OperandConstraint}
use Rattle.md_pred.specs.Holds.{holds}
use Rattle.md_emit.specs.Emitted.{says_of, says_at}
use Rattle.gen_emit.specs.declared.draft.Draft.{Draft}
use Rattle.gen_emit.specs.declared.draft.Ended.{Ended}
use Rattle.gen_emit.specs.declared.draft.Ended.TheVariants.{Through}
use Rattle.gen_emit.specs.Values.{draft}
use Rattle.gen_emit.specs.Statements.{Meaning, meaning, meaning_step}
use Rattle.gen_emit.specs.Emission.{emission, emitted, finished, patterns_of}
use Rattle.form_needs.specs.Needs.{lower_facts}
use Rattle.lower_insn.specs.Plan.{emission_of, if_kept, patterns_at, patterns_by}
use Rattle.plain_forms.specs.Makers.{bare, insn}
use Rattle.plain_forms.specs.Forms.{plain_forms}
use Rattle.rtx_open.proofs.Expressions.{Written, rtx}
use Rattle.rtx_open.proofs.Conditions as conditions
use Rattle.law_plain_matches.proofs.Patterns.{filled, filled_is}
use Rattle.law_plain_matched.proofs.Found.{listed}
use Rattle.law_plain_planned.proofs.Named as named
use Rattle.law_plain_planned.proofs.Registers.{Lawful}

-- no statement
nothing_runs : (facts : Facts) (accepts : Accepts) (d : Draft) → (meaning facts accepts nothing).run d ≡ Some (Through d)
unfolding meaning
nothing_runs facts accepts d = ap (λ (m : Meaning). m.run d) (conditions.gathers (meaning_step facts accepts) (conditions.node head.Nothing conditions.none))

-- what an instruction's form says
abbrev pub insn_form : Rtx → List OperandConstraint → Template → Form
insn_form pattern constraints template = record (bare form.Insn) { patterns = pattern ∷ []; condition = always; constraints = constraints; template = template }

-- the form with an index is such
module _ (k : ℕ) (name : List ℕ) (pattern : Written) (constraints : List OperandConstraint) (template : Template) (at : slice_get listed k ≡ Some (insn name (rtx pattern) constraints template)) where
  abbrev f : Form
  f = insn_form (rtx pattern) constraints template

  says_it : says_at plain_forms k ≡ Some f
  says_it = named.says k f (ap (λ (o : Option Entry). option_and_then (λ (e : Entry). says_of e.form) o) at)

  pub pattern_at : patterns_at plain_forms k ≡ rtx pattern ∷ []
  pattern_at = named.patterns k (rtx pattern ∷ []) (ap (λ (o : Option Entry). option_map_or (λ (e : Entry). patterns_by e.form) o []) at)

  pub emits_one : (operands : Ops) (y : Rtx) (next : ℕ) → filled operands pattern ≡ Some y → Lawful y → emission_of plain_forms k operands next ≡ Some (emission (y ∷ []) next)
  emits_one operands y next is lawful =
      ap (λ (o : Option Form). option_and_then if_kept (option_and_then (λ (says : Form). emitted (holds plain_forms) lower_facts says operands next) o)) says_it ∙
      (ap (λ (o : Option Ended). option_and_then if_kept (option_and_then (finished (patterns_of f)) o)) (nothing_runs lower_facts (holds plain_forms) (draft operands next)) ∙
      (ap (λ (o : Option Rtx). option_and_then if_kept (option_map (λ (insns : List Rtx). emission ([] ++ insns) next) (all_some (o ∷ [])))) (filled_is operands pattern ∙ is) ∙
      ap (λ b. if (b && true) && true then Some (emission (y ∷ []) next) else None) lawful))

-- What is told as wrong is refused at output.
use Rattle.std.proofs.Common.{◌≡◌, ℕ, Bool, true, false, not, ◌&&◌, List, [], ◌∷◌, Option, Some, None, Result, Ok, Err, option_and_then, slice_get, refl, sym, ap, subst, ◌∙◌}
use Rattle.rtx_tree.specs.declared.function.Function.{Function}
use Rattle.rtx_tree.specs.declared.function.Insn.{Insn}
use Rattle.rtx_tree.specs.declared.function.Kind.{Kind}
use Rattle.rtx_tree.specs.declared.function.Kind.TheVariants as kind
use Rattle.rtx_tree.specs.Tree.{head_of}
use Rattle.rv_text.specs.declared.line.Line.{Line}
use Rattle.md_output.specs.Filled.{filled, lines_of}
use Rattle.md_output.specs.Read.{AreReadAs}
use Rattle.md_text.specs.declared.template.Template.{Template}
use Rattle.md_forms.specs.declared.form.Entry.{Entry}
use Rattle.md_forms.specs.declared.form.Form.{Form}
use Rattle.md_desc.specs.declared.output.Chosen.{Chosen}
use Rattle.md_desc.specs.md_attr.Alternatives.{form_at, accepted, accepted_of}
use Rattle.md_pattern.specs.declared.reason.Reason.{Reason}
use Rattle.form_needs.specs.Needs.{is_kind, is_note, is_label, needs_form, output_facts}
use Rattle.form_needs.proofs.OneChosen.{chosen_one}
use Rattle.equate.specs.Side.{Lines}
use Rattle.equate.specs.Verdict.{Verdict, Same}
use Rattle.equate.specs.Equated.{verdict, Equated}
use Rattle.asm_out.specs.declared.piece.Piece.{Piece}
use Rattle.asm_out.specs.Filled.{template_at, template_in, text_by, text_of}
use Rattle.asm_out.specs.Outcome.{Outcome}
use Rattle.asm_out.specs.Comes.{IsTried, PlaceComes}
use Rattle.asm_out.proofs.LineLaws.{lines_one}
use Rattle.lint_judge.specs.Judged.{Tells, IsCompared}
use Rattle.lint_judge.specs.declared.judged.Fault.{Fault}
use Rattle.lint_judge.specs.declared.judged.Fault.TheVariants as fault
use Rattle.lint_judge.specs.declared.judged.Judged.{Judged}
use Rattle.lint_tried.specs.declared.instance.Instance.{Instance}
use Rattle.lint_told.specs.Told.{IsPrinted}
use Rattle.law_lint.specs.Refused.{HasAllLive, WrongIsRefused}
use Rattle.law_lint.proofs.LiveLaws.{one_verdict}

-- a fault is told by no verdict that is the same
no_fault : (texts : List (List ℕ)) (lines : List Line) (f : Fault) → Tells texts lines (Some f) Same → ⊥
no_fault texts lines fault.Large tells = cc
no_fault texts lines (fault.Differs item left right) tells = cc
no_fault texts lines (fault.Needs term) tells = cc
no_fault texts lines (fault.Unprinted place) tells = let is = tells.0 in cc
no_fault texts lines (fault.Unknown place) tells = let is = tells.0 in cc
no_fault texts lines (fault.Early place) tells = let is = tells.0 in cc

no_label : (k : Kind) (note : Bool) → is_label k ≡ true → (is_kind k && not note) ≡ true → ⊥
no_label kind.Plain note is needs = cc
no_label kind.Jump note is needs = cc
no_label kind.Call note is needs = cc
no_label kind.Label note is needs = cc
no_label kind.Barrier note is needs = cc

no_silence : (l n : Bool) → (not l && not n) ≡ true → n ≡ true → ⊥
no_silence l true silent is = no_both l silent
  where
    no_both : (l : Bool) → (not l && false) ≡ true → ⊥
    no_both true is = cc
    no_both false is = cc
no_silence l false silent is = cc

-- the template of an accepted form
of_form : (r : Result Form Reason) (says : Form) → accepted_of r ≡ Some says → template_in r ≡ Some says.template
of_form (Ok f) says is = cc
of_form (Err r) says is = cc

of_entry : (e : Option Entry) (says : Form) → option_and_then accepted e ≡ Some says → option_and_then (λ (e : Entry). template_in e.form) e ≡ Some says.template
of_entry None says is = cc
of_entry (Some e) says is = of_form e.form says is

accepted_template : (forms : List Entry) (form : ℕ) (says : Form) → form_at forms form ≡ Some says → template_at forms form ≡ Some says.template
accepted_template forms form says is = of_entry (slice_get forms form) says is

module _ (forms : List Entry) (form alternative : ℕ) (instance : Instance) (found : Judged) (f : Fault) (printed : IsPrinted forms form alternative instance found) (wrong : found.fault ≡ Some f) where
  abbrev i : Insn
  i = instance.insn

  abbrev c : Chosen
  c = printed.choice

  abbrev compared : IsCompared found.texts i found.fault
  compared = printed.judges.compared

  -- the texts that were judged are those of output
  texts : found.texts ≡ lines_of (text_of forms 0 i c)
  texts =
      let here : template_at forms c.form ≡ Some printed.says.template = subst (λ (k : ℕ). template_at forms k ≡ Some printed.says.template) (sym printed.reached.here.form_is) (accepted_template forms form printed.says printed.accepted) in
      printed.judges.texts_are
      ∙ (ap (λ (a : ℕ). lines_of (filled printed.says.template a 0 i.uid c.operands)) (sym printed.reached.here.alternative_is)
      ∙ ap (λ (t : Option Template). lines_of (text_by t 0 i c)) (sym here))

  -- what is tried at output are the lines that were judged, over the same registers
  module _ (g : Function) (place : ℕ) (all : HasAllLive g place) where
    same_lines : (d : Chosen) (lines : List Line) (live : List ℕ) → IsTried forms 0 g place i d lines live → lines ≡ compared.lines
    same_lines d lines live tried =
        let one : d ≡ c = chosen_one forms output_facts i.pattern d c tried.chosen printed.reached.chosen in
        lines_one found.texts lines compared.lines
        (subst (λ (ts : List (List ℕ)). AreReadAs ts lines) (sym (texts ∙ ap (λ (d : Chosen). lines_of (text_of forms 0 i d)) (sym one))) tried.read)
        compared.read

    not_equated : (d : Chosen) (lines : List Line) (live : List ℕ) → IsTried forms 0 g place i d lines live → Equated (i ∷ []) (Lines 0 lines) live → ⊥
    not_equated d lines live tried is =
        let ours : verdict (i ∷ []) (Lines 0 lines) live ≡ verdict (i ∷ []) (Lines 0 compared.lines) compared.live =
        ap (λ (ls : List Line). verdict (i ∷ []) (Lines 0 ls) live) (same_lines d lines live tried)
        ∙ one_verdict live compared.live (λ reg. all live tried.live_after reg ∙ sym (compared.all_live reg)) (i ∷ []) (Lines 0 compared.lines) in
        no_fault found.texts compared.lines f
        (subst (λ (v : Verdict). Tells found.texts compared.lines (Some f) v) (sym ours ∙ is)
        (subst (λ (o : Option Fault). Tells found.texts compared.lines o (verdict (i ∷ []) (Lines 0 compared.lines) compared.live)) wrong compared.tells))

    no_text : needs_form i ≡ true → (o : Outcome) (piece : Piece) → o ≡ Ok piece → PlaceComes forms 0 g place i o → ⊥
    no_text needs _ piece is (PlaceComes.label label small) = no_label i.kind (is_note (head_of i.pattern).code) label needs
    no_text needs _ piece is (PlaceComes.silent silent) = no_silence (is_label i.kind) (needs_form i) silent needs
    no_text needs _ piece is (PlaceComes.unmatched asked none) = cc
    no_text needs _ piece is (PlaceComes.refused d lines live e tried refused) = cc
    no_text needs _ piece is (PlaceComes.equated d lines live tried equated) = not_equated d lines live tried equated

-- it comes to no text
pub wrong_is_refused : WrongIsRefused
wrong_is_refused forms form alternative instance found wrong needs g place all piece comes =
    no_text forms form alternative instance found wrong.fault wrong.printed wrong.has g place all needs (Ok piece) piece refl comes

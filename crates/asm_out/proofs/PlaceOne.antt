-- What an item of a chain comes to is one outcome.
use Rattle.std.proofs.Common.{◌≡◌, ◌⊎◌, inl, inr, ℕ, Bool, true, false, not, ◌&&◌, List, [], ◌∷◌, Option, Some, None, Ok, Err, refl, sym, ap, subst, ◌∙◌}
use Rattle.rtx_tree.specs.declared.function.Kind.{Kind}
use Rattle.rtx_tree.specs.declared.function.Kind.TheVariants as kind
use Rattle.rtx_tree.specs.declared.function.Insn.{Insn}
use Rattle.rtx_tree.specs.declared.function.Function.{Function}
use Rattle.rtx_tree.specs.Tree.{head_of}
use Rattle.rv_text.specs.declared.line.Line.{Line}
use Rattle.md_forms.specs.declared.form.Entry.{Entry}
use Rattle.md_forms.specs.Forms.{names_of}
use Rattle.md_desc.specs.declared.output.Chosen.{Chosen}
use Rattle.md_desc.specs.Recog.{NoneMatchesOut}
use Rattle.md_output.specs.Filled.{lines_of}
use Rattle.form_needs.specs.Needs.{is_kind, is_note, is_label, output_facts, name_at}
use Rattle.form_needs.proofs.OneChosen.{chosen_one, chosen_not}
use Rattle.pass_refusal.specs.equate.Side.{Lines}
use Rattle.pass_refusal.specs.equate.Verdict.{Verdict}
use Rattle.pass_refusal.specs.equate.Equated.{verdict}
use Rattle.asm_out.specs.declared.piece.Piece.{Piece}
use Rattle.pass_refusal.specs.declared.refusal.PassRefusal.{PassRefusal}
use Rattle.asm_out.specs.Filled.{text_of, AreLinesOf}
use Rattle.pass_refusal.specs.Refused.{unmatched_insn, refused_by}
use Rattle.asm_out.specs.Outcome.{Outcome, nothing}
use Rattle.asm_out.specs.Comes.{IsTried, PlaceComes, code_piece, label_piece, Part, Opening, Place, Closing, PartComes, parts_of, FunctionComes}
use Rattle.asm_out.proofs.LineLaws.{lines_one}
use Rattle.asm_out.proofs.PartLaws.{parts_one}
use Rattle.live.proofs.LiveLists.{live_one}

-- ---- what is asked of an item

data Asked : Type 0 where
  OfLabel : Asked
  OfNothing : Asked
  OfForm : Asked

-- by whether it is a label, an instruction, and a note
abbrev asked_by : Bool → Bool → Bool → Asked
asked_by true k n = OfLabel
asked_by false false n = OfNothing
asked_by false true true = OfNothing
asked_by false true false = OfForm

silent_asks : (l k n : Bool) → (not l && not (k && not n)) ≡ true → asked_by l k n ≡ OfNothing
silent_asks true k n e = cc
silent_asks false false n e = refl
silent_asks false true true e = refl
silent_asks false true false e = cc

form_asks : (l k n : Bool) → (l ≡ true → k ≡ false) → (k && not n) ≡ true → asked_by l k n ≡ OfForm
form_asks true false n apart e = cc
form_asks true true n apart e = absurd (let none : true ≡ false = apart refl in let never : ⊥ = cc in never)
form_asks false false n apart e = cc
form_asks false true true apart e = cc
form_asks false true false apart e = refl

label_asks : (l k n : Bool) → l ≡ true → asked_by l k n ≡ OfLabel
label_asks true k n is = refl
label_asks false k n is = cc

apart_kinds : (k : Kind) → is_label k ≡ true → is_kind k ≡ false
apart_kinds kind.Plain h = cc
apart_kinds kind.Jump h = cc
apart_kinds kind.Call h = cc
apart_kinds kind.Label h = refl
apart_kinds kind.Barrier h = cc

abbrev asked : Insn → Asked
asked i = asked_by (is_label i.kind) (is_kind i.kind) (is_note (head_of i.pattern).code)

-- ---- what comes of each

module _ (forms : List Entry) (number : ℕ) (f : Function) (place : ℕ) (i : Insn) where
  abbrev outcome_by : Option PassRefusal → Piece → Outcome
  outcome_by None piece = Ok piece
  outcome_by (Some e) piece = Err e

  -- what comes of a form with its lines, over what is live
  abbrev compared : Chosen → List Line → List ℕ → Outcome
  compared c lines live = outcome_by (refused_by i.uid (name_at (names_of forms) c.form) (verdict (i ∷ []) (Lines number lines) live)) (code_piece forms number i c lines)

  record IsCompared (o : Outcome) : Type 0 where
    c : Chosen
    lines : List Line
    live : List ℕ
    tried : IsTried forms number f place i c lines live
    is : o ≡ compared c lines live

  abbrev Body : Asked → Outcome → Type 0
  Body OfLabel o = o ≡ Ok (label_piece number i.uid)
  Body OfNothing o = o ≡ Ok nothing
  Body OfForm o = (NoneMatchesOut forms output_facts i.pattern × (o ≡ Err (unmatched_insn i))) ⊎ IsCompared o

  as_asked : (k : Asked) (o : Outcome) → asked i ≡ k → Body k o → Body (asked i) o
  as_asked k o is body = subst (λ k. Body k o) (sym is) body

  body_of : (o : Outcome) → PlaceComes forms number f place i o → Body (asked i) o
  body_of _ (PlaceComes.label is small) =
      as_asked OfLabel (Ok (label_piece number i.uid)) (label_asks (is_label i.kind) (is_kind i.kind) (is_note (head_of i.pattern).code) is) refl
  body_of _ (PlaceComes.silent is) =
      as_asked OfNothing (Ok nothing) (silent_asks (is_label i.kind) (is_kind i.kind) (is_note (head_of i.pattern).code) is) refl
  body_of _ (PlaceComes.unmatched needs none) =
      as_asked OfForm (Err (unmatched_insn i)) (form_asks (is_label i.kind) (is_kind i.kind) (is_note (head_of i.pattern).code) (apart_kinds i.kind) needs)
      (inl (none, refl))
  body_of _ (PlaceComes.refused c lines live e tried is) =
      as_asked OfForm (Err e) (form_asks (is_label i.kind) (is_kind i.kind) (is_note (head_of i.pattern).code) (apart_kinds i.kind) tried.needs)
      (inr (record { c = c; lines = lines; live = live; tried = tried; is = sym (ap (λ r. outcome_by r (code_piece forms number i c lines)) is) }))
  body_of _ (PlaceComes.equated c lines live tried is) =
      as_asked OfForm (Ok (code_piece forms number i c lines)) (form_asks (is_label i.kind) (is_kind i.kind) (is_note (head_of i.pattern).code) (apart_kinds i.kind) tried.needs)
      (inr (record {
        c = c;
        lines = lines;
        live = live;
        tried = tried;
        is = sym (ap (λ (v : Verdict). outcome_by (refused_by i.uid (name_at (names_of forms) c.form) v) (code_piece forms number i c lines)) is);
      }))

  -- ---- one outcome

  one_compared : (a b : Outcome) → IsCompared a → IsCompared b → a ≡ b
  one_compared a b x y =
      let c = chosen_one forms output_facts i.pattern x.c y.c x.tried.chosen y.tried.chosen in
      let lines = lines_one (lines_of (text_of forms number i y.c)) x.lines y.lines (subst (λ (c : Chosen). AreLinesOf (text_of forms number i c) x.lines) c x.tried.read) y.tried.read in
      let live = live_one f place x.live y.live x.tried.live_after y.tried.live_after in
      x.is ∙ (ap (λ (c : Chosen). compared c x.lines x.live) c ∙ (ap (λ (ls : List Line). compared y.c ls x.live) lines ∙ (ap (λ (rs : List ℕ). compared y.c y.lines rs) live ∙ sym y.is)))

  one_form : (a b : Outcome) → Body OfForm a → Body OfForm b → a ≡ b
  one_form a b (inl x) (inl y) = x.1 ∙ sym y.1
  one_form a b (inl x) (inr y) = absurd (chosen_not forms output_facts i.pattern y.c y.tried.chosen x.0)
  one_form a b (inr x) (inl y) = absurd (chosen_not forms output_facts i.pattern x.c x.tried.chosen y.0)
  one_form a b (inr x) (inr y) = one_compared a b x y

  one_body : (k : Asked) (a b : Outcome) → Body k a → Body k b → a ≡ b
  one_body OfLabel a b x y = x ∙ sym y
  one_body OfNothing a b x y = x ∙ sym y
  one_body OfForm a b x y = one_form a b x y

  place_one : (a b : Outcome) → PlaceComes forms number f place i a → PlaceComes forms number f place i b → a ≡ b
  place_one a b x y = one_body (asked i) a b (body_of a x) (body_of b y)

one_part : (forms : List Entry) (number : ℕ) (f : Function) (p : Part) (a b : Outcome) → PartComes forms number f p a → PartComes forms number f p b → a ≡ b
one_part forms number f Opening a b x y = x ∙ sym y
one_part forms number f (Place place i) a b x y = place_one forms number f place i a b x y
one_part forms number f Closing a b x y = x ∙ sym y

-- what a function comes to is one outcome
pub function_one : (forms : List Entry) (number : ℕ) (f : Function) (size : ℕ) (a b : Outcome) → FunctionComes forms number f size a → FunctionComes forms number f size b → a ≡ b
function_one forms number f size a b x y = parts_one (PartComes forms number f) (one_part forms number f) size (parts_of f) a b x y

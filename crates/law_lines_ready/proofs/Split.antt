-- A function whose instructions are split behind reload has placed instructions still.
use Rattle.std.proofs.Common.{◌≡◌, ⊎_elim, ℕ, true, false, List, Ok, refl, sym, ap, subst, ◌∙◌}
use Rattle.std.proofs.lemmas.Bool.{false≢true, true≢false, and_parts}
use Rattle.rtx_tree.specs.declared.function.ArgUse.{ArgUse}
use Rattle.rtx_tree.specs.declared.function.Function.{Function}
use Rattle.rtx_tree.specs.declared.function.Insn.{Insn}
use Rattle.rtx_tree.specs.declared.function.Kind.{Kind}
use Rattle.rtx_tree.specs.declared.function.Kind.TheVariants as kind
use Rattle.rtx_tree.specs.declared.tree.Rtx.{Rtx}
use Rattle.rtl_func.specs.Calls.{is_argument}
use Rattle.rtl_func.specs.Kinds.{kinds_agree}
use Rattle.rtl_func.specs.Modes.{shapes_agree}
use Rattle.rtl_step.specs.Step.{is_mark}
use Rattle.reg_uses.specs.Uses.{has_argument}
use Rattle.sym_insns.specs.Shape.{is_shaped, all_natural}
use Rattle.md_forms.specs.declared.form.Entry.{Entry}
use Rattle.md_forms.specs.Forms.{names_of}
use Rattle.split.specs.form_needs.Needs.{is_kind, name_at}
use Rattle.new_insns.specs.Made.{kind_of, uses_between, insn_for}
use Rattle.split.specs.insn_replace.Replace.{made, ReplacedComes}
use Rattle.split.proofs.law_insn_replaced.Marks.{no_mark}
use Rattle.law_output.proofs.law_pass_needs.Places.{all_at, at_place}
use Rattle.pass_name.specs.declared.pass.Pass.{Pass}
use Rattle.pass_name.specs.declared.pass.Pass.TheVariants.{Split2}
use Rattle.split.specs.Left.{StandsIn}
use Rattle.split.specs.Split.{SplitComes}
use Rattle.split.proofs.Insns.{In, made_for, replaced_shaped}
use Rattle.split.proofs.Kept.{made_kind, parts_of}
use Rattle.split.proofs.Left.{IsKept, kept}
use Rattle.law_lines_ready.specs.Placed.{IsInsnPlaced, ArePlaced}
use Rattle.law_lines_ready.proofs.Notes.{note_plain, no_label}

-- ---- what is handed to a call

abbrev ArePassed : List ArgUse → Type 0
ArePassed uses = (reg : ℕ) → has_argument reg uses ≡ true → is_argument reg ≡ true

-- a call in the place of a call is handed what it was, and nothing else is handed anything
handed : (old new : Kind) (uses : List ArgUse) → (is_mark old ≡ false → ArePassed uses) → ArePassed (uses_between old new uses)
handed kind.Call kind.Call uses passed = passed refl
handed _ _ uses passed = λ reg has. absurd (false≢true has)

-- ---- an instruction that was made

new_placed : (old : Insn) (uid : ℕ) (x : Rtx) → IsInsnPlaced old → is_mark (kind_of x) ≡ false →
    is_shaped (insn_for old uid x) ≡ true → IsInsnPlaced (insn_for old uid x)
new_placed old uid x is none shaped =
    let kinds = and_parts (kinds_agree (kind_of x) x) _ shaped in
    let shapes = and_parts (shapes_agree x) _ kinds.1 in record {
      marks = λ mark reg. absurd (true≢false (sym mark ∙ none));
      label = λ label. absurd (no_label (kind_of x) none label);
      plain = λ free note. note_plain (kind_of x) x kinds.0 free note;
      natural = (and_parts (all_natural x) _ shapes.1).0;
      passed = λ free. handed old.kind (kind_of x) old.uses is.passed;
    }

-- ---- functions

-- each instruction of a function is placed
abbrev EachPlaced : Function → Type 0
EachPlaced f = (i : Insn) → StandsIn f i → IsInsnPlaced i

module _ (forms : List Entry) (pass : Pass) where
  made_placed : (f g : Function) (place : ℕ) (i : Insn) (rule : List ℕ) (sequence : List Rtx) (j : Insn) → IsInsnPlaced i →
      ReplacedComes f place i rule sequence (Ok g) → In (made f i sequence) j → IsInsnPlaced j
  made_placed f g place i rule sequence j is comes here =
      let for = made_for i _ sequence j here in
      let of_kind : is_kind j.kind ≡ true = made_kind f i sequence j here in
      let shaped : is_shaped j ≡ true = replaced_shaped f g place i rule sequence j comes here of_kind in
      let none : is_mark j.kind ≡ false = no_mark j.kind of_kind in
      subst IsInsnPlaced (sym for.is)
      (new_placed i for.uid for.pattern is (sym (ap (λ (k : Insn). is_mark k.kind) for.is) ∙ none) (sym (ap is_shaped for.is) ∙ shaped))

  placed_step : IsKept forms pass EachPlaced
  placed_step f g place i form sequence at is comes each j here = ⊎_elim
      (λ (old : StandsIn f j). each j old)
      (λ (new : In (made f i sequence) j).
      made_placed f g place i (name_at (names_of forms) form) sequence j (each i (place, at)) comes new)
      (parts_of forms pass f g place i (name_at (names_of forms) form) sequence j comes here)

  each_kept : (f g : Function) → EachPlaced f → SplitComes forms pass f (Ok g) → EachPlaced g
  each_kept f g each comes = kept forms pass EachPlaced placed_step f g comes each

  -- at each pass
  pub pass_placed : (f g : Function) → ArePlaced f → SplitComes forms pass f (Ok g) → ArePlaced g
  pass_placed f g placed comes =
      let each = each_kept f g (λ i here. at_place IsInsnPlaced f.insns placed here.0 i here.1) comes in
      all_at IsInsnPlaced g.insns (λ place i at. each i (place, at))

pub split_placed : (forms : List Entry) (f g : Function) → ArePlaced f → SplitComes forms Split2 f (Ok g) → ArePlaced g
split_placed forms f g placed comes = pass_placed forms Split2 f g placed comes

-- Lowering keeps a function.
use Rattle.std.proofs.Common.{◌≡◌, ℕ, ◌+◌, not, Bool, true, List, length, Result, Ok, Err, Some, None, refl, subst}
use Rattle.std.specs.Prelude.{slice_get}
use Rattle.std.proofs.lemmas.Bool.{and_parts}
use Rattle.rtx_tree.specs.declared.function.Function.{Function}
use Rattle.rtx_tree.specs.declared.function.Insn.{Insn}
use Rattle.rtx_tree.specs.Tree.{head_of}
use Rattle.rtl_chain.specs.Counts.{greatest_uid, next_pseudo}
use Rattle.std.specs.List.{list_all}
use Rattle.md_forms.specs.declared.form.Entry.{Entry}
use Rattle.lower_insn.specs.form_needs.Needs.{is_kind, is_note, needs_form}
use Rattle.law_lowering.specs.law_pass_needs.Left.{SameMarks}
use Rattle.law_lowering.specs.law_pass_needs.Reloadable.{IsInsnReloadable}
use Rattle.law_lowering.proofs.law_pass_needs.Places.{at_place}
use Rattle.pass_refusal.specs.declared.refusal.PassRefusal.{PassRefusal}
use Rattle.law_lowering.specs.law_insn_replaced.Sound.{IsSound, PassKeeps}
use Rattle.law_lowering.proofs.law_insn_replaced.Keeping.{insn_kept, insn_same, each_keeps, pattern_keeps, kept_refl, kept_trans}
use Rattle.law_lowering.proofs.law_insn_replaced.Marks.{same_refl, same_trans}
use Rattle.lower_insn.specs.declared.part.Lowered.{Lowered}
use Rattle.lower_insn.specs.Lowered as insn
use Rattle.lower_insn.specs.Lowered.{InsnAnswer, by_form, InsnLowers}
use Rattle.law_lowering.proofs.Arguments.{lowers_to_arguments}
use Rattle.law_lowering.proofs.Made.{replaced_natural}
use Rattle.lower.specs.Lower.{Answer, LowersIn, rule_of, LowerFrom, LowerComes}

-- ---- an instruction that is lowered needs a form, and so is no label and no barrier

module _ (i : Insn) where
  abbrev Needed : InsnAnswer → Type 0
  Needed (Ok (Some l)) = needs_form i ≡ true
  Needed (Ok None) = Unit {0}
  Needed (Err e) = Unit {0}

  by_answer : (form : ℕ) (answer : insn.Answer) → needs_form i ≡ true → Needed (by_form form answer)
  by_answer form (Ok sequence) needed = needed
  by_answer form (Err e) needed = tt

  needed_in : (forms : List Entry) (greatest next : ℕ) (answer : InsnAnswer) → InsnLowers forms i greatest next answer → Needed answer
  needed_in forms greatest next _ (InsnLowers.free needed) = tt
  needed_in forms greatest next _ (InsnLowers.matched needed is) = tt
  needed_in forms greatest next _ (InsnLowers.nameless needed unmatched none) = tt
  needed_in forms greatest next _ (InsnLowers.lowered plan answer needed unmatched is lowers) = by_answer plan.form answer needed

lowered_kind : (forms : List Entry) (f : Function) (i : Insn) (l : Lowered) → LowersIn forms f i (Ok (Some l)) → is_kind i.kind ≡ true
lowered_kind forms f i l lowers =
    let needed : needs_form i ≡ true = needed_in i forms (greatest_uid f.insns) (next_pseudo f.insns) (Ok (Some l)) lowers in
    (and_parts (is_kind i.kind) (not (is_note (head_of i.pattern).code)) needed).0

-- ---- functions

same_ok : (f g : Function) → ◌≡◌ {A = Answer} (Ok f) (Ok g) → f ≡ g
same_ok f g is = cc

apart : {P : Type 0} (e : PassRefusal) (g : Function) → ◌≡◌ {A = Answer} (Err e) (Ok g) → P
apart e g is = absurd (let none : ⊥ = cc in none)

module _ (forms : List Entry) where
  kept_from : (g : Function) (f : Function) (place : ℕ) (a : Answer) → a ≡ Ok g → IsSound f → LowerFrom forms f place a → PassKeeps f g
  kept_from g _ _ _ is sound (LowerFrom.done f place past) = subst (PassKeeps f) (same_ok f g is) (kept_refl f sound)
  kept_from g _ _ _ is sound (LowerFrom.stays f place i a at low rest) = kept_from g f (place + 1) a is sound rest
  kept_from g _ _ _ is sound (LowerFrom.unmatched f place i e at low) = apart e g is
  kept_from g _ _ _ is sound (LowerFrom.differs f place i l e at low comes) = apart e g is
  kept_from g _ _ _ is sound (LowerFrom.replaced f place i l h a at low comes rest) =
      let kind = lowered_kind forms f i l low in
      let own = pattern_keeps i kind (at_place IsInsnReloadable f.insns sound.reloadable.each place i at) in
      let keep = each_keeps l.sequence
      (lowers_to_arguments forms i (greatest_uid f.insns) (next_pseudo f.insns) l own low (replaced_natural f place i l.sequence (rule_of forms l) h comes)) in
      let one = insn_kept f place i (rule_of forms l) l.sequence h sound at kind keep comes in
      kept_trans f h g one (kept_from g h (place + length l.sequence) a is one.sound rest)

-- a function that is lowered is kept
pub lower_kept : (forms : List Entry) (f g : Function) → IsSound f → LowerComes forms f (Ok g) → PassKeeps f g
lower_kept forms f g sound comes = kept_from forms g f 0 (Ok g) refl sound comes

-- ---- labels and barriers, of whatever function

module _ (forms : List Entry) where
  same_from : (g f : Function) (place : ℕ) (a : Answer) → a ≡ Ok g → LowerFrom forms f place a → SameMarks f g
  same_from g _ _ _ is (LowerFrom.done f place past) = subst (SameMarks f) (same_ok f g is) (same_refl f)
  same_from g _ _ _ is (LowerFrom.stays f place i a at low rest) = same_from g f (place + 1) a is rest
  same_from g _ _ _ is (LowerFrom.unmatched f place i e at low) = apart e g is
  same_from g _ _ _ is (LowerFrom.differs f place i l e at low comes) = apart e g is
  same_from g _ _ _ is (LowerFrom.replaced f place i l h a at low comes rest) =
      same_trans f h g (insn_same f place i (rule_of forms l) l.sequence h at (lowered_kind forms f i l low) comes)
      (same_from g h (place + length l.sequence) a is rest)

-- a function that is lowered has the name, the locals, the result, and the labels and barriers that it had
pub lower_same : (forms : List Entry) (f g : Function) → LowerComes forms f (Ok g) → SameMarks f g
lower_same forms f g comes = same_from forms g f 0 (Ok g) refl comes

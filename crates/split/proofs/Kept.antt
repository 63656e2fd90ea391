-- What is kept of a function: its marks and, but for the new ones, its instructions.
use Rattle.std.proofs.Common.{◌≡◌, ◌⊎◌, ⊎_elim, inl, inr, ℕ, ◌+◌, ◌&&◌, ◌||◌, Bool, true, false, List, [], ◌∷◌, ◌++◌, take, drop, Option, Some, None, Ok, refl, sym, ap, subst, ◌∙◌}
use Rattle.std.specs.Prelude.{slice_get, if◌then◌else◌, option_and_then}
use Rattle.rtx_tree.specs.declared.tree.Rtx.{Rtx}
use Rattle.rtx_tree.specs.declared.function.Insn.{Insn}
use Rattle.rtx_tree.specs.declared.function.Function.{Function}
use Rattle.rtl_chain.specs.Counts.{greatest_uid, next_pseudo}
use Rattle.md_forms.specs.declared.form.Entry.{Entry}
use Rattle.md_forms.specs.Forms.{names_of}
use Rattle.form_needs.specs.Needs.{is_kind, name_at}
use Rattle.rtl_func.specs.Kinds.{kinds_agree}
use Rattle.rtl_func.specs.Modes.{shapes_agree}
use Rattle.law_insn_replaced.specs.sym_insns.Shape.{is_shaped, all_natural}
use Rattle.gen_emit.specs.declared.emission.Emission.{Emission}
use Rattle.md_emit.specs.Emitted.{emitted_by, keeps_to_arguments}
use Rattle.new_insns.specs.Replaced.{replaced}
use Rattle.law_insn_replaced.specs.insn_replace.Replace.{made, ReplacedComes}
use Rattle.law_insn_replaced.specs.law_pass_needs.Left.{SameMarks}
use Rattle.law_insn_replaced.proofs.Marks.{replaced_same, same_refl, same_trans}
use Rattle.pass_name.specs.declared.pass.Pass.{Pass}
use Rattle.split.specs.Split.{has_homes, facts_of, is_admitted, admitted, IsSplit, SplitComes}
use Rattle.split.specs.Left.{StandsIn, IsNew, AreOldOrNew, AreNatural}
use Rattle.split.proofs.Made.{comes_to}
use Rattle.split.proofs.Insns.{In, in_append, in_take, in_drop, all_in, is_kind_of, made_for, replaced_shaped}
use Rattle.split.proofs.Left.{IsKept, kept}

-- ---- marks

pub made_kind : (f : Function) (i : Insn) (sequence : List Rtx) (j : Insn) → In (made f i sequence) j → is_kind j.kind ≡ true
made_kind f i sequence j here =
    let is = made_for i _ sequence j here in
    subst (λ (k : Insn). is_kind k.kind ≡ true) (sym is.is) (is_kind_of is.pattern)

module _ (forms : List Entry) (pass : Pass) where
  marks_step : (f : Function) → IsKept forms pass (SameMarks f)
  marks_step f g h place i form sequence at is comes same =
      subst (SameMarks f) (sym (comes_to g h place i (name_at (names_of forms) form) sequence comes))
      (same_trans f g (replaced g place (place + 1) (made g i sequence)) same
      (replaced_same g place i i (greatest_uid g.insns + 1) sequence at is.splits.instruction))

  pub same_marks : (f g : Function) → SplitComes forms pass f (Ok g) → SameMarks f g
  same_marks f g comes = kept forms pass (SameMarks f) (marks_step f) f g comes (same_refl f)

  -- ---- instructions

  admitted_all : (e : Emission) (sequence : List Rtx) → admitted pass e ≡ Some sequence → is_admitted pass sequence ≡ true
  admitted_all e sequence gives = by (is_admitted pass e.sequence) refl gives
    where
      by : (b : Bool) → is_admitted pass e.sequence ≡ b → (if b then Some e.sequence else None) ≡ Some sequence → is_admitted pass sequence ≡ true
      by true is same = subst (λ (s : List Rtx). is_admitted pass s ≡ true) (let one : e.sequence ≡ sequence = cc in one) is
      by false is same = absurd (let never : ⊥ = cc in never)

  given_admitted : (o : Option Emission) (sequence : List Rtx) → option_and_then (admitted pass) o ≡ Some sequence → is_admitted pass sequence ≡ true
  given_admitted (Some e) sequence gives = admitted_all e sequence gives
  given_admitted None sequence gives = absurd (let never : ⊥ = cc in never)

  new_one : (g h : Function) (place : ℕ) (i : Insn) (form : ℕ) (sequence : List Rtx) (j : Insn) → IsSplit forms pass (next_pseudo g.insns) i form sequence →
      ReplacedComes g place i (name_at (names_of forms) form) sequence (Ok h) → In (made g i sequence) j → IsNew pass j
  new_one g h place i form sequence j is comes here =
      let for = made_for i _ sequence j here in
      let kind = made_kind g i sequence j here in
      record {
        instruction = kind;
        shaped = replaced_shaped g h place i (name_at (names_of forms) form) sequence j comes here kind;
        admitted = subst (λ (k : Insn). is_admitted pass (k.pattern ∷ []) ≡ true) (sym for.is)
            (one_admitted (has_homes pass) sequence for.pattern (given_admitted (emitted_by forms (facts_of pass) form is.splits.operands (next_pseudo g.insns)) sequence is.splits.gives) for.from);
      }
    where
      one_admitted : (homes : Bool) (sequence : List Rtx) (x : Rtx) → (homes || keeps_to_arguments sequence) ≡ true → In sequence x → (homes || keeps_to_arguments (x ∷ [])) ≡ true
      one_admitted false sequence x all here = ap (λ b. b && true) (all_in _ sequence x all here)
      one_admitted true sequence x all here = refl

  -- an instruction behind a replaced one is an old one, or one that was made
  pub parts_of : (f g : Function) (place : ℕ) (i : Insn) (rule : List ℕ) (sequence : List Rtx) (j : Insn) → ReplacedComes f place i rule sequence (Ok g) → StandsIn g j → StandsIn f j ⊎ In (made f i sequence) j
  parts_of f g place i rule sequence j comes here =
      by (in_append (take place f.insns) (made f i sequence ++ drop (place + 1) f.insns) j (subst (λ (k : Function). StandsIn k j) (comes_to f g place i rule sequence comes) here))
    where
      behind : In (made f i sequence) j ⊎ In (drop (place + 1) f.insns) j → StandsIn f j ⊎ In (made f i sequence) j
      behind (inl new) = inr new
      behind (inr old) = inl (in_drop (place + 1) f.insns j old)

      by : In (take place f.insns) j ⊎ In (made f i sequence ++ drop (place + 1) f.insns) j → StandsIn f j ⊎ In (made f i sequence) j
      by (inl front) = inl (in_take place f.insns j front)
      by (inr rest) = behind (in_append (made f i sequence) (drop (place + 1) f.insns) j rest)

  insns_step : (f : Function) → IsKept forms pass (AreOldOrNew pass f)
  insns_step f g h place i form sequence at is comes so_far j here = ⊎_elim
      (λ (old : StandsIn g j). so_far j old)
      (λ (new : In (made g i sequence) j). inr (new_one g h place i form sequence j is comes new))
      (parts_of g h place i (name_at (names_of forms) form) sequence j comes here)

  pub old_or_new : (f g : Function) → SplitComes forms pass f (Ok g) → AreOldOrNew pass f g
  old_or_new f g comes = kept forms pass (AreOldOrNew pass f) (insns_step f) f g comes (λ i here. inl here)

  -- ---- registers

  natural_part : (a b c d : Bool) → (a && (b && (c && d))) ≡ true → c ≡ true
  natural_part true true true d e = refl
  natural_part true true false d e = e
  natural_part true false c d e = cc
  natural_part false b c d e = cc

  shaped_natural : (i : Insn) → is_shaped i ≡ true → all_natural i.pattern ≡ true
  shaped_natural i is = natural_part (kinds_agree i.kind i.pattern) (shapes_agree i.pattern) (all_natural i.pattern) _ is

  pub natural_step : IsKept forms pass AreNatural
  natural_step f g place i form sequence at is comes natural j here = ⊎_elim
      (λ (old : StandsIn f j). natural j old)
      (λ (new : In (made f i sequence) j). shaped_natural j (replaced_shaped f g place i (name_at (names_of forms) form) sequence j comes new (made_kind f i sequence j new)))
      (parts_of f g place i (name_at (names_of forms) form) sequence j comes here)

  pub are_natural : (f g : Function) → AreNatural f → SplitComes forms pass f (Ok g) → AreNatural g
  are_natural f g natural comes = kept forms pass AreNatural natural_step f g comes natural

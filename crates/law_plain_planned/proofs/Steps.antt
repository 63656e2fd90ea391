-- What the parts of a plan come to, where it is known what a form emits and that it is matched.
use Rattle.std.proofs.Common.{◌≡◌, inl, inr, ◌⊎◌, ℕ, ◌+◌, Bool, true, false, List, [], ◌∷◌, ◌++◌, map, Option, Some, None, Ok, refl, sym, ap, subst, ◌∙◌}
use Rattle.rtx_tree.specs.declared.tree.Rtx.{Rtx}
use Rattle.rtx_tree.specs.declared.function.Insn.{Insn}
use Rattle.md_match.specs.Pattern.{Ops}
use Rattle.gen_emit.specs.declared.emission.Emission.{Emission}
use Rattle.gen_emit.specs.Emission.{emission}
use Rattle.lower_insn.specs.declared.part.Part.{Part}
use Rattle.lower_insn.specs.declared.part.Part.TheVariants.{Lower, Emit, Emitted}
use Rattle.lower_insn.specs.declared.part.Plan.{Plan}
use Rattle.lower_insn.specs.declared.part.Uids.{Uids}
use Rattle.lower_insn.specs.Lowered.{IsMatched, IsUnmatched, Answer, behind, Lowers, InsnAnswer, InsnLowers, parts_of, by_form, uids_for}
use Rattle.lower_insn.specs.Plan.{planned, emission_of}
use Rattle.plain_forms.specs.Forms.{plain_forms}
use Rattle.law_plain_planned.specs.Planned.{Expands}

matched_not : (x : Rtx) → IsMatched plain_forms x → IsUnmatched plain_forms x → ⊥
matched_not x m unmatched = unmatched m.form m.operands m.matches

same_emission : (e f : Emission) (o : Option Emission) → o ≡ Some e → o ≡ Some f → e ≡ f
same_emission e f o one other = cc

no_emission : (f : Emission) (o : Option Emission) → o ≡ None → o ≡ Some f → ⊥
no_emission f o one other = cc

same_plan : (e f : Plan) (o : Option Plan) → o ≡ Some e → o ≡ Some f → e ≡ f
same_plan e f o one other = cc

no_plan : (f : Plan) (o : Option Plan) → o ≡ None → o ≡ Some f → ⊥
no_plan f o one other = cc

module _ (uids : Uids) where
  -- what stands behind a part comes to, and what the whole then does
  abbrev Rest : Rtx → List Part → ℕ → ℕ → Answer → Type 0
  Rest x rest before next answer = (a : Answer) × Lowers plain_forms uids rest before next a × (answer ≡ behind x a)

  abbrev Inverse : List Part → ℕ → ℕ → Answer → Type 0
  Inverse [] before next answer = answer ≡ Ok []
  Inverse (Lower made x ∷ rest) before next answer = IsMatched plain_forms x → Rest x rest (before + 1) next answer
  Inverse (Emit made x form operands ∷ rest) before next answer =
      (e : Emission) → emission_of plain_forms form operands next ≡ Some e → Lowers plain_forms uids (map Emitted e.sequence ++ rest) before e.next answer
  Inverse (Emitted x ∷ rest) before next answer = IsMatched plain_forms x → Rest x rest (before + 1) next answer

  inverse : (parts : List Part) (before next : ℕ) (answer : Answer) → Lowers plain_forms uids parts before next answer → Inverse parts before next answer
  inverse _ _ _ _ (Lowers.nothing before next) = refl
  inverse _ _ _ _ (Lowers.stays made x rest before next answer matched more) = λ m. (answer, more, refl)
  inverse _ _ _ _ (Lowers.planless made x rest before next unmatched none) = λ m. absurd (matched_not x m unmatched)
  inverse _ _ _ _ (Lowers.made_by made x rest before next plan answer unmatched is more) = λ m. absurd (matched_not x m unmatched)
  inverse _ _ _ _ (Lowers.fails made x form operands rest before next none) = λ e is. absurd (no_emission e (emission_of plain_forms form operands next) none is)
  inverse _ _ _ _ (Lowers.emits made x form operands rest before next e answer is more) = λ f same.
      subst (λ (g : Emission). Lowers plain_forms uids (map Emitted g.sequence ++ rest) before g.next answer) (same_emission e f (emission_of plain_forms form operands next) is same) more
  inverse _ _ _ _ (Lowers.counts x rest before next answer free more) = λ m. (answer, more, refl)
  inverse _ _ _ _ (Lowers.unmatched x rest before next free unmatched) = λ m. absurd (matched_not x m unmatched)

  -- one emitted instruction behind another
  two_emitted : (x y : Rtx) (before next : ℕ) (answer : Answer) → IsMatched plain_forms x → IsMatched plain_forms y →
      Lowers plain_forms uids (Emitted x ∷ Emitted y ∷ []) before next answer → answer ≡ Ok (x ∷ y ∷ [])
  two_emitted x y before next answer first second lowers =
      let a = inverse (Emitted x ∷ Emitted y ∷ []) before next answer lowers first in
      let b = inverse (Emitted y ∷ []) (before + 1) next a.0 a.1 second in
      let c = inverse [] (before + 1 + 1) next b.0 b.1 in
      a.2 ∙ ap (behind x) (b.2 ∙ ap (behind y) c)

  -- a form that emits both
  pub both_emitted : (whole x y : Rtx) (form : ℕ) (operands : Ops) (before next last : ℕ) (answer : Answer) → emission_of plain_forms form operands next ≡ Some (emission (x ∷ y ∷ []) last) →
      IsMatched plain_forms x → IsMatched plain_forms y → Lowers plain_forms uids (Emit false whole form operands ∷ []) before next answer → answer ≡ Ok (x ∷ y ∷ [])
  both_emitted whole x y form operands before next last answer is first second lowers =
      two_emitted x y before last answer first second (inverse (Emit false whole form operands ∷ []) before next answer lowers (emission (x ∷ y ∷ []) last) is)

  -- a form that emits three
  pub three_emitted : (whole x y z : Rtx) (form : ℕ) (operands : Ops) (before next last : ℕ) (answer : Answer) → emission_of plain_forms form operands next ≡ Some (emission (x ∷ y ∷ z ∷ []) last) →
      IsMatched plain_forms x → IsMatched plain_forms y → IsMatched plain_forms z → Lowers plain_forms uids (Emit false whole form operands ∷ []) before next answer → answer ≡ Ok (x ∷ y ∷ z ∷ [])
  three_emitted whole x y z form operands before next last answer is first second third lowers =
      let emitted = inverse (Emit false whole form operands ∷ []) before next answer lowers (emission (x ∷ y ∷ z ∷ []) last) is in
      let a = inverse (Emitted x ∷ Emitted y ∷ Emitted z ∷ []) before last answer emitted first in
      a.2 ∙ ap (behind x) (two_emitted y z (before + 1) last a.0 second third a.1)

  -- what stands before, and a form that emits three
  pub three_behind : (whole w x y z : Rtx) (form : ℕ) (operands : Ops) (before next last : ℕ) (answer : Answer) → emission_of plain_forms form operands next ≡ Some (emission (x ∷ y ∷ z ∷ []) last) →
      IsMatched plain_forms w → IsMatched plain_forms x → IsMatched plain_forms y → IsMatched plain_forms z → Lowers plain_forms uids (Lower true w ∷ Emit false whole form operands ∷ []) before next answer →
      answer ≡ Ok (w ∷ x ∷ y ∷ z ∷ [])
  three_behind whole w x y z form operands before next last answer is zeroth first second third lowers =
      let a = inverse (Lower true w ∷ Emit false whole form operands ∷ []) before next answer lowers zeroth in
      a.2 ∙ ap (behind w) (three_emitted whole x y z form operands (before + 1) next last a.0 is first second third a.1)

  -- what stands before, and a form that emits the other
  pub one_before : (whole x y : Rtx) (form : ℕ) (operands : Ops) (before next : ℕ) (answer : Answer) → emission_of plain_forms form operands next ≡ Some (emission (y ∷ []) next) →
      IsMatched plain_forms x → IsMatched plain_forms y → Lowers plain_forms uids (Lower true x ∷ Emit false whole form operands ∷ []) before next answer → answer ≡ Ok (x ∷ y ∷ [])
  one_before whole x y form operands before next answer is first second lowers =
      let a = inverse (Lower true x ∷ Emit false whole form operands ∷ []) before next answer lowers first in
      let emitted = inverse (Emit false whole form operands ∷ []) (before + 1) next a.0 a.1 (emission (y ∷ []) next) is in
      let b = inverse (Emitted y ∷ []) (before + 1) next a.0 emitted second in
      let c = inverse [] (before + 1 + 1) next b.0 b.1 in
      a.2 ∙ ap (behind x) (b.2 ∙ ap (behind y) c)

-- ---- an instruction

-- its plan, and what that comes to
pub record HasPlan (x : Rtx) (next : ℕ) (sequence : List Rtx) : Type 0 where
  pub plan : Plan
  pub is : planned plain_forms false x next ≡ Some plan
  pub comes : (uids : Uids) (answer : Answer) → Lowers plain_forms uids (parts_of false x plan) 0 plan.next answer → answer ≡ Ok sequence

pub expands : (i : Insn) (greatest next : ℕ) (sequence : List Rtx) (answer : InsnAnswer) → (IsUnmatched plain_forms i.pattern → HasPlan i.pattern next sequence) →
    InsnLowers plain_forms i greatest next answer → Expands answer sequence
expands i greatest next sequence _ plans (InsnLowers.free free) = inl refl
expands i greatest next sequence _ plans (InsnLowers.matched formed matched) = inl refl
expands i greatest next sequence _ plans (InsnLowers.nameless formed unmatched none) =
    let p = plans unmatched in absurd (no_plan p.plan (planned plain_forms false i.pattern next) none p.is)
expands i greatest next sequence _ plans (InsnLowers.lowered plan answer formed unmatched is lowers) =
    let p = plans unmatched in
    let same : p.plan ≡ plan = same_plan p.plan plan (planned plain_forms false i.pattern next) p.is is in
    inr (plan.form, ap (by_form plan.form) (all plan same lowers))
  where
    all : (plan : Plan) → (plans unmatched).plan ≡ plan → Lowers plain_forms (uids_for i greatest) (parts_of false i.pattern plan) 0 plan.next answer → answer ≡ Ok sequence
    all plan same lowers =
        let p = plans unmatched in
        p.comes (uids_for i greatest) answer (subst (λ (q : Plan). Lowers plain_forms (uids_for i greatest) (parts_of false i.pattern q) 0 q.next answer) (sym same) lowers)

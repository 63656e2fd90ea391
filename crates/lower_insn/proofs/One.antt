-- What parts come to, and an instruction, is one; and some form matches what stands in an instruction's place.
use Rattle.std.proofs.Common.{◌≡◌, ◌⊎◌, ⊎_elim, inl, inr, ℕ, ◌+◌, Bool, true, false, List, [], ◌∷◌, ◌++◌, map, Option, Some, None, Ok, Err, refl, sym, ap, subst, ◌∙◌}
use Rattle.std.specs.List.{All}
use Rattle.rtx_tree.specs.declared.tree.Rtx.{Rtx}
use Rattle.rtx_tree.specs.declared.function.Insn.{Insn}
use Rattle.md_forms.specs.declared.form.Entry.{Entry}
use Rattle.form_needs.specs.Needs.{needs_form}
use Rattle.gen_emit.specs.declared.emission.Emission.{Emission}
use Rattle.lower_insn.specs.declared.part.Part.{Part}
use Rattle.lower_insn.specs.declared.part.Part.TheVariants.{Lower, Emit, Emitted}
use Rattle.lower_insn.specs.declared.part.Plan.{Plan}
use Rattle.lower_insn.specs.declared.part.Uids.{Uids}
use Rattle.lower_insn.specs.Plan.{planned, emission_of}
use Rattle.lower_insn.specs.Lowered.{Answer, InsnAnswer, InsnLowers, IsMatched, IsUnmatched, Lowers, behind, by_form, parts_of, uids_for, is_note_tree}

both : (b : Bool) → b ≡ true → b ≡ false → ⊥
both b t f = let none : true ≡ false = sym t ∙ f in let never : ⊥ = cc in never

-- a form matches and none does
clash : (forms : List Entry) (x : Rtx) → IsMatched forms x → IsUnmatched forms x → ⊥
clash forms x m none = none m.form m.operands m.matches

counted : (forms : List Entry) (x : Rtx) → (is_note_tree x ≡ true) ⊎ IsMatched forms x → is_note_tree x ≡ false → IsUnmatched forms x → ⊥
counted forms x c missing none = ⊎_elim (λ note. both (is_note_tree x) note missing) (λ m. clash forms x m none) c

some_none : {A : Type 0} (o : Option A) (x : A) → o ≡ None → o ≡ Some x → ⊥
some_none o x n s = let e : None ≡ Some x = sym n ∙ s in let never : ⊥ = cc in never

same_plan : (o : Option Plan) (a b : Plan) → o ≡ Some a → o ≡ Some b → a ≡ b
same_plan o a b m n = let e : Some a ≡ Some b = sym m ∙ n in cc

same_emission : (o : Option Emission) (a b : Emission) → o ≡ Some a → o ≡ Some b → a ≡ b
same_emission o a b m n = let e : Some a ≡ Some b = sym m ∙ n in cc

module _ (forms : List Entry) (uids : Uids) where
  pub lowers_one : (parts : List Part) (before next : ℕ) (a b : Answer) → Lowers forms uids parts before next a → Lowers forms uids parts before next b → a ≡ b
  lowers_one _ _ _ _ _ (Lowers.nothing before next) (Lowers.nothing _ _) = refl
  lowers_one _ _ _ _ _ (Lowers.stays made x rest before next a m l) (Lowers.stays _ _ _ _ _ b n k) = ap (behind x) (lowers_one rest (before + 1) next a b l k)
  lowers_one _ _ _ _ _ (Lowers.stays made x rest before next a m l) (Lowers.planless _ _ _ _ _ none missing) = absurd (clash forms x m none)
  lowers_one _ _ _ _ _ (Lowers.stays made x rest before next a m l) (Lowers.made_by _ _ _ _ _ plan b none so k) = absurd (clash forms x m none)
  lowers_one _ _ _ _ _ (Lowers.planless made x rest before next none missing) (Lowers.stays _ _ _ _ _ b n k) = absurd (clash forms x n none)
  lowers_one _ _ _ _ _ (Lowers.planless made x rest before next none missing) (Lowers.planless _ _ _ _ _ none' missing2) = refl
  lowers_one _ _ _ _ _ (Lowers.planless made x rest before next none missing) (Lowers.made_by _ _ _ _ _ plan b none' so k) = absurd (some_none (planned forms made x next) plan missing so)
  lowers_one _ _ _ _ _ (Lowers.made_by made x rest before next plan a none so l) (Lowers.stays _ _ _ _ _ b n k) = absurd (clash forms x n none)
  lowers_one _ _ _ _ _ (Lowers.made_by made x rest before next plan a none so l) (Lowers.planless _ _ _ _ _ none' missing) = absurd (some_none (planned forms made x next) plan missing so)
  lowers_one _ _ _ _ _ (Lowers.made_by made x rest before next plan a none so l) (Lowers.made_by _ _ _ _ _ plan' b none' so' k) =
      lowers_one (parts_of made x plan ++ rest) before plan.next a b l
      (subst (λ (p : Plan). Lowers forms uids (parts_of made x p ++ rest) before p.next b) (same_plan (planned forms made x next) plan' plan so' so) k)
  lowers_one _ _ _ _ _ (Lowers.fails made x form operands rest before next missing) (Lowers.fails _ _ _ _ _ _ _ missing2) = refl
  lowers_one _ _ _ _ _ (Lowers.fails made x form operands rest before next missing) (Lowers.emits _ _ _ _ _ _ _ e b so k) = absurd (some_none (emission_of forms form operands next) e missing so)
  lowers_one _ _ _ _ _ (Lowers.emits made x form operands rest before next e a so l) (Lowers.fails _ _ _ _ _ _ _ missing) = absurd (some_none (emission_of forms form operands next) e missing so)
  lowers_one _ _ _ _ _ (Lowers.emits made x form operands rest before next e a so l) (Lowers.emits _ _ _ _ _ _ _ e' b so' k) =
      lowers_one (map Emitted e.sequence ++ rest) before e.next a b l
      (subst (λ (d : Emission). Lowers forms uids (map Emitted d.sequence ++ rest) before d.next b) (same_emission (emission_of forms form operands next) e' e so' so) k)
  lowers_one _ _ _ _ _ (Lowers.counts x rest before next a c l) (Lowers.counts _ _ _ _ b d k) = ap (behind x) (lowers_one rest (before + 1) next a b l k)
  lowers_one _ _ _ _ _ (Lowers.counts x rest before next a c l) (Lowers.unmatched _ _ _ _ missing none) = absurd (counted forms x c missing none)
  lowers_one _ _ _ _ _ (Lowers.unmatched x rest before next missing none) (Lowers.counts _ _ _ _ b d k) = absurd (counted forms x d missing none)
  lowers_one _ _ _ _ _ (Lowers.unmatched x rest before next missing none) (Lowers.unmatched _ _ _ _ missing2 none') = refl

-- an instruction comes to one
module _ (forms : List Entry) (i : Insn) (greatest next : ℕ) where
  pub insn_one : (a b : InsnAnswer) → InsnLowers forms i greatest next a → InsnLowers forms i greatest next b → a ≡ b
  insn_one _ _ (InsnLowers.free missing) (InsnLowers.free missing2) = refl
  insn_one _ _ (InsnLowers.free missing) (InsnLowers.matched needs m) = absurd (both (needs_form i) needs missing)
  insn_one _ _ (InsnLowers.free missing) (InsnLowers.nameless needs none so) = absurd (both (needs_form i) needs missing)
  insn_one _ _ (InsnLowers.free missing) (InsnLowers.lowered plan a needs none so l) = absurd (both (needs_form i) needs missing)
  insn_one _ _ (InsnLowers.matched needs m) (InsnLowers.free missing) = absurd (both (needs_form i) needs missing)
  insn_one _ _ (InsnLowers.matched needs m) (InsnLowers.matched needs' m') = refl
  insn_one _ _ (InsnLowers.matched needs m) (InsnLowers.nameless needs' none so) = absurd (clash forms i.pattern m none)
  insn_one _ _ (InsnLowers.matched needs m) (InsnLowers.lowered plan a needs' none so l) = absurd (clash forms i.pattern m none)
  insn_one _ _ (InsnLowers.nameless needs none so) (InsnLowers.free missing) = absurd (both (needs_form i) needs missing)
  insn_one _ _ (InsnLowers.nameless needs none so) (InsnLowers.matched needs' m) = absurd (clash forms i.pattern m none)
  insn_one _ _ (InsnLowers.nameless needs none so) (InsnLowers.nameless needs' none' so') = refl
  insn_one _ _ (InsnLowers.nameless needs none so) (InsnLowers.lowered plan a needs' none' so' l) = absurd (some_none (planned forms false i.pattern next) plan so so')
  insn_one _ _ (InsnLowers.lowered plan a needs none so l) (InsnLowers.free missing) = absurd (both (needs_form i) needs missing)
  insn_one _ _ (InsnLowers.lowered plan a needs none so l) (InsnLowers.matched needs' m) = absurd (clash forms i.pattern m none)
  insn_one _ _ (InsnLowers.lowered plan a needs none so l) (InsnLowers.nameless needs' none' so') = absurd (some_none (planned forms false i.pattern next) plan so' so)
  insn_one _ _ (InsnLowers.lowered plan a needs none so l) (InsnLowers.lowered plan' b needs' none' so' k) =
      let same = same_plan (planned forms false i.pattern next) plan' plan so' so in
      ap (by_form plan.form) (lowers_one forms (uids_for i greatest) (parts_of false i.pattern plan) 0 plan.next a b l
      (subst (λ (p : Plan). Lowers forms (uids_for i greatest) (parts_of false i.pattern p) 0 p.next b) same k)) ∙
      ap (λ (p : Plan). by_form p.form b) (sym same)

-- ---- matched

-- some form matches a pattern, or it is a use or a clobber alone
abbrev pub IsCounted : List Entry → Rtx → Type 0
IsCounted forms x = (is_note_tree x ≡ true) ⊎ IsMatched forms x

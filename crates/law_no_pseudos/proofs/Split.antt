-- A function that names registers of the machine alone does so when its instructions are split by a description, where no register may be made.
use Rattle.std.proofs.Common.{◌≡◌, ⊎_elim, ℕ, if◌then◌else◌, Bool, true, false, List, [], ◌∷◌, Option, Some, None, Ok, refl, sym, subst}
use Rattle.std.specs.Prelude.{option_and_then}
use Rattle.rtx_tree.specs.declared.constants.Constant.{Constant}
use Rattle.rtx_tree.specs.declared.function.Function.{Function}
use Rattle.rtx_tree.specs.declared.function.Insn.{Insn}
use Rattle.rtx_tree.specs.declared.tree.Rtx.{Rtx}
use Rattle.rtl_chain.specs.Counts.{next_pseudo}
use Rattle.md_iter.specs.declared.substitution.Instance.{Instance}
use Rattle.md_match.specs.Pattern.{Ops}
use Rattle.md_forms.specs.declared.form.Entry.{Entry}
use Rattle.md_forms.specs.Forms.{forms_of, names_of}
use Rattle.md_recog.specs.declared.half.Half.TheVariants as half
use Rattle.md_recog.specs.Recog.{patterns_of}
use Rattle.gen_emit.specs.declared.emission.Emission.{Emission}
use Rattle.md_emit.specs.Emitted.{emitted_by}
use Rattle.split.specs.form_needs.Needs.{name_at}
use Rattle.split.specs.insn_replace.Replace.{made}
use Rattle.pass_name.specs.declared.pass.Pass.{Pass}
use Rattle.pass_name.specs.declared.pass.Pass.TheVariants.{Split2}
use Rattle.split.specs.Left.{StandsIn}
use Rattle.split.specs.Split.{facts_of, is_admitted, admitted, Splits, SplitComes}
use Rattle.split.proofs.Insns.{In, made_for}
use Rattle.split.proofs.Kept.{parts_of}
use Rattle.split.proofs.Left.{IsKept, kept}
use Rattle.reload.proofs.law_pass_needs.Places.{all_at, at_place}
use Rattle.law_emitted_hard.specs.Hard.{IsHard, AreHard}
use Rattle.law_emitted_hard.proofs.Found.{found_hard}
use Rattle.law_emitted_hard.proofs.Emitted.{emitted_hard}
use Rattle.law_no_pseudos.specs.Hard.{IsHardInsn, IsHardFunction}

-- each instruction of a function
abbrev EachHard : Function → Type 0
EachHard f = (i : Insn) → StandsIn f i → IsHardInsn i

module _ (constants : List Constant) (instances : List Instance) (pass : Pass) (none : (facts_of pass).new_pseudos ≡ false) where
  abbrev forms : List Entry
  forms = forms_of constants instances

  -- ---- the sequence of a form

  admitted_hard : (e : Emission) (sequence : List Rtx) → AreHard e.sequence → admitted pass e ≡ Some sequence → AreHard sequence
  admitted_hard e sequence hard = by (is_admitted pass e.sequence)
    where
      by : (b : Bool) → (if b then Some e.sequence else None) ≡ Some sequence → AreHard sequence
      by true at = let same : e.sequence ≡ sequence = cc in subst AreHard same hard
      by false at = absurd (let no : ⊥ = cc in no)

  given_hard : (next form : ℕ) (operands : Ops) (sequence : List Rtx) (o : Option Emission) →
      ((e : Emission) → o ≡ Some e → AreHard e.sequence) → option_and_then (admitted pass) o ≡ Some sequence → AreHard sequence
  given_hard next form operands sequence None each at = absurd (let no : ⊥ = cc in no)
  given_hard next form operands sequence (Some e) each at = admitted_hard e sequence (each e refl) at

  split_hard : (next : ℕ) (i : Insn) (form : ℕ) (sequence : List Rtx) → IsHardInsn i → Splits forms pass next i form sequence → AreHard sequence
  split_hard next i form sequence hard splits =
      let match = splits.matches.matches in
      let operands_hard = found_hard splits.operands (patterns_of half.Split match.says) (i.pattern ∷ []) match.matches.matches.shape (hard, tt) in
      given_hard next form splits.operands sequence (emitted_by forms (facts_of pass) form splits.operands next)
      (λ e at. emitted_hard constants instances (facts_of pass) form splits.operands next e none operands_hard at) splits.gives

  -- ---- an instruction that was made

  made_hard : (f : Function) (i : Insn) (sequence : List Rtx) (j : Insn) → AreHard sequence → In (made f i sequence) j → IsHardInsn j
  made_hard f i sequence j all here =
      let for = made_for i _ sequence j here in
      subst IsHardInsn (sym for.is) (at_place IsHard sequence all for.from.0 for.pattern for.from.1)

  -- ---- functions

  hard_step : IsKept forms pass EachHard
  hard_step f g place i form sequence at is comes each j here = ⊎_elim
      (λ (old : StandsIn f j). each j old)
      (λ (new : In (made f i sequence) j).
      made_hard f i sequence j (split_hard (next_pseudo f.insns) i form sequence (each i (place, at)) is.splits) new)
      (parts_of forms pass f g place i (name_at (names_of forms) form) sequence j comes here)

  pub pass_hard : (f g : Function) → IsHardFunction f → SplitComes forms pass f (Ok g) → IsHardFunction g
  pass_hard f g hard comes =
      let each = kept forms pass EachHard hard_step f g comes (λ i here. at_place IsHardInsn f.insns hard here.0 i here.1) in
      all_at IsHardInsn g.insns (λ place i at. each i (place, at))

-- behind reload
pub split_again_hard : (constants : List Constant) (instances : List Instance) (f g : Function) → IsHardFunction f →
    SplitComes (forms_of constants instances) Split2 f (Ok g) → IsHardFunction g
split_again_hard constants instances f g hard comes = pass_hard constants instances Split2 refl f g hard comes

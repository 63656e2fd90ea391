-- What the calls have done, from what their parts did.
use Rattle.std.proofs.Common.{◌≡◌, ℕ, ◌+◌, List, [], ◌∷◌, Some, Ok, Err, slice_get, sym, ap, subst, ◌∙◌}
use Rattle.rtx_tree.specs.declared.function.Insn.{Insn}
use Rattle.rtx_tree.specs.declared.function.Function.{Function}
use Rattle.rtx_tree.specs.declared.tree.Rtx.{Rtx}
use Rattle.new_insns.specs.Replaced.{replaced}
use Rattle.pass_refusal.specs.equate.Side.{Insns}
use Rattle.pass_refusal.specs.equate.Equated.{verdict, Equated}
use Rattle.pass_refusal.specs.Outcome.{RefusesWith}
use Rattle.pass_refusal.specs.Refused.{refused_by}
use Rattle.pass_refusal.specs.declared.refusal.PassRefusal.{PassRefusal}
use Rattle.pass_refusal.proofs.Refusing.{refuses_map}
use Rattle.insn_replace.specs.Replace.{count_with, ReplacedComes}
use Rattle.insn_replace.specs.machine.Compared.{AreMade, AreMany, IsTooMany, IsShort, RefusesLong, IsSame, IsOther, IsRefusal}

many_comes : (f : Function) (place : ℕ) (i : Insn) (rule : List ℕ) (sequence : List Rtx) (e : PassRefusal) → AreMany (count_with f place i sequence) e →
    ReplacedComes f place i rule sequence (Err e)
many_comes f place i rule sequence e is =
    subst (λ (d : PassRefusal). ReplacedComes f place i rule sequence (Err d)) is.refusal_is (ReplacedComes.long is.many)

-- a function that would be too long
pub long_comes : (f : Function) (place : ℕ) (rule : List ℕ) (sequence : List Rtx) (e : PassRefusal) → RefusesLong f place sequence e →
    (i : Insn) → slice_get f.insns place ≡ Some i → RefusesWith e (ReplacedComes f place i rule sequence)
long_comes f place rule sequence e is i here =
    refuses_map e (IsTooMany (count_with f place i sequence)) (ReplacedComes f place i rule sequence) (many_comes f place i rule sequence) (is i here)

module _ (f kept : Function) (same : kept ≡ f) (place : ℕ) (rule : List ℕ) (sequence : List Rtx) (insns : List Insn) (made : AreMade f place sequence insns) (short : IsShort f place sequence) where
  other_comes : (i : Insn) → slice_get f.insns place ≡ Some i → (e : PassRefusal) → IsOther f place i rule (Insns insns) e →
      ReplacedComes f place i rule sequence (Err e)
  other_comes i here e other =
      ReplacedComes.refused other.live e other.live_after
      (subst (λ (xs : List Insn). refused_by i.uid rule (verdict (i ∷ []) (Insns xs) other.live) ≡ Some e) (made i here) other.refused) (short i here).few

  -- a comparison that fails
  pub refused_comes : (e : PassRefusal) →
      ((i : Insn) → slice_get kept.insns place ≡ Some i → RefusesWith e (IsRefusal kept place i rule (Insns insns))) →
      (i : Insn) → slice_get f.insns place ≡ Some i → RefusesWith e (ReplacedComes f place i rule sequence)
  refused_comes e compares i here =
      let refused = subst (λ (h : Function). (i : Insn) → slice_get h.insns place ≡ Some i → RefusesWith e (IsRefusal h place i rule (Insns insns))) same compares i here in
      refuses_map e (IsRefusal f place i rule (Insns insns)) (ReplacedComes f place i rule sequence) (other_comes i here) refused

  -- and one that does not
  pub replaced_comes : (before after : Function) (end : ℕ) (new : List Insn) → before ≡ kept → end ≡ place + 1 → new ≡ insns → after ≡ replaced before place end new →
      ((i : Insn) → slice_get kept.insns place ≡ Some i → IsSame kept place i (Insns insns)) →
      (i : Insn) → slice_get f.insns place ≡ Some i → ReplacedComes f place i rule sequence (Ok after)
  replaced_comes before after end new still behind put is compares i here =
      let equated = subst (λ (h : Function). (i : Insn) → slice_get h.insns place ≡ Some i → IsSame h place i (Insns insns)) same compares i here in
      let comes =
      is
      ∙ (ap (λ (h : Function). replaced h place end new) (still ∙ same)
      ∙ (ap (λ (n : ℕ). replaced f place n new) behind
      ∙ ap (λ (xs : List Insn). replaced f place (place + 1) xs) (put ∙ made i here))) in
      subst (λ (h : Function). ReplacedComes f place i rule sequence (Ok h)) (sym comes)
      (ReplacedComes.replaced equated.live equated.live_after
      (subst (λ (xs : List Insn). Equated (i ∷ []) (Insns xs) equated.live) (made i here) equated.equated) (short i here).few)

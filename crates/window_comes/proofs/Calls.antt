-- What the calls have done, from what their parts did.
use Rattle.std.proofs.Common.{◌≡◌, ℕ, ◌<◌, ◌≤◌, List, length, Some, Ok, Err, slice_get, sym, ap, subst, ◌∙◌}
use Rattle.rtx_tree.specs.declared.function.Insn.{Insn}
use Rattle.rtx_tree.specs.declared.function.Function.{Function}
use Rattle.rtx_tree.specs.declared.tree.Rtx.{Rtx}
use Rattle.new_insns.specs.Replaced.{window, replaced}
use Rattle.insn_replace.specs.Replace.{made}
use Rattle.insn_replace.specs.machine.Compared.{AreMany, IsTooMany}
use Rattle.pass_refusal.specs.equate.Side.{Insns}
use Rattle.pass_refusal.specs.equate.Equated.{verdict, Equated}
use Rattle.pass_refusal.specs.Outcome.{RefusesWith}
use Rattle.pass_refusal.specs.Refused.{refused_by}
use Rattle.pass_refusal.specs.declared.refusal.PassRefusal.{PassRefusal}
use Rattle.pass_refusal.proofs.Refusing.{refuses_map}
use Rattle.window_comes.specs.Window.{count_with, WindowComes}
use Rattle.window_comes.specs.Done.{HasEnds}
use Rattle.window_comes.specs.machine.Compared.{AreMade, IsShort, RefusesLong, IsSame, IsOther, IsRefusal}

module _ (f : Function) (first end : ℕ) (rule : List ℕ) (sequence : List Rtx) where
  many_comes : (i last : Insn) (e : PassRefusal) → AreMany (count_with f first end last sequence) e → WindowComes f first end i last rule sequence (Err e)
  many_comes i last e is =
      subst (λ (d : PassRefusal). WindowComes f first end i last rule sequence (Err d)) is.refusal_is (WindowComes.long is.many)

  -- a function that would be too long
  pub long_comes : (e : PassRefusal) → RefusesLong f first end sequence e →
      (i last : Insn) → HasEnds f first end i last → RefusesWith e (WindowComes f first end i last rule sequence)
  long_comes e is i last ends =
      refuses_map e (IsTooMany (count_with f first end last sequence)) (WindowComes f first end i last rule sequence) (many_comes i last) (is last ends.at_last)

module _ (f kept : Function) (same : kept ≡ f) (first end : ℕ) (rule : List ℕ) (sequence : List Rtx) (insns : List Insn) (are : AreMade f end sequence insns) (short : IsShort f first end sequence) where
  other_comes : (i last : Insn) → HasEnds f first end i last → (e : PassRefusal) → IsOther f first end i rule (Insns insns) e →
      WindowComes f first end i last rule sequence (Err e)
  other_comes i last ends e other =
      WindowComes.refused other.live e other.live_after
      (subst (λ (xs : List Insn). refused_by i.uid rule (verdict (window f first end) (Insns xs) other.live) ≡ Some e) (are last ends.at_last) other.refused)
      (short last ends.at_last).few

  -- a comparison that fails
  pub refused_comes : (e : PassRefusal) →
      ((i : Insn) → slice_get kept.insns first ≡ Some i → RefusesWith e (IsRefusal kept first end i rule (Insns insns))) →
      (i last : Insn) → HasEnds f first end i last → RefusesWith e (WindowComes f first end i last rule sequence)
  refused_comes e compares i last ends =
      let refused = subst (λ (h : Function). (i : Insn) → slice_get h.insns first ≡ Some i → RefusesWith e (IsRefusal h first end i rule (Insns insns))) same compares i ends.at_first in
      refuses_map e (IsRefusal f first end i rule (Insns insns)) (WindowComes f first end i last rule sequence) (other_comes i last ends) refused

  -- and one that does not
  pub replaced_comes : (before after : Function) (new : List Insn) → first < end → end ≤ length f.insns → before ≡ kept → new ≡ insns → after ≡ replaced before first end new →
      IsSame kept first end (Insns insns) → (i last : Insn) → HasEnds f first end i last → WindowComes f first end i last rule sequence (Ok after)
  replaced_comes before after new order within still put is compares i last ends =
      let equated = subst (λ (h : Function). IsSame h first end (Insns insns)) same compares in
      let comes : after ≡ replaced f first end (made f last sequence) =
      is ∙ (ap (λ (h : Function). replaced h first end new) (still ∙ same) ∙ ap (λ (xs : List Insn). replaced f first end xs) (put ∙ are last ends.at_last)) in
      subst (λ (h : Function). WindowComes f first end i last rule sequence (Ok h)) (sym comes)
      (WindowComes.replaced
      (record {
        order = order;
        within = within;
        live = equated.live;
        are = equated.live_after;
        equated = subst (λ (xs : List Insn). Equated (window f first end) (Insns xs) equated.live) (are last ends.at_last) equated.equated;
      })
      (short last ends.at_last).few)

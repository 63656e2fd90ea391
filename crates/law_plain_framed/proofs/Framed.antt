-- The frame pass refuses nothing of the plain forms but a frame that is too large.
use Rattle.std.proofs.Common.{◌≡◌, ◌⊎◌, inl, inr, ◌<◌, ℕ, Ok, refl, sym, ap, subst}
use Rattle.std.specs.List.{AllByRecursion}
use Rattle.rtx_tree.specs.Limit.{most_frame}
use Rattle.rtx_tree.specs.declared.function.Function.{Function}
use Rattle.rtx_tree.specs.declared.function.Insn.{Insn}
use Rattle.assign.specs.declared.places.Layout.{Layout}
use Rattle.form_needs.specs.Needs.{output_facts}
use Rattle.frame.specs.law_frame.Frame.{next_uid, IsFramed}
use Rattle.frame.specs.Framed.{Answer, FrameComes, IsFirstUnmatched}
use Rattle.plain_forms.specs.Forms.{plain_forms}
use Rattle.law_plain_framed.specs.Framed.{SavesRegister, PlainFrames}
use Rattle.law_plain_framed.proofs.Items.{between}
use Rattle.law_plain_framed.proofs.Insns.{TakenIfNew, finished, all_taken}

module _ (f : Function) (layout : Layout) (saved : AllByRecursion SavesRegister layout.saved) where
  abbrev first : ℕ
  first = next_uid f.insns

  -- each new instruction is matched
  taken_of : (g : Function) → IsFramed layout f g → AllByRecursion (TakenIfNew output_facts layout first) g.insns
  taken_of g framed =
      subst (AllByRecursion (TakenIfNew output_facts layout first)) (sym (ap (λ (h : Function). h.insns) framed.framed_is))
      (all_taken output_facts layout first saved first framed.chain (finished output_facts layout first f.insns framed.chain refl framed.finished))

  refuted : (g : Function) (i : Insn) → IsFramed layout f g → IsFirstUnmatched plain_forms first g.insns i → ⊥
  refuted g i framed u =
      let all = subst (AllByRecursion (TakenIfNew output_facts layout first)) u.insns_are (taken_of g framed) in
      let t = between (TakenIfNew output_facts layout first) u.before u.behind i all u.new in
      u.unmatched t.form t.operands t.matches

  by_answer : (answer : Answer) → FrameComes plain_forms f layout answer → (most_frame < layout.size) ⊎ ((g : Function) × (answer ≡ Ok g))
  by_answer _ (FrameComes.large large) = inl large
  by_answer _ (FrameComes.unmatched g i small framed first) = absurd (refuted g i framed first)
  by_answer _ (FrameComes.framed g small framed matched) = inr (g, refl)

pub frames : PlainFrames
frames f layout answer saved comes = by_answer f layout saved answer comes

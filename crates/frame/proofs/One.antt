-- What a function comes to with a frame is one answer.
use Rattle.std.proofs.Common.{◌≡◌, ℕ, ◌<◌, ◌≤◌, true, List, [], ◌∷◌, ◌++◌, Ok, Err, refl, sym, ap, subst, ◌∙◌, arith}
use Rattle.std.proofs.lemmas.List.Elements.{All-head, All-tail}
use Rattle.rtx_tree.specs.Limit.{most_frame}
use Rattle.rtx_tree.specs.declared.function.Function.{Function}
use Rattle.rtx_tree.specs.declared.function.Insn.{Insn}
use Rattle.rtl_chain.proofs.Ends.{finish_one}
use Rattle.md_forms.specs.declared.form.Entry.{Entry}
use Rattle.md_desc.specs.Recog.{NoneMatches}
use Rattle.form_needs.specs.Needs.{output_facts}
use Rattle.assign.specs.declared.places.Layout.{Layout}
use Rattle.law_frame.specs.Frame.{framed_insns, with_insns, next_uid, IsFramed}
use Rattle.pass_refusal.specs.Refused.{unmatched_insn}
use Rattle.frame.specs.Framed.{Answer, is_new, IsMatchedIfNew, AreMatched, IsFirstUnmatched, FrameComes}

framed_one : (layout : Layout) (f g h : Function) → IsFramed layout f g → IsFramed layout f h → g ≡ h
framed_one layout f g h a b =
    a.framed_is ∙ ap (λ chain. with_insns f (framed_insns layout (next_uid f.insns) chain))
    (finish_one f.insns a.chain b.chain a.finished b.finished) ∙
    sym b.framed_is

module _ (forms : List Entry) (first : ℕ) where
  clash : {P : Type 0} (i : Insn) → IsMatchedIfNew forms first i → is_new first i ≡ true → NoneMatches forms output_facts i.pattern → P
  clash i matched new none = let m = matched new in absurd (none m.form m.operands m.matches)

  all_clash : {P : Type 0} (before behind : List Insn) (i : Insn) → AreMatched forms first (before ++ i ∷ behind) → is_new first i ≡ true →
      NoneMatches forms output_facts i.pattern → P
  all_clash [] behind i matched new none = clash i (All-head (IsMatchedIfNew forms first) i behind matched) new none
  all_clash (j ∷ before) behind i matched new none =
      all_clash before behind i (All-tail (IsMatchedIfNew forms first) j (before ++ i ∷ behind) matched) new none

  first_by : (before before' behind behind' : List Insn) (i j : Insn) → before ++ i ∷ behind ≡ before' ++ j ∷ behind' →
      AreMatched forms first before → AreMatched forms first before' → is_new first i ≡ true → is_new first j ≡ true →
      NoneMatches forms output_facts i.pattern → NoneMatches forms output_facts j.pattern → i ≡ j
  first_by [] [] behind behind' i j same m m' new new' none none' = let here : i ≡ j = cc in here
  first_by [] (k ∷ before') behind behind' i j same m m' new new' none none' =
      let here : k ≡ i = cc in
      clash i (subst (IsMatchedIfNew forms first) here (All-head (IsMatchedIfNew forms first) k before' m')) new none
  first_by (k ∷ before) [] behind behind' i j same m m' new new' none none' =
      let here : k ≡ j = cc in
      clash j (subst (IsMatchedIfNew forms first) here (All-head (IsMatchedIfNew forms first) k before m)) new' none'
  first_by (k ∷ before) (l ∷ before') behind behind' i j same m m' new new' none none' =
      let later : before ++ i ∷ behind ≡ before' ++ j ∷ behind' = cc in
      first_by before before' behind behind' i j later (All-tail (IsMatchedIfNew forms first) k before m)
      (All-tail (IsMatchedIfNew forms first) l before' m') new new' none none'

  first_one : (insns : List Insn) (i j : Insn) → IsFirstUnmatched forms first insns i → IsFirstUnmatched forms first insns j → i ≡ j
  first_one insns i j a b = first_by a.before b.before a.behind b.behind i j (sym a.insns_are ∙ b.insns_are) a.matched b.matched a.new b.new
      a.unmatched b.unmatched

  none_first : {P : Type 0} (insns : List Insn) (i : Insn) → AreMatched forms first insns → IsFirstUnmatched forms first insns i → P
  none_first insns i matched a = all_clash a.before a.behind i (subst (AreMatched forms first) a.insns_are matched) a.new a.unmatched

too_far : {P : Type 0} (layout : Layout) → most_frame < layout.size → layout.size ≤ most_frame → P
too_far layout large small = absurd (omega (arith, large, small))

pub frame_one : (forms : List Entry) (f : Function) (layout : Layout) (a b : Answer) → FrameComes forms f layout a →
    FrameComes forms f layout b → a ≡ b
frame_one forms f layout _ _ (FrameComes.large large) (FrameComes.large large') = refl
frame_one forms f layout _ _ (FrameComes.large large) (FrameComes.unmatched g i small framed is) = too_far layout large small
frame_one forms f layout _ _ (FrameComes.large large) (FrameComes.framed g small framed matched) = too_far layout large small
frame_one forms f layout _ _ (FrameComes.unmatched g i small framed is) (FrameComes.large large) = too_far layout large small
frame_one forms f layout _ _ (FrameComes.unmatched g i small framed is) (FrameComes.unmatched h j small' framed' is') =
    ap (λ (k : Insn). Err (unmatched_insn k)) (first_one forms (next_uid f.insns) h.insns i j
    (subst (λ (k : Function). IsFirstUnmatched forms (next_uid f.insns) k.insns i) (framed_one layout f g h framed framed') is) is')
frame_one forms f layout _ _ (FrameComes.unmatched g i small framed is) (FrameComes.framed h small' framed' matched) =
    none_first forms (next_uid f.insns) h.insns i matched
    (subst (λ (k : Function). IsFirstUnmatched forms (next_uid f.insns) k.insns i) (framed_one layout f g h framed framed') is)
frame_one forms f layout _ _ (FrameComes.framed g small framed matched) (FrameComes.large large) = too_far layout large small
frame_one forms f layout _ _ (FrameComes.framed g small framed matched) (FrameComes.unmatched h j small' framed' is) =
    none_first forms (next_uid f.insns) g.insns j matched
    (subst (λ (k : Function). IsFirstUnmatched forms (next_uid f.insns) k.insns j) (framed_one layout f h g framed' framed) is)
frame_one forms f layout _ _ (FrameComes.framed g small framed matched) (FrameComes.framed h small' framed' matched') =
    ap (λ (k : Function). Ok k) (framed_one layout f g h framed framed')

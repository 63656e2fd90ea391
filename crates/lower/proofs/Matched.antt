-- Some form matches each instruction that needs one, once a function is lowered.
use Rattle.std.proofs.Common.{◌≡◌, ◌⊎◌, ⊎_elim, inr, ℕ, suc, ◌+◌, ◌<◌, Bool, true, false, not, ◌&&◌, List, [], ◌∷◌, ◌++◌, length, take, drop, Some, None, Ok, Err, sym, ap, subst, ◌∙◌, arith}
use Rattle.std.specs.Prelude.{slice_get, IfOk}
use Rattle.std.specs.List.{All}
use Rattle.std.proofs.lemmas.List.{append_assoc, length-append, length-take-le, take_all}
use Rattle.std.proofs.lemmas.List.Elements.{All-nil, All-cons, All-head, All-tail, All-append}
use Rattle.std.proofs.lemmas.Option.{slice_get_within, get_or_from_slice_get}
use Rattle.std.proofs.Math.Seq.{take-suc, take-append_seam}
use Rattle.rtx_tree.specs.declared.tree.Rtx.{Rtx}
use Rattle.rtx_tree.specs.declared.function.Insn.{Insn}
use Rattle.rtx_tree.specs.declared.function.Function.{Function}
use Rattle.rtl_chain.specs.Counts.{greatest_uid, next_pseudo}
use Rattle.md_forms.specs.declared.form.Entry.{Entry}
use Rattle.lower_insn.specs.form_needs.Needs.{is_kind, needs_form}
use Rattle.new_insns.specs.Made.{kind_of, insn_for, insns_for}
use Rattle.insn_replace.specs.Replace.{made, ReplacedComes}
use Rattle.insn_replace.proofs.MadeLaws.{made_long}
use Rattle.lower_insn.specs.declared.part.Part.{Part}
use Rattle.lower_insn.specs.declared.part.Uids.{Uids}
use Rattle.lower_insn.specs.Lowered as insn
use Rattle.lower_insn.specs.Lowered.{InsnAnswer, InsnLowers, IsMatched, Lowers, by_form, is_note_tree}
use Rattle.lower.specs.Lower.{Answer, IsMatchedInsn, AreMatched, LowerFrom, LowerComes, rule_of}

module _ (forms : List Entry) where
  -- ---- what stands in the place of an instruction

  -- some form matches a pattern, or it is a use or a clobber alone
  abbrev IsCounted : Rtx → Type 0
  IsCounted x = (is_note_tree x ≡ true) ⊎ IsMatched forms x

  abbrev AreCounted : insn.Answer → Type 0
  AreCounted answer = IfOk answer (All IsCounted)

  behind_counted : (x : Rtx) (answer : insn.Answer) → IsCounted x → AreCounted answer → AreCounted (insn.behind x answer)
  behind_counted x (Ok sequence) is are = All-cons IsCounted x sequence is are
  behind_counted x (Err e) is are = tt

  all_counted : (uids : Uids) (parts : List Part) (before next : ℕ) (answer : insn.Answer) → Lowers forms uids parts before next answer → AreCounted answer
  all_counted uids _ _ _ _ (Lowers.nothing before next) = All-nil IsCounted
  all_counted uids _ _ _ _ (Lowers.stays own x rest before next answer is more) = behind_counted x answer (inr is) (all_counted uids rest (before + 1) next answer more)
  all_counted uids _ _ _ _ (Lowers.planless own x rest before next none missing) = tt
  all_counted uids _ _ _ _ (Lowers.made_by own x rest before next plan answer none so more) = all_counted uids _ before plan.next answer more
  all_counted uids _ _ _ _ (Lowers.fails own x form operands rest before next missing) = tt
  all_counted uids _ _ _ _ (Lowers.emits own x form operands rest before next e answer so more) = all_counted uids _ before e.next answer more
  all_counted uids _ _ _ _ (Lowers.counts x rest before next answer is more) = behind_counted x answer is (all_counted uids rest (before + 1) next answer more)
  all_counted uids _ _ _ _ (Lowers.unmatched x rest before next other none) = tt

  -- an instruction is matched where it stays, and what is to stand in its place counts
  abbrev IsDone : Insn → InsnAnswer → Type 0
  IsDone i (Ok None) = IsMatchedInsn forms i
  IsDone i (Ok (Some l)) = All IsCounted l.sequence
  IsDone i (Err e) = Unit {0}

  done_by : (i : Insn) (form : ℕ) (answer : insn.Answer) → AreCounted answer → IsDone i (by_form form answer)
  done_by i form (Ok sequence) are = are
  done_by i form (Err e) are = tt

  not_needed : {P : Type 0} (needs : Bool) → needs ≡ false → needs ≡ true → P
  not_needed needs free needed = absurd (let never : ⊥ = cc in never)

  insn_done : (i : Insn) (greatest next : ℕ) (answer : InsnAnswer) → InsnLowers forms i greatest next answer → IsDone i answer
  insn_done i greatest next _ (InsnLowers.free free) = λ needed. not_needed (needs_form i) free needed
  insn_done i greatest next _ (InsnLowers.matched needs is) = λ again. is
  insn_done i greatest next _ (InsnLowers.nameless needs none missing) = tt
  insn_done i greatest next _ (InsnLowers.lowered plan answer needs none so comes) = done_by i plan.form answer (all_counted _ _ 0 plan.next answer comes)

  -- ---- the instructions that are made of it

  noted : {P : Type 0} (kind note : Bool) → note ≡ true → (kind && not note) ≡ true → P
  noted true true is needs = absurd (let never : ⊥ = cc in never)
  noted false true is needs = absurd (let never : ⊥ = cc in never)
  noted kind false is needs = absurd (let never : ⊥ = cc in never)

  new_matched : (old : Insn) (uid : ℕ) (x : Rtx) → IsCounted x → IsMatchedInsn forms (insn_for old uid x)
  new_matched old uid x is needs = ⊎_elim (λ note. noted (is_kind (kind_of x)) (is_note_tree x) note needs) (λ matched. matched) is

  are_matched : (old : Insn) (uid : ℕ) (sequence : List Rtx) → All IsCounted sequence → All (IsMatchedInsn forms) (insns_for old uid sequence)
  are_matched old uid [] are = All-nil (IsMatchedInsn forms)
  are_matched old uid (x ∷ []) are = All-cons (IsMatchedInsn forms) (insn_for old old.uid x) [] (new_matched old old.uid x (All-head IsCounted x [] are)) (All-nil (IsMatchedInsn forms))
  are_matched old uid (x ∷ y ∷ more) are =
      All-cons (IsMatchedInsn forms) (insn_for old uid x) (insns_for old (uid + 1) (y ∷ more)) (new_matched old uid x (All-head IsCounted x (y ∷ more) are))
      (are_matched old (uid + 1) (y ∷ more) (All-tail IsCounted x (y ∷ more) are))

  -- ---- the function

  up_to : {A : Type 0} (xs new ys : List A) (n : ℕ) → n ≡ length (xs ++ new) → take n (xs ++ (new ++ ys)) ≡ xs ++ new
  up_to {A = A} xs new ys n is = ap (λ (k : ℕ). take k (xs ++ (new ++ ys))) is ∙ (ap (take (length (xs ++ new))) (sym (append_assoc xs new ys)) ∙ take-append_seam (xs ++ new) ys)

  -- what stands before the place behind the sequence
  front_is : (f g : Function) (place : ℕ) (i : Insn) (rule : List ℕ) (s : List Rtx) → place < length f.insns → ReplacedComes f place i rule s (Ok g) →
      take (place + length s) g.insns ≡ take place f.insns ++ made f i s
  front_is f _ place i rule s within (ReplacedComes.replaced live after same short) =
      let front = length-take-le place f.insns (omega (arith, within)) in
      let new = made_long i (greatest_uid f.insns + 1) s in
      let whole = length-append (take place f.insns) (made f i s) in
      up_to (take place f.insns) (made f i s) (drop (place + 1) f.insns) (place + length s) (omega (arith, front, new, whole))

  one_more : (f : Function) (place : ℕ) (i : Insn) → slice_get f.insns place ≡ Some i → IsMatchedInsn forms i → All (IsMatchedInsn forms) (take place f.insns) →
      All (IsMatchedInsn forms) (take (place + 1) f.insns)
  one_more f place i at is before =
      subst (All (IsMatchedInsn forms)) (sym (take-snoc f.insns place i at)) (All-append (IsMatchedInsn forms) (take place f.insns) (i ∷ []) before (All-cons (IsMatchedInsn forms) i [] is (All-nil (IsMatchedInsn forms))))
    where
      take-snoc : (xs : List Insn) (k : ℕ) (x : Insn) → slice_get xs k ≡ Some x → take (k + 1) xs ≡ take k xs ++ (x ∷ [])
      take-snoc xs k x there = let one : k + 1 ≡ suc k = omega arith in ap (λ (n : ℕ). take n xs) one ∙ (take-suc xs k x (slice_get_within xs k x there) ∙ ap (λ (y : Insn). take k xs ++ (y ∷ [])) (get_or_from_slice_get xs k x x there))

  some_more : (f g : Function) (place : ℕ) (i : Insn) (rule : List ℕ) (s : List Rtx) → place < length f.insns → ReplacedComes f place i rule s (Ok g) → All IsCounted s →
      All (IsMatchedInsn forms) (take place f.insns) → All (IsMatchedInsn forms) (take (place + length s) g.insns)
  some_more f g place i rule s within comes are before =
      subst (All (IsMatchedInsn forms)) (sym (front_is f g place i rule s within comes))
      (All-append (IsMatchedInsn forms) (take place f.insns) (made f i s) before (are_matched i (greatest_uid f.insns + 1) s are))

  matched_from : (f : Function) (place : ℕ) (answer : Answer) → LowerFrom forms f place answer → All (IsMatchedInsn forms) (take place f.insns) → IfOk answer (AreMatched forms)
  matched_from _ _ _ (LowerFrom.done f place end) before = subst (All (IsMatchedInsn forms)) (take_all place f.insns end) before
  matched_from _ _ _ (LowerFrom.stays f place i answer at is more) before =
      matched_from f (place + 1) answer more (one_more f place i at (insn_done i (greatest_uid f.insns) (next_pseudo f.insns) (Ok None) is) before)
  matched_from _ _ _ (LowerFrom.unmatched f place i e at is) before = tt
  matched_from _ _ _ (LowerFrom.differs f place i l e at is comes) before = tt
  matched_from _ _ _ (LowerFrom.replaced f place i l g answer at is comes more) before =
      matched_from g (place + length l.sequence) answer more
      (some_more f g place i (rule_of forms l) l.sequence (slice_get_within f.insns place i at) comes (insn_done i (greatest_uid f.insns) (next_pseudo f.insns) (Ok (Some l)) is) before)

pub lower_matched : (forms : List Entry) (f g : Function) → LowerComes forms f (Ok g) → AreMatched forms g
lower_matched forms f g comes = matched_from forms f 0 (Ok g) comes (All-nil (IsMatchedInsn forms))

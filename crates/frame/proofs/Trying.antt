-- New instructions are tried, one behind the other.
use Rattle.std.proofs.Common.{◌≡◌, ℕ, suc, add-one, ◌+◌, ◌<◌, ◌≤◌, true, List, [], ◌∷◌, ◌++◌}
use Rattle.std.proofs.Common.{length, take, drop, get_or, Ok, Err, sym, ap, subst, ◌∙◌, arith}
use Rattle.std.proofs.lemmas.Bool.Decides.{nat_tests}
use Rattle.std.proofs.lemmas.List.{take-append-drop, take_more, take_all}
use Rattle.std.proofs.lemmas.List.Elements.{All-nil, All-cons, All-append}
use Rattle.std.proofs.Math.Seq.{drop-cons}
use Rattle.rtx_tree.specs.Limit.{most_frame}
use Rattle.rtx_tree.specs.declared.function.Function.{Function}
use Rattle.rtx_tree.specs.declared.function.Insn.{Insn}
use Rattle.md_forms.specs.declared.form.Entry.{Entry}
use Rattle.assign.specs.declared.places.Layout.{Layout}
use Rattle.law_frame.specs.Frame.{framed_insns, with_insns, next_uid, IsFramed}
use Rattle.pass_refusal.specs.Outcome.{RefusesWith}
use Rattle.pass_refusal.specs.declared.refusal.PassRefusal.{PassRefusal}
use Rattle.pass_refusal.proofs.Refusing.{refuses_map}
use Rattle.frame.specs.Framed.{is_new, IsMatchedIfNew, AreMatched, FrameComes}
use Rattle.frame.specs.Framed.{too_large}
use Rattle.frame.specs.machine.Steps.{Finishes, Tried, RefusesInsn, RefusesFirst}
use Rattle.frame.specs.machine.Steps.{TriesAll}

-- an instruction that is not new need not be matched
pub old_passes : (forms : List Entry) (first : ℕ) (i : Insn) → i.uid < first →
    IsMatchedIfNew forms first i
old_passes forms first i old = λ new. absurd (let no : ⊥ = grind (arith, nat_tests, old, new) in no)

pub new_is : (first : ℕ) (i : Insn) → first ≤ i.uid → is_new first i ≡ true
new_is first i new = grind (arith, nat_tests, new)

-- the first that is refused is the first of all
pub first_refused : (forms : List Entry) (first : ℕ) (insns before behind : List Insn) (i : Insn)
    (e : PassRefusal) → insns ≡ before ++ i ∷ behind → AreMatched forms first before →
    RefusesWith e (RefusesInsn forms first i) → RefusesWith e (RefusesFirst forms first insns)
first_refused forms first insns before behind i e are matched refused =
    refuses_map e (RefusesInsn forms first i) (RefusesFirst forms first insns) (λ e is. record {
      insn = i;
      is_first = record {
        before = before;
        behind = behind;
        insns_are = are;
        matched =
            matched;
        new = is.new;
        unmatched = is.unmatched;
      };
      refusal_is = is.refusal_is;
    }) refused

parted_at : (insns : List Insn) (k : ℕ) (i : Insn) → k < length insns → i ≡ get_or insns k i →
    insns ≡ take k insns ++ i ∷ drop (k + 1) insns
parted_at insns k i within is =
    sym (take-append-drop k insns) ∙
    ap (λ (behind : List Insn). take k insns ++ behind)
    (rw add-one (drop-cons insns k i within ∙ ap (λ (j : Insn). j ∷ drop (suc k) insns) (sym is)))

-- as far as a loop has come
pub matched_more : (forms : List Entry) (first : ℕ) (insns : List Insn) (k : ℕ) (i : Insn) →
    k < length insns → i ≡ get_or insns k i → AreMatched forms first (take k insns) →
    IsMatchedIfNew forms first i → AreMatched forms first (take (k + 1) insns)
matched_more forms first insns k i within is matched one =
    subst (AreMatched forms first)
    (sym (take_more insns k i within ∙ ap (λ (j : Insn). take k insns ++ j ∷ []) (sym is)))
    (All-append (IsMatchedIfNew forms first) (take k insns) (i ∷ []) matched
    (All-cons (IsMatchedIfNew forms first) i [] one (All-nil (IsMatchedIfNew forms first))))

pub matched_all : (forms : List Entry) (first : ℕ) (insns : List Insn) (k : ℕ) → length insns ≤ k →
    AreMatched forms first (take k insns) → AreMatched forms first insns
matched_all forms first insns k past matched =
    subst (AreMatched forms first) (take_all k insns past) matched

pub refused_at : (forms : List Entry) (first : ℕ) (insns : List Insn) (k : ℕ) (i : Insn)
    (e : PassRefusal) → k < length insns →
    i ≡ get_or insns k i → AreMatched forms first (take k insns) →
    RefusesWith e (RefusesInsn forms first i) →
    RefusesWith e (RefusesFirst forms first insns)
refused_at forms first insns k i e within is matched r =
    first_refused forms first insns (take k insns) (drop (k + 1) insns) i e
    (parted_at insns k i within is) matched r

-- ---- the function

module _ (forms : List Entry) (f : Function) (layout : Layout) where
  pub large_refused : (e : PassRefusal) → most_frame < layout.size → e ≡ too_large layout →
      RefusesWith e (FrameComes forms f layout)
  large_refused e large is = subst (λ (e : PassRefusal). RefusesWith e (FrameComes forms f layout))
      (sym is) (FrameComes.large large)

  module _ (whole g : Function) (first : ℕ) (insns : List Insn) (same : insns ≡ f.insns)
      (next : first ≡ next_uid insns) where
    first_is : first ≡ next_uid f.insns
    first_is = next ∙ ap next_uid same

    pub framed_is : Finishes f whole →
        g ≡ with_insns whole (framed_insns layout first whole.insns) → IsFramed layout f g
    framed_is finishes is = record {
      chain = finishes.chain;
      finished = finishes.finishes;
      framed_is = is ∙ ap (λ (uid : ℕ). with_insns whole (framed_insns layout uid whole.insns))
          first_is ∙
          ap (λ (h : Function). with_insns h (framed_insns layout (next_uid f.insns) h.insns))
          finishes.is;
    }

    tried_is : (chain : List Insn) (r : Tried) → chain ≡ g.insns → TriesAll forms first chain r →
        TriesAll forms (next_uid f.insns) g.insns r
    tried_is chain r is tried =
        subst (λ (uid : ℕ). TriesAll forms uid g.insns r) first_is
        (subst (λ (js : List Insn). TriesAll forms first js r) is tried)

    pub gave : (chain : List Insn) (done : Unit {0}) → chain ≡ g.insns → layout.size ≤ most_frame →
        IsFramed layout f g →
        TriesAll forms first chain (Ok done) → FrameComes forms f layout (Ok g)
    gave chain done is small framed tried = FrameComes.framed g small framed
        (tried_is chain (Ok done) is tried)

    pub refused : (chain : List Insn) (e : PassRefusal) → chain ≡ g.insns →
        layout.size ≤ most_frame → IsFramed layout f g →
        TriesAll forms first chain (Err e) → RefusesWith e (FrameComes forms f layout)
    refused chain e is small framed tried =
        refuses_map e (RefusesFirst forms (next_uid f.insns) g.insns) (FrameComes forms f layout)
        (λ e is.
        subst (λ (e : PassRefusal). FrameComes forms f layout (Err e)) (sym is.refusal_is)
        (FrameComes.unmatched g is.insn small framed is.is_first)) (tried_is chain (Err e) is tried)

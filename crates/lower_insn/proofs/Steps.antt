-- The steps by which parts are made, on a stack.
use Rattle.std.proofs.Common.{◌≡◌, ◌⊎◌, ℕ, ◌+◌, Bool, true, false, List, [], ◌∷◌, ◌++◌, length, map, Option, Some, None, Ok, Err, refl, sym, ap, subst, ◌∙◌, append_assoc}
use Rattle.std.specs.Prelude.{reverse}
use Rattle.std.proofs.lemmas.List.{append-nil, reverse-append, reverse-reverse, length_push}
use Rattle.rtx_tree.specs.declared.tree.Rtx.{Rtx}
use Rattle.md_match.specs.Pattern.{Ops}
use Rattle.md_forms.specs.declared.form.Entry.{Entry}
use Rattle.gen_emit.specs.declared.emission.Emission.{Emission}
use Rattle.pass_refusal.specs.declared.refusal.PassRefusal.{PassRefusal}
use Rattle.pass_refusal.specs.Outcome.{RefusesWith}
use Rattle.lower_insn.specs.declared.part.Part.{Part}
use Rattle.lower_insn.specs.declared.part.Part.TheVariants.{Lower, Emit, Emitted}
use Rattle.lower_insn.specs.declared.part.Plan.{Plan}
use Rattle.lower_insn.specs.declared.part.Uids.{Uids}
use Rattle.lower_insn.specs.declared.work.Work.{Work}
use Rattle.lower_insn.specs.Plan.{planned, emission_of}
use Rattle.lower_insn.specs.Lowered.{Answer, IsMatched, IsUnmatched, Lowers, behind, parts_of, uid_at, unmatched_at, is_note_tree}
use Rattle.lower_insn.specs.machine.Work.{Comes, after, with_part}

-- ---- lists

next_part : (parts : List Part) (part : Part) → reverse (parts ++ part ∷ []) ≡ part ∷ reverse parts
next_part parts part = reverse-append parts (part ∷ [])

next_parts : (parts more : List Part) → reverse (parts ++ reverse more) ≡ more ++ reverse parts
next_parts parts more = reverse-append parts (reverse more) ∙ ap (λ (front : List Part). front ++ reverse parts) (reverse-reverse more)

after_behind : (made : List Rtx) (x : Rtx) (answer : Answer) → after (made ++ x ∷ []) answer ≡ after made (behind x answer)
after_behind made x (Ok sequence) = ap (λ (s : List Rtx). Ok s) (append_assoc made (x ∷ []) sequence)
after_behind made x (Err e) = refl

-- ---- uids

-- of what has something behind it
pub uid_before : (uids : Uids) (parts : List Part) (before : ℕ) → (parts ≡ [] → ⊥) → uids.first + before ≡ uid_at uids (reverse parts) before
uid_before uids [] before some = absurd (some refl)
uid_before uids (part ∷ parts) before some = by (reverse (part ∷ parts)) refl
  where
    by : (back : List Part) → reverse (part ∷ parts) ≡ back → uids.first + before ≡ uid_at uids back before
    by [] is = absurd (some (sym (reverse-reverse (part ∷ parts)) ∙ ap reverse is))
    by (last ∷ back) is = refl

-- ---- steps

-- work with one part more, and with one pattern made more
abbrev pub made_more : Work → Rtx → Work
made_more work x = record work { sequence = work.sequence ++ x ∷ [] }

-- and with more parts
abbrev pub put_more : Work → List Part → ℕ → Work
put_more work parts next = record { parts = work.parts ++ reverse parts; sequence = work.sequence; next = next }

module _ (forms : List Entry) (uids : Uids) where
  -- what a next part comes to
  comes_of : (work : Work) (part : Part) (rest answer : Answer) → Lowers forms uids (part ∷ reverse work.parts) (length work.sequence) work.next rest →
      answer ≡ after work.sequence rest → Comes forms uids (with_part work part) answer
  comes_of work part rest answer lowers is = record {
    rest = rest;
    lowers = subst (λ (parts : List Part). Lowers forms uids parts (length work.sequence) work.next rest) (sym (next_part work.parts part)) lowers;
    is = is;
  }

  -- one pattern more was made
  one_made : (work : Work) (part : Part) (x : Rtx) (answer : Answer) →
      ((rest : Answer) → Lowers forms uids (reverse work.parts) (length work.sequence + 1) work.next rest → Lowers forms uids (part ∷ reverse work.parts) (length work.sequence) work.next (behind x rest)) →
      Comes forms uids (made_more work x) answer → Comes forms uids (with_part work part) answer
  one_made work part x answer step c =
      comes_of work part (behind x c.rest) answer
      (step c.rest (subst (λ (k : ℕ). Lowers forms uids (reverse work.parts) k work.next c.rest) (length_push work.sequence x) c.lowers))
      (c.is ∙ after_behind work.sequence x c.rest)

  -- others stand in its place
  others_put : (work : Work) (part : Part) (parts : List Part) (next : ℕ) (answer : Answer) →
      ((rest : Answer) → Lowers forms uids (parts ++ reverse work.parts) (length work.sequence) next rest → Lowers forms uids (part ∷ reverse work.parts) (length work.sequence) work.next rest) →
      Comes forms uids (put_more work parts next) answer → Comes forms uids (with_part work part) answer
  others_put work part parts next answer step c =
      comes_of work part c.rest answer
      (step c.rest (subst (λ (ps : List Part). Lowers forms uids ps (length work.sequence) next c.rest) (next_parts work.parts parts) c.lowers))
      c.is

  pub stays_so : (work more : Work) (made : Bool) (x : Rtx) → IsMatched forms x → more ≡ made_more work x → (answer : Answer) → Comes forms uids more answer →
      Comes forms uids (with_part work (Lower made x)) answer
  stays_so work more made x matched is answer c =
      one_made work (Lower made x) x answer (λ rest lowers. Lowers.stays made x (reverse work.parts) (length work.sequence) work.next rest matched lowers)
      (subst (λ (w : Work). Comes forms uids w answer) is c)

  pub planless_so : (work : Work) (made : Bool) (x : Rtx) (e : PassRefusal) → IsUnmatched forms x → planned forms made x work.next ≡ None →
      e ≡ unmatched_at uids made (reverse work.parts) (length work.sequence) x → RefusesWith e (Comes forms uids (with_part work (Lower made x)))
  planless_so work made x e none missing is =
      subst (λ (d : PassRefusal). RefusesWith d (Comes forms uids (with_part work (Lower made x)))) (sym is)
      (comes_of work (Lower made x) (Err (unmatched_at uids made (reverse work.parts) (length work.sequence) x)) (Err (unmatched_at uids made (reverse work.parts) (length work.sequence) x))
      (Lowers.planless made x (reverse work.parts) (length work.sequence) work.next none missing) refl)

  pub planned_so : (work more : Work) (made : Bool) (x : Rtx) (plan : Plan) → IsUnmatched forms x → planned forms made x work.next ≡ Some plan →
      more ≡ put_more work (parts_of made x plan) plan.next → (answer : Answer) → Comes forms uids more answer → Comes forms uids (with_part work (Lower made x)) answer
  planned_so work more made x plan none so is answer c =
      others_put work (Lower made x) (parts_of made x plan) plan.next answer
      (λ rest lowers. Lowers.made_by made x (reverse work.parts) (length work.sequence) work.next plan rest none so lowers)
      (subst (λ (w : Work). Comes forms uids w answer) is c)

  pub fails_so : (work : Work) (made : Bool) (x : Rtx) (form : ℕ) (operands : Ops) (e : PassRefusal) → emission_of forms form operands work.next ≡ None →
      e ≡ unmatched_at uids made (reverse work.parts) (length work.sequence) x → RefusesWith e (Comes forms uids (with_part work (Emit made x form operands)))
  fails_so work made x form operands e missing is =
      subst (λ (d : PassRefusal). RefusesWith d (Comes forms uids (with_part work (Emit made x form operands)))) (sym is)
      (comes_of work (Emit made x form operands) (Err (unmatched_at uids made (reverse work.parts) (length work.sequence) x)) (Err (unmatched_at uids made (reverse work.parts) (length work.sequence) x))
      (Lowers.fails made x form operands (reverse work.parts) (length work.sequence) work.next missing) refl)

  pub emits_so : (work more : Work) (made : Bool) (x : Rtx) (form : ℕ) (operands : Ops) (emission : Emission) → emission_of forms form operands work.next ≡ Some emission →
      more ≡ put_more work (map Emitted emission.sequence) emission.next → (answer : Answer) → Comes forms uids more answer →
      Comes forms uids (with_part work (Emit made x form operands)) answer
  emits_so work more made x form operands emission so is answer c =
      others_put work (Emit made x form operands) (map Emitted emission.sequence) emission.next answer
      (λ rest lowers. Lowers.emits made x form operands (reverse work.parts) (length work.sequence) work.next emission rest so lowers)
      (subst (λ (w : Work). Comes forms uids w answer) is c)

  pub counts_so : (work more : Work) (x : Rtx) → (is_note_tree x ≡ true) ⊎ IsMatched forms x → more ≡ made_more work x → (answer : Answer) → Comes forms uids more answer →
      Comes forms uids (with_part work (Emitted x)) answer
  counts_so work more x counts is answer c =
      one_made work (Emitted x) x answer (λ rest lowers. Lowers.counts x (reverse work.parts) (length work.sequence) work.next rest counts lowers)
      (subst (λ (w : Work). Comes forms uids w answer) is c)

  pub unmatched_so : (work : Work) (x : Rtx) (e : PassRefusal) → is_note_tree x ≡ false → IsUnmatched forms x →
      e ≡ unmatched_at uids true (reverse work.parts) (length work.sequence) x → RefusesWith e (Comes forms uids (with_part work (Emitted x)))
  unmatched_so work x e missing none is =
      subst (λ (d : PassRefusal). RefusesWith d (Comes forms uids (with_part work (Emitted x)))) (sym is)
      (comes_of work (Emitted x) (Err (unmatched_at uids true (reverse work.parts) (length work.sequence) x)) (Err (unmatched_at uids true (reverse work.parts) (length work.sequence) x))
      (Lowers.unmatched x (reverse work.parts) (length work.sequence) work.next missing none) refl)

  -- ---- all steps

  -- what work comes to, the work before it comes to
  pub record Reaches (start now : Work) : Type 0 where
    pub comes : (answer : Answer) → Comes forms uids now answer → Comes forms uids start answer

  pub reaches_start : (work : Work) → Reaches work work
  reaches_start work = record { comes = λ answer c. c }

  -- nothing is left
  pub done_so : (work : Work) → work.parts ≡ [] → Comes forms uids work (Ok work.sequence)
  done_so work none = record {
    rest = Ok [];
    lowers = subst (λ (parts : List Part). Lowers forms uids (reverse parts) (length work.sequence) work.next (Ok [])) (sym none) (Lowers.nothing (length work.sequence) work.next);
    is = ap (λ (s : List Rtx). Ok s) (sym (append-nil work.sequence));
  }

  after_nothing : (answer : Answer) → after [] answer ≡ answer
  after_nothing (Ok sequence) = refl
  after_nothing (Err e) = refl

  -- all that there is to be made
  pub whole : (parts : List Part) (next : ℕ) (work : Work) → work.parts ≡ reverse parts → work.sequence ≡ [] → work.next ≡ next → (answer : Answer) →
      Comes forms uids work answer → Lowers forms uids parts 0 next answer
  whole parts next work is none at answer c =
      subst (Lowers forms uids parts 0 next) (sym (c.is ∙ (ap (λ (s : List Rtx). after s c.rest) none ∙ after_nothing c.rest)))
      (subst (λ (ps : List Part). Lowers forms uids ps 0 next c.rest) (ap reverse is ∙ reverse-reverse parts)
      (subst (λ (k : ℕ). Lowers forms uids (reverse work.parts) k next c.rest) (ap length none)
      (subst (λ (n : ℕ). Lowers forms uids (reverse work.parts) (length work.sequence) n c.rest) at c.lowers)))

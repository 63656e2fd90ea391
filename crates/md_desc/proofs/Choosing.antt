-- The first form that counts at output, found by looking at one match after the other.
use Rattle.std.proofs.lemmas.Bool.{cases_lt}
use Rattle.std.proofs.Common.{◌≡◌, ◌↔◌, ◌⊎◌, ⊎_elim, inl, inr, ℕ, ◌+◌, ◌-◌, ◌<◌, ◌≤◌, List, length, Option, Some, None, refl, sym, subst, arith}
use Rattle.std.proofs.lemmas.Option.{slice_get_within}
use Rattle.rtx_tree.specs.declared.tree.Rtx.{Rtx}
use Rattle.c_eval.specs.declared.facts.Facts.{Facts}
use Rattle.md_match.specs.Pattern.{Ops}
use Rattle.md_forms.specs.declared.form.Entry.{Entry}
use Rattle.md_recog.specs.declared.recog.FormMatch.{FormMatch}
use Rattle.md_desc.specs.declared.output.Chosen.{Chosen}
use Rattle.md_desc.specs.Recog.{MatchesAt, IsFirst, MatchesOut, NoneOutBefore, NoneMatchesOut, IsChosen, IsLowest}
use Rattle.md_desc.specs.machine.Steps.{Counts, NoneBehind}

none_is_some : {A : Type 0} (x : A) → None ≡ Some x → ⊥
none_is_some x e = cc

module _ (es : List Entry) (f : Facts) (i : Rtx) where
  -- the first match from an index on
  abbrev pub First : ℕ → Option FormMatch → Type 0
  First from r = (m : FormMatch) → (r ≡ Some m) ↔ IsFirst es f i from m

  abbrev pub Counted : FormMatch → Option Chosen → Type 0
  Counted m r = (c : Chosen) → (r ≡ Some c) ↔ Counts es m c

  abbrev pub Out : Option Chosen → Type 0
  Out r = (c : Chosen) → (r ≡ Some c) ↔ IsChosen es f i c

  order : (n k : ℕ) → ((n < k) ⊎ (k < n)) ⊎ (n ≡ k)
  order n k = ⊎_elim (λ below. inl (inl below)) (λ reached. ⊎_elim (λ above. inl (inr above)) (λ other. inr (omega (arith, reached, other))) (cases_lt k n)) (cases_lt n k)

  -- a form matches with one list of operands
  one_list : (from : ℕ) (m : FormMatch) (o : Ops) → First from (Some m) → MatchesAt es f i m.form o → o ≡ m.operands
  one_list from m o first matches =
      let found = (first m).0 refl in
      let other : IsFirst es f i from (record { form = m.form; operands = o }) = record { behind = found.behind; matches = matches; first = found.first } in
      let same : Some m ≡ Some (record { form = m.form; operands = o }) = (first (record { form = m.form; operands = o })).1 other in
      let operands : m.operands ≡ o = cc in sym operands

  -- behind a match there are fewer forms
  pub falls : (from : ℕ) (m : FormMatch) → First from (Some m) → length es - (m.form + 1) < length es - from
  falls from m first =
      let found = (first m).0 refl in
      let within : m.form < length es = slice_get_within es m.form found.matches.entry found.matches.at in
      omega (arith, within, found.behind)

  -- nothing counts before the first match
  before : (from : ℕ) (m : FormMatch) → NoneOutBefore es f i from → IsFirst es f i from m → NoneOutBefore es f i m.form
  before from m none first form below o a out = ⊎_elim
      (λ early. none form early o a out)
      (λ late. first.first form late below o out.matches)
      (split form from)
    where
      split : (n k : ℕ) → (n < k) ⊎ (k ≤ n)
      split n k = cases_lt n k

  counted_at : (from : ℕ) (m : FormMatch) (o : Ops) (a : ℕ) → First from (Some m) → MatchesOut es f i m.form o a → Counts es m (record { form = m.form; operands = o; alternative = a })
  counted_at from m o a first out =
      let same : o ≡ m.operands = one_list from m o first out.matches in
      record { form_is = refl; operands_are = same; printed = out.printed; lowest = subst (λ x. IsLowest es m.form x a) same out.lowest }

  pub passes : (from : ℕ) (m : FormMatch) → NoneOutBefore es f i from → First from (Some m) → Counted m None → NoneOutBefore es f i (m.form + 1)
  passes from m none first uncounted form below o a out = ⊎_elim
      (λ early. before from m none ((first m).0 refl) form early o a out)
      (λ same. uncounted_here (subst (λ n. MatchesOut es f i n o a) same out))
      (split form m.form below)
    where
      split : (n k : ℕ) → n < k + 1 → (n < k) ⊎ (n ≡ k)
      split n k h = ⊎_elim (λ below. inl below) (λ above. inr (omega (arith, h, above))) (cases_lt n k)

      uncounted_here : MatchesOut es f i m.form o a → ⊥
      uncounted_here here = none_is_some (record { form = m.form; operands = o; alternative = a }) ((uncounted (record { form = m.form; operands = o; alternative = a })).1 (counted_at from m o a first here))

  out_of : (from : ℕ) (m : FormMatch) (c : Chosen) → First from (Some m) → Counts es m c → MatchesOut es f i m.form m.operands c.alternative
  out_of from m c first counts = record { matches = ((first m).0 refl).matches; printed = counts.printed; lowest = counts.lowest }

  pub chosen : (from : ℕ) (m : FormMatch) (c : Chosen) → NoneOutBefore es f i from → First from (Some m) → Counted m (Some c) → Out (Some c)
  chosen from m c none first counted d = (
    λ same. subst (IsChosen es f i) (let one : c ≡ d = cc in one) found,
    λ is. by_order is (order d.form m.form),
  )
    where
      counts : Counts es m c
      counts = (counted c).0 refl

      first_before : NoneOutBefore es f i m.form
      first_before = before from m none ((first m).0 refl)

      found : IsChosen es f i c
      found = record {
        matches = subst (λ n. MatchesOut es f i n c.operands c.alternative) (sym counts.form_is) (subst (λ x. MatchesOut es f i m.form x c.alternative) (sym counts.operands_are) (out_of from m c first counts));
        first = subst (NoneOutBefore es f i) (sym counts.form_is) first_before;
      }

      same_here : IsChosen es f i d → d.form ≡ m.form → Some c ≡ Some d
      same_here is e =
          let out : MatchesOut es f i m.form d.operands d.alternative = subst (λ n. MatchesOut es f i n d.operands d.alternative) e is.matches in
          let there = counted_at from m d.operands d.alternative first out in
          (counted d).1 (record { form_is = e; operands_are = there.operands_are; printed = there.printed; lowest = there.lowest })

      by_order : IsChosen es f i d → ((d.form < m.form) ⊎ (m.form < d.form)) ⊎ (d.form ≡ m.form) → Some c ≡ Some d
      by_order is (inl (inl below)) = absurd (first_before d.form below d.operands d.alternative is.matches)
      by_order is (inl (inr above)) = absurd (is.first m.form above m.operands c.alternative (out_of from m c first counts))
      by_order is (inr same) = same_here is same

  pub nowhere : (from : ℕ) → NoneOutBefore es f i from → NoneBehind es f i from → NoneMatchesOut es f i
  nowhere from none behind form o a out = ⊎_elim
      (λ early. none form early o a out)
      (λ late. behind form late (slice_get_within es form out.matches.entry out.matches.at) o out.matches)
      (split form from)
    where
      split : (n k : ℕ) → (n < k) ⊎ (k ≤ n)
      split n k = cases_lt n k

  pub ends : (from : ℕ) → NoneOutBefore es f i from → NoneBehind es f i from → Out None
  ends from none behind c = (
    λ same. absurd (let never : ⊥ = cc in never),
    λ is. absurd (nowhere from none behind c.form c.operands c.alternative is.matches),
  )

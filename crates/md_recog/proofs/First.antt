-- The first match from an index on, found by looking at one form after the other.
use Rattle.std.proofs.lemmas.Bool.{cases_lt}
use Rattle.std.proofs.Common.{◌≡◌, ◌↔◌, ◌⊎◌, ⊎_elim, inl, inr, ℕ, ◌+◌, ◌≤◌, ◌<◌, List, length, Option, Some, None, refl, sym, ap, subst, ◌∙◌, arith}
use Rattle.std.specs.Prelude.{slice_get}
use Rattle.std.proofs.lemmas.Option.{slice_get_within}
use Rattle.rtx_tree.specs.declared.tree.Rtx.{Rtx}
use Rattle.c_eval.specs.declared.facts.Facts.{Facts}
use Rattle.md_match.specs.Pattern.{Ops}
use Rattle.md_recog.specs.declared.half.Half.{Half}
use Rattle.md_recog.specs.Match.{Accepts}
use Rattle.md_forms.specs.declared.form.Entry.{Entry}
use Rattle.md_recog.specs.Recog.{EntryMatches, MatchesAt, MatchesHere, NoneBetween, IsFirst}
use Rattle.md_recog.specs.declared.recog.FormMatch.{FormMatch}

module _ (a : Accepts) (f : Facts) (h : Half) (i : List Rtx) (es : List Entry) where
  -- ---- one form

  at_entry : (k : ℕ) (e : Entry) (o : Ops) → slice_get es k ≡ Some e → MatchesAt a f h i es k o → EntryMatches a f h i e o
  at_entry k e o read m = subst (λ x. EntryMatches a f h i x o) (let same : m.entry ≡ e = (let both : Some m.entry ≡ Some e = sym m.at ∙ read in cc) in same) m.matches

  rebuilt : (k : ℕ) (x : Ops) (m : FormMatch) → k ≡ m.form → x ≡ m.operands → ◌≡◌ {A = FormMatch} (record { form = k; operands = x }) m
  rebuilt k x m e g = ap (λ (n : ℕ). record { form = n; operands = x }) e ∙ ap (λ (o : Ops). record { form = m.form; operands = o }) g

  pub here_some : (k : ℕ) (e : Entry) (x : Ops) → slice_get es k ≡ Some e → ((o : Ops) → (Some x ≡ Some o) ↔ EntryMatches a f h i e o) →
      (m : FormMatch) → (Some (record { form = k; operands = x }) ≡ Some m) ↔ MatchesHere a f h i es k m
  here_some k e x read which m = (
    λ same. subst (MatchesHere a f h i es k) (let one : (record { form = k; operands = x }) ≡ m = cc in one) (record { is = refl; matches = record { entry = e; at = read; matches = (which x).0 refl } }),
    λ here. let same : Some x ≡ Some m.operands = (which m.operands).1 (at_entry k e m.operands read here.matches) in ap (λ (n : FormMatch). Some n) (rebuilt k x m (sym here.is) (let both : x ≡ m.operands = cc in both)),
  )

  pub here_none : (k : ℕ) (e : Entry) → slice_get es k ≡ Some e → ((o : Ops) → (None ≡ Some o) ↔ EntryMatches a f h i e o) → (m : FormMatch) → (None ≡ Some m) ↔ MatchesHere a f h i es k m
  here_none k e read which m = (
    λ same. absurd (let none : ⊥ = cc in none),
    λ here. absurd (let same : None ≡ Some m.operands = (which m.operands).1 (at_entry k e m.operands read here.matches) in let none : ⊥ = cc in none),
  )

  -- ---- all of them

  abbrev pub HasHere : ℕ → Option FormMatch → Type 0
  HasHere k r = (m : FormMatch) → (r ≡ Some m) ↔ MatchesHere a f h i es k m

  pub goes_on : (from k : ℕ) → NoneBetween a f h i es from k → ((m : FormMatch) → (None ≡ Some m) ↔ MatchesHere a f h i es k m) → NoneBetween a f h i es from (k + 1)
  goes_on from k none here form behind before o m = ⊎_elim
      (λ (below : form < k). none form behind below o m)
      (λ (same : form ≡ k). let wrong : None ≡ Some (record { form = k; operands = o }) = (here (record { form = k; operands = o })).1 (record { is = refl; matches = subst (λ n. MatchesAt a f h i es n o) same m }) in let never : ⊥ = cc in never)
      (last form k before)
    where
      last : (n k : ℕ) → n < k + 1 → (n < k) ⊎ (n ≡ k)
      last n k less = ⊎_elim (λ below. inl below) (λ above. inr (omega (arith, less, above))) (cases_lt n k)

  pub none_first : (from : ℕ) → NoneBetween a f h i es from (length es) → (m : FormMatch) → (None ≡ Some m) ↔ IsFirst a f h i es from m
  none_first from none m = (
    λ same. absurd (let never : ⊥ = cc in never),
    λ first. absurd (none m.form first.behind (slice_get_within es m.form first.matches.entry first.matches.at) m.operands first.matches),
  )

  pub is_first : (from k : ℕ) (x : FormMatch) → NoneBetween a f h i es from k → from ≤ k → ((m : FormMatch) → (Some x ≡ Some m) ↔ MatchesHere a f h i es k m) → (m : FormMatch) → (Some x ≡ Some m) ↔ IsFirst a f h i es from m
  is_first from k x none behind here m = (
    λ same. subst (IsFirst a f h i es from) (let one : x ≡ m = cc in one) found,
    λ first. by_order first (order m.form k),
  )
    where
      there : MatchesHere a f h i es k x
      there = (here x).0 refl

      found : IsFirst a f h i es from x
      found = record {
        behind = subst (λ n. from ≤ n) (sym there.is) behind;
        matches = subst (λ n. MatchesAt a f h i es n x.operands) (sym there.is) there.matches;
        first = subst (λ n. NoneBetween a f h i es from n) (sym there.is) none;
      }

      order : (n k : ℕ) → ((n < k) ⊎ (k < n)) ⊎ (n ≡ k)
      order n k = ⊎_elim (λ below. inl (inl below)) (λ reached. ⊎_elim (λ above. inl (inr above)) (λ other. inr (omega (arith, reached, other))) (cases_lt k n)) (cases_lt n k)

      by_order : IsFirst a f h i es from m → ((m.form < k) ⊎ (k < m.form)) ⊎ (m.form ≡ k) → Some x ≡ Some m
      by_order first (inl (inl below)) = absurd (none m.form first.behind below m.operands first.matches)
      by_order first (inl (inr above)) = absurd (first.first k behind above x.operands there.matches)
      by_order first (inr same) = (here m).1 (record { is = same; matches = subst (λ n. MatchesAt a f h i es n m.operands) same first.matches })

-- An instruction is matched by one form with one list of operands, and that form has one pattern.
use Rattle.std.proofs.Common.{◌≡◌, ◌⊎◌, ⊎_elim, inl, inr, ℕ, ◌<◌, Bool, true, false, List, [], ◌∷◌, length, Some, Ok}
use Rattle.std.proofs.Common.{refl, sym, ap, subst, ◌∙◌, arith}
use Rattle.std.specs.Prelude.{◌↔◌, Option, None, Result, Err, slice_get, IfOk, MatchBool, MatchOption}
use Rattle.std.specs.Option.{option_map_or}
use Rattle.std.proofs.lemmas.Bool.{cases_lt}
use Rattle.rtx_tree.specs.declared.tree.Rtx.{Rtx}
use Rattle.c_eval.specs.declared.facts.Facts.{Facts}
use Rattle.md_match.specs.Pattern.{Ops}
use Rattle.md_match.specs.Match.{Matches}
use Rattle.md_match.proofs.Parts.{as_many}
use Rattle.md_forms.specs.declared.form.Entry.{Entry}
use Rattle.md_desc.specs.md_recog.declared.half.Half.TheVariants as half
use Rattle.md_desc.specs.md_recog.declared.recog.FormMatch.{FormMatch}
use Rattle.md_desc.specs.md_pred.Holds.{holds}
use Rattle.md_desc.specs.Recog.{IsFirst, MatchesAt, NoneMatches}
use Rattle.form_needs.specs.Needs.{lower_facts}
use Rattle.form_needs.proofs.OneChosen.{at_one}
use Rattle.assign.specs.declared.places.Layout.{Layout}
use Rattle.rtx_tree.specs.declared.function.Insn.{Insn}
use Rattle.reload.specs.Reload.{placed, patterns_in, patterns_by, patterns_at, IsMatch, IsMatched}

-- ---- two numbers are in order, or one

pub order : (a b : ℕ) → ((a < b) ⊎ (b < a)) ⊎ (a ≡ b)
order a b =
    ⊎_elim (λ below. inl (inl below)) (λ reached. ⊎_elim (λ above. inl (inr above)) (λ other. inr (omega (arith, reached, other)))
    (cases_lt b a)) (cases_lt a b)

-- ---- one pattern

one_long : (ps : List Rtx) → length ps ≡ 1 → (p : Rtx) × (ps ≡ p ∷ [])
one_long [] long = absurd (let never : ⊥ = cc in never)
one_long (p ∷ []) long = (p, refl)
one_long (p ∷ q ∷ ps) long = absurd (let never : ⊥ = omega (arith, long) in never)

shape_one : (ps : List Rtx) (x : Rtx) (o : Ops) → Matches ps (x ∷ []) o → (p : Rtx) × (ps ≡ p ∷ [])
shape_one ps x o m = one_long ps (as_many ps (x ∷ []) o (record { made = m.made; fit = m.suits.asked }))

-- a form that matches an instruction has one pattern
pub pattern_one : (forms : List Entry) (facts : Facts) (x : Rtx) (form : ℕ) (o : Ops) → MatchesAt forms facts x form o →
    (p : Rtx) × (patterns_at forms form ≡ p ∷ [])
pattern_one forms facts x form o m =
    let one = shape_one m.matches.says.patterns x o m.matches.matches.matches.shape in
    let here : patterns_at forms form ≡ patterns_in m.entry = ap (λ e. option_map_or patterns_in e []) m.at in
    (one.0, here ∙ ap patterns_by m.matches.accepted ∙ one.1)

-- ---- what is answered

-- the first form that matches, or that none does
abbrev pub Recognizes : List Entry → Facts → Rtx → Option FormMatch → Type 0
Recognizes forms facts x o = MatchOption o (NoneMatches forms facts x) (λ m. IsFirst forms facts x 0 m)

some_or_none : (forms : List Entry) (facts : Facts) (x : Rtx) (o : Option FormMatch) →
    ((m : FormMatch) → (o ≡ Some m) ↔ IsFirst forms facts x 0 m) → (o ≡ None → NoneMatches forms facts x) → Recognizes forms facts x o
some_or_none forms facts x (Some m) first none = (first m).0 refl
some_or_none forms facts x None first none = none refl

pub recognizes : {E : Type 0} (forms : List Entry) (facts other : Facts) (x : Rtx) (r : Result (Option FormMatch) E) → facts ≡ other →
    IfOk r (λ o. (m : FormMatch) → (o ≡ Some m) ↔ IsFirst forms facts x 0 m) →
    IfOk r (λ o. o ≡ None → NoneMatches forms facts x) → IfOk r (Recognizes forms other x)
recognizes forms facts other x (Ok o) same first none =
    subst (λ (f : Facts). Recognizes forms f x o) same (some_or_none forms facts x o first none)
recognizes forms facts other x (Err e) same first none = tt

pub found_matched : (forms : List Entry) (x : Rtx) (o : Option FormMatch) (m : FormMatch) → o ≡ Some m →
    Recognizes forms lower_facts x o → IsMatched forms x
found_matched forms x (Some n) m same is = record { form = n.form; operands = n.operands; matches = is.matches }
found_matched forms x None m same is = absurd (let never : ⊥ = cc in never)

pub found_none : (forms : List Entry) (x : Rtx) (o : Option FormMatch) → o ≡ None → Recognizes forms lower_facts x o →
    NoneMatches forms lower_facts x
found_none forms x (Some n) same is = absurd (let never : ⊥ = cc in never)
found_none forms x None same is = is

-- ---- one match

module _ (forms : List Entry) (facts : Facts) (x : Rtx) where
  form_one : (m n : FormMatch) → IsFirst forms facts x 0 m → IsFirst forms facts x 0 n → m.form ≡ n.form
  form_one m n a b = ⊎_elim
      (λ order. ⊎_elim
      (λ below. absurd (b.first m.form a.behind below m.operands a.matches))
      (λ above. absurd (a.first n.form b.behind above n.operands b.matches))
      order)
      (λ same. same)
      (order m.form n.form)

  operands_one : (m n : FormMatch) → IsFirst forms facts x 0 m → IsFirst forms facts x 0 n → m.operands ≡ n.operands
  operands_one m n a b =
      at_one (holds forms) facts half.Insn (x ∷ []) forms n.form m.operands n.operands
      (subst (λ (k : ℕ). MatchesAt forms facts x k m.operands) (form_one m n a b) a.matches) b.matches

  -- where one is first, some form matches
  pub first_not : {P : Type 0} (m : FormMatch) → IsFirst forms facts x 0 m → NoneMatches forms facts x → P
  first_not m a none = absurd (none m.form m.operands a.matches)

module _ (forms : List Entry) (layout : Layout) (i : Insn) (form other : ℕ) (p q : Rtx) (o r : Ops)
    (a : IsMatch forms layout i form p o) (b : IsMatch forms layout i other q r) where
  pub same_form : form ≡ other
  same_form = form_one forms lower_facts (placed layout i) (record { form = form; operands = o })
      (record { form = other; operands = r }) a.first b.first

  pub same_operands : o ≡ r
  same_operands = operands_one forms lower_facts (placed layout i) (record { form = form; operands = o })
      (record { form = other; operands = r }) a.first b.first

  pub same_pattern : p ≡ q
  same_pattern =
      let lists : p ∷ [] ≡ q ∷ [] = sym a.pattern_is ∙ (ap (patterns_at forms) same_form ∙ b.pattern_is) in
      let same : p ≡ q = cc in
      same

-- A label stands in both chains, at places from which on each has in its place what does the same.
use Rattle.std.proofs.Common.{◌≡◌, ℕ, suc, ◌+◌, ◌≤◌, ◌==◌, ◌&&◌, cond, Bool, true, false, drop, length, List, [], ◌∷◌, ◌++◌, Some, refl, sym, ap, subst, ◌∙◌, arith}
use Rattle.std.specs.List.{position_from}
use Rattle.std.specs.Prelude.{slice_get}
use Rattle.rtx_tree.specs.Patterns.{place_of, is_label, is_label_kind}
use Rattle.rtx_tree.specs.declared.function.Function.{Function}
use Rattle.rtx_tree.specs.declared.function.Insn.{Insn}
use Rattle.rtx_tree.specs.declared.function.Kind.{Kind}
use Rattle.rtx_tree.specs.declared.function.Kind.TheVariants as kind
use Rattle.rtl_step.specs.Step.{is_mark}
use Rattle.same_behaviour.proofs.Places.{get_dropped, drop_next}
use Rattle.law_reload_moves.proofs.law_window_replaced.Stands.{stands_at}
use Rattle.law_homes.proofs.Setting.{Setting}
use Rattle.law_reload.proofs.Windows.{Unmarked, Does, InPlace, At}
use Rattle.law_reload.proofs.Windows as windows

-- ---- behind a window

-- so many places behind it
abbrev past : List Insn → ℕ → ℕ
past [] n = n
past (i ∷ insns) n = suc (past insns n)

past_is : (insns : List Insn) (n : ℕ) → past insns n ≡ length insns + n
past_is [] n = omega arith
past_is (i ∷ insns) n = let later = past_is insns n in omega (arith, later)

drop_past : (insns rest : List Insn) (n : ℕ) → drop (past insns n) (insns ++ rest) ≡ drop n rest
drop_past [] rest n = refl
drop_past (i ∷ insns) rest n = drop_past insns rest n

within_past : (insns rest : List Insn) (n : ℕ) → n ≤ length rest →
    past insns n ≤ length (insns ++ rest)
within_past [] rest n within = within
within_past (i ∷ insns) rest n within = let later = within_past insns rest n within in
    omega (arith, later)

unmarked_label : (k : Kind) → is_mark k ≡ false → is_label_kind k ≡ false
unmarked_label kind.Label none = absurd (let no : ⊥ = cc in no)
unmarked_label _ none = refl

no_label : (label : ℕ) (i : Insn) → is_mark i.kind ≡ false → is_label label i ≡ false
no_label label i none = ap (λ b. b && (i.uid == label)) (unmarked_label i.kind none)

same_label : (label : ℕ) (i j : Insn) → j.kind ≡ i.kind → j.uid ≡ i.uid →
    is_label label j ≡ is_label label i
same_label label i j kind_is uid_is = ap (λ k. is_label_kind k && (j.uid == label)) kind_is ∙
    ap (λ n. is_label_kind i.kind && (n == label)) uid_is

passed_over : (label first : ℕ) (insns rest : List Insn) → Unmarked insns →
    position_from (is_label label) first (insns ++ rest) ≡ position_from (is_label label)
    (first + length insns) rest
passed_over label first [] rest none =
    ap (λ n. position_from (is_label label) n rest) (let same : first ≡ first + 0 = omega arith in
    same)
passed_over label first (i ∷ insns) rest none =
    ap (λ b. cond b (Some first) (position_from (is_label label) (first + 1) (insns ++ rest)))
    (no_label label i none.0)
    ∙ passed_over label (first + 1) insns rest none.1
    ∙ ap (λ n. position_from (is_label label) n rest) (let same : first + 1 + length insns ≡ first +
    suc (length insns) = omega arith in same)

pub unmarked_both : (xs ys : List Insn) → Unmarked xs → Unmarked ys → Unmarked (xs ++ ys)
unmarked_both [] ys none more = more
unmarked_both (x ∷ xs) ys none more = (none.0, unmarked_both xs ys none.1 more)

-- ---- a label

module _ (c : Setting) (g : Function) (label : ℕ) where
  pub record Twin (first other : ℕ) (xs ys : List Insn) (q : ℕ) : Type 0 where
    pub by : ℕ
    pub by_other : ℕ
    pub place_is : q ≡ first + by
    pub within : by ≤ length xs
    pub other_is : position_from (is_label label) other ys ≡ Some (other + by_other)
    pub within_other : by_other ≤ length ys
    pub both : InPlace c g q (drop by xs) (drop by_other ys)

  here : (first other : ℕ) (i j : Insn) (insns rest : List Insn) (q : ℕ) →
      InPlace c g first (i ∷ insns) (j ∷ rest) →
      is_label label j ≡ true → first ≡ q → Twin first other (i ∷ insns) (j ∷ rest) q
  here first other i j insns rest q are is at = record {
    by = 0;
    by_other = 0;
    place_is = omega (arith, at);
    within = omega arith;
    other_is = ap (λ b. cond b (Some other) (position_from (is_label label) (other + 1) rest)) is ∙
        ap Some (let same : other ≡ other + 0 = omega arith in same);
    within_other = omega arith;
    both = subst (λ p. InPlace c g p (i ∷ insns) (j ∷ rest)) at are;
  }

  behind : (first other : ℕ) (i : Insn) (insns window rest : List Insn) (q : ℕ) →
      position_from (is_label label) other (window ++ rest) ≡ position_from (is_label label)
      (other + length window) rest →
      Twin (first + 1) (other + length window) insns rest q →
      Twin first other (i ∷ insns) (window ++ rest) q
  behind first other i insns window rest q over t = record {
    by = suc t.by;
    by_other = past window t.by_other;
    place_is = let at = t.place_is in omega (arith, at);
    within = let inside = t.within in omega (arith, inside);
    other_is = over ∙ t.other_is ∙ ap Some (let sum = past_is window t.by_other in
        let same : other + length window + t.by_other ≡ other + past window t.by_other =
        omega (arith, sum) in same);
    within_other = within_past window rest t.by_other t.within_other;
    both = subst (λ ys. InPlace c g q (drop t.by insns) ys) (sym (drop_past window rest t.by_other))
        t.both;
  }

  abbrev Later : ℕ → List Insn → List Insn → ℕ → Type 0
  Later first insns rest q = (other : ℕ) → position_from (is_label label) (first + 1) insns ≡ Some q
      → Twin (first + 1) other insns rest q

  by_test : (b : Bool) (first other : ℕ) (i j : Insn) (insns rest : List Insn) (q : ℕ) →
      InPlace c g first (i ∷ insns) (j ∷ rest) →
      is_label label i ≡ b → is_label label j ≡ b → cond b (Some first)
      (position_from (is_label label) (first + 1) insns) ≡ Some q →
      Later first insns rest q → Twin first other (i ∷ insns) (j ∷ rest) q
  by_test true first other i j insns rest q are is is' at later =
      here first other i j insns rest q are is' (let same : first ≡ q = cc in same)
  by_test false first other i j insns rest q are is is' at later =
      behind first other i insns (j ∷ []) rest q (ap (λ b.
      cond b (Some other) (position_from (is_label label) (other + 1) rest)) is')
      (later (other + 1) at)

  over : (first other : ℕ) (i : Insn) (insns window rest : List Insn) (q : ℕ) →
      is_mark i.kind ≡ false → Unmarked window →
      cond (is_label label i) (Some first) (position_from (is_label label) (first + 1) insns) ≡ Some
      q →
      Later first insns rest q → Twin first other (i ∷ insns) (window ++ rest) q
  over first other i insns window rest q none unmarked at later =
      behind first other i insns window rest q (passed_over label other window rest unmarked)
      (later (other + length window)
      (sym (ap (λ b. cond b (Some first) (position_from (is_label label) (first + 1) insns))
      (no_label label i none)) ∙ at))

  by_window : (first other : ℕ) (i : Insn) (insns window rest : List Insn) (q : ℕ)
      (at : slice_get c.f.insns first ≡ Some i) →
      InPlace c g first (i ∷ insns) (window ++ rest) → Does c g first i at window →
      cond (is_label label i) (Some first) (position_from (is_label label) (first + 1) insns) ≡ Some
      q →
      Later first insns rest q → Twin first other (i ∷ insns) (window ++ rest) q
  by_window first other i insns _ rest q at are (windows.mark j marks kind_is uid_is) is later =
      by_test (is_label label i) first other i j insns rest q are refl
      (same_label label i j kind_is uid_is) is later
  by_window first other i insns _ rest q at are (windows.plain window plain unmarked does) is later
      =
      over first other i insns window rest q (ap is_mark plain) unmarked is later
  by_window first other i insns _ rest q at are (windows.jump before j jumps jumps' unmarked does)
      is later =
      over first other i insns (before ++ j ∷ []) rest q (ap is_mark jumps)
      (unmarked_both before (j ∷ []) unmarked (ap is_mark jumps', tt)) is later
  by_window first other i insns _ rest q at are (windows.call before j calls calls' unmarked does)
      is later =
      over first other i insns (before ++ j ∷ []) rest q (ap is_mark calls)
      (unmarked_both before (j ∷ []) unmarked (ap is_mark calls', tt)) is later
  by_window first other i insns _ rest q at are (windows.never window none unmarked no_value) is
      later =
      over first other i insns window rest q none unmarked is later

  twin : (first other : ℕ) (xs ys : List Insn) (q : ℕ) → InPlace c g first xs ys →
      drop first c.f.insns ≡ xs →
      position_from (is_label label) first xs ≡ Some q → Twin first other xs ys q
  twin _ other _ _ q (windows.none first) there is = absurd (let no : ⊥ = cc in no)
  twin _ other _ _ q (windows.one_more first i insns window rest does more) there is =
      let at = get_dropped c.f.insns first i insns there in
      by_window first other i insns window rest q at (windows.one_more first i insns window rest
      does more) (does at) is
      (λ other is. twin (first + 1) other insns rest q more
      (drop_next c.f.insns first i insns there) is)

  -- the label of a function has a place in the other
  pub label_at : InPlace c g 0 c.f.insns g.insns → (p : ℕ) → place_of label c.f.insns ≡ Some p →
      (q : ℕ) × (place_of label g.insns ≡ Some q) × At c g p q
  label_at whole p is =
      let t = twin 0 0 c.f.insns g.insns p whole refl is in
      let by_is : p ≡ t.by = (let at = t.place_is in omega (arith, at)) in (
        t.by_other,
        t.other_is ∙ ap Some (let same : 0 + t.by_other ≡ t.by_other = omega arith in same),
        record {
          xs = drop p c.f.insns;
          ys = drop t.by_other g.insns;
          place = t.by_other;
          are = subst (λ n. InPlace c g p (drop n c.f.insns) (drop t.by_other g.insns)) (sym by_is)
              t.both;
          stands = stands_at c.f.insns p (drop p c.f.insns) refl
              (subst (λ n. n ≤ length c.f.insns) (sym by_is) t.within);
          other = stands_at g.insns t.by_other (drop t.by_other g.insns) refl t.within_other;
        },
      )
